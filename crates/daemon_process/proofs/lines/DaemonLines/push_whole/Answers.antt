use Rattle.std.proofs.Common.{◌≡◌, ◌++◌, ◌∙◌, ap, subst}
use Rattle.daemon_process.specs.Lines.{Drawn, rows_text, whole_text}
use Rattle.daemon_process.proofs.DrawnLaws.{whole_parts}
use Rattle.daemon_process.proofs.lines.DaemonLines.push_whole.Goals as goal

pub returns-clause-text : goal.returns-clause-text
returns-clause-text c =
    subst (λ (v : Drawn). c.extend_from_slice.new.self.items ≡ c.args.text.now.items ++ whole_text c.args.count v) c.self.view_is
    (whole_parts c.args.count (record { watch = c.self.inside.watch; rows = c.self.inside.rows.items }) c.args.text.now.items c.push_rows.new.text.items c.push_last.new.text.items c.push_places.new.text.items c.extend_from_slice.new.self.items
    (c.in_ok-push_rows.ensures ∙ ap (λ rows. c.args.text.now.items ++ rows_text c.args.count rows) c.as_slice.ensures.value) c.in_ok-push_last.ensures c.in_ok-push_places.ensures c.in_ok-extend_from_slice.ensures.items)
