use Rattle.std.proofs.Common.{◌≡◌, [], ◌∷◌, OnOk, subst}
use Rattle.std.specs.Prelude.{codes}
use Rattle.serde_json.specs.Data.{Members, string}
use Rattle.serde_json.specs.View.{members_view, view}
use Rattle.yard_model.specs.Text.{command_text}
use Rattle.trace_text.specs.Json.{list_json, number_json}
use Rattle.trace_text.proofs.JsonValues.{put_three}
use Rattle.trace_text.proofs.json_rows.put_told.Goals as goal

pub returns : goal.returns
returns c =
    let w = c.args.written.now in
    subst (λ (ms : Members). OnOk c.put-3.result (members_view c.put-3.new.map.entries ≡ ms))
    (put_three (codes "by") (codes "command") (codes "epoch") (view c.in_ok-by.by) (view c.in_ok-command.command) (view c.from.result)
    (list_json (number_json w.producer ∷ number_json w.place ∷ [])) (string (command_text w.command)) (number_json w.epoch)
    (members_view c.args.map.now.entries) (members_view c.put.new.map.entries) (members_view c.put-2.new.map.entries)
    c.in_ok-put.ensures.ok c.in_ok-put-2.ensures.ok c.in_ok-by.ensures c.in_ok-command.ensures c.from.ensures) c.put-3.ensures.ok
