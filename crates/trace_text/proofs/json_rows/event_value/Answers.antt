use Rattle.std.proofs.Common.{List, ℕ, ◌++◌, ap, sym, ◌∙◌, subst}
use Rattle.std.specs.Str.{IsUtf8}
use Rattle.yard_model.specs.Text.{event_text}
use Rattle.trace_text.proofs.AsciiLaws.{event_utf8}
use Rattle.trace_text.proofs.json_rows.event_value.Goals as goal

pub text_value-requires : goal.text_value-requires
text_value-requires c =
    subst IsUtf8 (sym (c.in_ok-push_event.ensures ∙ ap (λ (l : List ℕ). l ++ event_text c.args.event.now) c.new-text.ensures.items)) (event_utf8 c.args.event.now)
