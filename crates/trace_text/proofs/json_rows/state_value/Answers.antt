use Rattle.std.proofs.Common.{List, ℕ, ◌++◌, ap, sym, ◌∙◌, subst}
use Rattle.std.specs.Str.{IsUtf8}
use Rattle.yard_model.specs.Text.{state_text}
use Rattle.trace_text.proofs.AsciiLaws.{state_utf8}
use Rattle.trace_text.proofs.json_rows.state_value.Goals as goal

pub text_value-requires : goal.text_value-requires
text_value-requires c =
    subst IsUtf8 (sym (c.in_ok-push_state.ensures ∙ ap (λ (l : List ℕ). l ++ state_text c.args.state.now) c.new-text.ensures.items)) (state_utf8 c.args.state.now)
