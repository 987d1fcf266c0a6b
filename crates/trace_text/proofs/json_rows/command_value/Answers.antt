use Rattle.std.proofs.Common.{List, ℕ, ◌++◌, ap, sym, ◌∙◌, subst}
use Rattle.std.specs.Str.{IsUtf8}
use Rattle.yard_model.specs.Text.{command_text}
use Rattle.trace_text.proofs.AsciiLaws.{command_utf8}
use Rattle.trace_text.proofs.json_rows.command_value.Goals as goal

pub text_value-requires : goal.text_value-requires
text_value-requires c =
    subst IsUtf8 (sym (c.in_ok-push_command.ensures ∙ ap (λ (l : List ℕ). l ++ command_text c.args.command.now) c.new-text.ensures.items)) (command_utf8 c.args.command.now)
