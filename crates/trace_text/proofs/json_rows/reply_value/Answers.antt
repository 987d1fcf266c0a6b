use Rattle.std.proofs.Common.{List, ℕ, ◌++◌, ap, sym, ◌∙◌, subst}
use Rattle.std.specs.Str.{IsUtf8}
use Rattle.yard_model.specs.Text.{reply_text}
use Rattle.trace_text.proofs.AsciiLaws.{reply_utf8}
use Rattle.trace_text.proofs.json_rows.reply_value.Goals as goal

pub text_value-requires : goal.text_value-requires
text_value-requires c =
    subst IsUtf8 (sym (c.in_ok-push_reply.ensures ∙ ap (λ (l : List ℕ). l ++ reply_text c.args.reply.now) c.new-text.ensures.items)) (reply_utf8 c.args.reply.now)
