use Rattle.std.proofs.Common.{sym, ◌∙◌}
use Rattle.script_text.proofs.Cuts.{blank_first}
use Rattle.script_text.proofs.words.is_blank.Goals as goal

pub returns : goal.returns
returns c = c.begins_comment.ensures ∙ sym (blank_first c.args.text.now c.requires.first c.requires.some)
