use Rattle.std.proofs.Common.{◌∙◌, ap, sym}
use Rattle.std.specs.Prelude.{slice_index}
use Rattle.script_text.specs.Words.{words, is_gap}
use Rattle.script_text.proofs.Cuts.{words_none, words_skip, words_begin, rest_is}
use Rattle.script_text.proofs.cut.any_word.Goals as goal

pub returns-in-None-clause-words : goal.returns-in-None-clause-words
returns-in-None-clause-words c = words_none c.args.line.now (sym c.in-None.ensures.place)

pub returns-in-Some-clause-words : goal.returns-in-Some-clause-words
returns-in-Some-clause-words c = words_skip c.args.line.now c.in-Some.start (sym c.in-Some.ensures.place) ∙ ap words (sym (rest_is c.args.line.now c.in-Some.start))

pub returns-in-Some-clause-first : goal.returns-in-Some-clause-first
returns-in-Some-clause-first c = ap (λ xs. is_gap (slice_index xs 0)) (rest_is c.args.line.now c.in-Some.start) ∙ words_begin c.args.line.now c.in-Some.start (sym c.in-Some.ensures.place)
