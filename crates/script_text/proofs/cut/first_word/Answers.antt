use Rattle.std.proofs.Common.{◌∙◌, ap, sym, ◌+◌, ◌∷◌, take}
use Rattle.script_text.specs.Words.{words}
use Rattle.script_text.proofs.Cuts.{words_last, words_cut, words_of_none, rest_is, end_is}
use Rattle.script_text.proofs.cut.first_word.Goals as goal

pub returns-in-None-clause-words : goal.returns-in-None-clause-words
returns-in-None-clause-words c = words_last c.args.text.now (sym c.in-None.ensures.place) c.requires.some ∙ (ap (λ r. c.args.text.now ∷ r) words_of_none ∙ ap (λ r. c.args.text.now ∷ words r) (sym (end_is c.args.text.now)))

pub returns-in-Some-clause-words : goal.returns-in-Some-clause-words
returns-in-Some-clause-words c =
    words_cut c.args.text.now c.in-Some.end (sym c.in-Some.ensures.place) c.requires.first
    ∙ ap (λ r. take c.in-Some.end c.args.text.now ∷ words r) (sym (rest_is c.args.text.now (c.in-Some.end + 1)))
