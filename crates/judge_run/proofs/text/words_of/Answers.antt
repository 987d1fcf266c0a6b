use Rattle.std.proofs.Common.{◌≡◌, sym, subst, ◌∙◌}
use Rattle.std.specs.Prelude.{◌++◌, codes, decimal, IfOk, string_bytes}
use Rattle.verdict_laws.specs.declared.answer.Answer.{Answer}
use Rattle.judge_run.specs.Texts.{answer_words}
use Rattle.judge_run.proofs.EndLaws.{on_ok}
use Rattle.judge_run.proofs.WordLaws.{three, two}
use Rattle.judge_run.proofs.text.words_of.Goals as goal

pub returns-in-Safe : goal.returns-in-Safe
returns-in-Safe c =
    let n = c.in-Safe.counts in
    let told : IfOk c.format.result (λ text. string_bytes text ≡ codes "safe " ++ (decimal n.facts ++ (codes " " ++ (decimal n.entries ++ (codes " " ++ decimal n.records))))) = c.format.ensures.ok in
    subst (λ (a : Answer). IfOk c.format.result (λ text. string_bytes text ≡ answer_words a)) (sym c.in-Safe.is)
    (on_ok c.format.result _ _ (λ text e. e ∙ three (codes "safe ") (decimal n.facts) (codes " ") (decimal n.entries) (codes " ") (decimal n.records)) told)

pub returns-in-Broken : goal.returns-in-Broken
returns-in-Broken c =
    let s = c.sentence_of-sentence.result.now in
    let told : IfOk c.format-in-Broken.result (λ text. string_bytes text ≡ codes "line " ++ (decimal c.in-Broken.line ++ (codes ": " ++ s))) = c.format-in-Broken.ensures.ok in
    subst (λ (a : Answer). IfOk c.format-in-Broken.result (λ text. string_bytes text ≡ answer_words a)) (sym c.in-Broken.is)
    (subst (λ x. IfOk c.format-in-Broken.result (λ text. string_bytes text ≡ ((codes "line " ++ decimal c.in-Broken.line) ++ codes ": ") ++ x)) c.sentence_of-sentence.ensures
    (on_ok c.format-in-Broken.result _ _ (λ text e. e ∙ two (codes "line ") (decimal c.in-Broken.line) (codes ": ") s) told))
