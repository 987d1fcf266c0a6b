use Rattle.std.proofs.Common.{◌≡◌, ◌+◌, ◌++◌, ◌∷◌, [], take, length, sym, ◌∙◌, ap, arith, append_assoc}
use Rattle.std.proofs.lemmas.List.{append-nil, take_all, take_more}
use Rattle.disk_log.proofs.batches.push_all.Goals as goal

pub loop-fact-init : goal.loop-fact-init
loop-fact-init c = sym (append-nil c.args.all.now)

pub loop-fact-preserved : goal.loop-fact-preserved
loop-fact-preserved c =
    let i = c.loop-fact.fact-index in
    let facts = c.args.facts.now in
    let f = c.fact-item.result in
    let longer : take (i + 1) facts ≡ take i facts ++ f ∷ [] = take_more facts i f c.loop-fact-test.true ∙ ap (λ x. take i facts ++ x ∷ []) (sym c.fact-item.is) in
    c.in_ok-push_copy.ensures.ok ∙ (ap (λ l. l ++ f ∷ []) c.loop-fact.invariant ∙ (append_assoc c.args.all.now (take i facts) (f ∷ []) ∙ ap (λ l. c.args.all.now ++ l) (sym longer)))

pub returns : goal.returns
returns c = c.loop-fact.invariant ∙ ap (λ l. c.args.all.now ++ l) (take_all c.loop-fact.fact-index c.args.facts.now (omega (arith, c.loop-fact-test.false)))
