use Rattle.std.proofs.Common.{◌≡◌, ◌+◌, ◌++◌, ◌∷◌, [], take, length, sym, ◌∙◌, ap, subst, arith}
use Rattle.std.proofs.lemmas.List.{take_all, take_more}
use Rattle.log_orders.specs.Gathered.{Gathers}
use Rattle.log_orders.proofs.GatherLaws.{gathers_more, gathers_none}
use Rattle.log_orders.proofs.gathering.gather.Goals as goal

pub loop-fact-init : goal.loop-fact-init
loop-fact-init c = gathers_none c.clear.new.self c.clear.ensures

pub loop-fact-preserved : goal.loop-fact-preserved
loop-fact-preserved c =
    let i = c.loop-fact.fact-index in
    let facts = c.args.facts.now in
    let f = c.fact-item.result in
    let longer : take (i + 1) facts ≡ take i facts ++ f ∷ [] = take_more facts i f c.loop-fact-test.true ∙ ap (λ x. take i facts ++ x ∷ []) (sym c.fact-item.is) in
    subst (λ l. Gathers l c.enter.new.batch) (sym longer) (gathers_more (take i facts) f c.loop-fact.batch c.enter.new.batch c.loop-fact.invariant c.in_ok-enter.ensures.ok)

pub returns : goal.returns
returns c = subst (λ l. Gathers l c.loop-fact.batch) (take_all c.loop-fact.fact-index c.args.facts.now (omega (arith, c.loop-fact-test.false))) c.loop-fact.invariant
