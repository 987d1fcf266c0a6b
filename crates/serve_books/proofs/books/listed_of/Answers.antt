use Rattle.std.proofs.Common.{◌≡◌, ◌+◌, ◌++◌, ◌∷◌, [], take, sym, ◌∙◌, ap, arith}
use Rattle.std.proofs.lemmas.List.{take_all, take_more}
use Rattle.log_orders.specs.Orders.{listed}
use Rattle.log_orders.proofs.GatherLaws.{listed_both}
use Rattle.serve_books.proofs.books.listed_of.Goals as goal

pub loop-fact-preserved : goal.loop-fact-preserved
loop-fact-preserved c =
    let i = c.loop-fact.fact-index in
    let facts = c.args.facts.now in
    let f = c.fact-item.result in
    let longer : take (i + 1) facts ≡ take i facts ++ f ∷ [] = take_more facts i f c.loop-fact-test.true ∙ ap (λ x. take i facts ++ x ∷ []) (sym c.fact-item.is) in
    c.in_ok-keep.ensures ∙ (ap (λ l. l ++ listed (f ∷ [])) c.loop-fact.invariant ∙ (sym (listed_both (take i facts) (f ∷ [])) ∙ ap listed (sym longer)))

pub returns : goal.returns
returns c = c.loop-fact.invariant ∙ ap listed (take_all c.loop-fact.fact-index c.args.facts.now (omega (arith, c.loop-fact-test.false)))
