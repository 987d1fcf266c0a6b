use Rattle.std.proofs.Common.{◌≡◌, ◌∷◌, ◌+◌, List, drop, ap, sym, subst, ◌∙◌}
use Rattle.std.proofs.lemmas.List.{drop_all, drop_more}
use Rattle.yard_model.specs.declared.charter.Line.{Line}
use Rattle.shard_store.specs.Planned.{AreCountedBut}
use Rattle.shard_store.proofs.SendCountLaws.{counted_more, counts_few}
use Rattle.shard_store.proofs.name_table.counts_of.Goals as goal

pub count-requires-clause-few : goal.count-requires-clause-few
count-requires-clause-few c =
    let xs : List Line = c.orders-orders.result.now in
    let rest : List Line = drop (c.loop-line.line-index + 1) xs in
    let here : drop c.loop-line.line-index xs ≡ c.line-item.result ∷ rest = drop_more xs c.loop-line.line-index c.line-item.result c.loop-line-test.true ∙ ap (λ (x : Line). x ∷ rest) (sym c.line-item.is) in
    counts_few c.args.charter.now c.args.names.now c.loop-line.counts.items c.line-item.result rest c.orders-orders.ensures.script (subst (AreCountedBut c.args.charter.now c.args.names.now c.loop-line.counts.items) here c.loop-line.invariant)

pub loop-line-preserved : goal.loop-line-preserved
loop-line-preserved c =
    let xs : List Line = c.orders-orders.result.now in
    let rest : List Line = drop (c.loop-line.line-index + 1) xs in
    let here : drop c.loop-line.line-index xs ≡ c.line-item.result ∷ rest = drop_more xs c.loop-line.line-index c.line-item.result c.loop-line-test.true ∙ ap (λ (x : Line). x ∷ rest) (sym c.line-item.is) in
    counted_more c.args.charter.now c.args.names.now c.loop-line.counts.items c.count.new.counts.items c.line-item.result rest
    (subst (AreCountedBut c.args.charter.now c.args.names.now c.loop-line.counts.items) here c.loop-line.invariant) c.count.ensures

pub returns : goal.returns
returns c =
    subst (AreCountedBut c.args.charter.now c.args.names.now c.loop-line.counts.items)
    (drop_all c.loop-line.line-index c.orders-orders.result.now c.loop-line-test.false) c.loop-line.invariant
