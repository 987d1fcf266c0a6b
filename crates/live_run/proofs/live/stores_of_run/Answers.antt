use Rattle.yard_model.specs.Script.{Script}
use Rattle.shard_store.specs.Stores.{lists_at}
use Rattle.live_run.proofs.LiveLaws.{may_settle, are_live}
use Rattle.live_run.proofs.ResultLaws.{if_ok_both}
use Rattle.live_run.proofs.live.stores_of_run.Goals as goal

pub settle_stores-requires-clause-given : goal.settle_stores-requires-clause-given
settle_stores-requires-clause-given g c =
    let version = g.B.Behaviour.version_of c.args.behaviour in
    may_settle c.args.charter.now version c.args.turns c.in_ok-stores.stores c.requires.version
    (c.few_orders_fit.ensures c.args.charter.now version (lists_at c.args.charter.now.config c.in_ok-stores.stores.places) c.config.ensures.script c.requires.few) c.in_ok-stores.ensures

pub returns-clause-live : goal.returns-clause-live
returns-clause-live g c =
    let s : Script = c.args.charter.now in
    if_ok_both _ _ _ (λ x is end. are_live s c.args.turns c.in_ok-stores.stores (lists_at s.config x.places) c.worked_goes_on.ensures c.in_ok-stores.ensures end) c.settle_stores.result c.settle_stores.ensures.script c.settle_stores.ensures.settled
