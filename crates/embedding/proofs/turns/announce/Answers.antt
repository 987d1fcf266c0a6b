use Rattle.std.proofs.Common.{sym, ap, ◌∙◌, subst, List}
use Rattle.yard_model.specs.declared.fact.Fact.{Fact}
use Rattle.yard_model.specs.declared.incarnation.Slot.TheVariants as slot
use Rattle.yard_model.specs.Script.{Script}
use Rattle.shard_store.specs.Stores.{place_of, entries_of_ref}
use Rattle.lease_table.specs.Belongs.{id_of}
use Rattle.lease_table.specs.Leasing.{MayPublish}
use Rattle.lease_table.specs.Tells.{published}
use Rattle.embedding.specs.Holding.{place}
use Rattle.embedding.proofs.HoldLaws.{may_publish, published_holds}
use Rattle.embedding.proofs.turns.announce.Goals as goal

pub publish-requires-clause-charter : goal.publish-requires-clause-charter
publish-requires-clause-charter c = c.requires.holding.charter ∙ sym c.requires.script

pub publish-requires-clause-store : goal.publish-requires-clause-store
publish-requires-clause-store c =
    subst (λ (y : Script). MayPublish c.args.pass.now.view (place_of y.config slot.Coordinator) (entries_of_ref c.as_ref.result)) (sym c.requires.script)
    (subst (λ (l : List Fact). MayPublish c.args.pass.now.view place l) (sym c.as_ref.ensures.entries) (may_publish (id_of c.args.table.now) c.args.who.node c.args.store.now c.args.pass.now c.requires.holding c.is_leased.ensures.own))

pub returns : goal.returns
returns c =
    published_holds (id_of c.args.table.now) c.args.who.node c.args.store.now c.args.pass.now c.publish.new.pass c.stands.ensures c.requires.holding c.publish.ensures.table
    (c.publish.ensures.now
    ∙ (ap (λ (y : Script). published c.args.pass.now.view (place_of y.config slot.Coordinator) (entries_of_ref c.as_ref.result)) c.requires.script
    ∙ ap (λ (l : List Fact). published c.args.pass.now.view place l) c.as_ref.ensures.entries))
