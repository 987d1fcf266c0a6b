use Rattle.std.proofs.Common.{sym, ap, ◌∙◌, subst, List}
use Rattle.yard_model.specs.declared.fact.Fact.{Fact}
use Rattle.yard_model.specs.Genuine.{is_slot_of}
use Rattle.yard_model.specs.Script.{Script}
use Rattle.shard_store.specs.Stores.{place_of, entries_of, entries_of_ref}
use Rattle.lease_table.specs.Belongs.{id_of}
use Rattle.lease_table.specs.Leasing.{MayPublish}
use Rattle.lease_table.specs.Tells.{published}
use Rattle.lease_tests.specs.Holding.{two_nodes}
use Rattle.lease_tests.proofs.HoldLaws.{may_publish, published_holds, seen_then}
use Rattle.lease_tests.proofs.passes.publish.Goals as goal

pub publish-requires-clause-slot : goal.publish-requires-clause-slot
publish-requires-clause-slot c = ap (λ (y : Script). is_slot_of y c.args.slot) c.requires.script ∙ c.requires.slot

pub publish-requires-clause-charter : goal.publish-requires-clause-charter
publish-requires-clause-charter c = c.requires.holding.charter ∙ sym c.requires.script

pub publish-requires-clause-store : goal.publish-requires-clause-store
publish-requires-clause-store c =
    subst (λ (y : Script). MayPublish c.args.pass.view (place_of y.config c.args.slot) (entries_of_ref c.as_ref.result)) (sym c.requires.script)
    (subst (λ (l : List Fact). MayPublish c.args.pass.view (place_of two_nodes.config c.args.slot) l) (sym c.as_ref.ensures.entries)
    (may_publish (id_of c.args.table.now) c.args.who.node c.args.slot c.args.store.now c.args.pass c.requires.slot c.requires.holding c.is_leased-leased.ensures.own))

pub returns-clause-holding : goal.returns-clause-holding
returns-clause-holding c =
    published_holds (id_of c.args.table.now) c.args.who.node c.args.slot c.args.store.now c.args.pass c.publish.new.pass c.requires.slot c.stands.ensures c.requires.holding c.publish.ensures.table
    (c.publish.ensures.now ∙ ap (λ (y : Script). published c.args.pass.view (place_of y.config c.args.slot) (entries_of_ref c.as_ref.result)) c.requires.script ∙ ap (λ (l : List Fact). published c.args.pass.view (place_of two_nodes.config c.args.slot) l) c.as_ref.ensures.entries)

pub returns-clause-seen : goal.returns-clause-seen
returns-clause-seen c =
    seen_then c.args.pass.view c.publish.new.pass.view c.args.slot (entries_of c.args.store.now) c.stands.ensures c.requires.holding.charter c.requires.slot
    (c.publish.ensures.now ∙ ap (λ (y : Script). published c.args.pass.view (place_of y.config c.args.slot) (entries_of_ref c.as_ref.result)) c.requires.script ∙ ap (λ (l : List Fact). published c.args.pass.view (place_of two_nodes.config c.args.slot) l) c.as_ref.ensures.entries)
