use Rattle.std.proofs.Common.{◌≡◌, sym, subst}
use Rattle.yard_model.specs.Script.{Script}
use Rattle.node_laws.specs.NodeStands.{IsSoundNode}
use Rattle.shard_store.specs.Stores.{entries_of_ref, place_of}
use Rattle.lease_table.specs.Belongs.{id_of, charter_of}
use Rattle.node_runner.proofs.Published.{may_show, after_publish, sees_published, stay_shown, shown_here}
use Rattle.node_runner.proofs.telling.publish_store.Goals as goal

pub publish-requires-clause-store : goal.publish-requires-clause-store
publish-requires-clause-store g c =
    let y : Script = charter_of c.args.table.now in
    let sound : IsSoundNode y c.args.node.now.state = subst (λ (x : Script). IsSoundNode x c.args.node.now.state) c.requires.rested.script c.stands.ensures.sound in
    may_show (id_of c.args.table.now) y c.args.me c.args.pass.now c.args.node.now c.args.slot.now (entries_of_ref c.args.store) c.requires.rested sound c.requires.slot c.requires.store

pub returns-clause-rested : goal.returns-clause-rested
returns-clause-rested g c =
    after_publish (id_of c.args.table.now) (charter_of c.args.table.now) c.args.me c.args.pass.now c.publish.new.pass c.args.node.now c.args.slot.now (entries_of_ref c.args.store) c.requires.rested c.stands-2.ensures c.requires.slot c.requires.store c.publish.ensures.table c.publish.ensures.now c.publish.ensures.seen

pub returns-clause-sees : goal.returns-clause-sees
returns-clause-sees g c = sees_published c.args.me c.args.pass.now c.publish.new.pass (place_of (charter_of c.args.table.now).config c.args.slot.now) (entries_of_ref c.args.store) c.publish.ensures.table c.publish.ensures.now c.publish.ensures.seen

pub returns-clause-stay : goal.returns-clause-stay
returns-clause-stay g c = stay_shown (charter_of c.args.table.now) c.args.pass.now c.publish.new.pass c.args.node.now.state c.args.slot.now (entries_of_ref c.args.store) c.stands-2.ensures c.requires.rested.charter c.requires.slot c.requires.store c.publish.ensures.now

pub returns-clause-shown : goal.returns-clause-shown
returns-clause-shown g c = shown_here (charter_of c.args.table.now) c.args.pass.now c.publish.new.pass c.args.slot.now (entries_of_ref c.args.store) c.stands-2.ensures c.requires.rested.charter c.requires.slot c.publish.ensures.now
