use Rattle.std.proofs.Common.{◌≡◌, ◌∙◌, sym, subst, true}
use Rattle.yard_model.specs.Entities.{hosted}
use Rattle.yard_model.specs.Genuine.{is_shard}
use Rattle.yard_model.specs.Node.{release}
use Rattle.yard_model.specs.Script.{Script, IsScript}
use Rattle.node_laws.specs.NodeStands.{IsSoundNode}
use Rattle.node_laws.proofs.NodeMessages.{RouteLaws}
use Rattle.node_laws.proofs.NodeStarts.{not_hosted}
use Rattle.shard_lease.specs.Meaning.{Meaning}
use Rattle.node_core.specs.Found.{none}
use Rattle.node_core.specs.Gave.{Gave, Moment, moment}
use Rattle.node_core.specs.Leased.{Rests}
use Rattle.node_core.specs.Standing.{Standing}
use Rattle.node_core.proofs.HomeLaws.{again_has_room, again_leaves, start_released, started_sound}
use Rattle.node_core.proofs.StillRoutes.{released_gave}
use Rattle.node_core.proofs.actors.Actors.start_and_release.Goals as goal

pub release-requires-clause-shard : goal.release-requires-clause-shard
release-requires-clause-shard g c = subst (λ (d : Script). is_shard d c.args.s ≡ true) (sym c.start.ensures.script) c.requires.shard

pub release-requires-clause-rooms : goal.release-requires-clause-rooms
release-requires-clause-rooms g c = (again_has_room c.args.s c.requires.sound (not_hosted (hosted c.args.self.now.state.entities c.args.s) c.requires.new) c.requires.room c.start.ensures.leaves).0

pub release-requires-clause-room : goal.release-requires-clause-room
release-requires-clause-room g c = (again_has_room c.args.s c.requires.sound (not_hosted (hosted c.args.self.now.state.entities c.args.s) c.requires.new) c.requires.room c.start.ensures.leaves).1

pub returns-clause-script : goal.returns-clause-script
returns-clause-script g c = c.release.ensures.went.script_is ∙ c.start.ensures.script

pub returns-clause-gave : goal.returns-clause-gave
returns-clause-gave g c =
    let old : Meaning = g.L.Leases.meaning c.args.leases.now in
    let new : Meaning = g.L.Leases.meaning c.start.new.leases in
    let v : Standing = c.args.self.now in
    let script : Script = v.script in
    let one : Standing = c.start.new.self in
    let begun : Moment = moment old v.state c.args.out.now.items in
    let started : Moment = moment new one.state c.start.new.out.items in
    let to : Moment = moment new c.release.new.self.state c.release.new.out.items in
    let laws : RouteLaws = record { region = c.region_keeps.ensures; entities = c.entities_stand.ensures; message = c.genuine_is_message.ensures } in
    let sound : IsSoundNode script one.state = started_sound script c.args.s begun started c.shard_starts.ensures c.requires.shard c.requires.sound c.start.ensures.gave in
    let last : Gave script none (λ lists. release c.args.s one.state) started to =
    subst (λ (d : Script). Gave d none (λ lists. release c.args.s one.state) started to) c.start.ensures.script
    (released_gave new one c.release.new.self c.args.s c.start.new.out c.release.new.out laws c.shards_are_there.ensures (subst IsScript (sym c.start.ensures.script) c.knows.ensures.script)
    (subst (λ (d : Script). IsSoundNode d one.state) (sym c.start.ensures.script) sound) (subst (λ (d : Script). Rests new d one.state) (sym c.start.ensures.script) c.start.ensures.gave.rests) c.release.ensures.went) in
    start_released script c.args.s begun started to c.start.ensures.gave last

pub returns-clause-leaves : goal.returns-clause-leaves
returns-clause-leaves g c = again_leaves c.args.s _ c.requires.sound (not_hosted (hosted c.args.self.now.state.entities c.args.s) c.requires.new) c.start.ensures.leaves c.release.ensures.leaves c.release.ensures.spent
