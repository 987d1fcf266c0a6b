use Rattle.std.proofs.Common.{◌≡◌, ◌≤◌, ◌+◌, ◌*◌, ◌∙◌, sym, subst, true, arith}
use Rattle.yard_model.specs.Genuine.{is_node, is_shard}
use Rattle.yard_model.specs.Node.{release, start}
use Rattle.yard_model.specs.Script.{Script, IsScript}
use Rattle.node_laws.specs.NodeStands.{IsSoundNode}
use Rattle.node_laws.proofs.NodeMessages.{RouteLaws}
use Rattle.shard_lease.specs.Meaning.{Meaning}
use Rattle.node_core.specs.Found.{none}
use Rattle.node_core.specs.Gave.{Gave, Moment, moment}
use Rattle.node_core.specs.Leased.{Rests}
use Rattle.node_core.specs.Releasing.{kept_all}
use Rattle.node_core.specs.Standing.{Standing}
use Rattle.node_core.specs.Started.{asks_start}
use Rattle.node_core.proofs.HomeLaws.{IsAnswered, IsLearnt, host_gave, host_genuine, answered, host_learnt, posted_rooms, posts_started, release_has_room, release_room_left, start_has_room, started_sound}
use Rattle.node_core.proofs.StillRoutes.{released_gave}
use Rattle.node_core.proofs.actors.Actors.take_host.Goals as goal

pub start-requires-clause-shard : goal.start-requires-clause-shard
start-requires-clause-shard g c =
    subst (λ (d : Script). is_shard d c.args.s ≡ true) (sym c.hear.ensures.went.script_is) (host_genuine c.args.self.now.script c.args.s c.args.stamp c.args.packet.now c.requires.body c.requires.genuine).0

pub start-requires-clause-sound : goal.start-requires-clause-sound
start-requires-clause-sound g c =
    (host_learnt (g.L.Leases.meaning c.args.leases.now) c.args.packet.now c.args.s c.args.stamp c.region_keeps.ensures c.knows.ensures.script c.requires.body c.requires.genuine c.requires.taken c.requires.sound c.requires.rests c.hear.ensures.went).sound

pub start-requires-clause-rests : goal.start-requires-clause-rests
start-requires-clause-rests g c =
    (host_learnt (g.L.Leases.meaning c.args.leases.now) c.args.packet.now c.args.s c.args.stamp c.region_keeps.ensures c.knows.ensures.script c.requires.body c.requires.genuine c.requires.taken c.requires.sound c.requires.rests c.hear.ensures.went).rests

pub start-requires-clause-room : goal.start-requires-clause-room
start-requires-clause-room g c =
    let one : Standing = c.hear.new.self in
    let script : IsScript one.script = subst IsScript (sym c.hear.ensures.went.script_is) c.knows.ensures.script in
    let sound : IsSoundNode one.script one.state = (host_learnt (g.L.Leases.meaning c.args.leases.now) c.args.packet.now c.args.s c.args.stamp c.region_keeps.ensures c.knows.ensures.script c.requires.body c.requires.genuine c.requires.taken c.requires.sound c.requires.rests c.hear.ensures.went).sound in
    start_has_room one c.args.s script sound c.requires.ready c.hear.ensures.room

pub post_started-requires : goal.post_started-requires
post_started-requires g c =
    let one : Standing = c.hear.new.self in
    let script : IsScript one.script = subst IsScript (sym c.hear.ensures.went.script_is) c.knows.ensures.script in
    let sound : IsSoundNode one.script one.state = (host_learnt (g.L.Leases.meaning c.args.leases.now) c.args.packet.now c.args.s c.args.stamp c.region_keeps.ensures c.knows.ensures.script c.requires.body c.requires.genuine c.requires.taken c.requires.sound c.requires.rests c.hear.ensures.went).sound in
    let left : 4 * c.args.self.now.script.config.buffer + 1 ≤ c.start.new.out.spare = release_room_left c.args.s script sound c.requires.ready c.hear.ensures.room c.start.ensures.leaves in
    record { room = omega (arith, left) }

pub release-requires-clause-shard : goal.release-requires-clause-shard
release-requires-clause-shard g c =
    subst (λ (d : Script). is_shard d c.args.s ≡ true) (sym (c.post_started.ensures.went.script_is ∙ (c.start.ensures.script ∙ c.hear.ensures.went.script_is)))
    (host_genuine c.args.self.now.script c.args.s c.args.stamp c.args.packet.now c.requires.body c.requires.genuine).0

pub release-requires-clause-rooms : goal.release-requires-clause-rooms
release-requires-clause-rooms g c =
    let v : Standing = c.args.self.now in
    let learnt : IsLearnt (g.L.Leases.meaning c.args.leases.now) c.args.s v.state.who c.args.stamp v c.hear.new.self c.args.out.now c.hear.new.out =
    host_learnt (g.L.Leases.meaning c.args.leases.now) c.args.packet.now c.args.s c.args.stamp c.region_keeps.ensures c.knows.ensures.script c.requires.body c.requires.genuine c.requires.taken c.requires.sound c.requires.rests c.hear.ensures.went in
    let few : kept_all c.post_started.new.self ≤ v.script.config.buffer =
    subst (λ (d : Script). kept_all c.post_started.new.self ≤ d.config.buffer) (c.post_started.ensures.went.script_is ∙ (c.start.ensures.script ∙ c.hear.ensures.went.script_is)) c.keeps_few.ensures in
    (release_has_room c.args.s (4 * v.script.config.buffer) c.requires.sound c.requires.ready (λ t n room. posted_rooms c.args.s c.args.packet.now.from c.post_started.ensures.went t n (c.start.ensures.leaves.rooms t n (learnt.rooms t n room))) few
    (let e : 4 * v.script.config.buffer ≤ 4 * v.script.config.buffer = omega arith in e)).0

pub release-requires-clause-room : goal.release-requires-clause-room
release-requires-clause-room g c =
    let v : Standing = c.args.self.now in
    let one : Standing = c.hear.new.self in
    let learnt : IsLearnt (g.L.Leases.meaning c.args.leases.now) c.args.s v.state.who c.args.stamp v one c.args.out.now c.hear.new.out =
    host_learnt (g.L.Leases.meaning c.args.leases.now) c.args.packet.now c.args.s c.args.stamp c.region_keeps.ensures c.knows.ensures.script c.requires.body c.requires.genuine c.requires.taken c.requires.sound c.requires.rests c.hear.ensures.went in
    let few : kept_all c.post_started.new.self ≤ v.script.config.buffer =
    subst (λ (d : Script). kept_all c.post_started.new.self ≤ d.config.buffer) (c.post_started.ensures.went.script_is ∙ (c.start.ensures.script ∙ c.hear.ensures.went.script_is)) c.keeps_few.ensures in
    let script : IsScript one.script = subst IsScript (sym c.hear.ensures.went.script_is) c.knows.ensures.script in
    let left : 4 * v.script.config.buffer + 1 ≤ c.start.new.out.spare = release_room_left c.args.s script learnt.sound c.requires.ready c.hear.ensures.room c.start.ensures.leaves in
    let less = c.post_started.ensures.room in
    (release_has_room c.args.s c.post_started.new.out.spare c.requires.sound c.requires.ready (λ t n room. posted_rooms c.args.s c.args.packet.now.from c.post_started.ensures.went t n (c.start.ensures.leaves.rooms t n (learnt.rooms t n room))) few (omega (arith, left, less))).1

pub returns-clause-script : goal.returns-clause-script
returns-clause-script g c = c.release.ensures.went.script_is ∙ (c.post_started.ensures.went.script_is ∙ (c.start.ensures.script ∙ c.hear.ensures.went.script_is))

pub returns-clause-gave : goal.returns-clause-gave
returns-clause-gave g c =
    let old : Meaning = g.L.Leases.meaning c.args.leases.now in
    let new : Meaning = g.L.Leases.meaning c.start.new.leases in
    let v : Standing = c.args.self.now in
    let script : Script = v.script in
    let one : Standing = c.hear.new.self in
    let two : Standing = c.start.new.self in
    let three : Standing = c.post_started.new.self in
    let begun : Moment = moment old v.state c.args.out.now.items in
    let heard : Moment = moment old one.state c.hear.new.out.items in
    let started : Moment = moment new two.state c.start.new.out.items in
    let told : Moment = moment new three.state c.post_started.new.out.items in
    let to : Moment = moment new c.release.new.self.state c.release.new.out.items in
    let first_is : one.script ≡ script = c.hear.ensures.went.script_is in
    let second_is : two.script ≡ script = c.start.ensures.script ∙ first_is in
    let third_is : three.script ≡ script = c.post_started.ensures.went.script_is ∙ second_is in
    let laws : RouteLaws = record { region = c.region_keeps.ensures; entities = c.entities_stand.ensures; message = c.genuine_is_message.ensures } in
    let its : (is_shard script c.args.s ≡ true) × (is_node script c.args.packet.now.from ≡ true) = host_genuine script c.args.s c.args.stamp c.args.packet.now c.requires.body c.requires.genuine in
    let learnt : IsLearnt old c.args.s v.state.who c.args.stamp v one c.args.out.now c.hear.new.out =
    host_learnt (g.L.Leases.meaning c.args.leases.now) c.args.packet.now c.args.s c.args.stamp c.region_keeps.ensures c.knows.ensures.script c.requires.body c.requires.genuine c.requires.taken c.requires.sound c.requires.rests c.hear.ensures.went in
    let second : Gave script (asks_start c.args.s one.state) (λ lists. start lists c.args.s one.state) heard started =
    subst (λ (d : Script). Gave d (asks_start c.args.s one.state) (λ lists. start lists c.args.s one.state) heard started) first_is c.start.ensures.gave in
    let sound : IsSoundNode script two.state = started_sound script c.args.s heard started c.shard_starts.ensures its.0 (subst (λ (d : Script). IsSoundNode d one.state) first_is learnt.sound) second in
    let answers : IsAnswered new c.args.s c.args.packet.now.from two three c.start.new.out c.post_started.new.out =
    answered new c.args.s c.args.packet.now.from c.region_keeps.ensures (subst IsScript (sym second_is) c.knows.ensures.script) (subst (λ (d : Script). IsSoundNode d two.state) (sym second_is) sound)
    (subst (λ (d : Script). is_shard d c.args.s ≡ true) (sym second_is) its.0) (subst (λ (d : Script). is_node d c.args.packet.now.from ≡ true) (sym second_is) its.1) (subst (λ (d : Script). Rests new d two.state) (sym second_is) second.rests) c.post_started.ensures.went in
    let third : Gave script none (λ lists. posts_started c.args.s c.args.packet.now.from two.state) started told = subst (λ (d : Script). Gave d none (λ lists. posts_started c.args.s c.args.packet.now.from two.state) started told) second_is answers.gave in
    let last : Gave script none (λ lists. release c.args.s three.state) told to =
    subst (λ (d : Script). Gave d none (λ lists. release c.args.s three.state) told to) third_is
    (released_gave new three c.release.new.self c.args.s c.post_started.new.out c.release.new.out laws c.shards_are_there.ensures (subst IsScript (sym third_is) c.knows.ensures.script) answers.sound answers.rests c.release.ensures.went) in
    (asks_start c.args.s one.state, host_gave script c.args.s c.args.stamp c.args.packet.now.from begun heard started told to sound.region_who c.requires.taken learnt.gave second third last)
