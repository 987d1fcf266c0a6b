use Rattle.std.proofs.Common.{◌≡◌, ◌≤◌, ◌+◌, ◌*◌, ◌∙◌, sym, subst, true, arith}
use Rattle.yard_model.specs.Genuine.{is_shard}
use Rattle.yard_model.specs.Node.{release}
use Rattle.yard_model.specs.Script.{Script, IsScript}
use Rattle.node_laws.specs.NodeStands.{IsSoundNode}
use Rattle.node_laws.proofs.NodeMessages.{RouteLaws}
use Rattle.shard_lease.specs.Meaning.{Meaning}
use Rattle.node_core.specs.Found.{none}
use Rattle.node_core.specs.Gave.{Gave, Moment, moment}
use Rattle.node_core.specs.Leased.{Rests}
use Rattle.node_core.specs.Releasing.{kept_all}
use Rattle.node_core.specs.Standing.{Standing}
use Rattle.node_core.specs.Started.{asks_again, start_home}
use Rattle.node_core.proofs.HomeLaws.{IsLearnt, home_gave, home_learnt, home_shard, home_sound, release_has_room, release_room_left, start_has_room}
use Rattle.node_core.proofs.StillRoutes.{released_gave}
use Rattle.node_core.proofs.actors.Actors.take_home.Goals as goal

pub start_home-requires-clause-shard : goal.start_home-requires-clause-shard
start_home-requires-clause-shard g c =
    subst (λ (d : Script). is_shard d c.args.s ≡ true) (sym c.hear.ensures.went.script_is) (home_shard c.args.self.now.script c.args.s c.args.home c.args.stamp c.args.packet.now c.requires.body c.requires.genuine)

pub start_home-requires-clause-sound : goal.start_home-requires-clause-sound
start_home-requires-clause-sound g c =
    (home_learnt (g.L.Leases.meaning c.args.leases.now) c.args.packet.now c.args.s c.args.home c.args.stamp c.region_keeps.ensures c.knows.ensures.script c.requires.body c.requires.genuine c.requires.taken c.requires.sound c.requires.rests c.hear.ensures.went).sound

pub start_home-requires-clause-rests : goal.start_home-requires-clause-rests
start_home-requires-clause-rests g c =
    (home_learnt (g.L.Leases.meaning c.args.leases.now) c.args.packet.now c.args.s c.args.home c.args.stamp c.region_keeps.ensures c.knows.ensures.script c.requires.body c.requires.genuine c.requires.taken c.requires.sound c.requires.rests c.hear.ensures.went).rests

pub start_home-requires-clause-room : goal.start_home-requires-clause-room
start_home-requires-clause-room g c =
    let one : Standing = c.hear.new.self in
    let script : IsScript one.script = subst IsScript (sym c.hear.ensures.went.script_is) c.knows.ensures.script in
    let sound : IsSoundNode one.script one.state = (home_learnt (g.L.Leases.meaning c.args.leases.now) c.args.packet.now c.args.s c.args.home c.args.stamp c.region_keeps.ensures c.knows.ensures.script c.requires.body c.requires.genuine c.requires.taken c.requires.sound c.requires.rests c.hear.ensures.went).sound in
    start_has_room one c.args.s script sound c.requires.ready c.hear.ensures.room

pub release-requires-clause-shard : goal.release-requires-clause-shard
release-requires-clause-shard g c =
    subst (λ (d : Script). is_shard d c.args.s ≡ true) (sym (c.start_home.ensures.script ∙ c.hear.ensures.went.script_is)) (home_shard c.args.self.now.script c.args.s c.args.home c.args.stamp c.args.packet.now c.requires.body c.requires.genuine)

pub release-requires-clause-rooms : goal.release-requires-clause-rooms
release-requires-clause-rooms g c =
    let learnt : IsLearnt (g.L.Leases.meaning c.args.leases.now) c.args.s c.args.home c.args.stamp c.args.self.now c.hear.new.self c.args.out.now c.hear.new.out =
    home_learnt (g.L.Leases.meaning c.args.leases.now) c.args.packet.now c.args.s c.args.home c.args.stamp c.region_keeps.ensures c.knows.ensures.script c.requires.body c.requires.genuine c.requires.taken c.requires.sound c.requires.rests c.hear.ensures.went in
    let few : kept_all c.start_home.new.self ≤ c.args.self.now.script.config.buffer = subst (λ (d : Script). kept_all c.start_home.new.self ≤ d.config.buffer) (c.start_home.ensures.script ∙ c.hear.ensures.went.script_is) c.keeps_few.ensures in
    (release_has_room c.args.s (4 * c.args.self.now.script.config.buffer) c.requires.sound c.requires.ready (λ t n room. c.start_home.ensures.leaves.rooms t n (learnt.rooms t n room)) few (let e : 4 * c.args.self.now.script.config.buffer ≤ 4 * c.args.self.now.script.config.buffer = omega arith in e)).0

pub release-requires-clause-room : goal.release-requires-clause-room
release-requires-clause-room g c =
    let one : Standing = c.hear.new.self in
    let learnt : IsLearnt (g.L.Leases.meaning c.args.leases.now) c.args.s c.args.home c.args.stamp c.args.self.now one c.args.out.now c.hear.new.out =
    home_learnt (g.L.Leases.meaning c.args.leases.now) c.args.packet.now c.args.s c.args.home c.args.stamp c.region_keeps.ensures c.knows.ensures.script c.requires.body c.requires.genuine c.requires.taken c.requires.sound c.requires.rests c.hear.ensures.went in
    let few : kept_all c.start_home.new.self ≤ c.args.self.now.script.config.buffer = subst (λ (d : Script). kept_all c.start_home.new.self ≤ d.config.buffer) (c.start_home.ensures.script ∙ c.hear.ensures.went.script_is) c.keeps_few.ensures in
    let script : IsScript one.script = subst IsScript (sym c.hear.ensures.went.script_is) c.knows.ensures.script in
    let left : 4 * c.args.self.now.script.config.buffer + 1 ≤ c.start_home.new.out.spare = release_room_left c.args.s script learnt.sound c.requires.ready c.hear.ensures.room c.start_home.ensures.leaves in
    (release_has_room c.args.s c.start_home.new.out.spare c.requires.sound c.requires.ready (λ t n room. c.start_home.ensures.leaves.rooms t n (learnt.rooms t n room)) few (omega (arith, left))).1

pub returns-clause-script : goal.returns-clause-script
returns-clause-script g c = c.release.ensures.went.script_is ∙ (c.start_home.ensures.script ∙ c.hear.ensures.went.script_is)

pub returns-clause-gave : goal.returns-clause-gave
returns-clause-gave g c =
    let old : Meaning = g.L.Leases.meaning c.args.leases.now in
    let new : Meaning = g.L.Leases.meaning c.start_home.new.leases in
    let v : Standing = c.args.self.now in
    let script : Script = v.script in
    let one : Standing = c.hear.new.self in
    let two : Standing = c.start_home.new.self in
    let begun : Moment = moment old v.state c.args.out.now.items in
    let heard : Moment = moment old one.state c.hear.new.out.items in
    let started : Moment = moment new two.state c.start_home.new.out.items in
    let to : Moment = moment new c.release.new.self.state c.release.new.out.items in
    let first_is : one.script ≡ script = c.hear.ensures.went.script_is in
    let second_is : two.script ≡ script = c.start_home.ensures.script ∙ first_is in
    let laws : RouteLaws = record { region = c.region_keeps.ensures; entities = c.entities_stand.ensures; message = c.genuine_is_message.ensures } in
    let learnt : IsLearnt old c.args.s c.args.home c.args.stamp v one c.args.out.now c.hear.new.out =
    home_learnt old c.args.packet.now c.args.s c.args.home c.args.stamp c.region_keeps.ensures c.knows.ensures.script c.requires.body c.requires.genuine c.requires.taken c.requires.sound c.requires.rests c.hear.ensures.went in
    let second : Gave script (asks_again c.args.s one.state) (λ lists. start_home lists c.args.s one.state) heard started =
    subst (λ (d : Script). Gave d (asks_again c.args.s one.state) (λ lists. start_home lists c.args.s one.state) heard started) first_is c.start_home.ensures.gave in
    let shard : is_shard script c.args.s ≡ true = home_shard script c.args.s c.args.home c.args.stamp c.args.packet.now c.requires.body c.requires.genuine in
    let sound : IsSoundNode script two.state = home_sound script c.args.s heard started c.shard_starts.ensures shard (subst (λ (d : Script). IsSoundNode d one.state) first_is learnt.sound) second in
    let last : Gave script none (λ lists. release c.args.s two.state) started to =
    subst (λ (d : Script). Gave d none (λ lists. release c.args.s two.state) started to) second_is
    (released_gave new two c.release.new.self c.args.s c.start_home.new.out c.release.new.out laws c.shards_are_there.ensures (subst IsScript (sym second_is) c.knows.ensures.script)
    (subst (λ (d : Script). IsSoundNode d two.state) (sym second_is) sound) (subst (λ (d : Script). Rests new d two.state) (sym second_is) second.rests) c.release.ensures.went) in
    (asks_again c.args.s one.state, home_gave script c.args.s c.args.home c.args.stamp begun heard started to c.requires.taken learnt.gave second last)
