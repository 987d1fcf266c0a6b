use Rattle.std.proofs.Common.{◌≡◌, ◌≤◌, ◌+◌, ◌-◌, ◌*◌, ◌∙◌, ℕ, length, sym, ap, subst, arith}
use Rattle.std.specs.Prelude.{Option, Some, None, IfSome, sum_by}
use Rattle.std.specs.List.{flat_map}
use Rattle.yard_model.specs.Script.{Script, IsScript, Setting, setting, pairs_in}
use Rattle.yard_model.specs.Setting.{names_of}
use Rattle.yard_model.specs.Words.{numbers}
use Rattle.node_laws.specs.NodeStands.{IsSoundNode}
use Rattle.shard_entities.specs.Roomy.{room_wanted}
use Rattle.node_core.specs.Again.{Stepped, start_room}
use Rattle.node_core.specs.Leased.{Rests}
use Rattle.node_core.specs.Releasing.{HasReleaseRoom}
use Rattle.node_core.specs.Standing.{Standing}
use Rattle.node_core.proofs.AgainLaws.{start_few}
use Rattle.node_core.proofs.RepeatLaws.{ready_all, tick_gave}
use Rattle.node_core.proofs.actors.Actors.tick.Goals as goal

pub tick_members-requires-clause-entries : goal.tick_members-requires-clause-entries
tick_members-requires-clause-entries g c = enough c.args.self.now.spare c.args.self.now.state.coordinator c.requires.ready.entries
  where
    enough : {A : Type 0} (n : ℕ) (o : Option A) → IfSome o (λ k. 300 ≤ n) → IfSome o (λ k. 16 ≤ n)
    enough n None h = tt
    enough n (Some k) h = omega (arith, h)

pub tick_members-requires-clause-room : goal.tick_members-requires-clause-room
tick_members-requires-clause-room g c = let room = c.requires.ready.room in omega (arith, room)

pub tick_shards-requires-clause-room : goal.tick_shards-requires-clause-room
tick_shards-requires-clause-room g c =
    let mid : Standing = c.tick_members.new.self in
    let script_is : mid.script ≡ c.args.self.now.script = c.tick_members.ensures.script_is in
    let few : start_room 0 mid.state ≤ 2128 + 4 * mid.script.config.buffer = start_few mid (subst IsScript (sym script_is) c.knows.ensures.script) (subst (λ (d : Script). IsSoundNode d mid.state) (sym script_is) c.tick_members.ensures.stands) c.kept_room.ensures in
    let buffer : mid.script.config.buffer ≡ c.args.self.now.script.config.buffer = ap (λ (d : Script). d.config.buffer) script_is in
    let all = c.requires.ready.room in
    let spent = c.tick_members.ensures.room in
    omega (arith, few, buffer, all, spent)

pub send_all_again-requires-clause-rooms : goal.send_all_again-requires-clause-rooms
send_all_again-requires-clause-rooms g c = λ t.
    subst (λ (d : Script). HasReleaseRoom (room_wanted d t) c.tick_shards.new.self t) (sym (c.tick_shards.ensures.1.1.script_is ∙ c.tick_members.ensures.script_is))
    (c.tick_shards.ensures.1.1.rooms t (room_wanted c.args.self.now.script t) (c.tick_members.ensures.rooms t (room_wanted c.args.self.now.script t) (ready_all c.requires.sound c.requires.ready t)))

pub send_all_again-requires-clause-room : goal.send_all_again-requires-clause-room
send_all_again-requires-clause-room g c =
    let mid : Standing = c.tick_members.new.self in
    let script_is : mid.script ≡ c.args.self.now.script = c.tick_members.ensures.script_is in
    let few : start_room 0 mid.state ≤ 2128 + 4 * mid.script.config.buffer = start_few mid (subst IsScript (sym script_is) c.knows.ensures.script) (subst (λ (d : Script). IsSoundNode d mid.state) (sym script_is) c.tick_members.ensures.stands) c.kept_room.ensures in
    let buffer : mid.script.config.buffer ≡ c.args.self.now.script.config.buffer = ap (λ (d : Script). d.config.buffer) script_is in
    let pairs : length (pairs_in c.tick_shards.new.self.script.orders) ≡ length (pairs_in c.args.self.now.script.orders) = ap (λ (d : Script). length (pairs_in d.orders)) (c.tick_shards.ensures.1.1.script_is ∙ script_is) in
    let all = c.requires.ready.room in
    let first = c.tick_members.ensures.room in
    let second = c.tick_shards.ensures.1.1.room in
    omega (arith, few, buffer, pairs, all, first, second)

pub returns-clause-gave : goal.returns-clause-gave
returns-clause-gave g c = tick_gave (start_room 0 c.tick_members.new.self.state + 1000) c.tick_laws.ensures c.knows.ensures.script c.requires.sound c.tick_members.ensures c.tick_shards.ensures c.send_all_again.ensures
