use Rattle.std.proofs.Common.{◌≡◌, ◌<◌, ◌∙◌, ℕ, List, length, sym, ap, subst, refl, arith}
use Rattle.std.specs.Prelude.{Option, Some}
use Rattle.yard_model.specs.Node.{Act}
use Rattle.yard_model.specs.Producer.{Producer}
use Rattle.yard_model.specs.Script.{Setting}
use Rattle.yard_model.specs.Setting.{shard_of}
use Rattle.yard_model.specs.Spared.{Spared}
use Rattle.producer_ctl.specs.Paired.{name_at}
use Rattle.producer_ctl.specs.Produced.{Gives, repeating}
use Rattle.node_core.specs.Standing.{Standing}
use Rattle.node_core.specs.Went.{Went}
use Rattle.node_core.proofs.CallLaws.{AreFew, AreFit, IsLeft, again_leaves, again_rooms, called_left, called_went, pending_entity}
use Rattle.node_core.proofs.FitLaws.{repeat_fits, repeat_least}
use Rattle.node_core.proofs.actors.Actors.send_again.Goals as goal

pub route_pending-requires-clause-well : goal.route_pending-requires-clause-well
route_pending-requires-clause-well g c =
    let v : Standing = c.args.self.now in
    let e : List ℕ = name_at v.state.set.names c.args.at in
    let F : Producer → Option Gives = λ k. Some (repeating e k) in
    let fit : AreFit v.script c.args.p F v.state = repeat_fits c.producer_keeps.ensures c.producer_routes.ensures v.script v.state c.args.p c.requires.sound c.requires.producer e in
    let few : AreFew 1 c.args.p F v.state = repeat_least c.args.p e v.state in
    let left : IsLeft 1 v c.note_tick.new.self c.args.out.now c.note_tick.new.out = called_left c.args.p 1 F v c.note_tick.new.self c.args.out.now c.note_tick.new.out fit few c.note_tick.ensures.called in
    left.well

pub route_pending-requires-clause-rooms : goal.route_pending-requires-clause-rooms
route_pending-requires-clause-rooms g c some =
    let v : Standing = c.args.self.now in
    let e : List ℕ = name_at v.state.set.names c.args.at in
    let F : Producer → Option Gives = λ k. Some (repeating e k) in
    let fit : AreFit v.script c.args.p F v.state = repeat_fits c.producer_keeps.ensures c.producer_routes.ensures v.script v.state c.args.p c.requires.sound c.requires.producer e in
    let few : AreFew 1 c.args.p F v.state = repeat_least c.args.p e v.state in
    let left : IsLeft 1 v c.note_tick.new.self c.args.out.now c.note_tick.new.out = called_left c.args.p 1 F v c.note_tick.new.self c.args.out.now c.note_tick.new.out fit few c.note_tick.ensures.called in
    let its : 0 < length c.note_tick.new.self.pending.numbers → shard_of c.note_tick.new.self.state.set c.note_tick.new.self.pending.entity ≡ shard_of v.state.set e
    = λ some. ap (λ (z : Setting). shard_of z c.note_tick.new.self.pending.entity) left.set_is ∙ ap (shard_of v.state.set) (pending_entity c.args.p 1 e F v c.note_tick.new.self c.args.out.now c.note_tick.new.out (λ k. refl) c.note_tick.ensures.called some) in
    again_rooms (shard_of v.state.set e) left its some c.requires.rooms

pub route_pending-requires-clause-room : goal.route_pending-requires-clause-room
route_pending-requires-clause-room g c =
    let v : Standing = c.args.self.now in
    let e : List ℕ = name_at v.state.set.names c.args.at in
    let F : Producer → Option Gives = λ k. Some (repeating e k) in
    let fit : AreFit v.script c.args.p F v.state = repeat_fits c.producer_keeps.ensures c.producer_routes.ensures v.script v.state c.args.p c.requires.sound c.requires.producer e in
    let few : AreFew 1 c.args.p F v.state = repeat_least c.args.p e v.state in
    let left : IsLeft 1 v c.note_tick.new.self c.args.out.now c.note_tick.new.out = called_left c.args.p 1 F v c.note_tick.new.self c.args.out.now c.note_tick.new.out fit few c.note_tick.ensures.called in
    let few = left.few in
    let room = c.requires.room in
    let same = ap (λ x. x.spare) c.note_tick.ensures.out in
    omega (arith, few, room, same)

pub returns-clause-went : goal.returns-clause-went
returns-clause-went g c =
    let v : Standing = c.args.self.now in
    let e : List ℕ = name_at v.state.set.names c.args.at in
    let F : Producer → Option Gives = λ k. Some (repeating e k) in
    let fit : AreFit v.script c.args.p F v.state = repeat_fits c.producer_keeps.ensures c.producer_routes.ensures v.script v.state c.args.p c.requires.sound c.requires.producer e in
    subst (λ (acts : List Act). Went v c.route_pending.new.self c.args.out.now c.route_pending.new.out acts) (sym (c.rules_are_calls.ensures.repeats c.args.p e v.state))
    (called_went c.args.p F v c.note_tick.new.self c.route_pending.new.self c.args.out.now c.note_tick.new.out c.route_pending.new.out fit c.note_tick.ensures.called c.route_pending.ensures.went)

pub returns-clause-rooms : goal.returns-clause-rooms
returns-clause-rooms g c =
    let v : Standing = c.args.self.now in
    let e : List ℕ = name_at v.state.set.names c.args.at in
    let F : Producer → Option Gives = λ k. Some (repeating e k) in
    let fit : AreFit v.script c.args.p F v.state = repeat_fits c.producer_keeps.ensures c.producer_routes.ensures v.script v.state c.args.p c.requires.sound c.requires.producer e in
    let few : AreFew 1 c.args.p F v.state = repeat_least c.args.p e v.state in
    let left : IsLeft 1 v c.note_tick.new.self c.args.out.now c.note_tick.new.out = called_left c.args.p 1 F v c.note_tick.new.self c.args.out.now c.note_tick.new.out fit few c.note_tick.ensures.called in
    let its : 0 < length c.note_tick.new.self.pending.numbers → shard_of c.note_tick.new.self.state.set c.note_tick.new.self.pending.entity ≡ shard_of v.state.set e
    = λ some. ap (λ (z : Setting). shard_of z c.note_tick.new.self.pending.entity) left.set_is ∙ ap (shard_of v.state.set) (pending_entity c.args.p 1 e F v c.note_tick.new.self c.args.out.now c.note_tick.new.out (λ k. refl) c.note_tick.ensures.called some) in
    again_leaves (shard_of v.state.set e) left (c.route_pending.ensures.leaves (shard_of v.state.set e) its)
