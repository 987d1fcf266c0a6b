use Rattle.std.proofs.Common.{◌≡◌, ◌<◌, ◌≤◌, ◌+◌, ◌-◌, ◌*◌, ◌∙◌, ℕ, length, sym, ap, subst, true, arith}
use Rattle.yard_model.specs.declared.charter.Config.{Config}
use Rattle.yard_model.specs.Genuine.{is_producer}
use Rattle.yard_model.specs.Script.{Script}
use Rattle.node_laws.specs.NodeStands.{IsSoundNode}
use Rattle.node_core.specs.Again.{NamesSent, ProducersSent, queues, repeated, repeated_at}
use Rattle.node_core.specs.Releasing.{HasReleaseRoom}
use Rattle.node_core.proofs.RepeatLaws.{producer_there, producers_first, producers_next, producers_room}
use Rattle.node_core.proofs.actors.Actors.send_all_again.Goals as goal

pub loop-p-init : goal.loop-p-init
loop-p-init g c = producers_first c.args.out.now c.requires.sound

pub send_names_again-requires-clause-producer : goal.send_names_again-requires-clause-producer
send_names_again-requires-clause-producer g c =
    let count : c.config.result.now.producers ≡ c.args.self.now.script.config.producers = ap (λ (k : Config). k.producers) c.config.ensures.value ∙ ap (λ (d : Script). d.config.producers) c.requires.charter in
    let within : c.loop-p.p < c.args.self.now.script.config.producers = subst (λ n. c.loop-p.p < n) count c.loop-p-test.true in
    subst (λ p. is_producer c.loop-p.self.script p ≡ true) (sym c.producer_at.ensures) (subst (λ (d : Script). is_producer d (c.loop-p.p + 1) ≡ true) (sym c.loop-p.invariant.went.script_is) (producer_there c.args.self.now.script c.loop-p.p within))

pub send_names_again-requires-clause-rooms : goal.send_names_again-requires-clause-rooms
send_names_again-requires-clause-rooms g c =
    let count : c.config.result.now.producers ≡ c.args.self.now.script.config.producers = ap (λ (k : Config). k.producers) c.config.ensures.value ∙ ap (λ (d : Script). d.config.producers) c.requires.charter in
    let within : c.loop-p.p < c.args.self.now.script.config.producers = subst (λ n. c.loop-p.p < n) count c.loop-p-test.true in
    subst (λ p. (t : ℕ) → HasReleaseRoom (4 + 2 * length (repeated_at (queues c.loop-p.self.state) c.loop-p.self.state.set t c.loop-p.self.state.set.names p)) c.loop-p.self t) (sym c.producer_at.ensures)
    (producers_room c.loop-p.p c.tick_laws.ensures c.knows.ensures.script c.requires.sound within c.loop-p.invariant c.requires.rooms c.requires.room).0

pub send_names_again-requires-clause-room : goal.send_names_again-requires-clause-room
send_names_again-requires-clause-room g c =
    let count : c.config.result.now.producers ≡ c.args.self.now.script.config.producers = ap (λ (k : Config). k.producers) c.config.ensures.value ∙ ap (λ (d : Script). d.config.producers) c.requires.charter in
    let within : c.loop-p.p < c.args.self.now.script.config.producers = subst (λ n. c.loop-p.p < n) count c.loop-p-test.true in
    subst (λ p. 4 + 4 * length (repeated (queues c.loop-p.self.state) c.loop-p.self.state.set.names p) ≤ c.loop-p.out.spare) (sym c.producer_at.ensures)
    (producers_room c.loop-p.p c.tick_laws.ensures c.knows.ensures.script c.requires.sound within c.loop-p.invariant c.requires.rooms c.requires.room).1

pub returns : goal.returns
returns g c =
    let count : c.config.result.now.producers ≡ c.args.self.now.script.config.producers = ap (λ (k : Config). k.producers) c.config.ensures.value ∙ ap (λ (d : Script). d.config.producers) c.requires.charter in
    let all : c.loop-p.p ≡ c.args.self.now.script.config.producers = let past = c.loop-p-test.false in let within = c.loop-p.auto.p-end in omega (arith, past, within, count) in
    subst (λ n. ProducersSent n c.args.self.now c.loop-p.self c.args.out.now c.loop-p.out) all c.loop-p.invariant

pub loop-p-preserved : goal.loop-p-preserved
loop-p-preserved g c =
    producers_next c.loop-p.p c.requires.sound c.loop-p.invariant
    (subst (λ p. NamesSent p c.loop-p.self.state.set.names c.loop-p.self c.send_names_again.new.self c.loop-p.out c.send_names_again.new.out) c.producer_at.ensures c.send_names_again.ensures)
