use Rattle.std.proofs.Common.{◌≡◌, ◌<◌, ◌≤◌, ◌-◌, ◌+◌, ◌∙◌, ℕ, List, length, take, sym, ap, subst, true, arith}
use Rattle.yard_model.specs.Genuine.{is_producer}
use Rattle.yard_model.specs.Script.{Script, Setting, names_in}
use Rattle.node_laws.proofs.NodeProducers.{above_zero}
use Rattle.node_laws.specs.NodeStands.{IsSoundNode}
use Rattle.node_core.specs.Again.{NamesSent}
use Rattle.node_core.proofs.RepeatLaws.{names_first, names_next, names_over, names_reach, names_room, names_within}
use Rattle.node_core.proofs.actors.Actors.send_names_again.Goals as goal

pub loop-at-init : goal.loop-at-init
loop-at-init g c =
    let reach : (c.next_waiting-at.result ≤ length c.args.self.now.state.set.names) × NamesSent c.args.p (take c.next_waiting-at.result c.args.self.now.state.set.names) c.args.self.now c.args.self.now c.args.out.now c.args.out.now =
    names_reach c.args.p 0 c.next_waiting-at.result c.tick_laws.ensures c.knows.ensures.script c.requires.sound (above_zero c.args.p c.args.self.now.script.config.producers c.requires.producer).0 (names_first c.args.p c.args.out.now c.requires.sound) c.next_waiting-at.ensures in
    record { within = reach.0; sent = reach.1 }

pub send_again-requires-clause-producer : goal.send_again-requires-clause-producer
send_again-requires-clause-producer g c = subst (λ (s : Script). is_producer s c.args.p ≡ true) (sym c.loop-at.invariant.sent.went.script_is) c.requires.producer

pub send_again-requires-clause-within : goal.send_again-requires-clause-within
send_again-requires-clause-within g c =
    let names_are : length c.names-names.result.now ≡ length c.args.self.now.state.set.names =
    ap length c.names-names.ensures.value ∙ (ap (λ (d : Script). length (names_in d.orders)) c.requires.charter ∙ ap (λ (z : Setting). length z.names) (sym c.requires.sound.set_is)) in
    let inside : c.loop-at.at + 1 ≤ length c.args.self.now.state.set.names = let test = c.loop-at-test.true in omega (arith, test, names_are) in
    let there : c.loop-at.at + 1 ≤ length c.loop-at.self.state.set.names = names_within c.args.p (c.loop-at.at + 1) c.requires.sound c.loop-at.invariant.sent inside in
    omega (arith, there)

pub send_again-requires-clause-sound : goal.send_again-requires-clause-sound
send_again-requires-clause-sound g c = subst (λ (s : Script). IsSoundNode s c.loop-at.self.state) (sym c.loop-at.invariant.sent.went.script_is) c.loop-at.invariant.sent.stands

pub send_again-requires-clause-rooms : goal.send_again-requires-clause-rooms
send_again-requires-clause-rooms g c = (names_room c.args.p c.loop-at.at c.loop-at.invariant.sent c.requires.rooms c.requires.room).1 _

pub send_again-requires-clause-room : goal.send_again-requires-clause-room
send_again-requires-clause-room g c = (names_room c.args.p c.loop-at.at c.loop-at.invariant.sent c.requires.rooms c.requires.room).0

pub next_waiting-at-requires-in-loop-at-clause-producer : goal.next_waiting-at-requires-in-loop-at-clause-producer
next_waiting-at-requires-in-loop-at-clause-producer g c = subst (λ (s : Script). is_producer s c.args.p ≡ true) (sym (c.send_again.ensures.went.script_is ∙ c.loop-at.invariant.sent.went.script_is)) c.requires.producer

pub next_waiting-at-requires-in-loop-at-clause-from : goal.next_waiting-at-requires-in-loop-at-clause-from
next_waiting-at-requires-in-loop-at-clause-from g c =
    let names_are : length c.names-names.result.now ≡ length c.args.self.now.state.set.names =
    ap length c.names-names.ensures.value ∙ (ap (λ (d : Script). length (names_in d.orders)) c.requires.charter ∙ ap (λ (z : Setting). length z.names) (sym c.requires.sound.set_is)) in
    let within : c.loop-at.at < length c.args.self.now.state.set.names = subst (λ n. c.loop-at.at < n) names_are c.loop-at-test.true in
    let sent : NamesSent c.args.p (take (c.loop-at.at + 1) c.args.self.now.state.set.names) c.args.self.now c.send_again.new.self c.args.out.now c.send_again.new.out =
    names_next c.args.p c.loop-at.at c.tick_laws.ensures c.knows.ensures.script c.requires.sound (above_zero c.args.p c.args.self.now.script.config.producers c.requires.producer).0 within c.loop-at.invariant.sent c.send_again.ensures.went c.send_again.ensures.rooms in
    names_within c.args.p (c.loop-at.at + 1) c.requires.sound sent (omega (arith, within))

pub loop-at-preserved : goal.loop-at-preserved
loop-at-preserved g c =
    let names_are : length c.names-names.result.now ≡ length c.args.self.now.state.set.names =
    ap length c.names-names.ensures.value ∙ (ap (λ (d : Script). length (names_in d.orders)) c.requires.charter ∙ ap (λ (z : Setting). length z.names) (sym c.requires.sound.set_is)) in
    let within : c.loop-at.at < length c.args.self.now.state.set.names = subst (λ n. c.loop-at.at < n) names_are c.loop-at-test.true in
    let sent : NamesSent c.args.p (take (c.loop-at.at + 1) c.args.self.now.state.set.names) c.args.self.now c.send_again.new.self c.args.out.now c.send_again.new.out =
    names_next c.args.p c.loop-at.at c.tick_laws.ensures c.knows.ensures.script c.requires.sound (above_zero c.args.p c.args.self.now.script.config.producers c.requires.producer).0 within c.loop-at.invariant.sent c.send_again.ensures.went c.send_again.ensures.rooms in
    let reach : (c.next_waiting-at-in-loop-at.result ≤ length c.args.self.now.state.set.names) × NamesSent c.args.p (take c.next_waiting-at-in-loop-at.result c.args.self.now.state.set.names) c.args.self.now c.send_again.new.self c.args.out.now c.send_again.new.out =
    names_reach c.args.p (c.loop-at.at + 1) c.next_waiting-at-in-loop-at.result c.tick_laws.ensures c.knows.ensures.script c.requires.sound (above_zero c.args.p c.args.self.now.script.config.producers c.requires.producer).0 sent c.next_waiting-at-in-loop-at.ensures in
    record { within = reach.0; sent = reach.1 }

pub loop-at-smaller : goal.loop-at-smaller
loop-at-smaller g c =
    let low = c.next_waiting-at-in-loop-at.ensures.from_first in
    let inside = c.loop-at-test.true in
    omega (arith, low, inside)

pub returns : goal.returns
returns g c =
    let names_are : length c.names-names.result.now ≡ length c.args.self.now.state.set.names =
    ap length c.names-names.ensures.value ∙ (ap (λ (d : Script). length (names_in d.orders)) c.requires.charter ∙ ap (λ (z : Setting). length z.names) (sym c.requires.sound.set_is)) in
    names_over c.args.p c.loop-at.at c.loop-at.invariant.sent (subst (λ n. n ≤ c.loop-at.at) names_are c.loop-at-test.false)
