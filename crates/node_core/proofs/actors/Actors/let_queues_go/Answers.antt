use Rattle.std.proofs.Common.{◌≡◌, ◌<◌, ◌+◌, ◌∙◌, ℕ, map, sym, ap, subst, refl, true, arith}
use Rattle.std.specs.Prelude.{nat_le}
use Rattle.yard_model.specs.declared.incarnation.Slot.TheVariants as slot
use Rattle.yard_model.specs.Genuine.{is_producer}
use Rattle.yard_model.specs.Script.{Script}
use Rattle.yard_model.specs.Words.{numbers}
use Rattle.plain_laws.proofs.Booleans.{both, within as within_of}
use Rattle.shard_lease.specs.Meaning.{Meaning}
use Rattle.node_core.specs.Leased.{Rests}
use Rattle.node_core.specs.LetGo.{AreFreed}
use Rattle.node_core.specs.Standing.{Standing}
use Rattle.node_core.proofs.CrashLaws.{freed_nothing, freed_next, freed_room}
use Rattle.node_core.proofs.actors.Actors.let_queues_go.Goals as goal

pub loop-place-init : goal.loop-place-init
loop-place-init g c = freed_nothing c.args.self.now (g.L.Leases.meaning c.args.leases.now) c.args.out.now c.requires.ending c.requires.rests

pub let_queue_go-requires-clause-producer : goal.let_queue_go-requires-clause-producer
let_queue_go-requires-clause-producer g c =
    let script : Script = c.args.self.now.script in
    let total : c.self.inside.queues ≡ c.args.self.now.script.config.producers = c.self.invariant.1.1 ∙ ap (λ (v : Standing). v.script.config.producers) c.self.view_is in
    let within : c.loop-place.place < script.config.producers = subst (λ n. c.loop-place.place < n) total c.loop-place-test.true in
    let valid : is_producer script c.producer_at.result ≡ true = let at = c.producer_at.ensures in both (nat_le 1 c.producer_at.result) (nat_le c.producer_at.result script.config.producers) (within_of 1 c.producer_at.result (omega (arith, at))) (within_of c.producer_at.result script.config.producers (omega (arith, at, within))) in
    subst (λ (d : Script). is_producer d c.producer_at.result ≡ true) (sym c.loop-place.invariant.script_is) valid

pub let_queue_go-requires-clause-ending : goal.let_queue_go-requires-clause-ending
let_queue_go-requires-clause-ending g c = c.loop-place.invariant.ending

pub let_queue_go-requires-clause-room : goal.let_queue_go-requires-clause-room
let_queue_go-requires-clause-room g c =
    let script : Script = c.args.self.now.script in
    let total : c.self.inside.queues ≡ c.args.self.now.script.config.producers = c.self.invariant.1.1 ∙ ap (λ (v : Standing). v.script.config.producers) c.self.view_is in
    freed_room slot.Queue 1 c.loop-place.place script.config.producers c.args.self.now c.loop-place.self _ _ c.args.out.now c.loop-place.out c.loop-place.invariant c.requires.room (subst (λ n. c.loop-place.place < n) total c.loop-place-test.true)

pub let_queue_go-requires-clause-rests : goal.let_queue_go-requires-clause-rests
let_queue_go-requires-clause-rests g c = subst (λ (d : Script). Rests (g.L.Leases.meaning c.loop-place.leases) d c.loop-place.self.state) (sym c.loop-place.invariant.script_is) c.loop-place.invariant.goes.rests

pub loop-place-preserved : goal.loop-place-preserved
loop-place-preserved g c =
    let script : Script = c.args.self.now.script in
    let total : c.self.inside.queues ≡ c.args.self.now.script.config.producers = c.self.invariant.1.1 ∙ ap (λ (v : Standing). v.script.config.producers) c.self.view_is in
    let within : c.loop-place.place < script.config.producers = subst (λ n. c.loop-place.place < n) total c.loop-place-test.true in
    let valid : is_producer script c.producer_at.result ≡ true = let at = c.producer_at.ensures in both (nat_le 1 c.producer_at.result) (nat_le c.producer_at.result script.config.producers) (within_of 1 c.producer_at.result (omega (arith, at))) (within_of c.producer_at.result script.config.producers (omega (arith, at, within))) in
    freed_next slot.Queue 1 c.loop-place.place c.producer_at.result c.args.self.now c.loop-place.self c.let_queue_go.new.self (g.L.Leases.meaning c.args.leases.now) (g.L.Leases.meaning c.loop-place.leases) (g.L.Leases.meaning c.let_queue_go.new.leases) c.args.out.now c.loop-place.out c.let_queue_go.new.out (λ x y. refl)
    (let at = c.producer_at.ensures in let e : 1 + c.loop-place.place ≡ c.producer_at.result = omega (arith, at) in e) valid c.loop-place.invariant c.let_queue_go.ensures

pub returns : goal.returns
returns g c =
    let script : Script = c.args.self.now.script in
    let total : c.self.inside.queues ≡ c.args.self.now.script.config.producers = c.self.invariant.1.1 ∙ ap (λ (v : Standing). v.script.config.producers) c.self.view_is in
    let all : c.loop-place.place ≡ script.config.producers = let past = c.loop-place-test.false in let within = c.loop-place.auto.place-end in omega (arith, past, within, total) in
    subst (λ n. AreFreed (map slot.Queue (numbers 1 n)) c.args.self.now c.loop-place.self (g.L.Leases.meaning c.args.leases.now) (g.L.Leases.meaning c.loop-place.leases) c.args.out.now c.loop-place.out) all c.loop-place.invariant
