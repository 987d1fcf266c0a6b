use Rattle.std.proofs.Common.{◌≡◌, ◌<◌, ◌+◌, ◌∙◌, ℕ, map, sym, ap, subst, refl, true, arith}
use Rattle.std.specs.Prelude.{nat_le}
use Rattle.yard_model.specs.declared.incarnation.Slot.TheVariants as slot
use Rattle.yard_model.specs.Genuine.{is_shard}
use Rattle.yard_model.specs.Script.{Script}
use Rattle.yard_model.specs.Words.{numbers}
use Rattle.plain_laws.proofs.Booleans.{is_below}
use Rattle.shard_lease.specs.Meaning.{Meaning}
use Rattle.node_core.specs.Leased.{Rests}
use Rattle.node_core.specs.LetGo.{AreFreed}
use Rattle.node_core.specs.Standing.{Standing}
use Rattle.node_core.proofs.CrashLaws.{freed_nothing, freed_next, freed_room}
use Rattle.node_core.proofs.actors.Actors.let_shards_go.Goals as goal

pub loop-s-init : goal.loop-s-init
loop-s-init g c = freed_nothing c.args.self.now (g.L.Leases.meaning c.args.leases.now) c.args.out.now c.requires.ending c.requires.rests

pub let_shard_go-requires-clause-shard : goal.let_shard_go-requires-clause-shard
let_shard_go-requires-clause-shard g c =
    let script : Script = c.args.self.now.script in
    let total : c.shards-s-end.result ≡ c.args.self.now.script.config.shards = c.shards-s-end.ensures.count ∙ (ap (λ (d : Script). d.config.shards) c.self.invariant.0.region_script ∙ ap (λ (v : Standing). v.script.config.shards) c.self.view_is) in
    let within : c.loop-s.s < script.config.shards = subst (λ n. c.loop-s.s < n) total c.loop-s-test.true in
    let valid : is_shard script c.shard_at.result ≡ true = is_below c.shard_at.result script.config.shards (subst (λ n. n < script.config.shards) (sym c.shard_at.ensures) within) in
    subst (λ (d : Script). is_shard d c.shard_at.result ≡ true) (sym c.loop-s.invariant.script_is) valid

pub let_shard_go-requires-clause-ending : goal.let_shard_go-requires-clause-ending
let_shard_go-requires-clause-ending g c = c.loop-s.invariant.ending

pub let_shard_go-requires-clause-room : goal.let_shard_go-requires-clause-room
let_shard_go-requires-clause-room g c =
    let script : Script = c.args.self.now.script in
    let total : c.shards-s-end.result ≡ c.args.self.now.script.config.shards = c.shards-s-end.ensures.count ∙ (ap (λ (d : Script). d.config.shards) c.self.invariant.0.region_script ∙ ap (λ (v : Standing). v.script.config.shards) c.self.view_is) in
    freed_room slot.Shard 0 c.loop-s.s script.config.shards c.args.self.now c.loop-s.self _ _ c.args.out.now c.loop-s.out c.loop-s.invariant c.requires.room (subst (λ n. c.loop-s.s < n) total c.loop-s-test.true)

pub let_shard_go-requires-clause-rests : goal.let_shard_go-requires-clause-rests
let_shard_go-requires-clause-rests g c = subst (λ (d : Script). Rests (g.L.Leases.meaning c.loop-s.leases) d c.loop-s.self.state) (sym c.loop-s.invariant.script_is) c.loop-s.invariant.goes.rests

pub loop-s-preserved : goal.loop-s-preserved
loop-s-preserved g c =
    let script : Script = c.args.self.now.script in
    let total : c.shards-s-end.result ≡ c.args.self.now.script.config.shards = c.shards-s-end.ensures.count ∙ (ap (λ (d : Script). d.config.shards) c.self.invariant.0.region_script ∙ ap (λ (v : Standing). v.script.config.shards) c.self.view_is) in
    let within : c.loop-s.s < script.config.shards = subst (λ n. c.loop-s.s < n) total c.loop-s-test.true in
    let valid : is_shard script c.shard_at.result ≡ true = is_below c.shard_at.result script.config.shards (subst (λ n. n < script.config.shards) (sym c.shard_at.ensures) within) in
    freed_next slot.Shard 0 c.loop-s.s c.shard_at.result c.args.self.now c.loop-s.self c.let_shard_go.new.self (g.L.Leases.meaning c.args.leases.now) (g.L.Leases.meaning c.loop-s.leases) (g.L.Leases.meaning c.let_shard_go.new.leases) c.args.out.now c.loop-s.out c.let_shard_go.new.out (λ x y. refl)
    (let e : 0 + c.loop-s.s ≡ c.loop-s.s = omega arith in e ∙ sym c.shard_at.ensures) valid c.loop-s.invariant c.let_shard_go.ensures

pub returns : goal.returns
returns g c =
    let script : Script = c.args.self.now.script in
    let total : c.shards-s-end.result ≡ c.args.self.now.script.config.shards = c.shards-s-end.ensures.count ∙ (ap (λ (d : Script). d.config.shards) c.self.invariant.0.region_script ∙ ap (λ (v : Standing). v.script.config.shards) c.self.view_is) in
    let all : c.loop-s.s ≡ script.config.shards = let past = c.loop-s-test.false in let within = c.loop-s.auto.s-end in omega (arith, past, within, total) in
    subst (λ n. AreFreed (map slot.Shard (numbers 0 n)) c.args.self.now c.loop-s.self (g.L.Leases.meaning c.args.leases.now) (g.L.Leases.meaning c.loop-s.leases) c.args.out.now c.loop-s.out) all c.loop-s.invariant
