use Rattle.std.proofs.Common.{◌≡◌, ◌<◌, ◌≤◌, ◌+◌, ◌*◌, ◌∙◌, ℕ, length, sym, ap, subst, true, arith}
use Rattle.yard_model.specs.Genuine.{is_shard}
use Rattle.yard_model.specs.Script.{Script}
use Rattle.yard_model.specs.Setting.{names_of}
use Rattle.plain_laws.proofs.Booleans.{is_below}
use Rattle.node_laws.specs.NodeStands.{IsSoundNode}
use Rattle.shard_lease.specs.Meaning.{Meaning}
use Rattle.node_core.specs.Again.{StartedAgain}
use Rattle.node_core.specs.Leased.{Rests}
use Rattle.node_core.specs.Releasing.{kept_all}
use Rattle.node_core.specs.Standing.{Standing}
use Rattle.node_core.proofs.AgainLaws.{started_first, started_next, started_room}
use Rattle.node_core.proofs.actors.Actors.start_all_again.Goals as goal

pub loop-s-init : goal.loop-s-init
loop-s-init g c = started_first c.args.out.now c.requires.sound c.requires.rests

pub start_again-requires-clause-shard : goal.start_again-requires-clause-shard
start_again-requires-clause-shard g c =
    let shards_are : c.shards-s-end.result ≡ c.args.self.now.script.config.shards = c.shards-s-end.ensures.count ∙ (ap (λ (s : Script). s.config.shards) c.self.invariant.0.region_script ∙ ap (λ (v : Standing). v.script.config.shards) c.self.view_is) in
    let within : c.loop-s.s < c.args.self.now.script.config.shards = subst (λ n. c.loop-s.s < n) shards_are c.loop-s-test.true in
    subst (λ (d : Script). is_shard d c.shard_at.result ≡ true) (sym c.loop-s.invariant.script_is) (subst (λ n. is_shard c.args.self.now.script n ≡ true) (sym c.shard_at.ensures) (is_below c.loop-s.s c.args.self.now.script.config.shards within))

pub start_again-requires-clause-sound : goal.start_again-requires-clause-sound
start_again-requires-clause-sound g c = subst (λ (d : Script). IsSoundNode d c.loop-s.self.state) (sym c.loop-s.invariant.script_is) c.loop-s.invariant.stands

pub start_again-requires-clause-rests : goal.start_again-requires-clause-rests
start_again-requires-clause-rests g c = subst (λ (d : Script). Rests (g.L.Leases.meaning c.loop-s.leases) d c.loop-s.self.state) (sym c.loop-s.invariant.script_is) c.loop-s.invariant.gave.rests

pub start_again-requires-clause-room : goal.start_again-requires-clause-room
start_again-requires-clause-room g c =
    let shards_are : c.shards-s-end.result ≡ c.args.self.now.script.config.shards = c.shards-s-end.ensures.count ∙ (ap (λ (s : Script). s.config.shards) c.self.invariant.0.region_script ∙ ap (λ (v : Standing). v.script.config.shards) c.self.view_is) in
    let within : c.loop-s.s < c.args.self.now.script.config.shards = subst (λ n. c.loop-s.s < n) shards_are c.loop-s-test.true in
    subst (λ n. 1 + 2 * length (names_of c.loop-s.self.state.set n) + 4 * kept_all c.loop-s.self ≤ c.loop-s.out.spare) (sym c.shard_at.ensures) (started_room c.loop-s.s within c.loop-s.invariant c.requires.room)

pub loop-s-preserved : goal.loop-s-preserved
loop-s-preserved g c =
    let shards_are : c.shards-s-end.result ≡ c.args.self.now.script.config.shards = c.shards-s-end.ensures.count ∙ (ap (λ (s : Script). s.config.shards) c.self.invariant.0.region_script ∙ ap (λ (v : Standing). v.script.config.shards) c.self.view_is) in
    let within : c.loop-s.s < c.args.self.now.script.config.shards = subst (λ n. c.loop-s.s < n) shards_are c.loop-s-test.true in
    let one : Meaning = g.L.Leases.meaning c.args.leases.now in
    let two : Meaning = g.L.Leases.meaning c.start_again.new.leases in
    let at : c.shard_at.result ≡ c.loop-s.s = c.shard_at.ensures in
    subst (λ n. StartedAgain (n + 1) c.args.self.now c.start_again.new.self one two c.args.out.now c.start_again.new.out) at
    (started_next c.shard_at.result c.tick_laws.ensures c.knows.ensures.script (subst (λ n. is_shard c.args.self.now.script n ≡ true) (sym at) (is_below c.loop-s.s c.args.self.now.script.config.shards within)) (subst (λ n. n < c.args.self.now.script.config.shards) (sym at) within)
    (subst (λ n. StartedAgain n c.args.self.now c.loop-s.self one (g.L.Leases.meaning c.loop-s.leases) c.args.out.now c.loop-s.out) (sym at) c.loop-s.invariant) c.start_again.ensures.script c.start_again.ensures.gave c.start_again.ensures.leaves)

pub returns : goal.returns
returns g c =
    let shards_are : c.shards-s-end.result ≡ c.args.self.now.script.config.shards = c.shards-s-end.ensures.count ∙ (ap (λ (s : Script). s.config.shards) c.self.invariant.0.region_script ∙ ap (λ (v : Standing). v.script.config.shards) c.self.view_is) in
    let all : c.loop-s.s ≡ c.args.self.now.script.config.shards = let past = c.loop-s-test.false in let within = c.loop-s.auto.s-end in omega (arith, past, within, shards_are) in
    subst (λ n. StartedAgain n c.args.self.now c.loop-s.self (g.L.Leases.meaning c.args.leases.now) (g.L.Leases.meaning c.loop-s.leases) c.args.out.now c.loop-s.out) all c.loop-s.invariant
