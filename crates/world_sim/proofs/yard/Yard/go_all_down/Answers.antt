use Rattle.std.proofs.Common.{◌≡◌, ◌+◌, ◌-◌, ◌<◌, ◌≤◌, suc, ap, sym, ◌∙◌, arith}
use Rattle.yard_model.specs.declared.charter.Config.{Config}
use Rattle.yard_model.specs.Script.{Script}
use Rattle.yard_model.specs.Words.{numbers}
use Rattle.yard_model.specs.World.{go_down}
use Rattle.actor_laws.proofs.Room.{few_nodes}
use Rattle.world_sim.specs.Steps.{all_down}
use Rattle.world_sim.specs.Yard.{Yard, IsFirm, IsSound}
use Rattle.world_sim.proofs.LoopLaws.{keeps_sound, sound_seen, way_first, way_on, way_cut, way_ends, way_now}
use Rattle.world_sim.proofs.SettleLaws.{downs, downs_next, downs_done, down_going}
use Rattle.world_sim.proofs.StepLaws.{cut_from, step_err, whole_from}
use Rattle.world_sim.proofs.StoresLaws.{node_in}
use Rattle.world_sim.proofs.UpLaws.{firm_of}
use Rattle.world_sim.proofs.yard.Yard.go_all_down.Goals as goal

pub loop-i-init : goal.loop-i-init
loop-i-init g c = record { way = way_first IsSound downs (numbers 1 c.args.self.now.script.config.nodes) (numbers 1 (c.args.self.now.script.config.nodes - 0)) c.args.self.now c.args.facts.now (ap (numbers 1) (omega arith)); within = omega arith }

pub go_down-requires-clause-world : goal.go_down-requires-clause-world
go_down-requires-clause-world g c =
    let n = c.args.self.now.script.config.nodes in
    let r = way_now IsSound downs (numbers 1 n) (numbers (c.loop-i.i + 1) (n - c.loop-i.i)) c.loop-i.i c.args.self.now c.loop-i.self c.args.facts.now c.loop-i.facts c.loop-i.invariant.way c.requires.world in
    (r.0, firm_of c.loop-i.self r.0 r.1)

pub go_down-requires-clause-node : goal.go_down-requires-clause-node
go_down-requires-clause-node g c =
    let s = c.loop-i.invariant.way in
    let count : c.config.result.now.nodes ≡ c.loop-i.self.script.config.nodes = ap (λ (x : Config). x.nodes) c.config.ensures.value ∙ (ap (λ (v : Yard). v.script.config.nodes) c.self.view_is ∙ sym (ap (λ (x : Script). x.config.nodes) s.script_is)) in
    node_in c.loop-i.self.script.config.nodes c.loop-i.i c.in-Some.n c.in-Some.ensures.value (omega (arith, count, c.loop-i-test.true))

pub go_down-requires-clause-version : goal.go_down-requires-clause-version
go_down-requires-clause-version g c =
    let r = c.requires.world in
    let less : c.args.self.now.version < 3000000000 = c.requires.version in
    let more : c.loop-i.self.version ≤ c.args.self.now.version + c.loop-i.i = c.loop-i.invariant.way.counts.version_is in
    let within : c.loop-i.i ≤ c.args.self.now.script.config.nodes = c.loop-i.invariant.within in
    let few : c.args.self.now.script.config.nodes ≤ 16 = few_nodes c.args.self.now.script r.1.stands_is.sound.script_is in
    omega (arith, less, more, within, few)

pub loop-i-preserved : goal.loop-i-preserved
loop-i-preserved g c =
    let n = c.args.self.now.script.config.nodes in
    let count : c.config.result.now.nodes ≡ n = ap (λ (x : Config). x.nodes) c.config.ensures.value ∙ ap (λ (v : Yard). v.script.config.nodes) c.self.view_is in
    let one : n - c.loop-i.i ≡ suc (n - (c.loop-i.i + 1)) = omega (arith, count, c.loop-i-test.true) in
    let r = way_now IsSound downs (numbers 1 n) (numbers (c.loop-i.i + 1) (n - c.loop-i.i)) c.loop-i.i c.args.self.now c.loop-i.self c.args.facts.now c.loop-i.facts c.loop-i.invariant.way c.requires.world in
    let s = whole_from IsFirm IsSound 1 (go_down c.in-Some.n) c.loop-i.self c.go_down.new.self c.loop-i.facts c.go_down.new.facts (firm_of c.loop-i.self) c.in_ok-go_down.ensures in
    record {
      way = way_on IsSound downs (numbers 1 n) (numbers (c.loop-i.i + 1) (n - c.loop-i.i)) (numbers (c.loop-i.i + 1 + 1) (n - (c.loop-i.i + 1))) c.loop-i.i 1 (go_down c.in-Some.n) c.args.self.now c.loop-i.self c.go_down.new.self c.args.facts.now c.loop-i.facts c.go_down.new.facts c.loop-i.invariant.way
          (downs_next c.loop-i.self c.loop-i.i c.in-Some.n (n - c.loop-i.i) (n - (c.loop-i.i + 1)) c.in-Some.ensures.value one) (keeps_sound c.loop-i.self c.go_down.new.self (go_down c.in-Some.n) s.script_is (λ w k. c.standing_is_kept.ensures.goes_down c.loop-i.self.script w c.in-Some.n k.stands_is)) s
          (down_going c.loop-i.self c.go_down.new.self c.in-Some.n c.loop-i.facts c.go_down.new.facts s r);
      within = omega (arith, count, c.loop-i-test.true);
    }

pub returns : goal.returns
returns g c =
    let n = c.args.self.now.script.config.nodes in
    let count : c.config.result.now.nodes ≡ n = ap (λ (x : Config). x.nodes) c.config.ensures.value ∙ ap (λ (v : Yard). v.script.config.nodes) c.self.view_is in
    let few : n ≤ 16 = few_nodes c.args.self.now.script c.requires.world.1.stands_is.sound.script_is in
    let within : c.loop-i.i ≤ n = c.loop-i.invariant.within in
    let none : n - c.loop-i.i ≡ 0 = omega (arith, count, c.loop-i-test.false) in
    way_ends IsSound downs (numbers 1 n) (numbers (c.loop-i.i + 1) (n - c.loop-i.i)) c.loop-i.i 16 c.args.self.now c.loop-i.self c.args.facts.now c.loop-i.facts (sound_seen _) (omega (arith, few, within)) c.loop-i.invariant.way (λ w s. downs_done c.loop-i.i (n - c.loop-i.i) w none)

pub returns-in_err-go_down : goal.returns-in_err-go_down
returns-in_err-go_down g c =
    let n = c.args.self.now.script.config.nodes in
    let count : c.config.result.now.nodes ≡ n = ap (λ (x : Config). x.nodes) c.config.ensures.value ∙ ap (λ (v : Yard). v.script.config.nodes) c.self.view_is in
    let one : n - c.loop-i.i ≡ suc (n - (c.loop-i.i + 1)) = omega (arith, count, c.loop-i-test.true) in
    step_err IsSound 16 (all_down c.args.self.now.script) c.from_residual.result _ _ _ _ c.from_residual.ensures.0
    (way_cut IsSound downs (numbers 1 n) (numbers (c.loop-i.i + 1) (n - c.loop-i.i)) (numbers (c.loop-i.i + 1 + 1) (n - (c.loop-i.i + 1))) c.loop-i.i (go_down c.in-Some.n) c.args.self.now c.loop-i.self c.go_down.new.self c.args.facts.now c.loop-i.facts c.go_down.new.facts c.loop-i.invariant.way
    (downs_next c.loop-i.self c.loop-i.i c.in-Some.n (n - c.loop-i.i) (n - (c.loop-i.i + 1)) c.in-Some.ensures.value one)
    (cut_from IsFirm IsSound (go_down c.in-Some.n) c.loop-i.self c.go_down.new.self c.loop-i.facts c.go_down.new.facts (firm_of c.loop-i.self) c.in_err-go_down.ensures))
