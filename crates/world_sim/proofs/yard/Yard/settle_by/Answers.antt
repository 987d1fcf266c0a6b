use Rattle.std.proofs.Common.{◌+◌, ◌<◌, ◌≤◌, subst, arith}
use Rattle.std.specs.Prelude.{slice_index_or}
use Rattle.world_sim.specs.Stepped.{Stepped}
use Rattle.world_sim.specs.Steps.{all_down, from_up, settled_by}
use Rattle.world_sim.specs.Yard.{IsSound, IsSoundTo, ComesUp, SettlesBy}
use Rattle.world_sim.proofs.LoopLaws.{plain}
use Rattle.world_sim.proofs.SettleLaws.{all_down_to, first_down}
use Rattle.world_sim.proofs.StepLaws.{cut_from, step_cut, step_err, step_then, whole_from}
use Rattle.world_sim.proofs.yard.Yard.settle_by.Goals as goal

pub go_all_down-requires-clause-world : goal.go_all_down-requires-clause-world
go_all_down-requires-clause-world g c = (c.requires.world.0, c.requires.world.1.sound)

pub settle_up-requires-clause-world : goal.settle_up-requires-clause-world
settle_up-requires-clause-world g c =
    let r = c.requires.world in
    let e = c.in_ok-go_all_down.ensures in
    ((all_down c.args.self.now.script r.0).world, (all_down_to c.standing_is_kept.ensures c.args.from c.args.bound c.args.self.now c.go_all_down.new.self c.args.facts.now c.go_all_down.new.facts e r.0 r.1 (e.goes r.0 r.1.sound)).1)

pub settle_up-requires-clause-down : goal.settle_up-requires-clause-down
settle_up-requires-clause-down g c =
    let r = c.requires.world in
    first_down c.args.self.now c.go_all_down.new.self r.0 c.args.facts.now c.go_all_down.new.facts r.1.sound (c.in_ok-go_all_down.ensures.goes r.0 r.1.sound)

pub settle_up-requires-clause-version : goal.settle_up-requires-clause-version
settle_up-requires-clause-version g c =
    let less : c.args.self.now.version < 3000000000 = c.requires.version in
    let more : c.go_all_down.new.self.version ≤ c.args.self.now.version + 16 = c.in_ok-go_all_down.ensures.counts.version_is in
    omega (arith, less, more)

pub settle_up-requires-clause-ups : goal.settle_up-requires-clause-ups
settle_up-requires-clause-ups g c =
    let less : slice_index_or c.args.self.now.ups 0 0 ≤ 4000000000 = c.requires.ups 0 in
    let more : slice_index_or c.go_all_down.new.self.ups 0 0 ≤ slice_index_or c.args.self.now.ups 0 0 + 16 = c.in_ok-go_all_down.ensures.counts.ups_are 0 in
    omega (arith, less, more)

pub returns : goal.returns
returns g c =
    step_then (IsSoundTo (SettlesBy c.args.from c.args.bound)) (IsSoundTo (ComesUp c.args.from c.args.bound)) 16 2 (all_down c.args.self.now.script) (from_up c.args.self.now.script c.args.from c.args.bound) c.settle_up.result c.args.self.now c.go_all_down.new.self c.settle_up.new.self c.args.facts.now c.go_all_down.new.facts c.settle_up.new.facts (whole_from IsSound (IsSoundTo (SettlesBy c.args.from c.args.bound)) 16 (all_down c.args.self.now.script) c.args.self.now c.go_all_down.new.self c.args.facts.now c.go_all_down.new.facts (plain (SettlesBy c.args.from c.args.bound) c.args.self.now) c.in_ok-go_all_down.ensures)
    (all_down_to c.standing_is_kept.ensures c.args.from c.args.bound c.args.self.now c.go_all_down.new.self c.args.facts.now c.go_all_down.new.facts c.in_ok-go_all_down.ensures)
    (subst (λ x. Stepped (IsSoundTo (ComesUp c.args.from c.args.bound)) 2 (from_up x c.args.from c.args.bound) c.settle_up.result c.go_all_down.new.self c.settle_up.new.self c.go_all_down.new.facts c.settle_up.new.facts) c.in_ok-go_all_down.ensures.script_is c.settle_up.ensures)

pub returns-in_err-go_all_down : goal.returns-in_err-go_all_down
returns-in_err-go_all_down g c =
    step_err (IsSoundTo (SettlesBy c.args.from c.args.bound)) 18 (settled_by c.args.self.now.script c.args.from c.args.bound) c.from_residual.result _ _ _ _ c.from_residual.ensures.0
    (step_cut (IsSoundTo (SettlesBy c.args.from c.args.bound)) (all_down c.args.self.now.script) (from_up c.args.self.now.script c.args.from c.args.bound) c.args.self.now c.go_all_down.new.self c.args.facts.now c.go_all_down.new.facts
    (cut_from IsSound (IsSoundTo (SettlesBy c.args.from c.args.bound)) (all_down c.args.self.now.script) c.args.self.now c.go_all_down.new.self c.args.facts.now c.go_all_down.new.facts (plain (SettlesBy c.args.from c.args.bound) c.args.self.now) c.in_err-go_all_down.ensures))
