use Rattle.std.proofs.Common.{◌≡◌, ◌<◌, ◌≤◌, sym, subst, arith}
use Rattle.std.specs.Prelude.{ℕ, slice_index_or}
use Rattle.yard_model.specs.World.{World, settle_bound}
use Rattle.world_sim.specs.Stepped.{Stepped}
use Rattle.world_sim.specs.Steps.{settled_by}
use Rattle.world_sim.specs.Yard.{Yard, IsSound, IsSoundTo, SettlesBy}
use Rattle.world_sim.proofs.SettleLaws.{settle_stepped, settles_by}
use Rattle.world_sim.proofs.yard.Yard.settle.Goals as goal

pub settle_bound-bound-requires-clause-world : goal.settle_bound-bound-requires-clause-world
settle_bound-bound-requires-clause-world g c = (c.requires.world.0, subst (λ (v : Yard). IsSound v c.requires.world.0) (sym c.begin-from.ensures.same) c.requires.world.1.sound)

pub settle_bound-bound-requires-clause-ordered : goal.settle_bound-bound-requires-clause-ordered
settle_bound-bound-requires-clause-ordered g c = subst (λ (v : Yard). (k : ℕ) → slice_index_or v.ordered k 0 ≤ 3000000) (sym c.begin-from.ensures.same) c.requires.ordered

pub settle_by-requires-clause-world : goal.settle_by-requires-clause-world
settle_by-requires-clause-world g c =
    let w = c.requires.world.0 in
    let bound = subst (λ (v : Yard). (w : World) → IsSound v w → c.settle_bound-bound.result ≡ settle_bound w) c.begin-from.ensures.same c.settle_bound-bound.ensures in (
      w,
      subst (λ (v : Yard). IsSoundTo (SettlesBy c.begin-from.result c.settle_bound-bound.result) v w) (sym c.begin-from.ensures.same)
          (settles_by c.args.self.now w c.begin-from.result c.settle_bound-bound.result c.begin-from.ensures.from (bound w c.requires.world.1.sound) c.requires.world.1),
    )

pub settle_by-requires-clause-from : goal.settle_by-requires-clause-from
settle_by-requires-clause-from g c = let fits = c.begin-from.ensures.fits in omega (arith, fits)

pub settle_by-requires-clause-version : goal.settle_by-requires-clause-version
settle_by-requires-clause-version g c = subst (λ (v : Yard). v.version < 3000000000) (sym c.begin-from.ensures.same) c.requires.version

pub settle_by-requires-clause-ups : goal.settle_by-requires-clause-ups
settle_by-requires-clause-ups g c = subst (λ (v : Yard). (k : ℕ) → slice_index_or v.ups k 0 ≤ 4000000000) (sym c.begin-from.ensures.same) c.requires.ups

pub returns : goal.returns
returns g c =
    settle_stepped c.args.self.now c.settle_by.new.self c.begin-from.result c.settle_bound-bound.result c.settle_by.result c.args.facts.now c.settle_by.new.facts c.begin-from.ensures.from
    (subst (λ (v : Yard). (w : World) → IsSound v w → c.settle_bound-bound.result ≡ settle_bound w) c.begin-from.ensures.same c.settle_bound-bound.ensures)
    (subst (λ (v : Yard). Stepped (IsSoundTo (SettlesBy c.begin-from.result c.settle_bound-bound.result)) 18 (settled_by v.script c.begin-from.result c.settle_bound-bound.result) c.settle_by.result v c.settle_by.new.self c.args.facts.now c.settle_by.new.facts) c.begin-from.ensures.same c.settle_by.ensures)
