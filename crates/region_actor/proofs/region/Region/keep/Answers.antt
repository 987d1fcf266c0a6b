use Rattle.std.proofs.Common.{subst, sym, ap, ◌∙◌, arith}
use Rattle.std.specs.Prelude.{IsTrue}
use Rattle.yard_model.specs.Genuine.{is_genuine}
use Rattle.yard_model.specs.Setting.{shard_of}
use Rattle.region_actor.specs.Made.{Made, IsRegion}
use Rattle.region_actor.proofs.RegionLaws.{region_keeps}
use Rattle.region_actor.proofs.region.Region.keep.Goals as goal
use Rattle.region_actor.proofs.region.Region.keep.Goals.{in-Ok, in-Err}

pub invariant_of-self : goal.invariant_of-self
invariant_of-self c = elim c.match-keep.branch [
  | in-Ok w ↦ region_keeps _ _ _ _ _ c.self.inside.kept c.keep.new.self c.self.invariant c.args.s c.args.message.now (omega (arith, c.requires.range, ap (λ (m : Made). m.script.config.shards) c.self.view_is, c.self.invariant.shards_are))
      (subst (λ (m : Made). IsTrue (is_genuine m.script c.args.message.now)) (sym c.self.view_is) c.requires.genuine)
      (c.requires.shard ∙ ap (λ (m : Made). shard_of m.state.set c.args.message.now.entity) (sym c.self.view_is))
      w.in-Ok.ensures.ok c.keep.ensures.shards c.keep.ensures.buffer
  | in-Err w ↦ subst (IsRegion _ _ _ _ _) (sym w.in-Err.ensures.err) c.self.invariant
]
