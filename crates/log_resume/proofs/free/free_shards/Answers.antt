use Rattle.std.proofs.Common.{◌≡◌, ◌+◌, ◌∙◌, ap, sym, arith}
use Rattle.yard_model.specs.declared.incarnation.Slot.TheVariants as slot
use Rattle.yard_model.specs.Script.{Script}
use Rattle.yard_model.specs.Lawful.{lawful}
use Rattle.plain_laws.proofs.Booleans.{is_below}
use Rattle.log_resume.proofs.FreedLaws.{freed_steps}
use Rattle.log_resume.proofs.free.free_shards.Goals as goal

pub free-requires-clause-slot : goal.free-requires-clause-slot
free-requires-clause-slot c = is_below c.in-Some.shard c.loop-k.store.script.config.shards (omega (arith, c.in-Some.ensures.value, c.loop-k-test.true, c.requires.count, ap (λ (s : Script). s.config.shards) c.loop-k.invariant.script))

pub free-requires-clause-lawful : goal.free-requires-clause-lawful
free-requires-clause-lawful c = ap (λ s. lawful s c.loop-k.store.lists) c.loop-k.invariant.script ∙ c.loop-k.invariant.law

pub loop-k-preserved : goal.loop-k-preserved
loop-k-preserved c =
    let place : c.in-Some.shard ≡ 0 + c.loop-k.k = omega (arith, c.in-Some.ensures.value) in
    record {
      script = c.free.ensures.script ∙ c.loop-k.invariant.script;
      freed_are = freed_steps c.args.store.now.script slot.Shard 0 c.loop-k.k c.args.store.now.lists c.loop-k.store.lists c.free.new.store.lists (slot.Shard c.in-Some.shard) c.loop-k.invariant.freed_are (ap slot.Shard place) c.in_ok-free.ensures.freed;
      law = ap (λ s. lawful s c.free.new.store.lists) (sym c.loop-k.invariant.script) ∙ c.in_ok-free.ensures.lawful;
    }
