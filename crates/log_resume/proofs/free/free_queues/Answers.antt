use Rattle.std.proofs.Common.{◌≡◌, ◌+◌, ◌∙◌, ap, sym, arith}
use Rattle.yard_model.specs.declared.incarnation.Slot.TheVariants as slot
use Rattle.yard_model.specs.Script.{Script}
use Rattle.yard_model.specs.Lawful.{lawful}
use Rattle.plain_laws.proofs.Booleans.{both, within}
use Rattle.log_resume.proofs.FreedLaws.{freed_steps}
use Rattle.log_resume.proofs.free.free_queues.Goals as goal

pub free-requires-clause-slot : goal.free-requires-clause-slot
free-requires-clause-slot c = both _ _ (within 1 c.in-Some.producer (omega (arith, c.in-Some.ensures.value))) (within c.in-Some.producer c.loop-k.store.script.config.producers (omega (arith, c.in-Some.ensures.value, c.loop-k-test.true, c.requires.count, ap (λ (s : Script). s.config.producers) c.loop-k.invariant.script)))

pub free-requires-clause-lawful : goal.free-requires-clause-lawful
free-requires-clause-lawful c = ap (λ s. lawful s c.loop-k.store.lists) c.loop-k.invariant.script ∙ c.loop-k.invariant.law

pub loop-k-preserved : goal.loop-k-preserved
loop-k-preserved c =
    let place : c.in-Some.producer ≡ 1 + c.loop-k.k = omega (arith, c.in-Some.ensures.value) in
    record {
      script = c.free.ensures.script ∙ c.loop-k.invariant.script;
      freed_are = freed_steps c.args.store.now.script slot.Queue 1 c.loop-k.k c.args.store.now.lists c.loop-k.store.lists c.free.new.store.lists (slot.Queue c.in-Some.producer) c.loop-k.invariant.freed_are (ap slot.Queue place) c.in_ok-free.ensures.freed;
      law = ap (λ s. lawful s c.free.new.store.lists) (sym c.loop-k.invariant.script) ∙ c.in_ok-free.ensures.lawful;
    }
