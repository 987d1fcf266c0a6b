use Rattle.std.proofs.Common.{◌≡◌, sym, subst, ap, ◌∙◌, false}
use Rattle.std.specs.Prelude.{Some, None, ◌==◌, is_none, is_some, not}
use Rattle.yard_model.specs.declared.fact.Fact.TheVariants as fact
use Rattle.yard_model.specs.Genuine.{is_slot_of}
use Rattle.yard_model.specs.Script.{Script}
use Rattle.yard_model.specs.SlotLists.{SlotLists}
use Rattle.yard_model.specs.SlotReads as reads
use Rattle.yard_model.specs.Trace.{list_at}
use Rattle.plain_laws.proofs.Booleans.{number_itself}
use Rattle.judge_laws.specs.declared.breach.Breach.TheVariants as breach
use Rattle.judge_laws.specs.Breached.{freed_breach, is_idle, slot_list, unless}
use Rattle.judge_laws.specs.Judged.{judged}
use Rattle.trace_judge.specs.Judging.{Judged}
use Rattle.trace_judge.proofs.JudgeLaws.{fourth_fails, no_number, some_breach, third_fails}
use Rattle.trace_judge.proofs.judge.Judge.freed_breach.Goals as goal

pub returns-then-epoch : goal.returns-then-epoch
returns-then-epoch c =
    let i = c.self.inside in
    let d : Script = i.slots.script in
    let s = c.args.slot.now in
    subst (λ (v : Judged). freed_breach v.script v.trace s (slot_list v.script v.trace s) c.args.epoch ≡ Some breach.NotItsGrant) c.self.view_is
    (subst (λ (l : SlotLists). freed_breach d i.story.told s (list_at l s) c.args.epoch ≡ Some breach.NotItsGrant) c.self.invariant.lists
    (third_fails (is_slot_of d s) (is_some (reads.holder (list_at i.slots.lists s))) (c.args.epoch == reads.epoch (list_at i.slots.lists s)) breach.NoSlot breach.Unheld breach.NotItsGrant (unless (is_idle d i.story.told s) breach.FreedLive None)
    (sym c.has.ensures ∙ c.if-not-has.false)
    (ap is_some (sym c.holder.ensures) ∙ (c.is_none.ensures ∙ ap not c.if-is_none.false))
    (ap (λ n. c.args.epoch == n) (sym c.epoch.ensures) ∙ no_number c.args.epoch c.epoch.result c.if-epoch.true)))

pub returns : goal.returns
returns c =
    let i = c.self.inside in
    let d : Script = i.slots.script in
    let s = c.args.slot.now in
    let fails = subst (λ (v : Judged). judged v.script v.trace (fact.Freed s c.args.epoch c.args.cause) ≡ false) (sym c.self.view_is) c.requires in
    let known = subst (λ (l : SlotLists). is_none (freed_breach d i.story.told s (list_at l s) c.args.epoch) ≡ false) (sym c.self.invariant.lists) (some_breach d i.story.told (fact.Freed s c.args.epoch c.args.cause) c.self.invariant.shards fails) in
    subst (λ (v : Judged). freed_breach v.script v.trace s (slot_list v.script v.trace s) c.args.epoch ≡ Some breach.FreedLive) c.self.view_is
    (subst (λ (l : SlotLists). freed_breach d i.story.told s (list_at l s) c.args.epoch ≡ Some breach.FreedLive) c.self.invariant.lists
    (fourth_fails (is_slot_of d s) (is_some (reads.holder (list_at i.slots.lists s))) (c.args.epoch == reads.epoch (list_at i.slots.lists s)) (is_idle d i.story.told s) breach.NoSlot breach.Unheld breach.NotItsGrant breach.FreedLive
    (sym c.has.ensures ∙ c.if-not-has.false)
    (ap is_some (sym c.holder.ensures) ∙ (c.is_none.ensures ∙ ap not c.if-is_none.false))
    (ap (λ n. c.args.epoch == n) (sym c.epoch.ensures) ∙ number_itself c.args.epoch c.epoch.result c.if-epoch.false)
    known))
