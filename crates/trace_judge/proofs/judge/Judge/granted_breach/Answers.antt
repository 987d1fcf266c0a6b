use Rattle.std.proofs.Common.{◌≡◌, sym, subst, ap, ◌∙◌, ◌+◌, false}
use Rattle.std.specs.Prelude.{Some, None, ◌==◌, is_none, is_some, not}
use Rattle.yard_model.specs.declared.fact.Fact.TheVariants as fact
use Rattle.yard_model.specs.Genuine.{is_node, is_slot_of}
use Rattle.yard_model.specs.Script.{Script}
use Rattle.yard_model.specs.SlotLists.{SlotLists}
use Rattle.yard_model.specs.SlotReads as reads
use Rattle.yard_model.specs.Trace.{list_at}
use Rattle.judge_laws.specs.declared.breach.Breach.TheVariants as breach
use Rattle.judge_laws.specs.Breached.{granted_breach, slot_list, unless}
use Rattle.judge_laws.specs.Judged.{judged}
use Rattle.trace_judge.specs.Judging.{Judged}
use Rattle.trace_judge.proofs.JudgeLaws.{fourth_fails, some_breach, third_fails}
use Rattle.trace_judge.proofs.judge.Judge.granted_breach.Goals as goal

pub returns-then-not-is_next : goal.returns-then-not-is_next
returns-then-not-is_next c =
    let i = c.self.inside in
    let d : Script = i.slots.script in
    let s = c.args.slot.now in
    subst (λ (v : Judged). granted_breach v.script s (slot_list v.script v.trace s) c.args.epoch c.args.who.now ≡ Some breach.NotNextEpoch) c.self.view_is
    (subst (λ (l : SlotLists). granted_breach d s (list_at l s) c.args.epoch c.args.who.now ≡ Some breach.NotNextEpoch) c.self.invariant.lists
    (third_fails (is_slot_of d s) (not (is_some (reads.holder (list_at i.slots.lists s)))) (c.args.epoch == reads.epoch (list_at i.slots.lists s) + 1) breach.NoSlot breach.GrantedHeld breach.NotNextEpoch (unless (is_node d c.args.who.now) breach.NoNode None)
    (sym c.has.ensures ∙ c.if-not-has.false)
    (ap (λ o. not (is_some o)) (sym c.holder.ensures) ∙ ap not (sym c.is_some.ensures ∙ c.if-is_some.false))
    (ap (λ n. c.args.epoch == n + 1) (sym c.epoch.ensures) ∙ (sym c.is_next.ensures ∙ c.if-not-is_next.true))))

pub returns : goal.returns
returns c =
    let i = c.self.inside in
    let d : Script = i.slots.script in
    let s = c.args.slot.now in
    let fails = subst (λ (v : Judged). judged v.script v.trace (fact.Granted s c.args.epoch c.args.who.now) ≡ false) (sym c.self.view_is) c.requires in
    let known = subst (λ (l : SlotLists). is_none (granted_breach d s (list_at l s) c.args.epoch c.args.who.now) ≡ false) (sym c.self.invariant.lists) (some_breach d i.story.told (fact.Granted s c.args.epoch c.args.who.now) c.self.invariant.shards fails) in
    subst (λ (v : Judged). granted_breach v.script s (slot_list v.script v.trace s) c.args.epoch c.args.who.now ≡ Some breach.NoNode) c.self.view_is
    (subst (λ (l : SlotLists). granted_breach d s (list_at l s) c.args.epoch c.args.who.now ≡ Some breach.NoNode) c.self.invariant.lists
    (fourth_fails (is_slot_of d s) (not (is_some (reads.holder (list_at i.slots.lists s)))) (c.args.epoch == reads.epoch (list_at i.slots.lists s) + 1) (is_node d c.args.who.now) breach.NoSlot breach.GrantedHeld breach.NotNextEpoch breach.NoNode
    (sym c.has.ensures ∙ c.if-not-has.false)
    (ap (λ o. not (is_some o)) (sym c.holder.ensures) ∙ ap not (sym c.is_some.ensures ∙ c.if-is_some.false))
    (ap (λ n. c.args.epoch == n + 1) (sym c.epoch.ensures) ∙ (sym c.is_next.ensures ∙ c.if-not-is_next.false))
    known))
