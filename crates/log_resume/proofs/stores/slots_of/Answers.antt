use Rattle.std.proofs.Common.{◌≡◌, ◌<◌, ◌+◌, ◌-◌, ◌∙◌, [], List, true, false, take, length, ap, sym, subst, arith}
use Rattle.std.specs.Prelude.{get_or}
use Rattle.yard_model.specs.declared.fact.Fact.{Fact}
use Rattle.yard_model.specs.Script.{Script}
use Rattle.log_resume.specs.Restored.{IsForeign, entries}
use Rattle.log_resume.specs.Taken.{Stands, TakesAll}
use Rattle.entry_slots.specs.Entered.{AllLists}
use Rattle.log_resume.proofs.BatchLaws.{entries_all, foreign, next_batch, none_stands}
use Rattle.log_resume.proofs.stores.slots_of.Goals as goal

pub take_batch-requires-clause-stands : goal.take_batch-requires-clause-stands
take_batch-requires-clause-stands c = (
  entries (take c.loop-k.k c.args.batches.now),
  subst (λ s. Stands s (entries (take c.loop-k.k c.args.batches.now)) c.loop-k.slots.lists) (sym c.loop-k.invariant.script) c.loop-k.invariant.stands,
)

pub loop-k-init : goal.loop-k-init
loop-k-init c = record {
  script = ap (λ (v : AllLists). v.script) c.in_ok-slots.ensures;
  stands = none_stands c.args.charter.now c.in_ok-slots.slots.lists (ap (λ (v : AllLists). v.lists) c.in_ok-slots.ensures);
}

pub loop-k-preserved : goal.loop-k-preserved
loop-k-preserved c =
    let s : Script = c.args.charter.now in
    let batches : List (List Fact) = c.args.batches.now in
    let inside : c.loop-k.k < length batches = omega (arith, c.loop-k-test.true) in
    let place : c.loop-k.k + 1 - 1 ≡ c.loop-k.k = omega arith in
    let here : c.get.result.now ≡ get_or batches c.loop-k.k [] = c.get.ensures.batch ∙ ap (λ n. get_or batches n []) place in
    let all : TakesAll c.loop-k.slots.script (entries (take c.loop-k.k batches)) c.get.result.now true c.take_batch.new.slots.lists =
    subst (λ b. TakesAll c.loop-k.slots.script (entries (take c.loop-k.k batches)) c.get.result.now b c.take_batch.new.slots.lists) c.if-not-branch.false
    (c.in_ok-take_batch.ensures.taken (entries (take c.loop-k.k batches)) (subst (λ x. Stands x (entries (take c.loop-k.k batches)) c.loop-k.slots.lists) (sym c.loop-k.invariant.script) c.loop-k.invariant.stands)) in
    record {
      script = c.take_batch.ensures.script ∙ c.loop-k.invariant.script;
      stands = next_batch s batches c.loop-k.k inside c.loop-k.slots.lists c.take_batch.new.slots.lists c.loop-k.invariant.stands c.get.result.now here
          (subst (λ x. TakesAll x (entries (take c.loop-k.k batches)) c.get.result.now true c.take_batch.new.slots.lists) c.loop-k.invariant.script all);
    }

pub returns-then-not-branch-clause-foreign : goal.returns-then-not-branch-clause-foreign
returns-then-not-branch-clause-foreign c k is =
    let s : Script = c.args.charter.now in
    let batches : List (List Fact) = c.args.batches.now in
    let inside : c.loop-k.k < length batches = omega (arith, c.loop-k-test.true) in
    let place : c.loop-k.k + 1 - 1 ≡ c.loop-k.k = omega arith in
    let here : c.get.result.now ≡ get_or batches c.loop-k.k [] = c.get.ensures.batch ∙ ap (λ n. get_or batches n []) place in
    let some : TakesAll c.loop-k.slots.script (entries (take c.loop-k.k batches)) c.get.result.now false c.take_batch.new.slots.lists =
    subst (λ b. TakesAll c.loop-k.slots.script (entries (take c.loop-k.k batches)) c.get.result.now b c.take_batch.new.slots.lists) c.if-not-branch.true
    (c.in_ok-take_batch.ensures.taken (entries (take c.loop-k.k batches)) (subst (λ x. Stands x (entries (take c.loop-k.k batches)) c.loop-k.slots.lists) (sym c.loop-k.invariant.script) c.loop-k.invariant.stands)) in
    let first : IsForeign s batches (c.loop-k.k + 1) = foreign s batches c.loop-k.k inside c.loop-k.slots.lists c.take_batch.new.slots.lists c.loop-k.invariant.stands c.get.result.now here
    (subst (λ x. TakesAll x (entries (take c.loop-k.k batches)) c.get.result.now false c.take_batch.new.slots.lists) c.loop-k.invariant.script some) in
    let same : c.loop-k.k + 1 ≡ k = cc in
    subst (IsForeign s batches) same first

pub returns-clause-stands : goal.returns-clause-stands
returns-clause-stands c = subst (λ l. Stands c.args.charter.now l c.loop-k.slots.lists) (entries_all c.args.batches.now c.loop-k.k (omega (arith, c.loop-k-test.false))) c.loop-k.invariant.stands
