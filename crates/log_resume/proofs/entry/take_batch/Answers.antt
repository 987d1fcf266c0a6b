use Rattle.std.proofs.Common.{◌++◌, true, false, refl, sym, ◌∙◌, ap, subst, arith}
use Rattle.std.proofs.lemmas.List.{append-nil, take_all}
use Rattle.plain_laws.proofs.Booleans.{true_is_not_false}
use Rattle.yard_model.specs.Lawful.{lawful}
use Rattle.log_resume.specs.Taken.{Stands, Takes}
use Rattle.log_resume.proofs.BatchLaws.{batch_more, batch_not, entry_at, takes_as}
use Rattle.log_resume.proofs.entry.take_batch.Goals as goal

pub take_entry-requires-clause-entry : goal.take_entry-requires-clause-entry
take_entry-requires-clause-entry c = entry_at c.args.facts.now c.loop-fact.fact-index c.fact-item.result c.loop-fact-test.true c.fact-item.is c.requires.entries

pub take_entry-requires-clause-lawful : goal.take_entry-requires-clause-lawful
take_entry-requires-clause-lawful c =
    ap (λ s. lawful s c.loop-fact.slots.lists) c.loop-fact.invariant.script ∙ (c.loop-fact.invariant.stands c.requires.stands.0 c.requires.stands.1).lawful_is

pub loop-fact-init : goal.loop-fact-init
loop-fact-init c = record {
  script = refl;
  stands = λ before st. subst (λ l. Stands c.args.slots.now.script l c.args.slots.now.lists) (sym (append-nil before)) st;
}

pub returns-then-not-branch-clause-taken : goal.returns-then-not-branch-clause-taken
returns-then-not-branch-clause-taken c before st =
    let s = c.args.slots.now.script in
    let t : Takes s c.loop-fact.slots.lists c.fact-item.result false c.take_entry.new.slots.lists =
    takes_as false c.loop-fact.slots.script s c.loop-fact.slots.lists c.fact-item.result c.take_entry.new.slots.lists c.loop-fact.invariant.script c.if-not-branch.true c.in_ok-take_entry.ensures.taken in
    record {
      yes = λ e. absurd (true_is_not_false (sym e));
      no = λ e. batch_not s before c.args.facts.now c.loop-fact.fact-index c.fact-item.result c.loop-fact-test.true c.fact-item.is c.loop-fact.slots.lists c.take_entry.new.slots.lists (c.loop-fact.invariant.stands before st) t;
    }

pub loop-fact-preserved : goal.loop-fact-preserved
loop-fact-preserved c =
    let s = c.args.slots.now.script in
    let t : Takes s c.loop-fact.slots.lists c.fact-item.result true c.take_entry.new.slots.lists =
    takes_as true c.loop-fact.slots.script s c.loop-fact.slots.lists c.fact-item.result c.take_entry.new.slots.lists c.loop-fact.invariant.script c.if-not-branch.false c.in_ok-take_entry.ensures.taken in
    record {
      script = c.take_entry.ensures.script ∙ c.loop-fact.invariant.script;
      stands = λ before st. batch_more s before c.args.facts.now c.loop-fact.fact-index c.fact-item.result c.loop-fact-test.true c.fact-item.is c.loop-fact.slots.lists c.take_entry.new.slots.lists
          (c.loop-fact.invariant.stands before st) (entry_at c.args.facts.now c.loop-fact.fact-index c.fact-item.result c.loop-fact-test.true c.fact-item.is c.requires.entries) t;
    }

pub returns-clause-taken : goal.returns-clause-taken
returns-clause-taken c before st =
    let s = c.args.slots.now.script in
    record {
      yes = λ e. subst (λ l. Stands s (before ++ l) c.loop-fact.slots.lists) (take_all c.loop-fact.fact-index c.args.facts.now (omega (arith, c.loop-fact-test.false))) (c.loop-fact.invariant.stands before st);
      no = λ e. absurd (true_is_not_false e);
    }
