use Rattle.std.proofs.Common.{sym, refl, ◌∙◌}
use Rattle.log_resume.proofs.StepLaws.{takes, takes_no}
use Rattle.log_resume.proofs.entry.take_entry.Goals as goal

pub returns-then-not-is_within-clause-taken : goal.returns-then-not-is_within-clause-taken
returns-then-not-is_within-clause-taken c =
    takes_no c.args.slots.now.script c.args.slots.now.lists c.args.fact.now c.requires.entry c.requires.lawful c.args.slots.now.lists (sym c.is_within.ensures ∙ c.if-not-is_within.true) refl

pub returns-clause-taken : goal.returns-clause-taken
returns-clause-taken c =
    let e = c.in_ok-taken.ensures.ok in
    takes c.args.slots.now.script c.args.slots.now.lists c.args.fact.now c.requires.entry c.requires.lawful c.in_ok-taken.taken c.enter.new.self.lists (sym c.is_within.ensures ∙ c.if-not-is_within.false) e.answer e.lists
