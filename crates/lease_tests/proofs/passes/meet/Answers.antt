use Rattle.std.proofs.Common.{ap, ◌∙◌}
use Rattle.yard_model.specs.Genuine.{is_slot_of}
use Rattle.yard_model.specs.Script.{Script}
use Rattle.lease_tests.proofs.passes.meet.Goals as goal

pub meet-pass-requires-clause-slot : goal.meet-pass-requires-clause-slot
meet-pass-requires-clause-slot c = ap (λ (y : Script). is_slot_of y c.args.slot) c.requires.script ∙ c.requires.slot

pub check-published-requires-clause-slot : goal.check-published-requires-clause-slot
check-published-requires-clause-slot c = ap (λ (y : Script). is_slot_of y c.args.slot) c.requires.script ∙ c.requires.slot
