use Rattle.std.proofs.Common.{◌≡◌, sym, ap, ◌∙◌}
use Rattle.std.specs.Prelude.{None, Some}
use Rattle.yard_model.specs.Script.{Script, setting}
use Rattle.yard_model.specs.Trace.{slot_of}
use Rattle.lease_table.specs.Belongs.{charter_of}
use Rattle.node_runner.proofs.ToldLaws.{told_one, told_none}
use Rattle.node_runner.proofs.telling.publish_fact.Goals as goal

pub returns-in_default-clause-told : goal.returns-in_default-clause-told
returns-in_default-clause-told g c =
    let none : slot_of (setting (charter_of c.args.table.now)) c.args.fact.now ≡ None = ap (λ (y : Script). slot_of (setting y) c.args.fact.now) (sym c.requires.charter) ∙ (sym c.slot_of.ensures ∙ c.in_default.is) in
    told_none (charter_of c.args.table.now) c.args.pass.now c.args.node.now.state c.args.fact.now none

pub returns-clause-told : goal.returns-clause-told
returns-clause-told g c =
    let is : slot_of (setting (charter_of c.args.table.now)) c.args.fact.now ≡ Some c.in-Some.slot = ap (λ (y : Script). slot_of (setting y) c.args.fact.now) (sym c.requires.charter) ∙ (sym c.slot_of.ensures ∙ c.in-Some.is) in
    told_one (charter_of c.args.table.now) c.publish_slot.new.pass c.args.node.now.state c.args.fact.now c.in-Some.slot is c.publish_slot.ensures.shown
