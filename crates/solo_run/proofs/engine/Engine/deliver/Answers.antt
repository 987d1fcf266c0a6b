use Rattle.std.proofs.Common.{◌≡◌, ◌-◌, ap, sym, ◌∙◌}
use Rattle.std.specs.Prelude.{Option, Some, None, slice_get}
use Rattle.yard_model.specs.declared.packet.Message.{Message}
use Rattle.solo_run.specs.Facts.{facts_of, with_one}
use Rattle.solo_run.proofs.KnownLaws.{on_ok_same, all_at}
use Rattle.yard_model.specs.Behaviour.{is_of_kind}
use Rattle.solo_run.proofs.engine.Engine.deliver.Goals as goal

pub returns-in-Some-clause-lists : goal.returns-in-Some-clause-lists
returns-in-Some-clause-lists g c =
    let found : slice_get c.args.self.now.posted (c.args.number - 1) ≡ Some c.in-Some.message = sym c.at.ensures ∙ c.in-Some.is in
    on_ok_same _ _ _ c.take.result c.take.ensures.lists (ap (λ (o : Option Message). with_one o c.args.self.now.config (facts_of c.args.self.now.lists.items)) (sym found))

pub returns-in-None-clause-lists : goal.returns-in-None-clause-lists
returns-in-None-clause-lists g c =
    let found : slice_get c.args.self.now.posted (c.args.number - 1) ≡ None = sym c.at.ensures ∙ c.in-None.is in
    ap (λ (o : Option Message). with_one o c.args.self.now.config (facts_of c.args.self.now.lists.items)) (sym found)

pub take-requires-clause-command : goal.take-requires-clause-command
take-requires-clause-command g c =
    let found : slice_get c.args.self.now.posted (c.args.number - 1) ≡ Some c.in-Some.message = sym c.at.ensures ∙ c.in-Some.is in
    all_at (λ (m : Message). is_of_kind c.args.self.now.config.kind m.command) c.args.self.now.posted (c.args.number - 1) c.in-Some.message c.requires.knows.commands found
