use Rattle.std.proofs.Common.{◌≡◌, sym, subst}
use Rattle.std.specs.Prelude.{ℕ, List}
use Rattle.yard_model.specs.declared.charter.Sending.{Sending}
use Rattle.yard_model.specs.Script.{sends}
use Rattle.durable_queue.specs.Kept.{AreNamed}
use Rattle.durable_queue.proofs.NamedLaws.{sends_named}
use Rattle.entry_slots.proofs.plans.Plan.new.Goals as goal

pub commands_of-requires : goal.commands_of-requires
commands_of-requires c =
    subst (λ (l : List Sending). AreNamed c.args.names.now l) (sym c.sends.ensures)
    (subst (λ (l : List (List ℕ)). AreNamed l (sends c.args.charter.now c.args.producer)) (sym c.requires) (sends_named c.args.charter.now c.args.producer))
