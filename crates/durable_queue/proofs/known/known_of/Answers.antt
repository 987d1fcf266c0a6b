use Rattle.std.proofs.Common.{ℕ, List, sym, subst}
use Rattle.yard_model.specs.declared.charter.Sending.{Sending}
use Rattle.yard_model.specs.Script.{sends}
use Rattle.durable_queue.specs.Kept.{AreNamed}
use Rattle.durable_queue.proofs.NamedLaws.{sends_named}
use Rattle.durable_queue.proofs.known.known_of.Goals as goal

pub plans_of-requires : goal.plans_of-requires
plans_of-requires c =
    subst (λ (l : List Sending). AreNamed c.in_ok-names.names l) (sym c.sends-sends.ensures)
    (subst (λ (l : List (List ℕ)). AreNamed l (sends c.args.charter.now c.args.producer)) (sym c.in_ok-names.ensures.names) (sends_named c.args.charter.now c.args.producer))
