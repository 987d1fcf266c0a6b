use Rattle.std.proofs.Common.{ap, sym, ◌∙◌, subst}
use Rattle.std.specs.Prelude.{fold}
use Rattle.yard_model.specs.Era.{opening_of}
use Rattle.yard_model.specs.Script.{Script}
use Rattle.yard_model.specs.World.{number_step}
use Rattle.shard_store.specs.Stores.{lists_at}
use Rattle.world_sim.specs.Given.{IsGiven}
use Rattle.world_sim.proofs.world.World.from_stores.Goals as goal

pub from_given-requires-clause-given : goal.from_given-requires-clause-given
from_given-requires-clause-given g c = subst (λ (s : Script). IsGiven s (g.B.Behaviour.version_of c.args.behaviour) (lists_at s.config c.args.stores.places)) (sym c.in_ok-own.ensures) c.requires.given

pub from_given-requires-clause-number : goal.from_given-requires-clause-number
from_given-requires-clause-number g c = λ v.
    c.greatest_number-number.ensures v
    ∙ ap (λ (s : Script). fold number_step 0 (opening_of v (lists_at s.config c.args.stores.places))) (c.requires.script ∙ sym c.in_ok-own.ensures)
