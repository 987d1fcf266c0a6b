use Rattle.std.proofs.Common.{◌≡◌, true, ap, sym, ◌∙◌, subst}
use Rattle.std.specs.Prelude.{None}
use Rattle.yard_model.specs.declared.incarnation.Slot.{Slot}
use Rattle.yard_model.specs.Genuine.{is_slot_of}
use Rattle.yard_model.specs.Words.{at}
use Rattle.shard_store.specs.Stores.{place_of}
use Rattle.world_sim.specs.Yard.{Yard}
use Rattle.world_sim.proofs.yard.Yard.into_home.Goals as goal

pub into_stores-requires : goal.into_stores-requires
into_stores-requires g c = subst (λ (v : Yard). (t : Slot) → is_slot_of v.book.script t ≡ true → at v.book.holders (place_of v.book.script.config t) ≡ None) (sym c.self.view_is) c.requires

pub returns-clause-charter : goal.returns-clause-charter
returns-clause-charter g c = c.into_charter.ensures ∙ ap (λ (v : Yard). v.script) c.self.view_is

pub returns-clause-script : goal.returns-clause-script
returns-clause-script g c = c.into_stores.ensures.script ∙ ap (λ (v : Yard). v.book.script) c.self.view_is

pub returns-clause-places : goal.returns-clause-places
returns-clause-places g c = c.into_stores.ensures.places ∙ ap (λ (v : Yard). v.book.places) c.self.view_is
