use Rattle.std.proofs.Common.{◌<◌, sym, subst}
use Rattle.std.specs.Prelude.{IsTrue}
use Rattle.yard_model.specs.declared.incarnation.Slot.TheVariants as slot
use Rattle.yard_model.specs.Lawful.{own}
use Rattle.yard_model.specs.SlotLists.{shard_list}
use Rattle.yard_model.specs.Words.{at}
use Rattle.shard_store.specs.Reshaped.{IsOwn}
use Rattle.shard_store.specs.Stores.{Shelves, lists_at}
use Rattle.shard_store.proofs.AfterLaws.{own_lists}
use Rattle.shard_store.proofs.stores.Stores.greatest_epoch.Goals as goal

pub returns-clause-own : goal.returns-clause-own
returns-clause-own c = λ s.
    subst (λ (v : Shelves). IsTrue (own v.script (slot.Shard s) (shard_list (lists_at v.script.config v.places) s))) c.self.view_is
    (own_lists c.self.inside.script.value c.self.inside.places.items c.self.invariant.0 (λ k h. subst (λ l. IsOwn (at l k)) c.as_slice.ensures.value (c.greatest_of.ensures.own k (subst (λ n. k < n) (sym c.self.invariant.1) h))) s)
