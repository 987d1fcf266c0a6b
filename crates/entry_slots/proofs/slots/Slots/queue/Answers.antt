use Rattle.std.proofs.Common.{◌≡◌, ◌+◌, sym, subst, ap, ◌∙◌}
use Rattle.std.specs.Prelude.{IsTrue, Some}
use Rattle.yard_model.specs.declared.incarnation.Slot.TheVariants as slot
use Rattle.yard_model.specs.Genuine.{is_producer}
use Rattle.yard_model.specs.Script.{Script}
use Rattle.yard_model.specs.Trace.{list_at}
use Rattle.yard_model.specs.Words.{at}
use Rattle.shard_store.specs.declared.store.Store.TheVariants as store
use Rattle.entry_slots.specs.Entered.{AllLists}
use Rattle.entry_slots.proofs.SeenLaws.{queue_there}
use Rattle.entry_slots.proofs.slots.Slots.queue.Goals as goal

pub returns : goal.returns
returns c =
    let i = c.self.inside in
    let p = c.args.producer in
    queue_there i.charter i.stores.places p c.queue.result.now (subst (λ (v : AllLists). IsTrue (is_producer v.script p)) (sym c.self.view_is) c.requires)
    (subst (λ (d : Script). at i.stores.places (d.config.shards + p) ≡ Some (store.Queue c.queue.result.now)) c.self.invariant.script_is c.queue.ensures)
    ∙ ap (λ (v : AllLists). list_at v.lists (slot.Queue p)) c.self.view_is
