use Rattle.std.proofs.Common.{◌≡◌, ◌+◌, ◌∙◌, ap, sym, true, arith}
use Rattle.yard_model.specs.declared.charter.Config.{Config}
use Rattle.yard_model.specs.declared.incarnation.Slot.TheVariants as slot
use Rattle.yard_model.specs.Genuine.{is_slot_of}
use Rattle.yard_model.specs.SlotLists.{queue_list}
use Rattle.shard_store.specs.Stores.{entries_at, entries_in, lists_at}
use Rattle.plain_laws.proofs.Booleans.{both, within}
use Rattle.entry_slots.proofs.PlacesLaws.{list_there}
use Rattle.log_resume.specs.Left.{sends_confirmed}
use Rattle.log_resume.proofs.done.confirmed_behind.Goals as goal

pub returns : goal.returns
returns c =
    let there : is_slot_of c.args.charter.now (slot.Queue c.in-Some.producer) ≡ true =
    both _ _ (within 1 c.in-Some.producer (omega (arith, c.in-Some.ensures.value))) (within c.in-Some.producer c.args.charter.now.config.producers (omega (arith, c.in-Some.ensures.value, c.requires.producer))) in
    let list : queue_list (lists_at c.args.charter.now.config c.args.places.now) c.in-Some.producer ≡ c.queue_at.result.now.entries =
    list_there c.args.charter.now c.args.places.now (slot.Queue c.in-Some.producer) there
    ∙ (ap (λ (k : Config). entries_at c.args.places.now (k.shards + c.in-Some.producer)) (sym c.config.ensures.value) ∙ ap entries_in c.queue_at.ensures) in
    c.sends_confirmed.ensures ∙ (ap (sends_confirmed c.args.charter.now c.in-Some.producer) (sym list)
    ∙ ap (λ n. sends_confirmed c.args.charter.now n (queue_list (lists_at c.args.charter.now.config c.args.places.now) n)) c.in-Some.ensures.value)
