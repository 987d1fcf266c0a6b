-- What is read of one name: its shard's store among all, and what is kept beside.
use Rattle.std.proofs.Common.{◌≡◌, ◌<◌, ◌≤◌, ℕ, ◌+◌, List, [], ◌∷◌, length, sym, subst, ap, ap₂, ◌∙◌, refl, true, false, arith}
use Rattle.std.specs.Prelude.{Bool, ◌==◌, ◌&&◌, IsTrue, Option, Some, None, slice_index_or}
use Rattle.std.specs.List.{list_all, list_any}
use Rattle.std.proofs.lemmas.List.{get_or_default}
use Rattle.yard_model.specs.declared.fact.Fact.{Fact}
use Rattle.yard_model.specs.declared.incarnation.Slot.{Slot}
use Rattle.yard_model.specs.declared.incarnation.Slot.TheVariants as slot
use Rattle.yard_model.specs.declared.state.State.{State}
use Rattle.yard_model.specs.Behaviour.{empty_state, folded, is_in, is_valid}
use Rattle.yard_model.specs.Genuine.{is_brought, is_producer, is_shard, is_slot_of}
use Rattle.yard_model.specs.Lawful.{is_of_shard, own}
use Rattle.yard_model.specs.Script.{IsScript, Script, is_name, names_in, setting}
use Rattle.yard_model.specs.Setting.{shard_of}
use Rattle.yard_model.specs.SlotLists.{SlotLists, queue_list, shard_list}
use Rattle.yard_model.specs.SlotReads.{journal}
use Rattle.yard_model.specs.Trace.{list_at}
use Rattle.yard_model.specs.Words.{at}
use Rattle.plain_laws.proofs.Booleans.{all_get, and_both, at_most, both, is_below, number_itself}
use Rattle.era_laws.proofs.ShapeLaws.{shard_below}
use Rattle.durable_queue.specs.Kept.{kept_of, place_of}
use Rattle.durable_queue.specs.Queue.{Queue}
use Rattle.shard_store.specs.declared.store.Store.{Store}
use Rattle.shard_store.specs.declared.store.Store.TheVariants as store
use Rattle.shard_store.specs.Shelf.{Shelf}
use Rattle.shard_store.specs.Stores.{AreHomes, IsHome, IsThere, Shelves, entries_at, entries_in, lists_at}
use Rattle.shard_store.specs.Stores as stores
use Rattle.entry_slots.specs.Kept.{AreStates, IsPlaced, IsShardOf, state_of}
use Rattle.entry_slots.proofs.PlacesLaws.{list_there, there_is}
use Rattle.entry_slots.proofs.StateLaws.{no_records}

-- there is a shard
pub some_shards : (c : Script) → IsScript c → 0 < c.config.shards
some_shards c ok =
    let a = and_both _ _ ok.config in
    let b = and_both _ _ a.0 in
    let d = and_both _ _ b.0 in
    let e = and_both _ _ d.0 in
    let f = and_both _ _ e.0 in
    let g = and_both (is_in 1 16 c.config.nodes) (is_in 1 128 c.config.shards) f.0 in
    let low : 1 ≤ c.config.shards = at_most 1 c.config.shards (and_both _ _ g.1).0 in
    omega (arith, low)

-- the shard of a name is there
pub its_shard : (c : Script) (e : List ℕ) → IsScript c → is_shard c (shard_of (setting c) e) ≡ true
its_shard c e ok = is_below (shard_of (setting c) e) c.config.shards (shard_below c.config.shards e (some_shards c ok))

pub of_its_shard : (c d : Script) (s : ℕ) (e : List ℕ) → d ≡ c → s ≡ shard_of (setting c) e → is_brought c e ≡ true → is_of_shard d s e ≡ true
of_its_shard c d s e script shard brought =
    ap₂ (λ (x : Script) n. is_of_shard x n e) script shard ∙ both (is_brought c e) (shard_of (setting c) e == shard_of (setting c) e) brought (number_itself (shard_of (setting c) e) (shard_of (setting c) e) refl)

same_shard : (a b : ℕ) → slot.Shard a ≡ slot.Shard b → a ≡ b
same_shard a b e = cc

pub shard_there : (c : Script) (places : List (Option Store)) (s : ℕ) (x : Shelf) → AreHomes c places → is_shard c s ≡ true → at places s ≡ Some (store.Shard x) → IsShardOf c (lists_at c.config places) s x
shard_there c places s x homes h there =
    let home : IsThere c (slot.Shard s) (Some (store.Shard x)) = subst (IsThere c (slot.Shard s)) there (there_is c places (slot.Shard s) homes h) in
    record {
      script = home.script_is;
      shard = same_shard x.shard s home.slot_is;
      list = sym (list_there c places (slot.Shard s) h ∙ ap entries_in there);
    }

pub queue_there : (c : Script) (places : List (Option Store)) (p : ℕ) (x : Queue) → is_producer c p ≡ true → at places (c.config.shards + p) ≡ Some (store.Queue x) → x.entries ≡ list_at (lists_at c.config places) (slot.Queue p)
queue_there c places p x h there = sym (list_there c places (slot.Queue p) h ∙ ap entries_in there)

-- the state of a name
pub state_seen : (c : Script) (places : List (Option Store)) (states : List State) (e : List ℕ) (k : ℕ) → AreHomes c places → AreStates c places states → IsPlaced (names_in c.orders) k e
    → slice_index_or states k (empty_state c.config.kind) ≡ folded c.config.kind (journal e (shard_list (lists_at c.config places) (shard_of (setting c) e)))
state_seen c places states e k homes a p =
    ap (λ i. slice_index_or states i (empty_state c.config.kind)) p.place
    ∙ (a.each e p.named ∙ ap (λ l. folded c.config.kind (journal e l)) (sym (list_there c places (slot.Shard (shard_of (setting c) e)) (its_shard c e homes.script_is))))

-- what is read at its place
pub state_read : (c : Script) (places : List (Option Store)) (states : List State) (e : List ℕ) (k : ℕ) (x : State) → AreStates c places states → IsPlaced (names_in c.orders) k e → x ≡ slice_index_or states k x → x ≡ slice_index_or states k (empty_state c.config.kind)
state_read c places states e k x a p read = read ∙ get_or_default states k x (empty_state c.config.kind) (subst (λ n. k < n) (sym a.sized) p.within)

-- a name that the script doesn't bring has no records in its shard's store
pub no_records_at : (c : Script) (lists : SlotLists) (s : ℕ) (x : Shelf) (e : List ℕ) → IsShardOf c lists s x → own x.script (slot.Shard x.shard) x.entries ≡ true → is_brought c e ≡ false → journal e (shard_list lists s) ≡ []
no_records_at c lists s x e k lawful unbrought =
    ap (journal e) (sym k.list) ∙ no_records c s e x.entries (subst (λ d. own d (slot.Shard s) x.entries ≡ true) k.script (subst (λ n. own x.script (slot.Shard n) x.entries ≡ true) k.shard lawful)) unbrought
