-- The store of one slot after an entry was tested.
use Rattle.std.proofs.Common.{◌≡◌, ◌<◌, ◌≤◌, ℕ, ◌+◌, ◌-◌, List, [], ◌∷◌, ◌++◌, sym, subst, ap, ap₂, ◌∙◌, refl, true, false, true≢false, arith}
use Rattle.std.specs.Prelude.{Bool, ◌&&◌, Option, Some, None, slice_set, if◌then◌else◌}
use Rattle.std.proofs.lemmas.List.{set-get_or}
use Rattle.yard_model.specs.declared.fact.Fact.{Fact}
use Rattle.yard_model.specs.declared.incarnation.Incarnation.{Incarnation}
use Rattle.yard_model.specs.declared.incarnation.Slot.{Slot}
use Rattle.yard_model.specs.declared.incarnation.Slot.TheVariants as slot
use Rattle.yard_model.specs.Lawful.{is_held, is_leased, is_shard_entry, may_follow}
use Rattle.yard_model.specs.Words.{at}
use Rattle.yard_model.specs.Script.{Script}
use Rattle.coordinator_state.specs.Coord.{Coord}
use Rattle.durable_queue.specs.Queue.{Queue}
use Rattle.shard_store.specs.declared.store.Store.{Store}
use Rattle.shard_store.specs.declared.store.Store.TheVariants as store
use Rattle.shard_store.specs.Shelf.{Shelf, may}
use Rattle.shard_store.specs.Shelf as shelf
use Rattle.shard_store.specs.Stores.{IsHome, entries_of, script_of, slot_of, spare_of}
use Rattle.entry_judge.specs.Entered.{Enters, EntersCoord, EntersShard, may_enter_coord, with_entry}
use Rattle.entry_judge.specs.Entered as judge
use Rattle.entry_slots.specs.Entered.{EntersCoordRoomy, EntersPlace, EntersQueueRoomy, EntersShelf, StaysPlace}

-- Room was made, and then an entry was tested.

pub shelf_entered : (old mid new : Shelf) (f : Fact) (done : Bool) → mid ≡ record { script = old.script; shard = old.shard; entries = old.entries; spare = mid.spare } → 101 ≤ mid.spare → EntersShard mid f done new → EntersShelf old f done new
shelf_entered old mid new f done is room e =
    let more : new ≡ (if done then shelf.with_entry mid f else mid) = e.store in
    record {
      answer = e.answer ∙ ap (λ (s : Shelf). may_follow s.script (slot.Shard s.shard) s.entries f) is;
      script = ap (λ (s : Shelf). s.script) more ∙ (script_by done ∙ ap (λ (s : Shelf). s.script) is);
      shard = ap (λ (s : Shelf). s.shard) more ∙ (shard_by done ∙ ap (λ (s : Shelf). s.shard) is);
      entries = ap (λ (s : Shelf). s.entries) more ∙ (entries_by done ∙ ap (λ (s : Shelf). if done then s.entries ++ f ∷ [] else s.entries) is);
      spare = subst (λ n. 100 ≤ n) (sym (ap (λ (s : Shelf). s.spare) more)) (spare_by done);
    }
  where
    script_by : (b : Bool) → (if b then shelf.with_entry mid f else mid).script ≡ mid.script
    script_by true = refl
    script_by false = refl

    shard_by : (b : Bool) → (if b then shelf.with_entry mid f else mid).shard ≡ mid.shard
    shard_by true = refl
    shard_by false = refl

    entries_by : (b : Bool) → (if b then shelf.with_entry mid f else mid).entries ≡ (if b then mid.entries ++ f ∷ [] else mid.entries)
    entries_by true = refl
    entries_by false = refl

    spare_by : (b : Bool) → 100 ≤ (if b then shelf.with_entry mid f else mid).spare
    spare_by true = omega (arith, room)
    spare_by false = omega (arith, room)

pub coord_entered : (old mid new : Coord) (f : Fact) (done : Bool) → mid.script ≡ old.script → mid.entries ≡ old.entries → 101 ≤ mid.spare → EntersCoord mid f done new → EntersCoordRoomy old f done new
coord_entered old mid new f done script entries room e = record {
  answer = e.answer ∙ ap₂ (λ (c : Script) l. may_follow c slot.Coordinator l f) script entries;
  script = e.script ∙ script;
  entries = e.entries ∙ ap (λ l. if done then l ++ f ∷ [] else l) entries;
  spare = subst (λ n. 100 ≤ n) (sym e.spare) (spare_by done);
}
  where
    spare_by : (b : Bool) → 100 ≤ (if b then mid.spare - 1 else mid.spare)
    spare_by true = omega (arith, room)
    spare_by false = omega (arith, room)

pub queue_entered : (old mid new : Queue) (f : Fact) (done : Bool) → mid.script ≡ old.script → mid.producer ≡ old.producer → mid.entries ≡ old.entries → 101 ≤ mid.spare → Enters mid f done new → EntersQueueRoomy old f done new
queue_entered old mid new f done script producer entries room e = record {
  answer = e.answer ∙ (ap₂ (λ (c : Script) l. may_follow c (slot.Queue mid.producer) l f) script entries ∙ ap (λ p. may_follow old.script (slot.Queue p) old.entries f) producer);
  script = ap (λ (q : Queue). q.script) e.store ∙ (script_by done ∙ script);
  producer = ap (λ (q : Queue). q.producer) e.store ∙ (producer_by done ∙ producer);
  entries = ap (λ (q : Queue). q.entries) e.store ∙ (entries_by done ∙ ap (λ l. if done then l ++ f ∷ [] else l) entries);
  spare = subst (λ n. 100 ≤ n) (sym (ap (λ (q : Queue). q.spare) e.store)) (spare_by done);
}
  where
    script_by : (b : Bool) → (if b then with_entry mid f else mid).script ≡ mid.script
    script_by true = refl
    script_by false = refl

    producer_by : (b : Bool) → (if b then with_entry mid f else mid).producer ≡ mid.producer
    producer_by true = refl
    producer_by false = refl

    entries_by : (b : Bool) → (if b then with_entry mid f else mid).entries ≡ (if b then mid.entries ++ f ∷ [] else mid.entries)
    entries_by true = refl
    entries_by false = refl

    spare_by : (b : Bool) → 100 ≤ (if b then with_entry mid f else mid).spare
    spare_by true = omega (arith, room)
    spare_by false = omega (arith, room)

-- The same as any store.

pub place_shard : (c : Script) (s : Slot) (x y : Shelf) (f : Fact) (done : Bool) → IsHome c s (store.Shard x) → EntersShelf x f done y → EntersPlace c s (Some (store.Shard x)) f done (Some (store.Shard y))
place_shard c s x y f done h e = record {
  home = record { script_is = e.script ∙ h.script_is; slot_is = ap (λ n. slot.Shard n) e.shard ∙ h.slot_is; spare_is = λ free. e.spare };
  answer = e.answer ∙ ap₂ (λ (d : Script) t. may_follow d t x.entries f) h.script_is h.slot_is;
  list = e.entries;
}

pub stays_shard : (c : Script) (s : Slot) (x y : Shelf) → IsHome c s (store.Shard x) → y ≡ record { script = x.script; shard = x.shard; entries = x.entries; spare = y.spare } → x.spare ≤ y.spare → StaysPlace c s (Some (store.Shard x)) (Some (store.Shard y))
stays_shard c s x y h is more = record {
  home = record {
    script_is = ap (λ (z : Shelf). z.script) is ∙ h.script_is;
    slot_is = ap (λ (z : Shelf). slot.Shard z.shard) is ∙ h.slot_is;
    spare_is = λ free. let before : 100 ≤ x.spare = h.spare_is (ap (λ (z : Shelf). is_held z.entries) (sym is) ∙ free) in omega (arith, before, more);
  };
  list = ap (λ (z : Shelf). z.entries) is;
}

pub place_coordinator : (c : Script) (s : Slot) (x y : Coord) (f : Fact) (done : Bool) → IsHome c s (store.Coordinator x) → EntersCoordRoomy x f done y → EntersPlace c s (Some (store.Coordinator x)) f done (Some (store.Coordinator y))
place_coordinator c s x y f done h e = record {
  home = record { script_is = e.script ∙ h.script_is; slot_is = h.slot_is; spare_is = λ free. e.spare };
  answer = e.answer ∙ ap₂ (λ (d : Script) t. may_follow d t x.entries f) h.script_is h.slot_is;
  list = e.entries;
}

pub place_queue : (c : Script) (s : Slot) (x y : Queue) (f : Fact) (done : Bool) → IsHome c s (store.Queue x) → EntersQueueRoomy x f done y → EntersPlace c s (Some (store.Queue x)) f done (Some (store.Queue y))
place_queue c s x y f done h e = record {
  home = record { script_is = e.script ∙ h.script_is; slot_is = ap (λ n. slot.Queue n) e.producer ∙ h.slot_is; spare_is = λ free. e.spare };
  answer = e.answer ∙ ap₂ (λ (d : Script) t. may_follow d t x.entries f) h.script_is h.slot_is;
  list = e.entries;
}

-- one that is as it was
pub stays_same : (c : Script) (s : Slot) (x : Store) → IsHome c s x → StaysPlace c s (Some x) (Some x)
stays_same c s x h = record { home = h; list = refl }

-- An entry that never follows in a shard's list.

not_after : (a b : Bool) → b ≡ false → false ≡ (a && b)
not_after true b e = sym e
not_after false b e = refl

pub never_shard : (s : Shelf) (f : Fact) → is_shard_entry s.script s.shard s.entries f ≡ false → EntersShard s f false s
never_shard s f e = record { answer = not_after (is_leased s.entries f) (is_shard_entry s.script s.shard s.entries f) e; store = refl }

-- Who holds the slot at a place, where that stays.
pub same_holder : (holders : List (Option Incarnation)) (k : ℕ) → slice_set holders k (at holders k) ≡ holders
same_holder holders k = set-get_or holders k None
