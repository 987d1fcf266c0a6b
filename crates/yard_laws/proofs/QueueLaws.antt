-- The entries that a producer's rules give may follow in its queue's list.
use Rattle.std.proofs.Common.{◌≡◌, ◌≤◌, ℕ, ap, ◌∙◌, refl}
use Rattle.std.specs.Prelude.{Bool, true, false, ◌==◌, ◌&&◌, nat_lt, nat_le, ◌↔◌, List, [], ◌∷◌, fold, Some, if◌then◌else◌, IsTrue}
use Rattle.std.specs.List.{slice_get}
use Rattle.std.specs.Option.{option_map_or}
use Rattle.yard_model.specs.declared.fact.Fact.TheVariants as fact
use Rattle.yard_model.specs.declared.charter.Sending.{Sending}
use Rattle.yard_model.specs.declared.incarnation.Slot.{Slot}
use Rattle.yard_model.specs.declared.incarnation.Slot.TheVariants as slot
use Rattle.yard_model.specs.declared.incarnation.Cause.TheVariants as cause
use Rattle.yard_model.specs.Script.{Script, sends}
use Rattle.yard_model.specs.Equal.{is_sending, is_slot}
use Rattle.yard_model.specs.Lawful.{own, is_held, may_follow}
use Rattle.yard_model.specs.Move.{told}
use Rattle.yard_model.specs.SlotReads.{epoch, queued, confirmed, queued_in_all}
use Rattle.yard_model.specs.Producer.{Producer, queue_step, next_sending}
use Rattle.yard_model.proofs.FollowLaws.{own_more}
use Rattle.plain_laws.proofs.Booleans.{both, number_itself, within}
use Rattle.yard_laws.specs.Queues.{ProducerKeepsQueue}

-- a send that is the next in order may be queued
next_follows : (c : Script) (st : Producer) (x : Sending) → ((a b : Sending) → IsTrue (is_sending a b) ↔ (a ≡ b)) → is_held st.entries ≡ true → next_sending (sends c st.number) st ≡ Some x
    → may_follow c (slot.Queue st.number) st.entries (fact.Queued st.number x.entity x.number x.command) ≡ true
next_follows c st x same held next =
    let is : is_sending (record { entity = x.entity; number = x.number; command = x.command }) x ≡ true = (same (record { entity = x.entity; number = x.number; command = x.command }) x).1 refl in
    let found : option_map_or (is_sending (record { entity = x.entity; number = x.number; command = x.command })) (slice_get (sends c st.number) (queued_in_all st.entries)) false ≡ true =
    ap (λ o. option_map_or (is_sending (record { entity = x.entity; number = x.number; command = x.command })) o false) next ∙ is in
    both (is_held st.entries) _ held (both (st.number == st.number) _ (number_itself st.number st.number refl) found)

-- a queued number above the confirmed one may be confirmed
confirmed_follows : (c : Script) (st : Producer) (e : List ℕ) (n : ℕ) → is_held st.entries ≡ true → nat_lt (confirmed e st.entries) n ≡ true → n ≤ queued e st.entries
    → may_follow c (slot.Queue st.number) st.entries (fact.Confirmed st.number e n) ≡ true
confirmed_follows c st e n held rises there =
    both (is_held st.entries) ((st.number == st.number) && nat_lt (confirmed e st.entries) n && nat_le n (queued e st.entries)) held
    (both ((st.number == st.number) && nat_lt (confirmed e st.entries) n) (nat_le n (queued e st.entries))
    (both (st.number == st.number) (nat_lt (confirmed e st.entries) n) (number_itself st.number st.number refl) rises) (within n (queued e st.entries) there))

freed_follows : (c : Script) (st : Producer) → ((a b : Slot) → IsTrue (is_slot a b) ↔ (a ≡ b)) → is_held st.entries ≡ true
    → may_follow c (slot.Queue st.number) st.entries (fact.Freed (slot.Queue st.number) (epoch st.entries) cause.Released) ≡ true
freed_follows c st same held =
    both (is_held st.entries && (epoch st.entries == epoch st.entries)) (is_slot (slot.Queue st.number) (slot.Queue st.number))
    (both (is_held st.entries) (epoch st.entries == epoch st.entries) held (number_itself (epoch st.entries) (epoch st.entries) refl))
    ((same (slot.Queue st.number) (slot.Queue st.number)).1 refl)

pub producer_keeps_queue : ((a b : Sending) → IsTrue (is_sending a b) ↔ (a ≡ b)) → ((a b : Slot) → IsTrue (is_slot a b) ↔ (a ≡ b)) → ProducerKeepsQueue
producer_keeps_queue same_sending same_slot c st k = record {
  queues = λ x next. own_more c s st.entries (fact.Queued st.number x.entity x.number x.command) k.own_is (next_follows c st x same_sending k.held_is next);
  confirms = λ e n there. at e n there (nat_lt (confirmed e st.entries) n) refl;
  pushes = λ e. k.own_is;
  gives_back = own_more c s st.entries (fact.Freed (slot.Queue st.number) (epoch st.entries) cause.Released) k.own_is (freed_follows c st same_slot k.held_is);
}
  where
    s : Slot
    s = slot.Queue st.number

    at : (e : List ℕ) (n : ℕ) → n ≤ queued e st.entries → (b : Bool) → nat_lt (confirmed e st.entries) n ≡ b → own c s (fold queue_step st.entries (if b then told (fact.Confirmed st.number e n) ∷ [] else [])) ≡ true
    at e n there true t = own_more c s st.entries (fact.Confirmed st.number e n) k.own_is (confirmed_follows c st e n k.held_is t there)
    at e n there false t = k.own_is
