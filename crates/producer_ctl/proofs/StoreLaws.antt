-- A queue is taken, lent, given room or let go; and where a name stands.
use Rattle.std.proofs.Common.{◌≡◌, ℕ, ◌<◌, ◌+◌, ◌-◌, List, [], ◌∷◌, length, map, sym, ap, subst, ◌∙◌, refl, true, get_or-set_same, get_or-set_other}
use Rattle.std.specs.Prelude.{zero, suc, Option, None, Some, IfSome, MatchOption, slice_set, slice_index_or}
use Rattle.std.specs.List.{position_or_len}
use Rattle.std.specs.Option.{option_map}
use Rattle.std.proofs.lemmas.List.{map-set, length-set, get_or-map, set-get_or}
use Rattle.yard_model.specs.declared.fact.Fact.TheVariants as fact
use Rattle.yard_model.specs.declared.incarnation.Incarnation.{Incarnation}
use Rattle.yard_model.specs.declared.incarnation.Cause.TheVariants as cause
use Rattle.yard_model.specs.declared.incarnation.Slot.TheVariants as slot
use Rattle.yard_model.specs.declared.out.Item.{Item}
use Rattle.yard_model.specs.Move.{told}
use Rattle.yard_model.specs.Spared.{Spared}
use Rattle.yard_model.specs.Genuine.{is_producer}
use Rattle.yard_model.specs.Producer.{Producer, new_producer, give_back}
use Rattle.yard_model.specs.Script.{Script, setting, is_name}
use Rattle.yard_model.specs.SlotReads.{epoch}
use Rattle.yard_model.specs.Turns.{where_some}
use Rattle.yard_model.specs.Words.{at}
use Rattle.durable_queue.specs.Queue.{Queue}
use Rattle.plain_laws.proofs.Lists.{some_is, none_is_not_some}
use Rattle.send_window.specs.declared.pair.Sends.{Sends}
use Rattle.producer_ctl.specs.declared.place.Place.{Place}
use Rattle.producer_ctl.specs.declared.producers.Pending.{Pending}
use Rattle.producer_ctl.specs.Paired.{IsPlace, name_at}
use Rattle.producer_ctl.specs.Produced.{Produced, Gives, IsStoreOf, given}
use Rattle.producer_ctl.specs.Within.{RoutesWithin}
use Rattle.producer_ctl.specs.Producing.{Producing, producing, IsProducing, IsHeld, IsBounded, IsSent, IsStore, HasPlaces, held, holding, moved_by, no_routing, room_of, routing, state_of, without}
use Rattle.name_index.proofs.NameLaws.{placed}
use Rattle.producer_ctl.proofs.ProducingLaws.{item_put, item_read, held_is, numbered, sent_stands}

-- Where a name stands.

pub place_stands : (i : ℕ) (x : List ℕ) {c : Script} {who : Incarnation} {names : List (List ℕ)} {items : List (Option Produced)} {tables : List (Option ℕ)} {pending : Option Pending} {v : Producing}
    → IsProducing c who names items tables pending → producing c who items pending ≡ v → i < length names → name_at names i ≡ x → IsPlace v.script (record { entity = x; at = i })
place_stands i x {c} {who} {names} {items} {tables} {pending} {v} k seen inside it =
    subst (λ (v : Producing). IsPlace v.script (record { entity = x; at = i })) seen record {
      within = subst (λ (l : List (List ℕ)). i < length l) k.names_are inside;
      it = subst (λ (l : List (List ℕ)). name_at l i ≡ x) k.names_are it;
      at_is = subst (λ (l : List (List ℕ)). i ≡ position_or_len (is_name x) l) k.names_are (placed names x i k.sorted inside it);
    }

-- Nothing of it changes.

pub resent_stands : (p : ℕ) (w : Place) (f : Producer → Gives) {c : Script} {who : Incarnation} {names : List (List ℕ)} {items : List (Option Produced)} {tables : List (Option ℕ)} {pending : Option Pending} {v : Producing} {i : ℕ} {o : Option Produced} {sends : Option Sends} {pend : Option Pending} → ((st : Producer) → (f st).entity ≡ w.entity) → RoutesWithin f → IsPlace v.script w
    → IsProducing c who names items tables pending → producing c who items pending ≡ v → is_producer v.script p ≡ true → i ≡ p - 1 → o ≡ slice_index_or items i o → IsSent f o o sends → pend ≡ option_map (λ (s : Sends). record { producer = p; at = w.at; sends = s }) sends
    → IsProducing c who names items tables pend
resent_stands p w f {c} {who} {names} {items} {tables} {pending} {v} {i} {o} {sends} {pend} to within stands k seen its same read sent pend_is =
    subst (λ l. IsProducing c who names l tables pend) (ap (slice_set items i) (sym (item_read p k seen its same read).1) ∙ set-get_or items i None)
    (sent_stands p w f to within stands k seen its same read sent pend_is)

-- A queue is taken.

pub begun_put : (p : ℕ) (store : Queue) {c : Script} {who : Incarnation} {names : List (List ℕ)} {items : List (Option Produced)} {tables new_tables : List (Option ℕ)} {pending : Option Pending} {v : Producing} {i : ℕ} {new : Produced}
    → IsProducing c who names items tables pending → producing c who items pending ≡ v → is_producer v.script p ≡ true → i ≡ p - 1 → store.script ≡ v.script → new ≡ record { script = store.script; state = new_producer (setting store.script) who p store.entries; room = store.spare } → new_tables ≡ slice_set tables i None
    → IsProducing c who names (slice_set items i (Some new)) new_tables None
begun_put p store {c} {who} {names} {items} {tables} {new_tables} {pending} {v} {i} {new} k seen its same script made taken =
    item_put i (Some new) new_tables None k inside its_is (ap length taken ∙ length-set tables i None)
    (λ j apart. ap (λ l. at l j) taken ∙ get_or-set_other tables i j None None apart) (λ none. absurd (none_is_not_some new (sym none))) tt
  where
    range : (p - 1 + 1 ≡ p) × (p - 1 < c.config.producers)
    range = numbered c p (subst (λ (v : Producing). is_producer v.script p ≡ true) (sym seen) its)

    inside : i < length items
    inside = subst (λ n. n < length items) (sym same) (subst (λ n. p - 1 < n) (sym k.there) range.1)

    script_is : store.script ≡ c
    script_is = script ∙ ap (λ (v : Producing). v.script) (sym seen)

    its_is : IsHeld c who (i + 1) new
    its_is = subst (IsHeld c who (i + 1)) (sym made) (record { script_is = script_is; who_is = refl; set_is = ap setting script_is; number_is = sym (ap (λ n. n + 1) same ∙ range.0) })

pub begun_held : (p : ℕ) (items : List (Option Produced)) (pending : Option Pending) (store : Queue) {c : Script} {who : Incarnation} {v : Producing} {i : ℕ} {new : Produced}
    → producing c who items pending ≡ v → i ≡ p - 1 → store.script ≡ v.script → new ≡ record { script = store.script; state = new_producer (setting store.script) who p store.entries; room = store.spare }
    → producing c who (slice_set items i (Some new)) None ≡ holding p v store
begun_held p items pending store {c} {who} {v} {i} {new} seen same script made =
    subst (λ (v : Producing). producing c who (slice_set items i (Some new)) None ≡ holding p v store) seen
    (ap (λ l. record { script = c; who = who; producers = l; rooms = map room_of (slice_set items i (Some new)); pending = no_routing }) producers
    ∙ ap (λ l. record { script = c; who = who; producers = slice_set (map (option_map state_of) items) (p - 1) (Some (new_producer (setting c) who p store.entries)); rooms = l; pending = no_routing }) rooms)
  where
    script_is : store.script ≡ c
    script_is = script ∙ ap (λ (v : Producing). v.script) (sym seen)

    producers : map (option_map state_of) (slice_set items i (Some new)) ≡ slice_set (map (option_map state_of) items) (p - 1) (Some (new_producer (setting c) who p store.entries))
    producers = map-set (option_map state_of) items i (Some new)
        ∙ (ap (λ n. slice_set (map (option_map state_of) items) n (Some new.state)) same
        ∙ ap (λ x. slice_set (map (option_map state_of) items) (p - 1) (Some x)) (ap (λ (x : Produced). x.state) made ∙ ap (λ s. new_producer (setting s) who p store.entries) script_is))

    rooms : map room_of (slice_set items i (Some new)) ≡ slice_set (map room_of items) (p - 1) store.spare
    rooms = map-set room_of items i (Some new) ∙ (ap (λ n. slice_set (map room_of items) n new.room) same ∙ ap (slice_set (map room_of items) (p - 1)) (ap (λ (x : Produced). x.room) made))

-- A queue is let go.

pub without_seen : (p : ℕ) (items : List (Option Produced)) (pending : Option Pending) {c : Script} {who : Incarnation} {v : Producing} {i : ℕ} {new : Option Produced}
    → producing c who items pending ≡ v → i ≡ p - 1 → new ≡ None → producing c who (slice_set items i new) None ≡ without p v
without_seen p items pending {c} {who} {v} {i} {new} seen same none =
    subst (λ (v : Producing). producing c who (slice_set items i new) None ≡ without p v) seen
    (ap (λ x. producing c who (slice_set items i x) None) none
    ∙ (ap (λ l. record { script = c; who = who; producers = l; rooms = map room_of (slice_set items i None); pending = no_routing }) (map-set (option_map state_of) items i None ∙ ap (λ n. slice_set (map (option_map state_of) items) n None) same)
    ∙ ap (λ l. record { script = c; who = who; producers = slice_set (map (option_map state_of) items) (p - 1) None; rooms = l; pending = no_routing }) (map-set room_of items i None ∙ ap (λ n. slice_set (map room_of items) n 0) same)))

pub without_put : (p : ℕ) (t : ℕ) {c : Script} {who : Incarnation} {names : List (List ℕ)} {items : List (Option Produced)} {tables : List (Option ℕ)} {pending : Option Pending} {v : Producing} {i : ℕ} {o new : Option Produced} {x : Produced}
    → IsProducing c who names items tables pending → producing c who items pending ≡ v → is_producer v.script p ≡ true → i ≡ p - 1 → o ≡ slice_index_or items i o → o ≡ Some x → new ≡ None → t ≡ length (setting x.script).names
    → IsProducing c who names (slice_set items i new) (slice_set tables i (Some t)) None
without_put p t {c} {who} {names} {items} {tables} {pending} {v} {i} {o} {new} {x} k seen its same read some none size =
    item_put i new (slice_set tables i (Some t)) None k here.0 (subst (λ y. IfSome y (IsHeld c who (i + 1))) (sym none) tt) (length-set tables i (Some t)) (λ j apart. get_or-set_other tables i j (Some t) None apart)
    (λ e. subst (HasPlaces (length names)) (sym (get_or-set_same tables i (Some t) None inside)) (size ∙ (ap (λ (s : Script). length (setting s).names) its_is.script_is ∙ sym (ap length k.names_are)))) tt
  where
    here : (i < length items) × (at items i ≡ o)
    here = item_read p k seen its same read

    inside : i < length tables
    inside = subst (λ n. i < n) (sym k.tables_there) (subst (λ n. i < n) k.there here.0)

    its_is : IsHeld c who (i + 1) x
    its_is = subst (λ y. IfSome y (IsHeld c who (i + 1))) (here.1 ∙ some) (k.each i)

pub without_none : (p : ℕ) {c : Script} {who : Incarnation} {names : List (List ℕ)} {items : List (Option Produced)} {tables : List (Option ℕ)} {pending : Option Pending} {v : Producing} {i : ℕ} {o new : Option Produced}
    → IsProducing c who names items tables pending → producing c who items pending ≡ v → is_producer v.script p ≡ true → i ≡ p - 1 → o ≡ slice_index_or items i o → o ≡ None → new ≡ None → IsProducing c who names (slice_set items i new) tables None
without_none p {c} {who} {names} {items} {tables} {pending} {v} {i} {o} {new} k seen its same read empty none =
    let here : _ × _ = item_read p k seen its same read in
    item_put i new tables None k here.0 (subst (λ y. IfSome y (IsHeld c who (i + 1))) (sym none) tt) refl (λ j apart. refl) (λ e. k.free i (subst (λ n. i < n) k.there here.0) (here.1 ∙ empty)) tt

-- its store
pub store_of : (p : ℕ) {c : Script} {who : Incarnation} {names : List (List ℕ)} {items : List (Option Produced)} {tables : List (Option ℕ)} {pending : Option Pending} {v : Producing} {i : ℕ} {o : Option Produced} {x : Produced} {store : Queue}
    → IsProducing c who names items tables pending → producing c who items pending ≡ v → is_producer v.script p ≡ true → i ≡ p - 1 → o ≡ slice_index_or items i o → o ≡ Some x → IsStoreOf x store → IsStore v p store
store_of p {c} {who} {names} {items} {tables} {pending} {v} {i} {o} {x} {store} k seen its same read some of = record {
  script_is = of.script_is ∙ (its_is.script_is ∙ ap (λ (v : Producing). v.script) seen);
  producer_is = of.producer_is ∙ (its_is.number_is ∙ (ap (λ n. n + 1) same ∙ (numbered c p (subst (λ (v : Producing). is_producer v.script p ≡ true) (sym seen) its)).0));
  entries_are = ap (option_map (λ (st : Producer). st.entries)) (held_is p k seen its same read ∙ ap (option_map state_of) some) ∙ ap Some (sym of.entries_are);
  room_is = of.room_is ∙ subst (λ (v : Producing). x.room ≡ slice_index_or v.rooms (p - 1) 0) seen (sym (ap (λ n. slice_index_or (map room_of items) n 0) (sym same) ∙ (get_or-map room_of items i None 0 here.0 ∙ ap room_of (here.1 ∙ some))));
  leased = of.leased ∙ ap Some (its_is.who_is ∙ ap (λ (v : Producing). v.who) seen);
}
  where
    here : (i < length items) × (at items i ≡ o)
    here = item_read p k seen its same read

    its_is : IsHeld c who (i + 1) x
    its_is = subst (λ y. IfSome y (IsHeld c who (i + 1))) (here.1 ∙ some) (k.each i)

-- where none is held there is no room
pub no_room : (p : ℕ) (items : List (Option Produced)) (pending : Option Pending) {c : Script} {who : Incarnation} {v : Producing} → producing c who items pending ≡ v → held p v ≡ None → slice_index_or v.rooms (p - 1) 0 ≡ 0
no_room p items pending {c} {who} {v} seen none =
    subst (λ (v : Producing). held p v ≡ None → slice_index_or v.rooms (p - 1) 0 ≡ 0) seen (at_item items (p - 1)) none
  where
    at_item : (items : List (Option Produced)) (i : ℕ) → at (map (option_map state_of) items) i ≡ None → slice_index_or (map room_of items) i 0 ≡ 0
    at_item [] i e = refl
    at_item (None ∷ items) zero e = refl
    at_item (Some x ∷ items) zero e = absurd (none_is_not_some x.state (sym e))
    at_item (x ∷ items) (suc i) e = at_item items i e

-- what is freed is let go
pub freed_is : (p : ℕ) (v : Producing) → (held p v ≡ None → slice_index_or v.rooms (p - 1) 0 ≡ 0) → without p v ≡ routing no_routing (moved_by p v (where_some give_back (held p v)))
freed_is p v no_room = by (held p v) refl
  where
    by : (o : Option Producer) → held p v ≡ o → without p v ≡ routing no_routing (moved_by p v (where_some give_back o))
    by None e =
        ap (λ l. record { script = v.script; who = v.who; producers = l; rooms = slice_set v.rooms (p - 1) 0; pending = no_routing }) (ap (slice_set v.producers (p - 1)) (sym e) ∙ set-get_or v.producers (p - 1) None)
        ∙ ap (λ l. record { script = v.script; who = v.who; producers = v.producers; rooms = l; pending = no_routing }) (ap (slice_set v.rooms (p - 1)) (sym (no_room e)) ∙ set-get_or v.rooms (p - 1) 0)
    by (Some st) e = refl

-- and what is told of it
pub freed_told : (p : ℕ) (v : Producing) (out : Spared Item) {new_out : Spared Item} (store : Option Queue) → IfSome (held p v) (λ st. st.number ≡ p) → MatchOption store (held p v ≡ None) (IsStore v p)
    → new_out ≡ given out (where_some (λ (x : Queue). told (fact.Freed (slot.Queue p) (epoch x.entries) cause.Released) ∷ []) store) → new_out ≡ given out (where_some give_back (held p v))
freed_told p v out {new_out} None number none told_is = told_is ∙ ap (λ o. given out (where_some give_back o)) (sym none)
freed_told p v out {new_out} (Some x) number some told_is = by (held p v) number some.entries_are
  where
    by : (o : Option Producer) → IfSome o (λ st. st.number ≡ p) → option_map (λ (st : Producer). st.entries) o ≡ Some x.entries → new_out ≡ given out (where_some give_back o)
    by None n e = absurd (none_is_not_some x.entries e)
    by (Some st) n e =
        told_is ∙ (ap (λ l. given out (told (fact.Freed (slot.Queue p) (epoch l) cause.Released) ∷ [])) (sym (some_is st.entries x.entries e))
        ∙ ap (λ q. given out (told (fact.Freed (slot.Queue q) (epoch st.entries) cause.Released) ∷ [])) (sym n))

pub number_of : (p : ℕ) (v : Producing) → IfSome (held p v) (IsBounded v p) → IfSome (held p v) (λ st. st.number ≡ p)
number_of p v h = by (held p v) h
  where
    by : (o : Option Producer) → IfSome o (IsBounded v p) → IfSome o (λ st. st.number ≡ p)
    by None h = tt
    by (Some st) h = h.number_is
