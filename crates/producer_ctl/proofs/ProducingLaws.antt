-- What a call makes of a node's producers, and that they stand after it.
use Rattle.std.proofs.Common.{◌≡◌, ℕ, ◌<◌, ◌+◌, ◌-◌, List, [], ◌∷◌, length, map, sym, ap, subst, ◌∙◌, refl, true, false, arith, get_or-set_same, get_or-set_other}
use Rattle.std.specs.Prelude.{Bool, Option, None, Some, IfSome, fold, slice_set, slice_index_or}
use Rattle.std.specs.List.{All, list_all}
use Rattle.std.specs.Option.{option_map}
use Rattle.std.proofs.lemmas.Bool.Decides.{nat_tests}
use Rattle.std.proofs.lemmas.List.{map-set, length-set, get_or-map, get_or_default, set-get_or, set-set}
use Rattle.yard_model.specs.declared.fact.Fact.TheVariants as fact
use Rattle.yard_model.specs.declared.out.Item.TheVariants as item
use Rattle.yard_model.specs.declared.incarnation.Incarnation.{Incarnation}
use Rattle.yard_model.specs.Behaviour.{is_in}
use Rattle.yard_model.specs.Genuine.{is_producer}
use Rattle.yard_model.specs.Move.{Move, made, took}
use Rattle.yard_model.specs.Node.{producer_by}
use Rattle.yard_model.specs.Producer.{Producer, producer_after}
use Rattle.yard_model.specs.Script.{Script, Setting, setting}
use Rattle.yard_model.specs.Setting.{place}
use Rattle.yard_model.specs.Words.{at}
use Rattle.plain_laws.proofs.Booleans.{true_is_not_false, and_both}
use Rattle.plain_laws.proofs.Lists.{by_place, of_write, some_is, none_is_not_some}
use Rattle.send_window.specs.declared.pair.Sends.{Sends}
use Rattle.producer_ctl.specs.declared.producers.Pending.{Pending}
use Rattle.producer_ctl.specs.declared.place.Place.{Place}
use Rattle.producer_ctl.specs.Paired.{IsPlace}
use Rattle.send_window.specs.Window.{numbers_of}
use Rattle.producer_ctl.specs.Produced.{Produced, Gives, moved, produced_after, room_step}
use Rattle.producer_ctl.specs.Within.{IsWithin, RoutesWithin}
use Rattle.producer_ctl.proofs.RuleLaws.{moved_state}
use Rattle.producer_ctl.specs.Producing.{Producing, Routing, producing, producing_after, IsProducing, IsHeld, IsPending, IsSent, HasPlaces, MaySend, state_of, room_of, place_at, routing, moved_by, of_held, stepped, held}

-- The place of a producer.

pub numbered : (c : Script) (p : ℕ) → is_producer c p ≡ true → (p - 1 + 1 ≡ p) × (p - 1 < c.config.producers)
numbered c p h = (low c.config.producers p h, high c.config.producers p h)
  where
    low : (n p : ℕ) → is_in 1 n p ≡ true → p - 1 + 1 ≡ p
    low n p h = grind (arith, nat_tests)

    high : (n p : ℕ) → is_in 1 n p ≡ true → p - 1 < n
    high n p h = grind (arith, nat_tests)

-- the one that is read
pub item_read : (p : ℕ) {c : Script} {who : Incarnation} {names : List (List ℕ)} {items : List (Option Produced)} {tables : List (Option ℕ)} {pending : Option Pending} {v : Producing} {i : ℕ} {o : Option Produced}
    → IsProducing c who names items tables pending → producing c who items pending ≡ v → is_producer v.script p ≡ true → i ≡ p - 1 → o ≡ slice_index_or items i o → (i < length items) × (at items i ≡ o)
item_read p {c} {who} {names} {items} {tables} {pending} {v} {i} {o} k seen its same read =
    let inside : i < length items = subst (λ n. n < length items) (sym same) (subst (λ n. p - 1 < n) (sym k.there) (numbered c p (subst (λ (v : Producing). is_producer v.script p ≡ true) (sym seen) its)).1) in
    (inside, get_or_default items i None o inside ∙ sym read)

-- and what contracts see of it
pub held_is : (p : ℕ) {c : Script} {who : Incarnation} {names : List (List ℕ)} {items : List (Option Produced)} {tables : List (Option ℕ)} {pending : Option Pending} {v : Producing} {i : ℕ} {o : Option Produced}
    → IsProducing c who names items tables pending → producing c who items pending ≡ v → is_producer v.script p ≡ true → i ≡ p - 1 → o ≡ slice_index_or items i o → held p v ≡ option_map state_of o
held_is p {c} {who} {names} {items} {tables} {pending} {v} {i} {o} k seen its same read =
    let here : _ × _ = item_read p k seen its same read in
    subst (λ (v : Producing). held p v ≡ option_map state_of o) seen
    (ap (at (map (option_map state_of) items)) (sym same) ∙ (get_or-map (option_map state_of) items i None None here.0 ∙ ap (option_map state_of) here.1))

-- moves leave whose it is
pub record IsSame (old new : Produced) : Type 0 where
  pub script_is : new.script ≡ old.script
  pub who_is : new.state.who ≡ old.state.who
  pub set_is : new.state.set ≡ old.state.set
  pub number_is : new.state.number ≡ old.state.number

pub moved_same : (k : Produced) (ms : List Move) → IsSame k (moved k ms)
moved_same k [] = record { script_is = refl; who_is = refl; set_is = refl; number_is = refl }
moved_same k (m ∷ ms) = let r : IsSame (produced_after k m) (moved (produced_after k m) ms) = moved_same (produced_after k m) ms in record { script_is = r.script_is; who_is = r.who_is; set_is = r.set_is; number_is = r.number_is }

held_on : {c : Script} {who : Incarnation} {p : ℕ} {old new : Produced} → IsSame old new → IsHeld c who p old → IsHeld c who p new
held_on s k = record { script_is = s.script_is ∙ k.script_is; who_is = s.who_is ∙ k.who_is; set_is = s.set_is ∙ k.set_is; number_is = s.number_is ∙ k.number_is }

-- Another one stands at a place.

pub item_put : {c : Script} {who : Incarnation} {names : List (List ℕ)} {items : List (Option Produced)} {tables : List (Option ℕ)} {pending : Option Pending} (i : ℕ) (new : Option Produced) (new_tables : List (Option ℕ)) (pend : Option Pending)
    → IsProducing c who names items tables pending → i < length items → IfSome new (IsHeld c who (i + 1)) → length new_tables ≡ length tables → ((j : ℕ) → (j ≡ i → ⊥) → at new_tables j ≡ at tables j) → (new ≡ None → HasPlaces (length names) (at new_tables i)) → IfSome pend (IsPending c (slice_set items i new))
    → IsProducing c who names (slice_set items i new) new_tables pend
item_put {c} {who} {names} {items} {tables} {pending} i new new_tables pend k inside its size beside empty there = record {
  names_are = k.names_are;
  sorted = k.sorted;
  there = length-set items i new ∙ k.there;
  tables_there = size ∙ k.tables_there;
  each = λ j. of_write (λ o. IfSome o (IsHeld c who (j + 1))) items i j new None (λ same. subst (λ n. IfSome new (IsHeld c who (n + 1))) (sym same) its) (k.each j);
  free = λ j below. by_place (at (slice_set items i new) j ≡ None → HasPlaces (length names) (at new_tables j)) j i
      (λ same none. subst (λ n. HasPlaces (length names) (at new_tables n)) (sym same) (empty (sym (ap (at (slice_set items i new)) same ∙ get_or-set_same items i new None inside) ∙ none)))
      (λ apart none. subst (HasPlaces (length names)) (sym (beside j apart)) (k.free j below (sym (get_or-set_other items i j new None apart) ∙ none)));
  pending_is = there;
}

-- A call.

-- the value at a place of what is held
new_held : (f : Producer → Gives) (c : Script) (who : Incarnation) (p : ℕ) (o new : Option Produced) → new ≡ option_map (λ k. moved k (f k.state).moves) o → IfSome o (IsHeld c who p) → IfSome new (IsHeld c who p)
new_held f c who p None new is k = subst (λ n. IfSome n (IsHeld c who p)) (sym is) tt
new_held f c who p (Some x) new is k = subst (λ n. IfSome n (IsHeld c who p)) (sym is) (held_on (moved_same x (f x.state).moves) k)

new_none : (f : Producer → Gives) (o new : Option Produced) → new ≡ option_map (λ k. moved k (f k.state).moves) o → new ≡ None → o ≡ None
new_none f None new is none = refl
new_none f (Some x) new is none = absurd (none_is_not_some (moved x (f x.state).moves) (sym none ∙ is))

-- where a name stands, which is that of its place
placed : (c : Script) (w : Place) → IsPlace c w → IsPlace c (place_at c w.at)
placed c w k = record { within = k.within; it = refl; at_is = k.at_is ∙ ap (place (setting c)) (sym k.it) }

pub sent_stands : (p : ℕ) (w : Place) (f : Producer → Gives) {c : Script} {who : Incarnation} {names : List (List ℕ)} {items : List (Option Produced)} {tables : List (Option ℕ)} {pending : Option Pending} {v : Producing} {i : ℕ} {o new : Option Produced} {sends : Option Sends} {pend : Option Pending} → ((st : Producer) → (f st).entity ≡ w.entity) → RoutesWithin f → IsPlace v.script w
    → IsProducing c who names items tables pending → producing c who items pending ≡ v → is_producer v.script p ≡ true → i ≡ p - 1 → o ≡ slice_index_or items i o → IsSent f o new sends → pend ≡ option_map (λ (s : Sends). record { producer = p; at = w.at; sends = s }) sends
    → IsProducing c who names (slice_set items i new) tables pend
sent_stands p w f {c} {who} {names} {items} {tables} {pending} {v} {i} {o} {new} {sends} {pend} to within stands k seen its same read sent pend_is =
    item_put i new tables pend k here.0 (new_held f c who (i + 1) o new sent.held_is (subst (λ x. IfSome x (IsHeld c who (i + 1))) here.1 (k.each i))) refl (λ j apart. refl)
    (λ none. k.free i (subst (λ n. i < n) k.there here.0) (here.1 ∙ new_none f o new sent.held_is none))
    (subst (λ x. IfSome x (IsPending c (slice_set items i new))) (sym pend_is) (at_sends sends sent.numbers_are))
  where
    here : (i < length items) × (at items i ≡ o)
    here = item_read p k seen its same read

    placed_here : IsPlace c w
    placed_here = subst (λ (s : Script). IsPlace s w) (ap (λ (v : Producing). v.script) (sym seen)) stands

    new_is : at (slice_set items i new) (p - 1) ≡ option_map (λ k. moved k (f k.state).moves) o
    new_is = ap (at (slice_set items i new)) (sym same) ∙ (get_or-set_same items i new None here.0 ∙ sent.held_is)

    may_send : (o : Option Produced) (s : Sends) → Some (numbers_of s) ≡ option_map (λ k. (f k.state).numbers) o → MaySend w.entity (numbers_of s) (option_map (λ k. moved k (f k.state).moves) o)
    may_send None s is = absurd (none_is_not_some (numbers_of s) (sym is))
    may_send (Some x) s is =
        subst (λ st. All (IsWithin w.entity st) (numbers_of s)) (sym (moved_state x (f x.state).moves))
        (subst (λ e. All (IsWithin e (fold producer_after x.state (f x.state).moves)) (numbers_of s)) (to x.state)
        (subst (All (IsWithin (f x.state).entity (fold producer_after x.state (f x.state).moves))) (sym (some_is (numbers_of s) (f x.state).numbers is)) (within x.state)))

    at_sends : (sends : Option Sends) → option_map numbers_of sends ≡ option_map (λ k. (f k.state).numbers) o → IfSome (option_map (λ (s : Sends). record { producer = p; at = w.at; sends = s }) sends) (IsPending c (slice_set items i new))
    at_sends None is = tt
    at_sends (Some s) is = record {
      stands = placed c w placed_here;
      there = subst (λ e. MaySend e (numbers_of s) (at (slice_set items i new) (p - 1))) (sym placed_here.it) (subst (MaySend w.entity (numbers_of s)) (sym new_is) (may_send o s is));
    }

-- Moves of one of them.

-- a move that neither takes nor frees the queue
abbrev pub is_plain : Move → Bool
is_plain (took s list) = false
is_plain (made (item.Fact (fact.Freed s n why))) = false
is_plain m = true

pub by_plain : (set : Setting) (who : Incarnation) (p : ℕ) (k : Producer) (m : Move) → is_plain m ≡ true → producer_by set who p (Some k) m ≡ Some (producer_after k m)
by_plain set who p k (took s list) e = absurd (true_is_not_false (sym e))
by_plain set who p k (made (item.Fact (fact.Freed s n why))) e = absurd (true_is_not_false (sym e))
by_plain set who p k m e = refl

abbrev seen_as : Script → Incarnation → List (Option Produced) → Routing → Producing
seen_as c who items r = record { script = c; who = who; producers = map (option_map state_of) items; rooms = map room_of items; pending = r }

one_lifted : (c : Script) (who : Incarnation) (p : ℕ) (items : List (Option Produced)) (k : Produced) (m : Move) (r : Routing) → p - 1 < length items → at items (p - 1) ≡ Some k → is_plain m ≡ true
    → seen_as c who (slice_set items (p - 1) (Some (produced_after k m))) r ≡ producing_after p (seen_as c who items r) m
one_lifted c who p items k m r inside here plain =
    ap (λ l. record { script = c; who = who; producers = l; rooms = map room_of (slice_set items (p - 1) (Some (produced_after k m))); pending = r }) producers
    ∙ ap (λ l. record { script = c; who = who; producers = slice_set (map (option_map state_of) items) (p - 1) (producer_by (setting c) who p (at (map (option_map state_of) items) (p - 1)) m); rooms = l; pending = r }) rooms
  where
    producers : map (option_map state_of) (slice_set items (p - 1) (Some (produced_after k m))) ≡ slice_set (map (option_map state_of) items) (p - 1) (producer_by (setting c) who p (at (map (option_map state_of) items) (p - 1)) m)
    producers = map-set (option_map state_of) items (p - 1) (Some (produced_after k m))
        ∙ ap (slice_set (map (option_map state_of) items) (p - 1)) (sym (ap (λ x. producer_by (setting c) who p x m) (get_or-map (option_map state_of) items (p - 1) None None inside ∙ ap (option_map state_of) here) ∙ by_plain (setting c) who p k.state m plain))

    rooms : map room_of (slice_set items (p - 1) (Some (produced_after k m))) ≡ slice_set (map room_of items) (p - 1) (room_step (slice_index_or (map room_of items) (p - 1) 0) m)
    rooms = map-set room_of items (p - 1) (Some (produced_after k m))
        ∙ ap (slice_set (map room_of items) (p - 1)) (sym (ap (λ n. room_step n m) (get_or-map room_of items (p - 1) None 0 inside ∙ ap room_of here)))

pub lifted : (c : Script) (who : Incarnation) (p : ℕ) (items : List (Option Produced)) (k : Produced) (ms : List Move) (r : Routing) → p - 1 < length items → at items (p - 1) ≡ Some k → list_all is_plain ms ≡ true
    → seen_as c who (slice_set items (p - 1) (Some (moved k ms))) r ≡ moved_by p (seen_as c who items r) ms
lifted c who p items k [] r inside here plain = ap (λ l. seen_as c who l r) (ap (slice_set items (p - 1)) (sym here) ∙ set-get_or items (p - 1) None)
lifted c who p items k (m ∷ ms) r inside here plain =
    let both : _ × _ = and_both (is_plain m) (list_all is_plain ms) plain in
    let next : List (Option Produced) = slice_set items (p - 1) (Some (produced_after k m)) in
    ap (λ l. seen_as c who l r) (sym (set-set items (p - 1) (Some (produced_after k m)) (Some (moved (produced_after k m) ms))))
    ∙ (lifted c who p next (produced_after k m) ms r (subst (λ n. p - 1 < n) (sym (length-set items (p - 1) (Some (produced_after k m)))) inside) (get_or-set_same items (p - 1) (Some (produced_after k m)) None inside) both.1
    ∙ ap (λ v. moved_by p v ms) (one_lifted c who p items k m r inside here both.0))

-- moves leave what is pending
pub routing_moved : (p : ℕ) (r : Routing) (v : Producing) (ms : List Move) → moved_by p (routing r v) ms ≡ routing r (moved_by p v ms)
routing_moved p r v [] = refl
routing_moved p r v (m ∷ ms) = routing_moved p r (producing_after p v m) ms

pub sent_moved : (p : ℕ) (w : Place) (f : Producer → Gives) {c : Script} {who : Incarnation} {names : List (List ℕ)} {items : List (Option Produced)} {tables : List (Option ℕ)} {pending : Option Pending} {v : Producing} {i : ℕ} {o new : Option Produced} {sends : Option Sends} {pend : Option Pending} → ((st : Producer) → (f st).entity ≡ w.entity) → ((st : Producer) → list_all is_plain (f st).moves ≡ true) → IsPlace v.script w
    → IsProducing c who names items tables pending → producing c who items pending ≡ v → is_producer v.script p ≡ true → i ≡ p - 1 → o ≡ slice_index_or items i o → IsSent f o new sends → pend ≡ option_map (λ (s : Sends). record { producer = p; at = w.at; sends = s }) sends
    → producing c who (slice_set items i new) pend ≡ stepped p v (of_held f p v)
sent_moved p w f {c} {who} {names} {items} {tables} {pending} {v} {i} {o} {new} {sends} {pend} to plain stands k seen its same read sent pend_is =
    subst (λ x. producing c who (slice_set items i new) pend ≡ stepped p v x) (sym (ap (option_map f) (held_is p k seen its same read)))
    (subst (λ (v : Producing). producing c who (slice_set items i new) pend ≡ stepped p v (option_map f (option_map state_of o))) seen
    (subst (λ n. producing c who (slice_set items n new) pend ≡ stepped p (producing c who items pending) (option_map f (option_map state_of o))) (sym same)
    (at_held o sends (sym (ap (at items) same) ∙ here.1) sent.held_is sent.numbers_are pend_is)))
  where
    here : (i < length items) × (at items i ≡ o)
    here = item_read p k seen its same read

    inside : p - 1 < length items
    inside = subst (λ n. n < length items) same here.0

    placed_here : IsPlace c w
    placed_here = subst (λ (s : Script). IsPlace s w) (ap (λ (v : Producing). v.script) (sym seen)) stands

    at_held : (o : Option Produced) (sends : Option Sends) → at items (p - 1) ≡ o → new ≡ option_map (λ k. moved k (f k.state).moves) o → option_map numbers_of sends ≡ option_map (λ k. (f k.state).numbers) o → pend ≡ option_map (λ (s : Sends). record { producer = p; at = w.at; sends = s }) sends
        → producing c who (slice_set items (p - 1) new) pend ≡ stepped p (producing c who items pending) (option_map f (option_map state_of o))
    at_held None None is new_is numbers pend_is =
        ap (λ x. producing c who (slice_set items (p - 1) new) x) pend_is ∙ ap (λ l. producing c who l None) (ap (slice_set items (p - 1)) (new_is ∙ sym is) ∙ set-get_or items (p - 1) None)
    at_held None (Some s) is new_is numbers pend_is = absurd (none_is_not_some (numbers_of s) (sym numbers))
    at_held (Some x) None is new_is numbers pend_is = absurd (none_is_not_some (f x.state).numbers numbers)
    at_held (Some x) (Some s) is new_is numbers pend_is =
        ap (λ y. producing c who (slice_set items (p - 1) new) y) pend_is
        ∙ (ap (λ y. producing c who (slice_set items (p - 1) y) (Some (record { producer = p; at = w.at; sends = s }))) new_is
        ∙ (ap (λ (g : List ℕ). seen_as c who (slice_set items (p - 1) (Some (moved x (f x.state).moves))) (record { producer = p; entity = g; numbers = numbers_of s })) placed_here.it
        ∙ (ap (λ (g : List ℕ). seen_as c who (slice_set items (p - 1) (Some (moved x (f x.state).moves))) (record { producer = p; entity = g; numbers = numbers_of s })) (sym (to x.state))
        ∙ (ap (λ (g : List ℕ). seen_as c who (slice_set items (p - 1) (Some (moved x (f x.state).moves))) (record { producer = p; entity = (f x.state).entity; numbers = g })) (some_is (numbers_of s) (f x.state).numbers numbers)
        ∙ (lifted c who p items x (f x.state).moves _ inside is (plain x.state) ∙ routing_moved p _ (producing c who items pending) (f x.state).moves)))))

-- no call changes the script
pub moved_by_script : (p : ℕ) (v : Producing) (ms : List Move) → (moved_by p v ms).script ≡ v.script
moved_by_script p v [] = refl
moved_by_script p v (m ∷ ms) = moved_by_script p (producing_after p v m) ms
