-- The moves of a producer are still, but for the one by which its queue is freed: they write of its queue alone.
use Rattle.std.proofs.Common.{◌≡◌, ℕ, ◌-◌, List, [], ◌∷◌, map, ap, sym, ◌∙◌, refl, true}
use Rattle.std.specs.Prelude.{Bool, nat_lt, fold, slice_set, Option, Some, None}
use Rattle.std.specs.List.{list_all}
use Rattle.std.proofs.lemmas.List.{set-set, set-get_or}
use Rattle.yard_model.specs.declared.charter.Sending.{Sending}
use Rattle.yard_model.specs.declared.fact.Fact.TheVariants as fact
use Rattle.yard_model.specs.declared.incarnation.Cause.TheVariants as cause
use Rattle.yard_model.specs.declared.incarnation.Incarnation.{Incarnation}
use Rattle.yard_model.specs.declared.incarnation.Slot.{Slot}
use Rattle.yard_model.specs.declared.incarnation.Slot.TheVariants as slot
use Rattle.yard_model.specs.declared.out.Item.TheVariants as item
use Rattle.yard_model.specs.Move.{Move, made, took, demanded, pushed, told}
use Rattle.yard_model.specs.Node.{Node, after, by_producer, producer_by, producers_part}
use Rattle.yard_model.specs.Producer.{Producer, producer_after, to_repeat, queue, confirm, push_marks, give_back}
use Rattle.yard_model.specs.Script.{Script, Setting}
use Rattle.yard_model.specs.SlotReads.{epoch, confirmed}
use Rattle.yard_model.specs.Words.{at}
use Rattle.plain_laws.proofs.Booleans.{true_is_not_false, and_both, both, number_itself}
use Rattle.plain_laws.proofs.Lists.{inside, placed_at, all_if}
use Rattle.yard_laws.proofs.PartsLaws.{producer_alone}
use Rattle.shard_lease.specs.Meaning.{Meaning}
use Rattle.node_core.specs.Found.{asks}
use Rattle.node_core.specs.Still.{is_still_move}

-- a slot asks for itself
itself : (p : ℕ) → asks (slot.Queue p) (slot.Queue p) ≡ true
itself p = number_itself p p refl

-- of any slots among which is the producer's queue
pub queue_within : (c : Script) (m : Meaning) (may : Slot → Bool) (x : Sending) (st : Producer) → may (slot.Queue st.number) ≡ true → list_all (is_still_move m c may) (queue x st) ≡ true
queue_within c m may x st own = both (may (slot.Queue st.number)) true own refl

pub queue_still : (c : Script) (m : Meaning) (x : Sending) (st : Producer) → list_all (is_still_move m c (asks (slot.Queue st.number))) (queue x st) ≡ true
queue_still c m x st = queue_within c m (asks (slot.Queue st.number)) x st (itself st.number)

-- a number that is confirmed is vouched for
pub confirm_within : (c : Script) (m : Meaning) (may : Slot → Bool) (e : List ℕ) (n : ℕ) (st : Producer) → may (slot.Queue st.number) ≡ true → m.vouches e st.number n ≡ true → list_all (is_still_move m c may) (confirm e n st) ≡ true
confirm_within c m may e n st own vouched = all_if (is_still_move m c may) (nat_lt (confirmed e st.entries) n) (told (fact.Confirmed st.number e n) ∷ []) []
    (both (is_still_move m c may (told (fact.Confirmed st.number e n))) true (both (m.vouches e st.number n) (may (slot.Queue st.number)) vouched own) refl) refl

pub confirm_still : (c : Script) (m : Meaning) (e : List ℕ) (n : ℕ) (st : Producer) → m.vouches e st.number n ≡ true → list_all (is_still_move m c (asks (slot.Queue st.number))) (confirm e n st) ≡ true
confirm_still c m e n st vouched = confirm_within c m (asks (slot.Queue st.number)) e n st (itself st.number) vouched

-- what writes nothing, of any slots
pub marks_still : (c : Script) (m : Meaning) (may : Slot → Bool) (e : List ℕ) (st : Producer) → list_all (is_still_move m c may) (push_marks e st) ≡ true
marks_still c m may e st = refl

pub demanded_still : (c : Script) (m : Meaning) (may : Slot → Bool) (e : List ℕ) (u : ℕ) → list_all (is_still_move m c may) (demanded e u ∷ []) ≡ true
demanded_still c m may e u = refl

pub pushed_still : (c : Script) (m : Meaning) (may : Slot → Bool) (e : List ℕ) (ns : List ℕ) → list_all (is_still_move m c may) (map (pushed e) ns) ≡ true
pushed_still c m may e [] = refl
pushed_still c m may e (n ∷ ns) = pushed_still c m may e ns

pub repeat_still : (c : Script) (m : Meaning) (may : Slot → Bool) (e : List ℕ) (st : Producer) → list_all (is_still_move m c may) (map (pushed e) (to_repeat e st)) ≡ true
repeat_still c m may e st = pushed_still c m may e (to_repeat e st)

-- the one move that frees the queue
pub give_back_is : (st : Producer) → give_back st ≡ told (fact.Freed (slot.Queue st.number) (epoch st.entries) cause.Released) ∷ []
give_back_is st = refl

-- The producers after still moves of one of them.

one_moved : (c : Script) (m : Meaning) (may : Slot → Bool) (set : Setting) (who : Incarnation) (p : ℕ) (k : Producer) (x : Move) → is_still_move m c may x ≡ true → producer_by set who p (Some k) x ≡ Some (producer_after k x)
one_moved c m may set who p k (took s list) h = absurd (true_is_not_false (sym h))
one_moved c m may set who p k (made (item.Fact (fact.Freed s n why))) h = absurd (true_is_not_false (sym h))
one_moved c m may set who p k x h = refl

all_moved : (c : Script) (m : Meaning) (may : Slot → Bool) (set : Setting) (who : Incarnation) (p : ℕ) (ps : List (Option Producer)) (k : Producer) (ms : List Move) → at ps (p - 1) ≡ Some k → list_all (is_still_move m c may) ms ≡ true
    → fold (producers_part set who) ps (map (by_producer p) ms) ≡ slice_set ps (p - 1) (Some (fold producer_after k ms))
all_moved c m may set who p ps k [] there h = sym (set-get_or ps (p - 1) None) ∙ ap (slice_set ps (p - 1)) there
all_moved c m may set who p ps k (x ∷ ms) there h =
    let parts : (is_still_move m c may x ≡ true) × (list_all (is_still_move m c may) ms ≡ true) = and_both (is_still_move m c may x) (list_all (is_still_move m c may) ms) h in
    let one : producer_by set who p (at ps (p - 1)) x ≡ Some (producer_after k x) = ap (λ o. producer_by set who p o x) there ∙ one_moved c m may set who p k x parts.0 in
    let next : List (Option Producer) = slice_set ps (p - 1) (Some (producer_after k x)) in
    ap (λ o. fold (producers_part set who) (slice_set ps (p - 1) o) (map (by_producer p) ms)) one
    ∙ (all_moved c m may set who p next (producer_after k x) ms (placed_at ps (p - 1) (Some (producer_after k x)) (inside ps (p - 1) k there)) parts.1
    ∙ set-set ps (p - 1) (Some (producer_after k x)) (Some (fold producer_after (producer_after k x) ms)))

pub producers_moved : (c : Script) (m : Meaning) (may : Slot → Bool) (st : Node) (p : ℕ) (k : Producer) (ms : List Move) → at st.producers (p - 1) ≡ Some k → list_all (is_still_move m c may) ms ≡ true
    → fold after st (map (by_producer p) ms) ≡ record st { producers = slice_set st.producers (p - 1) (Some (fold producer_after k ms)) }
producers_moved c m may st p k ms there h = producer_alone st p ms ∙ ap (λ ps. record st { producers = ps }) (all_moved c m may st.set st.who p st.producers k ms there h)
