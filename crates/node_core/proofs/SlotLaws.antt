-- The slots that a node holds, looked through in their order.
use Rattle.std.proofs.Common.{◌≡◌, ℕ, suc, ◌+◌, ◌-◌, ◌<◌, ◌≤◌, List, [], ◌∷◌, ◌++◌, map, sym, ap, subst, ◌∙◌, refl, append_assoc, true, length, arith}
use Rattle.std.specs.Prelude.{Bool, slice_get, Option, Some, None, is_some, MatchOption, if◌then◌else◌}
use Rattle.std.specs.Option.{option_map}
use Rattle.std.proofs.lemmas.List.{length-append}
use Rattle.yard_model.specs.declared.incarnation.Slot.{Slot}
use Rattle.yard_model.specs.declared.incarnation.Slot.TheVariants as slot
use Rattle.yard_model.specs.Entities.{Hosted, hosted}
use Rattle.yard_model.specs.Node.{Node}
use Rattle.yard_model.specs.Producer.{Producer}
use Rattle.yard_model.specs.Region.{Region}
use Rattle.yard_model.specs.Script.{Script}
use Rattle.yard_model.specs.Words.{numbers}
use Rattle.actor_laws.specs.Hands.{held_list}
use Rattle.coordinator_actor.specs.Held.{Held}
use Rattle.durable_queue.specs.Queue.{Queue}
use Rattle.shard_entities.specs.Lodged.{Lodged, IsStore}
use Rattle.shard_store.specs.Shelf.{Shelf}
use Rattle.producer_ctl.specs.Producing as producing
use Rattle.producer_ctl.specs.Producing.{Producing}
use Rattle.node_core.specs.Standing.{node_of}
use Rattle.node_core.specs.Slots.{held_of, slots, last_slots, queue_slots}
use Rattle.node_core.proofs.PartLaws.{store_hosted, held_is}

abbrev pub is_held_at : Node → Slot → Bool
is_held_at st s = is_some (held_list s st)

-- the slots from shard s on
abbrev pub slots_from : Script → ℕ → List Slot
slots_from c s = map slot.Shard (numbers s (c.config.shards - s)) ++ last_slots c

-- the queues from this place on
abbrev pub queues_from : Script → ℕ → List Slot
queues_from c place = map slot.Queue (numbers (place + 1) (c.config.producers - place))

pub slots_first : (c : Script) → slots c ≡ slots_from c 0
slots_first c = ap (λ n. map slot.Shard (numbers 0 n) ++ last_slots c) (let e : c.config.shards ≡ c.config.shards - 0 = omega arith in e)

pub queues_first : (c : Script) → queue_slots c ≡ queues_from c 0
queues_first c = ap (λ n. map slot.Queue (numbers 1 n)) (let e : c.config.producers ≡ c.config.producers - 0 = omega arith in e)

cut : (a n s : ℕ) → s < n → numbers a (n - s) ≡ a ∷ numbers (a + 1) (n - (s + 1))
cut a n s h = ap (numbers a) (let e : n - s ≡ suc (n - (s + 1)) = omega (arith, h) in e)

pub slots_next : (c : Script) (s : ℕ) → s < c.config.shards → slots_from c s ≡ slot.Shard s ∷ slots_from c (s + 1)
slots_next c s h = ap (λ ns. map slot.Shard ns ++ last_slots c) (cut s c.config.shards s h)

pub queues_next : (c : Script) (place : ℕ) → place < c.config.producers → queues_from c place ≡ slot.Queue (place + 1) ∷ queues_from c (place + 1)
queues_next c place h = ap (map slot.Queue) (cut (place + 1) c.config.producers place h)

pub slots_last : (c : Script) (s : ℕ) → s ≡ c.config.shards → slots_from c s ≡ last_slots c
slots_last c s e = ap (λ n. map slot.Shard (numbers s n) ++ last_slots c) (let none : c.config.shards - s ≡ 0 = omega (arith, e) in none)

pub queues_last : (c : Script) (place : ℕ) → place ≡ c.config.producers → queues_from c place ≡ []
queues_last c place e = ap (λ n. map slot.Queue (numbers (place + 1) n)) (let none : c.config.producers - place ≡ 0 = omega (arith, e) in none)

-- of some slots those before the rest are passed, and so many more are to be
pub record IsReached (ss rest : List Slot) (st : Node) (left at : ℕ) : Type 0 where
  pub passed : List Slot
  pub all : held_of ss st ≡ passed ++ held_of rest st
  pub count : length passed + left ≡ at

pub reached_first : (ss rest : List Slot) (st : Node) (at : ℕ) → ss ≡ rest → IsReached ss rest st at at
reached_first ss rest st at e = record { passed = []; all = ap (λ zs. held_of zs st) e; count = let k : 0 + at ≡ at = omega arith in k }

-- one that isn't held is passed over
pub reached_over : (ss rest more : List Slot) (s : Slot) (st : Node) (left at : ℕ) → rest ≡ s ∷ more → held_list s st ≡ None → IsReached ss rest st left at → IsReached ss more st left at
reached_over ss rest more s st left at next free r = record {
  passed = r.passed;
  all = r.all ∙ ap (λ x. r.passed ++ x) (ap (λ zs. held_of zs st) next ∙ ap (λ o. if is_some o then s ∷ held_of more st else held_of more st) free);
  count = r.count;
}

held_next : (rest more : List Slot) (s : Slot) (st : Node) → rest ≡ s ∷ more → is_held_at st s ≡ true → held_of rest st ≡ s ∷ held_of more st
held_next rest more s st next held = ap (λ zs. held_of zs st) next ∙ ap (λ b. if b then s ∷ held_of more st else held_of more st) held

-- one that is held is passed
pub reached_past : (ss rest more : List Slot) (s : Slot) (st : Node) (left now at : ℕ) → rest ≡ s ∷ more → is_held_at st s ≡ true → now + 1 ≡ left → IsReached ss rest st left at → IsReached ss more st now at
reached_past ss rest more s st left now at next held less r = record {
  passed = r.passed ++ s ∷ [];
  all = r.all ∙ (ap (λ x. r.passed ++ x) (held_next rest more s st next held) ∙ sym (append_assoc r.passed (s ∷ []) (held_of more st)));
  count = let longer : length (r.passed ++ s ∷ []) ≡ length r.passed + 1 = length-append r.passed (s ∷ []) in let was : length r.passed + left ≡ at = r.count in omega (arith, longer, was, less);
}

got_after : (xs ys : List Slot) (n : ℕ) → slice_get (xs ++ ys) (length xs + n) ≡ slice_get ys n
got_after [] ys n = ap (slice_get ys) (let e : 0 + n ≡ n = omega arith in e)
got_after (x ∷ xs) ys n = ap (slice_get (x ∷ xs ++ ys)) (let e : suc (length xs) + n ≡ suc (length xs + n) = omega arith in e) ∙ got_after xs ys n

-- what is found among the rest
pub reached_got : (ss rest : List Slot) (st : Node) (left at : ℕ) (x : Slot) → IsReached ss rest st left at → slice_get (held_of rest st) left ≡ Some x → slice_get (held_of ss st) at ≡ Some x
reached_got ss rest st left at x r h = ap (λ l. slice_get l at) r.all ∙ (ap (slice_get (r.passed ++ held_of rest st)) (sym r.count) ∙ (got_after r.passed (held_of rest st) left ∙ h))

-- or that nothing is
pub reached_none : (ss rest : List Slot) (st : Node) (left at : ℕ) → IsReached ss rest st left at → length (held_of rest st) ≤ left → length (held_of ss st) ≤ at
reached_none ss rest st left at r h =
    let all : length (held_of ss st) ≡ length r.passed + length (held_of rest st) = ap length r.all ∙ length-append r.passed (held_of rest st) in
    let count : length r.passed + left ≡ at = r.count in
    omega (arith, all, count, h)

pub reached_rest : {A : Type 0} (ss rest : List Slot) (st : Node) (left at : ℕ) (o : Option (Slot × A)) → IsReached ss rest st left at
    → MatchOption o (length (held_of rest st) ≤ left) (λ x. slice_get (held_of rest st) left ≡ Some x.0) → MatchOption o (length (held_of ss st) ≤ at) (λ x. slice_get (held_of ss st) at ≡ Some x.0)
reached_rest ss rest st left at None r h = reached_none ss rest st left at r h
reached_rest ss rest st left at (Some x) r h = reached_got ss rest st left at x.0 r h

-- the one that is looked for
pub reached_it : (ss rest more : List Slot) (s : Slot) (st : Node) (left at : ℕ) → rest ≡ s ∷ more → is_held_at st s ≡ true → left ≡ 0 → IsReached ss rest st left at → slice_get (held_of ss st) at ≡ Some s
reached_it ss rest more s st left at next held last r = reached_got ss rest st left at s r (ap (λ l. slice_get l left) (held_next rest more s st next held) ∙ ap (slice_get (s ∷ held_of more st)) last)

pub reached_end : (ss rest : List Slot) (st : Node) (left at : ℕ) → rest ≡ [] → IsReached ss rest st left at → length (held_of ss st) ≤ at
reached_end ss rest st left at none r = reached_none ss rest st left at r (subst (λ zs. length (held_of zs st) ≤ left) (sym none) (omega arith))

-- Which shards and queues are held.

pub shard_held : (c : Script) (r : Region) (e : Lodged) (ps : Producing) (k : Option Held) (s : ℕ) (x : Shelf) → IsStore e s x → is_held_at (node_of c r e ps k) (slot.Shard s) ≡ true
shard_held c r e ps k s x is = ap is_some (held_is (node_of c r e ps k) s x.entries (store_hosted e s x is))

pub shard_free : (c : Script) (r : Region) (e : Lodged) (ps : Producing) (k : Option Held) (s : ℕ) → hosted e.state s ≡ None → held_list (slot.Shard s) (node_of c r e ps k) ≡ None
shard_free c r e ps k s none = ap (option_map (λ (h : Hosted). h.entries)) none

pub queue_held : (c : Script) (r : Region) (e : Lodged) (ps : Producing) (k : Option Held) (p : ℕ) (x : Queue) → producing.IsStore ps p x → is_held_at (node_of c r e ps k) (slot.Queue p) ≡ true
queue_held c r e ps k p x is = ap is_some is.entries_are

pub queue_free : (c : Script) (r : Region) (e : Lodged) (ps : Producing) (k : Option Held) (p : ℕ) → producing.held p ps ≡ None → held_list (slot.Queue p) (node_of c r e ps k) ≡ None
queue_free c r e ps k p none = ap (option_map (λ (x : Producer). x.entries)) none
