-- Which shards want room: a shard is touched, or stays as ready as it was, or gets its room.
use Rattle.std.proofs.Common.{◌≡◌, ◌≢◌, ℕ, ◌<◌, ◌≤◌, ◌^◌, List, length, replicate, sym, ap, subst, ◌∙◌, refl, true, false, arith, true≢false, get_or-set_same, get_or-set_other}
use Rattle.std.specs.Prelude.{Bool, ◌==◌, ◌+◌, nat_lt, Option, None, Some, slice_set, slice_index_or}
use Rattle.std.specs.Option.{option_map}
use Rattle.std.proofs.lemmas.Bool.Decides.{nat_tests}
use Rattle.std.proofs.lemmas.List.{get_or_default}
use Rattle.std.proofs.lemmas.Nat.Bits.{bit_at_above, bit_at-zero}
use Rattle.yard_model.specs.declared.charter.Config.{Config}
use Rattle.yard_model.specs.declared.incarnation.Incarnation.{Incarnation}
use Rattle.yard_model.specs.Script.{Script}
use Rattle.yard_model.specs.ShardSet.{has}
use Rattle.yard_model.specs.Words.{at}
use Rattle.plain_laws.proofs.Booleans.{get_replicate, same_number, other_number}
use Rattle.shard_entities.specs.declared.hosting.Ending.{Ending}
use Rattle.shard_entities.specs.declared.hosting.Hosting.{Hosting}
use Rattle.entity_cells.specs.Celled.{Celled}
use Rattle.shard_entities.specs.Lodged.{Lodged, lodged, IsLodged, room_of}
use Rattle.shard_entities.specs.Ready.{IsReady, AreReady}
use Rattle.shard_entities.specs.Roomy.{AreReserved, IsReserved, room_wanted, with_room}
use Rattle.shard_entities.specs.Written.{ended}
use Rattle.shard_entities.proofs.HostLaws.{shard_below}

-- what isn't hosted is ready
none_ready : (c : Script) (s : ℕ) (o : Option Hosting) → o ≡ None → IsReady c s o
none_ready c s o none there = absurd (there none)

-- no shard is hosted
pub ready_new : (script c : Script) (touched : ℕ) (items : List (Option Hosting)) → items ≡ replicate c.config.shards None → ((s : ℕ) → has touched s ≡ false) → AreReady script touched items
ready_new script c touched items unhosted none = record {
  within = λ s there. absurd (true≢false (sym there ∙ none s));
  each = λ s out. none_ready script s (at items s) (ap (λ l. at l s) unhosted ∙ get_replicate {X = Option Hosting} c.config.shards s None);
}

-- a shard is touched
pub touches : {c : Script} {touched new : ℕ} {items : List (Option Hosting)} {s i : ℕ} (o : Option Hosting) → AreReady c touched items → s < c.config.shards → i ≡ s → has new s ≡ true → ((t : ℕ) → t ≢ s → has new t ≡ has touched t) → AreReady c new (slice_set items i o)
touches {c} {touched} {new} {items} {s} {i} o k lt same it others = record {
  within = λ t there. within_at t there (t == s) refl;
  each = λ t out. ready_at t out (t == s) refl;
}
  where
    within_at : (t : ℕ) → has new t ≡ true → (b : Bool) → (t == s) ≡ b → t < c.config.shards
    within_at t there true e = subst (λ n. n < c.config.shards) (sym (same_number t s e)) lt
    within_at t there false e = k.within t (sym (others t (other_number t s e)) ∙ there)

    ready_at : (t : ℕ) → has new t ≡ false → (b : Bool) → (t == s) ≡ b → IsReady c t (at (slice_set items i o) t)
    ready_at t out true e = absurd (true≢false (sym it ∙ (ap (has new) (sym (same_number t s e)) ∙ out)))
    ready_at t out false e = subst (IsReady c t) (sym (get_or-set_other items i t o None (λ at_it. other_number t s e (at_it ∙ same)))) (k.each t (sym (others t (other_number t s e)) ∙ out))

-- another hosting stands there, and the shard is touched where that one isn't ready
pub touched_where : {c : Script} {touched new n : ℕ} {items : List (Option Hosting)} {s i : ℕ} (o : Option Hosting) → AreReady c touched items → s < c.config.shards → i ≡ s → i < length items → n ≡ room_of o
    → (has new s ≡ false → room_wanted c s ≤ n) → ((t : ℕ) → t ≢ s → has new t ≡ has touched t) → AreReady c new (slice_set items i o)
touched_where {c} {touched} {new} {n} {items} {s} {i} o k lt same inside room ready others = record {
  within = λ t there. within_at t there (t == s) refl;
  each = λ t out. ready_at t out (t == s) refl;
}
  where
    within_at : (t : ℕ) → has new t ≡ true → (b : Bool) → (t == s) ≡ b → t < c.config.shards
    within_at t there true e = subst (λ n. n < c.config.shards) (sym (same_number t s e)) lt
    within_at t there false e = k.within t (sym (others t (other_number t s e)) ∙ there)

    it_ready : has new s ≡ false → IsReady c s o
    it_ready out = λ there. subst (λ m. room_wanted c s ≤ m) room (ready out)

    ready_at : (t : ℕ) → has new t ≡ false → (b : Bool) → (t == s) ≡ b → IsReady c t (at (slice_set items i o) t)
    ready_at t out true e =
        let here : t ≡ s = same_number t s e in
        subst (λ m. IsReady c m (at (slice_set items i o) m)) (sym here)
        (subst (IsReady c s) (sym (ap (at (slice_set items i o)) (sym same) ∙ get_or-set_same items i o None inside)) (it_ready (ap (has new) (sym here) ∙ out)))
    ready_at t out false e = subst (IsReady c t) (sym (get_or-set_other items i t o None (λ at_it. other_number t s e (at_it ∙ same)))) (k.each t (sym (others t (other_number t s e)) ∙ out))

-- another hosting stands there, as ready as the one before
put_ready : {c : Script} {touched : ℕ} {items : List (Option Hosting)} {i : ℕ} (o new : Option Hosting) → AreReady c touched items → i < length items → o ≡ slice_index_or items i o → ((s : ℕ) → IsReady c s o → IsReady c s new) → AreReady c touched (slice_set items i new)
put_ready {c} {touched} {items} {i} o new k inside read goes = record {
  within = k.within;
  each = λ t out. ready_at t out (t == i) refl;
}
  where
    ready_at : (t : ℕ) → has touched t ≡ false → (b : Bool) → (t == i) ≡ b → IsReady c t (at (slice_set items i new) t)
    ready_at t out true e =
        subst (IsReady c t) (sym (ap (at (slice_set items i new)) (same_number t i e) ∙ get_or-set_same items i new None inside))
        (goes t (subst (IsReady c t) (ap (at items) (same_number t i e) ∙ (get_or_default items i None o inside ∙ sym read)) (k.each t out)))
    ready_at t out false e = subst (IsReady c t) (sym (get_or-set_other items i t new None (other_number t i e))) (k.each t out)

-- it stops
pub ended_ready : (x : Ending) {c : Script} {touched : ℕ} {items : List (Option Hosting)} {i : ℕ} {o new : Option Hosting} → AreReady c touched items → i < length items → o ≡ slice_index_or items i o → new ≡ option_map (ended x) o → AreReady c touched (slice_set items i new)
ended_ready x {c} {touched} {items} {i} {o} {new} k inside read step = put_ready o new k inside read (λ s old. subst (IsReady c s) (sym step) (ends s o old))
  where
    ends : (s : ℕ) (o : Option Hosting) → IsReady c s o → IsReady c s (option_map (ended x) o)
    ends s None old = old
    ends s (Some h) old = λ there. old (λ none. some_none none)
      where
        some_none : Some h ≡ None → ⊥
        some_none e = cc

-- it is taken out
pub taken_ready : {c : Script} {touched : ℕ} {items : List (Option Hosting)} {i : ℕ} {o new : Option Hosting} → AreReady c touched items → i < length items → o ≡ slice_index_or items i o → new ≡ None → AreReady c touched (slice_set items i new)
taken_ready {c} {touched} {items} {i} {o} {new} k inside read none = put_ready o new k inside read (λ s old. none_ready c s new none)

-- Each touched shard gets its room.

roomy_more : (c : Script) (s : ℕ) (o new : Option Hosting) → IsReserved o new → IsReady c s o → IsReady c s new
roomy_more c s o new r old there =
    let before : room_wanted c s ≤ room_of o = old (λ none. there (r.same ∙ ap (option_map (with_room (room_of new))) none)) in
    let more : room_of o ≤ room_of new = r.more in
    omega (arith, before, more)

pub ready_more : {c : Script} {touched : ℕ} {items new : List (Option Hosting)} → AreReady c touched items → AreReserved items new → AreReady c touched new
ready_more {c} {touched} {items} {new} k r = record {
  within = k.within;
  each = λ s out. roomy_more c s (at items s) (at new s) (r.each s) (k.each s out);
}

lt_of : (a b : ℕ) → nat_lt a b ≡ true → a < b
lt_of a b e = grind (arith, nat_tests)

le_of : (a b : ℕ) → nat_lt a b ≡ false → b ≤ a
le_of a b e = grind (arith, nat_tests)

-- it has its room, and is out of the set
pub ready_without : {c : Script} {touched new_touched s : ℕ} {items new : List (Option Hosting)} → AreReady c touched items → AreReserved items new → IsReady c s (at new s) → c.config.shards ≤ 128
    → has new_touched s ≡ false → ((t : ℕ) → t < 128 → t ≢ s → has new_touched t ≡ has touched t) → new_touched < 2 ^ 128 → AreReady c new_touched new
ready_without {c} {touched} {new_touched} {s} {items} {new} k r it most out others fits = record {
  within = λ t there. within_at t there (nat_lt t 128) refl (t == s) refl;
  each = λ t apart. ready_at t apart (t == s) refl;
}
  where
    within_at : (t : ℕ) → has new_touched t ≡ true → (a : Bool) → nat_lt t 128 ≡ a → (b : Bool) → (t == s) ≡ b → t < c.config.shards
    within_at t there false high b e = absurd (true≢false (sym there ∙ ap (λ b. b == 1) (bit_at_above new_touched 128 t fits (le_of t 128 high))))
    within_at t there true low true e = absurd (true≢false (sym there ∙ (ap (has new_touched) (same_number t s e) ∙ out)))
    within_at t there true low false e = k.within t (sym (others t (lt_of t 128 low) (other_number t s e)) ∙ there)

    ready_at : (t : ℕ) → has new_touched t ≡ false → (b : Bool) → (t == s) ≡ b → IsReady c t (at new t)
    ready_at t apart true e = subst (λ n. IsReady c n (at new n)) (sym (same_number t s e)) it
    ready_at t apart false e = at_test (nat_lt t 128) refl (has touched t) refl
      where
        at_test : (a : Bool) → nat_lt t 128 ≡ a → (b : Bool) → has touched t ≡ b → IsReady c t (at new t)
        at_test true low b is = roomy_more c t (at items t) (at new t) (r.each t) (k.each t (sym (others t (lt_of t 128 low) (other_number t s e)) ∙ apart))
        at_test false high true is = absurd (let below : t < c.config.shards = k.within t is in let up : 128 ≤ t = le_of t 128 high in omega (arith, below, up, most))
        at_test false high false is = roomy_more c t (at items t) (at new t) (r.each t) (k.each t is)

-- without its lowest, which isn't below k, a set has none up to k
pub lowest_out : (touched new k s : ℕ) → ((t : ℕ) → t < k → has touched t ≡ false) → has touched s ≡ true → ((t : ℕ) → t < s → has touched t ≡ false)
    → has new s ≡ false → ((t : ℕ) → t < 128 → t ≢ s → has new t ≡ has touched t) → new < 2 ^ 128 → (t : ℕ) → t < k + 1 → has new t ≡ false
lowest_out touched new k s done it low out others fits t below = at_test (nat_lt t 128) refl (t == s) refl (nat_lt t s) refl
  where
    at_test : (a : Bool) → nat_lt t 128 ≡ a → (b : Bool) → (t == s) ≡ b → (d : Bool) → nat_lt t s ≡ d → has new t ≡ false
    at_test false high b is d e = ap (λ b. b == 1) (bit_at_above new 128 t fits (le_of t 128 high))
    at_test true inside true is d e = ap (has new) (same_number t s is) ∙ out
    at_test true inside false is true e = others t (lt_of t 128 inside) (other_number t s is) ∙ low t (lt_of t s e)
    at_test true inside false is false e = absurd (true≢false (sym it ∙ done s (before (other_number t s is) (le_of t s e))))
      where
        before : t ≢ s → s ≤ t → s < k
        before other most = by (nat_lt s k) refl
          where
            by : (b : Bool) → nat_lt s k ≡ b → s < k
            by true e = lt_of s k e
            by false e = absurd (other (let up : k ≤ s = le_of s k e in omega (arith, most, up, below)))

-- none is touched any more
pub all_ready : {c : Script} {touched : ℕ} {items new : List (Option Hosting)} → AreReady c touched new → AreReserved items new → ((s : ℕ) → s < c.config.shards → has touched s ≡ false)
    → (s : ℕ) → (at items s ≡ None → ⊥) → room_wanted c s ≤ room_of (at new s)
all_ready {c} {touched} {items} {new} k r none s there = by (has touched s) refl
  where
    hosted : at new s ≡ None → ⊥
    hosted gone = there (back (at items s) (sym (r.each s).same ∙ gone))
      where
        back : (o : Option Hosting) → option_map (with_room (room_of (at new s))) o ≡ None → o ≡ None
        back None e = refl
        back (Some h) e = cc

    by : (b : Bool) → has touched s ≡ b → room_wanted c s ≤ room_of (at new s)
    by true is = absurd (true≢false (sym is ∙ none s (k.within s is)))
    by false is = k.each s is hosted

-- the empty set
pub none_touched : (touched s : ℕ) → touched ≡ 0 → has touched s ≡ false
none_touched touched s empty = ap (λ n. has n s) empty ∙ ap (λ b. b == 1) (bit_at-zero s)

-- of the script that the places are of
pub ready_of : {c d : Script} {touched : ℕ} {items : List (Option Hosting)} → c ≡ d → AreReady c touched items → AreReady d touched items
ready_of {c} {d} {touched} {items} same k = subst (λ (x : Script). AreReady x touched items) same k

pub wanted_of : {c d : Script} (touched s : ℕ) {n : ℕ} → d ≡ c → (has touched s ≡ false → room_wanted d s ≤ n) → has touched s ≡ false → room_wanted c s ≤ n
wanted_of {c} {d} touched s {n} same ready out = subst (λ (x : Script). room_wanted x s ≤ n) same (ready out)

pub shard_inside : {c : Script} {version : ℕ} {who : Incarnation} {config : Config} {places : Script} {cells : List Celled} {items : List (Option Hosting)} {running : ℕ} {v : Lodged} {s i : ℕ} → IsLodged c version who config places cells items running → lodged c version who items cells ≡ v → s < v.script.config.shards → i ≡ s → i < length items
shard_inside {c} {version} {who} {config} {places} {cells} {items} {running} {v} {s} {i} k seen lt same = subst (λ n. n < length items) (sym same) (subst (λ n. s < n) (sym k.shards_there) (shard_below cells items seen lt))
