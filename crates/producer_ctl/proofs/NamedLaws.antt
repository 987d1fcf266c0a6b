-- The shard of a name; what stands at the beginning.
use Rattle.std.proofs.Common.{◌≡◌, ℕ, zero, suc, ◌<◌, ◌≤◌, ◌+◌, ◌%◌, List, [], length, map, replicate, sym, ap, subst, ◌∙◌, refl, arith}
use Rattle.std.specs.Prelude.{Option, None, IfSome, slice_index_or}
use Rattle.std.specs.List.Sorted.{IsStrictlySortedBy}
use Rattle.std.specs.Ordering.{nat_cmp}
use Rattle.std.specs.Cmp.Lexicographic.{slice_cmp}
use Rattle.std.proofs.lemmas.List.{get_or-map, length-replicate}
use Rattle.yard_model.specs.declared.incarnation.Incarnation.{Incarnation}
use Rattle.yard_model.specs.Script.{Script, setting}
use Rattle.yard_model.specs.Shard.{shard, absolute, java_hash}
use Rattle.yard_model.specs.Words.{at}
use Rattle.producer_ctl.specs.declared.names.Kept.{Kept}
use Rattle.producer_ctl.specs.Named.{AreKept, IsNamed}
use Rattle.producer_ctl.specs.Paired.{name_at}
use Rattle.producer_ctl.specs.Produced.{Produced}
use Rattle.producer_ctl.specs.Producing.{IsProducing, IsHeld, HasPlaces}

-- what is lent of what is kept is so too
pub lent : {k x : Kept} → k ≡ x → AreKept x → AreKept k
lent {k} {x} e are = subst AreKept (sym e) are

pub lent_script : {k x : Kept} {v : Script} → k ≡ x → x.script.value ≡ v → k.script.value ≡ v
lent_script {k} {x} {v} e seen = ap (λ (k : Kept). k.script.value) e ∙ seen

-- what is kept at a place is the shard of the name there
pub named_shard : (i r : ℕ) {c v : Script} {names : List (List ℕ)} {shards : List ℕ} → IsNamed c names shards → c ≡ v → i < length (setting v).names → r ≡ slice_index_or shards i r → r ≡ shard v.config.shards (name_at (setting v).names i)
named_shard i r {c} {v} {names} {shards} k seen inside read =
    read ∙ (ap (λ l. slice_index_or l i r) (k.shards_are ∙ (ap (map (shard c.config.shards)) k.names_are ∙ ap (λ (s : Script). map (shard s.config.shards) (setting s).names) seen))
    ∙ get_or-map (shard v.config.shards) (setting v).names i [] r inside)

pub named_below : (i r : ℕ) {c v : Script} {names : List (List ℕ)} {shards : List ℕ} → IsNamed c names shards → c ≡ v → i < length (setting v).names → r ≡ slice_index_or shards i r → r < v.config.shards
named_below i r {c} {v} {names} {shards} k seen inside read =
    subst (λ s. s < v.config.shards) (sym (named_shard i r k seen inside read)) (below (absolute (java_hash (name_at (setting v).names i))) v.config.shards (subst (λ (s : Script). 1 ≤ s.config.shards) seen k.some))
  where
    below : (h n : ℕ) → 1 ≤ n → h % n < n
    below h n some = omega (arith, some)

-- At the beginning no queue is held.

abbrev pub none_of : ℕ → List (Option Produced)
none_of n = replicate n None

pub none_at : (n i : ℕ) → at (none_of n) i ≡ None
none_at zero i = refl
none_at (suc n) zero = refl
none_at (suc n) (suc i) = none_at n i

pub new_stands : (c d : Script) (who : Incarnation) (n places : ℕ) {items : List (Option Produced)} {tables : List (Option ℕ)} → c ≡ d → IsStrictlySortedBy (slice_cmp nat_cmp) (setting c).names → items ≡ replicate n None → n ≡ d.config.producers → length tables ≡ n
    → places ≡ length (setting c).names → ((i : ℕ) → i < n → HasPlaces places (at tables i)) → IsProducing c who (setting c).names items tables None
new_stands c d who n places {items} {tables} script sorted none size there long each = record {
  names_are = refl;
  sorted = sorted;
  there = ap length none ∙ (length-replicate n None ∙ count);
  tables_there = there ∙ count;
  each = λ i. subst (λ o. IfSome o (IsHeld c who (i + 1))) (sym (ap (λ l. at l i) none ∙ none_at n i)) tt;
  free = λ i below e. subst (λ k. HasPlaces k (at tables i)) long (each i (subst (λ k. i < k) (sym count) below));
  pending_is = tt;
}
  where
    count : n ≡ c.config.producers
    count = size ∙ ap (λ (s : Script). s.config.producers) (sym script)
