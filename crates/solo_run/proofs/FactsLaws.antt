-- The lists of the shards, as facts.
use Rattle.std.proofs.Common.{◌≡◌, ◌<◌, ◌≤◌, ℕ, zero, suc, ◌+◌, ◌-◌, sym, ap, ◌∙◌, refl, arith, Vec, Global}
use Rattle.std.specs.Prelude.{List, [], ◌∷◌, ◌++◌, length, map, slice_index_or, slice_set}
use Rattle.std.proofs.lemmas.List.{map-append, append_assoc}
use Rattle.std.proofs.lemmas.List.Sums.{fold-append}
use Rattle.yard_model.specs.declared.fact.Fact.{Fact}
use Rattle.yard_model.specs.declared.fact.Fact.TheVariants as fact
use Rattle.yard_model.specs.declared.entry.ShardEntry.{ShardEntry}
use Rattle.yard_model.specs.declared.entry.ShardEntry.TheVariants as entry
use Rattle.yard_model.specs.declared.packet.Record.{Record}
use Rattle.yard_model.specs.Entry.{shard_fact}
use Rattle.yard_model.specs.SlotReads.{journal, journal_step}
use Rattle.solo_run.specs.Facts.{facts_from, facts_of, with_fact, held}
use Rattle.yard_model.specs.Words.{numbers}
use Rattle.yard_model.specs.Solo.{alone}

pub length_facts : (s : ℕ) (vs : List (Vec ShardEntry Global)) → length (facts_from s vs) ≡ length vs
length_facts s [] = refl
length_facts s (v ∷ vs) = ap suc (length_facts (s + 1) vs)

facts_set : (s : ℕ) (vs : List (Vec ShardEntry Global)) (i : ℕ) (v : Vec ShardEntry Global) → facts_from s (slice_set vs i v) ≡ slice_set (facts_from s vs) i (map (shard_fact (s + i)) v.items)
facts_set s [] i v = refl
facts_set s (w ∷ ws) zero v = ap (λ n. map (shard_fact n) v.items ∷ facts_from (s + 1) ws) (omega arith)
facts_set s (w ∷ ws) (suc i) v = ap (λ l. map (shard_fact s) w.items ∷ l) (facts_set (s + 1) ws i v ∙ ap (λ n. slice_set (facts_from (s + 1) ws) i (map (shard_fact n) v.items)) (omega arith))

facts_at : (s : ℕ) (vs : List (Vec ShardEntry Global)) (i : ℕ) (d : Vec ShardEntry Global) → i < length vs → slice_index_or (facts_from s vs) i [] ≡ map (shard_fact (s + i)) (slice_index_or vs i d).items
facts_at s [] i d h = absurd (omega arith)
facts_at s (w ∷ ws) zero d h = ap (λ n. map (shard_fact n) w.items) (omega arith)
facts_at s (w ∷ ws) (suc i) d h = facts_at (s + 1) ws i d (omega arith) ∙ ap (λ n. map (shard_fact n) (slice_index_or ws i d).items) (omega arith)

-- one record more in the list of a shard
pub facts_recorded : (vs : List (Vec ShardEntry Global)) (i : ℕ) (old new : Vec ShardEntry Global) (e : List ℕ) (r : Record) → i < length vs → old ≡ slice_index_or vs i old
    → new.items ≡ old.items ++ entry.Wrote e r ∷ [] → facts_of (slice_set vs i new) ≡ with_fact i (fact.Wrote e r) (facts_of vs)
facts_recorded vs i old new e r h is more =
    let zero_i : 0 + i ≡ i = omega arith in
    facts_set 0 vs i new ∙ ap (slice_set (facts_of vs) i) (
    ap (map (shard_fact (0 + i))) more ∙ (map-append (shard_fact (0 + i)) old.items (entry.Wrote e r ∷ [])
    ∙ ap (λ l. l ++ fact.Wrote e r ∷ []) (ap (λ (x : Vec ShardEntry Global). map (shard_fact (0 + i)) x.items) is ∙ sym (facts_at 0 vs i old h))))

-- the journal of a name, in a list with one record more
pub journal_more : (q e : List ℕ) (l : List Fact) (r : Record) → journal q (l ++ fact.Wrote e r ∷ []) ≡ journal_step q (journal q l) (fact.Wrote e r)
journal_more q e l r = fold-append (journal_step q) [] l (fact.Wrote e r ∷ [])

facts_more : (s : ℕ) (vs : List (Vec ShardEntry Global)) (v : Vec ShardEntry Global) → facts_from s (vs ++ v ∷ []) ≡ facts_from s vs ++ map (shard_fact (s + length vs)) v.items ∷ []
facts_more s [] v = ap (λ n. map (shard_fact n) v.items ∷ []) (omega arith)
facts_more s (w ∷ ws) v = ap (λ l. map (shard_fact s) w.items ∷ l) (facts_more (s + 1) ws v ∙ ap (λ n. facts_from (s + 1) ws ++ map (shard_fact n) v.items ∷ []) (omega arith))

numbers_next : (i n : ℕ) → i < n → numbers i (n - i) ≡ i ∷ numbers (i + 1) (n - (i + 1))
numbers_next i n h = let less : n - i ≡ suc (n - (i + 1)) = omega arith in rw less refl

-- one list more of a shard that is held and has no records
pub held_more : (vs new : List (Vec ShardEntry Global)) (v : Vec ShardEntry Global) (i n : ℕ) → i < n → length vs ≡ i → new ≡ vs ++ v ∷ [] → v.items ≡ entry.Granted 1 alone ∷ []
    → facts_of vs ++ map held (numbers i (n - i)) ≡ map held (numbers 0 n) → facts_of new ++ map held (numbers (i + 1) (n - (i + 1))) ≡ map held (numbers 0 n)
held_more vs new v i n h long is first old =
    let it : map (shard_fact (0 + length vs)) v.items ≡ held i = ap (map (shard_fact (0 + length vs))) first ∙ ap held (omega arith) in
    let made : facts_of new ≡ facts_of vs ++ held i ∷ [] = ap facts_of is ∙ (facts_more 0 vs v ∙ ap (λ l. facts_of vs ++ l ∷ []) it) in
    ap (λ l. l ++ map held (numbers (i + 1) (n - (i + 1)))) made
    ∙ (append_assoc (facts_of vs) (held i ∷ []) (map held (numbers (i + 1) (n - (i + 1))))
    ∙ (ap (λ l. facts_of vs ++ map held l) (sym (numbers_next i n h)) ∙ old))

-- no records stand in lists of shards that are held and have none
pub no_records : (e : List ℕ) (ns : List ℕ) (i : ℕ) → journal e (slice_index_or (map held ns) i []) ≡ []
no_records e [] i = refl
no_records e (n ∷ ns) zero = refl
no_records e (n ∷ ns) (suc i) = no_records e ns i

-- there is nothing in rows of nothing
pub nothing_at : {A : Type 0} (ns : List ℕ) (i : ℕ) → slice_index_or (map (λ (n : ℕ). let none : List A = [] in none) ns) i [] ≡ []
nothing_at [] i = refl
nothing_at (n ∷ ns) zero = refl
nothing_at (n ∷ ns) (suc i) = nothing_at ns i

-- the list of a shard, where it is there and where it isn't
pub list_there : (vs : List (Vec ShardEntry Global)) (i : ℕ) (v : Vec ShardEntry Global) → i < length vs → v ≡ slice_index_or vs i v → map (shard_fact i) v.items ≡ slice_index_or (facts_of vs) i []
list_there vs i v inside e =
    ap (λ (w : Vec ShardEntry Global). map (shard_fact i) w.items) e ∙ sym (facts_at 0 vs i v inside ∙ ap (λ n. map (shard_fact n) (slice_index_or vs i v).items) (omega arith))

pub list_missing : (s : ℕ) (vs : List (Vec ShardEntry Global)) (i : ℕ) → length vs ≤ i → [] ≡ slice_index_or (facts_from s vs) i []
list_missing s [] i h = refl
list_missing s (v ∷ vs) zero h = absurd (omega arith)
list_missing s (v ∷ vs) (suc i) h = list_missing (s + 1) vs i (omega arith)
