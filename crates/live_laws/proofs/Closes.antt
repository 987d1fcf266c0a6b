-- Lists that are lawful one by one, and of which what is confirmed is recorded, are lawful.
use Rattle.std.proofs.Common.{◌≡◌, ◌<◌, ◌≤◌, ℕ, zero, suc, ◌+◌, ◌-◌, sym, ap, ◌∙◌, refl, arith}
use Rattle.std.specs.Prelude.{Bool, true, ◌==◌, ◌&&◌, nat_lt, nat_le, List, [], ◌∷◌, length, slice_index_or}
use Rattle.std.specs.List.{list_all}
use Rattle.plain_laws.proofs.Booleans.{and_both, both, left_of, right_of, below, at_most, is_below, within, number_itself}
use Rattle.plain_laws.proofs.Lists.{all_join}
use Rattle.plain_laws.proofs.Names.{name_itself}
use Rattle.yard_laws.proofs.Owned.{queue_to}
use Rattle.yard_laws.proofs.Places.{places}
use Rattle.yard_model.specs.declared.fact.Fact.{Fact}
use Rattle.yard_model.specs.declared.fact.Fact.TheVariants as fact
use Rattle.yard_model.specs.declared.incarnation.Slot.TheVariants as slot
use Rattle.yard_model.specs.Genuine.{is_shard, is_producer}
use Rattle.yard_model.specs.Lawful.{own, may_follow, is_leased, is_entry, is_recorded, has_place, confirmed_there}
use Rattle.yard_model.specs.Script.{Script, IsScript, setting, is_name}
use Rattle.yard_model.specs.Setting.{shards, producers, shard_of}
use Rattle.yard_model.specs.SlotLists.{SlotLists, shard_list, queue_list}
use Rattle.yard_model.specs.SlotReads.{journal, position, confirmed, queued}
use Rattle.yard_model.specs.Words.{numbers}
use Rattle.shard_lease.specs.Meaning.{confirms, is_confirmed}
use Rattle.lease_table.specs.Fits.{recorded}
use Rattle.lease_table.proofs.Records.{home_within}
use Rattle.live_laws.specs.Live.{TableIsLawful}

pub all_numbers : (q : ℕ → Bool) (a n : ℕ) → ((i : ℕ) → a ≤ i → i < a + n → q i ≡ true) → list_all q (numbers a n) ≡ true
all_numbers q a zero h = refl
all_numbers q a (suc n) h = both (q a) (list_all q (numbers (a + 1) n)) (h a (omega arith) (omega arith)) (all_numbers q (a + 1) n (λ i le lt. h i (omega arith) (omega arith)))

-- confirmed numbers are at least 1
abbrev is_some : Fact → Bool
is_some (fact.Confirmed p e n) = nat_lt 0 n
is_some f = true

positive : (a b : ℕ) → nat_lt a b ≡ true → nat_lt 0 b ≡ true
positive a b h = let k : a < b = below a b h in is_below 0 b (omega arith)

some_confirmed : (c : Script) (p : ℕ) (before : List Fact) (f : Fact) → may_follow c (slot.Queue p) before f ≡ true → is_some f ≡ true
some_confirmed c p before (fact.Confirmed q e n) may =
    let entry : ((q == p) && nat_lt (confirmed e before) n && nat_le n (queued e before)) ≡ true = (and_both (is_leased before (fact.Confirmed q e n)) (is_entry c (slot.Queue p) before (fact.Confirmed q e n)) may).1 in
    positive (confirmed e before) n (and_both (q == p) (nat_lt (confirmed e before) n) (and_both ((q == p) && nat_lt (confirmed e before) n) (nat_le n (queued e before)) entry).0).1
some_confirmed c p before f may = refl

all_some : (c : Script) (p : ℕ) (list : List Fact) → own c (slot.Queue p) list ≡ true → list_all is_some list ≡ true
all_some c p list o = queue_to c p (λ l. list_all is_some l ≡ true) refl (λ l f h may. all_join is_some l (f ∷ []) h (both (is_some f) true (some_confirmed c p l f may) refl)) list o

confirms_itself : (p : ℕ) (e : List ℕ) (n : ℕ) (fs : List Fact) → confirms e p n (fact.Confirmed p e n ∷ fs) ≡ true
confirms_itself p e n fs = left_of (is_confirmed e p n (fact.Confirmed p e n)) (confirms e p n fs) (both ((p == p) && is_name e e) (n == n) (both (p == p) (is_name e e) (number_itself p p refl) (name_itself e)) (number_itself n n refl))

-- each confirmed number of these has its record
module _ (c : Script) (lists : SlotLists) (script : IsScript c) (owned : (k : ℕ) → is_shard c k ≡ true → own c (slot.Shard k) (shard_list lists k) ≡ true) where
  has_record : (p : ℕ) (e : List ℕ) (n : ℕ) → nat_lt 0 n ≡ true → recorded e p n (shard_list lists (shard_of (setting c) e)) ≡ true → has_place p n (journal e (shard_list lists (shard_of (setting c) e))) ≡ true
  has_record p e n some there =
      let k : ℕ = shard_of (setting c) e in
      places c k e (shard_list lists k) (owned k (is_below k c.config.shards (home_within c e script))) p n (below 0 n some) (at_most n (position p (journal e (shard_list lists k))) there)

  all_recorded : (fs : List Fact) → list_all is_some fs ≡ true → ((e : List ℕ) (p n : ℕ) → confirms e p n fs ≡ true → recorded e p n (shard_list lists (shard_of (setting c) e)) ≡ true) → list_all (is_recorded c lists) fs ≡ true
  all_recorded [] some there = refl
  all_recorded (f ∷ fs) some there =
      let s : (is_some f ≡ true) × (list_all is_some fs ≡ true) = and_both (is_some f) (list_all is_some fs) some in
      both (is_recorded c lists f) (list_all (is_recorded c lists) fs) (one f s.0 there) (all_recorded fs s.1 (λ e p n h. there e p n (right_of (is_confirmed e p n f) (confirms e p n fs) h)))
    where
      one : (f : Fact) → is_some f ≡ true → ((e : List ℕ) (p n : ℕ) → confirms e p n (f ∷ fs) ≡ true → recorded e p n (shard_list lists (shard_of (setting c) e)) ≡ true) → is_recorded c lists f ≡ true
      one (fact.Confirmed p e n) some there = has_record p e n some (there e p n (confirms_itself p e n fs))
      one f some there = refl

  each_queue : (qs : List (List Fact)) → ((i : ℕ) → i < length qs → list_all (is_recorded c lists) (slice_index_or qs i []) ≡ true) → list_all (list_all (is_recorded c lists)) qs ≡ true
  each_queue [] h = refl
  each_queue (q ∷ qs) h = both (list_all (is_recorded c lists) q) (list_all (list_all (is_recorded c lists)) qs) (h 0 (omega arith)) (each_queue qs (λ i lt. h (suc i) (omega arith)))

is_producer_of : (c : Script) (p : ℕ) → 1 ≤ p → p ≤ c.config.producers → is_producer c p ≡ true
is_producer_of c p low high = both (nat_le 1 p) (nat_le p c.config.producers) (within 1 p low) (within p c.config.producers high)

pub table_is_lawful : TableIsLawful
table_is_lawful c lists script shards_there queues_there owned there =
    let owned_shard : (k : ℕ) → is_shard c k ≡ true → own c (slot.Shard k) (shard_list lists k) ≡ true = λ k h. owned (slot.Shard k) h in
    let owned_queue : (p : ℕ) → is_producer c p ≡ true → own c (slot.Queue p) (queue_list lists p) ≡ true = λ p h. owned (slot.Queue p) h in
    let a : (length lists.shards == c.config.shards) ≡ true = number_itself (length lists.shards) c.config.shards shards_there in
    let b : (length lists.queues == c.config.producers) ≡ true = number_itself (length lists.queues) c.config.producers queues_there in
    let d : list_all (λ s. own c (slot.Shard s) (shard_list lists s)) (shards (setting c)) ≡ true = all_numbers (λ s. own c (slot.Shard s) (shard_list lists s)) 0 c.config.shards (λ i low high. owned_shard i (is_below i c.config.shards (omega arith))) in
    let e : own c slot.Coordinator lists.coordinator ≡ true = owned slot.Coordinator refl in
    let f : list_all (λ p. own c (slot.Queue p) (queue_list lists p)) (producers (setting c)) ≡ true = all_numbers (λ p. own c (slot.Queue p) (queue_list lists p)) 1 c.config.producers (λ i low high. owned_queue i (is_producer_of c i low (omega arith))) in
    let g : confirmed_there c lists ≡ true = each_queue c lists script owned_shard lists.queues (λ i lt.
    let p : is_producer c (suc i) ≡ true = is_producer_of c (suc i) (omega arith) (omega arith) in
    let same : suc i - 1 ≡ i = omega arith in
    let list : List Fact = slice_index_or lists.queues i [] in
    let list_is : queue_list lists (suc i) ≡ list = ap (λ j. slice_index_or lists.queues j []) same in
    all_recorded c lists script owned_shard list
    (all_some c (suc i) list (ap (own c (slot.Queue (suc i))) (sym list_is) ∙ owned_queue (suc i) p))
    (λ x q n h. there (suc i) x q n p (ap (confirms x q n) list_is ∙ h))) in
    let A : Bool = length lists.shards == c.config.shards in let B : Bool = length lists.queues == c.config.producers in
    let D : Bool = list_all (λ s. own c (slot.Shard s) (shard_list lists s)) (shards (setting c)) in
    let E : Bool = own c slot.Coordinator lists.coordinator in
    let F : Bool = list_all (λ p. own c (slot.Queue p) (queue_list lists p)) (producers (setting c)) in
    both (A && B && D && E && F) (confirmed_there c lists) (both (A && B && D && E) F (both (A && B && D) E (both (A && B) D (both A B a b) d) e) f) g
