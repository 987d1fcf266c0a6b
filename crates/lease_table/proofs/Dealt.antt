-- The passes that a new table deals.
use Rattle.std.proofs.Common.{false, ◌≡◌, ℕ, zero, suc, ◌+◌, ◌-◌, ◌<◌, ◌≤◌, ◌^◌, true, List, [], ◌∷◌, ◌++◌, length, map, replicate, refl, sym, ap, ◌∙◌, subst, arith, append_assoc, length-append, get_or, true≢false, flat_map, ◌*◌}
use Rattle.plain_laws.proofs.Booleans.{get_replicate, below, all_get}
use Rattle.std.specs.Prelude.{Option, None, Some, reverse}
use Rattle.std.proofs.lemmas.List.{length-map, map-append, reverse-append, length-replicate, get_or_append_left, get_or-append-add}
use Rattle.std.specs.List.{list_all}
use mathlib.Core.Option as maybe
use Rattle.atomic_table.specs.Seated.{TableId}
use Rattle.atomic_table.specs.Table.{opening}
use Rattle.yard_model.specs.Script.{Script}
use Rattle.yard_model.specs.declared.fact.Fact.{Fact}
use Rattle.shard_store.specs.declared.store.Store.{Store}
use Rattle.shard_store.specs.Stores.{slot_at, entries_of, entries_in, entries_at, IsHome, IsThere, AreHomes}
use Rattle.lease_table.specs.Lists.{Has}
use Rattle.yard_model.specs.Words.{at, numbers}
use Rattle.lease_table.specs.Rule.{down, IsTable, head_at}
use Rattle.lease_table.specs.Tells.{SeatState, fresh_view, opening_view, first_of, rest_of, dealt_left, dealt_right}
use Rattle.lease_table.specs.Leasing.{Pass, pass, counted, IsPass, fresh, dealt_from, dealt_on, dealt, Idle, Ready, words_of, length_in, line_of, is_short, lists_in}
use Rattle.lease_table.proofs.Heads.{length_lines, first_of_line}
use Rattle.lease_table.proofs.Places.{down-le, not_some}
use Rattle.lease_table.proofs.Seats.{got_at, begins}
use Rattle.yard_model.specs.Lawful.{is_held}
use Rattle.shard_lease.specs.Meaning.{confirms}
use Rattle.lease_table.specs.Fits.{slot_count, Fits}

counted_fresh : (n : ℕ) → counted (replicate n None) ≡ 0
counted_fresh zero = refl
counted_fresh (suc n) = counted_fresh n

pub fresh_ok : (c : Script) (ls : List (List Fact)) (m : SeatState) (n : ℕ) (order : List ℕ) (room : ℕ) → length ls ≡ slot_count c → m ≡ (fresh c ls n, []) → order ≡ [] → (slot_count c) ≤ room → IsPass c m order room
fresh_ok c ls m n order room long is none wide = subst (λ (y : SeatState). IsPass c y order room) (sym is) (subst (λ (o : List ℕ). IsPass c (fresh c ls n, []) o room) (sym none) record {
  carried = refl;
  charter = refl;
  live = refl;
  helds = length-replicate (slot_count c) None;
  seens = long;
  oldss = length-replicate (slot_count c) [];
  listed = λ k e. absurd (not_some (at (replicate (slot_count c) None) k) (get_replicate (slot_count c) k None) e);
  count = sym (counted_fresh (slot_count c));
  room = wide;
})

-- the loop that deals
pub record Dealing (z : TableId) (c : Script) (ls : List (List Fact)) (left : ℕ) (now : TableId) (m : SeatState) (passes : List Pass) : Type 0 where
  pub table : now ≡ z
  pub some : 1 ≤ left
  pub me : m ≡ (fresh_view c ls (down left), [])
  pub passed : passes ++ dealt_from z c ls left ≡ dealt_from z c ls c.config.nodes

pub down_first : (n : ℕ) → 1 ≤ n → first_of (down n) ≡ n
down_first zero h = absurd (omega arith)
down_first (suc n) h = refl

pub down_rest : (n : ℕ) → 1 ≤ n → rest_of (down n) ≡ down (n - 1)
down_rest zero h = absurd (omega arith)
down_rest (suc n) h = ap down (let e : n ≡ suc n - 1 = omega arith in e)

pub down_split : (n : ℕ) → 1 ≤ n → down n ≡ n ∷ down (n - 1)
down_split zero h = absurd (omega arith)
down_split (suc n) h = ap (λ (k : ℕ). suc n ∷ down k) (let e : n ≡ suc n - 1 = omega arith in e)

pub down_apart : (n : ℕ) → 1 ≤ n → Has n (down (n - 1)) → ⊥
down_apart n h p = let t = down-le (n - 1) n p in let a : n ≤ n - 1 = t.1 in omega arith

pub deals_on : (z : TableId) (c : Script) (ls : List (List Fact)) (left : ℕ) (now now' : TableId) (m m' : SeatState) (passes passes' : List Pass) (p : Pass) → Dealing z c ls left now m passes → 1 < left → now' ≡ now → m' ≡ (dealt_left m.0, m.1) → p ≡ pass z (dealt_right m.0) → passes' ≡ passes ++ p ∷ []
    → Dealing z c ls (left - 1) now' m' passes'
deals_on z c ls left now now' m m' passes passes' p d more table is made pushed = record {
  table = table ∙ d.table;
  some = omega arith;
  me = is ∙ ap (λ (x : SeatState). (dealt_left x.0, x.1)) d.me ∙ ap (λ (ns : List ℕ). (fresh_view c ls ns, [])) (down_rest left d.some);
  passed = ap (λ l. l ++ dealt_from z c ls (left - 1)) pushed ∙ append_assoc passes (p ∷ []) (dealt_from z c ls (left - 1)) ∙ ap (λ (q : Pass). passes ++ q ∷ dealt_from z c ls (left - 1)) (made ∙ ap (λ (x : SeatState). pass z (dealt_right x.0)) d.me ∙ ap (λ (n : ℕ). pass z (fresh c ls n)) (down_first left d.some))
      ∙ ap (λ (ns : List ℕ). passes ++ map (λ n. pass z (fresh c ls n)) ns) (sym (down_split left d.some)) ∙ d.passed;
}

pub right_fresh : (z : TableId) (c : Script) (ls : List (List Fact)) (left : ℕ) (now : TableId) (m : SeatState) (passes : List Pass) → Dealing z c ls left now m passes → dealt_right m.0 ≡ fresh c ls left
right_fresh z c ls left now m passes d = ap (λ (x : SeatState). dealt_right x.0) d.me ∙ ap (λ (n : ℕ). fresh c ls n) (down_first left d.some)

pub last_fresh : (z : TableId) (c : Script) (ls : List (List Fact)) (left : ℕ) (now : TableId) (m : SeatState) (passes : List Pass) → Dealing z c ls left now m passes → left ≤ 1 → m ≡ (fresh c ls 1, [])
last_fresh z c ls left now m passes d few = d.me ∙ ap (λ (n : ℕ). (fresh_view c ls (down n), [])) (let a : 1 ≤ left = d.some in let e : left ≡ 1 = omega arith in e)

pub ends_dealt : (z : TableId) (c : Script) (ls : List (List Fact)) (left : ℕ) (now : TableId) (m : SeatState) (passes passes' : List Pass) (p : Pass) → Dealing z c ls left now m passes → left ≤ 1 → p ≡ pass z m.0 → passes' ≡ passes ++ p ∷ [] → passes' ≡ dealt_from z c ls c.config.nodes
ends_dealt z c ls left now m passes passes' p d few made pushed =
    let one : left ≡ 1 = let a : 1 ≤ left = d.some in omega arith in
    pushed ∙ ap (λ (q : Pass). passes ++ q ∷ []) (made ∙ ap (λ (x : SeatState). pass z x.0) (last_fresh z c ls left now m passes d few)) ∙ ap (λ (n : ℕ). passes ++ dealt_from z c ls n) (sym one) ∙ d.passed

numbers_last : (a n b : ℕ) → b ≡ a + n → numbers a (suc n) ≡ numbers a n ++ b ∷ []
numbers_last a zero b e = ap (λ k. k ∷ []) (let same : a ≡ b = omega arith in same)
numbers_last a (suc n) b e = ap (λ l. a ∷ l) (numbers_last (a + 1) n b (omega arith))

-- by rising node
pub in_order : (z : TableId) (c : Script) (ls : List (List Fact)) (n : ℕ) → reverse (dealt_from z c ls n) ≡ map (λ m. pass z (fresh c ls m)) (numbers 1 n)
in_order z c ls zero = refl
in_order z c ls (suc n) =
    let f : ℕ → Pass = λ m. pass z (fresh c ls m) in
    reverse-append (f (suc n) ∷ []) (dealt_from z c ls n)
    ∙ ap (λ l. l ++ f (suc n) ∷ []) (in_order z c ls n)
    ∙ sym (map-append f (numbers 1 n) (suc n ∷ []))
    ∙ ap (map f) (sym (numbers_last 1 n (suc n) (omega arith)))

pub popped : (old new : List Pass) (p : Pass) → old ≡ new ++ p ∷ [] → reverse old ≡ p ∷ reverse new
popped old new p e = ap reverse e ∙ reverse-append new (p ∷ [])

-- the next pass is that of the next node, and holds nothing
pub next_idle : (z : TableId) (c : Script) (ls : List (List Fact)) (k n : ℕ) (p : Pass) (rest : List Pass) → dealt_on z c ls k (suc n) ≡ p ∷ rest → Idle z c k p × (dealt_on z c ls (k + 1) n ≡ rest)
next_idle z c ls k n p rest e = (
  subst (Idle z c k) (head_is (pass z (fresh c ls k)) p (dealt_on z c ls (k + 1) n) rest e) record { table = refl; charter = refl; numbers = refl; nothing = λ j. get_replicate (slot_count c) j None },
  tail_is (pass z (fresh c ls k)) p (dealt_on z c ls (k + 1) n) rest e,
)
  where
    head_is : (x y : Pass) (xs ys : List Pass) → x ∷ xs ≡ y ∷ ys → x ≡ y
    head_is x y xs ys e = cc

    tail_is : (x y : Pass) (xs ys : List Pass) → x ∷ xs ≡ y ∷ ys → xs ≡ ys
    tail_is x y xs ys e = cc

-- of two nodes
pub two_idle : (z : TableId) (c : Script) (ls : List (List Fact)) (all rest last : List Pass) (p q : Pass) → c.config.nodes ≡ 2 → all ≡ dealt z c ls → all ≡ p ∷ rest → rest ≡ q ∷ last → Idle z c 1 p × Idle z c 2 q
two_idle z c ls all rest last p q two is first second =
    let a : Idle z c 1 p × (dealt_on z c ls 2 1 ≡ rest) = next_idle z c ls 1 1 p rest (ap (dealt_on z c ls 1) (sym two) ∙ (sym is ∙ first)) in
    (a.0, (next_idle z c ls 2 0 q last (a.1 ∙ second)).0)

-- the words and the slots at the start
at_zeros : (n k : ℕ) (ys : List ℕ) → k < n → get_or (replicate n 0 ++ ys) k 0 ≡ 0
at_zeros n k ys h = get_or_append_left (replicate n 0) ys 0 k (subst (λ z. k < z) (sym (length-replicate n 0)) h) ∙ get_replicate n k 0

at_later : (n k : ℕ) (ys : List ℕ) → get_or (replicate n 0 ++ ys) (n + k) 0 ≡ get_or ys k 0
at_later n k ys = ap (λ (z : ℕ). get_or (replicate n 0 ++ ys) (z + k) 0) (sym (length-replicate n 0)) ∙ get_or-append-add (replicate n 0) ys k 0

pub length_lists : (xs : List (Option Store)) → length (lists_in xs) ≡ length xs
length_lists xs = length-map xs entries_in

pub wide_words : (c : Script) (xs : List (Option Store)) → length xs ≡ slot_count c → length (words_of (length xs) xs) ≡ head_at (slot_count c) (slot_count c)
wide_words c xs long = length-append (replicate (length xs) 0) (flat_map line_of xs) ∙ (let zeros : List ℕ = replicate (length xs) 0 in let one : length zeros ≡ length xs = length-replicate (length xs) 0 in let two : length (flat_map line_of xs) ≡ length xs * 8 = length_lines xs in omega (arith, one, two, long))

record Home (c : Script) (k : ℕ) (o : Option Store) : Type 0 where
  pub store : Store
  pub is : o ≡ Some store
  pub home : IsHome c (slot_at c.config k) store

home_there : (c : Script) (k : ℕ) (o : Option Store) → IsThere c (slot_at c.config k) o → Home c k o
home_there c k None h = absurd h
home_there c k (Some x) h = record { store = x; is = refl; home = h }

pub opens : (c : Script) (xs : List (Option Store)) (ws : List ℕ) → AreHomes c xs → Ready c xs → list_all is_short xs ≡ true → ws ≡ words_of (length xs) xs → IsTable c (opening ws xs (opening_view c (lists_in xs)))
opens c xs ws homes ready short is = subst (λ (l : List ℕ). IsTable c (opening l xs (opening_view c (lists_in xs)))) (sym is)
    (let long : length xs ≡ slot_count c = homes.all in begins c (words_of (length xs) xs) xs homes.script_is
    (wide_words c xs long)
    (λ k lt. let t = home_there c k (at xs k) (homes.each k (omega arith)) in
    let log : entries_at xs k ≡ entries_of t.store = ap entries_in t.is in
    let free : is_held (entries_of t.store) ≡ false = ap is_held (sym log) ∙ ready.free k lt in record {
      store = t.store;
      there = got_at xs k (omega arith) ∙ ap maybe.some t.is;
      rests = record { log = refl; spare = t.home.spare_is free; script = t.home.script_is; slot = t.home.slot_is; closed = free };
      own = subst (λ (l : List Fact). Fits c k l) log (ready.own k lt);
      free = at_zeros (length xs) k (flat_map line_of xs) (omega arith);
      head = ap (λ (n : ℕ). get_or (words_of (length xs) xs) (head_at n k) 0) (sym long) ∙ at_later (length xs) (k * 8) (flat_map line_of xs) ∙ first_of_line xs k ∙ ap length log;
      few = subst (λ (l : List Fact). length l < 2 ^ 32) log (below (length_in (at xs k)) 4294967296 (all_get is_short xs k None short refl));
    })
    ready.confirmed)

pub empty_ready : (c : Script) (xs : List (Option Store)) → ((k : ℕ) → entries_at xs k ≡ []) → Ready c xs
empty_ready c xs none = record {
  free = λ k lt. ap is_held (none k);
  own = λ k lt. subst (Fits c k) (sym (none k)) record { lawful = refl; fit = refl };
  confirmed = λ k x p n lt h. absurd (true≢false (sym h ∙ ap (confirms x p n) (none k)));
}
