-- The commands that were accepted, by name and producer, with one more.
use Rattle.std.proofs.Common.{◌≡◌, ℕ, ◌+◌, ◌<◌, sym, ap, ◌∙◌, refl, subst, arith, zero, suc, true≢false, Vec, Global}
use Rattle.std.specs.Prelude.{Bool, true, false, ◌==◌, ◌&&◌, cond, List, [], ◌∷◌, ◌++◌, length, map, replicate, slice_index_or, slice_set, Some, None, is_some, Result, Ok, Err, OnOk, OnErr}
use Rattle.std.specs.declared.cmp.Ordering.{Ordering}
use Rattle.std.specs.declared.cmp.Ordering.TheVariants.{Less, Equal, Greater}
use Rattle.std.specs.Ordering.{nat_cmp, match_ordering, ordering_reverse, is_eq}
use Rattle.std.specs.Cmp.Lexicographic.{slice_cmp, texts_ties, nat_list_cmp_total}
use Rattle.std.specs.BTreeMap.{BTreeMap, get, keys, is_at, Updates, IsOrdered}
use Rattle.std.specs.BTreeSet.{insert_key}
use Rattle.std.specs.Map.{keys_of, lookup}
use Rattle.std.specs.List.{AllByRecursion}
use Rattle.std.specs.List.Sorted.{IsStrictlySortedBy}
use Rattle.std.proofs.lemmas.List.{get_or-set_same, get_or-set_other, get_or-map, length-map, map-set, set-get_or}
use Rattle.yard_model.specs.declared.event.Command.{Command}
use Rattle.yard_model.specs.Script.{is_name}
use Rattle.plain_laws.proofs.Booleans.{same_name, other_number, get_replicate}
use Rattle.serve_desk.specs.Rows.{HasOneMore, RowHasOneMore, kept_of, row_in}

-- A key that is there is no key more.

below_all : {X : Type 0} (x k : List ℕ) (es : List (List ℕ × X)) → AllByRecursion (λ y. slice_cmp nat_cmp x y ≡ Less) (keys_of es) → is_some (lookup (is_at (slice_cmp nat_cmp k)) es) ≡ true
    → slice_cmp nat_cmp x k ≡ Less
below_all x k [] a h = cc
below_all {X} x k (e ∷ es) a h = step (is_at (slice_cmp nat_cmp k) e.0) refl h (below_all x k es a.1)
  where
    step : (b : Bool) → is_at (slice_cmp nat_cmp k) e.0 ≡ b → is_some (cond b (Some e.1) (lookup (is_at (slice_cmp nat_cmp k)) es)) ≡ true
        → (is_some (lookup (is_at (slice_cmp nat_cmp k)) es) ≡ true → slice_cmp nat_cmp x k ≡ Less) → slice_cmp nat_cmp x k ≡ Less
    step true t f r = subst (λ y. slice_cmp nat_cmp x y ≡ Less) (sym (same_name k e.0 (texts_ties k e.0 ∙ t))) a.0
    step false t f r = r f

pub keys_kept : {X : Type 0} (es : List (List ℕ × X)) (k : List ℕ) → IsStrictlySortedBy (slice_cmp nat_cmp) (keys_of es) → is_some (lookup (is_at (slice_cmp nat_cmp k)) es) ≡ true
    → insert_key (slice_cmp nat_cmp) (keys_of es) k ≡ keys_of es
unfolding IsStrictlySortedBy
keys_kept [] k s h = cc
keys_kept {X} (e ∷ es) k s h = step (slice_cmp nat_cmp k e.0) refl h (keys_kept es k s.1)
  where
    step : (o : Ordering) → slice_cmp nat_cmp k e.0 ≡ o → is_some (cond (is_eq o) (Some e.1) (lookup (is_at (slice_cmp nat_cmp k)) es)) ≡ true
        → (is_some (lookup (is_at (slice_cmp nat_cmp k)) es) ≡ true → insert_key (slice_cmp nat_cmp) (keys_of es) k ≡ keys_of es)
        → match_ordering o (k ∷ e.0 ∷ keys_of es) (e.0 ∷ keys_of es) (e.0 ∷ insert_key (slice_cmp nat_cmp) (keys_of es) k) ≡ e.0 ∷ keys_of es
    step Less t f r =
        let over : slice_cmp nat_cmp e.0 k ≡ Less = below_all e.0 k es s.0 f in
        let back : slice_cmp nat_cmp k e.0 ≡ Greater = nat_list_cmp_total.antisymm k e.0 ∙ ap ordering_reverse over in
        cc
    step Equal t f r = refl
    step Greater t f r = ap (λ l. e.0 ∷ l) (r f)

-- One that isn't is one more.

more_length : {X : Type 0} (es : List (List ℕ × X)) (k : List ℕ) → is_some (lookup (is_at (slice_cmp nat_cmp k)) es) ≡ false → length (insert_key (slice_cmp nat_cmp) (keys_of es) k) ≡ length (keys_of es) + 1
more_length [] k h = refl
more_length {X} (e ∷ es) k h = step (slice_cmp nat_cmp k e.0) h (more_length es k)
  where
    step : (o : Ordering) → is_some (cond (is_eq o) (Some e.1) (lookup (is_at (slice_cmp nat_cmp k)) es)) ≡ false
        → (is_some (lookup (is_at (slice_cmp nat_cmp k)) es) ≡ false → length (insert_key (slice_cmp nat_cmp) (keys_of es) k) ≡ length (keys_of es) + 1)
        → length (match_ordering o (k ∷ e.0 ∷ keys_of es) (e.0 ∷ keys_of es) (e.0 ∷ insert_key (slice_cmp nat_cmp) (keys_of es) k)) ≡ length (e.0 ∷ keys_of es) + 1
    step Less f r = omega arith
    step Equal f r = absurd (true≢false f)
    step Greater f r = let m : length (insert_key (slice_cmp nat_cmp) (keys_of es) k) ≡ length (keys_of es) + 1 = r f in omega (arith, m)

abbrev pub Rows : Type 0
Rows = BTreeMap (List ℕ) (List (List Command))

pub names_found : (m : Rows) (e : List ℕ) (n : ℕ) → IsOrdered (slice_cmp nat_cmp) m → n ≡ length m.entries → is_some (get (slice_cmp nat_cmp) m e) ≡ true → n ≡ length (insert_key (slice_cmp nat_cmp) (keys_of m.entries) e)
names_found m e n o is found = is ∙ (sym (length-map m.entries (λ (x : List ℕ × List (List Command)). x.0)) ∙ sym (ap length (keys_kept m.entries e o found)))

pub names_absent : (m : Rows) (e : List ℕ) (n : ℕ) → n ≡ length m.entries → is_some (get (slice_cmp nat_cmp) m e) ≡ false → n + 1 ≡ length (insert_key (slice_cmp nat_cmp) (keys_of m.entries) e)
names_absent m e n is absent = ap (λ k. k + 1) (is ∙ sym (length-map m.entries (λ (x : List ℕ × List (List Command)). x.0))) ∙ sym (more_length m.entries e absent)

-- Lists by producer.

pub none_at : (q : ℕ) → slice_index_or (row_in None) q [] ≡ []
none_at zero = refl
none_at (suc q) = refl

abbrev seen : Vec Command Global → List Command
seen v = v.items

abbrev no_commands : List Command
no_commands = []

pub row_pushed : (all : List (Vec Command Global)) (was new : Vec Command Global) (p : ℕ) (k : Command) → p < length all → was ≡ slice_index_or all p was → new.items ≡ was.items ++ k ∷ []
    → RowHasOneMore (map (λ (v : Vec Command Global). v.items) all) (map (λ (v : Vec Command Global). v.items) (slice_set all p new)) p k
row_pushed all was new p k within read pushed = record { here = at_p; others = λ q far. other q far }
  where
    put : map seen (slice_set all p new) ≡ slice_set (map seen all) p new.items
    put = map-set seen all p new

    before : slice_index_or (map seen all) p [] ≡ was.items
    before = get_or-map seen all p was [] within ∙ ap seen (sym read)

    inside : p < length (map seen all)
    inside = subst (λ n. p < n) (sym (length-map all seen)) within

    at_p : slice_index_or (map seen (slice_set all p new)) p [] ≡ slice_index_or (map seen all) p [] ++ k ∷ []
    at_p = ap (λ l. slice_index_or l p []) put ∙ (get_or-set_same (map seen all) p new.items [] inside ∙ (pushed ∙ ap (λ l. l ++ k ∷ []) (sym before)))

    other : (q : ℕ) → (p == q) ≡ false → slice_index_or (map seen (slice_set all p new)) q [] ≡ slice_index_or (map seen all) q []
    other q far = ap (λ l. slice_index_or l q []) put ∙ get_or-set_other (map seen all) p q new.items [] (λ e. other_number p q far (sym e))

-- a list that stays
pub row_stays : (all : List (Vec Command Global)) (was new : Vec Command Global) (p : ℕ) → p < length all → was ≡ slice_index_or all p was → new.items ≡ was.items
    → map (λ (v : Vec Command Global). v.items) (slice_set all p new) ≡ map (λ (v : Vec Command Global). v.items) all
row_stays all was new p within read same =
    let before : slice_index_or (map seen all) p was.items ≡ was.items = get_or-map seen all p was was.items within ∙ ap seen (sym read) in
    map-set seen all p new ∙ (ap (λ l. slice_set (map seen all) p l) (same ∙ sym before) ∙ set-get_or (map seen all) p was.items)

-- the first one, in lists that are empty
pub row_begun : (row : List (List Command)) (p : ℕ) (k : Command) → RowHasOneMore (replicate 33 []) row p k → RowHasOneMore [] row p k
row_begun row p k m = record {
  here = m.here ∙ ap (λ l. l ++ k ∷ []) (get_replicate 33 p no_commands ∙ sym (none_at p));
  others = λ q far. m.others q far ∙ (get_replicate 33 q no_commands ∙ sym (none_at q));
}

-- By name.

pub row_put : (old new : Rows) (p : ℕ) (e : List ℕ) (k : Command) (row : List (List Command)) → Updates (slice_cmp nat_cmp) old new e (Some row) → RowHasOneMore (row_in (get (slice_cmp nat_cmp) old e)) row p k
    → keys new ≡ insert_key (slice_cmp nat_cmp) (keys old) e → HasOneMore old.entries new.entries p e k
row_put old new p e k row u m names = record {
  names = names;
  here = ap (λ o. slice_index_or (row_in o) p []) u.1 ∙ m.here;
  others = λ q f apart. step q f (is_name e f) refl apart;
}
  where
    left : (b : Bool) → (b && true) ≡ false → b ≡ false
    left true h = h
    left false h = refl

    step : (q : ℕ) (f : List ℕ) (b : Bool) → is_name e f ≡ b → ((p == q) && is_name e f) ≡ false → kept_of new.entries q f ≡ kept_of old.entries q f
    step q f true t apart =
        let same : e ≡ f = same_name e f t in
        let far : (p == q) ≡ false = left (p == q) (ap (λ b. (p == q) && b) (sym t) ∙ apart) in
        subst (λ g. kept_of new.entries q g ≡ kept_of old.entries q g) same (ap (λ o. slice_index_or (row_in o) q []) u.1 ∙ m.others q far)
    step q f false t apart = ap (λ o. slice_index_or (row_in o) q []) (u.0 f ∙ ap (λ b. cond b (Some row) (get (slice_cmp nat_cmp) old f)) (sym (texts_ties e f) ∙ t))

-- Results.

pub ok_then : {X E A B : Type 0} (r : Result X E) → OnOk r A → (A → B) → OnOk r B
ok_then (Ok x) a f = f a
ok_then (Err x) a f = a

pub on_err : {X E A : Type 0} (r : Result X E) → A → OnErr r A
on_err (Ok x) a = tt
on_err (Err x) a = a

pub err_then : {X E A B : Type 0} (r : Result X E) → OnErr r A → (A → B) → OnErr r B
err_then (Ok x) a f = a
err_then (Err x) a f = f a
