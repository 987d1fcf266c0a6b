-- How many commands are recorded, as a hosted shard's list grows.
use Rattle.std.proofs.Common.{◌≡◌, ◌≢◌, ◌<◌, ◌≤◌, ℕ, ◌+◌, List, [], ◌∷◌, ◌++◌, length, sym, ap, subst, ◌∙◌, refl, true, false, true≢false, arith}
use Rattle.std.specs.Prelude.{Bool, ◌==◌, cond, Option, Some, None, is_none, if◌then◌else◌}
use Rattle.std.specs.Option.{option_map}
use Rattle.std.proofs.lemmas.List.{get_or-set_same, get_or-set_other}
use Rattle.std.proofs.lemmas.List.Sums.{fold-append, sum_by_push}
use Rattle.yard_model.specs.declared.fact.Fact.{Fact}
use Rattle.yard_model.specs.declared.fact.Fact.TheVariants as fact
use Rattle.yard_model.specs.declared.packet.Record.{Record}
use Rattle.yard_model.specs.Entities.{Hosted, entered, entries_in}
use Rattle.yard_model.specs.Script.{is_name}
use Rattle.yard_model.specs.Setting.{shard_of}
use Rattle.yard_model.specs.SlotLists.{shard_list}
use Rattle.yard_model.specs.SlotReads.{journal, journal_step, position}
use Rattle.yard_model.specs.Words.{at}
use Rattle.plain_laws.proofs.Lists.{by_place}
use Rattle.settle_laws.specs.Alone.{Base, list_in, recorded}

pub le_itself : (n : ℕ) → n ≤ n
le_itself n = omega arith

pub le_of : (m n : ℕ) → m ≡ n → m ≤ n
le_of m n e = omega (arith, e)

pub le_then : (x y z : ℕ) → x ≤ y → y ≤ z → x ≤ z
le_then x y z h k = omega (arith, h, k)

-- what is read where it is hosted
pub hosted_list : (list : List Fact) (o : Option Hosted) → is_none o ≡ false → entries_in o ≡ list_in list o
hosted_list list None h = absurd (true≢false h)
hosted_list list (Some h) k = refl

-- the list of s is longer by f, and no other is changed
pub entered_lists : (b : Base) (hosted : List (Option Hosted)) (s : ℕ) (f : Fact) (t : ℕ) → s < length hosted → is_none (at hosted s) ≡ false
    → list_in (shard_list b.lists t) (at (entered s f hosted) t) ≡ (if t == s then list_in (shard_list b.lists t) (at hosted t) ++ f ∷ [] else list_in (shard_list b.lists t) (at hosted t))
entered_lists b hosted s f t less there = by_place _ t s
    (λ same. subst (λ n. list_in (shard_list b.lists n) (at (entered s f hosted) n) ≡ (if n == s then list_in (shard_list b.lists n) (at hosted n) ++ f ∷ [] else list_in (shard_list b.lists n) (at hosted n))) (sym same)
    (ap (list_in (shard_list b.lists s)) (get_or-set_same hosted s _ None less) ∙ (more (at hosted s) there ∙ sym (ap (λ q. if q then list_in (shard_list b.lists s) (at hosted s) ++ f ∷ [] else list_in (shard_list b.lists s) (at hosted s)) (itself s)))))
    (λ other. ap (list_in (shard_list b.lists t)) (get_or-set_other hosted s t _ None other) ∙ sym (ap (λ q. if q then list_in (shard_list b.lists t) (at hosted t) ++ f ∷ [] else list_in (shard_list b.lists t) (at hosted t)) (differ t s other)))
  where
    more : (o : Option Hosted) → is_none o ≡ false → list_in (shard_list b.lists s) (option_map (λ h. record { entries = h.entries ++ f ∷ []; stopping = h.stopping }) o) ≡ list_in (shard_list b.lists s) o ++ f ∷ []
    more None k = absurd (true≢false k)
    more (Some h) k = refl

    itself : (n : ℕ) → (n == n) ≡ true
    itself n = grind arith

    differ : (m n : ℕ) → m ≢ n → (m == n) ≡ false
    differ m n h = grind (arith, h)

-- so journals go on by the step
pub entered_journal : (b : Base) (hosted : List (Option Hosted)) (s : ℕ) (f : Fact) (t : ℕ) (e : List ℕ) → s < length hosted → is_none (at hosted s) ≡ false
    → journal e (list_in (shard_list b.lists t) (at (entered s f hosted) t)) ≡ (if t == s then journal_step e (journal e (list_in (shard_list b.lists t) (at hosted t))) f else journal e (list_in (shard_list b.lists t) (at hosted t)))
entered_journal b hosted s f t e less there = ap (journal e) (entered_lists b hosted s f t less there) ∙ by (t == s)
  where
    by : (q : Bool) → journal e (if q then list_in (shard_list b.lists t) (at hosted t) ++ f ∷ [] else list_in (shard_list b.lists t) (at hosted t)) ≡ (if q then journal_step e (journal e (list_in (shard_list b.lists t) (at hosted t))) f else journal e (list_in (shard_list b.lists t) (at hosted t)))
    by true = fold-append (journal_step e) [] (list_in (shard_list b.lists t) (at hosted t)) (f ∷ [])
    by false = refl

-- an entry that is no record
pub still_recorded : (b : Base) (hosted : List (Option Hosted)) (s : ℕ) (f : Fact) (p : ℕ) (e : List ℕ) → s < length hosted → is_none (at hosted s) ≡ false → ((x : List Record) → journal_step e x f ≡ x)
    → recorded b (entered s f hosted) p e ≡ recorded b hosted p e
still_recorded b hosted s f p e less there still = ap (position p) (entered_journal b hosted s f (shard_of b.set e) e less there ∙ by (shard_of b.set e == s))
  where
    before : List Record
    before = journal e (list_in (shard_list b.lists (shard_of b.set e)) (at hosted (shard_of b.set e)))

    by : (q : Bool) → (if q then journal_step e before f else before) ≡ before
    by true = still before
    by false = refl

-- a record counts to its producer and entity, and to no other
abbrev pub is_pair_of : List ℕ → ℕ → ℕ → List ℕ → Bool
is_pair_of e r p g = if is_name e g then r == p else false

pub wrote_recorded : (b : Base) (hosted : List (Option Hosted)) (e : List ℕ) (r : Record) (p : ℕ) (g : List ℕ) → shard_of b.set e < length hosted → is_none (at hosted (shard_of b.set e)) ≡ false → (is_name e g ≡ true → g ≡ e)
    → recorded b (entered (shard_of b.set e) (fact.Wrote e r) hosted) p g ≡ recorded b hosted p g + cond (is_pair_of e r.producer p g) 1 0
wrote_recorded b hosted e r p g less there named = ap (position p) (entered_journal b hosted s (fact.Wrote e r) (shard_of b.set g) g less there) ∙ by (is_name e g) refl
  where
    s : ℕ
    s = shard_of b.set e

    before : List Record
    before = journal g (list_in (shard_list b.lists (shard_of b.set g)) (at hosted (shard_of b.set g)))

    plus_zero : (n : ℕ) → n ≡ n + 0
    plus_zero n = omega arith

    not_it : (q : Bool) → position p (if q then before else before) ≡ position p before
    not_it true = refl
    not_it false = refl

    itself : (m n : ℕ) → m ≡ n → (m == n) ≡ true
    itself m n e = grind (arith, e)

    by : (t : Bool) → is_name e g ≡ t → position p (if shard_of b.set g == s then (if is_name e g then before ++ r ∷ [] else before) else before) ≡ position p before + cond (is_pair_of e r.producer p g) 1 0
    by true k =
        ap (λ q. position p (if q then (if is_name e g then before ++ r ∷ [] else before) else before)) (itself (shard_of b.set g) s (ap (shard_of b.set) (named k)))
        ∙ (ap (λ q. position p (if q then before ++ r ∷ [] else before)) k
        ∙ (sum_by_push (λ (x : Record). cond (x.producer == p) 1 0) before r
        ∙ sym (ap (λ q. position p before + cond (if q then r.producer == p else false) 1 0) k)))
    by false k =
        ap (λ q. position p (if shard_of b.set g == s then (if q then before ++ r ∷ [] else before) else before)) k
        ∙ (not_it (shard_of b.set g == s) ∙ (plus_zero (position p before) ∙ sym (ap (λ q. position p before + cond (if q then r.producer == p else false) 1 0) k)))
