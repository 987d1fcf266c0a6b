-- One fact more of one entity's life: it changes the cell of that entity's name, which stands at the number of the name.
use Rattle.std.proofs.Common.{◌≡◌, ◌<◌, ◌≤◌, ℕ, zero, suc, ◌+◌, sym, ap, ap₂, ◌∙◌, refl, arith, length}
use Rattle.std.specs.Prelude.{Bool, true, false, List, [], ◌∷◌, map, drop, Option, Some, slice_index_or, slice_set, if◌then◌else◌}
use Rattle.yard_model.specs.declared.fact.Fact.{Fact}
use Rattle.yard_model.specs.declared.fact.Fact.TheVariants as fact
use Rattle.yard_model.specs.declared.incarnation.Incarnation.{Incarnation}
use Rattle.yard_model.specs.Script.{is_name}
use Rattle.yard_model.specs.Words.{numbers}
use Rattle.plain_laws.proofs.Booleans.{true_is_not_false, same_name}
use Rattle.plain_laws.proofs.Lists.{none_is_not_some, some_is}
use Rattle.daemon_process.specs.declared.instances.Cell.{Cell}
use Rattle.daemon_process.specs.Cells.{AreNamed, name_of, seen_cell, whose}
use Rattle.daemon_process.specs.Daemon.{daemon}
use Rattle.daemon_process.specs.Numbers.{number_in}
use Rattle.daemon_process.specs.Where.{without_it}
use Rattle.daemon_process.proofs.NameLaws.{number_back}

-- a name of another number
other_name : (e : List ℕ) (i : ℕ) → i < 100 → (number_in e ≡ i → ⊥) → is_name e (daemon i) ≡ false
other_name e i h different = by (is_name e (daemon i)) refl
  where
    by : (b : Bool) → is_name e (daemon i) ≡ b → b ≡ false
    by false k = refl
    by true k = absurd (different (ap number_in (same_name e (daemon i) k) ∙ number_back i h))

if_not : {A : Type 0} (b : Bool) (x y : A) → b ≡ false → (if b then x else y) ≡ y
if_not true x y h = absurd (true_is_not_false h)
if_not false x y h = refl

-- a fact of another's life
seen_other : (f : Fact) (e : List ℕ) (c : Cell) → whose f ≡ Some e → is_name e c.name ≡ false → seen_cell f c ≡ c
seen_other (fact.Start x y) e c w h = ap (λ (l : Option Incarnation). let d : Cell = record { name = c.name; live = l } in d) (if_not (is_name y c.name) (Some x) c.live (ap (λ z. is_name z c.name) (some_is y e w) ∙ h))
seen_other (fact.Stop x y) e c w h = ap (λ (l : Option Incarnation). let d : Cell = record { name = c.name; live = l } in d) (if_not (is_name y c.name) (without_it x c.live) c.live (ap (λ z. is_name z c.name) (some_is y e w) ∙ h))
seen_other (fact.WriteFailed x y) e c w h = ap (λ (l : Option Incarnation). let d : Cell = record { name = c.name; live = l } in d) (if_not (is_name y c.name) (without_it x c.live) c.live (ap (λ z. is_name z c.name) (some_is y e w) ∙ h))
seen_other f e c w h = absurd (none_is_not_some e w)

first_is : (x y : List ℕ) (xs ys : List (List ℕ)) → x ∷ xs ≡ y ∷ ys → x ≡ y
first_is x y xs ys h = ap (λ l. slice_index_or l 0 x) h

-- none of these cells has the name
seen_none : (f : Fact) (e : List ℕ) (cells : List Cell) (a n : ℕ) → whose f ≡ Some e → map name_of cells ≡ map daemon (numbers a n) → a + n ≤ 100 → ((i : ℕ) → a ≤ i → i < a + n → number_in e ≡ i → ⊥) → map (seen_cell f) cells ≡ cells
seen_none f e [] a n w names few none = refl
seen_none f e (c ∷ cs) a zero w names few none = let long : suc (length (map name_of cs)) ≡ 0 = ap length names in absurd (omega (arith, long))
seen_none f e (c ∷ cs) a (suc n) w names few none =
    let here : c.name ≡ daemon a = first_is c.name (daemon a) (map name_of cs) (map daemon (numbers (a + 1) n)) names in
    let other : is_name e (daemon a) ≡ false = other_name e a (omega (arith, few)) (none a (omega arith) (omega arith)) in
    ap₂ (λ (x : Cell) xs. x ∷ xs) (seen_other f e c w (ap (is_name e) here ∙ other)) (seen_none f e cs (a + 1) n w (ap (drop 1) names) (omega (arith, few)) (λ i low high. none i (omega (arith, low)) (omega (arith, high))))

-- the cell at the number of the name, and no other
seen_there : (f : Fact) (e : List ℕ) (d : Cell) (cells : List Cell) (a n i : ℕ) → whose f ≡ Some e → map name_of cells ≡ map daemon (numbers a n) → a + n ≤ 100 → i < n → number_in e ≡ a + i → slice_set cells i (seen_cell f (slice_index_or cells i d)) ≡ map (seen_cell f) cells
seen_there f e d cells a zero i w names few inside at = absurd (omega (arith, inside))
seen_there f e d [] a (suc n) i w names few inside at = refl
seen_there f e d (c ∷ cs) a (suc n) zero w names few inside at =
    ap (λ (xs : List Cell). seen_cell f c ∷ xs)
    (sym (seen_none f e cs (a + 1) n w (ap (drop 1) names) (omega (arith, few)) (λ i low high is. omega (arith, at, low, is))))
seen_there f e d (c ∷ cs) a (suc n) (suc i) w names few inside at =
    let here : c.name ≡ daemon a = first_is c.name (daemon a) (map name_of cs) (map daemon (numbers (a + 1) n)) names in
    let other : is_name e (daemon a) ≡ false = other_name e a (omega (arith, few)) (λ is. omega (arith, at, is)) in
    ap₂ (λ (x : Cell) xs. x ∷ xs) (sym (seen_other f e c w (ap (is_name e) here ∙ other))) (seen_there f e d cs (a + 1) n i w (ap (drop 1) names) (omega (arith, few)) (omega (arith, inside)) (at ∙ omega arith))

-- the cell at this number is written, where there is one
pub seen_at_number : (f : Fact) (e : List ℕ) (d : Cell) (cells : List Cell) (i : ℕ) → AreNamed cells → whose f ≡ Some e → i ≡ number_in e → i < length cells → slice_set cells i (seen_cell f (slice_index_or cells i d)) ≡ map (seen_cell f) cells
seen_at_number f e d cells i h w is inside =
    let few : length cells ≤ 100 = h.few in
    seen_there f e d cells 0 (length cells) i w h.names (omega (arith, few)) inside (sym is ∙ omega arith)

pub seen_nowhere : (f : Fact) (e : List ℕ) (cells : List Cell) (i : ℕ) → AreNamed cells → whose f ≡ Some e → i ≡ number_in e → length cells ≤ i → cells ≡ map (seen_cell f) cells
seen_nowhere f e cells i h w is past =
    let few : length cells ≤ 100 = h.few in
    sym (seen_none f e cells 0 (length cells) w h.names (omega (arith, few)) (λ j low high at. omega (arith, past, high, is, at)))

pub seen_at_item : (f : Fact) (e : List ℕ) (d : Cell) (cells : List Cell) (i : ℕ) (y : Cell) → AreNamed cells → whose f ≡ Some e → i ≡ number_in e → i < length cells → y ≡ seen_cell f (slice_index_or cells i d) → slice_set cells i y ≡ map (seen_cell f) cells
seen_at_item f e d cells i y h w is inside step = ap (slice_set cells i) step ∙ seen_at_number f e d cells i h w is inside
