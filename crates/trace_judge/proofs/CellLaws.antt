-- Where each entity is live after one fact more.
use Rattle.std.proofs.Common.{◌≡◌, ◌<◌, ℕ, zero, suc, ◌+◌, take, drop, List, [], ◌∷◌, ◌++◌, length, map, sym, subst, ap, ap₂, ◌∙◌, refl, true, false, true≢false, arith}
use Rattle.std.specs.Prelude.{Bool, ◌==◌, ◌&&◌, ◌||◌, not, cond, filter, is_none, is_some, Option, Some, None, slice_index_or, slice_set, if◌then◌else◌}
use Rattle.std.specs.List.{list_all, list_any}
use Rattle.std.specs.List.Sorted.{IsStrictlySortedBy}
use Rattle.std.specs.Ordering.{nat_cmp}
use Rattle.std.specs.Cmp.Lexicographic.{slice_cmp}
use Rattle.std.proofs.lemmas.List.{get_or_default, drop-drop, drop-set-lt, get_or-map, length-drop, length-map, length-set, map-append, take_more, take_more_set}
use Rattle.std.proofs.lemmas.List.Sums.{fold-append}
use Rattle.yard_model.specs.declared.fact.Fact.{Fact}
use Rattle.yard_model.specs.declared.fact.Fact.TheVariants as fact
use Rattle.yard_model.specs.declared.incarnation.Incarnation.{Incarnation}
use Rattle.yard_model.specs.Genuine.{is_brought}
use Rattle.yard_model.specs.Safe.{live_at, live_step, shard_list_of}
use Rattle.yard_model.specs.Script.{Script, is_name, names_in, setting}
use Rattle.yard_model.specs.Setting.{names_of, shard_of}
use Rattle.yard_model.specs.SlotReads.{holder}
use Rattle.yard_model.specs.Words.{is_at, is_empty, is_same, without}
use Rattle.plain_laws.proofs.Booleans.{and_both, left_of, right_of, same_name}
use Rattle.plain_laws.proofs.Names.{name_itself}
use Rattle.name_index.proofs.NameLaws.{placed}
use Rattle.durable_queue.specs.Kept.{kept_of, place_of}
use Rattle.durable_queue.proofs.PlaceLaws.{kept_put, place_within}
use Rattle.entry_slots.specs.Kept.{IsPlaced}
use Rattle.judge_laws.specs.Judged.{crossed}
use Rattle.trace_judge.specs.declared.cells.Cell.{Cell}
use Rattle.trace_judge.specs.Judging.{AreCells, as_list, cell_after, cell_of, is_idle_cell, new_cell, no_cell, noted, started, stopped, without_it}

-- the name at the place of a name
at_place : (ns : List (List ℕ)) (e : List ℕ) → list_any (is_name e) ns ≡ true → slice_index_or ns (place_of ns e) e ≡ e
at_place [] e h = refl
at_place (n ∷ ns) e h = by (is_name e n) refl h (at_place ns e)
  where
    by : (b : Bool) → is_name e n ≡ b → (b || list_any (is_name e) ns) ≡ true → (list_any (is_name e) ns ≡ true → slice_index_or ns (place_of ns e) e ≡ e) → slice_index_or (n ∷ ns) (cond (not b) (1 + place_of ns e) 0) e ≡ e
    by true t h rest = sym (same_name e n t)
    by false t h rest = let next : 1 + place_of ns e ≡ suc (place_of ns e) = omega arith in ap (λ k. slice_index_or (n ∷ ns) k e) next ∙ rest h

-- Before the first fact.

pub cells_begin : (c : Script) (cells : List Cell) → cells ≡ map (new_cell c) (names_in c.orders) → AreCells c [] cells
cells_begin c cells is = record {
  sized = ap length is ∙ length-map (names_in c.orders) (new_cell c);
  shard = λ e h. ap (λ (x : Cell). x.shard) (at_name e h);
  live = λ e h. sym (ap (λ (x : Cell). as_list x.live) (at_name e h));
}
  where
    names : List (List ℕ)
    names = names_in c.orders

    at_name : (e : List ℕ) → is_brought c e ≡ true → cell_of c cells e ≡ new_cell c e
    at_name e h = ap (λ l. kept_of names l no_cell e) is ∙ (get_or-map (new_cell c) names (place_of names e) e no_cell (place_within names e h) ∙ ap (new_cell c) (at_place names e h))

-- One fact more.

live_more : (e : List ℕ) (trace : List Fact) (f : Fact) → live_at e (trace ++ f ∷ []) ≡ live_step e (live_at e trace) f
live_more e trace f = fold-append (live_step e) [] trace (f ∷ [])

stays : (c : Script) (trace : List Fact) (f : Fact) (cells : List Cell) → ((e : List ℕ) (l : List Incarnation) → live_step e l f ≡ l) → AreCells c trace cells → AreCells c (trace ++ f ∷ []) cells
stays c trace f cells same k = record { sized = k.sized; shard = k.shard; live = λ e h. live_more e trace f ∙ (same e (live_at e trace) ∙ k.live e h) }

stopped_list : (x : Incarnation) (o : Option Incarnation) → without x (as_list o) ≡ as_list (without_it x o)
stopped_list x None = refl
stopped_list x (Some y) = by (is_same x y)
  where
    by : (b : Bool) → cond (not b) (y ∷ []) [] ≡ as_list (if b then None else Some y)
    by true = refl
    by false = refl

-- one name's cell goes on by a step, and so does where it is live
one_more : (c : Script) (trace : List Fact) (f : Fact) (cells : List Cell) (y : List ℕ) (step : Cell → Cell) (went : List Incarnation → List Incarnation) → AreCells c trace cells
    → ((e : List ℕ) (l : List Incarnation) → live_step e l f ≡ (if is_name y e then went l else l)) → ((x : Cell) → (step x).shard ≡ x.shard)
    → (is_brought c y ≡ true → went (live_at y trace) ≡ as_list (step (cell_of c cells y)).live) → AreCells c (trace ++ f ∷ []) (cell_after c step y cells)
one_more c trace f cells y step went k steps same goes = by_name (is_brought c y) refl
  where
    names : List (List ℕ)
    names = names_in c.orders

    v : Cell
    v = step (cell_of c cells y)

    new : List Cell
    new = slice_set cells (place_of names y) v

    put : is_brought c y ≡ true → (e : List ℕ) → cell_of c new e ≡ (if is_name y e then v else cell_of c cells e)
    put h e = kept_put names cells no_cell v y e k.sized h

    shard_by : (e : List ℕ) → is_brought c e ≡ true → (b : Bool) → is_name y e ≡ b → (if b then v else cell_of c cells e).shard ≡ shard_of (setting c) e
    shard_by e h true t = same (cell_of c cells y) ∙ (ap (λ n. (cell_of c cells n).shard) (same_name y e t) ∙ k.shard e h)
    shard_by e h false t = k.shard e h

    live_by : is_brought c y ≡ true → (e : List ℕ) → is_brought c e ≡ true → (b : Bool) → is_name y e ≡ b → (if b then went (live_at e trace) else live_at e trace) ≡ as_list (if b then v else cell_of c cells e).live
    live_by hy e h true t = ap (λ n. went (live_at n trace)) (sym (same_name y e t)) ∙ goes hy
    live_by hy e h false t = k.live e h

    other : is_brought c y ≡ false → (e : List ℕ) → is_brought c e ≡ true → (b : Bool) → is_name y e ≡ b → (if b then went (live_at e trace) else live_at e trace) ≡ live_at e trace
    other hy e h true t = absurd (true≢false (sym h ∙ (ap (is_brought c) (sym (same_name y e t)) ∙ hy)))
    other hy e h false t = refl

    by_name : (b : Bool) → is_brought c y ≡ b → AreCells c (trace ++ f ∷ []) (if b then new else cells)
    by_name true hy = record {
      sized = length-set cells (place_of names y) v ∙ k.sized;
      shard = λ e h. ap (λ (x : Cell). x.shard) (put hy e) ∙ shard_by e h (is_name y e) refl;
      live = λ e h. live_more e trace f ∙ (steps e (live_at e trace) ∙ (live_by hy e h (is_name y e) refl ∙ sym (ap (λ (x : Cell). as_list x.live) (put hy e))));
    }
    by_name false hy = record {
      sized = k.sized;
      shard = k.shard;
      live = λ e h. live_more e trace f ∙ (steps e (live_at e trace) ∙ (other hy e h (is_name y e) refl ∙ k.live e h));
    }

empty_is : (l : List Incarnation) → is_empty l ≡ true → l ≡ []
empty_is [] h = refl
empty_is (x ∷ xs) h = absurd (true≢false (sym h))

stop_more : (c : Script) (trace : List Fact) (f : Fact) (cells : List Cell) (x : Incarnation) (y : List ℕ) → AreCells c trace cells → ((e : List ℕ) (l : List Incarnation) → live_step e l f ≡ (if is_name y e then without x l else l)) → AreCells c (trace ++ f ∷ []) (cell_after c (stopped x) y cells)
stop_more c trace f cells x y k steps =
    one_more c trace f cells y (stopped x) (without x) k steps (λ z. refl) (λ h. ap (without x) (k.live y h) ∙ stopped_list x (cell_of c cells y).live)

gone_more : (c : Script) (trace : List Fact) (cells : List Cell) (x : Incarnation) → AreCells c trace cells → AreCells c (trace ++ fact.Gone x ∷ []) (map (stopped x) cells)
gone_more c trace cells x k = record {
  sized = length-map cells (stopped x) ∙ k.sized;
  shard = λ e h. ap (λ (z : Cell). z.shard) (at_name e h) ∙ k.shard e h;
  live = λ e h. live_more e trace (fact.Gone x) ∙ (ap (without x) (k.live e h) ∙ (stopped_list x (cell_of c cells e).live ∙ sym (ap (λ (z : Cell). as_list z.live) (at_name e h))));
}
  where
    names : List (List ℕ)
    names = names_in c.orders

    at_name : (e : List ℕ) → is_brought c e ≡ true → cell_of c (map (stopped x) cells) e ≡ stopped x (cell_of c cells e)
    at_name e h = get_or-map (stopped x) cells (place_of names e) no_cell no_cell (subst (λ n. place_of names e < n) (sym k.sized) (place_within names e h))

pub cells_after : (c : Script) (trace : List Fact) (cells : List Cell) (f : Fact) → AreCells c trace cells → crossed c trace f ≡ true → AreCells c (trace ++ f ∷ []) (noted c cells f)
cells_after c trace cells (fact.Start x y) k h =
    let m = and_both (is_brought c y && is_at x (holder (shard_list_of c y trace))) (is_empty (without x (live_at y trace))) h in
    one_more c trace (fact.Start x y) cells y (started x) (λ l. without x l ++ x ∷ []) k (λ e l. refl) (λ z. refl) (λ b. ap (λ l. l ++ x ∷ []) (empty_is (without x (live_at y trace)) m.1))
cells_after c trace cells (fact.Stop x y) k h = stop_more c trace (fact.Stop x y) cells x y k (λ e l. refl)
cells_after c trace cells (fact.WriteFailed x y) k h = stop_more c trace (fact.WriteFailed x y) cells x y k (λ e l. refl)
cells_after c trace cells (fact.Gone x) k h = gone_more c trace cells x k
cells_after c trace cells f k h = stays c trace f cells (λ e l. refl) k

-- A shard without a live entity.

-- the name at a place is among them
among : (names : List (List ℕ)) (k : ℕ) → k < length names → list_any (is_name (slice_index_or names k [])) names ≡ true
among [] k h = absurd (omega arith)
among (n ∷ ns) zero h = left_of (is_name n n) (list_any (is_name n) ns) (name_itself n)
among (n ∷ ns) (suc k) h = right_of (is_name (slice_index_or ns k []) n) (list_any (is_name (slice_index_or ns k [])) ns) (among ns k (omega arith))

pub is_empty_list : (o : Option Incarnation) → is_empty (as_list o) ≡ is_none o
is_empty_list None = refl
is_empty_list (Some x) = refl

idle_from : (c : Script) (trace : List Fact) (s : ℕ) (names : List (List ℕ)) (cells : List Cell) → length cells ≡ length names
    → ((i : ℕ) → i < length names → ((slice_index_or cells i no_cell).shard ≡ shard_of (setting c) (slice_index_or names i [])) × (live_at (slice_index_or names i []) trace ≡ as_list (slice_index_or cells i no_cell).live))
    → list_all (is_idle_cell s) cells ≡ list_all (λ e. is_empty (live_at e trace)) (filter (λ e. shard_of (setting c) e == s) names)
idle_from c trace s [] [] sized each = refl
idle_from c trace s [] (x ∷ xs) sized each = absurd (omega (arith, sized))
idle_from c trace s (n ∷ ns) [] sized each = absurd (omega (arith, sized))
idle_from c trace s (n ∷ ns) (x ∷ xs) sized each =
    let here = each 0 (omega arith) in
    let rest : list_all (is_idle_cell s) xs ≡ list_all (λ e. is_empty (live_at e trace)) (filter (λ e. shard_of (setting c) e == s) ns) =
    idle_from c trace s ns xs (omega (arith, sized)) (λ i h. each (suc i) (omega (arith, h))) in
    ap₂ (λ a b. (not (a == s) || b) && list_all (is_idle_cell s) xs) here.0 (sym (is_empty_list x.live) ∙ ap is_empty (sym here.1))
    ∙ (ap (λ b. (not (shard_of (setting c) n == s) || is_empty (live_at n trace)) && b) rest ∙ by (shard_of (setting c) n == s))
  where
    others : List (List ℕ)
    others = filter (λ e. shard_of (setting c) e == s) ns

    by : (b : Bool) → ((not b || is_empty (live_at n trace)) && list_all (λ e. is_empty (live_at e trace)) others) ≡ list_all (λ e. is_empty (live_at e trace)) (cond b (n ∷ others) others)
    by true = refl
    by false = refl

pub idle_is : (c : Script) (trace : List Fact) (cells : List Cell) (s : ℕ) → IsStrictlySortedBy (slice_cmp nat_cmp) (names_in c.orders) → AreCells c trace cells
    → list_all (is_idle_cell s) cells ≡ list_all (λ e. is_empty (live_at e trace)) (names_of (setting c) s)
idle_is c trace cells s sorted k = idle_from c trace s names cells k.sized (λ i h. by i h)
  where
    names : List (List ℕ)
    names = names_in c.orders

    here : (i : ℕ) → i < length names → list_any (is_name (slice_index_or names i [])) names ≡ true
    here i h = among names i h

    by : (i : ℕ) → i < length names → ((slice_index_or cells i no_cell).shard ≡ shard_of (setting c) (slice_index_or names i [])) × (live_at (slice_index_or names i []) trace ≡ as_list (slice_index_or cells i no_cell).live)
    by i h =
        let e : List ℕ = slice_index_or names i [] in
        let at : i ≡ place_of names e = placed names e i sorted h refl in
        let it : slice_index_or cells i no_cell ≡ cell_of c cells e = ap (λ j. slice_index_or cells j no_cell) at in (
          ap (λ (x : Cell). x.shard) it ∙ k.shard e (here i h),
          k.live e (here i h) ∙ sym (ap (λ (x : Cell). as_list x.live) it),
        )

-- Cells one after the other.

get_or_rest : {A : Type 0} (xs : List A) (i : ℕ) (d : A) → slice_index_or (drop i xs) 0 d ≡ slice_index_or xs i d
get_or_rest [] zero d = refl
get_or_rest [] (suc i) d = refl
get_or_rest (x ∷ xs) zero d = refl
get_or_rest (x ∷ xs) (suc i) d = get_or_rest xs i d

pub one_stopped : (f : Cell → Cell) (old now : List Cell) (i : ℕ) (x y : Cell) → i < length now → x ≡ slice_index_or now i x → y ≡ f x → take i now ≡ map f (take i old) → drop i now ≡ drop i old
    → (take (i + 1) (slice_set now i y) ≡ map f (take (i + 1) old)) × (drop (i + 1) (slice_set now i y) ≡ drop (i + 1) old)
one_stopped f old now i x y within is step front back =
    let inside : i < length old = omega (arith, length-drop i now, length-drop i old, ap length back) in
    let here : slice_index_or old i x ≡ x = sym (get_or_rest old i x) ∙ (sym (ap (λ l. slice_index_or l 0 x) back) ∙ (get_or_rest now i x ∙ sym is)) in (
      take_more_set now i y within
          ∙ (ap (λ l. l ++ y ∷ []) front
          ∙ (ap (λ z. map f (take i old) ++ z ∷ []) (step ∙ ap f (sym here))
          ∙ (sym (map-append f (take i old) (slice_index_or old i x ∷ []))
          ∙ sym (ap (map f) (take_more old i x inside))))),
      drop-set-lt (i + 1) now i y (omega arith) ∙ (sym (drop-drop 1 i now) ∙ (ap (drop 1) back ∙ drop-drop 1 i old)),
    )

-- What is read of a name's cell.

pub cell_read : (c : Script) (trace : List Fact) (cells : List Cell) (e : List ℕ) (k : ℕ) (x : Cell) → AreCells c trace cells → IsPlaced (names_in c.orders) k e → x ≡ slice_index_or cells k x → live_at e trace ≡ as_list x.live
cell_read c trace cells e k x a p is =
    let within : k < length cells = subst (λ n. k < n) (sym a.sized) p.within in
    let it : x ≡ cell_of c cells e = is ∙ (get_or_default cells k x no_cell within ∙ ap (λ n. slice_index_or cells n no_cell) p.place) in
    a.live e p.named ∙ ap (λ (z : Cell). as_list z.live) (sym it)

-- whether it is live at another
pub elsewhere_is : (c : Script) (trace : List Fact) (cells : List Cell) (who : Incarnation) (e : List ℕ) (k : ℕ) (x : Cell) → AreCells c trace cells → IsPlaced (names_in c.orders) k e → x ≡ slice_index_or cells k x
    → is_empty (without who (live_at e trace)) ≡ not (is_some (without_it who x.live))
elsewhere_is c trace cells who e k x a p is =
    ap (λ l. is_empty (without who l)) (cell_read c trace cells e k x a p is) ∙ (ap is_empty (stopped_list who x.live) ∙ by (without_it who x.live))
  where
    by : (o : Option Incarnation) → is_empty (as_list o) ≡ not (is_some o)
    by None = refl
    by (Some y) = refl

pub none_live : (c : Script) (trace : List Fact) (cells : List Cell) (e : List ℕ) (k : ℕ) (x : Cell) → AreCells c trace cells → IsPlaced (names_in c.orders) k e → x ≡ slice_index_or cells k x → is_some x.live ≡ false → is_empty (live_at e trace) ≡ true
none_live c trace cells e k x a p is none = ap is_empty (cell_read c trace cells e k x a p is) ∙ by x.live none
  where
    by : (o : Option Incarnation) → is_some o ≡ false → is_empty (as_list o) ≡ true
    by None h = refl
    by (Some y) h = absurd (true≢false h)
