-- The cells of a node's entities: a move changes the cell of its own entity alone.
use Rattle.std.proofs.Common.{◌≡◌, ◌≢◌, ℕ, suc, ◌+◌, ◌<◌, List, [], ◌∷◌, length, sym, ap, subst, ◌∙◌, refl, true, false, true≢false, arith}
use Rattle.std.specs.Prelude.{Bool, ◌||◌, not, cond, Option, Some, None, slice_index_or}
use Rattle.std.specs.List.{list_any, position_or_len, prefix_len}
use Rattle.std.proofs.lemmas.List.{get_or-set_same, get_or-set_other, length-set}
use Rattle.yard_model.specs.Entities.{Entities, new_cell, cell_after, cell_in, cell, cells_by, entity_of, entities_after}
use Rattle.yard_model.specs.Genuine.{is_brought}
use Rattle.yard_model.specs.Move.{Move}
use Rattle.yard_model.specs.Script.{Script, Setting, is_name, names_in, setting}
use Rattle.yard_model.specs.Setting.{place}
use Rattle.plain_laws.proofs.Booleans.{same_name}
use Rattle.actor_laws.specs.EntitiesStand.{IsEntities}

-- Places of names.

first_place : (e x : List ℕ) (xs : List (List ℕ)) → is_name e x ≡ true → position_or_len (is_name e) (x ∷ xs) ≡ 0
first_place e x xs h = ap (λ b. cond (not b) (1 + prefix_len (λ y. not (is_name e y)) xs) 0) h

later_place : (e x : List ℕ) (xs : List (List ℕ)) → is_name e x ≡ false → position_or_len (is_name e) (x ∷ xs) ≡ 1 + position_or_len (is_name e) xs
later_place e x xs h = ap (λ b. cond (not b) (1 + prefix_len (λ y. not (is_name e y)) xs) 0) h

-- a name among these is at its place
record IsPlaced (e : List ℕ) (names : List (List ℕ)) : Type 0 where
  below : position_or_len (is_name e) names < length names
  named : is_name e (slice_index_or names (position_or_len (is_name e) names) []) ≡ true

placed : (e : List ℕ) (names : List (List ℕ)) → list_any (is_name e) names ≡ true → IsPlaced e names
placed e [] h = absurd (true≢false (sym h))
placed e (x ∷ xs) h = by (is_name e x) refl (λ k. placed e xs k)
  where
    later : (b : Bool) → b ≡ false → (b || list_any (is_name e) xs) ≡ true → list_any (is_name e) xs ≡ true
    later false k h = h
    later true k h = absurd (true≢false k)

    next : (n : ℕ) → 1 + n ≡ suc n
    next n = omega arith

    by : (b : Bool) → is_name e x ≡ b → (list_any (is_name e) xs ≡ true → IsPlaced e xs) → IsPlaced e (x ∷ xs)
    by true k rest =
        let at : position_or_len (is_name e) (x ∷ xs) ≡ 0 = first_place e x xs k in
        record { below = subst (λ n. n < suc (length xs)) (sym at) (omega arith); named = ap (λ n. is_name e (slice_index_or (x ∷ xs) n [])) at ∙ k }
    by false k rest =
        let at : position_or_len (is_name e) (x ∷ xs) ≡ suc (position_or_len (is_name e) xs) = later_place e x xs k ∙ next (position_or_len (is_name e) xs) in
        let r : IsPlaced e xs = rest (later (is_name e x) k h) in
        let b : position_or_len (is_name e) xs < length xs = r.below in
        record { below = subst (λ n. n < suc (length xs)) (sym at) (omega (arith, b)); named = ap (λ n. is_name e (slice_index_or (x ∷ xs) n [])) at ∙ r.named }

brought_in : (c : Script) (set : Setting) (e : List ℕ) → set ≡ setting c → is_brought c e ≡ true → list_any (is_name e) set.names ≡ true
brought_in c set e same h = ap (λ (s : Setting). list_any (is_name e) s.names) same ∙ h

pub place_below : (c : Script) (set : Setting) (e : List ℕ) → set ≡ setting c → is_brought c e ≡ true → place set e < length (names_in c.orders)
place_below c set e same h = subst (λ n. place set e < n) (ap (λ (s : Setting). length s.names) same) (let p : IsPlaced e set.names = placed e set.names (brought_in c set e same h) in p.below)

pub places_apart : (c : Script) (set : Setting) (e f : List ℕ) → set ≡ setting c → is_brought c e ≡ true → is_brought c f ≡ true → is_name e f ≡ false → place set f ≢ place set e
places_apart c set e f same he hf other = λ at.
    let p : IsPlaced e set.names = placed e set.names (brought_in c set e same he) in
    let q : IsPlaced f set.names = placed f set.names (brought_in c set f same hf) in
    let name : List ℕ = slice_index_or set.names (place set e) [] in
    let of_f : is_name f name ≡ true = ap (λ n. is_name f (slice_index_or set.names n [])) (sym at) ∙ q.named in
    true≢false (sym (ap (is_name e) (same_name f name of_f) ∙ p.named) ∙ other)

-- Cells.

-- its own cell
pub own_cell : (c : Script) (st : Entities) (m : Move) (e : List ℕ) → IsEntities c st → is_brought c e ≡ true → entity_of m ≡ Some e → cell (entities_after st m) e ≡ cell_after (cell st e) m
own_cell c st m e is brought of =
    ap (λ o. cell_in st.set (cells_by st.set st.cells m o) e) of
    ∙ get_or-set_same st.cells (place st.set e) (cell_after (cell st e) m) (new_cell st.set) (subst (λ n. place st.set e < n) (sym is.cells_there) (place_below c st.set e is.set_is brought))

-- another's
pub other_cell : (c : Script) (st : Entities) (m : Move) (e f : List ℕ) → IsEntities c st → is_brought c e ≡ true → is_brought c f ≡ true → entity_of m ≡ Some e → is_name e f ≡ false → cell (entities_after st m) f ≡ cell st f
other_cell c st m e f is he hf of other =
    ap (λ o. cell_in st.set (cells_by st.set st.cells m o) f) of
    ∙ get_or-set_other st.cells (place st.set e) (place st.set f) (cell_after (cell st e) m) (new_cell st.set) (places_apart c st.set e f is.set_is he hf other)

-- of a move that is of no entity
pub same_cells : (st : Entities) (m : Move) → entity_of m ≡ None → (entities_after st m).cells ≡ st.cells
same_cells st m none = ap (cells_by st.set st.cells m) none

pub cells_count : (st : Entities) (m : Move) → length (entities_after st m).cells ≡ length st.cells
cells_count st m = by (entity_of m)
  where
    by : (o : Option (List ℕ)) → length (cells_by st.set st.cells m o) ≡ length st.cells
    by None = refl
    by (Some e) = length-set st.cells (place st.set e) (cell_after (cell_in st.set st.cells e) m)
