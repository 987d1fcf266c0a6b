-- Joined texts are the first and those behind it.
use Rattle.std.proofs.Common.{◌≡◌, ℕ, zero, suc, ◌+◌, List, [], ◌∷◌, ◌++◌, length, drop, refl, ap, append_assoc, sym, ◌∙◌, append-nil, arith}
use Rattle.std.specs.Prelude.{map, codes, slice_get, Some, None}
use Rattle.std.specs.List.{join_with_byte}
use Rattle.yard_model.specs.declared.event.Event.{Event}
use Rattle.yard_model.specs.declared.state.CartItem.{CartItem}
use Rattle.yard_model.specs.declared.incarnation.Incarnation.{Incarnation}
use Rattle.yard_model.specs.declared.packet.Body.{Body}
use Rattle.yard_model.specs.declared.packet.Body.TheVariants as body
use Rattle.yard_model.specs.Text.{Bytes, words, body_words, event_text, events_text, incarnation_text, item_text, items_text}
use Rattle.trace_text.specs.Behind.{behind, members_text}

-- with one byte between each two
pub join_behind : {A : Type 0} (c : ℕ) (show : A → Bytes) (x : A) (xs : List A) → join_with_byte c (map show (x ∷ xs)) ≡ show x ++ behind (c ∷ []) show xs
join_behind c show x [] = sym (append-nil (show x))
join_behind c show x (y ∷ ys) = ap (λ l. show x ++ c ∷ l) (join_behind c show y ys)

-- events, with a comma and a space
pub events_behind : (e : Event) (es : List Event) → events_text (e ∷ es) ≡ event_text e ++ behind (codes ", ") event_text es
events_behind e [] = sym (append-nil (event_text e))
events_behind e (f ∷ es) = append_assoc (event_text e) (codes ", ") (events_text (f ∷ es)) ∙ ap (λ l. event_text e ++ (codes ", " ++ l)) (events_behind f es)

-- items, with a comma
pub items_behind : (x : CartItem) (xs : List CartItem) → items_text (x ∷ xs) ≡ item_text x ++ behind (44 ∷ []) item_text xs
items_behind x xs = join_behind 44 item_text x xs

-- members, with a comma
pub members_from : (xs : List Incarnation) (x : Incarnation) → slice_get xs 0 ≡ Some x → members_text xs ≡ incarnation_text x ++ behind (44 ∷ []) incarnation_text (drop 1 xs)
members_from [] x e = absurd (none_is_some e)
  where
    none_is_some : {x : Incarnation} → None ≡ Some x → ⊥
    none_is_some e = cc
members_from (y ∷ ys) x e = join_behind 44 incarnation_text y ys ∙ ap (λ z. incarnation_text z ++ behind (44 ∷ []) incarnation_text ys) (the_same e)
  where
    the_same : {x y : Incarnation} → Some y ≡ Some x → y ≡ x
    the_same e = cc

pub no_members : (xs : List Incarnation) → length xs ≡ 0 → members_text xs ≡ []
no_members [] e = refl
no_members (x ∷ xs) e = absurd (omega (arith, e))

-- the next of those behind
next_at : (xs : List Incarnation) (k j : ℕ) (x : Incarnation) → j ≡ k + 1 → slice_get xs k ≡ Some x
    → behind (44 ∷ []) incarnation_text (drop k xs) ≡ (44 ∷ [] ++ incarnation_text x) ++ behind (44 ∷ []) incarnation_text (drop j xs)
next_at [] k j x n e = absurd (none_is_some e)
  where
    none_is_some : {x : Incarnation} → None ≡ Some x → ⊥
    none_is_some e = cc
next_at (y ∷ ys) zero j x n e = ap (λ z. (44 ∷ [] ++ incarnation_text z) ++ behind (44 ∷ []) incarnation_text ys) (the_same e) ∙ ap (λ i. (44 ∷ [] ++ incarnation_text x) ++ behind (44 ∷ []) incarnation_text (drop i (y ∷ ys))) (sym n)
  where
    the_same : {x y : Incarnation} → Some y ≡ Some x → y ≡ x
    the_same e = cc
next_at (y ∷ ys) (suc k) zero x n e = absurd (omega (arith, n))
next_at (y ∷ ys) (suc k) (suc j) x n e = next_at ys k j x (omega (arith, n)) e

pub next_behind : (xs : List Incarnation) (k : ℕ) (x : Incarnation) → slice_get xs k ≡ Some x
    → behind (44 ∷ []) incarnation_text (drop k xs) ≡ (44 ∷ [] ++ incarnation_text x) ++ behind (44 ∷ []) incarnation_text (drop (k + 1) xs)
next_behind xs k x e = next_at xs k (k + 1) x refl e

-- what a packet says has a first word, so a space stands before it
pub words_of_body : (w : Bytes) (b : Body) → words (w ∷ body_words b) ≡ w ++ 32 ∷ words (body_words b)
words_of_body w (body.View v ms) = refl
words_of_body w b = refl
