-- A text of parts, of which the first few are there.
use Rattle.std.proofs.Common.{◌≡◌, ℕ, ◌<◌, ◌≤◌, ◌+◌, List, [], ◌∷◌, ◌++◌, length, take, drop, refl, sym, ap, ◌∙◌}
use Rattle.std.specs.Prelude.{slice_index_or}
use Rattle.std.specs.List.{flat_map}
use Rattle.std.proofs.lemmas.List.{take-append-drop, take_more, take_all}
use Rattle.std.proofs.lemmas.Grind.{flat_map-append}
use Rattle.yard_model.specs.Text.{Bytes}

abbrev pub together : List Bytes → Bytes
together parts = flat_map (λ (part : Bytes). part) parts

none_behind : (text : Bytes) → text ++ [] ≡ text
none_behind [] = refl
none_behind (b ∷ bs) = ap (λ l. b ∷ l) (none_behind bs)

-- the first few and the others are all
pub with_others : (parts : List Bytes) (k : ℕ) → together (take k parts) ++ together (drop k parts) ≡ together parts
with_others parts k = sym (flat_map-append (λ (part : Bytes). part) (take k parts) (drop k parts)) ∙ ap together (take-append-drop k parts)

-- one more
pub one_more : (parts : List Bytes) (k : ℕ) → k < length parts → together (take k parts) ++ slice_index_or parts k [] ≡ together (take (k + 1) parts)
one_more parts k h =
    ap (λ l. together (take k parts) ++ l) (sym (none_behind (slice_index_or parts k [])))
    ∙ (sym (flat_map-append (λ (part : Bytes). part) (take k parts) (slice_index_or parts k [] ∷ []))
    ∙ ap together (sym (take_more parts k [] h)))

-- all of them
pub all_there : (parts : List Bytes) (k : ℕ) → length parts ≤ k → together (take k parts) ≡ together parts
all_there parts k h = ap together (take_all k parts h)
