-- What is told of the members.
use Rattle.std.proofs.Common.{◌≡◌, ℕ, zero, suc, true, Bool, List, [], ◌∷◌, ◌&&◌, ap, ◌∙◌}
use Rattle.std.specs.Prelude.{not, slice_get, Some, None}
use Rattle.std.specs.List.{list_all}
use Rattle.yard_model.specs.declared.incarnation.Incarnation.{Incarnation}
use Rattle.yard_model.specs.Genuine.{is_node, is_genuine_packet}
use Rattle.yard_model.specs.Script.{Script}
use Rattle.yard_model.specs.Words.{is_same, without}
use Rattle.lease_table.specs.Fits.{is_within}
use Rattle.node_runner.specs.Entered.{is_member, are_members, view_to}
use Rattle.node_runner.specs.Parcels.{is_within_packet, are_within_limit}
use Rattle.plain_laws.proofs.Booleans.{and_both, both, all_map, all_filter}

all_at : {X : Type 0} (p : X → Bool) (xs : List X) (i : ℕ) (x : X) → list_all p xs ≡ true → slice_get xs i ≡ Some x → p x ≡ true
all_at p [] i x all e = absurd (none_is_not_some e)
  where
    none_is_not_some : {X : Type 0} {x : X} → None ≡ Some x → ⊥
    none_is_not_some e = cc
all_at p (y ∷ ys) zero x all e = ap p (some_of e) ∙ (and_both (p y) (list_all p ys) all).0
  where
    some_of : {X : Type 0} {x y : X} → Some y ≡ Some x → x ≡ y
    some_of e = cc
all_at p (y ∷ ys) (suc i) x all e = all_at p ys i x (and_both (p y) (list_all p ys) all).1 e

pub members_without : (c : Script) (xs : List Incarnation) (who : Incarnation) → are_members c xs ≡ true → are_members c (without who xs) ≡ true
members_without c xs who all = all_filter (is_member c) (λ y. not (is_same who y)) xs all

pub view_genuine : (c : Script) (v : ℕ) (xs : List Incarnation) (i : ℕ) (x : Incarnation) → are_members c xs ≡ true → slice_get xs i ≡ Some x → is_genuine_packet c (view_to v xs x) ≡ true
view_genuine c v xs i x all e =
    let m : is_node c x ≡ true = (and_both (is_node c x) (is_within x.number) (all_at (is_member c) xs i x all e)).0 in
    both (is_node c x && is_node c x) (list_all (is_node c) xs) (both (is_node c x) (is_node c x) m m) (all_map (is_member c) (is_node c) (λ y h. (and_both (is_node c y) (is_within y.number) h).0) xs all)

pub view_within : (c : Script) (v : ℕ) (xs : List Incarnation) (i : ℕ) (x : Incarnation) → are_members c xs ≡ true → slice_get xs i ≡ Some x → is_within_packet (view_to v xs x) ≡ true
view_within c v xs i x all e =
    let m : is_within x.number ≡ true = (and_both (is_node c x) (is_within x.number) (all_at (is_member c) xs i x all e)).1 in
    both (is_within x.number && is_within x.number) (are_within_limit xs) (both (is_within x.number) (is_within x.number) m m) (all_map (is_member c) (λ (y : Incarnation). is_within y.number) (λ y h. (and_both (is_node c y) (is_within y.number) h).1) xs all)
