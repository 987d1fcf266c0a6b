-- What is kept of the sends to each name, with one send more.
use Rattle.std.proofs.Common.{◌≡◌, ◌<◌, ℕ, ◌+◌, sym, ap, ◌∙◌, refl, take}
use Rattle.std.specs.Prelude.{Bool, true, false, cond, List, [], ◌∷◌, ◌++◌, length, map, filter, replicate, slice_set, slice_index_or, if◌then◌else◌}
use Rattle.std.specs.List.{list_any}
use Rattle.std.proofs.lemmas.Bool.Decides.{Decides-eqb}
use Rattle.std.proofs.lemmas.Slice.Eq.{slice_eq-Decides}
use Rattle.std.proofs.lemmas.List.{append-nil, map-append, take_more}
use Rattle.std.proofs.lemmas.List.Elements.{filter-append}
use Rattle.yard_model.specs.declared.charter.Sending.{Sending}
use Rattle.yard_model.specs.declared.event.Command.{Command}
use Rattle.plain_laws.proofs.Booleans.{get_replicate}
use Rattle.yard_model.specs.Script.{is_name}
use Rattle.durable_queue.specs.Kept.{commands_to, place_of, planned, ArePlans}
use Rattle.durable_queue.proofs.PlaceLaws.{kept_put}

-- names that are found the same are equal
pub same_name : (a b : List ℕ) → is_name a b ≡ true → a ≡ b
same_name a b e = (slice_eq-Decides Decides-eqb a b (is_name a b) refl).0 e

-- one send more adds its command to those of its own name
pub commands_more : (e : List ℕ) (all : List Sending) (x : Sending) → commands_to e (all ++ x ∷ []) ≡ (if is_name x.entity e then commands_to e all ++ x.command ∷ [] else commands_to e all)
commands_more e all x =
    ap (map (λ (y : Sending). y.command)) (filter-append (λ (y : Sending). is_name y.entity e) all (x ∷ []))
    ∙ (map-append (λ (y : Sending). y.command) (filter (λ (y : Sending). is_name y.entity e) all) (filter (λ (y : Sending). is_name y.entity e) (x ∷ [])) ∙ one (is_name x.entity e))
  where
    one : (b : Bool) → commands_to e all ++ map (λ (y : Sending). y.command) (cond b (x ∷ []) []) ≡ (if b then commands_to e all ++ x.command ∷ [] else commands_to e all)
    one true = refl
    one false = append-nil (commands_to e all)

-- the same, where the sends are the first of others
pub commands_next : (e : List ℕ) (all : List Sending) (i : ℕ) (x : Sending) → i < length all → x ≡ slice_index_or all i x →
    commands_to e (take (i + 1) all) ≡ (if is_name x.entity e then commands_to e (take i all) ++ x.command ∷ [] else commands_to e (take i all))
commands_next e all i x h is = ap (commands_to e) (take_more all i x h ∙ ap (λ y. take i all ++ y ∷ []) (sym is)) ∙ commands_more e (take i all) x

-- the commands of each name, one send further
pub plan_next : (names : List (List ℕ)) (old new : List (List Command)) (all : List Sending) (i : ℕ) (x : Sending) → i < length all → x ≡ slice_index_or all i x → length old ≡ length names → list_any (is_name x.entity) names ≡ true →
    new ≡ slice_set old (place_of names x.entity) (planned names old x.entity ++ x.command ∷ []) → ArePlans names old (take i all) → ArePlans names new (take (i + 1) all)
plan_next names old new all i x h is sized named built c = record {
  each = λ q. ap (λ l. planned names l q) built ∙ (kept_put names old [] (planned names old x.entity ++ x.command ∷ []) x.entity q sized named ∙ (found q (is_name x.entity q) refl ∙ sym (commands_next q all i x h is)));
}
  where
    found : (q : List ℕ) (b : Bool) → is_name x.entity q ≡ b → (if b then planned names old x.entity ++ x.command ∷ [] else planned names old q) ≡ (if b then commands_to q (take i all) ++ x.command ∷ [] else commands_to q (take i all))
    found q true t = ap (λ n. planned names old n ++ x.command ∷ []) (same_name x.entity q t) ∙ ap (λ l. l ++ x.command ∷ []) (c.each q)
    found q false t = c.each q

-- no commands of any name, before the first send
pub no_plans : (names : List (List ℕ)) (n : ℕ) (plans : List (List Command)) → plans ≡ replicate n [] → ArePlans names plans []
no_plans names n plans is = record { each = λ e. ap (λ l. planned names l e) is ∙ get_replicate n (place_of names e) [] }
