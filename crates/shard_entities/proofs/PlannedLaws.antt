-- What stands of a planned message: its command is of the script's kind, and its number isn't great.
use Rattle.std.proofs.Common.{◌≡◌, ℕ, ◌+◌, ◌-◌, ◌≤◌, ◌<◌, sym, ap, ◌∙◌, refl, arith, length-append}
use Rattle.std.specs.Prelude.{Bool, true, false, ◌==◌, nat_lt, ◌↔◌, List, [], ◌∷◌, length, map, filter, fold, Option, Some, None, if◌then◌else◌, cond, IsTrue}
use Rattle.std.specs.List.{list_all, slice_get}
use Rattle.std.specs.Option.{option_map_or}
use Rattle.std.proofs.lemmas.Option.{slice_get_within}
use Rattle.std.proofs.lemmas.List.{length-map}
use Rattle.std.proofs.lemmas.List.Folds.{list_all-append}
use Rattle.yard_model.specs.declared.charter.Line.{Line}
use Rattle.yard_model.specs.declared.charter.Order.{Order}
use Rattle.yard_model.specs.declared.charter.Order.TheVariants as order
use Rattle.yard_model.specs.declared.charter.Sending.{Sending}
use Rattle.yard_model.specs.declared.event.Command.{Command}
use Rattle.yard_model.specs.declared.event.Kind.{Kind}
use Rattle.yard_model.specs.Behaviour.{is_of_kind, is_in}
use Rattle.yard_model.specs.Equal.{is_command}
use Rattle.yard_model.specs.Genuine.{is_planned}
use Rattle.yard_model.specs.Script.{Script, IsScript, sends, with_send, with_send_of, with_order, plan, is_name, is_order}
use Rattle.plain_laws.proofs.Booleans.{true_is_not_false, and_both, both, all_filter}
use Rattle.plain_laws.proofs.Lists.{all_got}

abbrev pub SameCommand : Type 0
SameCommand = (a b : Command) → IsTrue (is_command a b) ↔ (a ≡ b)

-- A planned command is of the script's kind.

abbrev of_kind : Kind → Sending → Bool
of_kind k x = is_of_kind k x.command

sends_by : (c : Script) (p : ℕ) (so_far : List Sending) (o : Order) → list_all (of_kind c.config.kind) so_far ≡ true → is_order c.config o ≡ true
    → list_all (of_kind c.config.kind) (with_order p so_far o) ≡ true
sends_by c p so_far (order.Send q e k) all own = elim (q == p) as (λ v. list_all (of_kind c.config.kind) (if v then with_send so_far e k else so_far) ≡ true) [
  | true ↦
      let it : is_of_kind c.config.kind k ≡ true = (and_both (is_in 1 c.config.producers q) (is_of_kind c.config.kind k) own).1 in
      list_all-append (of_kind c.config.kind) so_far _ ∙ both (list_all (of_kind c.config.kind) so_far) _ all (both (is_of_kind c.config.kind k) true it refl)
  | false ↦ all
]
sends_by c p so_far o all own = all

sends_of_kind : (c : Script) (p : ℕ) (so_far : List Sending) (ls : List Line) → list_all (of_kind c.config.kind) so_far ≡ true → list_all (λ (l : Line). is_order c.config l.order) ls ≡ true
    → list_all (of_kind c.config.kind) (fold (with_send_of p) so_far ls) ≡ true
sends_of_kind c p so_far [] all own = all
sends_of_kind c p so_far (l ∷ ls) all own =
    let parts : (is_order c.config l.order ≡ true) × (list_all (λ (x : Line). is_order c.config x.order) ls ≡ true) = and_both (is_order c.config l.order) (list_all (λ (x : Line). is_order c.config x.order) ls) own in
    sends_of_kind c p (with_order p so_far l.order) ls (sends_by c p so_far l.order all parts.0) parts.1

commands_of_kind : (k : Kind) (xs : List Sending) → list_all (of_kind k) xs ≡ true → list_all (is_of_kind k) (map (λ (x : Sending). x.command) xs) ≡ true
commands_of_kind k [] all = refl
commands_of_kind k (x ∷ xs) all =
    let parts : (is_of_kind k x.command ≡ true) × (list_all (of_kind k) xs ≡ true) = and_both (is_of_kind k x.command) (list_all (of_kind k) xs) all in
    both (is_of_kind k x.command) _ parts.0 (commands_of_kind k xs parts.1)

plan_of_kind : (c : Script) (p : ℕ) (e : List ℕ) → IsScript c → list_all (is_of_kind c.config.kind) (plan c p e) ≡ true
plan_of_kind c p e ok = commands_of_kind c.config.kind _ (all_filter (of_kind c.config.kind) (λ (x : Sending). is_name x.entity e) (sends c p) (sends_of_kind c p [] c.orders refl ok.orders))

pub planned_of_kind : (c : Script) (p : ℕ) (e : List ℕ) (n : ℕ) (k : Command) → SameCommand → IsScript c → is_planned c p e n k ≡ true → is_of_kind c.config.kind k ≡ true
planned_of_kind c p e n k rules ok planned = at (slice_get (plan c p e) (n - 1)) refl (and_both (nat_lt 0 n) _ planned).1
  where
    at : (o : Option Command) → slice_get (plan c p e) (n - 1) ≡ o → option_map_or (is_command k) o false ≡ true → is_of_kind c.config.kind k ≡ true
    at None is found = absurd (true_is_not_false (sym found))
    at (Some x) is found =
        let same : k ≡ x = (rules k x).0 found in
        ap (is_of_kind c.config.kind) same ∙ all_got (is_of_kind c.config.kind) (plan c p e) (n - 1) x (plan_of_kind c p e ok) is

-- Its number is at most the number of orders.

pub picked_few : {X : Type 0} (pick : X → Bool) → (xs : List X) → length (filter pick xs) ≤ length xs
picked_few pick [] = omega arith
picked_few {X} pick (x ∷ xs) = step (pick x) (picked_few pick xs)
  where
    step : (b : Bool) → length (filter pick xs) ≤ length xs → length (cond b (x ∷ filter pick xs) (filter pick xs)) ≤ length (x ∷ xs)
    step true h = omega (arith, h)
    step false h = omega (arith, h)

one_send_more : (p : ℕ) (so_far : List Sending) (o : Order) → length (with_order p so_far o) ≤ length so_far + 1
one_send_more p so_far (order.Send q e k) = elim (q == p) as (λ v. length (if v then with_send so_far e k else so_far) ≤ length so_far + 1) [
  | true ↦ let long : length (with_send so_far e k) ≡ length so_far + 1 = length-append so_far _ in omega (arith, long)
  | false ↦ omega arith
]
one_send_more p so_far o = omega arith

sends_few : (p : ℕ) (so_far : List Sending) (ls : List Line) → length (fold (with_send_of p) so_far ls) ≤ length so_far + length ls
sends_few p so_far [] = omega arith
sends_few p so_far (l ∷ ls) =
    let step : length (with_order p so_far l.order) ≤ length so_far + 1 = one_send_more p so_far l.order in
    let rest : length (fold (with_send_of p) (with_order p so_far l.order) ls) ≤ length (with_order p so_far l.order) + length ls = sends_few p (with_order p so_far l.order) ls in
    omega (arith, step, rest)

pub planned_few : (c : Script) (p : ℕ) (e : List ℕ) (n : ℕ) (k : Command) → IsScript c → is_planned c p e n k ≡ true → n ≤ 3000000
planned_few c p e n k ok planned = at (slice_get (plan c p e) (n - 1)) refl (and_both (nat_lt 0 n) _ planned).1
  where
    at : (o : Option Command) → slice_get (plan c p e) (n - 1) ≡ o → option_map_or (is_command k) o false ≡ true → n ≤ 3000000
    at None is found = absurd (true_is_not_false (sym found))
    at (Some x) is found =
        let inside : n - 1 < length (plan c p e) = slice_get_within (plan c p e) (n - 1) x is in
        let long : length (plan c p e) ≡ length (filter (λ (x : Sending). is_name x.entity e) (sends c p)) = length-map (filter (λ (x : Sending). is_name x.entity e) (sends c p)) (λ (x : Sending). x.command) in
        let picked : length (filter (λ (x : Sending). is_name x.entity e) (sends c p)) ≤ length (sends c p) = picked_few (λ (x : Sending). is_name x.entity e) (sends c p) in
        let sent : length (sends c p) ≤ 0 + length c.orders = sends_few p [] c.orders in
        let few : length c.orders ≤ 3000000 = ok.fits in
        omega (arith, inside, long, picked, sent, few)
