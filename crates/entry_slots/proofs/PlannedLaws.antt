-- A planned command is of the script's kind.
use Rattle.std.proofs.Common.{◌≡◌, ℕ, ◌+◌, ◌-◌, ◌≤◌, ◌<◌, sym, ap, ◌∙◌, refl, arith, length-append}
use Rattle.std.specs.Prelude.{Bool, true, false, ◌==◌, nat_lt, ◌↔◌, List, [], ◌∷◌, length, map, filter, fold, Option, Some, None, if◌then◌else◌, cond, IsTrue}
use Rattle.std.specs.List.{list_all, slice_get}
use Rattle.std.specs.Option.{option_map_or}
use Rattle.std.proofs.lemmas.Option.{slice_get_within}
use Rattle.std.proofs.lemmas.List.{length-map}
use Rattle.std.proofs.lemmas.List.Folds.{list_all-append}
use Rattle.yard_model.specs.declared.charter.Line.{Line}
use Rattle.yard_model.specs.declared.charter.Order.{Order}
use Rattle.yard_model.specs.declared.charter.Order.TheVariants as order
use Rattle.yard_model.specs.declared.charter.Sending.{Sending}
use Rattle.yard_model.specs.declared.event.Command.{Command}
use Rattle.yard_model.specs.declared.event.Kind.{Kind}
use Rattle.yard_model.specs.Behaviour.{is_of_kind, is_in}
use Rattle.yard_model.specs.declared.event.Decision.{Decision}
use Rattle.yard_model.specs.Equal.{is_command, is_decision}
use Rattle.yard_model.specs.Genuine.{is_planned}
use Rattle.yard_model.specs.Script.{Script, IsScript, sends, with_send, with_send_of, with_order, plan, is_name, is_order}
use Rattle.plain_laws.proofs.Booleans.{true_is_not_false, and_both, both, all_filter}
use Rattle.plain_laws.proofs.Lists.{all_got}

abbrev pub SameDecision : Type 0
SameDecision = (a b : Decision) → IsTrue (is_decision a b) ↔ (a ≡ b)

abbrev pub SameCommand : Type 0
SameCommand = (a b : Command) → IsTrue (is_command a b) ↔ (a ≡ b)

abbrev of_kind : Kind → Sending → Bool
of_kind k x = is_of_kind k x.command

sends_by : (c : Script) (p : ℕ) (so_far : List Sending) (o : Order) → list_all (of_kind c.config.kind) so_far ≡ true → is_order c.config o ≡ true
    → list_all (of_kind c.config.kind) (with_order p so_far o) ≡ true
sends_by c p so_far (order.Send q e k) all own = elim (q == p) as (λ v. list_all (of_kind c.config.kind) (if v then with_send so_far e k else so_far) ≡ true) [
  | true ↦
      let it : is_of_kind c.config.kind k ≡ true = (and_both (is_in 1 c.config.producers q) (is_of_kind c.config.kind k) own).1 in
      list_all-append (of_kind c.config.kind) so_far _ ∙ both (list_all (of_kind c.config.kind) so_far) _ all (both (is_of_kind c.config.kind k) true it refl)
  | false ↦ all
]
sends_by c p so_far o all own = all

sends_of_kind : (c : Script) (p : ℕ) (so_far : List Sending) (ls : List Line) → list_all (of_kind c.config.kind) so_far ≡ true → list_all (λ (l : Line). is_order c.config l.order) ls ≡ true
    → list_all (of_kind c.config.kind) (fold (with_send_of p) so_far ls) ≡ true
sends_of_kind c p so_far [] all own = all
sends_of_kind c p so_far (l ∷ ls) all own =
    let parts : (is_order c.config l.order ≡ true) × (list_all (λ (x : Line). is_order c.config x.order) ls ≡ true) = and_both (is_order c.config l.order) (list_all (λ (x : Line). is_order c.config x.order) ls) own in
    sends_of_kind c p (with_order p so_far l.order) ls (sends_by c p so_far l.order all parts.0) parts.1

commands_of_kind : (k : Kind) (xs : List Sending) → list_all (of_kind k) xs ≡ true → list_all (is_of_kind k) (map (λ (x : Sending). x.command) xs) ≡ true
commands_of_kind k [] all = refl
commands_of_kind k (x ∷ xs) all =
    let parts : (is_of_kind k x.command ≡ true) × (list_all (of_kind k) xs ≡ true) = and_both (is_of_kind k x.command) (list_all (of_kind k) xs) all in
    both (is_of_kind k x.command) _ parts.0 (commands_of_kind k xs parts.1)

plan_of_kind : (c : Script) (p : ℕ) (e : List ℕ) → IsScript c → list_all (is_of_kind c.config.kind) (plan c p e) ≡ true
plan_of_kind c p e ok = commands_of_kind c.config.kind _ (all_filter (of_kind c.config.kind) (λ (x : Sending). is_name x.entity e) (sends c p) (sends_of_kind c p [] c.orders refl ok.orders))

pub planned_of_kind : (c : Script) (p : ℕ) (e : List ℕ) (n : ℕ) (k : Command) → SameCommand → IsScript c → is_planned c p e n k ≡ true → is_of_kind c.config.kind k ≡ true
planned_of_kind c p e n k rules ok planned = at (slice_get (plan c p e) (n - 1)) refl (and_both (nat_lt 0 n) _ planned).1
  where
    at : (o : Option Command) → slice_get (plan c p e) (n - 1) ≡ o → option_map_or (is_command k) o false ≡ true → is_of_kind c.config.kind k ≡ true
    at None is found = absurd (true_is_not_false (sym found))
    at (Some x) is found =
        let same : k ≡ x = (rules k x).0 found in
        ap (is_of_kind c.config.kind) same ∙ all_got (is_of_kind c.config.kind) (plan c p e) (n - 1) x (plan_of_kind c p e ok) is
