-- The next place whose pair waits, and the next to whose name a command waits.
use Rattle.std.proofs.Common.{◌≡◌, ℕ, ◌+◌, ◌-◌, ◌<◌, List, length, sym, ap, subst, ◌∙◌, refl, true, false, arith}
use Rattle.std.specs.Prelude.{Bool, nat_lt, Option, None, Some, IfSome, slice_index_or}
use Rattle.std.specs.Option.{option_map, option_map_or}
use Rattle.yard_model.specs.declared.incarnation.Incarnation.{Incarnation}
use Rattle.yard_model.specs.Genuine.{is_producer}
use Rattle.yard_model.specs.Script.{Script, setting}
use Rattle.yard_model.specs.SlotReads.{queued, confirmed}
use Rattle.durable_queue.specs.Queue.{Queue}
use Rattle.send_window.specs.declared.pair.Pair.{Pair}
use Rattle.producer_ctl.specs.declared.producers.Pending.{Pending}
use Rattle.producer_ctl.specs.Paired.{IsNext, IsPair, is_waiting, name_at, no_pair}
use Rattle.producer_ctl.specs.Produced.{Produced, IsProduced, produced, waits_to}
use Rattle.producer_ctl.specs.Producing.{Producing, IsHeld, IsProducing, producing, state_of, waits}
use Rattle.producer_ctl.proofs.ProducingLaws.{item_read, held_is}

-- the next of which p holds is the next of which q does, where they agree
pub next_same : (p q : ℕ → Bool) (first n i : ℕ) → ((k : ℕ) → k < n → q k ≡ p k) → IsNext p first n i → IsNext q first n i
next_same p q first n i same k = record {
  from_first = k.from_first;
  within = k.within;
  holds = λ inside. same i inside ∙ k.holds inside;
  passed = λ j low high. same j (let all = k.within in omega (arith, high, all)) ∙ k.passed j low high;
}

-- a pair waits where a command to its name does
pub next_pair : {who : Incarnation} {number : ℕ} {store : Queue} {pairs : List Pair} {v : Produced} (first i : ℕ) → IsProduced who number store pairs → produced who number store pairs ≡ v
    → IsNext (λ k. is_waiting (slice_index_or pairs k no_pair)) first (length pairs) i → IsNext (λ k. waits_to (name_at (setting v.script).names k) v.state) first (length (setting v.script).names) i
next_pair {who} {number} {store} {pairs} {v} first i k seen is =
    subst (λ (v : Produced). IsNext (λ k. waits_to (name_at (setting v.script).names k) v.state) first (length (setting v.script).names) i) seen
    (next_same (λ j. is_waiting (slice_index_or pairs j no_pair)) (λ j. nat_lt (confirmed (name_at names j) store.entries) (queued (name_at names j) store.entries)) first (length names) i
    (λ j inside. one (slice_index_or pairs j no_pair) (name_at names j) (k.each j inside))
    (subst (λ n. IsNext (λ j. is_waiting (slice_index_or pairs j no_pair)) first n i) k.there is))
  where
    names : List (List ℕ)
    names = (setting store.script).names

    one : (x : Pair) (e : List ℕ) → IsPair store.script.config.window e store.entries x → nat_lt (confirmed e store.entries) (queued e store.entries) ≡ is_waiting x
    one x e h = ap (λ n. nat_lt n (queued e store.entries)) (sym h.confirmed_is) ∙ ap (nat_lt x.confirmed) (sym h.queued_is)

-- of a producer of the node
pub next_held : (p first i : ℕ) {c : Script} {who : Incarnation} {names : List (List ℕ)} {items : List (Option Produced)} {tables : List (Option ℕ)} {pending : Option Pending} {v : Producing} {place n : ℕ} {o : Option Produced}
    → IsProducing c who names items tables pending → producing c who items pending ≡ v → is_producer v.script p ≡ true → place ≡ p - 1 → o ≡ slice_index_or items place o → n ≡ length (setting v.script).names
    → IsNext (λ k. option_map_or (λ (x : Produced). waits_to (name_at (setting x.script).names k) x.state) o false) first n i → IsNext (λ k. waits p (name_at (setting v.script).names k) v) first (length (setting v.script).names) i
next_held p first i {c} {who} {names} {items} {tables} {pending} {v} {place} {n} {o} k seen its same read size is =
    subst (λ (s : Script). IsNext (λ k. waits p (name_at (setting s).names k) v) first (length (setting s).names) i) (ap (λ (v : Producing). v.script) seen)
    (next_same (λ j. option_map_or (λ (x : Produced). waits_to (name_at (setting x.script).names j) x.state) o false) (λ j. waits p (name_at (setting c).names j) v) first (length (setting c).names) i
    (λ j inside. ap (λ h. option_map_or (waits_to (name_at (setting c).names j)) h false) (held_is p k seen its same read) ∙ one j o its_is)
    (subst (λ n. IsNext (λ k. option_map_or (λ (x : Produced). waits_to (name_at (setting x.script).names k) x.state) o false) first n i) (size ∙ ap (λ (v : Producing). length (setting v.script).names) (sym seen)) is))
  where
    its_is : IfSome o (IsHeld c who (place + 1))
    its_is = subst (λ y. IfSome y (IsHeld c who (place + 1))) (item_read p k seen its same read).1 (k.each place)

    one : (j : ℕ) (o : Option Produced) → IfSome o (IsHeld c who (place + 1)) → option_map_or (waits_to (name_at (setting c).names j)) (option_map state_of o) false ≡ option_map_or (λ (x : Produced). waits_to (name_at (setting x.script).names j) x.state) o false
    one j None h = refl
    one j (Some x) h = ap (λ (s : Script). waits_to (name_at (setting s).names j) x.state) (sym h.script_is)
