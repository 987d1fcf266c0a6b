-- The stores of all slots that go on: the same lists, at the same places.
use Rattle.std.proofs.Common.{◌≡◌, ℕ, ◌+◌, ◌<◌, ◌≤◌, List, length, sym, ap, subst, ◌∙◌, refl, true, false, arith}
use Rattle.std.specs.Prelude.{Bool, [], ◌∷◌, nat_lt, map, Option, Some, None, if◌then◌else◌, ◌==◌, ◌-◌}
use Rattle.plain_laws.proofs.Booleans.{below, not_below}
use Rattle.yard_model.specs.declared.charter.Config.{Config}
use Rattle.yard_model.specs.declared.fact.Fact.{Fact}
use Rattle.yard_model.specs.declared.incarnation.Slot.{Slot}
use Rattle.yard_model.specs.declared.incarnation.Slot.TheVariants as slot
use Rattle.yard_model.specs.Grown.{GoesOn}
use Rattle.yard_model.specs.Lawful.{is_held}
use Rattle.yard_model.specs.Script.{Script, IsScript}
use Rattle.yard_model.specs.SlotLists.{SlotLists}
use Rattle.yard_model.specs.Words.{numbers, at}
use Rattle.shard_store.specs.declared.store.Store.{Store}
use Rattle.shard_store.specs.GrownStores.{MayGoOn, IsOn, IsOnAt, AreOn}
use Rattle.shard_store.specs.Stores.{slot_at, script_of, slot_of, entries_of, spare_of, entries_at, entries_in, lists_at, IsHome, IsThere, AreHomes}

-- each of the stores of a script may go on
pub may_go_on : (c d : Script) (places : List (Option Store)) → AreHomes c places → GoesOn c d → (k : ℕ) → k < length places → MayGoOn d (at places k)
may_go_on c d places homes g k h = by (at places k) (homes.each k h)
  where
    by : (o : Option Store) → IsThere c (slot_at c.config k) o → MayGoOn d o
    by None t = absurd t
    by (Some x) t = subst (λ b. GoesOn b d) (sym t.script_is) g

abbrev lists_by : List (Option Store) → ℕ → ℕ → SlotLists
lists_by zs n m = record { shards = map (entries_at zs) (numbers 0 n); coordinator = entries_at zs n; queues = map (λ p. entries_at zs (n + p)) (numbers 1 m) }

module _ (c d : Script) (xs ys : List (Option Store)) (g : GoesOn c d) (homes : AreHomes c xs) (on : AreOn d xs ys (length xs)) where
  slots_are : (k : ℕ) → slot_at d.config k ≡ slot_at c.config k
  slots_are k = ap (λ n. if nat_lt k n then slot.Shard k else if k == n then slot.Coordinator else slot.Queue (k - n)) g.shards

  pub homes_on : IsScript d → AreHomes d ys
  homes_on script = record {
    script_is = script;
    all = on.long ∙ (homes.all ∙ (ap (λ n. n + c.config.producers + 1) (sym g.shards) ∙ ap (λ n. d.config.shards + n + 1) (sym g.producers)));
    each = λ k h. let within : k < length xs = subst (λ n. k < n) on.long h in subst (λ s. IsThere d s (at ys k)) (sym (slots_are k)) (by k (at xs k) (at ys k) (homes.each k within) (on.done k within));
  }
    where
      by : (k : ℕ) (a b : Option Store) → IsThere c (slot_at c.config k) a → IsOnAt d a b → IsThere d (slot_at c.config k) b
      by k None b t o = absurd t
      by k (Some x) None t o = absurd o
      by k (Some x) (Some y) t o = record {
        script_is = o.script_is;
        slot_is = o.slot_is ∙ t.slot_is;
        spare_is = λ free. subst (λ n. 100 ≤ n) (sym o.spare_is) (t.spare_is (ap is_held (sym o.list_is) ∙ free));
      }

  entries_are : (k : ℕ) → entries_at ys k ≡ entries_at xs k
  entries_are k = by (nat_lt k (length xs)) refl
    where
      same : (a b : Option Store) → IsOnAt d a b → entries_in b ≡ entries_in a
      same None None o = refl
      same None (Some y) o = absurd o
      same (Some x) None o = absurd o
      same (Some x) (Some y) o = o.list_is

      by : (t : Bool) → nat_lt k (length xs) ≡ t → entries_at ys k ≡ entries_at xs k
      by true t = same (at xs k) (at ys k) (on.done k (below k (length xs) t))
      by false t = ap entries_in (on.left k (not_below k (length xs) t))

  maps_are : (f : ℕ → ℕ) (ns : List ℕ) → map (λ n. entries_at ys (f n)) ns ≡ map (λ n. entries_at xs (f n)) ns
  maps_are f [] = refl
  maps_are f (n ∷ ns) = ap (λ l. l ∷ map (λ n. entries_at ys (f n)) ns) (entries_are (f n)) ∙ ap (λ l. entries_at xs (f n) ∷ l) (maps_are f ns)

  by_numbers : (n m : ℕ) → lists_by ys n m ≡ lists_by xs n m
  by_numbers n m =
      ap (λ (l : List (List Fact)). record { shards = l; coordinator = entries_at ys n; queues = map (λ p. entries_at ys (n + p)) (numbers 1 m) }) (maps_are (λ k. k) (numbers 0 n))
      ∙ (ap (λ (l : List Fact). record { shards = map (entries_at xs) (numbers 0 n); coordinator = l; queues = map (λ p. entries_at ys (n + p)) (numbers 1 m) }) (entries_are n)
      ∙ ap (λ (l : List (List Fact)). record { shards = map (entries_at xs) (numbers 0 n); coordinator = entries_at xs n; queues = l }) (maps_are (λ p. n + p) (numbers 1 m)))

  pub lists_on : lists_at d.config ys ≡ lists_at c.config xs
  lists_on = ap (λ n. lists_by ys n d.config.producers) g.shards ∙ (ap (λ m. lists_by ys c.config.shards m) g.producers ∙ by_numbers c.config.shards c.config.producers)
