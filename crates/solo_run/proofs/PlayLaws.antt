-- What one order adds: at most one message, and at most one record to each journal.
use Rattle.std.proofs.Common.{◌≡◌, ◌<◌, ◌≤◌, ℕ, ◌+◌, ◌-◌, ap, ◌∙◌, refl, arith, length-append}
use Rattle.std.specs.Prelude.{true, false, ◌==◌, List, [], ◌∷◌, ◌++◌, length, slice_index_or, Option, Some, None, if◌then◌else◌}
use Rattle.std.specs.List.{slice_get}
use Rattle.yard_model.specs.declared.charter.Config.{Config}
use Rattle.yard_model.specs.declared.charter.Order.{Order}
use Rattle.yard_model.specs.declared.charter.Order.TheVariants as order
use Rattle.yard_model.specs.declared.fact.Fact.{Fact}
use Rattle.yard_model.specs.declared.fact.Fact.TheVariants as fact
use Rattle.yard_model.specs.declared.packet.Message.{Message}
use Rattle.yard_model.specs.declared.packet.Record.{Record}
use Rattle.yard_model.specs.Script.{is_name}
use Rattle.yard_model.specs.Shard.{shard}
use Rattle.yard_model.specs.SlotLists.{SlotLists, shard_list}
use Rattle.yard_model.specs.SlotReads.{journal, position}
use Rattle.yard_model.specs.Solo.{after_order, with_delivery, with_delivered, with_entry, next_message, next_record}
use Rattle.solo_run.specs.Facts.{state_of, bare, with_fact}
use Rattle.solo_run.proofs.KnownLaws.{journal_of_it, journal_of_another}

-- the length of a journal, where its entity's shard is
abbrev pub records_in : ℕ → List ℕ → List (List Fact) → ℕ
records_in shards e lists = length (journal e (slice_index_or lists (shard shards e) []))

pub order_posts : (config : Config) (posted : List Message) (lists : List (List Fact)) (o : Order) → length (after_order (bare config) (state_of config posted lists) o).posted ≤ length posted + 1
order_posts config posted lists (order.Send p e k) = let long : length (posted ++ next_message posted p e k ∷ []) ≡ length posted + 1 = length-append posted (next_message posted p e k ∷ []) in omega arith
order_posts config posted lists o = omega arith

recorded_room : (shards : ℕ) (lists : List (List Fact)) (e q : List ℕ) (r : Record) → shard shards e < length lists → records_in shards q (with_fact (shard shards e) (fact.Wrote e r) lists) ≤ records_in shards q lists + 1
recorded_room shards lists e q r inside = elim (is_name e q) as (λ v. is_name e q ≡ v → records_in shards q (with_fact (shard shards e) (fact.Wrote e r) lists) ≤ records_in shards q lists + 1) [
  | true ↦ λ t.
      let one : records_in shards q (with_fact (shard shards e) (fact.Wrote e r) lists) ≡ records_in shards q lists + 1 = ap length (journal_of_it shards lists e q r t inside) ∙ length-append (journal q (slice_index_or lists (shard shards q) [])) (r ∷ []) in
      omega arith
  | false ↦ λ t.
      let same : records_in shards q (with_fact (shard shards e) (fact.Wrote e r) lists) ≡ records_in shards q lists = ap length (journal_of_another shards lists e q r t inside) in
      omega arith
] refl

delivered_room : (config : Config) (lists : SlotLists) (q : List ℕ) (m : Message) → shard config.shards m.entity < length lists.shards → records_in config.shards q (with_delivered (bare config) lists m).shards ≤ records_in config.shards q lists.shards + 1
delivered_room config lists q m inside =
    let before : List Record = journal m.entity (shard_list lists (shard config.shards m.entity)) in
    elim (m.number == position m.producer before + 1) as (λ v. records_in config.shards q (if v then with_entry (shard config.shards m.entity) (fact.Wrote m.entity (next_record config.kind before m)) lists else lists).shards ≤ records_in config.shards q lists.shards + 1) [
      | true ↦ recorded_room config.shards lists.shards m.entity q (next_record config.kind before m) inside
      | false ↦ omega arith
    ]

delivery_room : (config : Config) (lists : SlotLists) (q : List ℕ) (m : Option Message) → ((e : List ℕ) → shard config.shards e < length lists.shards) → records_in config.shards q (with_delivery (bare config) lists m).shards ≤ records_in config.shards q lists.shards + 1
delivery_room config lists q None inside = omega arith
delivery_room config lists q (Some m) inside = delivered_room config lists q m (inside m.entity)

pub order_room : (config : Config) (posted : List Message) (lists : List (List Fact)) (o : Order) → ((e : List ℕ) → shard config.shards e < length lists) → (q : List ℕ)
    → records_in config.shards q (after_order (bare config) (state_of config posted lists) o).lists.shards ≤ records_in config.shards q lists + 1
order_room config posted lists (order.Deliver n) inside q = delivery_room config (state_of config posted lists).lists q (slice_get posted (n - 1)) inside
order_room config posted lists o inside q = omega arith
