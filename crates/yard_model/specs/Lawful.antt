-- Which lists are lawful: each entry may follow those before it.
use Rattle.std.specs.Prelude.{ℕ, ◌+◌, Bool, true, false, ◌==◌, ◌&&◌, nat_lt, nat_le, not, List, [], length, is_some, is_none}
use Rattle.std.specs.List.{list_any, list_all, slice_get}
use Rattle.std.specs.Option.{option_map_or}
use Rattle.yard_model.specs.declared.fact.Fact.{Fact}
use Rattle.yard_model.specs.declared.fact.Fact.TheVariants as fact
use Rattle.yard_model.specs.declared.packet.Record.{Record}
use Rattle.yard_model.specs.declared.incarnation.Slot.{Slot}
use Rattle.yard_model.specs.declared.incarnation.Slot.TheVariants as slot
use Rattle.yard_model.specs.Script.{Script, setting, sends, with_shards, versions}
use Rattle.yard_model.specs.Setting.{shards, producers, shard_of}
use Rattle.yard_model.specs.Words.{is_among}
use Rattle.yard_model.specs.Equal.{is_sending, is_decision, is_slot}
use Rattle.yard_model.specs.Genuine.{is_node, is_shard, is_producer, is_brought, is_planned}
use Rattle.yard_model.specs.Follow.{each_follows}
use Rattle.yard_model.specs.Opening.{begins, Parts, parts_of}
use Rattle.yard_model.specs.Behaviour.{is_in, decide, folded}
use Rattle.yard_model.specs.SlotLists.{SlotLists, shard_list, queue_list}
use Rattle.yard_model.specs.SlotReads.{holder, epoch, journal, position, last_snapshot, is_remembered, regions, allocation, queued, confirmed, queued_in_all}

-- Any list.

abbrev pub is_held : List Fact → Bool
is_held list = is_some (holder list)

-- `granted` and `freed` alternate, beginning with `granted`; the epochs of the grants are 1, 2, 3, .., and a `freed` has that of the grant before it. Every other entry stands under a grant, and a record has its epoch
abbrev pub is_leased : List Fact → Fact → Bool
is_leased list (fact.Granted s n x) = not (is_held list) && (n == epoch list + 1)
is_leased list (fact.Freed s n why) = is_held list && (n == epoch list)
is_leased list (fact.Wrote e r) = is_held list && (r.epoch == epoch list)
is_leased list f = is_held list

-- Journals.

-- its events and reply are what Decide gives at the Fold of these, in this version
abbrev pub is_decided : ℕ → Script → List Record → Record → Bool
is_decided v c before r = is_decision (decide v (folded c.config.kind before) r.command) (record { events = r.events; reply = r.reply })

-- a record that is folded after these: it has the next number, and is decided in a version that the script admits
abbrev pub is_folded_after : Script → List Record → Record → Bool
is_folded_after c before r = (r.number == length before + 1) && list_any (λ v. is_decided v c before r) (versions c)

-- Folded
abbrev pub is_folded : Script → List Record → Bool
is_folded c records = each_follows (is_folded_after c) [] records

-- a record that is merged after these: of its producer it has the next place, and the command of that place in Plan
abbrev pub is_merged_after : Script → List ℕ → List Record → Record → Bool
is_merged_after c e before r = (r.place == position r.producer before + 1) && is_planned c r.producer e r.place r.command

-- Merged: of each producer the journal has the first commands of Plan, once and in order
abbrev pub is_merged : Script → List ℕ → List Record → Bool
is_merged c e records = each_follows (is_merged_after c e) [] records

-- The list of a shard.

-- the script brings the name, and it is of shard s
abbrev pub is_of_shard : Script → ℕ → List ℕ → Bool
is_of_shard c s e = is_brought c e && (shard_of (setting c) e == s)

-- records are folded and merged; a snapshot of m records stands where the journal has m records, above the snapshot before it; `remembered` and `forgotten` of a name alternate, beginning with `remembered`
abbrev pub is_shard_entry : Script → ℕ → List Fact → Fact → Bool
is_shard_entry c s list (fact.Granted t n x) = is_slot t (slot.Shard s) && is_node c x
is_shard_entry c s list (fact.Freed t n why) = is_slot t (slot.Shard s)
is_shard_entry c s list (fact.Wrote e r) = is_of_shard c s e && is_producer c r.producer && is_folded_after c (journal e list) r && is_merged_after c e (journal e list) r
is_shard_entry c s list (fact.Snapshot e m) = is_of_shard c s e && (m == length (journal e list)) && nat_lt (last_snapshot e list) m
is_shard_entry c s list (fact.Remembered e) = is_of_shard c s e && not (is_remembered e list)
is_shard_entry c s list (fact.Forgotten e) = is_of_shard c s e && is_remembered e list
is_shard_entry c s list f = false

-- The list of the coordinator.

-- at most 16 regions are registered, each once; a shard is allocated where it has no home, to a registered region; it is deallocated where it has one
abbrev pub is_coordinator_entry : Script → List Fact → Fact → Bool
is_coordinator_entry c list (fact.Granted t n x) = is_slot t slot.Coordinator && is_node c x
is_coordinator_entry c list (fact.Freed t n why) = is_slot t slot.Coordinator
is_coordinator_entry c list (fact.Registered r) = is_node c r && not (is_among r (regions list)) && nat_lt (length (regions list)) 16
is_coordinator_entry c list (fact.Terminated r) = is_among r (regions list)
is_coordinator_entry c list (fact.Allocated s r) = is_shard c s && is_among r (regions list) && is_none (allocation s list)
is_coordinator_entry c list (fact.Deallocated s) = is_shard c s && is_some (allocation s list)
is_coordinator_entry c list f = false

-- The list of a queue.

-- the queued commands are the first of Sends(p) in order, each with its number in its pair; the confirmed numbers of a pair rise, and each was queued before
abbrev pub is_queue_entry : Script → ℕ → List Fact → Fact → Bool
is_queue_entry c p list (fact.Granted t n x) = is_slot t (slot.Queue p) && is_node c x
is_queue_entry c p list (fact.Freed t n why) = is_slot t (slot.Queue p)
is_queue_entry c p list (fact.Queued q e n k) = (q == p) && option_map_or (is_sending (record { entity = e; number = n; command = k })) (slice_get (sends c p) (queued_in_all list)) false
is_queue_entry c p list (fact.Confirmed q e n) = (q == p) && nat_lt (confirmed e list) n && nat_le n (queued e list)
is_queue_entry c p list f = false

-- All lists.

abbrev pub is_entry : Script → Slot → List Fact → Fact → Bool
is_entry c (slot.Shard s) list f = is_shard_entry c s list f
is_entry c slot.Coordinator list f = is_coordinator_entry c list f
is_entry c (slot.Queue p) list f = is_queue_entry c p list f

-- an entry may follow these in the list of a slot
abbrev pub may_follow : Script → Slot → List Fact → Fact → Bool
may_follow c s list f = is_leased list f && is_entry c s list f

-- Where a list begins anew.

-- an entry that may stand before the first grant of a shard's list, up to epoch k: one of its names, as the number of shards has changed; its records have an epoch from 1 to k. What ends these is the change itself, once
abbrev pub may_be_brought : Script → ℕ → ℕ → List Fact → Fact → Bool
may_be_brought c s k list (fact.Granted t n x) = false
may_be_brought c s k list (fact.Freed t n why) = false
may_be_brought c s k list (fact.Wrote e r) = is_in 1 k r.epoch && is_shard_entry c s list (fact.Wrote e r)
may_be_brought c s k list (fact.Resharded t n j) = (t == s) && not (list_any begins list)
may_be_brought c s k list f = is_shard_entry c s list f

-- an entry of the coordinator's list up to a change of the number of shards: so many shards as there can be. The change itself stands where no grant is open
abbrev pub may_be_before : Script → List Fact → Fact → Bool
may_be_before c list (fact.Reshard n k) = not (is_held list) && is_in 1 128 n
may_be_before c list f = may_follow (with_shards 128 c) slot.Coordinator list f

abbrev pub may_open : Script → Slot → ℕ → List Fact → Fact → Bool
may_open c (slot.Shard s) k list f = may_be_brought c s k list f
may_open c slot.Coordinator k list f = may_be_before c list f
may_open c (slot.Queue p) k list f = false

-- what a list begins anew with: the entries up to the last change of the number of shards, if there is one
abbrev pub is_opening : Script → Slot → List Fact → Bool
is_opening c s list = each_follows (may_open c s (epoch list)) [] list

-- Own: what is lawful of one slot's list alone: `granted` and `freed` alternate, and one incarnation after the other writes (OneWriter; Akka: one live instance per persistence id)
abbrev pub own : Script → Slot → List Fact → Bool
own c s list = let parts : Parts = parts_of list in is_opening c s parts.opening && each_follows (may_follow c s) parts.opening parts.since

-- the journal has a record of p with place n
abbrev pub has_place : ℕ → ℕ → List Record → Bool
has_place p n records = list_any (λ (r : Record). (r.producer == p) && (r.place == n)) records

abbrev pub is_recorded : Script → SlotLists → Fact → Bool
is_recorded c lists (fact.Confirmed p e n) = has_place p n (journal e (shard_list lists (shard_of (setting c) e)))
is_recorded c lists f = true

-- ConfirmedThere: each confirmed number stands in the journal
abbrev pub confirmed_there : Script → SlotLists → Bool
confirmed_there c lists = list_all (list_all (is_recorded c lists)) lists.queues

-- Lawful: there is a list for each of the script's slots, each is lawful by itself, and what is confirmed stands in the journals
abbrev pub lawful : Script → SlotLists → Bool
lawful c lists = (length lists.shards == c.config.shards) && (length lists.queues == c.config.producers)
    && list_all (λ s. own c (slot.Shard s) (shard_list lists s)) (shards (setting c))
    && own c slot.Coordinator lists.coordinator
    && list_all (λ p. own c (slot.Queue p) (queue_list lists p)) (producers (setting c))
    && confirmed_there c lists
