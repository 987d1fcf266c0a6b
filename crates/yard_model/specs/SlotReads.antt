-- What is read off the list of one slot: each word by a step, oldest entry first: a lease's list is event sourced as an entity's journal is.
use Rattle.std.specs.Prelude.{ℕ, ◌+◌, Bool, true, false, ◌==◌, List, [], ◌∷◌, ◌++◌, length, count_by, fold, Option, Some, None, if◌then◌else◌}
use Rattle.yard_model.specs.declared.fact.Fact.{Fact}
use Rattle.yard_model.specs.declared.fact.Fact.TheVariants as fact
use Rattle.yard_model.specs.declared.incarnation.Incarnation.{Incarnation}
use Rattle.yard_model.specs.declared.event.Command.{Command}
use Rattle.yard_model.specs.declared.packet.Record.{Record}
use Rattle.yard_model.specs.Script.{is_name}
use Rattle.yard_model.specs.Words.{is_at, without}

-- Any slot: its lease.

abbrev pub holder_step : Option Incarnation → Fact → Option Incarnation
holder_step old (fact.Granted slot n x) = Some x
holder_step old (fact.Freed slot n cause) = None
holder_step old f = old

-- who holds the slot: the incarnation of the last `granted`, while no `freed` follows
abbrev pub holder : List Fact → Option Incarnation
holder list = fold holder_step None list

abbrev pub epoch_step : ℕ → Fact → ℕ
epoch_step old (fact.Granted slot n x) = n
epoch_step old (fact.Resharded s n k) = k
epoch_step old f = old

-- the epoch of the last `granted`; before the first it is 0, or what a change of the number of shards set it to
abbrev pub epoch : List Fact → ℕ
epoch list = fold epoch_step 0 list

-- A shard: its entities' journals and snapshots, and which are remembered.

abbrev pub journal_step : List ℕ → List Record → Fact → List Record
journal_step e old (fact.Wrote x r) = if is_name x e then old ++ r ∷ [] else old
journal_step e old f = old

-- Journal: the records in the `wrote e` entries
abbrev pub journal : List ℕ → List Fact → List Record
journal e list = fold (journal_step e) [] list

-- how many records of a journal are of producer p
abbrev pub position : ℕ → List Record → ℕ
position p records = count_by (λ (r : Record). r.producer == p) records

abbrev pub snapshot_step : List ℕ → ℕ → Fact → ℕ
snapshot_step e old (fact.Snapshot x n) = if is_name x e then n else old
snapshot_step e old f = old

-- how many records stood before the last `snapshot e`, 0 where there is none
abbrev pub last_snapshot : List ℕ → List Fact → ℕ
last_snapshot e list = fold (snapshot_step e) 0 list

abbrev pub remembered_step : List ℕ → Bool → Fact → Bool
remembered_step e old (fact.Remembered x) = if is_name x e then true else old
remembered_step e old (fact.Forgotten x) = if is_name x e then false else old
remembered_step e old f = old

-- the last of `remembered e` and `forgotten e` is `remembered`
abbrev pub is_remembered : List ℕ → List Fact → Bool
is_remembered e list = fold (remembered_step e) false list

-- The coordinator: who is registered, and where the shards are allocated.

abbrev pub regions_step : List Incarnation → Fact → List Incarnation
regions_step old (fact.Registered r) = old ++ r ∷ []
regions_step old (fact.Terminated r) = without r old
regions_step old f = old

-- the registered regions: `registered` without `terminated`, in order
abbrev pub regions : List Fact → List Incarnation
regions list = fold regions_step [] list

abbrev pub allocation_step : ℕ → Option Incarnation → Fact → Option Incarnation
allocation_step s old (fact.Allocated t r) = if t == s then Some r else old
allocation_step s old (fact.Deallocated t) = if t == s then None else old
allocation_step s old (fact.Terminated r) = if is_at r old then None else old
allocation_step s old (fact.Reshard n k) = None
allocation_step s old f = old

-- the region that shard s is allocated to: that of the last `allocated s`, with no later `deallocated s`, `terminated` of that region or `reshard`
abbrev pub allocation : ℕ → List Fact → Option Incarnation
allocation s list = fold (allocation_step s) None list

-- A queue: what is queued and what is confirmed.

abbrev pub commands_step : List ℕ → List Command → Fact → List Command
commands_step e old (fact.Queued p x n c) = if is_name x e then old ++ c ∷ [] else old
commands_step e old f = old

-- the queued commands to e, in order
abbrev pub commands : List ℕ → List Fact → List Command
commands e list = fold (commands_step e) [] list

-- how many commands are queued to e
abbrev pub queued : List ℕ → List Fact → ℕ
queued e list = length (commands e list)

abbrev pub confirmed_step : List ℕ → ℕ → Fact → ℕ
confirmed_step e old (fact.Confirmed p x n) = if is_name x e then n else old
confirmed_step e old f = old

-- the last confirmed number to e, 0 before
abbrev pub confirmed : List ℕ → List Fact → ℕ
confirmed e list = fold (confirmed_step e) 0 list

abbrev pub queued_in_all_step : ℕ → Fact → ℕ
queued_in_all_step old (fact.Queued p e n c) = old + 1
queued_in_all_step old f = old

-- how many commands are queued in all
abbrev pub queued_in_all : List Fact → ℕ
queued_in_all list = fold queued_in_all_step 0 list
