-- What a settle leads to.
use Rattle.std.specs.Prelude.{ℕ, ◌-◌, Bool, ◌==◌, ◌&&◌, List, [], slice_index_or}
use Rattle.std.specs.List.{list_all}
use Rattle.yard_model.specs.declared.charter.Sending.{Sending}
use Rattle.yard_model.specs.Script.{Script, setting, count_to}
use Rattle.yard_model.specs.Setting.{producers, shard_of}
use Rattle.yard_model.specs.SlotLists.{SlotLists, shard_list, queue_list}
use Rattle.yard_model.specs.SlotReads.{journal, position, queued, confirmed}

-- Settled: of each pair, every one of these sends is queued, in the journal and confirmed
abbrev pub is_settled_pair : Script → List (List Sending) → SlotLists → ℕ → List ℕ → Bool
is_settled_pair c all lists p e =
    let n : ℕ = count_to e (slice_index_or all (p - 1) []) in
    (queued e (queue_list lists p) == n) && (position p (journal e (shard_list lists (shard_of (setting c) e))) == n) && (confirmed e (queue_list lists p) == n)

abbrev pub settled : Script → List (List Sending) → SlotLists → Bool
settled c all lists = list_all (λ p. list_all (is_settled_pair c all lists p) (setting c).names) (producers (setting c))
