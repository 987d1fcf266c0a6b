-- Entities of a shard, with their journals beside their names; pairs, with their counts beside their names. What is shown of each is a list: of bytes, or of JSON values.
use Rattle.std.specs.Prelude.{ℕ, ◌==◌, List, [], ◌∷◌, ◌++◌, if◌then◌else◌, codes, decimal}
use Rattle.std.specs.List.{flat_map}
use Rattle.yard_model.specs.declared.fact.Fact.{Fact}
use Rattle.yard_model.specs.declared.packet.Record.{Record}
use Rattle.yard_model.specs.Script.{Setting}
use Rattle.yard_model.specs.Setting.{names_of}
use Rattle.yard_model.specs.SlotReads.{journal}
use Rattle.yard_model.specs.Text.{Bytes, line}
use Rattle.trace_text.specs.declared.queues.Tally.{Tally}
use Rattle.trace_text.specs.Places.{tally_of}

-- two lists of equal length, side by side
abbrev pub rows : {A B C : Type 0} → (A → B → List C) → List A → List B → List C
rows show (x ∷ xs) (y ∷ ys) = show x y ++ rows show xs ys
rows show xs ys = []

-- what is shown of the entities of a shard that has this list
abbrev pub shard_rows : {C : Type 0} → (Setting → List ℕ → List Record → List C) → Setting → ℕ → List Fact → List C
shard_rows show set s list = flat_map (λ e. show set e (journal e list)) (names_of set s)

-- what is shown of the pairs of a queue that has this list
abbrev pub queue_rows : {C : Type 0} → (ℕ → List ℕ → Tally → List C) → ℕ → List Fact → List (List ℕ) → List C
queue_rows show p list names = flat_map (λ e. show p e (tally_of list e)) names

-- the line of a pair with these counts, where a command is queued
abbrev pub tally_text : ℕ → List ℕ → Tally → Bytes
tally_text p e t =
    if t.queued == 0 then []
    else line (codes "queue" ∷ decimal p ∷ e ∷ codes "queued" ∷ decimal t.queued ∷ codes "confirmed" ∷ decimal t.confirmed ∷ [])
