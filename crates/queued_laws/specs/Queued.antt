-- That what is recorded was queued before.
use Rattle.std.specs.Prelude.{◌≡◌, ◌≤◌, ℕ, List, ◌∷◌, ◌++◌}
use Rattle.yard_model.specs.declared.fact.Fact.{Fact}
use Rattle.yard_model.specs.declared.fact.Fact.TheVariants as fact
use Rattle.yard_model.specs.declared.packet.Record.{Record}
use Rattle.yard_model.specs.Era.{era_of, lists_in}
use Rattle.yard_model.specs.Script.{Script, IsScript}
use Rattle.yard_model.specs.SlotLists.{queue_list}
use Rattle.yard_model.specs.SlotReads.{queued}
use Rattle.yard_model.specs.World.{played}

-- wherever a record of e stands in the trace of a script, so many commands of its producer to e were queued before
abbrev pub RecordedIsQueued : Type 0
RecordedIsQueued = (c : Script) (limit : ℕ) (front back : List Fact) (e : List ℕ) (r : Record) → IsScript c → (played c limit).facts ≡ front ++ fact.Wrote e r ∷ back
    → r.place ≤ queued e (queue_list (lists_in (era_of c front)) r.producer)
