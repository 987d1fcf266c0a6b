-- What an era opens with.
use Rattle.std.specs.Prelude.{◌≡◌, ℕ, List, [], IsTrue}
use Rattle.yard_model.specs.Script.{Script, setting}
use Rattle.yard_model.specs.SlotLists.{SlotLists}
use Rattle.yard_model.specs.Trace.{lists_of}
use Rattle.yard_model.specs.Lawful.{lawful}
use Rattle.yard_model.specs.Era.{opening_of, version_in}
use Rattle.yard_model.specs.Safe.{live_at, is_safe_now}

-- the facts that it opens with come to these lists
abbrev pub OpeningGivesLists : Type 0
OpeningGivesLists = (c : Script) (v : ℕ) (lists : SlotLists) → IsTrue (lawful c lists) → lists_of (setting c) (opening_of v lists) ≡ lists

-- to this version, and nothing is live
abbrev pub OpeningIsQuiet : Type 0
OpeningIsQuiet = (c : Script) (v : ℕ) (lists : SlotLists) → IsTrue (lawful c lists) → (version_in (opening_of v lists) ≡ v) × ((e : List ℕ) → live_at e (opening_of v lists) ≡ [])

-- so they are safe
abbrev pub EraOpens : Type 0
EraOpens = (c : Script) (v : ℕ) (lists : SlotLists) → IsTrue (lawful c lists) → IsTrue (is_safe_now c (opening_of v lists))
