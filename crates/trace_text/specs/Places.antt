-- What is kept of each name, at the place of the name among all names.
use Rattle.std.specs.Prelude.{ℕ, List, map, Vec}
use Rattle.std.specs.Borrow.{Bor}
use Rattle.std.specs.declared.alloc.Global.{Global}
use Rattle.yard_model.specs.declared.fact.Fact.{Fact}
use Rattle.yard_model.specs.declared.packet.Record.{Record}
use Rattle.yard_model.specs.SlotReads.{journal, queued, confirmed}
use Rattle.trace_text.specs.declared.queues.Tally.{Tally}

-- records that are lent
abbrev pub lent : List (Bor Record) → List Record
lent rs = map (λ r. r.now) rs

-- a vector of them
abbrev pub lent_all : Vec (Bor Record) Global → List Record
lent_all v = lent v.items

-- the journals of these names
abbrev pub journals_of : List (List ℕ) → List Fact → List (List Record)
journals_of names list = map (λ e. journal e list) names

-- the counts of a name
abbrev pub tally_of : List Fact → List ℕ → Tally
tally_of list e = record { queued = queued e list; confirmed = confirmed e list }

-- the counts of these names
abbrev pub tallies_of : List (List ℕ) → List Fact → List Tally
tallies_of names list = map (tally_of list) names
