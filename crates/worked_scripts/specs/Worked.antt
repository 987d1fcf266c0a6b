-- How worked scripts are written down.
use Rattle.std.specs.Prelude.{◌≡◌, ℕ, ◌+◌, ◌||◌, ◌&&◌, true, false, remove, List, [], ◌∷◌, ◌++◌}
use Rattle.std.specs.List.{flat_map, list_any, list_all}
use Rattle.yard_model.specs.declared.charter.Config.{Config}
use Rattle.yard_model.specs.declared.charter.Line.{Line}
use Rattle.yard_model.specs.declared.charter.Order.{Order}
use Rattle.yard_model.specs.Script.{Script, setting}
use Rattle.yard_model.specs.Text.{Bytes, fact_line}
use Rattle.yard_model.specs.Replay.{replay_within, replay_text}
use Rattle.yard_model.specs.Solo.{solo_text}
use Rattle.yard_model.specs.declared.packet.Record.{Record}
use Rattle.yard_model.specs.Setting.{shard_of}
use Rattle.yard_model.specs.SlotLists.{shard_list}
use Rattle.yard_model.specs.SlotReads.{journal}
use Rattle.yard_model.specs.Genuine.{is_genuine_packet}
use Rattle.yard_model.specs.World.{played, wire_limit, trace_of, all_sends, settled_from}
use Rattle.yard_model.specs.Trace.{lists_of}
use Rattle.yard_model.specs.Lawful.{is_folded, is_merged}
use Rattle.yard_model.specs.Settled.{settled}
use Rattle.yard_model.specs.Safe.{safe}
use Rattle.yard_model.specs.Guards.{guarded}
use Rattle.worked_scripts.specs.Digest.{agree}

-- orders that stand on the lines from n on
abbrev pub lines_from : ℕ → List Order → List Line
lines_from n [] = []
lines_from n (o ∷ os) = record { number = n; order = o } ∷ lines_from (n + 1) os

-- the settings on line 1, and an order on each line below
abbrev pub script_of : Config → List Order → Script
script_of config orders = record { config = config; orders = lines_from 2 orders }

-- lines, each ended by LF
abbrev pub text_of : List Bytes → Bytes
text_of lines = flat_map (λ l. l ++ 10 ∷ []) lines

-- the replay of a script prints these lines
abbrev pub Prints : Script → List Bytes → Type 0
Prints c lines = replay_text c ≡ text_of lines

-- alone, a script prints these lines
abbrev pub PrintsAlone : Script → List Bytes → Type 0
PrintsAlone c lines = solo_text c ≡ text_of lines

-- it prints these lines where so many packets can be posted
abbrev pub PrintsWithin : ℕ → Script → List Bytes → Type 0
PrintsWithin limit c lines = replay_within limit c ≡ text_of lines

-- at the end of each order the machine's words are the answers of the queries
abbrev pub Agrees : Script → Type 0
Agrees c = agree c ≡ true

-- its trace is safe
abbrev pub IsSafe : Script → Type 0
IsSafe c = safe c (trace_of c) ≡ true

-- each fact of its trace is guarded
abbrev pub IsGuarded : Script → Type 0
IsGuarded c = guarded c (trace_of c) ≡ true

-- each packet that is posted is genuine
abbrev pub IsGenuine : Script → Type 0
IsGenuine c = list_all (is_genuine_packet c) (played c wire_limit).world.wire ≡ true

-- at its end each journal is folded and merged
abbrev pub HasJournals : Script → Type 0
HasJournals c = list_all (λ e. is_folded c (journal_at c e) && is_merged c e (journal_at c e)) (setting c).names ≡ true
  where
    journal_at : Script → List ℕ → List Record
    journal_at c e = journal e (shard_list (lists_of (setting c) (trace_of c)) (shard_of (setting c) e))

-- a world that is given its lists settles with these lines
abbrev pub SettlesFrom : Script → List Bytes → Type 0
SettlesFrom c lines = flat_map fact_line (settled_from c 1 (lists_of (setting c) (trace_of c))).facts ≡ text_of lines

-- at its end all sends are queued, recorded and confirmed
abbrev pub IsSettled : Script → Type 0
IsSettled c = settled c (all_sends c) (lists_of (setting c) (trace_of c)) ≡ true

-- without one of these facts the trace is neither safe nor guarded
abbrev pub IsUnsafeWithout : Script → List ℕ → Type 0
IsUnsafeWithout c facts = list_any (λ i. safe c (remove (trace_of c) i) || guarded c (remove (trace_of c) i)) facts ≡ false
