use Rattle.std.proofs.Common.{◌≡◌, ◌++◌, drop}
use Rattle.std.specs.Prelude.{map}
use Rattle.serde_json.specs.View.{view}
use Rattle.trace_text.specs.Json.{record_json}
use Rattle.trace_text.specs.Places.{lent}
use Rattle.trace_text.proofs.json_rows.records_value.Given as goal

abbrev pub invariant-loop-written : goal.invariant-loop-written
invariant-loop-written l = map view l.values.items ++ map record_json (lent (drop l.written-index l.records)) ≡ map record_json (lent l.records)
