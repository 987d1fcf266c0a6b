use Rattle.std.proofs.Common.{◌≡◌, OnOk, subst}
use Rattle.std.specs.Prelude.{codes, map}
use Rattle.serde_json.specs.Data.{Members, string}
use Rattle.serde_json.specs.View.{members_view, view}
use Rattle.trace_text.specs.Json.{list_json, record_json}
use Rattle.trace_text.specs.Places.{lent}
use Rattle.trace_text.proofs.JsonValues.{put_two}
use Rattle.trace_text.proofs.json_rows.put_named.Goals as goal

pub returns : goal.returns
returns c =
    subst (λ (ms : Members). OnOk c.put-2.result (members_view c.put-2.new.map.entries ≡ ms))
    (put_two (codes "name") (codes "records") (view c.in_ok-entity.entity) (view c.in_ok-journal.journal) (string c.args.name.now) (list_json (map record_json (lent c.args.records.now)))
    (members_view c.args.map.now.entries) (members_view c.put.new.map.entries) c.in_ok-put.ensures.ok c.in_ok-entity.ensures c.in_ok-journal.ensures) c.put-2.ensures.ok
