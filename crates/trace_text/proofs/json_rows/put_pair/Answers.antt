use Rattle.std.proofs.Common.{◌≡◌, OnOk, ap, ◌∙◌, subst}
use Rattle.std.specs.Prelude.{codes}
use Rattle.serde_json.specs.Data.{Members, string}
use Rattle.serde_json.specs.View.{members_view, view}
use Rattle.trace_text.specs.Json.{number_json}
use Rattle.trace_text.proofs.JsonValues.{put_four}
use Rattle.trace_text.proofs.json_rows.put_pair.Goals as goal

pub returns : goal.returns
returns c =
    let t = c.args.tally.now in
    subst (λ (ms : Members). OnOk c.put-4.result (members_view c.put-4.new.map.entries ≡ ms))
    (put_four (codes "confirmed") (codes "entity") (codes "producer") (codes "queued") (view c.from.result) (view c.in_ok-entity.entity) (view c.from-2.result) (view c.from-3.result)
    (number_json t.confirmed) (string c.args.name.now) (number_json c.args.p) (number_json t.queued)
    (members_view c.args.map.now.entries) (members_view c.put.new.map.entries) (members_view c.put-2.new.map.entries) (members_view c.put-3.new.map.entries)
    c.in_ok-put.ensures.ok c.in_ok-put-2.ensures.ok c.in_ok-put-3.ensures.ok c.from.ensures c.in_ok-entity.ensures (c.from-2.ensures ∙ ap number_json c.get.ensures.value) c.from-3.ensures) c.put-4.ensures.ok
