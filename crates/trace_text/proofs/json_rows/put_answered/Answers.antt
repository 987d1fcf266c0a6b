use Rattle.std.proofs.Common.{◌≡◌, OnOk, ap, ◌∙◌, subst}
use Rattle.std.specs.Prelude.{codes}
use Rattle.serde_json.specs.Data.{Members, string}
use Rattle.serde_json.specs.View.{members_view, view}
use Rattle.yard_model.specs.Text.{reply_text}
use Rattle.trace_text.specs.Json.{events_json, number_json}
use Rattle.trace_text.proofs.JsonValues.{put_three}
use Rattle.trace_text.proofs.json_rows.put_answered.Goals as goal

pub returns : goal.returns
returns c =
    let w = c.args.written.now in
    subst (λ (ms : Members). OnOk c.put-3.result (members_view c.put-3.new.map.entries ≡ ms))
    (put_three (codes "events") (codes "number") (codes "reply") (view c.in_ok-events.events) (view c.from.result) (view c.in_ok-reply.reply)
    (events_json w.events) (number_json w.number) (string (reply_text w.reply))
    (members_view c.args.map.now.entries) (members_view c.put.new.map.entries) (members_view c.put-2.new.map.entries)
    c.in_ok-put.ensures.ok c.in_ok-put-2.ensures.ok (c.in_ok-events.ensures ∙ ap events_json c.as_slice.ensures.items) c.from.ensures c.in_ok-reply.ensures) c.put-3.ensures.ok
