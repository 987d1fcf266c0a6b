use Rattle.std.proofs.Common.{◌≡◌, OnOk, ap, ◌∙◌, subst}
use Rattle.std.specs.Prelude.{codes}
use Rattle.serde_json.specs.Data.{Members, string}
use Rattle.serde_json.specs.View.{members_view, view}
use Rattle.yard_model.specs.declared.state.State.{State}
use Rattle.yard_model.specs.Behaviour.{folded}
use Rattle.yard_model.specs.Text.{state_text}
use Rattle.trace_text.specs.Json.{number_json}
use Rattle.trace_text.specs.Places.{lent}
use Rattle.trace_text.proofs.JsonValues.{put_two}
use Rattle.trace_text.proofs.json_rows.put_shown.Goals as goal

pub returns : goal.returns
returns c =
    subst (λ (ms : Members). OnOk c.put-2.result (members_view c.put-2.new.map.entries ≡ ms))
    (put_two (codes "shard") (codes "state") (view c.from.result) (view c.in_ok-state.state) (number_json c.args.s) (string (state_text (folded c.args.kind (lent c.args.records.now))))
    (members_view c.args.map.now.entries) (members_view c.put.new.map.entries) c.in_ok-put.ensures.ok (c.from.ensures ∙ ap number_json c.get.ensures.value)
    (c.in_ok-state.ensures ∙ ap (λ (x : State). string (state_text x)) c.state_after.ensures)) c.put-2.ensures.ok
