use Rattle.std.proofs.Common.{◌≡◌, ◌++◌, ◌∷◌, [], ap, ◌∙◌, sym, subst, take, IfOk}
use Rattle.yard_model.specs.declared.charter.Config.{Config}
use Rattle.yard_model.specs.declared.state.State.{State}
use Rattle.yard_model.specs.Behaviour.{folded}
use Rattle.yard_model.specs.Script.{setting}
use Rattle.yard_model.specs.Text.{Bytes}
use Rattle.trace_text.specs.Behind.{behind}
use Rattle.trace_text.specs.JsonText.{name_bytes, record_bytes, state_bytes}
use Rattle.trace_text.specs.Places.{lent}
use Rattle.trace_text.proofs.JsonLaws.{entity_told}
use Rattle.trace_text.proofs.json_text.put_entity_value.Goals as goal

pub returns-in-Some-clause-items : goal.returns-in-Some-clause-items
returns-in-Some-clause-items c =
    let state : c.state_after-state.result ≡ folded c.args.charter.now.config.kind (lent c.args.records.now) =
    c.state_after-state.ensures ∙ ap (λ (k : Config). folded k.kind (lent c.args.records.now)) c.config.ensures.value in
    subst (λ (l : Bytes). IfOk c.put_entity.result (λ end. take end c.put_entity.new.cells.items ≡ take c.args.at c.args.cells.now.items ++ l))
    (ap (λ (st : State). name_bytes c.args.name.now ++ (record_bytes c.in-Some.first.now.now ++ (behind (44 ∷ []) record_bytes (lent c.in-Some.others.now) ++ state_bytes c.args.s st))) state
    ∙ sym (entity_told (setting c.args.charter.now) c.args.s c.args.name.now (lent c.args.records.now) c.in-Some.first.now.now (lent c.in-Some.others.now) c.is_named.ensures c.requires.shard (ap lent c.in-Some.ensures.cases.0)))
    c.put_entity.ensures.items
