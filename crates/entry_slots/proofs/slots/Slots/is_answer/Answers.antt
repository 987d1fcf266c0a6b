use Rattle.std.proofs.Common.{◌≡◌, sym, subst, ap, ap₂, ◌∙◌, true}
use Rattle.std.specs.Prelude.{IsTrue}
use Rattle.yard_model.specs.declared.charter.Config.{Config}
use Rattle.yard_model.specs.declared.state.State.{State}
use Rattle.yard_model.specs.Behaviour.{folded, is_of_kind, is_valid}
use Rattle.yard_model.specs.Genuine.{is_planned}
use Rattle.yard_model.specs.Script.{setting}
use Rattle.yard_model.specs.Setting.{shard_of}
use Rattle.yard_model.specs.SlotLists.{shard_list}
use Rattle.yard_model.specs.SlotReads.{journal}
use Rattle.entry_slots.specs.Entered.{AllLists}
use Rattle.entry_slots.specs.Kept.{is_answer_in, one_or_two}
use Rattle.entry_slots.proofs.PlannedLaws.{planned_of_kind}
use Rattle.entry_slots.proofs.VersionLaws.{decided_alike}
use Rattle.entry_slots.proofs.slots.Slots.is_answer.Goals as goal

pub is_answer_in-requires-clause-state : goal.is_answer_in-requires-clause-state
is_answer_in-requires-clause-state c =
    let i = c.self.inside in
    subst (λ (x : Config). IsTrue (is_valid x.kind c.state.result.now)) (sym c.config.ensures.value)
    (subst (λ (v : AllLists). IsTrue (is_valid v.script.config.kind c.state.result.now)) (sym c.self.view_is) c.state.ensures.valid)

pub is_answer_in-requires-clause-command : goal.is_answer_in-requires-clause-command
is_answer_in-requires-clause-command c =
    let i = c.self.inside in
    let r = c.args.entry.now in
    let planned = subst (λ (v : AllLists). IsTrue (is_planned v.script r.producer c.args.entity.now r.place r.command)) (sym c.self.view_is) c.requires.command in
    subst (λ (x : Config). IsTrue (is_of_kind x.kind r.command)) (sym c.config.ensures.value)
    (planned_of_kind i.charter r.producer c.args.entity.now r.place r.command c.command_law.ensures c.config.ensures.script planned)

pub returns : goal.returns
returns c =
    let r = c.args.entry.now in
    c.is_answer_in.ensures ∙ (ap₂ (λ v (st : State). is_answer_in v st r) c.one_or_two.ensures c.state.ensures.state ∙ decided_alike c.args.version _ r)
