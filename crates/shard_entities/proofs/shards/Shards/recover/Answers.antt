use Rattle.std.proofs.Common.{◌≡◌, ap, length, subst, sym, ◌∙◌, true}
use Rattle.yard_model.specs.declared.state.State.{State}
use Rattle.yard_model.specs.Behaviour.{empty_state, folded, is_valid}
use Rattle.yard_model.specs.Script.{Script, IsScript}
use Rattle.yard_model.specs.SlotReads.{journal}
use Rattle.shard_entities.specs.Lodged.{Lodged}
use Rattle.behaviour_core.specs.Laws.{empty_is_valid}
use Rattle.shard_entities.proofs.StoreLaws.{none_here, own_entries, own_place}
use Rattle.shard_entities.proofs.TakenLaws.{store_at}
use Rattle.shard_entities.proofs.shards.Shards.recover.Goals as goal

pub recovered_from-requires-clause-kind : goal.recovered_from-requires-clause-kind
recovered_from-requires-clause-kind g c = c.requires.kind ∙ ap (λ (x : Script). x.config.kind) (sym (store_at c.in-Some.hosting c.self.invariant.kept.lodged c.self.view_is c.requires.place.shard_in c.get.ensures.value c.index.ensures c.in-Some.is).script_is)

pub recovered_from-requires-clause-place : goal.recovered_from-requires-clause-place
recovered_from-requires-clause-place g c = own_place c.in-Some.hosting c.self.invariant.kept.lodged c.self.view_is c.requires.place c.get.ensures.value c.index.ensures c.in-Some.is

pub recovered_from-requires-clause-script : goal.recovered_from-requires-clause-script
recovered_from-requires-clause-script g c = subst IsScript (sym (store_at c.in-Some.hosting c.self.invariant.kept.lodged c.self.view_is c.requires.place.shard_in c.get.ensures.value c.index.ensures c.in-Some.is).script_is) (subst (λ (x : Lodged). IsScript x.script) c.self.view_is c.self.invariant.kept.lodged.script_is)

pub returns-in-Some-clause-count : goal.returns-in-Some-clause-count
returns-in-Some-clause-count g c = c.recovered_from.ensures.count ∙ ap (λ l. length (journal c.args.place.now.entity l)) (own_entries c.in-Some.hosting c.self.invariant.kept.lodged c.self.view_is c.requires.place c.get.ensures.value c.index.ensures c.in-Some.is)

pub returns-in-Some-clause-state : goal.returns-in-Some-clause-state
returns-in-Some-clause-state g c =
    c.recovered_from.ensures.state
    ∙ (ap (λ (x : Script). folded x.config.kind (journal c.args.place.now.entity c.in-Some.hosting.store.entries)) (store_at c.in-Some.hosting c.self.invariant.kept.lodged c.self.view_is c.requires.place.shard_in c.get.ensures.value c.index.ensures c.in-Some.is).script_is
    ∙ ap (λ l. folded c.args.self.now.script.config.kind (journal c.args.place.now.entity l)) (own_entries c.in-Some.hosting c.self.invariant.kept.lodged c.self.view_is c.requires.place c.get.ensures.value c.index.ensures c.in-Some.is))

pub returns-in-Some-clause-valid : goal.returns-in-Some-clause-valid
returns-in-Some-clause-valid g c = subst (λ (x : Script). is_valid x.config.kind c.recovered_from.result.state ≡ true) (store_at c.in-Some.hosting c.self.invariant.kept.lodged c.self.view_is c.requires.place.shard_in c.get.ensures.value c.index.ensures c.in-Some.is).script_is c.recovered_from.ensures.valid

pub returns-in-None-clause-count : goal.returns-in-None-clause-count
returns-in-None-clause-count g c = ap (λ l. length (journal c.args.place.now.entity l)) (sym (none_here c.self.invariant.kept.lodged c.self.view_is c.requires.place c.get.ensures.value c.index.ensures c.in-None.is))

pub returns-in-None-clause-state : goal.returns-in-None-clause-state
returns-in-None-clause-state g c = c.empty.ensures ∙ (ap empty_state c.requires.kind ∙ ap (λ l. folded c.args.self.now.script.config.kind (journal c.args.place.now.entity l)) (sym (none_here c.self.invariant.kept.lodged c.self.view_is c.requires.place c.get.ensures.value c.index.ensures c.in-None.is)))

pub returns-in-None-clause-valid : goal.returns-in-None-clause-valid
returns-in-None-clause-valid g c = subst (λ (y : State). is_valid c.args.self.now.script.config.kind y ≡ true) (sym (c.empty.ensures ∙ ap empty_state c.requires.kind)) (empty_is_valid c.args.self.now.script.config.kind)
