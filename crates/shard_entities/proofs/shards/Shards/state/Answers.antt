use Rattle.std.proofs.Common.{◌≡◌, subst, sym, ◌∙◌, true}
use Rattle.yard_model.specs.declared.state.State.{State}
use Rattle.yard_model.specs.Behaviour.{is_valid}
use Rattle.shard_entities.proofs.EntryLaws.{state_led}
use Rattle.shard_entities.proofs.LodgedLaws.{cell_read, within}
use Rattle.shard_entities.proofs.shards.Shards.state.Goals as goal

pub state-requires : goal.state-requires
state-requires c = within c.self.invariant.kept.lodged c.self.view_is c.requires.place

pub returns-clause-value : goal.returns-clause-value
returns-clause-value c = c.state.ensures ∙ (state_led c.self.invariant.kept.lodged c.self.view_is c.requires.place (cell_read c.self.invariant.kept.lodged c.self.view_is c.requires.place) c.requires.there.hosted_is c.requires.active).state_is

pub returns-clause-valid : goal.returns-clause-valid
returns-clause-valid c = subst (λ (s : State). is_valid c.args.self.now.script.config.kind s ≡ true) (sym c.state.ensures) (state_led c.self.invariant.kept.lodged c.self.view_is c.requires.place (cell_read c.self.invariant.kept.lodged c.self.view_is c.requires.place) c.requires.there.hosted_is c.requires.active).valid
