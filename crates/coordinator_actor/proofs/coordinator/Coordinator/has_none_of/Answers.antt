use Rattle.std.proofs.Common.{◌≡◌, sym, ap, ◌∙◌}
use Rattle.std.specs.Prelude.{List, ℕ}
use Rattle.std.proofs.lemmas.Bool.Decides.{Decides-eqb}
use Rattle.yard_model.specs.ShardSet.{has}
use Rattle.yard_model.specs.Words.{is_empty}
use Rattle.coordinator_actor.proofs.ShareLaws.{none_in}
use Rattle.coordinator_actor.proofs.coordinator.Coordinator.has_none_of.Goals as goal

pub returns-then-eq : goal.returns-then-eq
returns-then-eq c =
    let same : c.args.shards.now ≡ c.empty.result = (Decides-eqb c.args.shards.now c.empty.result).0 (sym c.eq.ensures ∙ c.if-eq.true) in
    c.if-eq.true ∙ sym (ap (λ (ss : List ℕ). is_empty ss) (none_in (has c.args.shards.now) 0 c.args.self.now.state.set.config.shards (λ t u. ap (λ k. has k t) same ∙ c.empty.ensures.none t)))
