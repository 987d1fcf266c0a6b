use Rattle.std.proofs.Common.{◌≡◌, length, ◌∙◌, ap}
use Rattle.std.specs.Prelude.{[], ◌∷◌, ◌++◌}
use Rattle.yard_model.specs.declared.fact.Fact.{Fact}
use Rattle.yard_model.specs.declared.fact.Fact.TheVariants as fact
use Rattle.yard_model.proofs.FactsLaws.{at_last, put_last}
use Rattle.yard_model.proofs.facts.Facts.push_sent.Goals as goal

pub returns-clause-ok : goal.returns-clause-ok
returns-clause-ok c =
    let first : Fact = fact.Sent c.args.number c.without_body.result in
    let pushed : c.push.new.self.items ≡ c.args.self.now ++ first ∷ [] = c.in_ok-push.ensures.items ∙ ap (λ l. l ++ first ∷ []) c.self.view_is in
    let place : length c.as_slice-place.result.now ≡ length c.args.self.now = ap length c.as_slice-place.ensures in
    let stands : c.index_mut.result.now ≡ first = c.index_mut.ensures.value ∙ at_last c.push.new.self.items c.args.self.now first c.index_mut.result.now (length c.as_slice-place.result.now) pushed place in
    put_last c.push.new.self.items c.args.self.now first c.put_packet.new.sent (fact.Sent c.args.number c.args.packet.now) (length c.as_slice-place.result.now) pushed place (c.put_packet.ensures c.args.number c.without_body.result stands)
