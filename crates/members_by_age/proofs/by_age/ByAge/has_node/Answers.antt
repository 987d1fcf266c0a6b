use Rattle.std.proofs.Common.{◌⊎◌, inl, inr, ◌≡◌, ◌<◌, ◌≤◌, ap, sym, ◌∙◌, lt-ltb, le-ltb}
use Rattle.std.specs.Prelude.{nat_lt}
use Rattle.std.proofs.lemmas.Bool.{cases_lt}
use Rattle.yard_model.specs.Members.{has_node}
use Rattle.members_by_age.proofs.AgedLaws.{in_front, behind}
use Rattle.members_by_age.proofs.by_age.ByAge.has_node.Goals as goal

pub returns : goal.returns
returns c = by (cases_lt c.place_of.result c.self.inside.count)
  where
    by : (c.place_of.result < c.self.inside.count) ⊎ (c.self.inside.count ≤ c.place_of.result) → nat_lt c.place_of.result c.self.inside.count ≡ has_node c.args.node c.args.self.now
    by (inl h) = lt-ltb _ _ h ∙ sym (ap (has_node c.args.node) (sym c.self.view_is) ∙ in_front c.self.inside.numbers.entries c.place_of.result c.self.inside.count c.args.node c.place_of.ensures.place.0 c.place_of.ensures.place.1 h)
    by (inr h) =
        le-ltb _ _ h ∙ sym (ap (has_node c.args.node) (sym c.self.view_is) ∙ behind c.self.inside.numbers.entries c.place_of.result c.self.inside.count c.args.node c.place_of.ensures.place.0 c.place_of.ensures.different c.place_of.ensures.place.1 h)
