use Rattle.std.proofs.Common.{rules, ◌≡◌, subst}
use Rattle.std.specs.Prelude.{Some}
use Rattle.yard_model.specs.Counts.{Counted, IsCounted, place_of}
use Rattle.yard_model.proofs.CountsLaws.{names_found}
use Rattle.yard_model.proofs.counts.Counts.place.Goals as goal

pub returns-in-Some-clause-names : goal.returns-in-Some-clause-names
returns-in-Some-clause-names c = names_found c.args.self.now c.args.entity.now c.in-Some.place (subst (λ (v : Counted). IsCounted v) c.self.view_is c.self.invariant) c.in-Some.ensures

pub returns-in-Some-get-clause-names : goal.returns-in-Some-get-clause-names
returns-in-Some-get-clause-names c =
    let found : place_of c.args.self.now c.args.entity.now ≡ Some c.in-Some-get.place.now = search rules in
    names_found c.args.self.now c.args.entity.now c.in-Some-get.place.now (subst (λ (v : Counted). IsCounted v) c.self.view_is c.self.invariant) found
