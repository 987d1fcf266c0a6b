use Rattle.std.proofs.Common.{ap, sym, ◌∙◌}
use Rattle.std.specs.Prelude.{nat_eq, position}
use Rattle.std.specs.Map.{keys_of}
use Rattle.members_by_age.proofs.AgedLaws.{place_at}
use Rattle.members_by_age.proofs.by_age.place_of.Goals as goal

pub returns-clause-place : goal.returns-clause-place
returns-clause-place c =
    place_at c.args.numbers.now.entries c.args.node c.in-Some.place
    (ap (λ n. position (nat_eq n) (keys_of c.args.numbers.now.entries)) (sym c.get-key.ensures.value) ∙ (sym c.get_index_of.ensures.index ∙ c.in-Some.is))
