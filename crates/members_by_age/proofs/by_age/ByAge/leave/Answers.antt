use Rattle.std.proofs.Common.{◌⊎◌, inl, inr, ◌≡◌, ◌≤◌, ap, sym, ◌∙◌}
use Rattle.std.specs.Prelude.{◌==◌, false}
use Rattle.std.proofs.lemmas.Bool.{eq-eqb, ne_eqb}
use Rattle.yard_model.specs.Words.{without}
use Rattle.members_by_age.proofs.AgedLaws.{stays, left, number_at}
use Rattle.members_by_age.proofs.by_age.ByAge.leave.Goals as goal
use Rattle.members_by_age.proofs.by_age.ByAge.leave.Goals.{then-from-count-via-then-from-count, then-from-count-via-else-from-count+then-index-who}

pub returns-then-from-count : goal.returns-then-from-count
returns-then-from-count c = sym c.self.view_is ∙ (stays c.args.who.now c.self.inside.numbers.entries c.place_of-from.result c.self.inside.count c.place_of-from.ensures.place.0 c.place_of-from.ensures.different c.place_of-from.ensures.place.1 why ∙ ap (without c.args.who.now) c.self.view_is)
  where
    why : (c.self.inside.count ≤ c.place_of-from.result) ⊎ ((c.args.who.now.number == c.place_of-from.ensures.place.0) ≡ false)
    why =
        elim c.then-from-count.branch [
          | then-from-count-via-then-from-count w ↦ inl w.if-from-count.true
          | then-from-count-via-else-from-count+then-index-who w ↦
              inr (ne_eqb c.args.who.now.number c.place_of-from.ensures.place.0
              (λ e. w.if-index-who.true (number_at c.self.inside.numbers.entries c.place_of-from.result c.args.who.now.node c.place_of-from.ensures.place.0 w.index.result.now c.place_of-from.ensures.place.1 w.index.ensures ∙ sym e)))
        ]

pub returns : goal.returns
returns c =
    let es = c.self.inside.numbers.entries in
    let p = c.place_of-from.result in
    let k = c.place_of-from.ensures.place.0 in
    let at = c.place_of-from.ensures.place.1 in
    let same = eq-eqb c.args.who.now.number k (sym c.if-index-who.false ∙ number_at es p c.args.who.now.node k c.index.result.now at c.index.ensures) in
    left c.args.who.now es c.move_index.new.self.entries p c.self.inside.count k c.place_of-from.ensures.different at same c.if-from-count.false c.self.invariant.within c.move_index.ensures.entries
    ∙ ap (without c.args.who.now) c.self.view_is
