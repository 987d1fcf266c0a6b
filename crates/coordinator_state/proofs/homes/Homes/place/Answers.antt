use Rattle.std.proofs.Common.{◌≡◌, ◌<◌, sym, subst, true, length, ℕ}
use Rattle.std.specs.Prelude.{slice_set}
use Rattle.std.specs.List.{All}
use Rattle.std.specs.Option.{ForSome}
use Rattle.yard_model.specs.Words.{is_among}
use Rattle.coordinator_state.specs.Homes.{AreHomes, HasHomes}
use Rattle.coordinator_state.proofs.HomesLaws.{placed_homes}
use Rattle.coordinator_state.proofs.homes.Homes.place.Goals as goal

pub invariant_of-self : goal.invariant_of-self
invariant_of-self c =
    let homes = c.self.inside.homes.items in
    let s = c.args.s in
    let inside : s < length homes = subst (λ n. s < n) (sym c.self.invariant.size) c.get-place.ensures.range in
    subst (λ (n : ℕ). AreHomes (slice_set homes n c.args.home) c.loads_after.result) (sym c.get-place.ensures.value)
    (placed_homes homes c.self.inside.loads.value c.loads_after.result s c.args.home c.get-place.ensures.range c.self.invariant
    (subst (λ v. ForSome c.args.home (λ r. is_among r v.regions ≡ true)) (sym c.self.view_is) c.requires)
    (rw c.deref.ensures at c.loads_after.ensures.regions) (c.loads_after.ensures.each homes inside (subst (λ ls. All (HasHomes homes) ls) (sym c.deref.ensures) c.self.invariant.each)))
