use Rattle.std.proofs.Common.{◌++◌, ◌≡◌, ◌+◌, false, ◌∙◌, ap, sym, subst}
use Rattle.std.specs.List.{list_any, position}
use Rattle.yard_model.specs.Script.{is_name}
use Rattle.bulk_gen.specs.Counted.{IsPlace, Sums}
use Rattle.bulk_gen.proofs.ConfirmedLaws.{named_place, no_place, other_place}
use Rattle.bulk_gen.proofs.confirmed.Confirmed.place.Goals as goal

pub returns-in-Some : goal.returns-in-Some
returns-in-Some c =
    subst (λ (v : Sums). IsPlace v.names c.args.entity.now c.in-Some.place) c.self.view_is
    (named_place c.self.inside.names c.self.inside.others.items c.args.entity.now c.in-Some.place c.self.invariant.sorted c.in-Some.ensures.0 c.in-Some.ensures.1)

pub returns-in-Some-place_in : goal.returns-in-Some-place_in
returns-in-Some-place_in c =
    subst (λ (v : Sums). IsPlace v.names c.args.entity.now (c.len.result + c.in-Some-place_in.place)) c.self.view_is
    (subst (λ n. IsPlace (c.self.inside.names ++ c.self.inside.others.items) c.args.entity.now (n + c.in-Some-place_in.place)) (sym c.len.ensures)
    (other_place c.self.inside.names c.self.inside.others.items c.args.entity.now c.in-Some-place_in.place c.in-None.ensures
    (ap (position (is_name c.args.entity.now)) (sym c.as_slice.ensures.value) ∙ sym c.in-Some-place_in.ensures)))

pub returns-in-None-place_in : goal.returns-in-None-place_in
returns-in-None-place_in c =
    subst (λ (v : Sums). list_any (is_name c.args.entity.now) v.names ≡ false) c.self.view_is
    (no_place c.self.inside.names c.self.inside.others.items c.args.entity.now c.in-None.ensures (ap (position (is_name c.args.entity.now)) (sym c.as_slice.ensures.value) ∙ sym c.in-None-place_in.ensures))
