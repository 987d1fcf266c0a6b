use Rattle.std.proofs.Common.{List, ℕ, ◌∙◌, ap, sym, subst, false, ◌≡◌, ◌∷◌, [], ◌++◌, length}
use Rattle.std.specs.List.{list_any}
use Rattle.yard_model.specs.Script.{is_name}
use Rattle.bulk_gen.specs.Counted.{AreConfirmed, Sums}
use Rattle.bulk_gen.proofs.ConfirmedLaws.{entered_place, entered_kept}
use Rattle.bulk_gen.proofs.confirmed.Confirmed.enter.Goals as goal

pub returns-clause-place : goal.returns-clause-place
returns-clause-place c =
    entered_place c.self.inside.names c.self.inside.others.items c.push_reserved.new.self.items c.args.entity.now (length c.as_slice-place.result.now) (subst (λ (v : Sums). list_any (is_name c.args.entity.now) v.names ≡ false) (sym c.self.view_is) c.requires)
    (c.push_reserved.ensures.items ∙ ap (λ (l : List (List ℕ)). l ++ c.args.entity.now ∷ []) c.reserve.ensures.items) (ap (λ (l : List (List ℕ)). length l) c.as_slice-place.ensures.value ∙ c.self.invariant.sized)

pub returns-clause-kept : goal.returns-clause-kept
returns-clause-kept c xs k =
    entered_kept c.self.inside.names c.self.inside.others.items c.push_reserved.new.self.items c.self.inside.rows.items c.push.new.self.items c.args.entity.now c.zero.result c.self.inside.sum xs c.self.invariant.sized
    (c.push_reserved.ensures.items ∙ ap (λ (l : List (List ℕ)). l ++ c.args.entity.now ∷ []) c.reserve.ensures.items) c.in_ok-push.ensures.items c.zero.ensures (subst (λ (v : Sums). AreConfirmed v xs) (sym c.self.view_is) k)
