use Rattle.std.proofs.Common.{◌++◌, ◌∷◌, [], ap, ◌∙◌, subst, refl}
use Rattle.std.specs.Prelude.{Some}
use Rattle.std.specs.Ordering.{nat_cmp}
use Rattle.std.specs.Cmp.Lexicographic.{slice_cmp}
use Rattle.std.specs.BTreeMap.{Updates}
use Rattle.solo_run.specs.declared.entities.Entities.{Entities}
use Rattle.solo_run.specs.Known.{Known}
use Rattle.solo_run.proofs.PlaceLaws.{begun}
use Rattle.solo_run.proofs.entities.Entities.begin.Goals as goal

pub returns-clause-known : goal.returns-clause-known
returns-clause-known c =
    let new : Entities = record { places = c.insert.new.self; kept = c.push.new.self; last = c.args.self.now.last } in
    (begun c.args.kind c.args.self.now new c.args.name.now c.requires.kept c.requires.absent
    (subst (λ n. Updates (slice_cmp nat_cmp) c.args.self.now.places c.insert.new.self c.args.name.now (Some n)) (c.len-place.ensures ∙ c.args.self.now.kept.ok.0) c.in_ok-insert.ensures.updates)
    (c.in_ok-push.ensures.items ∙ ap (λ (x : Known). c.args.self.now.kept.items ++ x ∷ []) c.in_ok-entity.ensures) refl).0

pub returns-clause-kept : goal.returns-clause-kept
returns-clause-kept c =
    let new : Entities = record { places = c.insert.new.self; kept = c.push.new.self; last = c.args.self.now.last } in
    (begun c.args.kind c.args.self.now new c.args.name.now c.requires.kept c.requires.absent
    (subst (λ n. Updates (slice_cmp nat_cmp) c.args.self.now.places c.insert.new.self c.args.name.now (Some n)) (c.len-place.ensures ∙ c.args.self.now.kept.ok.0) c.in_ok-insert.ensures.updates)
    (c.in_ok-push.ensures.items ∙ ap (λ (x : Known). c.args.self.now.kept.items ++ x ∷ []) c.in_ok-entity.ensures) refl).1
