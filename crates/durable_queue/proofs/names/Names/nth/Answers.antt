use Rattle.std.proofs.Common.{◌≡◌, ◌<◌, List, ℕ, [], length, true, sym, subst, ap, ◌∙◌}
use Rattle.std.specs.Prelude.{slice_index_or}
use Rattle.std.specs.List.{list_any}
use Rattle.yard_model.specs.Script.{is_name}
use Rattle.durable_queue.specs.Kept.{place_of}
use Rattle.name_index.proofs.NameLaws.{placed}
use Rattle.durable_queue.proofs.PlaceLaws.{any_here}
use Rattle.durable_queue.proofs.names.Names.nth.Goals as goal

pub returns-clause-among : goal.returns-clause-among
returns-clause-among c =
    let names : List (List ℕ) = c.args.self.now in
    let it : c.name_in.result.now ≡ slice_index_or names c.args.place [] = c.name_in.ensures ∙ ap (λ (l : List (List ℕ)). slice_index_or l c.args.place []) (c.as_slice.ensures.names ∙ c.self.view_is) in
    subst (λ (e : List ℕ). list_any (is_name e) names ≡ true) (sym it) (any_here names c.args.place c.requires)

pub returns-clause-place : goal.returns-clause-place
returns-clause-place c =
    let names : List (List ℕ) = c.self.inside.list in
    let it : slice_index_or names c.args.place [] ≡ c.name_in.result.now = sym (c.name_in.ensures ∙ ap (λ (l : List (List ℕ)). slice_index_or l c.args.place []) c.as_slice.ensures.names) in
    let within : c.args.place < length names = subst (λ (l : List (List ℕ)). c.args.place < length l) (sym c.self.view_is) c.requires in
    subst (λ (l : List (List ℕ)). place_of l c.name_in.result.now ≡ c.args.place) c.self.view_is (sym (placed names c.name_in.result.now c.args.place c.self.invariant within it))
