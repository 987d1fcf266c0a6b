use Rattle.std.proofs.Common.{◌≡◌, ◌≢◌, ◌∙◌, ◌+◌, ◌++◌, ◌∷◌, [], ap, subst, length}
use Rattle.std.proofs.lemmas.List.{length_push}
use Rattle.place_set.specs.Places.{is_in}
use Rattle.std.specs.Prelude.{ℕ}
use Rattle.job_board.specs.Parcels.{Parcels, fresh_of}
use Rattle.job_board.proofs.FreshLaws.{fresh_grown}
use Rattle.job_board.proofs.parcels.Parcels.post.Goals as goal

pub returns-clause-fresh : goal.returns-clause-fresh
returns-clause-fresh c =
    let n : ℕ = length c.self.inside.posted.items in
    let at : c.len-place.result + 1 ≡ n + 1 = ap (λ k. k + 1) (c.len-place.ensures ∙ c.self.inside.posted.ok.0) in
    let long : length c.push.new.self.items ≡ n + 1 = ap length c.in_ok-push.ensures.items ∙ length_push c.self.inside.posted.items c.args.parcel.now in
    let others : (i : ℕ) → i ≢ n + 1 → is_in c.insert.new.self i ≡ is_in c.self.inside.fresh i = subst (λ k. (i : ℕ) → i ≢ k → is_in c.insert.new.self i ≡ is_in c.self.inside.fresh i) at c.insert.ensures.others in
    ap (fresh_of c.insert.new.self) long ∙ (fresh_grown c.self.inside.fresh c.insert.new.self n c.self.invariant.end others ∙ ap (λ (p : Parcels). p.fresh ++ (length p.posted + 1) ∷ []) c.self.view_is)
