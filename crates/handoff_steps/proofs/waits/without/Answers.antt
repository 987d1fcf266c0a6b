use Rattle.std.proofs.Common.{◌≡◌, ℕ, ◌+◌, ◌<◌, ◌&&◌, not, length, get_or, sym, ap, ◌∙◌, arith, subst, inl, inr}
use Rattle.std.proofs.lemmas.Bool.{cases_lt}
use Rattle.yard_model.specs.Members.{no_member}
use Rattle.yard_model.specs.ShardSet.{has}
use Rattle.yard_model.specs.Words.{is_same}
use Rattle.handoff_steps.proofs.BitLaws.{kept}
use Rattle.handoff_steps.proofs.waits.without.Goals as goal

at_or_below : (P : ℕ → Type 0) (p t : ℕ) → t < p + 1 → (t < p → P t) → P p → P t
at_or_below P p t h below here = elim (cases_lt t p) as (λ _. P t) [
  | inl low ↦ below low
  | inr high ↦ let same : p ≡ t = omega arith in subst P same here
]

pub loop-place-preserved : goal.loop-place-preserved
loop-place-preserved c =
    let rs = c.args.regions.now in
    let p = c.loop-place.place in
    let who = c.args.who.now in
    let old = c.args.awaited in
    let new = c.without_at-left.result in
    let inv = c.loop-place.invariant in
    let low : p < length rs = omega (arith, inv.end, c.loop-place-test.true) in
    let fits : p < 16 = omega (arith, c.requires) in record {
      within = omega arith;
      end = inv.end;
      done = λ t below. at_or_below (λ t. has new t ≡ (has old t && not (is_same who (get_or rs t no_member)))) p t below
          (λ less. c.without_at-left.ensures.others t (omega arith) (omega arith) ∙ inv.done t less)
          (c.without_at-left.ensures.here ∙ ap (λ b. b && not (is_same who (get_or rs p no_member))) (inv.rest p fits (omega arith)));
      rest = λ t inside above. c.without_at-left.ensures.others t inside (omega arith) ∙ inv.rest t inside (omega arith);
    }

pub returns : goal.returns
returns c =
    let inv = c.loop-place.invariant in
    kept c.args.who.now c.args.regions.now 0 c.loop-place.left c.args.awaited (λ k low. let same : 0 + k ≡ k = omega arith in
    ap (has c.loop-place.left) same ∙ (inv.done k (omega (arith, inv.end, c.loop-place-test.false))
    ∙ ap (λ n. has c.args.awaited n && not (is_same c.args.who.now (get_or c.args.regions.now k no_member))) (sym same)))
