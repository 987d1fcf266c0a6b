use Rattle.std.proofs.Common.{◌≡◌, ◌<◌, ◌+◌, ◌-◌, [], List, length, ◌∙◌, ap, subst, arith}
use Rattle.std.specs.Prelude.{get_or}
use Rattle.yard_model.specs.declared.fact.Fact.{Fact}
use Rattle.serve_laws.specs.Hearings.{IsHeard}
use Rattle.log_resume.proofs.BatchLaws.{entries_all}
use Rattle.serve_service.specs.Openings.{script_of, with_queued}
use Rattle.serve_service.proofs.QueueLaws.{script_more, script_not}
use Rattle.serve_service.proofs.opening.queued_in.Goals as goal

pub loop-k-init : goal.loop-k-init
loop-k-init c = c.in_ok-desk.ensures

pub loop-k-preserved : goal.loop-k-preserved
loop-k-preserved c =
    let batches : List (List Fact) = c.args.batches.now in
    let inside : c.loop-k.k < length batches = omega (arith, c.loop-k-test.true) in
    let place : c.loop-k.k + 1 - 1 ≡ c.loop-k.k = omega arith in
    let here : c.get.result.now ≡ get_or batches c.loop-k.k [] = c.get.ensures.batch ∙ ap (λ n. get_or batches n []) place in
    c.in_ok-enter_all.ensures.all c.if-not-branch.false
    ∙ (ap (λ d. with_queued d c.get.result.now) c.loop-k.invariant ∙ script_more c.args.config batches c.loop-k.k c.get.result.now inside here)

pub returns-then-not-branch : goal.returns-then-not-branch
returns-then-not-branch c =
    let batches : List (List Fact) = c.args.batches.now in
    let inside : c.loop-k.k < length batches = omega (arith, c.loop-k-test.true) in
    let place : c.loop-k.k + 1 - 1 ≡ c.loop-k.k = omega arith in
    let here : c.get.result.now ≡ get_or batches c.loop-k.k [] = c.get.ensures.batch ∙ ap (λ n. get_or batches n []) place in (
      omega (arith, inside),
      script_not c.args.config batches c.loop-k.k c.get.result.now inside here
          (subst (λ d. IsHeard (with_queued d c.get.result.now) → ⊥) c.loop-k.invariant (c.in_ok-enter_all.ensures.none c.if-not-branch.true)),
    )

pub returns : goal.returns
returns c = c.loop-k.invariant ∙ ap (script_of c.args.config) (entries_all c.args.batches.now c.loop-k.k (omega (arith, c.loop-k-test.false)))
