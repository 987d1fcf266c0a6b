use Rattle.std.proofs.Common.{◌∷◌, [], ◌∙◌, ap, subst, arith}
use Rattle.std.proofs.lemmas.List.{take_all}
use Rattle.serve_laws.specs.Hearings.{IsHeard}
use Rattle.serve_service.specs.Openings.{with_queued}
use Rattle.serve_service.proofs.QueueLaws.{queued_more, queued_none, queued_not}
use Rattle.serve_service.proofs.opening.enter_all.Goals as goal

pub loop-fact-init : goal.loop-fact-init
loop-fact-init c = queued_none c.args.desk.now

pub loop-fact-preserved : goal.loop-fact-preserved
loop-fact-preserved c =
    c.in_ok-enter.ensures.all c.if-not-branch.false
    ∙ (ap (λ d. with_queued d (c.fact-item.result ∷ [])) c.loop-fact.invariant ∙ queued_more c.args.desk.now c.args.facts.now c.loop-fact.fact-index c.fact-item.result c.loop-fact-test.true c.fact-item.is)

pub returns-then-not-branch-clause-none : goal.returns-then-not-branch-clause-none
returns-then-not-branch-clause-none c is =
    queued_not c.args.desk.now c.args.facts.now c.loop-fact.fact-index c.fact-item.result c.loop-fact-test.true c.fact-item.is
    (subst (λ d. IsHeard (with_queued d (c.fact-item.result ∷ [])) → ⊥) c.loop-fact.invariant (c.in_ok-enter.ensures.none c.if-not-branch.true))

pub returns-clause-all : goal.returns-clause-all
returns-clause-all c is =
    c.loop-fact.invariant ∙ ap (with_queued c.args.desk.now) (take_all c.loop-fact.fact-index c.args.facts.now (omega (arith, c.loop-fact-test.false)))
