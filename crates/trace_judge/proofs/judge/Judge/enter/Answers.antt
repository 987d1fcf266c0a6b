use Rattle.std.proofs.Common.{◌≡◌, sym, subst, true, false}
use Rattle.judge_laws.specs.Judged.{crossed, judged}
use Rattle.entry_slots.specs.Entered.{Enters}
use Rattle.trace_judge.specs.Judging.{Judged, Passes}
use Rattle.trace_judge.proofs.JudgeLaws.{failed, judge_next, judge_same, passed_next, refused}
use Rattle.trace_judge.proofs.judge.Judge.enter.Goals as goal

pub returns-then-not-crosses-clause-ok : goal.returns-then-not-crosses-clause-ok
returns-then-not-crosses-clause-ok c =
    let i = c.self.inside in
    let f = c.args.fact.now in
    subst (λ (v : Judged). Passes v f false v) c.self.view_is
    (failed i.slots.script i.story.told f c.self.invariant.shards c.self.invariant.unbroken (subst (λ (v : Judged). judged v.script v.trace f ≡ false) (sym c.self.view_is) (c.crosses.ensures.fails c.if-not-crosses.true)))

pub invariant_of-self-then-not-branch : goal.invariant_of-self-then-not-branch
invariant_of-self-then-not-branch c =
    let i = c.self.inside in
    let f = c.args.fact.now in
    judge_same i.slots c.enter.new.self i.cells.items i.version i.story.told f c.self.invariant (subst (λ b. Enters i.slots f b c.enter.new.self) c.if-not-branch.true c.in_ok-enter.ensures.ok)

pub returns-then-not-branch-clause-ok : goal.returns-then-not-branch-clause-ok
returns-then-not-branch-clause-ok c =
    let i = c.self.inside in
    let f = c.args.fact.now in
    subst (λ (v : Judged). Passes v f false (record { script = c.enter.new.self.script; trace = i.story.told })) c.self.view_is
    (refused i.slots c.enter.new.self i.cells.items i.version i.story.told f c.self.invariant (subst (λ b. Enters i.slots f b c.enter.new.self) c.if-not-branch.true c.in_ok-enter.ensures.ok))

pub invariant_of-self-2 : goal.invariant_of-self-2
invariant_of-self-2 c =
    let i = c.self.inside in
    let f = c.args.fact.now in
    judge_next i.slots c.enter.new.self i.cells.items c.note_life.new.cells.items i.version c.version_after-self-inside.result i.story.told c.tell.new.self.told f c.self.invariant
    (subst (λ (v : Judged). crossed v.script v.trace f ≡ true) (sym c.self.view_is) (c.crosses.ensures.passes c.if-not-crosses.false))
    (subst (λ b. Enters i.slots f b c.enter.new.self) c.if-not-branch.false c.in_ok-enter.ensures.ok) c.note_life.ensures c.version_after-self-inside.ensures c.tell.ensures

pub returns-clause-ok : goal.returns-clause-ok
returns-clause-ok c =
    let i = c.self.inside in
    let f = c.args.fact.now in
    subst (λ (v : Judged). Passes v f true (record { script = c.enter.new.self.script; trace = c.tell.new.self.told })) c.self.view_is
    (passed_next i.slots c.enter.new.self i.cells.items i.version i.story.told c.tell.new.self.told f c.self.invariant
    (subst (λ (v : Judged). crossed v.script v.trace f ≡ true) (sym c.self.view_is) (c.crosses.ensures.passes c.if-not-crosses.false))
    (subst (λ b. Enters i.slots f b c.enter.new.self) c.if-not-branch.false c.in_ok-enter.ensures.ok) c.tell.ensures)
