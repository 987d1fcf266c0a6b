use Rattle.std.proofs.Common.{[], subst, arith}
use Rattle.judge_text.specs.Reads.{Turns}
use Rattle.judge_text.proofs.ReadLaws.{judged_so, then_ends, then_on}
use Rattle.judge_text.proofs.reading.judge_rest.Goals as goal

pub returns-in-Some-clause-judged : goal.returns-in-Some-clause-judged
returns-in-Some-clause-judged g c =
    let had = g.S.Source.left c.args.source.now in
    let mid = g.S.Source.left c.loop.source in
    let has = g.S.Source.left c.turn.new.source in
    judged_so c.args.charter.now c.args.first.now c.in-Some.answer had has
    (then_ends (record { script = c.args.charter.now; trace = []; lines = 0 }) c.loop.hearing c.args.first.now c.loop.window.items c.in-Some.answer had mid has c.loop.invariant.goes
    (subst (λ o. Turns c.loop.hearing c.loop.window.items o c.turn.new.hearing c.turn.new.window.items mid has) c.in-Some.is c.in_ok-found.ensures.turns))

pub loop-preserved : goal.loop-preserved
loop-preserved g c =
    let had = g.S.Source.left c.args.source.now in
    let mid = g.S.Source.left c.loop.source in
    let has = g.S.Source.left c.turn.new.source in
    record {
      goes =
          then_on (record { script = c.args.charter.now; trace = []; lines = 0 }) c.loop.hearing c.turn.new.hearing c.args.first.now c.loop.window.items c.turn.new.window.items had mid has c.loop.invariant.goes
          (subst (λ o. Turns c.loop.hearing c.loop.window.items o c.turn.new.hearing c.turn.new.window.items mid has) c.in-None.is c.in_ok-found.ensures.turns);
      faults = omega (arith, c.loop.invariant.faults, c.in_ok-found.ensures.never_falls);
      room = c.loop.invariant.room;
    }
