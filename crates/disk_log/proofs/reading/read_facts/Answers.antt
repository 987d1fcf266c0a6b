use Rattle.std.proofs.Common.{take, drop, subst, arith}
use Rattle.std.specs.Prelude.{IsTrue, MatchOption}
use Rattle.fact_lines.specs.Entries.{IsNoEntry}
use Rattle.disk_log.specs.Window.{Passed}
use Rattle.disk_log.proofs.KeptLaws.{none_behind, none_more, read_of, read_on, read_whole, still_behind}
use Rattle.disk_log.proofs.ReadLaws.{other_read, untouched_same, untouched_then}
use Rattle.disk_log.proofs.reading.read_facts.Goals as goal

pub loop-left-init : goal.loop-left-init
loop-left-init g c = record {
  are = none_behind g.D.Disk.tells (g.D.Disk.content c.args.disk.now) c.args.size c.args.window.now c.args.facts.now;
  so_far = none_more g.D.Disk.tells (g.D.Disk.content c.args.disk.now) c.args.size c.args.window.now c.args.facts.now c.requires.ahead;
  untouched = untouched_same _ _;
  faults = omega arith;
}

pub returns-in-None-clause-other : goal.returns-in-None-clause-other
returns-in-None-clause-other g c is told =
    let tells = g.D.Disk.tells in
    let content = g.D.Disk.content c.args.disk.now in
    let none = subst (λ o. MatchOption o (IsTrue tells → IsNoEntry (take c.loop-left.left (drop c.loop-left.window.place (g.D.Disk.content c.loop-left.disk))))
    (λ used. Passed tells (g.D.Disk.content c.loop-left.disk) c.loop-left.left used c.loop-left.window c.read_entry.new.window c.loop-left.facts c.read_entry.new.facts)) c.in-None.is c.in_ok-used.ensures.found in
    other_read tells content c.args.size c.loop-left.left c.args.window.now c.loop-left.window (read_of c.args.facts.now c.loop-left.facts) c.loop-left.invariant.so_far c.loop-left-test.true c.requires.fits
    (subst (λ xs. IsTrue tells → IsNoEntry (take c.loop-left.left (drop c.loop-left.window.place xs))) c.loop-left.invariant.untouched.bytes none) told

pub loop-left-preserved : goal.loop-left-preserved
loop-left-preserved g c =
    let tells = g.D.Disk.tells in
    let content = g.D.Disk.content c.args.disk.now in
    let some = subst (λ o. MatchOption o (IsTrue tells → IsNoEntry (take c.loop-left.left (drop c.loop-left.window.place (g.D.Disk.content c.loop-left.disk))))
    (λ used. Passed tells (g.D.Disk.content c.loop-left.disk) c.loop-left.left used c.loop-left.window c.read_entry.new.window c.loop-left.facts c.read_entry.new.facts)) c.in-Some.is c.in_ok-used.ensures.found in
    let passed = subst (λ xs. Passed tells xs c.loop-left.left c.in-Some.used c.loop-left.window c.read_entry.new.window c.loop-left.facts c.read_entry.new.facts) c.loop-left.invariant.untouched.bytes some in
    record {
      are = still_behind tells content c.args.size c.args.window.now c.args.facts.now c.loop-left.left c.loop-left.window c.loop-left.facts c.loop-left.invariant.are c.loop-left.invariant.so_far
          c.in-Some.used c.read_entry.new.window c.read_entry.new.facts passed;
      so_far = read_on tells content c.args.size c.args.window.now c.args.facts.now c.loop-left.left c.loop-left.window c.loop-left.facts c.loop-left.invariant.are c.loop-left.invariant.so_far
          c.in-Some.used c.read_entry.new.window c.read_entry.new.facts passed;
      untouched = untouched_then _ _ _ _ _ _ c.loop-left.invariant.untouched c.read_entry.ensures.untouched;
      faults = omega (arith, c.loop-left.invariant.faults, c.read_entry.ensures.never_falls);
    }

pub returns-clause-read : goal.returns-clause-read
returns-clause-read g c is =
    read_whole g.D.Disk.tells (g.D.Disk.content c.args.disk.now) c.args.size c.args.window.now c.args.facts.now c.loop-left.left c.loop-left.window c.loop-left.facts
    c.loop-left.invariant.are c.loop-left.invariant.so_far (omega (arith, c.loop-left-test.false))
