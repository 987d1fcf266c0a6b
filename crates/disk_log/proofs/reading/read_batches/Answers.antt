use Rattle.std.proofs.Common.{ap, subst, sym, arith}
use Rattle.std.proofs.lemmas.Result.{err_from_is_err_and}
use Rattle.disk_log.specs.Kept.{cut}
use Rattle.disk_log.specs.Opening.{EndsAt}
use Rattle.disk_log.proofs.GoingLaws.{begins, breaks, ended, falls, stepped}
use Rattle.disk_log.proofs.KeptLaws.{none_kept}
use Rattle.disk_log.proofs.ReadLaws.{untouched_same, untouched_then}
use Rattle.disk_log.proofs.reading.read_batches.Goals as goal

pub loop-more-preserved : goal.loop-more-preserved
loop-more-preserved g c = record {
  going = stepped g.D.Disk.tells (g.D.Disk.content c.args.disk.now) (g.D.Disk.content c.loop-more.disk) c.args.window.now.place c.loop-more.window (cut 0 c.loop-more.ends.items c.loop-more.facts) c.loop-more.more c.loop-more.invariant.going c.loop-more-test.true
      c.loop-more.invariant.untouched.bytes c.read_next.new.window (cut 0 c.read_next.new.ends.items c.read_next.new.facts) c.in_ok-more.more c.in_ok-more.ensures.open c.in_ok-more.ensures.closed;
  kept = c.in_ok-more.ensures.kept;
  untouched = untouched_then _ _ _ _ _ _ c.loop-more.invariant.untouched c.read_next.ensures.untouched;
  faults = omega (arith, c.loop-more.invariant.faults, c.read_next.ensures.never_falls);
}

pub loop-more-smaller : goal.loop-more-smaller
loop-more-smaller g c =
    falls g.D.Disk.tells (g.D.Disk.content c.args.disk.now) (g.D.Disk.content c.loop-more.disk) c.args.window.now.place c.loop-more.window (cut 0 c.loop-more.ends.items c.loop-more.facts) c.loop-more.more c.loop-more.invariant.going c.loop-more-test.true
    c.loop-more.invariant.untouched.bytes c.read_next.new.window (cut 0 c.read_next.new.ends.items c.read_next.new.facts) c.in_ok-more.more c.in_ok-more.ensures.open

pub loop-more-init : goal.loop-more-init
loop-more-init g c = record {
  going = begins g.D.Disk.tells (g.D.Disk.content c.args.disk.now) c.args.window.now _ c.requires.ahead c.requires.there (ap (λ es. cut 0 es c.new-facts.result) c.new-ends.ensures.items);
  kept = none_kept _ _ c.new-ends.ensures.items c.new-facts.ensures;
  untouched = untouched_same _ _;
  faults = omega arith;
}

pub returns-in_err-more-clause-damaged : goal.returns-in_err-more-clause-damaged
returns-in_err-more-clause-damaged g c at is told =
    let p = err_from_is_err_and c.from_residual.result c.from_residual.ensures.1 in
    let one = p.1 in
    let two = p.2 in
    breaks g.D.Disk.tells (g.D.Disk.content c.args.disk.now) (g.D.Disk.content c.loop-more.disk) c.args.window.now.place c.loop-more.window (cut 0 c.loop-more.ends.items c.loop-more.facts) c.loop-more.more c.loop-more.invariant.going c.loop-more-test.true
    c.loop-more.invariant.untouched.bytes at told (c.in_err-more.ensures.damaged at (cc) told)

pub returns-clause-ends : goal.returns-clause-ends
returns-clause-ends g c =
    subst (EndsAt g.D.Disk.tells (g.D.Disk.content c.args.disk.now) c.args.window.now.place c.loop-more.window.place) (sym c.of.ensures)
    (ended g.D.Disk.tells (g.D.Disk.content c.args.disk.now) c.args.window.now.place c.loop-more.window (cut 0 c.loop-more.ends.items c.loop-more.facts) c.loop-more.more c.loop-more.invariant.going c.loop-more-test.false)
