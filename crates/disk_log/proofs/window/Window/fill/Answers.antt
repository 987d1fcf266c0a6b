use Rattle.std.proofs.Common.{refl, arith}
use Rattle.disk_log.proofs.ReadLaws.{fills, fills_on, filled, untouched_same, untouched_then}
use Rattle.disk_log.proofs.window.Window.fill.Goals as goal

pub returns-then-has-clause-filled : goal.returns-then-has-clause-filled
returns-then-has-clause-filled g c =
    filled g.D.Disk.tells (g.D.Disk.content c.args.disk.now) 0 c.args.self.now c.args.self.now (fills g.D.Disk.tells (g.D.Disk.content c.args.disk.now) c.args.self.now c.args.self.now c.requires refl)
    c.args.want (λ told. c.has.ensures.yes c.if-has.true)

pub returns-then-has-clause-untouched : goal.returns-then-has-clause-untouched
returns-then-has-clause-untouched g c = untouched_same _ _

pub returns-in_err-forget-clause-untouched : goal.returns-in_err-forget-clause-untouched
returns-in_err-forget-clause-untouched g c = untouched_same _ _

pub loop-init : goal.loop-init
loop-init g c = record {
  filling = fills g.D.Disk.tells (g.D.Disk.content c.args.disk.now) c.args.self.now _ c.requires c.in_ok-forget.ensures;
  untouched = untouched_same _ _;
  faults = omega arith;
}

pub loop-preserved : goal.loop-preserved
loop-preserved g c = record {
  filling = fills_on g.D.Disk.tells (g.D.Disk.content c.args.disk.now) c.loop.counter c.args.self.now c.loop.self c.loop.invariant.filling _ _ _ c.loop.invariant.untouched.bytes c.in_ok-come.ensures.came;
  untouched = untouched_then _ _ _ _ _ _ c.loop.invariant.untouched c.read_more.ensures.untouched;
  faults = omega (arith, c.loop.invariant.faults, c.read_more.ensures.never_falls);
}
