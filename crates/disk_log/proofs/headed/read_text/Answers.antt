use Rattle.std.proofs.Common.{◌≡◌, arith}
use Rattle.disk_log.proofs.HeadLaws.{head_read, if_some, long_head}
use Rattle.disk_log.proofs.headed.read_text.Goals as goal

pub returns-then-want-gt-MOST-clause-long_head : goal.returns-then-want-gt-MOST-clause-long_head
returns-then-want-gt-MOST-clause-long_head g c is told =
    long_head g.D.Disk.tells (g.D.Disk.content c.args.disk.now) c.args.window.now c.requires.ahead c.requires.first c.args.size c.requires.sized told c.requires.gate (omega (arith, c.if-want-gt-MOST.true))

pub returns-in-Some-clause-read : goal.returns-in-Some-clause-read
returns-in-Some-clause-read g c =
    let some = if_some _ _ _ c.in-Some.is c.in_ok-head.ensures.some in
    head_read g.D.Disk.tells (g.D.Disk.content c.args.disk.now) c.args.window.now c.requires.ahead c.requires.first c.args.size c.requires.sized c.pass.new.self c.fill.new.self c.pass.ensures c.in_ok-fill.ensures.filled
    c.take_head.new.window c.in-Some.head some.0 some.1 (omega (arith, c.if-want-gt-MOST.false)) c.requires.gate (if_some _ _ _ c.in-Some.is c.in_ok-head.ensures.passed)
