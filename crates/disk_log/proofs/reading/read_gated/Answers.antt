use Rattle.std.proofs.Common.{◌≡◌, length, ap, arith}
use Rattle.std.proofs.lemmas.Result.{err_from_is_err_and}
use Rattle.disk_log.proofs.GateLaws.{ahead_there, bad_there, closed_there, opened_there, some_there}
use Rattle.disk_log.proofs.ReadLaws.{untouched_then}
use Rattle.disk_log.proofs.reading.read_gated.Goals as goal

pub read_batch-requires : goal.read_batch-requires
read_batch-requires g c = record {
  ahead = ahead_there g.D.Disk.tells (g.D.Disk.content c.args.disk.now) c.args.window.now c.fill.new.self c.in_ok-fill.ensures.filled c.bytes.result.now c.bytes.ensures _ c.fill.ensures.untouched.bytes;
  filled = c.in_ok-fill.ensures.filled.enough;
  some = omega (arith, c.in-Some.ensures.some.0, ap length c.bytes.ensures);
}

pub returns-in_default-clause-damaged : goal.returns-in_default-clause-damaged
returns-in_default-clause-damaged g c at is told =
    absurd (some_there g.D.Disk.tells (g.D.Disk.content c.args.disk.now) c.args.window.now c.fill.new.self c.in_ok-fill.ensures.filled c.bytes.result.now c.bytes.ensures c.in_default.ensures.none c.requires.there told)

pub returns-in_default-clause-untouched : goal.returns-in_default-clause-untouched
returns-in_default-clause-untouched g c = c.fill.ensures.untouched

pub returns-then-gate-eq0-clause-closed : goal.returns-then-gate-eq0-clause-closed
returns-then-gate-eq0-clause-closed g c is =
    closed_there g.D.Disk.tells (g.D.Disk.content c.args.disk.now) c.args.window.now c.fill.new.self c.in_ok-fill.ensures.filled c.bytes.result.now c.bytes.ensures c.in-Some.gate c.in-Some.ensures.some.0 c.in-Some.ensures.some.1 _ c.if-gate-eq0.true

pub returns-then-gate-eq0-clause-untouched : goal.returns-then-gate-eq0-clause-untouched
returns-then-gate-eq0-clause-untouched g c = c.fill.ensures.untouched

pub returns-in_err-read_batch-clause-damaged : goal.returns-in_err-read_batch-clause-damaged
returns-in_err-read_batch-clause-damaged g c at is told =
    let p = err_from_is_err_and c.from_residual-in_err-read_batch.result c.from_residual-in_err-read_batch.ensures.1 in
    let one = p.1 in
    let two = p.2 in
    absurd (c.in_err-read_batch.ensures.whole at (cc))

pub returns-in_err-read_batch-clause-untouched : goal.returns-in_err-read_batch-clause-untouched
returns-in_err-read_batch-clause-untouched g c = untouched_then _ _ _ _ _ _ c.fill.ensures.untouched c.read_batch.ensures.untouched

pub returns-then-not-branch-clause-damaged : goal.returns-then-not-branch-clause-damaged
returns-then-not-branch-clause-damaged g c at is told =
    let same : at ≡ c.args.window.now.place = cc in
    bad_there g.D.Disk.tells (g.D.Disk.content c.args.disk.now) c.args.window.now c.fill.new.self c.in_ok-fill.ensures.filled c.bytes.result.now c.bytes.ensures c.in-Some.gate c.in-Some.ensures.some.0 c.in-Some.ensures.some.1
    (omega (arith, c.if-gate-eq0.false)) (g.D.Disk.content c.fill.new.disk) c.fill.ensures.untouched.bytes
    at same told (c.in_ok-read_batch.ensures.other c.if-not-branch.true told)

pub returns-then-not-branch-clause-untouched : goal.returns-then-not-branch-clause-untouched
returns-then-not-branch-clause-untouched g c = untouched_then _ _ _ _ _ _ c.fill.ensures.untouched c.read_batch.ensures.untouched

pub returns-clause-open : goal.returns-clause-open
returns-clause-open g c is =
    opened_there g.D.Disk.tells (g.D.Disk.content c.args.disk.now) c.args.window.now c.fill.new.self c.in_ok-fill.ensures.filled c.bytes.result.now c.bytes.ensures c.in-Some.gate c.in-Some.ensures.some.0 c.in-Some.ensures.some.1
    (omega (arith, c.if-gate-eq0.false)) (g.D.Disk.content c.fill.new.disk) c.fill.ensures.untouched.bytes
    c.read_batch.new.window c.args.facts.now c.read_batch.new.facts (c.in_ok-read_batch.ensures.read c.if-not-branch.false)

pub returns-clause-untouched : goal.returns-clause-untouched
returns-clause-untouched g c = untouched_then _ _ _ _ _ _ c.fill.ensures.untouched c.read_batch.ensures.untouched
