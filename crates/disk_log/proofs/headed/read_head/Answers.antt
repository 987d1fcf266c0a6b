use Rattle.std.proofs.Common.{◌≡◌, ◌-◌, ℕ, ◌∙◌, length, ap, subst, sym, arith}
use Rattle.disk_log.specs.Window.{Ahead, IsSize}
use Rattle.disk_log.proofs.GateLaws.{gate_is}
use Rattle.disk_log.proofs.HeadLaws.{headless, open_front}
use Rattle.disk_log.proofs.ReadLaws.{no_size}
use Rattle.disk_log.proofs.headed.read_head.Goals as goal

pub returns-in_default-text_size-clause-damaged : goal.returns-in_default-text_size-clause-damaged
returns-in_default-text_size-clause-damaged g c at is told =
    let w : Ahead = c.fill.new.self in
    let filled = c.in_ok-fill.ensures.filled in (
      cc,
      headless (g.D.Disk.content c.args.disk.now) w.place (filled.place ∙ c.requires.first) (omega (arith, c.requires.long, c.requires.ahead.size told))
          (open_front (g.D.Disk.content c.args.disk.now) c.args.window.now.place c.in-Some.gate c.requires.first (omega (arith, c.if-gate-eq0.false))
          (gate_is g.D.Disk.tells (g.D.Disk.content c.args.disk.now) c.args.window.now w filled c.bytes.result.now c.bytes.ensures c.in-Some.gate c.in-Some.ensures.some.0 c.in-Some.ensures.some.1 told))
          (no_size g.D.Disk.tells (g.D.Disk.content c.args.disk.now) w filled.ahead told (filled.enough told) (omega (arith, c.in-Some.ensures.some.0, ap length c.bytes.ensures))
          (λ (n : ℕ) (s : IsSize w.bytes (w.size - w.place) n). c.in_default-text_size.ensures.none n (subst (λ l. IsSize l c.left.result n) (sym c.bytes-2.ensures) (subst (λ k. IsSize w.bytes k n) (sym c.left.ensures.left) s)))),
    )
