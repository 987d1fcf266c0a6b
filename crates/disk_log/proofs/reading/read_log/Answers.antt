use Rattle.std.proofs.Common.{◌∙◌, ap, length, subst, sym, arith}
use Rattle.disk_log.specs.Opening.{IsDamagedFrom}
use Rattle.disk_log.specs.Spelled.{Spells}
use Rattle.disk_log.specs.Window.{Ahead}
use Rattle.disk_log.proofs.GoingLaws.{ahead_new, damaged_front, ended_spells}
use Rattle.disk_log.proofs.ReadLaws.{on_ok}
use Rattle.disk_log.proofs.reading.read_log.Goals as goal

pub read_batches-requires : goal.read_batches-requires
read_batches-requires g c = record {
  ahead = ahead_new g.D.Disk.tells (g.D.Disk.content c.size.new.self) c.in_ok-window.window _ c.in_ok-window.ensures (λ told. c.in_ok-size.ensures.size told ∙ ap length (sym c.size.ensures.content));
  there = omega (arith, ap (λ (w : Ahead). w.place) c.in_ok-window.ensures, ap (λ (w : Ahead). w.size) c.in_ok-window.ensures, c.if-size-le1.false);
}

pub returns-clause-spelled : goal.returns-clause-spelled
returns-clause-spelled g c =
    on_ok c.read_batches.result
    (λ batches ends told. subst (λ xs. Spells xs batches) c.size.ensures.content
    (ended_spells g.D.Disk.tells (g.D.Disk.content c.size.new.self) _ c.read_batches.new.window.place batches (ap (λ (w : Ahead). w.place) c.in_ok-window.ensures) ends told))
    c.read_batches.ensures.ends

pub returns-clause-damaged : goal.returns-clause-damaged
returns-clause-damaged g c at is told =
    let w : Ahead = c.in_ok-window.window in
    damaged_front (g.D.Disk.content c.args.disk.now) w.place at (ap (λ (v : Ahead). v.place) c.in_ok-window.ensures) (omega (arith, c.if-size-le1.false, c.in_ok-size.ensures.size told))
    (subst (λ xs. IsDamagedFrom xs w.place at) c.size.ensures.content (c.read_batches.ensures.damaged at is told))
