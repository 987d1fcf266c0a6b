use Rattle.std.proofs.Common.{◌≡◌, ◌-◌, ℕ, length, drop, take, ap, subst, sym, arith}
use Rattle.std.specs.Prelude.{false, true, IsTrue}
use Rattle.fact_lines.specs.Entries.{IsOther}
use Rattle.disk_log.specs.Window.{Ahead, IsAhead, IsSize}
use Rattle.disk_log.proofs.ReadLaws.{batch_read, no_size, on_ok, other_batch, pass_ahead}
use Rattle.disk_log.proofs.SpellLaws.{none_followed}
use Rattle.disk_log.proofs.reading.read_batch.Goals as goal

pub returns-in_default-clause-other : goal.returns-in_default-clause-other
returns-in_default-clause-other g c is told =
    let w : Ahead = c.args.window.now in
    none_followed _ (no_size g.D.Disk.tells (g.D.Disk.content c.args.disk.now) w c.requires.ahead told (c.requires.filled told) c.requires.some
    (λ (n : ℕ) (s : IsSize w.bytes (w.size - w.place) n). c.in_default.ensures.none n (subst (λ l. IsSize l c.left.result n) (sym c.bytes.ensures) (subst (λ k. IsSize w.bytes k n) (sym c.left.ensures.left) s))))

pub read_facts-requires-clause-ahead : goal.read_facts-requires-clause-ahead
read_facts-requires-clause-ahead g c =
    subst (IsAhead g.D.Disk.tells (g.D.Disk.content c.args.disk.now)) (sym c.pass.ensures)
    (pass_ahead g.D.Disk.tells (g.D.Disk.content c.args.disk.now) c.args.window.now c.requires.ahead 5 (omega (arith, c.in-Some.ensures.some.long, ap length c.bytes.ensures)))

pub returns-clause-other : goal.returns-clause-other
returns-clause-other g c =
    let tells = g.D.Disk.tells in
    let content = g.D.Disk.content c.args.disk.now in
    let w : Ahead = c.args.window.now in
    let n = c.in-Some.size in
    let said : IsSize w.bytes (w.size - w.place) n = subst (λ l. IsSize l (w.size - w.place) n) c.bytes.ensures (subst (λ k. IsSize c.bytes.result.now k n) c.left.ensures.left c.in-Some.ensures.some) in
    on_ok c.read_facts.result
    (λ whole other (is : whole ≡ false) (told : IsTrue tells). other_batch tells content w c.requires.ahead told n said (subst (λ (v : Ahead). IsOther (take n (drop v.place content))) c.pass.ensures (other is told)))
    c.read_facts.ensures.other

pub returns-clause-read : goal.returns-clause-read
returns-clause-read g c =
    let tells = g.D.Disk.tells in
    let content = g.D.Disk.content c.args.disk.now in
    let w : Ahead = c.args.window.now in
    let n = c.in-Some.size in
    let said : IsSize w.bytes (w.size - w.place) n = subst (λ l. IsSize l (w.size - w.place) n) c.bytes.ensures (subst (λ k. IsSize c.bytes.result.now k n) c.left.ensures.left c.in-Some.ensures.some) in
    on_ok c.read_facts.result
    (λ whole came (is : whole ≡ true). let r = came is in record {
      read = r.read;
      more_are = r.more_are;
      are = batch_read tells content n w c.pass.new.self _ r.read c.requires.ahead said (ap (λ (v : Ahead). v.size) c.pass.ensures) (ap (λ (v : Ahead). v.place) c.pass.ensures) r.are;
    })
    c.read_facts.ensures.read
