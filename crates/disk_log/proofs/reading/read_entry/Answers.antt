use Rattle.std.proofs.Common.{◌≡◌, ◌∙◌, List, ℕ, length, min, take, ap, subst}
use Rattle.std.specs.Prelude.{MatchOption}
use Rattle.fact_lines.specs.Entries.{IsNoEntry}
use Rattle.disk_log.specs.Window.{TookFront}
use Rattle.disk_log.proofs.ReadLaws.{no_entry, passed}
use Rattle.disk_log.proofs.reading.read_entry.Goals as goal

pub returns-in_default-clause-found : goal.returns-in_default-clause-found
returns-in_default-clause-found g c told =
    let have = c.min-have.result in
    let have_is : have ≡ min c.args.left (length c.fill.new.self.bytes) = c.min-have.ensures ∙ ap (λ (l : List ℕ). min c.args.left (length l)) c.bytes.ensures in
    let none = subst (λ o. MatchOption o (IsNoEntry (take have c.bytes-2.result.now)) (λ used. TookFront (take have c.bytes-2.result.now) c.args.facts.now c.take_front.new.facts used)) c.in_default.is c.in_ok-used.ensures in
    no_entry g.D.Disk.tells (g.D.Disk.content c.args.disk.now) c.args.left have c.args.window.now c.fill.new.self c.in_ok-fill.ensures.filled have_is c.requires.fits
    (subst (λ l. IsNoEntry (take have l)) c.bytes-2.ensures none) told

pub returns-clause-found : goal.returns-clause-found
returns-clause-found g c =
    let have = c.min-have.result in
    let have_is : have ≡ min c.args.left (length c.fill.new.self.bytes) = c.min-have.ensures ∙ ap (λ (l : List ℕ). min c.args.left (length l)) c.bytes.ensures in
    let some = subst (λ o. MatchOption o (IsNoEntry (take have c.bytes-2.result.now)) (λ used. TookFront (take have c.bytes-2.result.now) c.args.facts.now c.take_front.new.facts used)) c.in-Some.is c.in_ok-used.ensures in
    passed g.D.Disk.tells (g.D.Disk.content c.args.disk.now) c.args.left have c.args.window.now c.fill.new.self c.in_ok-fill.ensures.filled have_is c.in-Some.used c.pass.new.self c.args.facts.now c.take_front.new.facts
    (subst (λ l. TookFront (take have l) c.args.facts.now c.take_front.new.facts c.in-Some.used) c.bytes-2.ensures some) c.pass.ensures
