use Rattle.std.proofs.Common.{◌∙◌, List, ◌++◌, ◌∷◌, [], ap, length, subst, sym}
use Rattle.std.proofs.lemmas.Result.{err_from_is_err_and}
use Rattle.yard_model.specs.declared.fact.Fact.{Fact}
use Rattle.disk_log.specs.Kept.{AreKept}
use Rattle.disk_log.proofs.KeptLaws.{closed, kept_more, opened}
use Rattle.disk_log.proofs.reading.read_next.Goals as goal

pub returns-then-not-more-clause-kept : goal.returns-then-not-more-clause-kept
returns-then-not-more-clause-kept g c = subst (AreKept c.args.ends.now.items) (sym (c.in_ok-more.ensures.closed c.if-not-more.true).same) c.requires.kept

pub returns-then-not-more-clause-closed : goal.returns-then-not-more-clause-closed
returns-then-not-more-clause-closed g c is =
    closed g.D.Disk.tells (g.D.Disk.content c.args.disk.now) c.args.window.now c.read_gated.new.window c.args.ends.now.items c.args.facts.now c.read_gated.new.facts (c.in_ok-more.ensures.closed c.if-not-more.true)

pub returns-clause-kept : goal.returns-clause-kept
returns-clause-kept g c =
    kept_more g.D.Disk.tells (g.D.Disk.content c.args.disk.now) c.args.window.now c.read_gated.new.window c.args.ends.now.items c.note_end.new.ends.items c.args.facts.now c.read_gated.new.facts
    c.requires.kept (c.in_ok-more.ensures.open c.if-not-more.false) (c.in_ok-note_end.ensures.noted ∙ ap (λ (l : List Fact). c.args.ends.now.items ++ length l ∷ []) c.as_slice.ensures) c.in_ok-note_end.ensures.few

pub returns-clause-open : goal.returns-clause-open
returns-clause-open g c is =
    opened g.D.Disk.tells (g.D.Disk.content c.args.disk.now) c.args.window.now c.read_gated.new.window c.args.ends.now.items c.note_end.new.ends.items c.args.facts.now c.read_gated.new.facts
    c.requires.kept (c.in_ok-more.ensures.open c.if-not-more.false) (c.in_ok-note_end.ensures.noted ∙ ap (λ (l : List Fact). c.args.ends.now.items ++ length l ∷ []) c.as_slice.ensures)

pub returns-in_err-more-clause-damaged : goal.returns-in_err-more-clause-damaged
returns-in_err-more-clause-damaged g c at is told =
    let p = err_from_is_err_and c.from_residual.result c.from_residual.ensures.1 in
    let one = p.1 in
    let two = p.2 in
    c.in_err-more.ensures.damaged at (cc) told
