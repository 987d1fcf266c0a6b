use Rattle.std.proofs.Common.{◌<◌, ◌≤◌, ◌∷◌, ◌∙◌, ap, take, arith, subst, sym}
use Rattle.std.specs.Prelude.{codes}
use Rattle.std.specs.List.{flat_map}
use Rattle.yard_model.specs.SlotReads.{journal}
use Rattle.yard_model.specs.Text.{line, record_words}
use Rattle.live_run.proofs.PuttingLaws.{lines_all, lines_began, lines_next, puts_err, rest_is}
use Rattle.live_run.proofs.reporting.write_records.Goals as goal

pub loop-preserved : goal.loop-preserved
loop-preserved g c =
    let n = c.put_records-piece.result.count in
    let one : 0 < n = c.put_records-piece.ensures.some (omega arith) in
    record {
      took = lines_next (λ x. line (codes "record" ∷ record_words x)) (journal c.args.name.now c.args.store.now.entries) c.loop.done n _ _ _ _ (c.put_records-piece.ensures.items ∙ ap (λ l. flat_map (λ x. line (codes "record" ∷ record_words x)) (take n l)) (sym (rest_is c.loop.done (journal c.args.name.now c.args.store.now.entries)))) c.loop.invariant.took c.in_ok-write_piece.ensures;
      within = omega (arith, c.put_records-piece.ensures.count);
      far = omega (arith, one, c.loop.invariant.far);
    }

pub returns-in_err-write_piece : goal.returns-in_err-write_piece
returns-in_err-write_piece g c =
    puts_err c.from_residual.result _ _ _ c.from_residual.ensures.0
    (lines_began (λ x. line (codes "record" ∷ record_words x)) (journal c.args.name.now c.args.store.now.entries) c.loop.done c.put_records-piece.result.count _ _ _ _ (c.put_records-piece.ensures.items ∙ ap (λ l. flat_map (λ x. line (codes "record" ∷ record_words x)) (take c.put_records-piece.result.count l)) (sym (rest_is c.loop.done (journal c.args.name.now c.args.store.now.entries)))) c.loop.invariant.took c.in_err-write_piece.ensures)

pub returns : goal.returns
returns g c = lines_all (λ x. line (codes "record" ∷ record_words x)) (journal c.args.name.now c.args.store.now.entries) c.loop.done _ _ (subst (λ n. n ≤ c.loop.done) c.requires.count (omega (arith, c.loop.invariant.far))) c.loop.invariant.took
