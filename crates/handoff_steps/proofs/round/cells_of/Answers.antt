use Rattle.std.proofs.Common.{◌<◌, ◌∷◌, [], ◌++◌, map, take, get_or, ap, sym, ◌∙◌, arith}
use Rattle.std.proofs.lemmas.List.{length-set, take_more, take_more_set, map_push, take_all}
use Rattle.handoff_steps.specs.Places.{regions_of, first_place, all_shards}
use Rattle.handoff_steps.specs.Seen.{seen}
use Rattle.handoff_steps.proofs.PlaceLaws.{length-shards, shard_at}
use Rattle.handoff_steps.proofs.round.cells_of.Goals as goal

pub loop-s-preserved : goal.loop-s-preserved
loop-s-preserved c =
    let cells = c.loop-s.cells in
    let s = c.loop-s.s in
    let f = seen (regions_of c.args.loads.now) in
    let g = first_place c.args.picks c.args.loads.now in
    let inv = c.loop-s.invariant in
    let low : s < 128 = c.loop-s-test.true in record {
      within = omega arith;
      size = length-set cells s c.cell_of.result ∙ inv.size;
      done = ap (map f) (take_more_set cells s c.cell_of.result (omega (arith, inv.size)))
          ∙ (map_push f (take s cells) c.cell_of.result
          ∙ (ap (λ l. l ++ f c.cell_of.result ∷ []) inv.done
          ∙ (ap (λ p. map g (take s all_shards) ++ p ∷ []) (c.cell_of.ensures ∙ ap g (sym (shard_at s low)))
          ∙ sym (ap (map g) (take_more all_shards s 0 (omega (arith, length-shards))) ∙ map_push g (take s all_shards) (get_or all_shards s 0)))));
    }

pub returns : goal.returns
returns c =
    let cells = c.loop-s.cells in
    let s = c.loop-s.s in
    let inv = c.loop-s.invariant in
    ap (map (seen (regions_of c.args.loads.now))) (sym (take_all s cells (omega (arith, inv.size, c.loop-s-test.false))))
    ∙ (inv.done ∙ ap (map (first_place c.args.picks c.args.loads.now)) (take_all s all_shards (omega (arith, length-shards, c.loop-s-test.false))))
