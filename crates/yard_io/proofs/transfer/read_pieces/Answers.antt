use Rattle.std.proofs.Common.{◌≡◌, ◌+◌, ◌-◌, ◌≤◌, ap, ◌∙◌, arith, vec_len}
use Rattle.std.proofs.lemmas.Result.{err_from_is_err_and}
use Rattle.yard_io.specs.Told.{without_first}
use Rattle.yard_io.proofs.ToldLemmas.{lost_more, read_more, read_none, all_read, all_gone, without_more, without_none}
use Rattle.yard_io.proofs.transfer.read_pieces.Goals as goal

pub returns-in_err-count-clause-lost : goal.returns-in_err-count-clause-lost
returns-in_err-count-clause-lost g c =
    let made = err_from_is_err_and c.from_residual.result c.from_residual.ensures.1 in
    rw made.1 (lost_more (g.S.Source.left c.args.source.now) (g.S.Source.left c.loop.source) (g.S.Source.left c.read_piece.new.source) (vec_len c.loop.bytes) (c.args.limit - c.len-in-loop.result) c.args.limit (omega arith) c.loop.invariant.rest c.in_err-count.ensures.lost)

pub returns-then-count-eq0-clause-bytes : goal.returns-then-count-eq0-clause-bytes
returns-then-count-eq0-clause-bytes g c =
    let i = vec_len c.loop.bytes in
    all_read (g.S.Source.left c.args.source.now) (g.S.Source.left c.loop.source) c.read_piece.new.bytes.items i c.args.limit c.loop.invariant.within c.loop.invariant.rest
    (read_none (g.S.Source.left c.args.source.now) (g.S.Source.left c.loop.source) c.loop.bytes.items c.read_piece.new.bytes.items i c.in_ok-count.count c.if-count-eq0.true c.loop.invariant.rest c.loop.invariant.bytes c.in_ok-count.ensures.bytes)
    (c.in_ok-count.ensures.end c.if-count-eq0.true (omega arith))

pub returns-then-count-eq0-clause-rest : goal.returns-then-count-eq0-clause-rest
returns-then-count-eq0-clause-rest g c =
    c.in_ok-count.ensures.rest ∙ (without_none (g.S.Source.left c.loop.source) c.in_ok-count.count c.if-count-eq0.true ∙
    all_gone (g.S.Source.left c.args.source.now) (g.S.Source.left c.loop.source) (vec_len c.loop.bytes) c.args.limit c.loop.invariant.within c.loop.invariant.rest
    (c.in_ok-count.ensures.end c.if-count-eq0.true (omega arith)))

pub loop-preserved : goal.loop-preserved
loop-preserved g c =
    let i = vec_len c.loop.bytes in
    let n = c.in_ok-count.count in
    let longer : vec_len c.read_piece.new.bytes ≡ vec_len c.loop.bytes + c.in_ok-count.count = c.in_ok-count.ensures.count in
    let room : c.in_ok-count.count ≤ c.args.limit - c.len-in-loop.result = c.in_ok-count.ensures.within in
    record {
      bytes = rw c.in_ok-count.ensures.count (read_more (g.S.Source.left c.args.source.now) (g.S.Source.left c.loop.source) c.loop.bytes.items c.read_piece.new.bytes.items i n c.loop.invariant.rest c.loop.invariant.bytes c.in_ok-count.ensures.bytes);
      rest = rw c.in_ok-count.ensures.count (c.in_ok-count.ensures.rest ∙ (ap (without_first n) c.loop.invariant.rest ∙ without_more (g.S.Source.left c.args.source.now) i n));
      within = omega arith;
      far = omega arith;
      faults = omega arith;
    }
