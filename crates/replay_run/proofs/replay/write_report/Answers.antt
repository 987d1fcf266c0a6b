use Rattle.std.proofs.Common.{◌≡◌, ◌<◌, ◌≤◌, ◌+◌, ◌∙◌, List, length, drop, take, sym, arith}
use Rattle.std.proofs.lemmas.Result.{err_from_is_err_and}
use Rattle.yard_model.specs.Script.{setting}
use Rattle.yard_model.specs.Text.{Bytes}
use Rattle.trace_text.specs.Parts.{report_parts}
use Rattle.replay_run.proofs.PartLaws.{together, with_others, one_more, all_there}
use Rattle.run_parts.proofs.WritingLaws.{took_both, took_same, front_both, front_more, front_same}
use Rattle.replay_run.proofs.replay.write_report.Goals as goal

pub returns-in_err-write_report_part : goal.returns-in_err-write_report_part
returns-in_err-write_report_part g c =
    let lists = g.T.Lists.lists c.args.stores.now in
    let parts : List Bytes = report_parts (setting c.args.charter.now) lists in
    let count : c.count_of_parts-k-end.result ≡ length parts = c.count_of_parts-k-end.ensures lists in
    let lt : c.loop-k.k < length parts = omega arith in
    let p = err_from_is_err_and c.from_residual-in_err-write_report_part.result c.from_residual-in_err-write_report_part.ensures.1 in
    rw (p.1, p.2) (front_same _ _ _ _ _ (with_others parts (c.loop-k.k + 1) ∙ sym (c.parts_law.ensures (setting c.args.charter.now) lists))
    (front_more (together (take (c.loop-k.k + 1) parts)) (together (drop (c.loop-k.k + 1) parts)) _ _ _
    (front_same _ _ _ _ _ (one_more parts c.loop-k.k lt) (front_both _ _ _ _ _ _ c.loop-k.invariant.took c.in_err-write_report_part.ensures))))

pub loop-k-preserved : goal.loop-k-preserved
loop-k-preserved g c =
    let lists = g.T.Lists.lists c.args.stores.now in
    let parts : List Bytes = report_parts (setting c.args.charter.now) lists in
    let count : c.count_of_parts-k-end.result ≡ length parts = c.count_of_parts-k-end.ensures lists in
    let lt : c.loop-k.k < length parts = omega arith in
    record {
      within = omega arith;
      took = took_same _ _ _ _ (one_more parts c.loop-k.k lt) (took_both _ _ _ _ _ c.loop-k.invariant.took c.in_ok-write_report_part.ensures);
    }

pub returns : goal.returns
returns g c =
    let lists = g.T.Lists.lists c.args.stores.now in
    let parts : List Bytes = report_parts (setting c.args.charter.now) lists in
    let count : c.count_of_parts-k-end.result ≡ length parts = c.count_of_parts-k-end.ensures lists in
    let all : length parts ≤ c.loop-k.k = omega arith in
    took_same _ _ _ _ (all_there parts c.loop-k.k all ∙ sym (c.parts_law.ensures (setting c.args.charter.now) lists)) c.loop-k.invariant.took
