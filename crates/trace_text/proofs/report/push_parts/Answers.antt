use Rattle.std.proofs.Common.{◌≡◌, ◌++◌, ap, sym, length, arith}
use Rattle.yard_model.specs.Script.{setting}
use Rattle.trace_text.specs.Parts.{report_parts}
use Rattle.trace_text.proofs.GrownLaws.{begins_more, begins_self, begins_then}
use Rattle.trace_text.proofs.PartLaws.{part_next, parts_done}
use Rattle.trace_text.proofs.report.push_parts.Goals as goal

pub loop-k-init : goal.loop-k-init
loop-k-init g c = record {
  left = ap (λ l. c.args.text.now.items ++ l) (sym (c.parts_law.ensures (setting c.args.charter.now) (g.T.Lists.lists c.args.stores.now)));
  within = omega arith;
  begins = begins_self c.args.text.now.items;
}

pub loop-k-preserved : goal.loop-k-preserved
loop-k-preserved g c =
    let count : c.count_of_parts-k-end.result ≡ length (report_parts (setting c.args.charter.now) (g.T.Lists.lists c.args.stores.now)) = c.count_of_parts-k-end.ensures (g.T.Lists.lists c.args.stores.now) in
    record {
      left = part_next (report_parts (setting c.args.charter.now) (g.T.Lists.lists c.args.stores.now)) c.loop-k.k _ _ _ (omega arith) c.in_ok-push_part.ensures c.loop-k.invariant.left;
      within = omega arith;
      begins = begins_then c.args.text.now.items c.loop-k.text.items c.push_part.new.text.items c.loop-k.invariant.begins (begins_more c.loop-k.text.items c.push_part.new.text.items _ c.in_ok-push_part.ensures);
    }

pub returns : goal.returns
returns g c =
    let count : c.count_of_parts-k-end.result ≡ length (report_parts (setting c.args.charter.now) (g.T.Lists.lists c.args.stores.now)) = c.count_of_parts-k-end.ensures (g.T.Lists.lists c.args.stores.now) in
    parts_done (report_parts (setting c.args.charter.now) (g.T.Lists.lists c.args.stores.now)) c.loop-k.k _ _ (omega arith) c.loop-k.invariant.left
