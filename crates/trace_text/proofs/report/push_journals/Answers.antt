use Rattle.std.proofs.Common.{◌≡◌, arith, [], ap, ◌∙◌, sym, subst, length, ◌<◌}
use Rattle.std.specs.Prelude.{List, ℕ, IsTrue, map, slice_index_or}
use Rattle.std.proofs.lemmas.List.{get_or_default, get_or-map}
use Rattle.yard_model.specs.declared.packet.Record.{Record}
use Rattle.yard_model.specs.Behaviour.{empty_state}
use Rattle.yard_model.specs.Script.{setting}
use Rattle.yard_model.specs.Setting.{shard_of}
use Rattle.trace_text.specs.Foldable.{are_foldable}
use Rattle.trace_text.specs.Places.{lent, lent_all}
use Rattle.trace_text.proofs.RowLaws.{row_of_next}
use Rattle.trace_text.proofs.report.push_journals.Goals as goal

pub push_entity-requires-clause-shard : goal.push_entity-requires-clause-shard
push_entity-requires-clause-shard g c =
    let h : c.loop-i.i < length c.args.names.now = omega arith in
    subst (λ (n : List ℕ). shard_of (setting c.args.charter.now) n ≡ c.args.s) (sym (c.index-names-i.is ∙ get_or_default c.args.names.now c.loop-i.i c.index-names-i.result [] h)) (c.requires.shard c.loop-i.i h)

pub push_entity-requires-clause-foldable : goal.push_entity-requires-clause-foldable
push_entity-requires-clause-foldable g c =
    let h : c.loop-i.i < length c.args.names.now = omega arith in
    let k : c.loop-i.i < length c.args.journals.now = omega arith in
    let it : slice_index_or (map lent_all c.args.journals.now) c.loop-i.i [] ≡ lent c.as_slice.result.now =
    get_or-map lent_all c.args.journals.now c.loop-i.i c.index-journals-i.result [] k ∙ (ap lent_all (sym c.index-journals-i.is) ∙ sym (ap lent c.as_slice.ensures.value)) in
    subst (λ (r : List Record). IsTrue (are_foldable (empty_state c.args.charter.now.config.kind) r)) it (c.requires.foldable c.loop-i.i h)

pub loop-i-preserved : goal.loop-i-preserved
loop-i-preserved g c =
    row_of_next (g.R.ReportRows.entity_parts (setting c.args.charter.now)) lent_all c.args.names.now c.args.journals.now c.loop-i.i c.index-names-i.result c.index-journals-i.result (lent c.as_slice.result.now) []
    _ _ _ (omega arith) (omega arith) c.index-names-i.is c.index-journals-i.is (ap lent c.as_slice.ensures.value) c.in_ok-push_entity.ensures c.loop-i.invariant
