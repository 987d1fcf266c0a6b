use Rattle.std.proofs.Common.{◌≡◌, ◌++◌, ap, ◌∙◌, subst, OnOk, List}
use Rattle.std.specs.Prelude.{map}
use Rattle.yard_model.specs.Entry.{shard_fact}
use Rattle.yard_model.specs.Script.{setting}
use Rattle.yard_model.specs.SlotReads.{journal}
use Rattle.trace_text.specs.Places.{journals_of, lent_all}
use Rattle.trace_text.proofs.RowLaws.{as_many, foldable_at, in_shard, rows_are}
use Rattle.trace_text.proofs.report.push_shard_list.Goals as goal

pub push_journals-requires-clause-places : goal.push_journals-requires-clause-places
push_journals-requires-clause-places g c =
    as_many lent_all (λ e. journal e (map (shard_fact c.args.s) c.args.list.now)) c.as_slice.result.now c.args.names.now
    (ap (map lent_all) c.as_slice.ensures.value ∙ (c.in_ok-journals.ensures c.args.s ∙ ap (λ n. journals_of n (map (shard_fact c.args.s) c.args.list.now)) c.in_ok-index.ensures))

pub push_journals-requires-clause-shard : goal.push_journals-requires-clause-shard
push_journals-requires-clause-shard g c = λ k h. in_shard (setting c.args.charter.now) c.args.s c.args.names.now k c.requires.names h

pub push_journals-requires-clause-foldable : goal.push_journals-requires-clause-foldable
push_journals-requires-clause-foldable g c = λ k h.
    foldable_at (setting c.args.charter.now) (map (shard_fact c.args.s) c.args.list.now) c.args.names.now (map lent_all c.as_slice.result.now) k
    (ap (map lent_all) c.as_slice.ensures.value ∙ (c.in_ok-journals.ensures c.args.s ∙ ap (λ n. journals_of n (map (shard_fact c.args.s) c.args.list.now)) c.in_ok-index.ensures)) c.requires.foldable h

pub returns : goal.returns
returns g c = subst (λ (l : List g.R.ReportRows.Part). OnOk c.push_journals.result (g.R.ReportRows.parts c.push_journals.new.out ≡ g.R.ReportRows.parts c.args.out.now ++ l))
    (rows_are g.R.ReportRows.entity_parts (setting c.args.charter.now) c.args.s (map (shard_fact c.args.s) c.args.list.now) c.args.names.now (map lent_all c.as_slice.result.now) c.requires.names
    (ap (map lent_all) c.as_slice.ensures.value ∙ (c.in_ok-journals.ensures c.args.s ∙ ap (λ n. journals_of n (map (shard_fact c.args.s) c.args.list.now)) c.in_ok-index.ensures))) c.push_journals.ensures
