use Rattle.std.proofs.Common.{◌≡◌, ◌++◌, ap, ◌∙◌, sym, subst, OnOk, List}
use Rattle.std.specs.Prelude.{map, length}
use Rattle.std.proofs.lemmas.List.{length-map}
use Rattle.yard_model.specs.Entry.{queue_fact}
use Rattle.trace_text.specs.Places.{tally_of, tallies_of}
use Rattle.trace_text.proofs.RowLaws.{tallies_are}
use Rattle.trace_text.proofs.queues.push_queue_list.Goals as goal

pub push_tallies-requires : goal.push_tallies-requires
push_tallies-requires g c = ap length (c.as_slice-2.ensures.value ∙ c.in_ok-tallies.ensures c.args.p) ∙ (length-map c.args.names.now (tally_of (map (queue_fact c.args.p) c.args.list.now)) ∙ ap length (sym c.as_slice.ensures.names))

pub returns : goal.returns
returns g c = subst (λ (l : List g.R.ReportRows.Part). OnOk c.push_tallies.result (g.R.ReportRows.parts c.push_tallies.new.out ≡ g.R.ReportRows.parts c.args.out.now ++ l))
    (tallies_are g.R.ReportRows.pair_parts c.args.p (map (queue_fact c.args.p) c.args.list.now) c.args.names.now c.as_slice.result.now c.as_slice-2.result.now c.as_slice.ensures.names
    (c.as_slice-2.ensures.value ∙ (c.in_ok-tallies.ensures c.args.p ∙ ap (λ n. tallies_of n (map (queue_fact c.args.p) c.args.list.now)) (sym c.as_slice.ensures.names)))) c.push_tallies.ensures
