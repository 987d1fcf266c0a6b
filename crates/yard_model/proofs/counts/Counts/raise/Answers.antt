use Rattle.std.proofs.Common.{ap, ◌∙◌, subst, sym, ◌<◌, length}
use Rattle.yard_model.specs.declared.counts.Row.{Row}
use Rattle.yard_model.specs.Counts.{Counted, no_row}
use Rattle.yard_model.proofs.CountsLaws.{put_stands, counted_by}
use Rattle.yard_model.proofs.SendsLaws.{get_or_any}
use Rattle.yard_model.proofs.counts.Counts.raise.Goals as goal

pub invariant_of-self : goal.invariant_of-self
invariant_of-self c =
    let here : c.args.place < length c.self.inside.rows.items = subst (λ (v : Counted). c.args.place < length v.rows) (sym c.self.view_is) c.requires.place in
    put_stands (counted_by c.self.inside.places c.self.inside.rows.items) c.args.place (record { name = c.index_mut.result.now.name; counts = c.one_more.new.counts }) c.self.invariant here
    (ap (λ (r : Row). r.name) (c.index_mut.ensures.value ∙ get_or_any c.self.inside.rows.items c.args.place c.index_mut.result.now no_row here))
