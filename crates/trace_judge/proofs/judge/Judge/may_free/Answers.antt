use Rattle.std.proofs.Common.{◌≡◌, sym, subst, ap, ◌∙◌}
use Rattle.std.specs.List.{list_all}
use Rattle.std.specs.List.Sorted.{IsStrictlySortedBy}
use Rattle.std.specs.Ordering.{nat_cmp}
use Rattle.std.specs.Cmp.Lexicographic.{slice_cmp}
use Rattle.yard_model.specs.declared.fact.Fact.TheVariants as fact
use Rattle.yard_model.specs.declared.incarnation.Slot.{Slot}
use Rattle.yard_model.specs.Guards.{cross_guard}
use Rattle.yard_model.specs.Script.{Script, names_in}
use Rattle.trace_judge.specs.Judging.{Judged, is_idle_cell}
use Rattle.trace_judge.proofs.CellLaws.{idle_is}
use Rattle.trace_judge.proofs.judge.Judge.may_free.Goals as goal

pub returns-in-Shard : goal.returns-in-Shard
returns-in-Shard c =
    let i = c.self.inside in
    let d : Script = i.slots.script in
    let sorted = subst (IsStrictlySortedBy (slice_cmp nat_cmp)) (c.names.ensures.value ∙ ap (λ (x : Script). names_in x.orders) c.charter.ensures) c.names.ensures.sorted in
    subst (λ (v : Judged). c.are_idle.result ≡ cross_guard v.script v.trace (fact.Freed c.args.slot.now c.args.epoch c.args.cause)) c.self.view_is
    (c.are_idle.ensures
    ∙ (ap (list_all (is_idle_cell c.in-Shard.s)) c.as_slice.ensures.value
    ∙ (idle_is d i.story.told i.cells.items c.in-Shard.s sorted c.self.invariant.cells_are
    ∙ ap (λ (t : Slot). cross_guard d i.story.told (fact.Freed t c.args.epoch c.args.cause)) (sym c.in-Shard.is))))
