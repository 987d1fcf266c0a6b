use Rattle.std.proofs.Common.{◌∙◌, ◌-◌, List, [], ap, arith, drop, length, refl, sym, take}
use Rattle.std.specs.List.{list_all}
use Rattle.yard_model.specs.declared.fact.Fact.{Fact}
use Rattle.fact_lines.specs.Entry.{is_entry}
use Rattle.disk_log.specs.Kept.{cut}
use Rattle.disk_log.proofs.KeptLaws.{length-cut, part_is, part_rises, part_within}
use Rattle.disk_log.proofs.SpellLaws.{entries_of}
use Rattle.disk_log.proofs.batches.Batches.get.Goals as goal

pub start_at-start-requires : goal.start_at-start-requires
start_at-start-requires c = omega (arith, c.requires.there, c.deref.ensures.len, ap length c.deref.ensures.value, ap length c.self.view_is, length-cut 0 c.self.inside.ends.items c.self.inside.facts)

pub index-requires : goal.index-requires
index-requires c = omega (arith, c.requires.first, c.requires.there, ap length c.self.view_is, length-cut 0 c.self.inside.ends.items c.self.inside.facts)

pub part-requires-clause-rise : goal.part-requires-clause-rise
part-requires-clause-rise c =
    part_rises c.self.inside.ends.items c.deref.result.now c.self.inside.facts (c.args.batch - 1) c.start_at-start.result c.index.result.now
    (omega (arith, c.requires.first, c.requires.there, ap length c.self.view_is, length-cut 0 c.self.inside.ends.items c.self.inside.facts))
    c.deref.ensures.value c.start_at-start.ensures c.index.ensures c.self.invariant.rise

pub part-requires-clause-within : goal.part-requires-clause-within
part-requires-clause-within c =
    let within = part_within c.self.inside.ends.items c.deref.result.now c.self.inside.facts (c.args.batch - 1) c.start_at-start.result c.index.result.now
    (omega (arith, c.requires.first, c.requires.there, ap length c.self.view_is, length-cut 0 c.self.inside.ends.items c.self.inside.facts))
    c.deref.ensures.value c.start_at-start.ensures c.index.ensures c.self.invariant.rise in
    omega (arith, within, ap length c.as_slice.ensures)

pub returns-clause-batch : goal.returns-clause-batch
returns-clause-batch c =
    c.part.ensures
    ∙ (ap (λ (l : List Fact). take (c.index.result.now - c.start_at-start.result) (drop c.start_at-start.result l)) c.as_slice.ensures
    ∙ part_is c.self.inside.ends.items c.deref.result.now c.self.inside.facts (c.args.batch - 1) c.start_at-start.result c.index.result.now
    (omega (arith, c.requires.first, c.requires.there, ap length c.self.view_is, length-cut 0 c.self.inside.ends.items c.self.inside.facts))
    c.deref.ensures.value c.start_at-start.ensures c.index.ensures c.args.self.now (sym c.self.view_is))

pub returns-clause-entries : goal.returns-clause-entries
returns-clause-entries c =
    ap (list_all is_entry) (c.part.ensures
    ∙ (ap (λ (l : List Fact). take (c.index.result.now - c.start_at-start.result) (drop c.start_at-start.result l)) c.as_slice.ensures
    ∙ part_is c.self.inside.ends.items c.deref.result.now c.self.inside.facts (c.args.batch - 1) c.start_at-start.result c.index.result.now
    (omega (arith, c.requires.first, c.requires.there, ap length c.self.view_is, length-cut 0 c.self.inside.ends.items c.self.inside.facts))
    c.deref.ensures.value c.start_at-start.ensures c.index.ensures (cut 0 c.self.inside.ends.items c.self.inside.facts) refl))
    ∙ entries_of (cut 0 c.self.inside.ends.items c.self.inside.facts) (c.args.batch - 1) []
    (omega (arith, c.requires.first, c.requires.there, ap length c.self.view_is)) c.self.invariant.batches
