use Rattle.std.proofs.Common.{false, Some, None, option_map, if◌then◌else◌, sym, ap, ◌∙◌, arith}
use Rattle.std.proofs.lemmas.List.{length-map}
use Rattle.yard_model.specs.declared.incarnation.Incarnation.{Incarnation}
use Rattle.yard_model.specs.declared.load.Load.{Load}
use Rattle.handoff_steps.specs.Places.{Handoff, home_in, regions_of}
use Rattle.handoff_steps.specs.Seen.{owner_at}
use Rattle.handoff_steps.proofs.BitLaws.{all_awaited}
use Rattle.handoff_steps.proofs.cell.Cell.first.Goals as goal

pub returns-in-Some : goal.returns-in-Some
returns-in-Some c =
    let loads = c.args.loads.now in
    let f : Incarnation → Handoff = λ r. record { owner = r; awaited = regions_of loads; done = false } in
    let all = all_awaited 0 (regions_of loads) (omega (arith, length-map loads (λ (l : Load). l.region), c.requires)) in
    sym (ap (λ b. if b then option_map f (home_in loads c.args.s) else None) (sym c.has.ensures ∙ c.if-not-has.false)
    ∙ (ap (option_map f) (sym c.in-Some.ensures)
    ∙ ap (λ l. Some (let h : Handoff = record { owner = owner_at (regions_of loads) c.in-Some.owner; awaited = l; done = false } in h)) (sym all)))
