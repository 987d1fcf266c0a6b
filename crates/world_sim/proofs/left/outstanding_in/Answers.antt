use Rattle.std.proofs.Common.{◌≡◌, ◌<◌, ◌-◌, ◌≤◌, [], length, map, ap, ◌∙◌, arith}
use Rattle.std.specs.Prelude.{sum}
use Rattle.std.proofs.lemmas.List.{take_all}
use Rattle.yard_model.specs.Script.{names_in}
use Rattle.yard_model.specs.SlotReads.{confirmed}
use Rattle.world_sim.proofs.LeftLaws.{less_by}
use Rattle.world_sim.proofs.left.outstanding_in.Goals as goal

pub loop-place-preserved : goal.loop-place-preserved
loop-place-preserved c =
    let names = names_in c.args.store.now.script.orders in
    let all : c.args.names ≡ length names = c.requires in
    let within : c.loop-place.place < length names = omega (arith, all, c.loop-place-test.true) in
    let less = c.saturating_sub-outstanding.ensures in
    let few : c.loop-place.outstanding ≤ c.args.ordered = c.loop-place.invariant.1 in (
      less ∙ (ap (λ k. c.loop-place.outstanding - k) c.confirmed_at.ensures ∙ less_by (λ e. confirmed e c.args.store.now.entries) names c.loop-place.place c.loop-place.outstanding c.args.ordered [] within c.loop-place.invariant.0),
      omega (arith, less, few),
    )

pub returns-clause-result : goal.returns-clause-result
returns-clause-result c =
    let names = names_in c.args.store.now.script.orders in
    let all : c.args.names ≡ length names = c.requires in
    c.loop-place.invariant.0 ∙ ap (λ l. c.args.ordered - sum (map (λ e. confirmed e c.args.store.now.entries) l)) (take_all c.loop-place.place names (omega (arith, all, c.loop-place-test.false)))
