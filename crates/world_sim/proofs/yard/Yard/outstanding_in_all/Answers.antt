use Rattle.std.proofs.Common.{◌≡◌, ◌-◌, ◌*◌, ◌≤◌, ap, ◌∙◌, arith}
use Rattle.std.specs.Prelude.{slice_index_or}
use Rattle.yard_model.specs.declared.charter.Config.{Config}
use Rattle.world_sim.specs.Yard.{Yard}
use Rattle.world_sim.proofs.LeftLaws.{counted_first, counted_on, counted_all, few_slots}
use Rattle.world_sim.proofs.StoresLaws.{node_in}
use Rattle.world_sim.proofs.yard.Yard.outstanding_in_all.Goals as goal

pub loop-i-init : goal.loop-i-init
loop-i-init g c = record { counted = counted_first c.args.self.now }

pub outstanding-total-requires-clause-producer : goal.outstanding-total-requires-clause-producer
outstanding-total-requires-clause-producer g c =
    let n = c.args.self.now.script.config.producers in
    let count : c.config.result.now.producers ≡ n = ap (λ (x : Config). x.producers) c.config.ensures.value ∙ ap (λ (v : Yard). v.script.config.producers) c.self.view_is in
    node_in n c.loop-i.i c.in-Some.p c.in-Some.ensures.value (omega (arith, count, c.loop-i-test.true))

pub overflow_add-total : goal.overflow_add-total
overflow_add-total g c =
    let n = c.args.self.now.script.config.producers in
    let count : c.config.result.now.producers ≡ n = ap (λ (x : Config). x.producers) c.config.ensures.value ∙ ap (λ (v : Yard). v.script.config.producers) c.self.view_is in
    let few : n ≤ 32 = (few_slots c.args.self.now.script c.requires.world.1.stands_is.sound.script_is).1 in
    let total : c.loop-i.total ≤ 3000000 * c.loop-i.i = c.loop-i.invariant.counted.few in
    let one : c.outstanding-total.result ≤ slice_index_or c.args.self.now.ordered (c.in-Some.p - 1) 0 = c.outstanding-total.ensures.few in
    let most : slice_index_or c.args.self.now.ordered (c.in-Some.p - 1) 0 ≤ 3000000 = c.requires.ordered (c.in-Some.p - 1) in
    omega (arith, count, few, total, one, most, c.loop-i-test.true)

pub loop-i-preserved : goal.loop-i-preserved
loop-i-preserved g c =
    let n = c.args.self.now.script.config.producers in
    let count : c.config.result.now.producers ≡ n = ap (λ (x : Config). x.producers) c.config.ensures.value ∙ ap (λ (v : Yard). v.script.config.producers) c.self.view_is in
    let one : c.outstanding-total.result ≤ slice_index_or c.args.self.now.ordered (c.in-Some.p - 1) 0 = c.outstanding-total.ensures.few in
    let most : slice_index_or c.args.self.now.ordered (c.in-Some.p - 1) 0 ≤ 3000000 = c.requires.ordered (c.in-Some.p - 1) in
    record { counted = counted_on c.args.self.now c.loop-i.i c.in-Some.p c.loop-i.total c.outstanding-total.result c.in-Some.ensures.value (omega (arith, count, c.loop-i-test.true)) (omega (arith, one, most)) c.outstanding-total.ensures.sent c.loop-i.invariant.counted }

pub returns-clause-sent : goal.returns-clause-sent
returns-clause-sent g c = λ w s.
    let n = c.args.self.now.script.config.producers in
    let count : c.config.result.now.producers ≡ n = ap (λ (x : Config). x.producers) c.config.ensures.value ∙ ap (λ (v : Yard). v.script.config.producers) c.self.view_is in
    counted_all c.args.self.now c.loop-i.i c.loop-i.total w (omega (arith, count, c.loop-i-test.false)) s c.loop-i.invariant.counted

pub returns-clause-few : goal.returns-clause-few
returns-clause-few g c =
    let few : c.args.self.now.script.config.producers ≤ 32 = (few_slots c.args.self.now.script c.requires.world.1.stands_is.sound.script_is).1 in
    let within : c.loop-i.i ≤ c.args.self.now.script.config.producers = c.loop-i.invariant.counted.within in
    let total : c.loop-i.total ≤ 3000000 * c.loop-i.i = c.loop-i.invariant.counted.few in
    omega (arith, few, within, total)
