use Rattle.std.proofs.Common.{◌≡◌, ◌<◌, ◌≤◌, ℕ, List, [], length, sym, ◌∙◌, refl, arith}
use Rattle.std.specs.Prelude.{Bool, nat_lt}
use Rattle.yard_model.specs.declared.fact.Fact.{Fact}
use Rattle.yard_model.specs.Script.{names_in}
use Rattle.yard_model.specs.SlotReads.{confirmed, queued}
use Rattle.world_sim.proofs.LeftLaws.{any_here, any_next, any_none}
use Rattle.world_sim.proofs.left.is_unconfirmed.Goals as goal

abbrev waits : List Fact → List ℕ → Bool
waits list e = nat_lt (confirmed e list) (queued e list)

pub loop-place-init : goal.loop-place-init
loop-place-init c = refl

pub returns-then-is_unconfirmed_at : goal.returns-then-is_unconfirmed_at
returns-then-is_unconfirmed_at c =
    let names = names_in c.args.store.now.script.orders in
    let all : c.args.names ≡ length names = c.requires in
    let within : c.loop-place.place < length names = omega (arith, all, c.loop-place-test.true) in
    any_here (waits c.args.store.now.entries) names c.loop-place.place [] within (sym c.is_unconfirmed_at.ensures ∙ c.if-is_unconfirmed_at.true) c.loop-place.invariant

pub loop-place-preserved : goal.loop-place-preserved
loop-place-preserved c =
    let names = names_in c.args.store.now.script.orders in
    let all : c.args.names ≡ length names = c.requires in
    let within : c.loop-place.place < length names = omega (arith, all, c.loop-place-test.true) in
    any_next (waits c.args.store.now.entries) names c.loop-place.place [] within (sym c.is_unconfirmed_at.ensures ∙ c.if-is_unconfirmed_at.false) c.loop-place.invariant

pub returns : goal.returns
returns c =
    let names = names_in c.args.store.now.script.orders in
    let all : c.args.names ≡ length names = c.requires in
    any_none (waits c.args.store.now.entries) names c.loop-place.place (omega (arith, all, c.loop-place-test.false)) c.loop-place.invariant
