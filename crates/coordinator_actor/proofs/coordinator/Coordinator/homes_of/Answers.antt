use Rattle.std.proofs.Common.{◌≡◌, ◌<◌, ap, sym, ◌∙◌, true, arith}
use Rattle.std.specs.Prelude.{◌&&◌, nat_lt}
use Rattle.std.proofs.lemmas.Bool.Decides.{nat_tests}
use Rattle.yard_model.specs.Coordinator.{home_of}
use Rattle.yard_model.specs.ShardSet.{has}
use Rattle.yard_model.specs.Words.{is_at}
use Rattle.coordinator_actor.proofs.HomedLaws.{some_at}
use Rattle.coordinator_actor.proofs.Same.{and_both}
use Rattle.coordinator_actor.proofs.ShareLaws.{same_filter}
use Rattle.coordinator_actor.proofs.coordinator.Coordinator.homes_of.Goals as goal

pub returns-clause-homes : goal.returns-clause-homes
returns-clause-homes c =
    let st = c.args.self.now.state in
    same_filter (has c.loop-place.homes) (λ s. is_at c.args.r.now (home_of st s)) 0 st.set.config.shards
    (λ t u v.
    let low : t < c.loop-place.place = omega (arith, v, c.shards-count.ensures.value, c.loop-place.invariant.within, c.loop-place-test.false) in
    let less : nat_lt t c.loop-place.place ≡ true = grind (arith, nat_tests) in
    c.loop-place.invariant.each t ∙ ap (λ b. b && is_at c.args.r.now (home_of st t)) less)

pub returns-clause-homed : goal.returns-clause-homed
returns-clause-homed c = λ s low e.
    let st = c.args.self.now.state in
    let r = c.args.r.now in
    some_at r (home_of st s) (and_both (nat_lt s c.loop-place.place) (is_at r (home_of st s)) (sym (c.loop-place.invariant.each s) ∙ e)).1
