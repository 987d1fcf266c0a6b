use Rattle.std.proofs.Common.{◌<◌, ◌+◌, ◌-◌, ◌∙◌, ℕ, ap, sym, arith}
use Rattle.std.specs.Prelude.{◌&&◌}
use Rattle.std.specs.List.{list_all}
use Rattle.yard_model.specs.declared.charter.Config.{Config}
use Rattle.yard_model.specs.SlotLists.{SlotLists, queue_list}
use Rattle.yard_model.specs.Words.{numbers}
use Rattle.shard_store.specs.Stores.{lists_at}
use Rattle.log_resume.specs.Left.{sends_confirmed}
use Rattle.log_resume.proofs.DoneLaws.{numbers_next}
use Rattle.log_resume.proofs.done.is_confirmed_all.Goals as goal

pub returns-then-not-confirmed_behind : goal.returns-then-not-confirmed_behind
returns-then-not-confirmed_behind c =
    let lists : SlotLists = lists_at c.args.charter.now.config c.args.places.now in
    let n : ℕ = c.args.charter.now.config.producers in
    let inside : c.loop-k.k < n = omega (arith, c.loop-k-test.true, ap (λ (x : Config). x.producers) c.config.ensures.value) in
    sym (ap (λ b. b && list_all (λ p. sends_confirmed c.args.charter.now p (queue_list lists p)) (numbers (c.loop-k.k + 1 + 1) (n - (c.loop-k.k + 1)))) (sym c.confirmed_behind.ensures ∙ c.if-not-confirmed_behind.true))
    ∙ (sym (numbers_next (λ p. sends_confirmed c.args.charter.now p (queue_list lists p)) (c.loop-k.k + 1) (n - c.loop-k.k) (n - (c.loop-k.k + 1)) (omega (arith, inside))) ∙ c.loop-k.invariant)

pub loop-k-preserved : goal.loop-k-preserved
loop-k-preserved c =
    let lists : SlotLists = lists_at c.args.charter.now.config c.args.places.now in
    let n : ℕ = c.args.charter.now.config.producers in
    let inside : c.loop-k.k < n = omega (arith, c.loop-k-test.true, ap (λ (x : Config). x.producers) c.config.ensures.value) in
    sym (ap (λ b. b && list_all (λ p. sends_confirmed c.args.charter.now p (queue_list lists p)) (numbers (c.loop-k.k + 1 + 1) (n - (c.loop-k.k + 1)))) (sym c.confirmed_behind.ensures ∙ c.if-not-confirmed_behind.false))
    ∙ (sym (numbers_next (λ p. sends_confirmed c.args.charter.now p (queue_list lists p)) (c.loop-k.k + 1) (n - c.loop-k.k) (n - (c.loop-k.k + 1)) (omega (arith, inside))) ∙ c.loop-k.invariant)
