use Rattle.std.proofs.Common.{◌≡◌, ◌<◌, [], length, map, replicate, true, refl, sym, ap, ◌∙◌, arith, Vec, Global}
use Rattle.std.specs.Prelude.{slice_set, slice_index_or}
use Rattle.std.specs.List.{list_any}
use Rattle.std.proofs.lemmas.List.{length-map, length-replicate}
use Rattle.yard_model.specs.declared.event.Command.{Command}
use Rattle.yard_model.specs.Script.{is_name}
use Rattle.durable_queue.specs.Kept.{place_of}
use Rattle.durable_queue.proofs.MovedLaws.{moved_none, moved_next, moved_all}
use Rattle.durable_queue.proofs.moved.move_all.Goals as goal

pub loop-at-init : goal.loop-at-init
loop-at-init c =
    let seen = λ (v : Vec Command Global). v.items in
    let queued : c.in_ok-fresh.fresh.queued.items ≡ replicate (length c.args.names.now) 0 = c.in_ok-fresh.ensures.queued ∙ ap (λ n. replicate n 0) c.len-count.ensures in
    let confirmed : c.in_ok-fresh.fresh.confirmed.items ≡ replicate (length c.args.names.now) 0 = c.in_ok-fresh.ensures.confirmed ∙ ap (λ n. replicate n 0) c.len-count.ensures in
    let size : length c.as_slice.result.now ≡ length c.args.names.now = ap length (c.as_slice.ensures.value ∙ queued) ∙ length-replicate (length c.args.names.now) 0 in record {
      plans = moved_none [] c.args.old.now c.args.names.now (map seen c.args.plans.now.items) (map seen c.in_ok-made.made.items) (c.in_ok-made.ensures ∙ ap (λ n. replicate n []) size);
      queued = moved_none 0 c.args.old.now c.args.names.now c.args.counts.now.queued.items c.in_ok-fresh.fresh.queued.items queued;
      confirmed = moved_none 0 c.args.old.now c.args.names.now c.args.counts.now.confirmed.items c.in_ok-fresh.fresh.confirmed.items confirmed;
      left = λ k low. refl;
      long = c.requires.plans;
    }

pub nth-name-requires : goal.nth-name-requires
nth-name-requires c = omega (arith, c.loop-at-test.true, c.len-at-end.ensures)

pub place_near-place-requires : goal.place_near-place-requires
place_near-place-requires c = c.requires.all c.nth-name.result.now c.nth-name.ensures.among

pub taken_at-plan-requires : goal.taken_at-plan-requires
taken_at-plan-requires c = omega (arith, c.loop-at-test.true, c.len-at-end.ensures, c.loop-at.invariant.long)

pub put_plan-requires : goal.put_plan-requires
put_plan-requires c =
    let size : length c.loop-at.made.items ≡ length c.args.names.now = sym (length-map c.loop-at.made.items (λ (v : Vec Command Global). v.items)) ∙ c.loop-at.invariant.plans.sized in
    omega (arith, size, c.place_near-place.ensures.within)

pub put_counts-requires-clause-place : goal.put_counts-requires-clause-place
put_counts-requires-clause-place c =
    let within = c.place_near-place.ensures.within in
    (omega (arith, within, c.loop-at.invariant.queued.sized), omega (arith, within, c.loop-at.invariant.confirmed.sized))

pub put_counts-requires-clause-at : goal.put_counts-requires-clause-at
put_counts-requires-clause-at c =
    let inside : c.loop-at.at < length c.args.old.now = omega (arith, c.loop-at-test.true, c.len-at-end.ensures) in
    (omega (arith, inside, c.requires.queued), omega (arith, inside, c.requires.confirmed))

pub loop-at-preserved : goal.loop-at-preserved
loop-at-preserved c =
    let seen = λ (v : Vec Command Global). v.items in
    let old = c.args.old.now in
    let names = c.args.names.now in
    let at = c.loop-at.at in
    let x = c.nth-name.result.now in
    let i = c.place_near-place.result in
    let first = map seen c.args.plans.now.items in
    let among : list_any (is_name x) old ≡ true = c.nth-name.ensures.among in
    let named : list_any (is_name x) names ≡ true = c.requires.all x among in
    let place : i ≡ place_of names x = c.place_near-place.ensures.place in
    let had : seen c.taken_at-plan.result ≡ slice_index_or first at [] = c.taken_at-plan.ensures.had ∙ c.loop-at.invariant.left at (omega arith) in
    let is : map seen c.put_plan.new.plans.items ≡ slice_set (map seen c.loop-at.made.items) (place_of names x) (slice_index_or first at []) =
    c.put_plan.ensures ∙ (ap (λ k. slice_set (map seen c.loop-at.made.items) k (seen c.taken_at-plan.result)) place ∙ ap (slice_set (map seen c.loop-at.made.items) (place_of names x)) had) in record {
      plans = moved_next [] old names first (map seen c.loop-at.made.items) (map seen c.put_plan.new.plans.items) at x c.loop-at.invariant.plans among named c.nth-name.ensures.place is;
      queued = moved_next 0 old names c.args.counts.now.queued.items c.loop-at.fresh.queued.items c.put_counts.new.made.queued.items at x c.loop-at.invariant.queued among named c.nth-name.ensures.place
          (c.put_counts.ensures.queued ∙ ap (λ k. slice_set c.loop-at.fresh.queued.items k (slice_index_or c.args.counts.now.queued.items at 0)) place);
      confirmed = moved_next 0 old names c.args.counts.now.confirmed.items c.loop-at.fresh.confirmed.items c.put_counts.new.made.confirmed.items at x c.loop-at.invariant.confirmed among named c.nth-name.ensures.place
          (c.put_counts.ensures.confirmed ∙ ap (λ k. slice_set c.loop-at.fresh.confirmed.items k (slice_index_or c.args.counts.now.confirmed.items at 0)) place);
      left = λ k low. c.taken_at-plan.ensures.others k (λ same. omega (arith, low, same)) ∙ c.loop-at.invariant.left k (omega (arith, low));
      long = c.taken_at-plan.ensures.long ∙ c.loop-at.invariant.long;
    }

pub returns-clause-sized : goal.returns-clause-sized
returns-clause-sized c = (sym (length-map c.loop-at.made.items (λ (v : Vec Command Global). v.items)) ∙ c.loop-at.invariant.plans.sized, c.loop-at.invariant.queued.sized, c.loop-at.invariant.confirmed.sized)

pub returns-clause-plans : goal.returns-clause-plans
returns-clause-plans c =
    let seen = λ (v : Vec Command Global). v.items in
    moved_all [] c.args.old.now c.args.names.now (map seen c.args.plans.now.items) (map seen c.loop-at.made.items) c.loop-at.at c.loop-at.invariant.plans (omega (arith, c.loop-at-test.false, c.len-at-end.ensures))
    (length-map c.args.plans.now.items seen ∙ c.requires.plans)

pub returns-clause-queued : goal.returns-clause-queued
returns-clause-queued c = moved_all 0 c.args.old.now c.args.names.now c.args.counts.now.queued.items c.loop-at.fresh.queued.items c.loop-at.at c.loop-at.invariant.queued (omega (arith, c.loop-at-test.false, c.len-at-end.ensures)) c.requires.queued

pub returns-clause-confirmed : goal.returns-clause-confirmed
returns-clause-confirmed c = moved_all 0 c.args.old.now c.args.names.now c.args.counts.now.confirmed.items c.loop-at.fresh.confirmed.items c.loop-at.at c.loop-at.invariant.confirmed (omega (arith, c.loop-at-test.false, c.len-at-end.ensures)) c.requires.confirmed
