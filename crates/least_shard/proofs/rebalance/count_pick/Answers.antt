use Rattle.std.proofs.Common.{◌≡◌, ℕ, ◌+◌, ◌<◌, List, [], ◌∷◌, ◌++◌, length, take, drop, map, get_or, sym, ap, ◌∙◌, arith}
use Rattle.std.proofs.lemmas.List.{length-map, length-set, get_or-drop, get_or-map, take_more, take_more_set, map_push, drop-set-lt, drop-drop}
use Rattle.yard_model.specs.Coordinator.{with_pick}
use Rattle.least_shard.specs.Fair.{no_share}
use Rattle.least_shard.specs.Seen.{seen, seen_all}
use Rattle.least_shard.specs.declared.tally.Tally.{Tally}
use Rattle.least_shard.proofs.rebalance.count_pick.Goals as goal

same_here : (ts us : List Tally) (p : ℕ) (x : Tally) → drop p ts ≡ drop p us → get_or ts p x ≡ get_or us p x
same_here ts us p x h =
    let next : p + 0 ≡ p = omega arith in
    sym (get_or-drop p ts 0 x ∙ ap (λ n. get_or ts n x) next) ∙ (ap (λ (l : List Tally). get_or l 0 x) h ∙ (get_or-drop p us 0 x ∙ ap (λ n. get_or us n x) next))

pub after_pick-requires : goal.after_pick-requires
after_pick-requires c =
    let ts = c.loop-place.tallies in
    let us = c.args.tallies.now in
    let p = c.loop-place.place in
    let x = c.index-tallies-place.result in
    let inv = c.loop-place.invariant in
    let low : p < length us = omega (arith, inv.end, inv.size, c.loop-place-test.true) in
    let e : (get_or ts p x).count ≡ (get_or us p x).count = ap (λ (t : Tally). t.count) (same_here ts us p x inv.rest) in
    let f : (get_or (seen_all us) p no_share).count ≡ (get_or us p x).count = ap (λ s. s.count) (get_or-map seen us p x no_share low) in
    omega (arith, c.requires p (omega (arith, length-map us seen)))

pub loop-place-preserved : goal.loop-place-preserved
loop-place-preserved c =
    let ts = c.loop-place.tallies in
    let us = c.args.tallies.now in
    let p = c.loop-place.place in
    let x = c.index-tallies-place.result in
    let r = c.after_pick.result in
    let f = with_pick (seen c.args.from.now) (seen c.args.to.now) in
    let inv = c.loop-place.invariant in
    let here : p < length ts = omega (arith, inv.end, inv.size, c.loop-place-test.true) in
    let low : p < length us = omega (arith, inv.end, inv.size, c.loop-place-test.true) in record {
      within = omega (arith, length-set ts p r);
      end = omega (arith, length-set ts p r, inv.end, inv.size);
      size = length-set ts p r ∙ inv.size;
      done = ap seen_all (take_more_set ts p r here)
          ∙ (map_push seen (take p ts) r
          ∙ (ap (λ l. l ++ seen r ∷ []) inv.done
          ∙ (ap (λ s. map f (seen_all (take p us)) ++ s ∷ []) (c.after_pick.ensures ∙ ap (λ t. f (seen t)) (same_here ts us p x inv.rest))
          ∙ (sym (map_push f (seen_all (take p us)) (seen (get_or us p x)))
          ∙ ap (map f) (sym (ap seen_all (take_more us p x low) ∙ map_push seen (take p us) (get_or us p x)))))));
      rest = drop-set-lt (p + 1) ts p r (omega arith) ∙ (sym (drop-drop 1 p ts) ∙ (ap (drop 1) inv.rest ∙ drop-drop 1 p us));
    }
