use Rattle.std.proofs.Common.{◌≡◌, ◌≤◌, ◌+◌, ◌++◌, List, ◌∷◌, drop, length, sym, ap, subst, ◌∙◌, refl, arith}
use Rattle.std.specs.Prelude.{fold}
use Rattle.std.specs.List.{flat_map}
use Rattle.std.proofs.lemmas.List.{drop_more}
use Rattle.yard_model.specs.declared.incarnation.Incarnation.{Incarnation}
use Rattle.yard_model.specs.Coordinator.{Coordinator, coordinator_after, registered, terminate_lost}
use Rattle.yard_model.specs.Move.{item_of}
use Rattle.coordinator_actor.specs.Parts.{terminate_if_lost}
use Rattle.coordinator_actor.proofs.Differ.{regions_differ}
use Rattle.coordinator_actor.proofs.MoveLaws.{rest_of, rest_items, rest_state, rest_length}
use Rattle.coordinator_actor.proofs.RestLaws.{IsRest, rest_all, rest_next}
use Rattle.coordinator_actor.proofs.coordinator.Coordinator.lose_regions.Goals as goal

pub loop-region-init : goal.loop-region-init
loop-region-init c =
    let held = c.args.self.now in
    let view = c.args.view.now.members in
    let all : c.as_slice-region-items.result.now ≡ registered held.state = c.as_slice-region-items.ensures.items ∙ c.regions-regions.ensures.regions in
    record {
      rest = subst (λ (l : List Incarnation). IsRest view l (registered held.state)) (sym all) (rest_all view (registered held.state) (regions_differ held.script held.state.entries c.regions-regions.ensures.lawful));
      items = ap (λ (l : List Incarnation). c.args.out.now.items ++ flat_map item_of (rest_of view l held.state)) all;
      state = ap (λ (l : List Incarnation). fold coordinator_after held.state (rest_of view l held.state)) all;
      script = refl;
      spare = ap (λ (l : List Incarnation). c.args.out.now.spare + length (flat_map item_of (rest_of view l held.state))) all;
      entries = refl;
      least = omega arith;
      places = refl;
    }

pub terminate_if_lost-requires-clause-room : goal.terminate_if_lost-requires-clause-room
terminate_if_lost-requires-clause-room c =
    let view = c.args.view.now.members in
    let xs = c.as_slice-region-items.result.now in
    let i = c.loop-region.region-index in
    let r = c.region-item.result in
    let st : Coordinator = c.loop-region.self.state in
    let inv = c.loop-region.invariant in
    let here : drop i xs ≡ r ∷ drop (i + 1) xs = drop_more xs i r c.loop-region-test.true ∙ ap (λ (x : Incarnation). x ∷ drop (i + 1) xs) (sym c.region-item.is) in
    let long : length (flat_map item_of (rest_of view (drop i xs) st)) ≡ length (flat_map item_of (terminate_if_lost view r st)) + length (flat_map item_of (rest_of view (drop (i + 1) xs) (fold coordinator_after st (terminate_if_lost view r st)))) =
    ap (λ (l : List Incarnation). length (flat_map item_of (rest_of view l st))) here ∙ rest_length view (drop (i + 1) xs) r st (fold coordinator_after st (terminate_if_lost view r st)) refl in
    let all : length (flat_map item_of (terminate_lost view c.args.self.now.state)) ≤ c.args.out.now.spare = c.requires.room in
    omega (arith, long, inv.spare, all)

pub loop-region-preserved : goal.loop-region-preserved
loop-region-preserved c =
    let view = c.args.view.now.members in
    let xs = c.as_slice-region-items.result.now in
    let i = c.loop-region.region-index in
    let r = c.region-item.result in
    let st : Coordinator = c.loop-region.self.state in
    let next : Coordinator = c.terminate_if_lost.new.self.state in
    let inv = c.loop-region.invariant in
    let call = c.terminate_if_lost.ensures in
    let here : drop i xs ≡ r ∷ drop (i + 1) xs = drop_more xs i r c.loop-region-test.true ∙ ap (λ (x : Incarnation). x ∷ drop (i + 1) xs) (sym c.region-item.is) in
    let long : length (flat_map item_of (rest_of view (drop i xs) st)) ≡ length (flat_map item_of (terminate_if_lost view r st)) + length (flat_map item_of (rest_of view (drop (i + 1) xs) next)) =
    ap (λ (l : List Incarnation). length (flat_map item_of (rest_of view l st))) here ∙ rest_length view (drop (i + 1) xs) r st next call.state in
    let spared : c.terminate_if_lost.new.out.spare + length (flat_map item_of (terminate_if_lost view r st)) ≡ c.loop-region.out.spare = call.spare in
    let count : length next.entries + c.terminate_if_lost.new.self.spare ≡ length st.entries + c.loop-region.self.spare = call.entries in
    let least : c.loop-region.self.spare ≤ c.terminate_if_lost.new.self.spare + 1 = call.least in
    record {
      rest = subst (λ (l : List Incarnation). IsRest view (drop (i + 1) xs) l) (sym call.regions) (rest_next view (drop (i + 1) xs) (registered st) r (subst (λ (l : List Incarnation). IsRest view l (registered st)) here inv.rest));
      items = rest_items view (drop (i + 1) xs) r st next c.loop-region.out.items c.terminate_if_lost.new.out.items (c.args.out.now.items ++ flat_map item_of (terminate_lost view c.args.self.now.state)) call.state call.items
          (ap (λ (l : List Incarnation). c.loop-region.out.items ++ flat_map item_of (rest_of view l st)) (sym here) ∙ inv.items);
      state = rest_state view (drop (i + 1) xs) r st next (fold coordinator_after c.args.self.now.state (terminate_lost view c.args.self.now.state)) call.state
          (ap (λ (l : List Incarnation). fold coordinator_after st (rest_of view l st)) (sym here) ∙ inv.state);
      script = call.script ∙ inv.script;
      spare = omega (arith, long, spared, inv.spare);
      entries = count ∙ inv.entries;
      least = omega (arith, least, inv.least);
      places = call.places ∙ inv.places;
    }
