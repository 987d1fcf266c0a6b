-- What lets a shard go: that it is freed, by which moves, and what is answered of it.
use Rattle.std.proofs.Common.{◌≡◌, ℕ, ◌<◌, sym, ap, subst, ◌∙◌, append-nil, get_or-set_same}
use Rattle.std.specs.Prelude.{false, List, [], ◌∷◌, ◌++◌, map, fold, Option, None, Some, MatchOption, IfSome, if◌then◌else◌}
use Rattle.std.specs.List.{list_any}
use Rattle.std.specs.Option.{option_map, option_and_then}
use Rattle.std.proofs.lemmas.List.{append_assoc}
use Rattle.std.proofs.lemmas.List.Folds.{list_any-append}
use Rattle.yard_model.specs.declared.fact.Fact.TheVariants as fact
use Rattle.yard_model.specs.declared.incarnation.Cause.TheVariants as cause
use Rattle.yard_model.specs.declared.incarnation.Incarnation.{Incarnation}
use Rattle.yard_model.specs.declared.incarnation.Slot.TheVariants as slot
use Rattle.yard_model.specs.declared.incarnation.Stamp.{Stamp}
use Rattle.yard_model.specs.declared.input.Phase.TheVariants as phase
use Rattle.yard_model.specs.declared.packet.Body.TheVariants as body
use Rattle.yard_model.specs.declared.packet.Message.{Message}
use Rattle.yard_model.specs.Entities.{Entities, Hosted, Stopping, cell, hosted, entities_after, entities_of, free_if_left, hand_off, stop, forget_passivated, drop_stash, after_stop, is_phase}
use Rattle.yard_model.specs.Move.{Move, told, post, handed_off}
use Rattle.yard_model.specs.Setting.{shard_of}
use Rattle.yard_model.specs.SlotReads.{epoch}
use Rattle.yard_model.specs.Turns.{in_turn}
use Rattle.yard_model.specs.Words.{at}
use Rattle.plain_laws.proofs.Booleans.{right_of}
use Rattle.plain_laws.proofs.Lists.{some_is, none_is_not_some}
use Rattle.shard_store.specs.Shelf.{Shelf}
use Rattle.shard_entities.specs.Delivered.{Stands}
use Rattle.shard_entities.specs.Lodged.{Lodged, moved, lodged_after}
use Rattle.shard_entities.specs.Settled.{IsFreed, IsStopped, frees}
use Rattle.shard_entities.specs.declared.handoff.Stopped.{Stopped}
use Rattle.shard_entities.specs.declared.place.Place.{Place}
use Rattle.shard_entities.proofs.LoopLaws.{tell_ended, handed, stops_all_same}
use Rattle.shard_entities.proofs.WalkLaws.{IsOn, IsSame}
use Rattle.shard_entities.proofs.WayLaws.{state_moved, who_moved}

-- after another rule
pub turn_freed : (v : Lodged) {mid : Lodged} {before : List Move} {x : Stopped} (p q : Entities → List Move) → mid ≡ moved v (p v.state) → IsFreed before (q mid.state) mid.state.who x → IsFreed (p v.state ++ before) (in_turn entities_after p q v.state) v.state.who x
turn_freed v {mid} {before} {x} p q step freed = record {
  frees_is = list_any-append frees (p v.state) (q (fold entities_after v.state (p v.state))) ∙ right_of (list_any frees (p v.state)) (list_any frees (q (fold entities_after v.state (p v.state)))) (ap (λ st. list_any frees (q st)) (sym state_is) ∙ freed.frees_is);
  moves_are =
      ap (λ st. p v.state ++ q st) (sym state_is)
      ∙ (ap (λ l. p v.state ++ l) freed.moves_are
      ∙ (sym (append_assoc (p v.state) before (ended mid.state.who)) ∙ ap (λ w. (p v.state ++ before) ++ ended w) who_is));
}
  where
    state_is : mid.state ≡ fold entities_after v.state (p v.state)
    state_is = ap (λ (y : Lodged). y.state) step ∙ state_moved v (p v.state)

    who_is : mid.state.who ≡ v.state.who
    who_is = ap (λ (y : Lodged). y.state.who) step ∙ who_moved v (p v.state)

    ended : Incarnation → List Move
    ended w = told (fact.Freed (slot.Shard x.shard) (epoch x.store.entries) cause.Released) ∷ post w x.to (body.ShardStopped x.shard x.stamp) ∷ []

if_some : {A : Type 0} {P Q : A → Type 0} (o : Option A) → ((x : A) → P x → Q x) → IfSome o P → IfSome o Q
if_some None f h = h
if_some (Some x) f h = f x h

-- after what was stashed is dropped
pub dropped_freed : {v mid : Lodged} (r : Option Stopped) (p : Place) → IsOn p v → mid ≡ moved v (drop_stash p.entity v.state) → IfSome r (IsFreed [] (free_if_left p.shard mid.state) mid.state.who)
    → IfSome r (IsFreed (drop_stash p.entity v.state) (in_turn entities_after (drop_stash p.entity) (free_if_left (shard_of v.state.set p.entity)) v.state) v.state.who)
dropped_freed {v} {mid} r p on step answer = if_some r
    (λ x freed. subst (λ l. IsFreed l (in_turn entities_after (drop_stash p.entity) (free_if_left (shard_of v.state.set p.entity)) v.state) v.state.who x) (append-nil (drop_stash p.entity v.state))
    (turn_freed v (drop_stash p.entity) (free_if_left (shard_of v.state.set p.entity)) step (subst (λ s. IsFreed [] (free_if_left s mid.state) mid.state.who x) (sym on.shard_is) freed)))
    answer

-- after a stop
pub ended_freed : {v mid : Lodged} (r : Option Stopped) (p : Place) → IsOn p v → (cell v.state p.entity).phase ≡ phase.Stopping → mid ≡ moved v (told (fact.Stop v.state.who p.entity) ∷ forget_passivated p.entity v.state) → IfSome r (IsFreed (drop_stash p.entity mid.state) (after_stop p.entity mid.state) mid.state.who)
    → IfSome r (IsFreed (told (fact.Stop v.state.who p.entity) ∷ forget_passivated p.entity v.state ++ drop_stash p.entity v.state) (stop p.entity v.state) v.state.who)
ended_freed {v} {mid} r p on is step answer = if_some r
    (λ x freed. subst (λ l. IsFreed (first ++ l) (stop p.entity v.state) v.state.who x) dropped
    (subst (λ l. IsFreed (first ++ drop_stash p.entity mid.state) l v.state.who x) (sym stops) (turn_freed v (λ st. told (fact.Stop st.who p.entity) ∷ forget_passivated p.entity st) (after_stop p.entity) step freed)))
    answer
  where
    first : List Move
    first = told (fact.Stop v.state.who p.entity) ∷ forget_passivated p.entity v.state

    dropped : drop_stash p.entity mid.state ≡ drop_stash p.entity v.state
    dropped =
        ap (λ (w : Incarnation). map (λ (m : Message). told (fact.Dropped w m)) (cell mid.state p.entity).stash) (ap (λ (y : Lodged). y.state.who) step ∙ who_moved v (told (fact.Stop v.state.who p.entity) ∷ forget_passivated p.entity v.state))
        ∙ ap (λ (l : List Message). map (λ (m : Message). told (fact.Dropped v.state.who m)) l) (tell_ended on step).stash_is

    stops : stop p.entity v.state ≡ in_turn entities_after (λ st. told (fact.Stop st.who p.entity) ∷ forget_passivated p.entity st) (after_stop p.entity) v.state
    stops = ap (λ q. if is_phase phase.Stopping q then in_turn entities_after (λ st. told (fact.Stop st.who p.entity) ∷ forget_passivated p.entity st) (after_stop p.entity) v.state else []) is

-- a shard that is handed off
pub handed_freed : {v mid : Lodged} (r : Option Stopped) (s : ℕ) (stamp : Stamp) (to : Incarnation) → Stands v → s < v.script.config.shards → mid ≡ moved v (handed_off s stamp to ∷ map (λ e. post v.state.who v.state.who (body.StopEntity e)) (entities_of v.state s))
    → MatchOption r (list_any frees (free_if_left s mid.state) ≡ false) (IsStopped mid mid s) → IfSome r (IsFreed [] (free_if_left s mid.state) mid.state.who) → {o : Option Shelf} → o ≡ option_map (λ x. x.store) r
    → IfSome o (λ x. IsFreed (handed_off s stamp to ∷ map (λ e. post v.state.who v.state.who (body.StopEntity e)) (entities_of v.state s)) (hand_off s stamp to v.state) v.state.who (record { shard = s; store = x; stamp = stamp; to = to }))
handed_freed {v} {mid} r s stamp to st lt step answer freed {o} is = subst (λ o. IfSome o (λ x. IsFreed first (hand_off s stamp to v.state) v.state.who (record { shard = s; store = x; stamp = stamp; to = to }))) (sym is) (by_answer r answer freed)
  where
    first : List Move
    first = handed_off s stamp to ∷ map (λ e. post v.state.who v.state.who (body.StopEntity e)) (entities_of v.state s)

    last : Stopping
    last = record { stamp = stamp; to = to }

    stops : (o : Option Hosted) (k : Stopping) → option_and_then (λ (h : Hosted). h.stopping) (option_map (handed stamp to) o) ≡ Some k → k ≡ last
    stops None k e = absurd (none_is_not_some k e)
    stops (Some h) k e = sym (some_is last k e)

    same : IsSame (lodged_after v (handed_off s stamp to)) mid
    same = subst (IsSame (lodged_after v (handed_off s stamp to))) (sym step) (stops_all_same (lodged_after v (handed_off s stamp to)) v.state.who v.state.who (entities_of v.state s))

    hosted_is : hosted mid.state s ≡ option_map (handed stamp to) (at v.state.hosted s)
    hosted_is = ap (λ (h : List (Option Hosted)). at h s) same.hosted_is ∙ get_or-set_same v.state.hosted s (option_map (handed stamp to) (at v.state.hosted s)) None (subst (λ n. s < n) (sym st.shards_there) lt)

    stopping_of : Stopped → Stopping
    stopping_of x = record { stamp = x.stamp; to = x.to }

    ends : (x : Stopped) → IsStopped mid mid s x → stopping_of x ≡ last
    ends x k = stops (at v.state.hosted s) (stopping_of x) (sym (ap (λ o. option_and_then (λ (h : Hosted). h.stopping) o) hosted_is) ∙ k.kept_is)

    by_answer : (r : Option Stopped) → MatchOption r (list_any frees (free_if_left s mid.state) ≡ false) (IsStopped mid mid s) → IfSome r (IsFreed [] (free_if_left s mid.state) mid.state.who) → IfSome (option_map (λ x. x.store) r) (λ x. IsFreed first (hand_off s stamp to v.state) v.state.who (record { shard = s; store = x; stamp = stamp; to = to }))
    by_answer None k f = f
    by_answer (Some x) k f =
        subst (λ l. IsFreed l (hand_off s stamp to v.state) v.state.who (record { shard = s; store = x.store; stamp = stamp; to = to })) (append-nil first)
        (subst (λ (k : Stopping). IsFreed (first ++ []) (hand_off s stamp to v.state) v.state.who (record { shard = s; store = x.store; stamp = k.stamp; to = k.to })) (ends x k)
        (subst (λ n. IsFreed (first ++ []) (hand_off s stamp to v.state) v.state.who (record { shard = n; store = x.store; stamp = x.stamp; to = x.to })) k.shard_is
        (turn_freed v (λ st. handed_off s stamp to ∷ map (λ e. post st.who st.who (body.StopEntity e)) (entities_of st s)) (free_if_left s) step f)))
