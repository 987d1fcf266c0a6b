-- Room: that what is reserved serves each call; which calls take none of it.
use Rattle.std.proofs.Common.{◌≡◌, ℕ, ◌+◌, ◌*◌, ◌≤◌, List, [], ◌∷◌, length, sym, ap, subst, ◌∙◌, refl, arith}
use Rattle.std.specs.Prelude.{Bool, true, false, Result, Ok, Err, OnOk, Option, None, min, filter, slice_index_or, if◌then◌else◌}
use Rattle.std.specs.List.{flat_map}
use Rattle.yard_model.specs.declared.fact.Fact.TheVariants as fact
use Rattle.yard_model.specs.declared.incarnation.Keep.{Keep}
use Rattle.yard_model.specs.declared.input.Phase.TheVariants as phase
use Rattle.yard_model.specs.declared.packet.Body.TheVariants as body
use Rattle.yard_model.specs.Entities.{Entities, Hosted, hosted, entries, start_entity, start_remembered, arm, passivate, is_in_phase}
use Rattle.yard_model.specs.Move.{told, post, passivates}
use Rattle.yard_model.specs.Script.{setting}
use Rattle.yard_model.specs.Setting.{names_of}
use Rattle.yard_model.specs.SlotReads.{is_remembered}
use Rattle.yard_model.specs.Words.{at}
use Rattle.shard_entities.specs.Lodged.{Lodged, moved}
use Rattle.shard_entities.specs.Roomy.{IsRoomy, Takes, room_wanted}
use Rattle.shard_entities.proofs.WalkLaws.{IsSame, same_here, then_same}

pub on_ok_map : {A E : Type 0} {P Q : Type 0} (r : Result A E) → (P → Q) → OnOk r P → OnOk r Q
on_ok_map (Ok x) f h = f h
on_ok_map (Err e) f h = tt

pub roomy_of : (v : Lodged) {w : Lodged} (s : ℕ) → w ≡ record v { rooms = w.rooms } → (hosted v.state s ≡ None → ⊥) → room_wanted v.script s ≤ slice_index_or w.rooms s 0 → IsRoomy w s
roomy_of v {w} s same there most = record {
  delivery = record { hosted_is = home; room = omega (arith, enough) };
  recovery = record { hosted_is = home; room = omega (arith, enough, window_is) };
  stop = record { hosted_is = home; room = omega (arith, enough) };
}
  where
    home : hosted w.state s ≡ None → ⊥
    home none = there (sym (ap (λ (x : Lodged). hosted x.state s) same) ∙ none)

    enough : 2 * (v.script.config.buffer + v.script.config.window + min (v.script.config.producers * length (names_of (setting v.script) s)) 4000) + 300 ≤ slice_index_or w.rooms s 0
    enough = most

    window_is : w.script.config.window ≡ v.script.config.window
    window_is = ap (λ (x : Lodged). x.script.config.window) same

-- What takes nothing.

takes_same : {v w : Lodged} (s : ℕ) → IsSame v w → Takes v w s 0
takes_same {v} {w} s same = record {
  room_is = let is : slice_index_or w.rooms s 0 ≡ slice_index_or v.rooms s 0 = ap (λ (r : List ℕ). slice_index_or r s 0) same.rooms_is in omega (arith, is);
  others_are = λ t other. ap (λ (r : List ℕ). slice_index_or r t 0) same.rooms_is;
  hosted_are = λ t none. sym (ap (λ (h : List (Option Hosted)). at h t) same.hosted_is) ∙ none;
}

starts_all_same : (v : Lodged) (st : Entities) (es : List (List ℕ)) → IsSame v (moved v (flat_map (λ e. start_entity e st) es))
starts_all_same v st [] = same_here v
starts_all_same v st (e ∷ es) = then_same record { script_is = refl; who_is = refl; set_is = refl; hosted_is = refl; rooms_is = refl } (starts_all_same (moved v (start_entity e st)) st es)

pub start_takes : (v : Lodged) {w : Lodged} (s t : ℕ) → w ≡ moved v (start_remembered t v.state) → Takes v w s 0
start_takes v {w} s t step = takes_same s (subst (IsSame v) (sym step) (by_test v.state.set.config.remember))
  where
    by_test : (b : Bool) → IsSame v (moved v (if b then flat_map (λ e. start_entity e v.state) (filter (λ e. is_remembered e (entries v.state e)) (names_of v.state.set t)) else []))
    by_test true = starts_all_same v v.state (filter (λ e. is_remembered e (entries v.state e)) (names_of v.state.set t))
    by_test false = same_here v

pub passivate_takes : (v : Lodged) {w : Lodged} (s : ℕ) (e : List ℕ) → w ≡ moved v (passivate e v.state) → Takes v w s 0
passivate_takes v {w} s e step = takes_same s (subst (IsSame v) (sym step) (by_test (is_in_phase phase.Active v.state e)))
  where
    by_test : (b : Bool) → IsSame v (moved v (if b then passivates e ∷ post v.state.who v.state.who (body.StopEntity e) ∷ [] else []))
    by_test true = record { script_is = refl; who_is = refl; set_is = refl; hosted_is = refl; rooms_is = refl }
    by_test false = same_here v

pub arm_takes : (v : Lodged) {w : Lodged} (s : ℕ) (e : List ℕ) (k : Keep) → w ≡ moved v (arm e k v.state) → Takes v w s 0
arm_takes v {w} s e k step = takes_same s (subst (IsSame v) (sym step) (by_test (is_in_phase phase.Active v.state e)))
  where
    by_test : (b : Bool) → IsSame v (moved v (if b then told (fact.Armed e k) ∷ [] else []))
    by_test true = record { script_is = refl; who_is = refl; set_is = refl; hosted_is = refl; rooms_is = refl }
    by_test false = same_here v
