-- The tick: one shard after the other, and in it one name after the other.
use Rattle.std.proofs.Common.{◌≡◌, ℕ, ◌+◌, ◌-◌, ◌<◌, ◌≤◌, List, [], ◌∷◌, ◌++◌, length, length-append, ap, sym, ◌∙◌, refl, true, arith, drop}
use Rattle.std.specs.Prelude.{Bool, cond, not, suc, filter}
use Rattle.std.specs.List.{flat_map}
use Rattle.yard_model.specs.declared.input.Phase.{Phase}
use Rattle.yard_model.specs.declared.input.Phase.TheVariants as phase
use Rattle.yard_model.specs.Entities.{Entities, cell, entities_of, is_in_phase, is_phase, remind_by}
use Rattle.yard_model.specs.Move.{Move}
use Rattle.yard_model.specs.declared.out.Item.{Item}
use Rattle.yard_model.specs.Spared.{Spared}
use Rattle.yard_model.specs.Words.{numbers, is_empty}
use Rattle.shard_store.specs.Shelved.{name_at}
use Rattle.shard_entities.specs.Lodged.{given}
use Rattle.shard_entities.proofs.WayLaws.{picked_next}

-- what is told to the entities of a shard again
abbrev pub of_shard : Entities → ℕ → List Move
of_shard st s = flat_map (λ e. remind_by e st (cell st e).phase) (entities_of st s)

none_there : (xs : List (List ℕ)) → is_empty xs ≡ true → xs ≡ []
none_there [] h = refl
none_there (x ∷ xs) h = cc

-- a shard without entities is passed over
pub passed_over : (out : Spared Item) (st : Entities) (s : ℕ) {b : Bool} → b ≡ is_empty (entities_of st s) → b ≡ true → out ≡ given out (of_shard st s)
passed_over out st s {b} is none = ap (λ es. given out (flat_map (λ e. remind_by e st (cell st e).phase) es)) (sym (none_there (entities_of st s) (sym is ∙ none)))

-- those of the names that are left
abbrev pub of_names : Entities → List (List ℕ) → List Move
of_names st es = flat_map (λ e. remind_by e st (cell st e).phase) (filter (λ e. not (is_in_phase phase.Absent st e)) es)

-- one that doesn't exist is told nothing
nothing_of_absent : (e : List ℕ) (st : Entities) (q : Phase) → cond (not (is_phase phase.Absent q)) (remind_by e st q) [] ≡ remind_by e st q
nothing_of_absent e st phase.Absent = refl
nothing_of_absent e st phase.Loading = refl
nothing_of_absent e st phase.Active = refl
nothing_of_absent e st phase.Stopping = refl

pub names_next : (st : Entities) (xs : List (List ℕ)) (k : ℕ) (x : List ℕ) → k < length xs → x ≡ name_at xs k → of_names st (drop k xs) ≡ remind_by x st (cell st x).phase ++ of_names st (drop (k + 1) xs)
names_next st xs k x within it =
    picked_next (λ e. remind_by e st (cell st e).phase) (λ e. not (is_in_phase phase.Absent st e)) xs k x (not (is_in_phase phase.Absent st x)) within it refl
    ∙ ap (λ l. l ++ of_names st (drop (k + 1) xs)) (nothing_of_absent x st (cell st x).phase)

pub shards_next : (st : Entities) (s n : ℕ) → s < n → flat_map (of_shard st) (numbers s (n - s)) ≡ of_shard st s ++ flat_map (of_shard st) (numbers (s + 1) (n - (s + 1)))
shards_next st s n below = let e : n - s ≡ suc (n - (s + 1)) = omega arith in rw e refl

pub shards_end : (st : Entities) (s n : ℕ) → n ≤ s → flat_map (of_shard st) (numbers s (n - s)) ≡ []
shards_end st s n above = let e : n - s ≡ 0 = omega arith in rw e refl

-- what is left of the room
pub room_next : (l a b : List Move) (spare : ℕ) → l ≡ a ++ b → length l ≤ spare → length a + length b ≤ spare
room_next l a b spare cut room = let long : length l ≡ length a + length b = ap length cut ∙ length-append a b in omega (arith, long, room)
