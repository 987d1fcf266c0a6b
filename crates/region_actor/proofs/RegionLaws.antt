-- What a region keeps, and that each move keeps it.
use Rattle.std.proofs.Common.{◌≡◌, ◌≢◌, ℕ, ◌<◌, ◌≤◌, List, [], ◌∷◌, ◌++◌, length, drop, replicate, sym, ap, subst, ◌∙◌, refl, true, false, arith, true≢false, get_or-set_same, get_or-set_other, eq-eqb}
use Rattle.std.specs.Prelude.{Bool, zero, suc, ◌==◌, ◌&&◌, nat_le, slice_set, Option, None, Some, IsTrue, IfSome, MatchOption}
use Rattle.std.specs.List.{list_all}
use Rattle.std.proofs.lemmas.Bool.Decides.{nat_tests}
use Rattle.std.proofs.lemmas.List.{length-replicate}
use Rattle.std.proofs.lemmas.List.Folds.{list_all-append}
use Rattle.envelope_pool.specs.Keyed.{Keyed}
use Rattle.yard_model.specs.declared.incarnation.Incarnation.{Incarnation}
use Rattle.yard_model.specs.declared.incarnation.Stamp.{Stamp}
use Rattle.yard_model.specs.declared.packet.Message.{Message}
use Rattle.yard_model.specs.Behaviour.{is_in}
use Rattle.yard_model.specs.Genuine.{is_genuine}
use Rattle.yard_model.specs.Region.{no_stamp, kept_of}
use Rattle.yard_model.specs.Script.{Script, IsScript, Setting, setting}
use Rattle.yard_model.specs.Setting.{shard_of}
use Rattle.region_actor.specs.Made.{IsRegion, is_kept}

and_both : (a b : Bool) → (a && b) ≡ true → (a ≡ true) × (b ≡ true)
and_both true b e = (refl, e)
and_both false b e = absurd (true≢false (sym e))

le_of : (a b : ℕ) → nat_le a b ≡ true → a ≤ b
le_of a b e = grind (arith, nat_tests)

-- a script has 1 to 128 shards
pub shards_range : (c : Script) → IsScript c → (1 ≤ c.config.shards) × (c.config.shards ≤ 128)
shards_range c k =
    let all : (is_in 1 16 c.config.nodes && is_in 1 128 c.config.shards && is_in 1 32 c.config.producers && is_in 1 1000 c.config.buffer && is_in 1 64 c.config.window && is_in 1 10000 c.config.snapshot && is_in 1 10 c.config.keep) ≡ true = k.config in
    let own : is_in 1 128 c.config.shards ≡ true = grind (arith, nat_tests, all) in
    (le_of 1 c.config.shards (and_both _ _ own).0, le_of c.config.shards 128 (and_both _ _ own).1)

-- nothing is kept
none_kept : (p : Message → Bool) (n s : ℕ) → IsTrue (list_all p (kept_of (replicate n []) s))
none_kept p zero s = refl
none_kept p (suc n) zero = refl
none_kept p (suc n) (suc s) = none_kept p n s

pub region_new : (script c : Script) (shards : ℕ) (homes : List (Option Incarnation)) (marks : List Stamp) (asked : List Bool) (kept : Keyed Message) → script ≡ c → IsScript c
    → shards ≡ c.config.shards → homes ≡ replicate shards None → marks ≡ replicate shards no_stamp → asked ≡ replicate shards false
    → kept.lists ≡ replicate shards [] → kept.cells ≡ c.config.buffer → IsRegion script shards homes marks asked kept
region_new script c shards homes marks asked kept same k n h m a l b = rw same record {
  script_is = k;
  shards_are = n;
  some = rw n (shards_range c k).0;
  few = rw n (shards_range c k).1;
  homes_there = ap length h ∙ length-replicate shards None;
  marks_there = ap length m ∙ length-replicate shards no_stamp;
  asked_there = ap length a ∙ length-replicate shards false;
  lists_there = ap length l ∙ length-replicate shards [];
  buffer_is = b;
  kept_are = λ s. rw l (none_kept (is_kept c s) shards s);
}

is_equal : (a b : ℕ) → (a == b) ≡ true → a ≡ b
is_equal a b e = grind (arith, nat_tests)

is_other : (a b : ℕ) → (a == b) ≡ false → a ≢ b
is_other a b e same = grind (arith, nat_tests)

both : (a b : Bool) → a ≡ true → b ≡ true → (a && b) ≡ true
both a b h k = rw h k

rest_passes : (p : Message → Bool) (xs : List Message) → IsTrue (list_all p xs) → IsTrue (list_all p (drop 1 xs))
rest_passes p [] h = refl
rest_passes p (x ∷ xs) h = (and_both (p x) (list_all p xs) h).1

-- one list of a table is another
at_set : (P : ℕ → List Message → Type 0) (xs : List (List Message)) (s : ℕ) (y : List Message) → s < length xs → ((t : ℕ) → P t (kept_of xs t)) → P s y
    → (t : ℕ) → P t (kept_of (slice_set xs s y) t)
at_set P xs s y h all own t =
    elim (t == s) as (λ b. (t == s) ≡ b → P t (kept_of (slice_set xs s y) t)) [
      | true ↦ λ e. subst (λ k. P k (kept_of (slice_set xs s y) k)) (sym (is_equal t s e)) (subst (P s) (sym (get_or-set_same xs s y [] h)) own)
      | false ↦ λ e. subst (P t) (sym (get_or-set_other xs s t y [] (is_other t s e))) (all t)
    ] refl

module _ (c : Script) (shards : ℕ) (homes : List (Option Incarnation)) (marks : List Stamp) (asked : List Bool) (kept kept' : Keyed Message) where
  with_kept : IsRegion c shards homes marks asked kept → length kept'.lists ≡ length kept.lists → kept'.cells ≡ kept.cells → ((s : ℕ) → IsTrue (list_all (is_kept c s) (kept_of kept'.lists s)))
      → IsRegion c shards homes marks asked kept'
  with_kept k l b all = record {
    script_is = k.script_is;
    shards_are = k.shards_are;
    some = k.some;
    few = k.few;
    homes_there = k.homes_there;
    marks_there = k.marks_there;
    asked_there = k.asked_there;
    lists_there = l ∙ k.lists_there;
    buffer_is = b ∙ k.buffer_is;
    kept_are = all;
  }

  -- one message more
  pub region_keeps : IsRegion c shards homes marks asked kept → (s : ℕ) (m : Message) → s < shards → IsTrue (is_genuine c m) → s ≡ shard_of (setting c) m.entity
      → kept'.lists ≡ slice_set kept.lists s (kept_of kept.lists s ++ m ∷ []) → length kept'.lists ≡ length kept.lists → kept'.cells ≡ kept.cells → IsRegion c shards homes marks asked kept'
  region_keeps k s m h genuine own e l b =
      let inside : s < length kept.lists = omega (arith, k.lists_there, h) in
      let one : is_kept c s m ≡ true = both (is_genuine c m) (shard_of (setting c) m.entity == s) genuine (eq-eqb (shard_of (setting c) m.entity) s (sym own)) in
      with_kept k l b (λ t. rw e (at_set (λ t xs. IsTrue (list_all (is_kept c t) xs)) kept.lists s (kept_of kept.lists s ++ m ∷ []) inside k.kept_are
      (list_all-append (is_kept c s) (kept_of kept.lists s) (m ∷ []) ∙ both (list_all (is_kept c s) (kept_of kept.lists s)) (list_all (is_kept c s) (m ∷ [])) (k.kept_are s) (both (is_kept c s m) true one refl)) t))

  -- the oldest of a shard is taken out
  pub region_releases : IsRegion c shards homes marks asked kept → (s : ℕ) → s < shards
      → kept'.lists ≡ slice_set kept.lists s (drop 1 (kept_of kept.lists s)) → length kept'.lists ≡ length kept.lists → kept'.cells ≡ kept.cells → IsRegion c shards homes marks asked kept'
  region_releases k s h e l b =
      let inside : s < length kept.lists = omega (arith, k.lists_there, h) in
      with_kept k l b (λ t. rw e (at_set (λ t xs. IsTrue (list_all (is_kept c t) xs)) kept.lists s (drop 1 (kept_of kept.lists s)) inside k.kept_are
      (rest_passes (is_kept c s) (kept_of kept.lists s) (k.kept_are s)) t))

-- what is kept of a shard belongs to it
pub kept_shard : (c : Script) (s : ℕ) (m : Message) (xs rest : List Message) → IsTrue (list_all (is_kept c s) xs) → xs ≡ m ∷ rest → shard_of (setting c) m.entity ≡ s
kept_shard c s m xs rest all e =
    let here : (is_kept c s m && list_all (is_kept c s) rest) ≡ true = rw e at all in
    is_equal _ _ (and_both (is_genuine c m) (shard_of (setting c) m.entity == s) (and_both (is_kept c s m) (list_all (is_kept c s) rest) here).0).1

pub kept_first : (c : Script) (set : Setting) (s : ℕ) (xs : List Message) (r : Option Message) → IsTrue (list_all (is_kept c s) xs) → set ≡ setting c
    → MatchOption r (xs ≡ []) (λ m. xs ≡ m ∷ drop 1 xs) → IfSome r (λ m. shard_of set m.entity ≡ s)
kept_first c set s xs None all e h = tt
kept_first c set s xs (Some m) all e h = rw e (kept_shard c s m xs (drop 1 xs) all h)
