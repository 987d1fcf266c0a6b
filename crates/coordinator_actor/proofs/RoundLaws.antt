-- Rounds: moves one after the other, for each of the shards.
use Rattle.std.proofs.Common.{◌≡◌, ◌<◌, ◌≤◌, ◌+◌, ◌-◌, ℕ, suc, sym, ap, ◌∙◌, refl, arith, length, length-append}
use Rattle.std.specs.Prelude.{Bool, true, false, ◌==◌, cond, List, [], ◌∷◌, ◌++◌, map, filter, fold, drop, if◌then◌else◌}
use Rattle.std.specs.List.{flat_map}
use Rattle.std.proofs.lemmas.List.{append_assoc, append-nil, drop_more, drop_all}
use Rattle.std.proofs.lemmas.List.Sums.{fold-append}
use Rattle.std.proofs.lemmas.Grind.{flat_map-append}
use Rattle.std.proofs.lemmas.Bool.Decides.{Decides-eqb}
use Rattle.yard_model.specs.declared.out.Item.{Item}
use Rattle.yard_model.specs.declared.fact.Fact.TheVariants as fact
use Rattle.yard_model.specs.declared.packet.Body.TheVariants as body
use Rattle.yard_model.specs.declared.incarnation.Stamp.{Stamp}
use Rattle.yard_model.specs.Coordinator.{Coordinator, Moving, coordinator_after, stamp, begin, registered, home_of}
use Rattle.yard_model.specs.Move.{Move, told, item_of}
use Rattle.yard_model.specs.Setting.{shards}
use Rattle.yard_model.specs.ShardSet.{has}
use Rattle.yard_model.specs.Words.{is_empty, is_stamp, numbers}
use Rattle.handoff_steps.specs.Places.{all_shards}
use Rattle.handoff_steps.proofs.PlaceLaws.{length-shards, shard_at}
use Rattle.coordinator_actor.specs.Parts.{at_shard, begin_one, begin_each, next_stamp, opened, shards_in}
use Rattle.coordinator_actor.proofs.MoveLaws.{asked_state}
use Rattle.coordinator_actor.proofs.Same.{and_both, both, not_so}

-- Some moves, and the rest.

pub more_items : (ms rest : List Move) (old new all : List Item) → new ≡ old ++ flat_map item_of ms → old ++ flat_map item_of (ms ++ rest) ≡ all → new ++ flat_map item_of rest ≡ all
more_items ms rest old new all made inv =
    ap (λ (l : List Item). l ++ flat_map item_of rest) made
    ∙ (append_assoc old (flat_map item_of ms) (flat_map item_of rest)
    ∙ (ap (λ (l : List Item). old ++ l) (sym (flat_map-append item_of ms rest)) ∙ inv))

pub more_length : (ms rest : List Move) → length (flat_map item_of (ms ++ rest)) ≡ length (flat_map item_of ms) + length (flat_map item_of rest)
more_length ms rest = ap (λ (l : List Item). length l) (flat_map-append item_of ms rest) ∙ length-append (flat_map item_of ms) (flat_map item_of rest)

-- the first of the numbers that are left
pub numbers_first : (i n : ℕ) → i < n → numbers i (n - i) ≡ i ∷ numbers (i + 1) (n - (i + 1))
numbers_first i n h = let less : n - i ≡ suc (n - (i + 1)) = omega arith in rw less refl

pub none_left : (n : ℕ) → numbers n (n - n) ≡ []
none_left n = let none : n - n ≡ 0 = omega arith in rw none refl

pub left_first : (f : ℕ → List Move) (i n : ℕ) → i < n → flat_map f (numbers i (n - i)) ≡ f i ++ flat_map f (numbers (i + 1) (n - (i + 1)))
left_first f i n h = ap (λ (l : List ℕ). flat_map f l) (numbers_first i n h)

-- A round begins.

pub each_in : (f : ℕ → List Move) (p : ℕ → Bool) (xs : List ℕ) → flat_map f (filter p xs) ≡ flat_map (λ s. if p s then f s else []) xs
each_in f p [] = refl
each_in f p (x ∷ xs) = step (p x) (each_in f p xs)
  where
    step : (b : Bool) → flat_map f (filter p xs) ≡ flat_map (λ s. if p s then f s else []) xs → flat_map f (cond b (x ∷ filter p xs) (filter p xs)) ≡ (if b then f x else []) ++ flat_map (λ s. if p s then f s else []) xs
    step true e = ap (λ (l : List Move). f x ++ l) e
    step false e = e

pub begin_is : (set : ℕ) (next : Stamp) (st : Coordinator) → next ≡ next_stamp st → begin (shards_in set st) st ≡ begin_each set next st
begin_is set next st e = each_in (λ s. begin_one s (next_stamp st) st) (has set) (shards st.set) ∙ ap (λ n. begin_each set n st) (sym e)

same_stamp : (a : Stamp) → is_stamp a a ≡ true
same_stamp a = both (a.epoch == a.epoch) (a.round == a.round) ((Decides-eqb a.epoch a.epoch).1 refl) ((Decides-eqb a.round a.round).1 refl)

-- the next stamp is another
not_next : (e n : ℕ) → is_stamp (record { epoch = e; round = n + 1 }) (record { epoch = e; round = n }) ≡ false
not_next e n = not_so (is_stamp (record { epoch = e; round = n + 1 }) (record { epoch = e; round = n })) (λ same.
    let r : n + 1 ≡ n = (Decides-eqb (n + 1) n).0 (and_both (e == e) ((n + 1) == n) same).1 in absurd (omega (arith, r)))

abbrev begins_to : Coordinator → ℕ → Moving
begins_to st s = record { shard = s; owner = home_of st s; awaited = registered st }

-- with these shards in the next round
abbrev with_round : Coordinator → List Moving → Coordinator
with_round st ms = record { who = st.who; set = st.set; entries = st.entries; quitting = st.quitting; started = st.started; moving = ms; begun = st.begun + 1 }

first_joined : (st : Coordinator) (s : ℕ) → fold coordinator_after st (begin_one s (next_stamp st) st) ≡ with_round st (begins_to st s ∷ [])
first_joined st s =
    asked_state st.who (body.BeginHandOff s (next_stamp st)) (registered st) (coordinator_after st (told (fact.Moving s (next_stamp st))))
    ∙ ap (λ b. let k : Coordinator = record {
      who = st.who;
      set = st.set;
      entries = st.entries;
      quitting = st.quitting;
      started = st.started;
      moving = (if b then st.moving else []) ++ begins_to st s ∷ [];
      begun = if b then st.begun else st.begun + 1;
    } in k) (not_next (stamp st).epoch st.begun)

one_joined : (st : Coordinator) (s : ℕ) (ms : List Moving) → fold coordinator_after (with_round st ms) (begin_one s (next_stamp st) st) ≡ with_round st (ms ++ begins_to st s ∷ [])
one_joined st s ms =
    asked_state st.who (body.BeginHandOff s (next_stamp st)) (registered st) (coordinator_after (with_round st ms) (told (fact.Moving s (next_stamp st))))
    ∙ ap (λ b. let k : Coordinator = record {
      who = st.who;
      set = st.set;
      entries = st.entries;
      quitting = st.quitting;
      started = st.started;
      moving = (if b then ms else []) ++ begins_to st s ∷ [];
      begun = if b then st.begun + 1 else st.begun + 1 + 1;
    } in k) (same_stamp (next_stamp st))

joined : (st : Coordinator) (ss : List ℕ) (ms : List Moving) → fold coordinator_after (with_round st ms) (flat_map (λ s. begin_one s (next_stamp st) st) ss) ≡ with_round st (ms ++ map (begins_to st) ss)
joined st [] ms = ap (with_round st) (sym (append-nil ms))
joined st (s ∷ ss) ms =
    fold-append coordinator_after (with_round st ms) (begin_one s (next_stamp st) st) (flat_map (λ s. begin_one s (next_stamp st) st) ss)
    ∙ (ap (λ k. fold coordinator_after k (flat_map (λ s. begin_one s (next_stamp st) st) ss)) (one_joined st s ms)
    ∙ (joined st ss (ms ++ begins_to st s ∷ [])
    ∙ ap (with_round st) (append_assoc ms (begins_to st s ∷ []) (map (begins_to st) ss))))

-- the state once all have begun to move
pub opened_is : (st : Coordinator) (ss : List ℕ) → is_empty ss ≡ false → fold coordinator_after st (begin ss st) ≡ opened ss st
opened_is st [] e = absurd cc
opened_is st (s ∷ ss) e =
    fold-append coordinator_after st (begin_one s (next_stamp st) st) (flat_map (λ s. begin_one s (next_stamp st) st) ss)
    ∙ (ap (λ k. fold coordinator_after k (flat_map (λ s. begin_one s (next_stamp st) st) ss)) (first_joined st s) ∙ joined st ss (begins_to st s ∷ []))

pub nothing_begins : (st : Coordinator) (ss : List ℕ) → is_empty ss ≡ true → begin ss st ≡ []
nothing_begins st [] e = refl
nothing_begins st (s ∷ ss) e = absurd cc

-- All shards that can be, one after the other.

pub first_left : (f : ℕ → List Move) (i : ℕ) → i < 128 → flat_map f (drop i all_shards) ≡ f i ++ flat_map f (drop (i + 1) all_shards)
first_left f i h = ap (λ (l : List ℕ). flat_map f l) (drop_more all_shards i 0 (omega (arith, length-shards, h)) ∙ ap (λ n. n ∷ drop (i + 1) all_shards) (shard_at i h))

pub all_told : (f : ℕ → List Move) (i : ℕ) → 128 ≤ i → flat_map f (drop i all_shards) ≡ []
all_told f i h = ap (λ (l : List ℕ). flat_map f l) (drop_all i all_shards (omega (arith, length-shards, h)))

pub flat_twice : {X Y : Type 0} (f : Y → List Move) (g : X → List Y) (xs : List X) → flat_map f (flat_map g xs) ≡ flat_map (λ x. flat_map f (g x)) xs
flat_twice f g [] = refl
flat_twice f g (x ∷ xs) = flat_map-append f (g x) (flat_map g xs) ∙ ap (λ (l : List Move). flat_map f (g x) ++ l) (flat_twice f g xs)

-- shard by shard
pub by_shard : (f : Moving → List Move) (xs : List Moving) → xs ≡ flat_map (λ s. at_shard s xs) all_shards → flat_map f xs ≡ flat_map (λ s. flat_map f (at_shard s xs)) all_shards
by_shard f xs rising = ap (λ (l : List Moving). flat_map f l) rising ∙ flat_twice f (λ s. at_shard s xs) all_shards

-- with this round
abbrev pub with_moving : Coordinator → List Moving → ℕ → Coordinator
with_moving st ms begun = record { who = st.who; set = st.set; entries = st.entries; quitting = st.quitting; started = st.started; moving = ms; begun = begun }

-- an item, and others after it
pub told_then : (old mid new more : List Item) (f : Item) → mid ≡ old ++ f ∷ [] → new ≡ mid ++ more → new ≡ old ++ f ∷ more
told_then old mid new more f first last = last ∙ (ap (λ (l : List Item). l ++ more) first ∙ append_assoc old (f ∷ []) more)
