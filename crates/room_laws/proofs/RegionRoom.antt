-- How many items a rule of a region gives at most, and how many messages it keeps.
use Rattle.std.proofs.Common.{◌≡◌, ℕ, ◌+◌, ◌*◌, ◌-◌, ◌≤◌, List, [], ◌∷◌, ◌++◌, length, ap, refl, arith}
use Rattle.std.specs.Prelude.{Bool, true, false, ◌&&◌, not, nat_lt, suc, Option, Some, None, is_none, slice_index_or, slice_set, drop, sum_by, if◌then◌else◌}
use Rattle.std.specs.List.{flat_map}
use Rattle.std.proofs.lemmas.List.{get_or_past}
use Rattle.std.proofs.lemmas.List.Sums.{sum_by-set, get_or-le-sum_by}
use Rattle.yard_model.specs.declared.fact.Fact.TheVariants as fact
use Rattle.yard_model.specs.declared.incarnation.Incarnation.{Incarnation}
use Rattle.yard_model.specs.declared.incarnation.Stamp.{Stamp}
use Rattle.yard_model.specs.declared.packet.Body.{Body}
use Rattle.yard_model.specs.declared.packet.Body.TheVariants as body
use Rattle.yard_model.specs.declared.packet.Message.{Message}
use Rattle.yard_model.specs.Coordinator.{registered}
use Rattle.yard_model.specs.Move.{Move, told, post, marked, released, item_of}
use Rattle.yard_model.specs.Region as region
use Rattle.yard_model.specs.Region.{Region, region_after, home, oldest}
use Rattle.yard_model.specs.Setting.{shards, shard_of}
use Rattle.yard_model.specs.Words.{numbers, at, is_at, is_among, is_same, is_empty, is_below}
use Rattle.plain_laws.proofs.Booleans.{below, not_below}
use Rattle.room_laws.proofs.Gives.{Gives, more, if_gives, some_gives, both_give, each_gives, length_numbers}

post_gives : (b : Body) (st : Region) → Gives 1 (region.post_oldest b st)
post_gives b st = some_gives 1 (λ x. post st.who x b ∷ []) (λ x. omega arith) (oldest st)

pub register_room : (st : Region) → length (flat_map item_of (region.register st)) ≤ 1
register_room st = some_gives 1 (λ x. if is_at x st.registered then [] else post st.who x body.Register ∷ [])
    (λ x. if_gives 1 [] (post st.who x body.Register ∷ []) (omega arith) (omega arith) (is_at x st.registered)) (oldest st)

pub leave_room : (st : Region) → length (flat_map item_of (region.leave st)) ≤ 1
leave_room st = post_gives body.GracefulShutdownReq st

keep_gives : (m : Message) (st : Region) → Gives 1 (region.keep m st)
keep_gives m st = if_gives 1 (told (fact.Kept st.who m) ∷ []) (told (fact.Dropped st.who m) ∷ []) (omega arith) (omega arith) (nat_lt (sum_by length st.kept) st.set.config.buffer)

ask_gives : (s : ℕ) (st : Region) → Gives 1 (region.ask s st)
ask_gives s st = if_gives 1 [] (region.post_oldest (body.GetShardHome s) st) (omega arith) (post_gives (body.GetShardHome s) st) (slice_index_or st.asked s false)

by_gives : (m : Message) (st : Region) (o : Option Incarnation) → Gives 2 (region.route_by m st o)
by_gives m st None = both_give 1 1 (region.keep m st) (region.ask (shard_of st.set m.entity) st) (keep_gives m st) (ask_gives (shard_of st.set m.entity) st)
by_gives m st (Some h) = if_gives 2 (region.keep m st) (post st.who h (body.Sequenced m) ∷ []) (more 1 2 (region.keep m st) (omega arith) (keep_gives m st)) (omega arith) (is_same h st.who)

pub away_room : (m : Message) (st : Region) → length (flat_map item_of (region.route_away m st)) ≤ 2
away_room m st = by_gives m st (home st (shard_of st.set m.entity))

forget_gives : (s : ℕ) (st : Region) → Gives 1 (region.forget s st)
forget_gives s st = if_gives 1 [] (told (fact.Forget st.who s) ∷ []) (omega arith) (omega arith) (is_none (home st s))

-- of each shard at most one
each_shard : (p : ℕ → List Move) → ((s : ℕ) → Gives 1 (p s)) → (n : ℕ) → Gives n (flat_map p (numbers 0 n))
each_shard p h n = let k : Gives (length (numbers 0 n) * 1) (flat_map p (numbers 0 n)) = each_gives 1 p h (numbers 0 n) in let e : length (numbers 0 n) ≡ n = length_numbers 0 n in omega (arith, k, e)

pub view_room : (v : ℕ) (xs : List Incarnation) (st : Region) → length (flat_map item_of (region.take_view v xs st)) ≤ 1 + st.set.config.shards
view_room v xs st =
    both_give 1 st.set.config.shards (told (fact.View st.who v) ∷ []) (flat_map (region.forget_lost xs st) (shards st.set)) (omega arith)
    (each_shard (region.forget_lost xs st) (λ s. some_gives 1 (λ h. if is_among h xs then [] else region.forget s st) (λ h. if_gives 1 [] (region.forget s st) (omega arith) (forget_gives s st) (is_among h xs)) (home st s)) st.set.config.shards)

pub learn_room : (s : ℕ) (h : Incarnation) (stamp : Stamp) (st : Region) → length (flat_map item_of (region.learn s h stamp st)) ≤ 1
learn_room s h stamp st = if_gives 1 [] (told (fact.Home st.who s h) ∷ []) (omega arith) (omega arith) (is_at h (home st s))

pub begin_hand_off_room : (s : ℕ) (stamp : Stamp) (from : Incarnation) (st : Region) → length (flat_map item_of (region.begin_hand_off s stamp from st)) ≤ 2
begin_hand_off_room s stamp from st =
    let first : List Move = if is_below (region.mark st s) stamp then marked s stamp ∷ region.forget s st else [] in
    let last : List Move = post st.who from (body.BeginHandOffAck s stamp) ∷ [] in
    if_gives 2 [] (first ++ last) (omega arith)
    (both_give 1 1 first last (if_gives 1 (marked s stamp ∷ region.forget s st) [] (forget_gives s st) (omega arith) (is_below (region.mark st s) stamp)) (omega arith))
    (is_below stamp (region.mark st s))

pub tick_region_room : (st : Region) → length (flat_map item_of (region.tick_region st)) ≤ st.set.config.shards + 2
tick_region_room st =
    let last : Gives st.set.config.shards (flat_map (region.ask_again st) (shards st.set)) = each_shard (region.ask_again st)
    (λ s. if_gives 1 (region.post_oldest (body.GetShardHome s) st) [] (post_gives (body.GetShardHome s) st) (omega arith) (is_none (home st s) && not (is_empty (region.kept_of st.kept s)))) st.set.config.shards in
    let second : List Move = if st.leaving && region.is_some_home st then region.post_oldest body.GracefulShutdownReq st else [] in
    let two : Gives 1 second = if_gives 1 (region.post_oldest body.GracefulShutdownReq st) [] (post_gives body.GracefulShutdownReq st) (omega arith) (st.leaving && region.is_some_home st) in
    let first : Gives 2 (region.register st ++ second) = both_give 1 1 (region.register st) second (register_room st) two in
    more (2 + st.set.config.shards) (st.set.config.shards + 2) (region.tick_region st) (omega arith)
    (both_give 2 st.set.config.shards (region.register st ++ second) (flat_map (region.ask_again st) (shards st.set)) first last)

-- Kept messages.

-- one less is kept in all
pub released_room : (st : Region) (s : ℕ) (m : Message) → region.kept_of st.kept s ≡ m ∷ drop 1 (region.kept_of st.kept s) → sum_by length (region_after st (released s)).kept + 1 ≡ sum_by length st.kept
released_room st s m is = by (nat_lt s (length st.kept)) refl
  where
    long : length (region.kept_of st.kept s) ≡ 1 + length (drop 1 (region.kept_of st.kept s))
    long = let e : length (region.kept_of st.kept s) ≡ suc (length (drop 1 (region.kept_of st.kept s))) = ap length is in omega (arith, e)

    by : (b : Bool) → nat_lt s (length st.kept) ≡ b → sum_by length (slice_set st.kept s (drop 1 (region.kept_of st.kept s))) + 1 ≡ sum_by length st.kept
    by true less =
        let e : sum_by length (slice_set st.kept s (drop 1 (region.kept_of st.kept s))) + length (region.kept_of st.kept s) ≡ sum_by length st.kept + length (drop 1 (region.kept_of st.kept s)) =
        sum_by-set length st.kept s (drop 1 (region.kept_of st.kept s)) [] (below s (length st.kept) less) in
        omega (arith, e, long)
    by false past =
        let none : length (region.kept_of st.kept s) ≡ 0 = ap length (get_or_past st.kept s [] (not_below s (length st.kept) past)) in
        absurd (omega (arith, none, long))

-- of one shard no more are kept than in all
pub kept_within : (kept : List (List Message)) (s : ℕ) → length (region.kept_of kept s) ≤ sum_by length kept
kept_within kept s = by (nat_lt s (length kept)) refl
  where
    by : (b : Bool) → nat_lt s (length kept) ≡ b → length (region.kept_of kept s) ≤ sum_by length kept
    by true less = get_or-le-sum_by length kept s [] (below s (length kept) less)
    by false past = let none : length (region.kept_of kept s) ≡ 0 = ap length (get_or_past kept s [] (not_below s (length kept) past)) in omega (arith, none)
