-- What never changes, and how many items a rule gives at most.
use Rattle.std.proofs.Common.{◌≡◌, ℕ, ◌+◌, ◌≤◌, List, [], ◌∷◌, ◌++◌, length, ap, ◌∙◌, refl, arith, length-append}
use Rattle.std.specs.Prelude.{Bool, true, false, ◌&&◌, not, nat_le, zero, suc, fold, Option, Some, None, is_none, if◌then◌else◌, slice_index_or, nat_lt, sum_by}
use Rattle.std.specs.List.{flat_map}
use Rattle.std.proofs.lemmas.Grind.{flat_map-append}
use Rattle.yard_model.specs.declared.fact.Fact.TheVariants as fact
use Rattle.yard_model.specs.declared.incarnation.Incarnation.{Incarnation}
use Rattle.yard_model.specs.declared.incarnation.Stamp.{Stamp}
use Rattle.yard_model.specs.declared.packet.Body.{Body}
use Rattle.yard_model.specs.declared.packet.Body.TheVariants as body
use Rattle.yard_model.specs.declared.packet.Message.{Message}
use Rattle.yard_model.specs.Move.{Move, told, post, marked, item_of}
use Rattle.yard_model.specs.Region.{Region, region_after, home, mark, oldest, register, leave, keep, ask, route_away, route_by, post_oldest, forget, forget_lost, take_view, learn, takes_home, takes_host, begin_hand_off, ask_again, is_some_home, tick_region, kept_of}
use Rattle.yard_model.specs.Setting.{shards, shard_of}
use Rattle.yard_model.specs.Turns.{where_some}
use Rattle.yard_model.specs.Words.{numbers, is_at, is_same, is_among, is_below, is_empty}
use Rattle.region_actor.specs.Handled.{handled, routed, is_local}

pub same_who : (st : Region) (moves : List Move) → (fold region_after st moves).who ≡ st.who
same_who st [] = refl
same_who st (m ∷ ms) = same_who (region_after st m) ms

pub same_set : (st : Region) (moves : List Move) → (fold region_after st moves).set ≡ st.set
same_set st [] = refl
same_set st (m ∷ ms) = same_set (region_after st m) ms

-- these moves give at most n items
abbrev Gives : ℕ → List Move → Type 0
Gives n ms = length (flat_map item_of ms) ≤ n

if_gives : (n : ℕ) (xs ys : List Move) → Gives n xs → Gives n ys → (b : Bool) → Gives n (if b then xs else ys)
if_gives n xs ys h k true = h
if_gives n xs ys h k false = k

some_gives : {X : Type 0} (n : ℕ) (f : X → List Move) → ((x : X) → Gives n (f x)) → (o : Option X) → Gives n (where_some f o)
some_gives n f h None = omega arith
some_gives n f h (Some x) = h x

both_give : (m n : ℕ) (xs ys : List Move) → Gives m xs → Gives n ys → Gives (m + n) (xs ++ ys)
both_give m n xs ys h k =
    let e : length (flat_map item_of (xs ++ ys)) ≡ length (flat_map item_of xs) + length (flat_map item_of ys) = ap length (flat_map-append item_of xs ys) ∙ length-append (flat_map item_of xs) (flat_map item_of ys) in
    omega (arith, e, h, k)

each_gives : (p : ℕ → List Move) → ((s : ℕ) → Gives 1 (p s)) → (a n : ℕ) → Gives n (flat_map p (numbers a n))
each_gives p h a zero = omega arith
each_gives p h a (suc n) = let k : Gives (1 + n) (p a ++ flat_map p (numbers (a + 1) n)) = both_give 1 n (p a) (flat_map p (numbers (a + 1) n)) (h a) (each_gives p h (a + 1) n) in omega (arith, k)

more : (m n : ℕ) (xs : List Move) → m ≤ n → Gives m xs → Gives n xs
more m n xs h k = omega (arith, h, k)

post_gives : (b : Body) (st : Region) → Gives 1 (post_oldest b st)
post_gives b st = some_gives 1 (λ x. post st.who x b ∷ []) (λ x. omega arith) (oldest st)

pub register_room : (st : Region) → Gives 1 (register st)
register_room st = some_gives 1 (λ x. if is_at x st.registered then [] else post st.who x body.Register ∷ [])
    (λ x. if_gives 1 [] (post st.who x body.Register ∷ []) (omega arith) (omega arith) (is_at x st.registered)) (oldest st)

pub leave_room : (st : Region) → Gives 1 (leave st)
leave_room st = post_gives body.GracefulShutdownReq st

keep_gives : (m : Message) (st : Region) → Gives 1 (keep m st)
keep_gives m st = if_gives 1 (told (fact.Kept st.who m) ∷ []) (told (fact.Dropped st.who m) ∷ []) (omega arith) (omega arith) (nat_lt (sum_by length st.kept) st.set.config.buffer)

ask_gives : (s : ℕ) (st : Region) → Gives 1 (ask s st)
ask_gives s st = if_gives 1 [] (post_oldest (body.GetShardHome s) st) (omega arith) (post_gives (body.GetShardHome s) st) (slice_index_or st.asked s false)

by_gives : (m : Message) (st : Region) (o : Option Incarnation) → Gives 2 (route_by m st o)
by_gives m st None = both_give 1 1 (keep m st) (ask (shard_of st.set m.entity) st) (keep_gives m st) (ask_gives (shard_of st.set m.entity) st)
by_gives m st (Some h) = if_gives 2 (keep m st) (post st.who h (body.Sequenced m) ∷ []) (more 1 2 (keep m st) (omega arith) (keep_gives m st)) (omega arith) (is_same h st.who)

pub away_room : (m : Message) (st : Region) → Gives 2 (route_away m st)
away_room m st = by_gives m st (home st (shard_of st.set m.entity))

pub route_room : (m : Message) (running : Bool) (st : Region) → Gives 2 (routed m running st)
route_room m running st = if_gives 2 [] (route_away m st) (omega arith) (away_room m st) (is_local m running st)

pub tick_room : (st : Region) → Gives (st.set.config.shards + 2) (tick_region st)
tick_room st =
    let last : Gives st.set.config.shards (flat_map (ask_again st) (shards st.set)) = each_gives (ask_again st)
    (λ s. if_gives 1 (post_oldest (body.GetShardHome s) st) [] (post_gives (body.GetShardHome s) st) (omega arith) (is_none (home st s) && not (is_empty (kept_of st.kept s)))) 0 st.set.config.shards in
    let second : List Move = if st.leaving && is_some_home st then post_oldest body.GracefulShutdownReq st else [] in
    let two : Gives 1 second = if_gives 1 (post_oldest body.GracefulShutdownReq st) [] (post_gives body.GracefulShutdownReq st) (omega arith) (st.leaving && is_some_home st) in
    let first : Gives 2 (register st ++ second) = both_give 1 1 (register st) second (register_room st) two in
    more (2 + st.set.config.shards) (st.set.config.shards + 2) (tick_region st) (omega arith)
    (both_give 2 st.set.config.shards (register st ++ second) (flat_map (ask_again st) (shards st.set)) first last)

forget_gives : (s : ℕ) (st : Region) → Gives 1 (forget s st)
forget_gives s st = if_gives 1 [] (told (fact.Forget st.who s) ∷ []) (omega arith) (omega arith) (is_none (home st s))

view_gives : (v : ℕ) (xs : List Incarnation) (st : Region) → Gives (1 + st.set.config.shards) (take_view v xs st)
view_gives v xs st =
    both_give 1 st.set.config.shards (told (fact.View st.who v) ∷ []) (flat_map (forget_lost xs st) (shards st.set)) (omega arith)
    (each_gives (forget_lost xs st) (λ s. some_gives 1 (λ h. if is_among h xs then [] else forget s st) (λ h. if_gives 1 [] (forget s st) (omega arith) (forget_gives s st) (is_among h xs)) (home st s)) 0 st.set.config.shards)

learn_gives : (s : ℕ) (h : Incarnation) (stamp : Stamp) (st : Region) → Gives 1 (learn s h stamp st)
learn_gives s h stamp st = if_gives 1 [] (told (fact.Home st.who s h) ∷ []) (omega arith) (omega arith) (is_at h (home st s))

begin_gives : (s : ℕ) (stamp : Stamp) (from : Incarnation) (st : Region) → Gives 2 (begin_hand_off s stamp from st)
begin_gives s stamp from st =
    let first : List Move = if is_below (mark st s) stamp then marked s stamp ∷ forget s st else [] in
    let last : List Move = post st.who from (body.BeginHandOffAck s stamp) ∷ [] in
    if_gives 2 [] (first ++ last) (omega arith)
    (both_give 1 1 first last (if_gives 1 (marked s stamp ∷ forget s st) [] (forget_gives s st) (omega arith) (is_below (mark st s) stamp)) (omega arith))
    (is_below stamp (mark st s))

pub handle_room : (from : Incarnation) (b : Body) (st : Region) → Gives (st.set.config.shards + 2) (handled from b st)
handle_room from (body.View v xs) st = if_gives (st.set.config.shards + 2) [] (take_view v xs st) (omega arith) (more (1 + st.set.config.shards) (st.set.config.shards + 2) (take_view v xs st) (omega arith) (view_gives v xs st)) (nat_le v st.version)
handle_room from (body.ShardHome s h stamp) st = if_gives (st.set.config.shards + 2) (learn s h stamp st) [] (more 1 (st.set.config.shards + 2) (learn s h stamp st) (omega arith) (learn_gives s h stamp st)) (omega arith) (takes_home s h stamp st)
handle_room from (body.HostShard s stamp) st = if_gives (st.set.config.shards + 2) (learn s st.who stamp st) [] (more 1 (st.set.config.shards + 2) (learn s st.who stamp st) (omega arith) (learn_gives s st.who stamp st)) (omega arith) (takes_host s stamp st)
handle_room from (body.BeginHandOff s stamp) st = more 2 (st.set.config.shards + 2) (begin_hand_off s stamp from st) (omega arith) (begin_gives s stamp from st)
handle_room from b st = omega arith
