-- Free facts, and the region's rules.
use Rattle.std.proofs.Common.{◌≡◌, ℕ, sym, ◌∙◌, refl}
use Rattle.std.specs.Prelude.{Bool, true, false, ◌&&◌, not, nat_lt, List, [], ◌∷◌, ◌++◌, length, Option, Some, None, is_none, if◌then◌else◌, slice_index_or}
use Rattle.std.specs.List.{list_all, flat_map, sum_by}
use Rattle.std.proofs.lemmas.List.Folds.{list_all-append}
use Rattle.yard_model.specs.declared.fact.Fact.{Fact}
use Rattle.yard_model.specs.declared.fact.Fact.TheVariants as fact
use Rattle.yard_model.specs.declared.packet.Body.{Body}
use Rattle.yard_model.specs.declared.packet.Body.TheVariants as body
use Rattle.yard_model.specs.declared.packet.Message.{Message}
use Rattle.yard_model.specs.declared.incarnation.Incarnation.{Incarnation}
use Rattle.yard_model.specs.declared.incarnation.Stamp.{Stamp}
use Rattle.yard_model.specs.Script.{Script, setting}
use Rattle.yard_model.specs.Setting.{shards, shard_of}
use Rattle.yard_model.specs.Words.{is_same, is_at, is_among, is_empty, is_below}
use Rattle.yard_model.specs.Turns.{where_some}
use Rattle.yard_model.specs.Trace.{lists_of, lists_step}
use Rattle.yard_model.specs.SlotLists.{SlotLists}
use Rattle.yard_model.specs.Era.{upgrade_step, version_in}
use Rattle.yard_model.specs.Safe.{live_at, live_step}
use Rattle.std.proofs.lemmas.List.Sums.{fold-append}
use Rattle.yard_model.specs.Move.{Move, marked, told, post}
use Rattle.yard_model.specs.Region as region
use Rattle.yard_model.specs.Region.{Region}
use Rattle.yard_laws.specs.Free.{is_free, is_free_move, FreeIsGuarded, FreeLeavesLists, FreeLeavesLive, FreeLeavesVersion, RegionIsFree}
use Rattle.plain_laws.proofs.Booleans.{true_is_not_false, both}
use Rattle.yard_laws.proofs.Owns.{lists_more}
use Rattle.yard_laws.proofs.SafetyLaws.{live_more}

pub free_is_guarded : FreeIsGuarded
free_is_guarded c trace (fact.At n) h = refl
free_is_guarded c trace fact.Nothing h = refl
free_is_guarded c trace fact.WireFull h = refl
free_is_guarded c trace fact.Settled h = refl
free_is_guarded c trace (fact.Up x) h = refl
free_is_guarded c trace (fact.View x v) h = refl
free_is_guarded c trace (fact.Sent k p) h = refl
free_is_guarded c trace (fact.Got k) h = refl
free_is_guarded c trace (fact.Held s x n) h = refl
free_is_guarded c trace (fact.Moving s stamp) h = refl
free_is_guarded c trace (fact.Home x s t) h = refl
free_is_guarded c trace (fact.Forget x s) h = refl
free_is_guarded c trace (fact.Kept x m) h = refl
free_is_guarded c trace (fact.Dropped x m) h = refl
free_is_guarded c trace (fact.Stashed x m) h = refl
free_is_guarded c trace (fact.Armed e k) h = refl
free_is_guarded c trace (fact.Waits p e k) h = refl
free_is_guarded c trace (fact.SentAsk k x) h = refl
free_is_guarded c trace (fact.SentJob k x e) h = refl
free_is_guarded c trace (fact.SentDone k x e) h = refl
free_is_guarded c trace (fact.Given e x) h = refl
free_is_guarded c trace (fact.Did x e) h = refl
free_is_guarded c trace f h = absurd (true_is_not_false (sym h))

step_free : (c : Script) (lists : SlotLists) (f : Fact) → is_free f ≡ true → lists_step (setting c) lists f ≡ lists
step_free c lists (fact.At n) h = refl
step_free c lists fact.Nothing h = refl
step_free c lists fact.WireFull h = refl
step_free c lists fact.Settled h = refl
step_free c lists (fact.Up x) h = refl
step_free c lists (fact.View x v) h = refl
step_free c lists (fact.Sent k p) h = refl
step_free c lists (fact.Got k) h = refl
step_free c lists (fact.Held s x n) h = refl
step_free c lists (fact.Moving s stamp) h = refl
step_free c lists (fact.Home x s t) h = refl
step_free c lists (fact.Forget x s) h = refl
step_free c lists (fact.Kept x m) h = refl
step_free c lists (fact.Dropped x m) h = refl
step_free c lists (fact.Stashed x m) h = refl
step_free c lists (fact.Armed e k) h = refl
step_free c lists (fact.Waits p e k) h = refl
step_free c lists (fact.SentAsk k x) h = refl
step_free c lists (fact.SentJob k x e) h = refl
step_free c lists (fact.SentDone k x e) h = refl
step_free c lists (fact.Given e x) h = refl
step_free c lists (fact.Did x e) h = refl
step_free c lists f h = absurd (true_is_not_false (sym h))

live_free : (e : List ℕ) (live : List Incarnation) (f : Fact) → is_free f ≡ true → live_step e live f ≡ live
live_free e live (fact.Start x n) h = absurd (true_is_not_false (sym h))
live_free e live (fact.Stop x n) h = absurd (true_is_not_false (sym h))
live_free e live (fact.WriteFailed x n) h = absurd (true_is_not_false (sym h))
live_free e live (fact.Gone x) h = absurd (true_is_not_false (sym h))
live_free e live f h = refl

pub free_leaves_lists : FreeLeavesLists
free_leaves_lists c trace f h = lists_more c trace f ∙ step_free c (lists_of (setting c) trace) f h

pub free_leaves_live : FreeLeavesLive
free_leaves_live e trace f h = live_more e trace f ∙ live_free e (live_at e trace) f h

version_free : (v : ℕ) (f : Fact) → is_free f ≡ true → upgrade_step v f ≡ v
version_free v (fact.Upgrade w) h = absurd (true_is_not_false (sym h))
version_free v f h = refl

pub free_leaves_version : FreeLeavesVersion
free_leaves_version trace f h = fold-append upgrade_step 1 trace (f ∷ []) ∙ version_free (version_in trace) f h

-- Moves that are put together.

abbrev pub AreFree : List Move → Type 0
AreFree ms = list_all is_free_move ms ≡ true

pub join : (xs ys : List Move) → AreFree xs → AreFree ys → AreFree (xs ++ ys)
join xs ys e f = list_all-append is_free_move xs ys ∙ both (list_all is_free_move xs) (list_all is_free_move ys) e f

pub either : (b : Bool) (xs ys : List Move) → AreFree xs → AreFree ys → AreFree (if b then xs else ys)
either true xs ys e f = e
either false xs ys e f = f

pub of_some : {X : Type 0} (f : X → List Move) (o : Option X) → ((x : X) → AreFree (f x)) → AreFree (where_some f o)
of_some f None h = refl
of_some f (Some x) h = h x

pub of_each : {X : Type 0} (f : X → List Move) (xs : List X) → ((x : X) → AreFree (f x)) → AreFree (flat_map f xs)
of_each f [] h = refl
of_each f (x ∷ xs) h = join (f x) (flat_map f xs) (h x) (of_each f xs h)

-- The region.

oldest_free : (b : Body) (st : Region) → AreFree (region.post_oldest b st)
oldest_free b st = of_some (λ x. post st.who x b ∷ []) (region.oldest st) (λ x. refl)

keep_free : (m : Message) (st : Region) → AreFree (region.keep m st)
keep_free m st = either (nat_lt (sum_by length st.kept) st.set.config.buffer) (told (fact.Kept st.who m) ∷ []) (told (fact.Dropped st.who m) ∷ []) refl refl

ask_free : (s : ℕ) (st : Region) → AreFree (region.ask s st)
ask_free s st = either (slice_index_or st.asked s false) [] (region.post_oldest (body.GetShardHome s) st) refl (oldest_free (body.GetShardHome s) st)

route_free : (m : Message) (st : Region) (o : Option Incarnation) → AreFree (region.route_by m st o)
route_free m st None = join (region.keep m st) (region.ask (shard_of st.set m.entity) st) (keep_free m st) (ask_free (shard_of st.set m.entity) st)
route_free m st (Some h) = either (is_same h st.who) (region.keep m st) (post st.who h (body.Sequenced m) ∷ []) (keep_free m st) refl

register_free : (st : Region) → AreFree (region.register st)
register_free st = of_some (λ x. if is_at x st.registered then [] else post st.who x body.Register ∷ []) (region.oldest st) (λ x. either (is_at x st.registered) [] (post st.who x body.Register ∷ []) refl refl)

forget_free : (s : ℕ) (st : Region) → AreFree (region.forget s st)
forget_free s st = either (is_none (region.home st s)) [] (told (fact.Forget st.who s) ∷ []) refl refl

lost_free : (xs : List Incarnation) (st : Region) (s : ℕ) → AreFree (region.forget_lost xs st s)
lost_free xs st s = of_some (λ h. if is_among h xs then [] else region.forget s st) (region.home st s) (λ h. either (is_among h xs) [] (region.forget s st) refl (forget_free s st))

hand_off_free : (s : ℕ) (stamp : Stamp) (from : Incarnation) (st : Region) → AreFree (region.begin_hand_off s stamp from st)
hand_off_free s stamp from st =
    let told_home : List Move = if is_below (region.mark st s) stamp then marked s stamp ∷ region.forget s st else [] in
    let answer : List Move = post st.who from (body.BeginHandOffAck s stamp) ∷ [] in
    either (is_below stamp (region.mark st s)) [] (told_home ++ answer) refl
    (join told_home answer (either (is_below (region.mark st s) stamp) (marked s stamp ∷ region.forget s st) [] (forget_free s st) refl) refl)

again_free : (st : Region) (s : ℕ) → AreFree (region.ask_again st s)
again_free st s = either (is_none (region.home st s) && not (is_empty (region.kept_of st.kept s))) (region.post_oldest (body.GetShardHome s) st) [] (oldest_free (body.GetShardHome s) st) refl

tick_free : (st : Region) → AreFree (region.tick_region st)
tick_free st =
    let goes : List Move = if st.leaving && region.is_some_home st then region.post_oldest body.GracefulShutdownReq st else [] in
    join (region.register st ++ goes) (flat_map (region.ask_again st) (shards st.set))
    (join (region.register st) goes (register_free st) (either (st.leaving && region.is_some_home st) (region.post_oldest body.GracefulShutdownReq st) [] (oldest_free body.GracefulShutdownReq st) refl))
    (of_each (region.ask_again st) (shards st.set) (again_free st))

pub region_is_free : RegionIsFree
region_is_free st = record {
  routed = λ m. route_free m st (region.home st (shard_of st.set m.entity));
  registers = register_free st;
  registered = λ from. refl;
  viewed = λ v xs. of_each (region.forget_lost xs st) (shards st.set) (lost_free xs st);
  leaves = oldest_free body.GracefulShutdownReq st;
  learnt = λ s h stamp. either (is_at h (region.home st s)) [] (told (fact.Home st.who s h) ∷ []) refl refl;
  handed = λ s stamp from. hand_off_free s stamp from st;
  ticked = tick_free st;
}
