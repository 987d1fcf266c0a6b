-- What the items of the region's rules, and of routing, show of their node is what the moves do to it; and the node stays tidy.
use Rattle.std.proofs.Common.{◌≡◌, ℕ, List, [], ◌∷◌, ◌++◌, length, map, sym, ap, ap₂, subst, ◌∙◌, refl, true, false, true≢false, arith}
use Rattle.std.specs.Prelude.{Bool, ◌&&◌, ◌||◌, not, nat_lt, drop, sum_by, fold, Option, Some, None, is_none, slice_index_or, slice_set, if◌then◌else◌}
use Rattle.std.specs.List.{list_all, flat_map}
use Rattle.std.specs.Option.{option_map}
use Rattle.std.proofs.lemmas.Bool.Decides.{nat_tests}
use Rattle.std.proofs.lemmas.List.Sums.{fold-append}
use Rattle.yard_model.specs.declared.fact.Fact.{Fact}
use Rattle.yard_model.specs.declared.fact.Fact.TheVariants as fact
use Rattle.yard_model.specs.declared.out.Item.TheVariants as item
use Rattle.yard_model.specs.declared.packet.Body.{Body}
use Rattle.yard_model.specs.declared.packet.Body.TheVariants as body
use Rattle.yard_model.specs.declared.packet.Message.{Message}
use Rattle.yard_model.specs.declared.incarnation.Incarnation.{Incarnation}
use Rattle.yard_model.specs.declared.incarnation.Stamp.{Stamp}
use Rattle.yard_model.specs.declared.input.Phase.{Phase}
use Rattle.yard_model.specs.declared.input.Phase.TheVariants as phase
use Rattle.yard_model.specs.Entities as entities
use Rattle.yard_model.specs.Entities.{Entities, Hosted, new_cell, cell, entities_after, is_running, stash_step}
use Rattle.yard_model.specs.Move.{Move, made, handed_off, viewed, leaves, marked, released, told, post}
use Rattle.yard_model.specs.Node.{Node, Act, items_of, of_region, of_entities, hand_off, by_region, by_entities, by_producer, by_coordinator, after, route}
use Rattle.yard_model.specs.Producer.{Producer}
use Rattle.yard_model.specs.Queries.{Known, show_got, is_passivate}
use Rattle.yard_model.specs.Region as region
use Rattle.yard_model.specs.Region.{Region, region_after, is_routable, is_home, home, kept_of}
use Rattle.yard_model.specs.Script.{Setting}
use Rattle.yard_model.specs.Setting.{place, shard_of, shards}
use Rattle.yard_model.specs.Words.{is_at, is_same, is_among, is_below, is_empty, at}
use Rattle.plain_laws.proofs.Booleans.{and_both, both}
use Rattle.plain_laws.proofs.Members.{same_is, same_itself}
use Rattle.plain_laws.proofs.Lists.{none_is_not_some, all_join, all_if, all_some, all_each, of_write}
use Rattle.yard_laws.proofs.PartsLaws.{region_alone}
use Rattle.query_laws.specs.Shown.{AreCalm, IsRouted, IsTidy, is_calm, known_after, shown}
use Rattle.query_laws.proofs.ShowBase.{AreShownBeside, with_producers, beside_both, same_some}
use Rattle.query_laws.proofs.ShowEntities.{stays, deliver_shown, deliver_tidy, hands_off_shown, hands_off_tidy}
use Rattle.query_laws.proofs.ShowMoves.{set_itself}
use Rattle.node_laws.proofs.NodeStarts.{not_hosted}

-- A message that the region drops changes no cell that is calm.

dropped_stash : (p : Phase) (s : List Message) (x : Incarnation) (m : Message) → (is_calm p ≡ true → s ≡ []) → stash_step p s (told (fact.Dropped x m)) ≡ s
dropped_stash phase.Absent s x m h = ap (drop 1) (h refl) ∙ sym (h refl)
dropped_stash phase.Loading s x m h = refl
dropped_stash phase.Active s x m h = refl
dropped_stash phase.Stopping s x m h = refl

dropped_cells : (st : Entities) (x : Incarnation) (m : Message) → AreCalm st → entities_after st (told (fact.Dropped x m)) ≡ st
dropped_cells st x m calm =
    ap (λ s. record st { cells = slice_set st.cells (place st.set m.entity) (record (cell st m.entity) { stash = s }) }) (dropped_stash (cell st m.entity).phase (cell st m.entity).stash x m (calm m.entity))
    ∙ ap (λ cells. record st { cells = cells }) (set_itself st.cells (place st.set m.entity) (new_cell st.set))

-- Moves that are items, and show nothing besides.

abbrev is_shown_body : Body → Bool
is_shown_body body.Register = true
is_shown_body (body.GetShardHome s) = true
is_shown_body body.GracefulShutdownReq = true
is_shown_body (body.Sequenced m) = true
is_shown_body (body.BeginHandOffAck s stamp) = true
is_shown_body (body.ShardStarted s) = true
is_shown_body (body.ShardStopped s stamp) = true
is_shown_body b = false

abbrev is_shown_fact : Fact → Bool
is_shown_fact (fact.Forget x s) = true
is_shown_fact (fact.Kept x m) = true
is_shown_fact (fact.Dropped x m) = true
is_shown_fact f = false

abbrev pub is_shown_move : Move → Bool
is_shown_move (made (item.Fact f)) = is_shown_fact f
is_shown_move (made (item.Post p)) = is_shown_body p.body
is_shown_move m = false

fact_shown : (k : Known) (st : Node) (f : Fact) → AreCalm st.entities → is_shown_fact f ≡ true → AreShownBeside k st (by_region (told f) ∷ [])
fact_shown k st (fact.Forget x s) calm h ps = stays _ (told (fact.Forget x s)) (λ y. refl)
fact_shown k st (fact.Kept x m) calm h ps = stays _ (told (fact.Kept x m)) (λ y. refl)
fact_shown k st (fact.Dropped x m) calm h ps =
    let d : Move = told (fact.Dropped x m) in
    ap₂ (λ n o. record (with_producers ps st) { entities = n; coordinator = o }) (dropped_cells st.entities x m calm) (same_some d st.coordinator (λ y. refl))
fact_shown k st f calm h ps = absurd (true≢false (sym h))

post_shown : (k : Known) (st : Node) (from to : Incarnation) (b : Body) → is_shown_body b ≡ true → AreShownBeside k st (by_region (post from to b) ∷ [])
post_shown k st from to body.Register h ps = stays _ (post from to body.Register) (λ y. refl)
post_shown k st from to (body.GetShardHome s) h ps = stays _ (post from to (body.GetShardHome s)) (λ y. refl)
post_shown k st from to body.GracefulShutdownReq h ps = stays _ (post from to body.GracefulShutdownReq) (λ y. refl)
post_shown k st from to (body.Sequenced m) h ps = stays _ (post from to (body.Sequenced m)) (λ y. refl)
post_shown k st from to (body.BeginHandOffAck s stamp) h ps = stays _ (post from to (body.BeginHandOffAck s stamp)) (λ y. refl)
post_shown k st from to (body.ShardStarted s) h ps = stays _ (post from to (body.ShardStarted s)) (λ y. refl)
post_shown k st from to (body.ShardStopped s stamp) h ps = stays _ (post from to (body.ShardStopped s stamp)) (λ y. refl)
post_shown k st from to b h ps = absurd (true≢false (sym h))

-- such moves one after another
pub region_shown : (k : Known) (st : Node) (ms : List Move) → AreCalm st.entities → list_all is_shown_move ms ≡ true → AreShownBeside k st (map by_region ms)
region_shown k st [] calm h = λ ps. refl
region_shown k st (made (item.Fact f) ∷ ms) calm h =
    let n : (is_shown_fact f ≡ true) × (list_all is_shown_move ms ≡ true) = and_both (is_shown_fact f) (list_all is_shown_move ms) h in
    beside_both k st (by_region (told f) ∷ []) (map by_region ms) (fact_shown k st f calm n.0) (region_shown (known_after k (item.Fact f)) (after st (by_region (told f))) ms calm n.1)
region_shown k st (made (item.Post p) ∷ ms) calm h =
    let n : (is_shown_body p.body ≡ true) × (list_all is_shown_move ms ≡ true) = and_both (is_shown_body p.body) (list_all is_shown_move ms) h in
    beside_both k st (by_region (made (item.Post p)) ∷ []) (map by_region ms) (post_shown k st p.from p.to p.body n.0) (region_shown (known_after k (item.Post p)) (after st (by_region (made (item.Post p)))) ms calm n.1)
region_shown k st (m ∷ ms) calm h = absurd (true≢false (sym (and_both (is_shown_move m) (list_all is_shown_move ms) h).0))

-- Which shards are routable, and what is kept of them.

-- it tells of no home and keeps no message
abbrev pub is_keeping : Move → Bool
is_keeping (made (item.Fact (fact.Home x s h))) = false
is_keeping (made (item.Fact (fact.Kept x m))) = false
is_keeping m = true

-- whether a shard of this home is routable
abbrev routable_at : Incarnation → Bool → Option Incarnation → Bool
routable_at who running o = if is_none o then false else not (is_at who o) || running

forgot_routed : (r : Region) (st : Entities) (x : Incarnation) (t : ℕ) → IsRouted r st → IsRouted (region_after r (told (fact.Forget x t))) st
forgot_routed r st x t routed s = of_write (λ o. routable_at r.who (is_running st s) o ≡ true → kept_of r.kept s ≡ []) r.homes t s None None (λ same h. absurd (true≢false (sym h))) (routed s)

released_routed : (r : Region) (st : Entities) (t : ℕ) → IsRouted r st → IsRouted (region_after r (released t)) st
released_routed r st t routed s h = of_write (λ l. l ≡ []) r.kept t s (drop 1 (kept_of r.kept t)) [] (λ same. ap (drop 1) (subst (λ n. kept_of r.kept n ≡ []) same (routed s h))) (routed s h)

-- a message is kept of a shard that isn't routable
kept_routed : (r : Region) (st : Entities) (x : Incarnation) (m : Message) → is_routable r (shard_of r.set m.entity) (is_running st (shard_of r.set m.entity)) ≡ false → IsRouted r st → IsRouted (region_after r (told (fact.Kept x m))) st
kept_routed r st x m away routed s h =
    let t : ℕ = shard_of r.set m.entity in
    of_write (λ l. l ≡ []) r.kept t s (kept_of r.kept t ++ m ∷ []) [] (λ same. absurd (true≢false (sym h ∙ (ap (λ n. is_routable r n (is_running st n)) same ∙ away)))) (routed s h)

one_routed : (r : Region) (st : Entities) (m : Move) → is_keeping m ≡ true → IsRouted r st → IsRouted (region_after r m) st
one_routed r st (made (item.Fact (fact.Home x s h))) k routed = absurd (true≢false (sym k))
one_routed r st (made (item.Fact (fact.Kept x m))) k routed = absurd (true≢false (sym k))
one_routed r st (made (item.Fact (fact.Forget x s))) k routed = forgot_routed r st x s routed
one_routed r st (released s) k routed = released_routed r st s routed
one_routed r st m k routed = routed

pub region_routed : (r : Region) (st : Entities) (ms : List Move) → list_all is_keeping ms ≡ true → IsRouted r st → IsRouted (fold region_after r ms) st
region_routed r st [] h routed = routed
region_routed r st (m ∷ ms) h routed =
    let n : (is_keeping m ≡ true) × (list_all is_keeping ms ≡ true) = and_both (is_keeping m) (list_all is_keeping ms) h in
    region_routed (region_after r m) st ms n.1 (one_routed r st m n.0 routed)

pub region_tidy : (st : Node) (ms : List Move) → IsRouted (fold region_after st.region ms) st.entities → IsTidy st → IsTidy (fold after st (map by_region ms))
region_tidy st ms routed tidy = subst IsTidy (sym (region_alone st ms)) (record { routed = routed; started = tidy.started })

-- Routing.

keep_all : (p : Move → Bool) (m : Message) (r : Region) → p (told (fact.Kept r.who m)) ≡ true → p (told (fact.Dropped r.who m)) ≡ true → list_all p (region.keep m r) ≡ true
keep_all p m r kept dropped =
    all_if p (nat_lt (sum_by length r.kept) r.set.config.buffer) (told (fact.Kept r.who m) ∷ []) (told (fact.Dropped r.who m) ∷ []) (both (p (told (fact.Kept r.who m))) true kept refl) (both (p (told (fact.Dropped r.who m))) true dropped refl)

oldest_all : (p : Move → Bool) (b : Body) (r : Region) → ((x : Incarnation) → p (post r.who x b) ≡ true) → list_all p (region.post_oldest b r) ≡ true
oldest_all p b r h = all_some p (λ x. post r.who x b ∷ []) (region.oldest r) (λ x. both (p (post r.who x b)) true (h x) refl)

ask_all : (p : Move → Bool) (s : ℕ) (r : Region) → ((x : Incarnation) → p (post r.who x (body.GetShardHome s)) ≡ true) → list_all p (region.ask s r) ≡ true
ask_all p s r h = all_if p (slice_index_or r.asked s false) [] (region.post_oldest (body.GetShardHome s) r) refl (oldest_all p (body.GetShardHome s) r h)

away_moves : (m : Message) (r : Region) (o : Option Incarnation) → list_all is_shown_move (region.route_by m r o) ≡ true
away_moves m r None = all_join is_shown_move (region.keep m r) (region.ask (shard_of r.set m.entity) r) (keep_all is_shown_move m r refl refl) (ask_all is_shown_move (shard_of r.set m.entity) r (λ x. refl))
away_moves m r (Some h) = all_if is_shown_move (is_same h r.who) (region.keep m r) (post r.who h (body.Sequenced m) ∷ []) (keep_all is_shown_move m r refl refl) refl

-- it is kept, or dropped, where its shard isn't routable
keeps_routed : (m : Message) (r : Region) (st : Entities) → is_routable r (shard_of r.set m.entity) (is_running st (shard_of r.set m.entity)) ≡ false → IsRouted r st → IsRouted (fold region_after r (region.keep m r)) st
keeps_routed m r st away routed = by (nat_lt (sum_by length r.kept) r.set.config.buffer)
  where
    by : (b : Bool) → IsRouted (fold region_after r (if b then told (fact.Kept r.who m) ∷ [] else told (fact.Dropped r.who m) ∷ [])) st
    by true = kept_routed r st r.who m away routed
    by false = routed

not_running : (a b : Bool) → a ≡ true → (a && b) ≡ false → (if false then false else not a || b) ≡ false
not_running true b e h = h
not_running false b e h = absurd (true≢false (sym e))

away_routed : (m : Message) (r : Region) (st : Entities) → (is_home r (shard_of r.set m.entity) && is_running st (shard_of r.set m.entity)) ≡ false → IsRouted r st → IsRouted (fold region_after r (region.route_away m r)) st
away_routed m r st away routed = by (home r t) refl
  where
    t : ℕ
    t = shard_of r.set m.entity

    nowhere : (o : Option Incarnation) → o ≡ None → routable_at r.who (is_running st t) o ≡ false
    nowhere None e = refl
    nowhere (Some x) e = absurd (none_is_not_some x (sym e))

    by : (o : Option Incarnation) → home r t ≡ o → IsRouted (fold region_after r (region.route_by m r o)) st
    by None e = subst (λ x. IsRouted x st) (sym (fold-append region_after r (region.keep m r) (region.ask t r)))
        (region_routed (fold region_after r (region.keep m r)) st (region.ask t r) (ask_all is_keeping t r (λ x. refl)) (keeps_routed m r st (nowhere (home r t) e) routed))
    by (Some h) e = two (is_same h r.who) refl
      where
        here : is_same h r.who ≡ true → routable_at r.who (is_running st t) (home r t) ≡ false
        here same =
            let self : is_at r.who (Some h) ≡ true = ap (is_same r.who) (same_is h r.who same) ∙ same_itself r.who in
            ap (routable_at r.who (is_running st t)) e ∙ not_running (is_at r.who (Some h)) (is_running st t) self (ap (λ o. is_at r.who o && is_running st t) (sym e) ∙ away)

        two : (b : Bool) → is_same h r.who ≡ b → IsRouted (fold region_after r (if b then region.keep m r else post r.who h (body.Sequenced m) ∷ [])) st
        two true same = keeps_routed m r st (here same) routed
        two false same = routed

-- a message that the node routes
pub route_shown : (k : Known) (m : Message) (st : Node) → AreCalm st.entities → AreShownBeside k st (route m st)
route_shown k m st calm = by (region.is_home st.region s && entities.is_running st.entities s)
  where
    s : ℕ
    s = shard_of st.set m.entity

    by : (b : Bool) → AreShownBeside k st (if b then map by_entities (entities.deliver m st.entities) else map by_region (region.route_away m st.region))
    by true = deliver_shown k m st
    by false = region_shown k st (region.route_away m st.region) calm (away_moves m st.region (home st.region (shard_of st.region.set m.entity)))

pub route_tidy : (m : Message) (st : Node) → st.region.set ≡ st.set → IsTidy st → IsTidy (fold after st (route m st))
route_tidy m st same tidy = by (region.is_home st.region s && entities.is_running st.entities s) refl
  where
    s : ℕ
    s = shard_of st.set m.entity

    by : (b : Bool) → (region.is_home st.region s && entities.is_running st.entities s) ≡ b → IsTidy (fold after st (if b then map by_entities (entities.deliver m st.entities) else map by_region (region.route_away m st.region)))
    by true e = deliver_tidy m st tidy
    by false e = region_tidy st (region.route_away m st.region)
        (away_routed m st.region st.entities (subst (λ (set : Setting). (region.is_home st.region (shard_of set m.entity) && entities.is_running st.entities (shard_of set m.entity)) ≡ false) (sym same) e) tidy.routed) tidy

-- the region keeps the node's setting
pub same_sets : (st : Node) (acts : List Act) → st.region.set ≡ st.set → (fold after st acts).region.set ≡ (fold after st acts).set
same_sets st [] h = h
same_sets st (by_region m ∷ acts) h = same_sets (after st (by_region m)) acts h
same_sets st (by_entities m ∷ acts) h = same_sets (after st (by_entities m)) acts h
same_sets st (by_producer p m ∷ acts) h = same_sets (after st (by_producer p m)) acts h
same_sets st (by_coordinator m ∷ acts) h = same_sets (after st (by_coordinator m)) acts h

-- Members.

register_all : (p : Move → Bool) (r : Region) → ((x : Incarnation) → p (post r.who x body.Register) ≡ true) → list_all p (region.register r) ≡ true
register_all p r h = all_some p (λ x. if is_at x r.registered then [] else post r.who x body.Register ∷ []) (region.oldest r) (λ x. all_if p (is_at x r.registered) [] (post r.who x body.Register ∷ []) refl (both (p (post r.who x body.Register)) true (h x) refl))

pub register_shown : (k : Known) (st : Node) → AreCalm st.entities → AreShownBeside k st (of_region region.register st)
register_shown k st calm = region_shown k st (region.register st.region) calm (register_all is_shown_move st.region (λ x. refl))

pub register_tidy : (st : Node) → IsTidy st → IsTidy (fold after st (of_region region.register st))
register_tidy st tidy = region_tidy st (region.register st.region) (region_routed st.region st.entities (region.register st.region) (register_all is_keeping st.region (λ x. refl)) tidy.routed) tidy

forget_all : (p : Move → Bool) (s : ℕ) (r : Region) → p (told (fact.Forget r.who s)) ≡ true → list_all p (region.forget s r) ≡ true
forget_all p s r h = all_if p (is_none (home r s)) [] (told (fact.Forget r.who s) ∷ []) refl (both (p (told (fact.Forget r.who s))) true h refl)

lost_all : (p : Move → Bool) (xs : List Incarnation) (r : Region) → ((s : ℕ) → p (told (fact.Forget r.who s)) ≡ true) → list_all p (flat_map (region.forget_lost xs r) (shards r.set)) ≡ true
lost_all p xs r h = all_each p (region.forget_lost xs r) (shards r.set) (λ s. all_some p (λ x. if is_among x xs then [] else region.forget s r) (home r s) (λ x. all_if p (is_among x xs) [] (region.forget s r) refl (forget_all p s r (h s))))

pub take_view_shown : (k : Known) (st : Node) (v : ℕ) (xs : List Incarnation) → AreCalm st.entities → slice_index_or k.views v [] ≡ xs → AreShownBeside k st (of_region (region.take_view v xs) st)
take_view_shown k st v xs calm known =
    let f : Fact = fact.View st.region.who v in
    let first : List Act = by_region (viewed xs) ∷ by_region (told f) ∷ [] in
    let lost : List Move = flat_map (region.forget_lost xs st.region) (shards st.region.set) in
    beside_both k st first (map by_region lost)
    (λ ps. ap₂ (λ ys o. record (with_producers ps (fold after st first)) { region = record (region_after st.region (told f)) { view = ys }; coordinator = o }) known (same_some (told f) st.coordinator (λ x. refl)))
    (region_shown (known_after k (item.Fact f)) (fold after st first) lost calm (lost_all is_shown_move xs st.region (λ s. refl)))

pub take_view_tidy : (st : Node) (v : ℕ) (xs : List Incarnation) → IsTidy st → IsTidy (fold after st (of_region (region.take_view v xs) st))
take_view_tidy st v xs tidy = region_tidy st (region.take_view v xs st.region) (region_routed st.region st.entities (region.take_view v xs st.region) (lost_all is_keeping xs st.region (λ s. refl)) tidy.routed) tidy

pub registered_tidy : (st : Node) (from : Incarnation) → IsTidy st → IsTidy (fold after st (of_region (region.registered_by from) st))
registered_tidy st from tidy = record { routed = tidy.routed; started = tidy.started }

-- Leave: the order shows that the region leaves.

pub leave_shown : (k : Known) (st : Node) → AreCalm st.entities → (ps : List (Option Producer)) → shown k (with_producers ps (after st (by_region leaves))) (items_of (of_region region.leave st)) ≡ with_producers ps (fold after st (of_region region.leave st))
leave_shown k st calm = region_shown k (after st (by_region leaves)) (region.post_oldest body.GracefulShutdownReq st.region) calm (oldest_all is_shown_move body.GracefulShutdownReq st.region (λ x. refl))

pub leave_tidy : (st : Node) → IsTidy st → IsTidy (fold after st (of_region region.leave st))
leave_tidy st tidy = region_tidy st (region.leave st.region) (region_routed st.region st.entities (region.leave st.region) (oldest_all is_keeping body.GracefulShutdownReq st.region (λ x. refl)) tidy.routed) tidy

-- BeginHandOff: the delivery shows the mark.

below_once : (a b : Stamp) → is_below a b ≡ true → is_below b a ≡ false
below_once a b h = grind (arith, nat_tests)

pub begin_hand_off_shown : (k : Known) (st : Node) (s : ℕ) (stamp : Stamp) (from : Incarnation) → AreCalm st.entities → (ps : List (Option Producer))
    → shown k (with_producers ps (fold after st (show_got from (body.BeginHandOff s stamp) st))) (items_of (of_region (region.begin_hand_off s stamp from) st)) ≡ with_producers ps (fold after st (of_region (region.begin_hand_off s stamp from) st))
begin_hand_off_shown k st s stamp from calm ps = by (is_below stamp (region.mark st.region s)) (is_below (region.mark st.region s) stamp) (below_once stamp (region.mark st.region s))
  where
    ack : Move
    ack = post st.region.who from (body.BeginHandOffAck s stamp)

    by : (a b : Bool) → (a ≡ true → b ≡ false)
        → let acts : List Act = map by_region (if a then [] else (if b then marked s stamp ∷ region.forget s st.region else []) ++ ack ∷ []) in shown k (with_producers ps (fold after st (map by_region (if b then marked s stamp ∷ [] else [])))) (items_of acts) ≡ with_producers ps (fold after st acts)
    by true true h = absurd (true≢false (h refl))
    by true false h = refl
    by false false h = region_shown k st (ack ∷ []) calm refl ps
    by false true h = region_shown k (after st (by_region (marked s stamp))) (region.forget s st.region ++ ack ∷ []) calm (all_join is_shown_move (region.forget s st.region) (ack ∷ []) (forget_all is_shown_move s st.region refl) refl) ps

pub begin_hand_off_tidy : (st : Node) (s : ℕ) (stamp : Stamp) (from : Incarnation) → IsTidy st → IsTidy (fold after st (of_region (region.begin_hand_off s stamp from) st))
begin_hand_off_tidy st s stamp from tidy =
    let first : List Move = if is_below (region.mark st.region s) stamp then marked s stamp ∷ region.forget s st.region else [] in
    let ack : List Move = post st.region.who from (body.BeginHandOffAck s stamp) ∷ [] in
    region_tidy st (region.begin_hand_off s stamp from st.region) (region_routed st.region st.entities (region.begin_hand_off s stamp from st.region)
    (all_if is_keeping (is_below stamp (region.mark st.region s)) [] (first ++ ack) refl
    (all_join is_keeping first ack (all_if is_keeping (is_below (region.mark st.region s) stamp) (marked s stamp ∷ region.forget s st.region) [] (forget_all is_keeping s st.region refl) refl) refl)) tidy.routed) tidy

-- HandOff: the delivery shows that a shard is handed off, where it is taken.

pub hand_off_shown : (k : Known) (st : Node) (s : ℕ) (stamp : Stamp) (from : Incarnation) → is_passivate k.packet ≡ false → AreCalm st.entities → (ps : List (Option Producer))
    → shown k (with_producers ps (fold after st (show_got from (body.HandOff s stamp) st))) (items_of (hand_off s stamp from st)) ≡ with_producers ps (fold after st (hand_off s stamp from st))
hand_off_shown k st s stamp from is calm ps = by (region.takes_hand_off s stamp st.region) (entities.is_hosted st.entities s) refl
  where
    stopped : Move
    stopped = post st.who from (body.ShardStopped s stamp)

    stays : at st.entities.hosted s ≡ None → entities_after st.entities (handed_off s stamp from) ≡ st.entities
    stays e = ap (λ hosted. record st.entities { hosted = hosted })
        (ap (λ o. slice_set st.entities.hosted s (option_map (λ (h : Hosted). record { entries = h.entries; stopping = Some (record { stamp = stamp; to = from }) }) o)) e
        ∙ (ap (slice_set st.entities.hosted s) (sym e) ∙ set_itself st.entities.hosted s None))

    by : (a b : Bool) → entities.is_hosted st.entities s ≡ b
        → let acts : List Act = if a then (if b then of_entities (entities.hand_off s stamp from) st else by_region stopped ∷ []) else [] in shown k (with_producers ps (fold after st (if a then by_entities (handed_off s stamp from) ∷ [] else []))) (items_of acts) ≡ with_producers ps (fold after st acts)
    by false b e = refl
    by true true e = hands_off_shown k s stamp from st is ps
    by true false e = subst (λ n. shown k (record st { producers = ps; entities = n }) (items_of (by_region stopped ∷ [])) ≡ with_producers ps (after st (by_region stopped))) (sym (stays (not_hosted (at st.entities.hosted s) e)))
        (region_shown k st (stopped ∷ []) calm refl ps)

pub hand_off_tidy : (st : Node) (s : ℕ) (stamp : Stamp) (from : Incarnation) → IsTidy st → IsTidy (fold after st (hand_off s stamp from st))
hand_off_tidy st s stamp from tidy = by (region.takes_hand_off s stamp st.region) (entities.is_hosted st.entities s)
  where
    by : (a b : Bool) → IsTidy (fold after st (if a then (if b then of_entities (entities.hand_off s stamp from) st else by_region (post st.who from (body.ShardStopped s stamp)) ∷ []) else []))
    by false b = tidy
    by true true = hands_off_tidy s stamp from st tidy
    by true false = region_tidy st (post st.who from (body.ShardStopped s stamp) ∷ []) tidy.routed tidy

-- The tick.

pub ticks_all : (p : Move → Bool) (r : Region) → ((x : Incarnation) → p (post r.who x body.Register) ≡ true) → ((x : Incarnation) → p (post r.who x body.GracefulShutdownReq) ≡ true) → ((s : ℕ) (x : Incarnation) → p (post r.who x (body.GetShardHome s)) ≡ true) → list_all p (region.tick_region r) ≡ true
ticks_all p r registers quits asks =
    let mid : List Move = if r.leaving && region.is_some_home r then region.post_oldest body.GracefulShutdownReq r else [] in
    all_join p (region.register r ++ mid) (flat_map (region.ask_again r) (shards r.set))
    (all_join p (region.register r) mid (register_all p r registers) (all_if p (r.leaving && region.is_some_home r) (region.post_oldest body.GracefulShutdownReq r) [] (oldest_all p body.GracefulShutdownReq r quits) refl))
    (all_each p (region.ask_again r) (shards r.set) (λ s. all_if p (is_none (home r s) && not (is_empty (kept_of r.kept s))) (region.post_oldest (body.GetShardHome s) r) [] (oldest_all p (body.GetShardHome s) r (asks s)) refl))

pub tick_region_shown : (k : Known) (st : Node) → AreCalm st.entities → AreShownBeside k st (of_region region.tick_region st)
tick_region_shown k st calm = region_shown k st (region.tick_region st.region) calm (ticks_all is_shown_move st.region (λ x. refl) (λ x. refl) (λ s x. refl))

pub tick_region_tidy : (st : Node) → IsTidy st → IsTidy (fold after st (of_region region.tick_region st))
tick_region_tidy st tidy = region_tidy st (region.tick_region st.region) (region_routed st.region st.entities (region.tick_region st.region) (ticks_all is_keeping st.region (λ x. refl) (λ x. refl) (λ s x. refl)) tidy.routed) tidy
