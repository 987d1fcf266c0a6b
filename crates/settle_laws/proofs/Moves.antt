-- What every step of the world keeps: the numbers that wait are posted, and what was ordered stays; and without a send nothing is queued.
use Rattle.std.proofs.Common.{◌≡◌, ℕ, zero, suc, ◌+◌, ◌-◌, ap, refl, true, false, true≢false, sym}
use Rattle.std.specs.Prelude.{Bool, ◌&&◌, ◌||◌, nat_lt, not, List, [], ◌∷◌, ◌++◌, length, map, filter, fold, Option, Some, None, is_none, slice_index_or, if◌then◌else◌}
use Rattle.std.specs.List.{list_all, list_any, slice_get}
use Rattle.yard_model.specs.declared.fact.Fact.{Fact}
use Rattle.yard_model.specs.declared.fact.Fact.TheVariants as fact
use Rattle.yard_model.specs.declared.out.Item.{Item}
use Rattle.yard_model.specs.declared.out.Item.TheVariants as item
use Rattle.yard_model.specs.declared.input.Input.{Input}
use Rattle.yard_model.specs.declared.input.Input.TheVariants as input
use Rattle.yard_model.specs.declared.packet.Body.TheVariants as body
use Rattle.yard_model.specs.declared.packet.Packet.{Packet}
use Rattle.yard_model.specs.declared.incarnation.Incarnation.{Incarnation}
use Rattle.yard_model.specs.declared.charter.Order.{Order}
use Rattle.yard_model.specs.declared.charter.Order.TheVariants as order
use Rattle.yard_model.specs.Node.{Node, items_of, turn, crash}
use Rattle.yard_model.specs.Setting.{producers}
use Rattle.yard_model.specs.SlotLists.{queue_list}
use Rattle.yard_model.specs.SlotReads.{holder, queued_in_all}
use Rattle.yard_model.specs.Words.{numbers, is_among, is_empty}
use Rattle.yard_model.specs.World as world
use Rattle.yard_model.specs.World.{World, Made, Step}
use Rattle.plain_laws.proofs.Booleans.{and_both, both, all_map}
use Rattle.actor_laws.specs.Owes.{facts_in}
use Rattle.play_laws.proofs.Turned.{is_still, wire_still}
use Rattle.std.proofs.lemmas.Bool.Decides.{nat_tests}
use Rattle.std.proofs.Common.{subst, ◌<◌, true≢false}
use Rattle.std.specs.Prelude.{◌==◌, ◌&&◌, not}
use Rattle.plain_laws.proofs.Booleans.{at_most}
use Rattle.play_laws.proofs.Tells.{turn_still}
use Rattle.play_laws.proofs.Steps.{is_freed, freed_still, crash_frees}
use Rattle.std.proofs.Common.{◌≤◌, ◌⊎◌, inl, inr, ◌∙◌, arith, length-append}
use Rattle.std.specs.Prelude.{nat_le}
use Rattle.std.proofs.lemmas.List.Sums.{fold-append}
use Rattle.yard_model.specs.declared.incarnation.Slot.TheVariants as slot
use Rattle.yard_model.specs.SlotLists.{SlotLists}
use Rattle.yard_model.specs.SlotReads.{queued_in_all_step}
use Rattle.yard_model.specs.Script.{Setting}
use Rattle.yard_model.specs.World.{world_after, lists_after}
use Rattle.plain_laws.proofs.Booleans.{below, not_below}
use Rattle.settle_laws.proofs.Longer.{word_set}
use Rattle.settle_laws.proofs.Unqueued.{is_unqueued, is_unqueued_item, is_no_send, turn_unqueued}

-- the numbers that wait are posted
pub record Posted (w : World) : Type 0 where
  pub fresh_are : list_all (λ k. nat_le k (length w.wire)) w.fresh ≡ true
  pub past_is : w.past ≤ length w.wire

-- t: and nothing is queued
pub record Kept (t : Bool) (w v : World) : Type 0 where
  pub posted : Posted w → Posted v
  pub ordered_is : v.ordered ≡ w.ordered
  pub in_all : t ≡ true → (p : ℕ) → queued_in_all (queue_list v.lists p) ≡ queued_in_all (queue_list w.lists p)

kept_none : (t : Bool) (w : World) → Kept t w w
kept_none t w = record { posted = λ h. h; ordered_is = refl; in_all = λ e p. refl }

kept_both : (t : Bool) (u v w : World) → Kept t u v → Kept t v w → Kept t u w
kept_both t u v w f g = record { posted = λ h. g.posted (f.posted h); ordered_is = g.ordered_is ∙ f.ordered_is; in_all = λ e p. g.in_all e p ∙ f.in_all e p }

abbrev Stays : Bool → Step → Type 0
Stays t q = (w : World) → Kept t w (q w).world

abbrev AllStay : Bool → List Step → Type 0
AllStay t [] = Unit {0}
AllStay t (q ∷ qs) = Stays t q × AllStay t qs

-- One fact.

in_all_one : (set : Setting) (lists : SlotLists) (f : Fact) → is_unqueued f ≡ true → (p : ℕ) → queued_in_all (queue_list (lists_after set lists f) p) ≡ queued_in_all (queue_list lists p)
in_all_one set lists (fact.Queued q e n k) h p = absurd (true≢false (sym h))
in_all_one set lists (fact.Confirmed q e n) h p = word_set queued_in_all (fact.Confirmed q e n) (λ x. fold-append queued_in_all_step 0 x (fact.Confirmed q e n ∷ [])) lists.queues (q - 1) (p - 1)
in_all_one set lists (fact.Granted (slot.Queue q) n x) h p = word_set queued_in_all (fact.Granted (slot.Queue q) n x) (λ y. fold-append queued_in_all_step 0 y (fact.Granted (slot.Queue q) n x ∷ [])) lists.queues (q - 1) (p - 1)
in_all_one set lists (fact.Granted (slot.Shard s) n x) h p = refl
in_all_one set lists (fact.Granted slot.Coordinator n x) h p = refl
in_all_one set lists (fact.Freed (slot.Queue q) n why) h p = word_set queued_in_all (fact.Freed (slot.Queue q) n why) (λ y. fold-append queued_in_all_step 0 y (fact.Freed (slot.Queue q) n why ∷ [])) lists.queues (q - 1) (p - 1)
in_all_one set lists (fact.Freed (slot.Shard s) n why) h p = refl
in_all_one set lists (fact.Freed slot.Coordinator n why) h p = refl
in_all_one set lists f h p = refl

-- a packet isn't sent by it
abbrev is_unsent : Fact → Bool
is_unsent (fact.Sent k p) = false
is_unsent f = true

posted_one : (w : World) (f : Fact) → is_unsent f ≡ true → Posted w → Posted (world_after w f)
posted_one w (fact.Sent k p) h x = absurd (true≢false (sym h))
posted_one w (fact.Got k) h x = record { fresh_are = all_kept w.fresh x.fresh_are; past_is = x.past_is }
  where
    all_kept : (ks : List ℕ) → list_all (λ j. nat_le j (length w.wire)) ks ≡ true → list_all (λ j. nat_le j (length w.wire)) (filter (λ j. not (j == k)) ks) ≡ true
    all_kept [] e = refl
    all_kept (j ∷ js) e =
        let m : (nat_le j (length w.wire) ≡ true) × (list_all (λ j. nat_le j (length w.wire)) js ≡ true) = and_both (nat_le j (length w.wire)) (list_all (λ j. nat_le j (length w.wire)) js) e in
        by (j == k) m.0 (all_kept js m.1)
      where
        by : (b : Bool) → nat_le j (length w.wire) ≡ true → list_all (λ j. nat_le j (length w.wire)) (filter (λ j. not (j == k)) js) ≡ true → list_all (λ j. nat_le j (length w.wire)) (if not b then j ∷ filter (λ j. not (j == k)) js else filter (λ j. not (j == k)) js) ≡ true
        by true e f = f
        by false e f = both (nat_le j (length w.wire)) (list_all (λ j. nat_le j (length w.wire)) (filter (λ j. not (j == k)) js)) e f
posted_one w (fact.Reshard n k) h x = record { fresh_are = x.fresh_are; past_is = itself (length w.wire) }
  where
    itself : (n : ℕ) → n ≤ n
    itself n = omega arith
posted_one w f h x = record { fresh_are = x.fresh_are; past_is = x.past_is }

fact_kept : (t : Bool) (w : World) (f : Fact) → is_unsent f ≡ true → (t ≡ true → is_unqueued f ≡ true) → Kept t w (world_after w f)
fact_kept t w f unsent unqueued = record { posted = posted_one w f unsent; ordered_is = refl; in_all = λ e p. in_all_one w.set w.lists f (unqueued e) p }

facts_kept : (t : Bool) (fs : List Fact) (w : World) → list_all is_unsent fs ≡ true → (t ≡ true → list_all is_unqueued fs ≡ true) → Kept t w (fold world_after w fs)
facts_kept t [] w h k = kept_none t w
facts_kept t (f ∷ fs) w h k =
    let m : (is_unsent f ≡ true) × (list_all is_unsent fs ≡ true) = and_both (is_unsent f) (list_all is_unsent fs) h in
    kept_both t w (world_after w f) (fold world_after (world_after w f) fs) (fact_kept t w f m.0 (λ e. (and_both (is_unqueued f) (list_all is_unqueued fs) (k e)).0)) (facts_kept t fs (world_after w f) m.1 (λ e. (and_both (is_unqueued f) (list_all is_unqueued fs) (k e)).1))

sent_kept : (t : Bool) (w : World) (p : Packet) → Kept t w (world_after w (fact.Sent (length w.wire + 1) p))
sent_kept t w p = record {
  posted = λ x. record {
    fresh_are = all_up w.fresh x.fresh_are;
    past_is = up w.past (length w.wire) (length (w.wire ++ p ∷ [])) x.past_is longer;
  };
  ordered_is = refl;
  in_all = λ e q. refl;
}
  where
    longer : length (w.wire ++ p ∷ []) ≡ length w.wire + 1
    longer = length-append w.wire (p ∷ [])

    up : (a n m : ℕ) → a ≤ n → m ≡ n + 1 → a ≤ m
    up a n m h e = omega (arith, h, e)

    least_up : (k n m : ℕ) → nat_le k n ≡ true → m ≡ n + 1 → nat_le k m ≡ true
    least_up k n m h e = of_least k m (up k n m (at_most k n h) e)
      where
        of_least : (k m : ℕ) → k ≤ m → nat_le k m ≡ true
        of_least k m h = grind (arith, nat_tests, h)

    last_is : nat_le (length w.wire + 1) (length (w.wire ++ p ∷ [])) ≡ true
    last_is = of_equal (length w.wire + 1) (length (w.wire ++ p ∷ [])) (sym longer)
      where
        of_equal : (a b : ℕ) → a ≡ b → nat_le a b ≡ true
        of_equal a b e = grind (arith, nat_tests, e)

    all_up : (ks : List ℕ) → list_all (λ j. nat_le j (length w.wire)) ks ≡ true → list_all (λ j. nat_le j (length (w.wire ++ p ∷ []))) (ks ++ (length w.wire + 1) ∷ []) ≡ true
    all_up [] h = both (nat_le (length w.wire + 1) (length (w.wire ++ p ∷ []))) true last_is refl
    all_up (k ∷ ks) h =
        let m : (nat_le k (length w.wire) ≡ true) × (list_all (λ j. nat_le j (length w.wire)) ks ≡ true) = and_both (nat_le k (length w.wire)) (list_all (λ j. nat_le j (length w.wire)) ks) h in
        both (nat_le k (length (w.wire ++ p ∷ []))) (list_all (λ j. nat_le j (length (w.wire ++ p ∷ []))) (ks ++ (length w.wire + 1) ∷ [])) (least_up k (length w.wire) (length (w.wire ++ p ∷ [])) m.0 longer) (all_up ks m.1)

-- Steps that are put together.

then_stays : (t : Bool) (w : World) (m : Made) (q : Step) → Kept t w m.world → Stays t q → Kept t w (world.then_step m q).world
then_stays t w m q k h = by m.world.full
  where
    by : (b : Bool) → Kept t w (elim b as (λ b. Made) [ true ↦ m | false ↦ let n : Made = q m.world in record { facts = m.facts ++ n.facts; world = n.world } ]).world
    by true = k
    by false = kept_both t w m.world (q m.world).world k (h m.world)

if_stays : (t : Bool) (w : World) (b : Bool) (m n : Made) → Kept t w m.world → Kept t w n.world → Kept t w (if b then m else n).world
if_stays t w true m n f g = f
if_stays t w false m n f g = g

order_stays : (t : Bool) (qs : List Step) → AllStay t qs → Stays t (world.in_order qs)
order_stays t [] a w = kept_none t w
order_stays t (q ∷ qs) a w = then_stays t w (q w) (world.in_order qs) (a.0 w) (order_stays t qs a.1)

map_stays : {X : Type 0} (t : Bool) (q : X → Step) → ((x : X) → Stays t (q x)) → (xs : List X) → AllStay t (map q xs)
map_stays t q h [] = tt
map_stays t q h (x ∷ xs) = (h x, map_stays t q h xs)

nothing_stays : (t : Bool) → Stays t world.nothing
nothing_stays t w = fact_kept t w fact.Nothing refl (λ e. refl)

none_stays : (t : Bool) → Stays t (world.tell [])
none_stays t w = kept_none t w

-- Inputs.

still_unsent : (f : Fact) → is_still f ≡ true → is_unsent f ≡ true
still_unsent (fact.Sent k p) h = h
still_unsent f h = refl

numbered_kept : (t : Bool) (limit k : ℕ) (is : List Item) (w : World) → list_all is_still (facts_in is) ≡ true → (t ≡ true → list_all is_unqueued_item is ≡ true) → (k ≡ length w.wire) ⊎ (limit ≤ k) → Kept t w (fold world_after w (world.numbered limit k is))
numbered_kept t limit k [] w still unqueued at_end = kept_none t w
numbered_kept t limit k (item.Fact f ∷ is) w still unqueued at_end =
    let m : (is_still f ≡ true) × (list_all is_still (facts_in is) ≡ true) = and_both (is_still f) (list_all is_still (facts_in is)) still in
    kept_both t w (world_after w f) (fold world_after (world_after w f) (world.numbered limit k is)) (fact_kept t w f (still_unsent f m.0) (λ e. (and_both (is_unqueued f) (list_all is_unqueued_item is) (unqueued e)).0))
    (numbered_kept t limit k is (world_after w f) m.1 (λ e. (and_both (is_unqueued f) (list_all is_unqueued_item is) (unqueued e)).1) (by at_end))
  where
    by : (k ≡ length w.wire) ⊎ (limit ≤ k) → (k ≡ length (world_after w f).wire) ⊎ (limit ≤ k)
    by (inl e) = inl (e ∙ ap length (sym (wire_still w.wire f (and_both (is_still f) (list_all is_still (facts_in is)) still).0)))
    by (inr h) = inr h
numbered_kept t limit k (item.Post p ∷ is) w still unqueued at_end = by (nat_lt k limit) refl at_end (λ v a. numbered_kept t limit (k + 1) is v still (λ e. (and_both true (list_all is_unqueued_item is) (unqueued e)).1) a)
  where
    by : (b : Bool) → nat_lt k limit ≡ b → (k ≡ length w.wire) ⊎ (limit ≤ k) → ((v : World) → (k + 1 ≡ length v.wire) ⊎ (limit ≤ k + 1) → Kept t v (fold world_after v (world.numbered limit (k + 1) is)))
        → Kept t w (fold world_after w ((if b then fact.Sent (k + 1) p ∷ [] else []) ++ world.numbered limit (k + 1) is))
    by true less (inl e) rest = subst (λ n. Kept t w (fold world_after (world_after w (fact.Sent (n + 1) p)) (world.numbered limit (k + 1) is))) (sym e)
        (kept_both t w (world_after w (fact.Sent (length w.wire + 1) p)) _ (sent_kept t w p) (rest (world_after w (fact.Sent (length w.wire + 1) p)) (inl (ap (λ n. n + 1) e ∙ sym (length-append w.wire (p ∷ []))))))
    by true less (inr h) rest = absurd (never limit k h (below k limit less))
      where
        never : (m k : ℕ) → m ≤ k → k < m → ⊥
        never m k h g = omega (arith, h, g)
    by false less a rest = rest w (inr (up limit k (not_below k limit less)))
      where
        up : (m k : ℕ) → m ≤ k → m ≤ k + 1
        up m k h = omega (arith, h)

input_kept : (t : Bool) (w : World) (is : List Item) → list_all is_still (facts_in is) ≡ true → (t ≡ true → list_all is_unqueued_item is ≡ true) → Kept t w (fold world_after w (world.input_facts w is))
input_kept t w is still unqueued = subst (Kept t w) (sym (fold-append world_after w (world.numbered w.limit (length w.wire) is) (full (nat_lt w.limit (fold world.count_posts (length w.wire) is)))))
    (kept_both t w v _ (numbered_kept t w.limit (length w.wire) is w still unqueued (inl refl)) (last (nat_lt w.limit (fold world.count_posts (length w.wire) is))))
  where
    v : World
    v = fold world_after w (world.numbered w.limit (length w.wire) is)

    full : Bool → List Fact
    full b = if b then fact.WireFull ∷ [] else []

    last : (b : Bool) → Kept t v (fold world_after v (full b))
    last true = fact_kept t v fact.WireFull refl (λ e. refl)
    last false = kept_none t v

abbrev pub MayBe : Bool → Input → Type 0
MayBe t i = t ≡ true → is_no_send i ≡ true

handle_stays : (t : Bool) (i : Input) (st : Node) → MayBe t i → Stays t (world.handle i st)
handle_stays t i st may w =
    let k : Kept t w (fold world_after w (world.input_facts w (items_of (turn w.sends w.lists i st)))) = input_kept t w (items_of (turn w.sends w.lists i st)) (turn_still w.sends w.lists i st) (λ e. turn_unqueued w.sends w.lists i st (may e)) in
    record { posted = λ h. let p : Posted (fold world_after w (world.input_facts w (items_of (turn w.sends w.lists i st)))) = k.posted h in record { fresh_are = p.fresh_are; past_is = p.past_is }; ordered_is = k.ordered_is; in_all = k.in_all }

or_stays : (t : Bool) (i : Input) (o : Option Node) (q : Step) → MayBe t i → Stays t q → Stays t (world.give_or i o q)
or_stays t i None q may h w = h w
or_stays t i (Some st) q may h w = handle_stays t i st may w

pub give_stays : (t : Bool) (i : Input) (o : Option Node) → MayBe t i → Stays t (world.give i o)
give_stays t i o may w = or_stays t i o (world.tell []) may (none_stays t) w

-- Up and crash.

no_facts : (xs : List Incarnation) (f : Incarnation → Packet) → list_all is_still (facts_in (map (λ x. item.Post (f x)) xs)) ≡ true
no_facts [] f = refl
no_facts (x ∷ xs) f = no_facts xs f

no_queues : (xs : List Incarnation) (f : Incarnation → Packet) → list_all is_unqueued_item (map (λ x. item.Post (f x)) xs) ≡ true
no_queues [] f = refl
no_queues (x ∷ xs) f = no_queues xs f

views_stay : (t : Bool) → Stays t world.views
views_stay t w = input_kept t w (map (λ x. item.Post (record { from = x; to = x; body = body.View w.version w.members })) w.members) (no_facts w.members (λ x. record { from = x; to = x; body = body.View w.version w.members })) (λ e. no_queues w.members (λ x. record { from = x; to = x; body = body.View w.version w.members }))

come_up_stays : (t : Bool) (n : ℕ) → Stays t (world.come_up n)
come_up_stays t n w = then_stays t w (world.tell (fact.Up (record { node = n; number = slice_index_or w.ups (n - 1) 0 + 1 }) ∷ []) w) world.views (fact_kept t w (fact.Up (record { node = n; number = slice_index_or w.ups (n - 1) 0 + 1 })) refl (λ e. refl)) (views_stay t)

up_stays : (t : Bool) (n : ℕ) → Stays t (world.up n)
up_stays t n w = if_stays t w (is_none (world.node_at w n)) (world.come_up n w) (world.nothing w) (come_up_stays t n w) (nothing_stays t w)

freed_unqueued : (f : Fact) → is_freed f ≡ true → is_unqueued f ≡ true
freed_unqueued (fact.Freed s n why) h = refl
freed_unqueued f h = absurd (true≢false (sym h))

down_by_stays : (t : Bool) (o : Option Node) → Stays t (world.go_down_by o)
down_by_stays t None w = kept_none t w
down_by_stays t (Some st) w = kept_both t w (world_after w (fact.Gone st.who)) _ (fact_kept t w (fact.Gone st.who) refl (λ e. refl))
    (facts_kept t (crash st) (world_after w (fact.Gone st.who)) (all_map is_freed is_unsent (λ f k. still_unsent f (freed_still f k)) (crash st) (crash_frees st)) (λ e. all_map is_freed is_unqueued freed_unqueued (crash st) (crash_frees st)))

down_stays : (t : Bool) (n : ℕ) → Stays t (world.go_down n)
down_stays t n w = down_by_stays t (world.node_at w n) w

crash_stays : (t : Bool) (n : ℕ) → Stays t (world.crash_node n)
crash_stays t n w = if_stays t w (is_none (world.node_at w n)) (world.nothing w) (world.then_step (world.go_down n w) world.views) (nothing_stays t w) (then_stays t w (world.go_down n w) world.views (down_stays t n w) (views_stay t))

-- Producing and sending.

never : {A : Type 0} → false ≡ true → A
never e = absurd (true≢false (sym e))

waiting_stays : (p n k : ℕ) → Stays false (world.send_waiting p n k)
waiting_stays p n zero w = kept_none false w
waiting_stays p n (suc k) w = then_stays false w (world.give (input.Send p) (world.node_at w n) w) (world.send_waiting p n k) (give_stays false (input.Send p) (world.node_at w n) (λ e. never e) w) (waiting_stays p n k)

all_waiting_stays : (p n : ℕ) → Stays false (world.send_all_waiting p n)
all_waiting_stays p n w =
    let k : ℕ = world.ordered_of w p - queued_in_all (queue_list w.lists p) in
    if_stays false w (world.is_of_node n (world.queue_holder w p)) (world.send_waiting p n k w) (world.tell [] w) (waiting_stays p n k w) (kept_none false w)

produce_stays : (p n : ℕ) → Stays false (world.produce p n)
produce_stays p n w =
    let m : Made = world.give (input.Produce p) (world.node_at w n) w in
    if_stays false w (is_none (world.node_at w n) || world.is_of_node n (world.queue_holder w p)) (world.nothing w) (world.then_step m (world.send_all_waiting p n)) (nothing_stays false w)
    (then_stays false w m (world.send_all_waiting p n) (give_stays false (input.Produce p) (world.node_at w n) (λ e. never e) w) (all_waiting_stays p n))

-- Delivery.

over_stays : (t : Bool) (k : ℕ) (p : Packet) → Stays t (world.hand_over k p)
over_stays t k p w = if_stays t w (nat_lt w.past k && is_among p.to w.members) (world.give (input.Packet p) (world.node_at w p.to.node) w) (world.tell [] w) (give_stays t (input.Packet p) (world.node_at w p.to.node) (λ e. refl) w) (kept_none t w)

deliver_by_stays : (t : Bool) (k : ℕ) (o : Option Packet) → Stays t (world.deliver_by k o)
deliver_by_stays t k None w = nothing_stays t w
deliver_by_stays t k (Some p) w = then_stays t w (world.tell (fact.Got k ∷ []) w) (world.hand_over k p) (fact_kept t w (fact.Got k) refl (λ e. refl)) (over_stays t k p)

deliver_stays : (t : Bool) (k : ℕ) → Stays t (world.deliver k)
deliver_stays t zero w = nothing_stays t w
deliver_stays t (suc k) w = deliver_by_stays t (suc k) (slice_get w.wire k) w

more_stays : (t : Bool) (w : World) (q : Step) → Stays t q → (ks : List ℕ) → Kept t w (elim ks as (λ x. Made) [ [] ↦ world.tell [] w | k ∷ ks ↦ world.then_step (world.deliver k w) q ]).world
more_stays t w q h [] = kept_none t w
more_stays t w q h (k ∷ ks) = then_stays t w (world.deliver k w) q (deliver_stays t k w) h

drain_stays : (t : Bool) (from n : ℕ) → Stays t (world.drain from n)
drain_stays t from zero w = kept_none t w
drain_stays t from (suc n) w = more_stays t w (world.drain from n) (drain_stays t from n) (filter (nat_lt from) w.fresh)

pump_stays : (t : Bool) (n : ℕ) → Stays t (world.pump n)
pump_stays t n w = if_stays t w (is_empty w.fresh) (world.nothing w) (world.drain 0 n w) (nothing_stays t w) (drain_stays t 0 n w)

-- Settle.

tick_stays : (w : World) (from bound : ℕ) (q : Step) → Stays false q → (b : Bool) → Kept false w (elim b as (λ b. Made) [
  | false ↦ world.tell [] w
  | true ↦ world.then_step (world.then_step (world.give input.Tick (world.node_at w 1) w) (world.drain from bound)) q
]).world
tick_stays w from bound q h false = kept_none false w
tick_stays w from bound q h true =
    let m : Made = world.give input.Tick (world.node_at w 1) w in
    then_stays false w (world.then_step m (world.drain from bound)) q (then_stays false w m (world.drain from bound) (give_stays false input.Tick (world.node_at w 1) (λ e. never e) w) (drain_stays false from bound)) h

ticks_stay : (from bound n : ℕ) → Stays false (world.tick_while_left from bound n)
ticks_stay from bound zero w = kept_none false w
ticks_stay from bound (suc n) w = tick_stays w from bound (world.tick_while_left from bound n) (ticks_stay from bound n) (list_any (world.is_left w) (producers w.set))

end_stays : (from : ℕ) → Stays false (world.settle_end from)
end_stays from w =
    let qs : List Step = world.go_down 1 ∷ world.tell (fact.Settled ∷ []) ∷ [] in
    if_stays false w (world.is_unsettled from w) (world.tell [] w) (world.in_order qs w) (kept_none false w) (order_stays false qs (down_stays false 1, ((λ w. fact_kept false w fact.Settled refl (λ e. refl)), tt)) w)

settle_stays : Stays false world.settle
settle_stays w =
    let from : ℕ = length w.wire in
    let bound : ℕ = world.settle_bound w in
    let downs : List Step = map world.go_down (numbers 1 w.set.config.nodes) in
    let takes : List Step = map (λ p. world.produce p 1) (producers w.set) in
    order_stays false
    (world.in_order downs ∷ world.come_up 1 ∷ world.drain from bound ∷ world.in_order takes ∷ world.drain from bound ∷ world.tick_while_left from bound bound ∷ world.settle_end from ∷ []) (
      order_stays false downs (map_stays false world.go_down (down_stays false) (numbers 1 w.set.config.nodes)),
      (
        come_up_stays false 1,
        (
          drain_stays false from bound,
          (
            order_stays false takes (map_stays false (λ p. world.produce p 1) (λ p. produce_stays p 1) (producers w.set)),
            (drain_stays false from bound, (ticks_stay from bound bound, (end_stays from, tt))),
          ),
        ),
      ),
    )
    w

-- Orders.

-- an order that sends
abbrev pub is_sending_order : Order → Bool
is_sending_order (order.Send p e c) = true
is_sending_order (order.Produce p n) = true
is_sending_order order.Settle = true
is_sending_order o = false

sends_none : (t : Bool) (o : Order) → (t ≡ true → is_sending_order o ≡ false) → is_sending_order o ≡ true → t ≡ false
sends_none false o h k = refl
sends_none true o h k = absurd (true≢false (sym k ∙ h refl))

pub play_stays : (t : Bool) (o : Order) → (t ≡ true → is_sending_order o ≡ false) → Stays t (world.play o)
play_stays t (order.Up n) s w = up_stays t n w
play_stays t (order.Crash n) s w = crash_stays t n w
play_stays t (order.Leave n) s w = or_stays t input.Leave (world.node_at w n) world.nothing (λ e. refl) (nothing_stays t) w
play_stays t (order.Tick n) s w = or_stays t input.Tick (world.node_at w n) world.nothing (λ e. refl) (nothing_stays t) w
play_stays t (order.Produce p n) s w = subst (λ b. Kept b w (world.produce p n w).world) (sym (sends_none t (order.Produce p n) s refl)) (produce_stays p n w)
play_stays t (order.Rest p) s w = or_stays t (input.Rest p) (world.node_of w (world.queue_holder w p)) world.nothing (λ e. refl) (nothing_stays t) w
play_stays t (order.Send p e k) s w = subst (λ b. Kept b w (world.send p e k w).world) (sym (sends_none t (order.Send p e k) s refl)) (or_stays false (input.Send p) (world.node_of w (world.queue_holder w p)) (world.tell (fact.Waits p e k ∷ [])) (λ e. never e) (λ w. fact_kept false w (fact.Waits p e k) refl (λ e. refl)) w)
play_stays t (order.Passivate e) s w = or_stays t (input.Passivate e) (world.active_node e w) world.nothing (λ e. refl) (nothing_stays t) w
play_stays t (order.FailWrite e k) s w = or_stays t (input.FailWrite e k) (world.active_node e w) world.nothing (λ e. refl) (nothing_stays t) w
play_stays t (order.Deliver k) s w = deliver_stays t k w
play_stays t (order.Pump n) s w = pump_stays t n w
play_stays t (order.Rebalance n) s w = or_stays t (input.Rebalance n) (world.node_of w (holder w.lists.coordinator)) world.nothing (λ e. refl) (nothing_stays t) w
play_stays t order.Settle s w = subst (λ b. Kept b w (world.settle w).world) (sym (sends_none t order.Settle s refl)) (settle_stays w)
play_stays t (order.Reshard n) s w = if_stays t w (world.is_any_up w || (n == w.set.config.shards)) (world.nothing w) (world.tell (fact.Reshard n (world.greatest_epoch w.lists) ∷ []) w) (nothing_stays t w) (fact_kept t w (fact.Reshard n (world.greatest_epoch w.lists)) refl (λ e. refl))
play_stays t order.Upgrade s w = if_stays t w (world.is_any_up w || (w.behaviour == 2)) (world.nothing w) (world.tell (fact.Upgrade 2 ∷ []) w) (nothing_stays t w) (fact_kept t w (fact.Upgrade 2) refl (λ e. refl))
play_stays t (order.Ping p) s w = nothing_stays t w
