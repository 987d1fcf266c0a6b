-- The queries along the items of one turn, whatever its input.
use Rattle.std.proofs.Common.{◌≡◌, ◌≤◌, ◌⊎◌, inl, inr, ℕ, ◌+◌, List, [], ◌∷◌, ◌++◌, sym, ap, ap₂, subst, ◌∙◌, refl, true, true≢false, arith}
use Rattle.std.specs.Prelude.{◌||◌, not, nat_lt, fold, Option, Some, None, slice_index_or, if◌then◌else◌}
use Rattle.std.specs.List.{list_all, slice_get}
use Rattle.std.proofs.lemmas.Bool.Decides.{nat_tests}
use Rattle.yard_model.specs.declared.fact.Fact.{Fact}
use Rattle.yard_model.specs.declared.fact.Fact.TheVariants as fact
use Rattle.yard_model.specs.declared.out.Item.{Item}
use Rattle.yard_model.specs.declared.out.Item.TheVariants as item
use Rattle.yard_model.specs.declared.packet.Body.{Body}
use Rattle.yard_model.specs.declared.packet.Body.TheVariants as body
use Rattle.yard_model.specs.declared.packet.Packet.{Packet}
use Rattle.yard_model.specs.declared.charter.Line.{Line}
use Rattle.yard_model.specs.declared.incarnation.Incarnation.{Incarnation}
use Rattle.yard_model.specs.declared.incarnation.Slot.{Slot}
use Rattle.yard_model.specs.declared.incarnation.Slot.TheVariants as slot
use Rattle.yard_model.specs.Genuine.{is_genuine_packet}
use Rattle.yard_model.specs.Move.{told}
use Rattle.yard_model.specs.Node.{Node, after}
use Rattle.yard_model.specs.Queries.{Known, know, know_world, ordered_by, views_step, packet_step, actor, show}
use Rattle.yard_model.specs.Script.{Script, setting}
use Rattle.yard_model.specs.Setting.{shard_of}
use Rattle.yard_model.specs.SlotReads.{holder}
use Rattle.yard_model.specs.Trace.{list_at, lists_step}
use Rattle.yard_model.specs.Words.{is_at, is_same}
use Rattle.yard_model.specs.World.{World, world_after, version_step, numbered, count_posts}
use Rattle.plain_laws.proofs.Booleans.{and_both}
use Rattle.plain_laws.proofs.Members.{same_is}
use Rattle.actor_laws.specs.Owes.{Hand, facts_in, hand_after, is_own_post}
use Rattle.node_laws.specs.Carried.{is_view}
use Rattle.actor_laws.specs.Held.{is_grant, is_slot_held, slot_told, held_in_hand}
use Rattle.node_laws.specs.NodeStands.{is_own_fact}
use Rattle.play_laws.specs.TurnItems.{is_turn_fact, is_turn_item}
use Rattle.play_laws.proofs.Turned.{is_still, members_still, nodes_still, set_still, lists_still, wire_still}
use Rattle.query_laws.specs.Shown.{fact_of, known_after, shown}
use Rattle.query_laws.proofs.ShowBase.{same_some}
use Rattle.query_laws.proofs.Along.{IsPlain, IsViewOf, KnowsViews, Along, plain, along_shown, along_free, knows_sent}
use Rattle.play_laws.proofs.Tells.{turn_is_still}

-- Facts of a turn.

pub ordered_turn : (k : Known) (f : Fact) → is_turn_fact f ≡ true → (v : World) → ordered_by k f v ≡ v
ordered_turn k (fact.At n) h v = absurd (true≢false (sym h))
ordered_turn k f h v = refl

unseen_turn : (w : World) (old : List (List Incarnation)) (f : Fact) → is_turn_fact f ≡ true → views_step w old f ≡ old
unseen_turn w old (fact.Up x) h = absurd (true≢false (sym h))
unseen_turn w old (fact.Gone x) h = absurd (true≢false (sym h))
unseen_turn w old f h = refl

pub packet_turn : (w : World) (old : Option Packet) (f : Fact) → is_turn_fact f ≡ true → packet_step w old f ≡ old
packet_turn w old (fact.At n) h = absurd (true≢false (sym h))
packet_turn w old (fact.Got j) h = absurd (true≢false (sym h))
packet_turn w old f h = refl

version_turn : (old : ℕ) (f : Fact) → is_turn_fact f ≡ true → version_step old f ≡ old
version_turn old (fact.Up x) h = absurd (true≢false (sym h))
version_turn old (fact.Gone x) h = absurd (true≢false (sym h))
version_turn old f h = refl

turn_plain : (k : Known) (f : Fact) → is_turn_fact f ≡ true → IsPlain k f
turn_plain k f h = plain k f (ordered_turn k f h) (λ set version old. nodes_still set version old f (turn_is_still f h)) (λ w old. unseen_turn w old f h)

views_still : (views : List (List Incarnation)) (w : World) (f : Fact) → is_turn_fact f ≡ true → KnowsViews views w → KnowsViews views (world_after w f)
views_still views w f h k =
    let still : is_still f ≡ true = turn_is_still f h in
    record {
      count = k.count ∙ ap (λ n. n + 1) (sym (version_turn w.version f h));
      now = ap (λ n. slice_index_or views n []) (version_turn w.version f h) ∙ (k.now ∙ sym (members_still w.members f still));
      posted = λ j p e. k.posted j p (ap (λ l. slice_get l j) (sym (wire_still w.wire f still)) ∙ e);
    }

-- What a fact shows depends on few words of what is known.

record IsAlike (k j : Known) : Type 0 where
  set_is : k.world.set ≡ j.world.set
  lists_are : k.world.lists ≡ j.world.lists
  views_are : k.views ≡ j.views
  packet_is : k.packet ≡ j.packet

show_alike : (k j : Known) (f : Fact) (st : Node) → IsAlike k j → is_turn_fact f ≡ true → show k f st ≡ show j f st
show_alike k j (fact.At n) st a h = absurd (true≢false (sym h))
show_alike k j (fact.Got n) st a h = absurd (true≢false (sym h))
show_alike k j (fact.Sent n p) st a h = absurd (true≢false (sym h))
show_alike k j (fact.View x v) st a h = ap (λ vs. show (record k { views = vs }) (fact.View x v) st) a.views_are
show_alike k j (fact.Granted s n x) st a h = ap (λ l. show (record k { world = record k.world { lists = l } }) (fact.Granted s n x) st) a.lists_are
show_alike k j f st a h = refl

sent_alike : (k j : Known) (n m : ℕ) (p : Packet) (st : Node) → IsAlike k j → show k (fact.Sent n p) st ≡ show j (fact.Sent m p) st
sent_alike k j n m p st a = ap (λ o. show (record k { packet = o }) (fact.Sent n p) st) a.packet_is

after_alike : (k j : Known) (i : Item) → IsAlike k j → IsAlike (known_after k i) (known_after j i)
after_alike k j i a = record { set_is = a.set_is; lists_are = ap₂ (λ s l. lists_step s l (fact_of i)) a.set_is a.lists_are; views_are = a.views_are; packet_is = a.packet_is }

item_alike : (k j : Known) (i : Item) (st : Node) → IsAlike k j → is_turn_item i ≡ true → show k (fact_of i) st ≡ show j (fact_of i) st
item_alike k j (item.Fact f) st a h = show_alike k j f st a h
item_alike k j (item.Post p) st a h = sent_alike k j 0 0 p st a

shown_alike : (k j : Known) (is : List Item) (st : Node) → IsAlike k j → list_all is_turn_item is ≡ true → shown k st is ≡ shown j st is
shown_alike k j [] st a h = refl
shown_alike k j (i ∷ is) st a h =
    let m : (is_turn_item i ≡ true) × (list_all is_turn_item is ≡ true) = and_both (is_turn_item i) (list_all is_turn_item is) h in
    ap (λ acts. shown (known_after k i) (fold after st acts) is) (item_alike k j i st a m.0) ∙ shown_alike (known_after k i) (known_after j i) is (fold after st (show j (fact_of i) st)) (after_alike k j i a) m.1

know_alike : (k : Known) (f : Fact) → is_turn_fact f ≡ true → IsAlike (known_after k (item.Fact f)) (know k f)
know_alike k f h =
    let still : is_still f ≡ true = turn_is_still f h in
    let world_is : (know k f).world ≡ world_after (know_world k f) f = ap (λ v. world_after v f) (ordered_turn k f h (know_world k f)) in
    record {
      set_is = sym (ap (λ (v : World). v.set) world_is ∙ set_still k.world.set f still);
      lists_are = sym (ap (λ (v : World). v.lists) world_is ∙ lists_still k.world.set k.world.lists f still);
      views_are = sym (unseen_turn (know k f).world k.views f h);
      packet_is = sym (packet_turn k.world k.packet f h);
    }

sent_know_alike : (k : Known) (n : ℕ) (p : Packet) → IsAlike (known_after k (item.Post p)) (know k (fact.Sent n p))
sent_know_alike k n p = record { set_is = refl; lists_are = refl; views_are = refl; packet_is = refl }

-- Who acts.

-- a fact that shows nothing of anybody
abbrev IsIdle : Known → Fact → Type 0
IsIdle k f = (st : Node) → fold after st (show k f st) ≡ st

pub at_is : (x : Incarnation) (o : Option Incarnation) → is_at x o ≡ true → o ≡ Some x
at_is x None h = absurd (true≢false (sym h))
at_is x (Some y) h = ap Some (sym (same_is x y h))

abbrev Acts : Known → Incarnation → Fact → Type 0
Acts k who f = (actor k f ≡ Some who) ⊎ ((actor k f ≡ None) × IsIdle k f)

by_slot : (k : Known) (who : Incarnation) (h : Hand) (s : Slot) → k.world.lists ≡ h.lists → is_slot_held who h (Some s) ≡ true → holder (list_at k.world.lists s) ≡ Some who
by_slot k who h s lists held = ap (λ l. holder (list_at l s)) lists ∙ at_is who (holder (list_at h.lists s)) held

same_who : (k : Known) (f : Fact) (x who : Incarnation) → actor k f ≡ Some x → is_same x who ≡ true → Acts k who f
same_who k f x who e own = inl (e ∙ ap Some (same_is x who own))

acts : (c : Script) (k : Known) (who : Incarnation) (h : Hand) (f : Fact) → k.world.set ≡ setting c → k.world.lists ≡ h.lists → is_turn_fact f ≡ true → is_own_fact who f ≡ true → (is_grant f || is_slot_held who h (slot_told (setting c) f)) ≡ true → Acts k who f
acts c k who h (fact.View x v) set lists turn own held = same_who k (fact.View x v) x who refl own
acts c k who h (fact.Home x s to) set lists turn own held = same_who k (fact.Home x s to) x who refl own
acts c k who h (fact.Forget x s) set lists turn own held = same_who k (fact.Forget x s) x who refl own
acts c k who h (fact.Kept x m) set lists turn own held = same_who k (fact.Kept x m) x who refl own
acts c k who h (fact.Dropped x m) set lists turn own held = same_who k (fact.Dropped x m) x who refl own
acts c k who h (fact.Stashed x m) set lists turn own held = same_who k (fact.Stashed x m) x who refl own
acts c k who h (fact.Start x e) set lists turn own held = same_who k (fact.Start x e) x who refl own
acts c k who h (fact.Active x e n st) set lists turn own held = same_who k (fact.Active x e n st) x who refl own
acts c k who h (fact.Stop x e) set lists turn own held = same_who k (fact.Stop x e) x who refl own
acts c k who h (fact.WriteFailed x e) set lists turn own held = same_who k (fact.WriteFailed x e) x who refl own
acts c k who h (fact.Granted s n x) set lists turn own held = same_who k (fact.Granted s n x) x who refl own
acts c k who h (fact.Moving s stamp) set lists turn own held = inl (by_slot k who h slot.Coordinator lists held)
acts c k who h fact.Nothing set lists turn own held = inr (refl, λ st. ap (λ o. record st { coordinator = o }) (same_some (told fact.Nothing) st.coordinator (λ k. refl)))
acts c k who h (fact.Held s x n) set lists turn own held = inr (refl, λ st. ap (λ o. record st { coordinator = o }) (same_some (told (fact.Held s x n)) st.coordinator (λ k. refl)))
acts c k who h (fact.Freed s n why) set lists turn own held = inl (by_slot k who h s lists held)
acts c k who h (fact.Registered r) set lists turn own held = inl (by_slot k who h slot.Coordinator lists held)
acts c k who h (fact.Terminated r) set lists turn own held = inl (by_slot k who h slot.Coordinator lists held)
acts c k who h (fact.Allocated s r) set lists turn own held = inl (by_slot k who h slot.Coordinator lists held)
acts c k who h (fact.Deallocated s) set lists turn own held = inl (by_slot k who h slot.Coordinator lists held)
acts c k who h (fact.Wrote e r) set lists turn own held = inl (ap (λ s. holder (list_at k.world.lists (slot.Shard (shard_of s e)))) set ∙ by_slot k who h (slot.Shard (shard_of (setting c) e)) lists held)
acts c k who h (fact.Snapshot e n) set lists turn own held = inl (ap (λ s. holder (list_at k.world.lists (slot.Shard (shard_of s e)))) set ∙ by_slot k who h (slot.Shard (shard_of (setting c) e)) lists held)
acts c k who h (fact.Remembered e) set lists turn own held = inl (ap (λ s. holder (list_at k.world.lists (slot.Shard (shard_of s e)))) set ∙ by_slot k who h (slot.Shard (shard_of (setting c) e)) lists held)
acts c k who h (fact.Forgotten e) set lists turn own held = inl (ap (λ s. holder (list_at k.world.lists (slot.Shard (shard_of s e)))) set ∙ by_slot k who h (slot.Shard (shard_of (setting c) e)) lists held)
acts c k who h (fact.Queued p e n d) set lists turn own held = inl (by_slot k who h (slot.Queue p) lists held)
acts c k who h (fact.Confirmed p e n) set lists turn own held = inl (by_slot k who h (slot.Queue p) lists held)
acts c k who h f set lists turn own held = absurd (true≢false (sym turn))

-- Along.

along_fact : (orders : List Line) (views : List (List Incarnation)) (who : Incarnation) (i : ℕ) (k : Known) (w : World) (st : Node) (f : Fact) → is_turn_fact f ≡ true → Along orders views who i k w st → Acts k who f
    → Along orders views who i (know k f) (world_after w f) (fold after st (show k f st))
along_fact orders views who i k w st f turn a (inl mine) = along_shown orders views who i k w st f (turn_plain k f turn) a mine (views_still views w f turn a.knows)
along_fact orders views who i k w st f turn a (inr idle) = subst (Along orders views who i (know k f) (world_after w f)) (sym (idle.1 st)) (along_free orders views who i k w st f (turn_plain k f turn) a idle.0 (views_still views w f turn a.knows))

pub no_view_of : (views : List (List Incarnation)) (b : Body) → not (is_view b) ≡ true → IsViewOf views b
no_view_of views (body.View v xs) h = absurd (true≢false (sym h))
no_view_of views b h = tt

along_post : (orders : List Line) (views : List (List Incarnation)) (who : Incarnation) (i : ℕ) (k : Known) (w : World) (st : Node) (n : ℕ) (p : Packet) → not (is_view p.body) ≡ true → is_same p.from who ≡ true → Along orders views who i k w st
    → Along orders views who i (know k (fact.Sent n p)) (world_after w (fact.Sent n p)) (fold after st (show k (fact.Sent n p) st))
along_post orders views who i k w st n p view from a = along_shown orders views who i k w st (fact.Sent n p) (plain k (fact.Sent n p) (λ v. refl) (λ s n o. refl) (λ w o. refl)) a (ap Some (same_is p.from who from)) (knows_sent views w n p a.knows (no_view_of views p.body view))

count_rises : (is : List Item) (n : ℕ) → n ≤ fold count_posts n is
count_rises [] n = itself n
  where
    itself : (n : ℕ) → n ≤ n
    itself n = omega (arith)
count_rises (item.Fact f ∷ is) n = count_rises is n
count_rises (item.Post p ∷ is) n = let more : n + 1 ≤ fold count_posts (n + 1) is = count_rises is (n + 1) in omega (arith, more)

pub along_items : (c : Script) (orders : List Line) (views : List (List Incarnation)) (who : Incarnation) (i limit : ℕ) (is : List Item) (n : ℕ) (k : Known) (w : World) (st : Node) (h : Hand) → k.world.set ≡ setting c → k.world.lists ≡ h.lists
    → list_all is_turn_item is ≡ true → list_all (is_own_post c who) is ≡ true → list_all (is_own_fact who) (facts_in is) ≡ true → held_in_hand c who h (facts_in is) ≡ true → fold count_posts n is ≤ limit
    → Along orders views who i k w st → Along orders views who i (fold know k (numbered limit n is)) (fold world_after w (numbered limit n is)) (shown k st is)
along_items c orders views who i limit [] n k w st h set lists turn posts own held fits a = a
along_items c orders views who i limit (item.Post p ∷ is) n k w st h set lists turn posts own held fits a =
    subst (λ b. let fs : List Fact = (if b then fact.Sent (n + 1) p ∷ [] else []) ++ numbered limit (n + 1) is in Along orders views who i (fold know k fs) (fold world_after w fs) (shown k st (item.Post p ∷ is))) (sym below)
    (subst (Along orders views who i (fold know (know k f) (numbered limit (n + 1) is)) (fold world_after (world_after w f) (numbered limit (n + 1) is)))
    (sym (shown_alike (known_after k (item.Post p)) (know k f) is (fold after st (show k f st)) (sent_know_alike k (n + 1) p) t.1))
    (along_items c orders views who i limit is (n + 1) (know k f) (world_after w f) (fold after st (show k f st)) h set lists t.1 q.1 own held fits
    (along_post orders views who i k w st (n + 1) p t.0 (and_both (is_same p.from who) (is_genuine_packet c p) q.0).0 a)))
  where
    f : Fact
    f = fact.Sent (n + 1) p

    t : (not (is_view p.body) ≡ true) × (list_all is_turn_item is ≡ true)
    t = and_both (not (is_view p.body)) (list_all is_turn_item is) turn

    q : (is_own_post c who (item.Post p) ≡ true) × (list_all (is_own_post c who) is ≡ true)
    q = and_both (is_own_post c who (item.Post p)) (list_all (is_own_post c who) is) posts

    less : (a b d : ℕ) → a + 1 ≤ b → b ≤ d → nat_lt a d ≡ true
    less a b d e g = grind (arith, nat_tests)

    below : nat_lt n limit ≡ true
    below = less n (fold count_posts (n + 1) is) limit (count_rises is (n + 1)) fits
along_items c orders views who i limit (item.Fact f ∷ is) n k w st h set lists turn posts own held fits a =
    let t : (is_turn_fact f ≡ true) × (list_all is_turn_item is ≡ true) = and_both (is_turn_fact f) (list_all is_turn_item is) turn in
    let o : (is_own_fact who f ≡ true) × (list_all (is_own_fact who) (facts_in is) ≡ true) = and_both (is_own_fact who f) (list_all (is_own_fact who) (facts_in is)) own in
    let g : ((is_grant f || is_slot_held who h (slot_told (setting c) f)) ≡ true) × (held_in_hand c who (hand_after c h f) (facts_in is) ≡ true) =
    and_both (is_grant f || is_slot_held who h (slot_told (setting c) f)) (held_in_hand c who (hand_after c h f) (facts_in is)) held in
    let alike : IsAlike (known_after k (item.Fact f)) (know k f) = know_alike k f t.0 in
    subst (Along orders views who i (fold know (know k f) (numbered limit n is)) (fold world_after (world_after w f) (numbered limit n is)))
    (sym (shown_alike (known_after k (item.Fact f)) (know k f) is (fold after st (show k f st)) alike t.1))
    (along_items c orders views who i limit is n (know k f) (world_after w f) (fold after st (show k f st)) (hand_after c h f) (sym alike.set_is ∙ set)
    (sym alike.lists_are ∙ (ap (λ s. lists_step s k.world.lists f) set ∙ ap (λ l. lists_step (setting c) l f) lists)) t.1 posts o.1 g.1 fits
    (along_fact orders views who i k w st f t.0 a (acts c k who h f set lists t.0 o.0 g.0)))
