-- What is carried by the lists in hand: it stays so as the lists grow, and acts that are carried keep what is kept and stashed queued.
use Rattle.std.proofs.Common.{◌≡◌, ℕ, ◌+◌, ◌-◌, ◌≤◌, List, [], ◌∷◌, ◌++◌, length, sym, ap, subst, ◌∙◌, refl, true, false, true≢false, arith}
use Rattle.std.specs.Prelude.{Bool, ◌&&◌, not, nat_le, drop, fold, Option, Some, None, slice_index_or, if◌then◌else◌}
use Rattle.std.specs.List.{list_all, flat_map}
use Rattle.std.proofs.lemmas.List.{length-append}
use Rattle.std.proofs.lemmas.List.Sums.{fold-append}
use Rattle.yard_model.specs.declared.event.Command.{Command}
use Rattle.yard_model.specs.declared.fact.Fact.{Fact}
use Rattle.yard_model.specs.declared.fact.Fact.TheVariants as fact
use Rattle.yard_model.specs.declared.input.Phase.{Phase}
use Rattle.yard_model.specs.declared.input.Phase.TheVariants as phase
use Rattle.yard_model.specs.declared.incarnation.Slot.{Slot}
use Rattle.yard_model.specs.declared.incarnation.Slot.TheVariants as slot
use Rattle.yard_model.specs.declared.out.Item.{Item}
use Rattle.yard_model.specs.declared.out.Item.TheVariants as item
use Rattle.yard_model.specs.declared.packet.Body.{Body}
use Rattle.yard_model.specs.declared.packet.Body.TheVariants as body
use Rattle.yard_model.specs.declared.packet.Message.{Message}
use Rattle.yard_model.specs.Entities.{Cell, new_cell, stash_step, cell_after, cell_in, cells_by, cells_step, entity_of}
use Rattle.yard_model.specs.Move.{Move, made, released, item_of}
use Rattle.yard_model.specs.Node.{Node, Act, by_region, by_entities, by_producer, by_coordinator, move_of, after, items_of}
use Rattle.yard_model.specs.Region.{kept_of, kept_step}
use Rattle.yard_model.specs.Script.{Script, Setting, is_name, setting}
use Rattle.yard_model.specs.Setting.{shard_of, place}
use Rattle.yard_model.specs.SlotLists.{SlotLists, shard_list, queue_list}
use Rattle.yard_model.specs.SlotReads.{journal, position, commands, commands_step, queued}
use Rattle.yard_model.specs.Trace.{slot_of, with_entry, lists_step}
use Rattle.plain_laws.proofs.Booleans.{and_both, both, all_map}
use Rattle.actor_laws.specs.Owes.{Hand, facts_in, hand_after}
use Rattle.plain_laws.proofs.Lists.{all_join, of_write}
use Rattle.node_laws.specs.Carried.{is_queued_in, is_recorded_in, is_carried_body, is_carried_fact, is_view, carried_in_hand, Carries, CarriesOn}
use Rattle.actor_laws.proofs.EntitiesMoves.{facts_append}
use Rattle.node_laws.proofs.Quiet.{is_quiet_body, is_quiet_fact, is_quiet_item, is_quiet}
use Rattle.actor_laws.proofs.RegionMoves.{all_drop}
use Rattle.node_laws.proofs.TraceRecords.{same_at_most, entry_rises, at_most_more}

-- Lists grow.

command_rises : (e : List ℕ) (old : List Command) (f : Fact) → length old ≤ length (commands_step e old f)
command_rises e old (fact.Queued p x n k) = by (is_name x e)
  where
    by : (b : Bool) → length old ≤ length (if b then old ++ k ∷ [] else old)
    by true = let more : length (old ++ k ∷ []) ≡ length old + 1 = length-append old (k ∷ []) in omega (arith, more)
    by false = same_at_most (length old)
command_rises e old f = same_at_most (length old)

queued_rises : (e : List ℕ) (list : List Fact) (f : Fact) → queued e list ≤ queued e (list ++ f ∷ [])
queued_rises e list f = subst (λ l. queued e list ≤ length l) (sym (fold-append (commands_step e) [] list (f ∷ []))) (command_rises e (commands e list) f)

pub queue_grows : (f : Fact) (lists : SlotLists) (o : Option Slot) (p : ℕ) (e : List ℕ) → queued e (queue_list lists p) ≤ queued e (queue_list (with_entry f lists o) p)
queue_grows f lists None p e = same_at_most (queued e (queue_list lists p))
queue_grows f lists (Some (slot.Shard s)) p e = same_at_most (queued e (queue_list lists p))
queue_grows f lists (Some slot.Coordinator) p e = same_at_most (queued e (queue_list lists p))
queue_grows f lists (Some (slot.Queue q)) p e = of_write (λ l. queued e (queue_list lists p) ≤ queued e l) lists.queues (q - 1) (p - 1) (queue_list lists q ++ f ∷ []) []
    (λ same. subst (λ i. queued e (slice_index_or lists.queues i []) ≤ queued e (queue_list lists q ++ f ∷ [])) (sym same) (queued_rises e (queue_list lists q) f))
    (same_at_most (queued e (queue_list lists p)))

shard_grows : (f : Fact) (lists : SlotLists) (o : Option Slot) (p : ℕ) (e : List ℕ) (s : ℕ) → position p (journal e (shard_list lists s)) ≤ position p (journal e (shard_list (with_entry f lists o) s))
shard_grows f lists None p e s = same_at_most (position p (journal e (shard_list lists s)))
shard_grows f lists (Some (slot.Queue q)) p e s = same_at_most (position p (journal e (shard_list lists s)))
shard_grows f lists (Some slot.Coordinator) p e s = same_at_most (position p (journal e (shard_list lists s)))
shard_grows f lists (Some (slot.Shard t)) p e s = of_write (λ l. position p (journal e (shard_list lists s)) ≤ position p (journal e l)) lists.shards t s (shard_list lists t ++ f ∷ []) []
    (λ same. subst (λ i. position p (journal e (shard_list lists i)) ≤ position p (journal e (shard_list lists t ++ f ∷ []))) (sym same) (entry_rises p e (shard_list lists t) f))
    (same_at_most (position p (journal e (shard_list lists s))))

-- so what is queued and recorded stays so
pub queued_on : (set : Setting) (lists : SlotLists) (f : Fact) (p : ℕ) (e : List ℕ) (n : ℕ) → nat_le n (queued e (queue_list lists p)) ≡ true → nat_le n (queued e (queue_list (lists_step set lists f) p)) ≡ true
queued_on set lists f p e n h = at_most_more n (queued e (queue_list lists p)) (queued e (queue_list (lists_step set lists f) p)) (queue_grows f lists (slot_of set f) p e) h

recorded_on : (c : Script) (lists : SlotLists) (f : Fact) (p : ℕ) (e : List ℕ) (n : ℕ) → is_recorded_in c lists p e n ≡ true → is_recorded_in c (lists_step (setting c) lists f) p e n ≡ true
recorded_on c lists f p e n h =
    let s : ℕ = shard_of (setting c) e in
    at_most_more n (position p (journal e (shard_list lists s))) (position p (journal e (shard_list (lists_step (setting c) lists f) s))) (shard_grows f lists (slot_of (setting c) f) p e s) h

pub queued_after : (c : Script) (h : Hand) (fs : List Fact) (m : Message) → is_queued_in h.lists m ≡ true → is_queued_in (fold (hand_after c) h fs).lists m ≡ true
queued_after c h [] m k = k
queued_after c h (f ∷ fs) m k = queued_after c (hand_after c h f) fs m (queued_on (setting c) h.lists f m.producer m.entity m.number k)

pub all_queued_after : (c : Script) (h : Hand) (fs : List Fact) (ms : List Message) → list_all (is_queued_in h.lists) ms ≡ true → list_all (is_queued_in (fold (hand_after c) h fs).lists) ms ≡ true
all_queued_after c h fs ms k = all_map (is_queued_in h.lists) (is_queued_in (fold (hand_after c) h fs).lists) (λ m q. queued_after c h fs m q) ms k

pub carries_after : (c : Script) (h : Hand) (fs : List Fact) (st : Node) → Carries h.lists st → Carries (fold (hand_after c) h fs).lists st
carries_after c h fs st k = record { kept = λ s. all_queued_after c h fs (kept_of st.region.kept s) (k.kept s); stashed = λ e. all_queued_after c h fs (cell_in st.entities.set st.entities.cells e).stash (k.stashed e) }

-- Items that are carried by these lists.

-- a message that is kept or stashed is queued
abbrev pub is_carried_told : SlotLists → Fact → Bool
is_carried_told lists (fact.Kept x m) = is_queued_in lists m
is_carried_told lists (fact.Stashed x m) = is_queued_in lists m
is_carried_told lists f = is_carried_fact lists f

abbrev pub is_carried_item : Script → SlotLists → Item → Bool
is_carried_item c lists (item.Post p) = not (is_view p.body) && is_carried_body c lists p.body
is_carried_item c lists (item.Fact f) = is_carried_told lists f

abbrev pub is_carried_move : Script → SlotLists → Move → Bool
is_carried_move c lists (made i) = is_carried_item c lists i
is_carried_move c lists m = true

-- they stay so
pub body_on : (c : Script) (lists : SlotLists) (f : Fact) (b : Body) → is_carried_body c lists b ≡ true → is_carried_body c (lists_step (setting c) lists f) b ≡ true
body_on c lists f (body.Sequenced m) h = queued_on (setting c) lists f m.producer m.entity m.number h
body_on c lists f (body.Request p e n u) h = recorded_on c lists f p e n h
body_on c lists f (body.Ack p e n) h = recorded_on c lists f p e n h
body_on c lists f b h = refl

told_on : (set : Setting) (lists : SlotLists) (f g : Fact) → is_carried_told lists g ≡ true → is_carried_told (lists_step set lists f) g ≡ true
told_on set lists f (fact.Kept x m) h = queued_on set lists f m.producer m.entity m.number h
told_on set lists f (fact.Stashed x m) h = queued_on set lists f m.producer m.entity m.number h
told_on set lists f (fact.Wrote e r) h = queued_on set lists f r.producer e r.place h
told_on set lists f g h = refl

item_on : (c : Script) (lists : SlotLists) (f : Fact) (i : Item) → is_carried_item c lists i ≡ true → is_carried_item c (lists_step (setting c) lists f) i ≡ true
item_on c lists f (item.Post p) h =
    let n : (not (is_view p.body) ≡ true) × (is_carried_body c lists p.body ≡ true) = and_both (not (is_view p.body)) (is_carried_body c lists p.body) h in
    both (not (is_view p.body)) (is_carried_body c (lists_step (setting c) lists f) p.body) n.0 (body_on c lists f p.body n.1)
item_on c lists f (item.Fact g) h = told_on (setting c) lists f g h

-- Items in turn, each carried by what is in hand when it is told.

abbrev pub are_carried : Script → Hand → List Item → Bool
are_carried c h [] = true
are_carried c h (item.Post p ∷ is) = is_carried_item c h.lists (item.Post p) && are_carried c h is
are_carried c h (item.Fact f ∷ is) = is_carried_told h.lists f && are_carried c (hand_after c h f) is

pub carried_both : (c : Script) (h : Hand) (xs ys : List Item) → are_carried c h xs ≡ true → are_carried c (fold (hand_after c) h (facts_in xs)) ys ≡ true → are_carried c h (xs ++ ys) ≡ true
carried_both c h [] ys f g = g
carried_both c h (item.Post p ∷ xs) ys f g =
    let n : (is_carried_item c h.lists (item.Post p) ≡ true) × (are_carried c h xs ≡ true) = and_both (is_carried_item c h.lists (item.Post p)) (are_carried c h xs) f in
    both (is_carried_item c h.lists (item.Post p)) (are_carried c h (xs ++ ys)) n.0 (carried_both c h xs ys n.1 g)
carried_both c h (item.Fact x ∷ xs) ys f g =
    let n : (is_carried_told h.lists x ≡ true) × (are_carried c (hand_after c h x) xs ≡ true) = and_both (is_carried_told h.lists x) (are_carried c (hand_after c h x) xs) f in
    both (is_carried_told h.lists x) (are_carried c (hand_after c h x) (xs ++ ys)) n.0 (carried_both c (hand_after c h x) xs ys n.1 g)

-- what is carried at first is so in turn
pub carried_first : (c : Script) (h : Hand) (is : List Item) → list_all (is_carried_item c h.lists) is ≡ true → are_carried c h is ≡ true
carried_first c h [] k = refl
carried_first c h (item.Post p ∷ is) k =
    let n : (is_carried_item c h.lists (item.Post p) ≡ true) × (list_all (is_carried_item c h.lists) is ≡ true) = and_both (is_carried_item c h.lists (item.Post p)) (list_all (is_carried_item c h.lists) is) k in
    both (is_carried_item c h.lists (item.Post p)) (are_carried c h is) n.0 (carried_first c h is n.1)
carried_first c h (item.Fact f ∷ is) k =
    let n : (is_carried_told h.lists f ≡ true) × (list_all (is_carried_item c h.lists) is ≡ true) = and_both (is_carried_told h.lists f) (list_all (is_carried_item c h.lists) is) k in
    both (is_carried_told h.lists f) (are_carried c (hand_after c h f) is) n.0
    (carried_first c (hand_after c h f) is (all_map (is_carried_item c h.lists) (is_carried_item c (hand_after c h f).lists) (λ i q. item_on c h.lists f i q) is n.1))

pub carried_moves : (c : Script) (lists : SlotLists) (ms : List Move) → list_all (is_carried_move c lists) ms ≡ true → list_all (is_carried_item c lists) (flat_map item_of ms) ≡ true
carried_moves c lists [] h = refl
carried_moves c lists (made i ∷ ms) h =
    let n : (is_carried_item c lists i ≡ true) × (list_all (is_carried_move c lists) ms ≡ true) = and_both (is_carried_item c lists i) (list_all (is_carried_move c lists) ms) h in
    both (is_carried_item c lists i) (list_all (is_carried_item c lists) (flat_map item_of ms)) n.0 (carried_moves c lists ms n.1)
carried_moves c lists (m ∷ ms) h = carried_moves c lists ms h

-- what is quiet is carried
quiet_body : (c : Script) (lists : SlotLists) (b : Body) → is_quiet_body b ≡ true → (not (is_view b) && is_carried_body c lists b) ≡ true
quiet_body c lists (body.View v xs) h = absurd (true≢false (sym h))
quiet_body c lists (body.Sequenced m) h = absurd (true≢false (sym h))
quiet_body c lists (body.Request p e n u) h = absurd (true≢false (sym h))
quiet_body c lists (body.Ack p e n) h = absurd (true≢false (sym h))
quiet_body c lists b h = refl

quiet_told : (lists : SlotLists) (f : Fact) → is_quiet_fact f ≡ true → is_carried_told lists f ≡ true
quiet_told lists (fact.Kept x m) h = absurd (true≢false (sym h))
quiet_told lists (fact.Stashed x m) h = absurd (true≢false (sym h))
quiet_told lists (fact.Wrote e r) h = absurd (true≢false (sym h))
quiet_told lists f h = refl

quiet_item : (c : Script) (lists : SlotLists) (i : Item) → is_quiet_item i ≡ true → is_carried_item c lists i ≡ true
quiet_item c lists (item.Post p) h = quiet_body c lists p.body h
quiet_item c lists (item.Fact f) h = quiet_told lists f h

pub quiet_carried : (c : Script) (h : Hand) (is : List Item) → list_all is_quiet_item is ≡ true → are_carried c h is ≡ true
quiet_carried c h is k = carried_first c h is (all_map is_quiet_item (is_carried_item c h.lists) (quiet_item c h.lists) is k)

pub quiet_moves : (c : Script) (lists : SlotLists) (ms : List Move) → list_all is_quiet ms ≡ true → list_all (is_carried_move c lists) ms ≡ true
quiet_moves c lists ms h = all_map is_quiet (is_carried_move c lists) one ms h
  where
    one : (m : Move) → is_quiet m ≡ true → is_carried_move c lists m ≡ true
    one (made i) k = quiet_item c lists i k
    one m k = refl

-- What is kept and stashed stays queued.

kept_still : (c : Script) (lists : SlotLists) (set : Setting) (kept : List (List Message)) (m : Move) → is_carried_move c lists m ≡ true → ((s : ℕ) → list_all (is_queued_in lists) (kept_of kept s) ≡ true)
    → (s : ℕ) → list_all (is_queued_in lists) (kept_of (kept_step set kept m) s) ≡ true
kept_still c lists set kept (made (item.Fact (fact.Kept x m))) good old s =
    let t : ℕ = shard_of set m.entity in
    of_write (λ ms. list_all (is_queued_in lists) ms ≡ true) kept t s (kept_of kept t ++ m ∷ []) []
    (λ e. all_join (is_queued_in lists) (kept_of kept t) (m ∷ []) (old t) (both (is_queued_in lists m) true good refl)) (old s)
kept_still c lists set kept (released t) good old s = of_write (λ ms. list_all (is_queued_in lists) ms ≡ true) kept t s (drop 1 (kept_of kept t)) [] (λ e. all_drop (is_queued_in lists) 1 (kept_of kept t) (old t)) (old s)
kept_still c lists set kept m good old s = old s

stash_still : (c : Script) (lists : SlotLists) (p : Phase) (old : List Message) (m : Move) → is_carried_move c lists m ≡ true → list_all (is_queued_in lists) old ≡ true → list_all (is_queued_in lists) (stash_step p old m) ≡ true
stash_still c lists p old (made (item.Fact (fact.Stashed x y))) good h = all_join (is_queued_in lists) old (y ∷ []) h (both (is_queued_in lists y) true good refl)
stash_still c lists phase.Absent old (made (item.Fact (fact.Dropped x y))) good h = all_drop (is_queued_in lists) 1 old h
stash_still c lists p old (made (item.Fact (fact.Active x e n s))) good h = refl
stash_still c lists phase.Absent old m good h = h
stash_still c lists phase.Loading old m good h = h
stash_still c lists phase.Active old m good h = h
stash_still c lists phase.Stopping old m good h = h

cells_still : (c : Script) (lists : SlotLists) (set : Setting) (cells : List Cell) (m : Move) → is_carried_move c lists m ≡ true → ((e : List ℕ) → list_all (is_queued_in lists) (cell_in set cells e).stash ≡ true)
    → (e : List ℕ) → list_all (is_queued_in lists) (cell_in set (cells_step set cells m) e).stash ≡ true
cells_still c lists set cells m good old e = by (entity_of m)
  where
    by : (o : Option (List ℕ)) → list_all (is_queued_in lists) (cell_in set (cells_by set cells m o) e).stash ≡ true
    by None = old e
    by (Some x) = of_write (λ (y : Cell). list_all (is_queued_in lists) y.stash ≡ true) cells (place set x) (place set e) (cell_after (cell_in set cells x) m) (new_cell set)
        (λ same. stash_still c lists (cell_in set cells x).phase (cell_in set cells x).stash m good (old x)) (old e)

act_still : (c : Script) (lists : SlotLists) (st : Node) (a : Act) → is_carried_move c lists (move_of a) ≡ true → Carries lists st → Carries lists (after st a)
act_still c lists st (by_region m) good k = record { kept = kept_still c lists st.region.set st.region.kept m good k.kept; stashed = k.stashed }
act_still c lists st (by_entities m) good k = record { kept = k.kept; stashed = cells_still c lists st.entities.set st.entities.cells m good k.stashed }
act_still c lists st (by_producer p m) good k = record { kept = k.kept; stashed = k.stashed }
act_still c lists st (by_coordinator m) good k = record { kept = k.kept; stashed = k.stashed }

-- an act's items, and then others
one_then : (c : Script) (h : Hand) (m : Move) (is : List Item) → are_carried c h (item_of m ++ is) ≡ true → (is_carried_move c h.lists m ≡ true) × (are_carried c (fold (hand_after c) h (facts_in (item_of m))) is ≡ true)
one_then c h (made (item.Fact f)) is k = and_both (is_carried_told h.lists f) (are_carried c (hand_after c h f) is) k
one_then c h (made (item.Post p)) is k = and_both (is_carried_item c h.lists (item.Post p)) (are_carried c h is) k
one_then c h m is k = (refl, k)

pub acts_carry : (c : Script) (acts : List Act) (st : Node) (h : Hand) → are_carried c h (items_of acts) ≡ true → Carries h.lists st → Carries (fold (hand_after c) h (facts_in (items_of acts))).lists (fold after st acts)
acts_carry c [] st h good k = k
acts_carry c (a ∷ acts) st h good k =
    let m : Move = move_of a in
    let n : (is_carried_move c h.lists m ≡ true) × (are_carried c (fold (hand_after c) h (facts_in (item_of m))) (items_of acts) ≡ true) = one_then c h m (items_of acts) good in
    let next : Hand = fold (hand_after c) h (facts_in (item_of m)) in
    let one : Carries next.lists (after st a) = carries_after c h (facts_in (item_of m)) (after st a) (act_still c h.lists st a n.0 k) in
    subst (λ (x : Hand). Carries x.lists (fold after (after st a) acts)) (sym (ap (fold (hand_after c) h) (facts_append (item_of m) (items_of acts)) ∙ fold-append (hand_after c) h (facts_in (item_of m)) (facts_in (items_of acts))))
    (acts_carry c acts (after st a) next n.1 one)

-- so they are carried in hand
told_fact : (lists : SlotLists) (f : Fact) → is_carried_told lists f ≡ true → is_carried_fact lists f ≡ true
told_fact lists (fact.Wrote e r) h = h
told_fact lists f h = refl

in_hand : (c : Script) (h : Hand) (is : List Item) → are_carried c h is ≡ true → carried_in_hand c h is ≡ true
in_hand c h [] k = refl
in_hand c h (item.Post p ∷ is) k =
    let n : (is_carried_item c h.lists (item.Post p) ≡ true) × (are_carried c h is ≡ true) = and_both (is_carried_item c h.lists (item.Post p)) (are_carried c h is) k in
    both (not (is_view p.body) && is_carried_body c h.lists p.body) (carried_in_hand c h is) n.0 (in_hand c h is n.1)
in_hand c h (item.Fact f ∷ is) k =
    let n : (is_carried_told h.lists f ≡ true) × (are_carried c (hand_after c h f) is ≡ true) = and_both (is_carried_told h.lists f) (are_carried c (hand_after c h f) is) k in
    both (is_carried_fact h.lists f) (carried_in_hand c (hand_after c h f) is) (told_fact h.lists f n.0) (in_hand c (hand_after c h f) is n.1)

pub carries_on : (c : Script) (h : Hand) (st : Node) (acts : List Act) → are_carried c h (items_of acts) ≡ true → Carries h.lists st → CarriesOn c h st acts
carries_on c h st acts good k = record { carried_are = in_hand c h (items_of acts) good; carries = acts_carry c acts st h good k }
