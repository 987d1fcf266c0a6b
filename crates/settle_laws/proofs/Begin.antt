-- How a settling begins at its node.
use Rattle.std.proofs.Common.{◌≡◌, ◌<◌, ◌≤◌, inl, ℕ, zero, suc, ◌+◌, ◌-◌, ◌*◌, List, [], ◌∷◌, ◌++◌, length, map, sym, ap, subst, ◌∙◌, refl, true, false, true≢false, arith}
use Rattle.std.specs.Prelude.{Bool, ◌==◌, ◌||◌, ◌&&◌, not, nat_le, nat_lt, fold, Option, Some, None, is_none, if◌then◌else◌}
use Rattle.std.specs.List.{list_any}
use Rattle.yard_model.specs.declared.fact.Fact.{Fact}
use Rattle.yard_model.specs.declared.fact.Fact.TheVariants as fact
use Rattle.yard_model.specs.declared.packet.Body.TheVariants as body
use Rattle.yard_model.specs.declared.packet.Packet.{Packet}
use Rattle.yard_model.specs.declared.incarnation.Incarnation.{Incarnation}
use Rattle.yard_model.specs.declared.input.Phase.TheVariants as phase
use Rattle.yard_model.specs.Entities as entities
use Rattle.yard_model.specs.Entities.{Cell, Hosted, cell_in, cell_after, is_phase, new_cell, phase_by_post, reach_by_post, entered, entries_in}
use Rattle.yard_model.specs.Move.{Move, told, post}
use Rattle.yard_model.specs.Node.{Node, Act, after}
use Rattle.yard_model.specs.Setting.{place, shard_of}
use Rattle.yard_model.specs.SlotLists.{shard_list}
use Rattle.yard_model.specs.SlotReads.{holder, journal, position}
use Rattle.plain_laws.proofs.Booleans.{and_both, both}
use Rattle.plain_laws.proofs.Lists.{by_place}
use Rattle.settle_laws.specs.Alone.{Base, wire_after, recorded, confirmed_by, queued_by, sent_by, is_live, is_settled, Each, runs, Fits, is_requesting, Stands, cell_load, cells_load, lefts, kept_load, total, load}
use Rattle.settle_laws.proofs.Records.{le_itself}
use Rattle.yard_model.specs.Words.{is_at, is_same}
use Rattle.yard_model.specs.Region as region
use Rattle.yard_model.specs.Region.{Region, kept_of, home}
use Rattle.yard_model.specs.Entities.{is_running_in}
use Rattle.yard_model.specs.Node.{by_region}
use Rattle.plain_laws.proofs.Members.{itself_is}
use Rattle.std.specs.Prelude.{sum_by}
use Rattle.std.specs.List.{sum_by, fold}
use Rattle.std.proofs.lemmas.List.Sums.{fold-append, sum_by-cons}
use Rattle.plain_laws.proofs.Lists.{inside, placed_at, placed_beside}
use Rattle.settle_laws.specs.Alone.{demand_by, left_by, left_of, none_later}
use Rattle.yard_model.specs.Node.{Rule}
use Rattle.yard_model.specs.Turns.{in_turn, for_each, where_some}
use Rattle.std.proofs.lemmas.List.{append-nil}
use Rattle.yard_model.specs.Entities.{Entities, entities_after, is_in_phase}
use Rattle.yard_model.specs.Region.{no_stamp}
use Rattle.yard_model.specs.Words.{is_below}
use Rattle.settle_laws.specs.Alone.{stamp_at, list_in}
use Rattle.std.specs.Prelude.{filter, replicate}
use Rattle.std.specs.List.{flat_map, list_all}
use Rattle.std.proofs.lemmas.List.{append_assoc}
use Rattle.yard_model.specs.declared.incarnation.Slot.TheVariants as slot
use Rattle.yard_model.specs.SlotReads.{epoch}
use Rattle.yard_model.specs.Move.{took}
use Rattle.yard_model.specs.Node.{acquire_by, of_region}
use Rattle.yard_model.specs.Entities.{is_hosted}
use Rattle.yard_model.specs.Node.{all_in_turn}
use Rattle.yard_model.specs.SlotReads.{holder}
use Rattle.yard_model.specs.Node.{Rule, by_coordinator, packet, of_coordinator}
use Rattle.yard_model.specs.Coordinator as coordinator
use Rattle.yard_model.specs.Coordinator.{Coordinator, Share, coordinator_after}
use Rattle.yard_model.specs.SlotReads.{regions, regions_step, allocation, allocation_step, epoch_step}
use Rattle.yard_model.specs.Words.{is_among}
use Rattle.std.proofs.lemmas.List.Sums.{sum_by-cons}
use Rattle.plain_laws.proofs.Read.{regions_more}
use Rattle.actor_laws.proofs.CoordinatorReads.{allocation_more}
use Rattle.yard_model.specs.Node.{lead, items_of}
use Rattle.yard_model.specs.Script.{Setting}
use Rattle.yard_model.specs.SlotLists.{SlotLists}
use Rattle.yard_model.specs.Trace.{lists_step}
use Rattle.actor_laws.specs.Owes.{facts_in}
use Rattle.yard_model.specs.Setting.{shards}
use Rattle.yard_model.specs.Genuine.{is_shard}
use Rattle.yard_model.specs.Opening.{begins}
use Rattle.yard_model.specs.Lawful.{own, is_coordinator_entry}
use Rattle.yard_model.specs.Script.{Script, with_shards}
use Rattle.yard_model.specs.Node.{new_node}
use Rattle.yard_model.specs.Move.{viewed}
use Rattle.yard_model.specs.Words.{without}
use Rattle.yard_model.specs.Coordinator.{new_coordinator}
use Rattle.plain_laws.proofs.Booleans.{and_both, get_replicate}
use Rattle.yard_laws.proofs.Owned.{coordinator_to}
use Rattle.plain_laws.proofs.Members.{among_front, same_is, differ, differ_filter}
use Rattle.yard_laws.proofs.LostLaws.{regions_differ}
use Rattle.std.proofs.lemmas.List.{length-replicate}
use Rattle.settle_laws.specs.Begun.{CanBegin, begun_entries, beginning, own_packet, NodeBegins}
use Rattle.settle_laws.proofs.Ticks.{each_none, own_among}

-- What a lawful list says: a home is a registered region.

among_of : (a b d : Bool) → (a && b && d) ≡ true → b ≡ true
among_of a b d h = (and_both a b (and_both (a && b) d h).0).1

pub home_among_step : (c : Script) (s n : ℕ) (l : List Fact) (f : Fact) → ((x : Incarnation) → allocation s l ≡ Some x → is_among x (regions l) ≡ true) → (begins f || is_coordinator_entry (with_shards n c) l f) ≡ true → (x : Incarnation) → allocation_step s (allocation s l) f ≡ Some x → is_among x (regions_step (regions l) f) ≡ true
home_among_step c s n l (fact.Allocated t r) old may x = by (t == s)
  where
    by : (q : Bool) → (if q then Some r else allocation s l) ≡ Some x → is_among x (regions l) ≡ true
    by true e = subst (λ y. is_among y (regions l) ≡ true) (Rattle.plain_laws.proofs.Lists.some_is r x e) (among_of (is_shard (with_shards n c) t) (is_among r (regions l)) (is_none (allocation t l)) may)
    by false e = old x e
home_among_step c s n l (fact.Deallocated t) old may x = by (t == s)
  where
    by : (q : Bool) → (if q then None else allocation s l) ≡ Some x → is_among x (regions l) ≡ true
    by true e = absurd (Rattle.plain_laws.proofs.Lists.none_is_not_some x e)
    by false e = old x e
home_among_step c s n l (fact.Terminated r) old may x = by (allocation s l) old
  where
    keep : (ys : List Incarnation) → is_among x ys ≡ true → is_same r x ≡ false → is_among x (without r ys) ≡ true
    keep [] h k = h
    keep (y ∷ ys) h k = at_head (is_same r y) refl (is_same x y) refl h (keep ys)
      where
        at_head : (p : Bool) → is_same r y ≡ p → (q : Bool) → is_same x y ≡ q → (q || is_among x ys) ≡ true → (is_among x ys ≡ true → is_same r x ≡ false → is_among x (without r ys) ≡ true) → is_among x (if not p then y ∷ without r ys else without r ys) ≡ true
        at_head true e true g h f = absurd (true≢false (sym (ap (is_same r) (same_is x y g) ∙ e) ∙ k))
        at_head true e false g h f = f h k
        at_head false e true g h f = ap (λ t. t || is_among x (without r ys)) g
        at_head false e false g h f = ap (λ t. is_same x y || t) (f h k) ∙ last (is_same x y)
          where
            last : (t : Bool) → (t || true) ≡ true
            last true = refl
            last false = refl

    by : (o : Option Incarnation) → ((y : Incarnation) → o ≡ Some y → is_among y (regions l) ≡ true) → (if is_at r o then None else o) ≡ Some x → is_among x (without r (regions l)) ≡ true
    by None h e = absurd (Rattle.plain_laws.proofs.Lists.none_is_not_some x e)
    by (Some y) h e = same (is_same r y) refl e
      where
        same : (q : Bool) → is_same r y ≡ q → (if q then None else Some y) ≡ Some x → is_among x (without r (regions l)) ≡ true
        same true g k = absurd (Rattle.plain_laws.proofs.Lists.none_is_not_some x k)
        same false g k = keep (regions l) (h x k) (ap (is_same r) (sym (Rattle.plain_laws.proofs.Lists.some_is y x k)) ∙ g)
home_among_step c s n l (fact.Registered r) old may x = λ e. among_front x r (regions l) (old x e)
home_among_step c s n l (fact.Reshard m k) old may x = λ e. absurd (Rattle.plain_laws.proofs.Lists.none_is_not_some x e)
home_among_step c s n l f old may x = λ e. old x e

pub home_among : (c : Script) (s : ℕ) (l : List Fact) → own c slot.Coordinator l ≡ true → (x : Incarnation) → allocation s l ≡ Some x → is_among x (regions l) ≡ true
home_among c s l o = coordinator_to c (λ l. (x : Incarnation) → allocation s l ≡ Some x → is_among x (regions l) ≡ true) (λ x e. absurd (Rattle.plain_laws.proofs.Lists.none_is_not_some x e))
    (λ n l f old may x e. subst (λ rs. is_among x rs ≡ true) (sym (regions_more l f)) (home_among_step c s n l f old may x (sym (allocation_more s l f) ∙ e))) l o

-- Each region but this one is terminated.

among_where : (q : Incarnation → Bool) (x : Incarnation) (xs : List Incarnation) → is_among x xs ≡ true → q x ≡ true → is_among x (filter q xs) ≡ true
among_where q x [] h k = h
among_where q x (y ∷ ys) h k = by (is_same x y) refl (q y) refl h (among_where q x ys)
  where
    by : (s : Bool) → is_same x y ≡ s → (t : Bool) → q y ≡ t → (s || is_among x ys) ≡ true → (is_among x ys ≡ true → q x ≡ true → is_among x (filter q ys) ≡ true) → is_among x (if t then y ∷ filter q ys else filter q ys) ≡ true
    by true e true g m rest = ap (λ t. t || is_among x (filter q ys)) e
    by true e false g m rest = absurd (true≢false (sym k ∙ (ap q (same_is x y e) ∙ g)))
    by false e true g m rest = ap (λ t. t || is_among x (filter q ys)) e ∙ rest m k
    by false e false g m rest = rest m k

abbrev pub lost : Base → List Incarnation
lost b = filter (λ r. not (is_among r (b.who ∷ []))) (regions b.lists.coordinator)

other_way : (x y : Incarnation) → is_same x y ≡ false → is_same y x ≡ false
other_way x y k = same (is_same y x) refl
  where
    same : (t : Bool) → is_same y x ≡ t → is_same y x ≡ false
    same true e = absurd (true≢false (sym (itself_is x y (sym (same_is y x e))) ∙ k))
    same false e = e

-- who is left is none of these
left_step : (who r : Incarnation) (rs xs : List Incarnation) → list_all (λ x. is_same x who || is_among x (r ∷ rs)) xs ≡ true → list_all (λ x. is_same x who || is_among x rs) (without r xs) ≡ true
left_step who r rs [] h = refl
left_step who r rs (x ∷ xs) h =
    let m : ((is_same x who || is_among x (r ∷ rs)) ≡ true) × (list_all (λ x. is_same x who || is_among x (r ∷ rs)) xs ≡ true) = and_both (is_same x who || is_among x (r ∷ rs)) (list_all (λ x. is_same x who || is_among x (r ∷ rs)) xs) h in
    by (is_same r x) refl m.0 (left_step who r rs xs m.1)
  where
    by : (p : Bool) → is_same r x ≡ p → (is_same x who || (is_same x r || is_among x rs)) ≡ true → list_all (λ x. is_same x who || is_among x rs) (without r xs) ≡ true → list_all (λ x. is_same x who || is_among x rs) (if not p then x ∷ without r xs else without r xs) ≡ true
    by true e g rest = rest
    by false e g rest = both (is_same x who || is_among x rs) (list_all (λ x. is_same x who || is_among x rs) (without r xs)) (ap (λ t. is_same x who || (t || is_among x rs)) (sym (other_way r x e)) ∙ g) rest

all_left : (who : Incarnation) (rs xs : List Incarnation) → list_all (λ x. is_same x who || is_among x rs) xs ≡ true → list_all (λ x. is_same x who || false) (fold regions_step xs (map (λ r. fact.Terminated r) rs)) ≡ true
all_left who [] xs h = h
all_left who (r ∷ rs) xs h = all_left who rs (without r xs) (left_step who r rs xs h)

still_differ : (rs xs : List Incarnation) → differ xs ≡ true → differ (fold regions_step xs (map (λ r. fact.Terminated r) rs)) ≡ true
still_differ [] xs h = h
still_differ (r ∷ rs) xs h = still_differ rs (without r xs) (differ_filter (λ y. not (is_same r y)) xs h)

-- one of these is lost, or is this one
lost_or : (who : Incarnation) (all xs : List Incarnation) → ((x : Incarnation) → is_among x xs ≡ true → is_among x all ≡ true) → list_all (λ x. is_same x who || is_among x (filter (λ r. not (is_among r (who ∷ []))) all)) xs ≡ true
lost_or who all [] h = refl
lost_or who all (x ∷ xs) h = both (is_same x who || is_among x (filter (λ r. not (is_among r (who ∷ []))) all)) (list_all (λ x. is_same x who || is_among x (filter (λ r. not (is_among r (who ∷ []))) all)) xs) (by (is_same x who) refl) (lost_or who all xs (λ y m. h y (or_last (is_same y x) (is_among y xs) m)))
  where
    or_last : (a b : Bool) → b ≡ true → (a || b) ≡ true
    or_last true b e = refl
    or_last false b e = e

    or_first : (a b : Bool) → a ≡ true → (a || b) ≡ true
    or_first true b e = refl
    or_first false b e = absurd (true≢false (sym e))

    by : (t : Bool) → is_same x who ≡ t → (t || is_among x (filter (λ r. not (is_among r (who ∷ []))) all)) ≡ true
    by true e = refl
    by false e = among_where (λ r. not (is_among r (who ∷ []))) x all (h x (or_first (is_same x x) (is_among x xs) (itself_is x x refl))) (ap (λ t. not (t || false)) e)

differ_first : (x y : Incarnation) (ys : List Incarnation) → differ (x ∷ y ∷ ys) ≡ true → not (is_same x y) ≡ true
differ_first x y ys h = by (is_same x y) (is_among x ys) (and_both (not (is_same x y || is_among x ys)) (differ (y ∷ ys)) h).0
  where
    by : (a b : Bool) → not (a || b) ≡ true → not a ≡ true
    by true b e = e
    by false b e = refl

-- they are none, or this one alone
who_left : (who : Incarnation) (xs : List Incarnation) (t : Bool) → is_among who xs ≡ t → list_all (λ x. is_same x who || false) xs ≡ true → differ xs ≡ true → xs ≡ (if t then who ∷ [] else [])
who_left who [] true e all d = absurd (true≢false (sym e))
who_left who [] false e all d = refl
who_left who (x ∷ xs) t e all d = by t e xs (and_both (is_same x who || false) (list_all (λ x. is_same x who || false) xs) all).1 d
  where
    same : x ≡ who
    same = same_is x who (plain (is_same x who) (and_both (is_same x who || false) (list_all (λ x. is_same x who || false) xs) all).0)
      where
        plain : (t : Bool) → (t || false) ≡ true → t ≡ true
        plain true h = refl
        plain false h = h

    by : (t : Bool) → is_among who (x ∷ xs) ≡ t → (ys : List Incarnation) → list_all (λ y. is_same y who || false) ys ≡ true → differ (x ∷ ys) ≡ true → x ∷ ys ≡ (if t then who ∷ [] else [])
    by false e ys a d = absurd (true≢false (sym (ap (λ t. t || is_among who xs) (itself_is who x (sym same))) ∙ e))
    by true e [] a d = ap (λ y. y ∷ []) same
    by true e (y ∷ ys) a d = absurd (twice (same_is y who (plain (is_same y who) (and_both (is_same y who || false) (list_all (λ y. is_same y who || false) ys) a).0)))
      where
        plain : (t : Bool) → (t || false) ≡ true → t ≡ true
        plain true h = refl
        plain false h = h

        twice : y ≡ who → ⊥
        twice other = true≢false (sym (differ_first x y ys d) ∙ ap not (itself_is x y (same ∙ sym other)))

-- a home that is left is of a region that isn't terminated
home_left : (s : ℕ) (rs : List Incarnation) (o : Option Incarnation) (x : Incarnation) → fold (allocation_step s) o (map (λ r. fact.Terminated r) rs) ≡ Some x → (o ≡ Some x) × (is_among x rs ≡ false)
home_left s [] o x h = (h, refl)
home_left s (r ∷ rs) None x h = absurd (Rattle.plain_laws.proofs.Lists.none_is_not_some x (home_left s rs None x h).0)
home_left s (r ∷ rs) (Some y) x h = by (is_same r y) refl h (home_left s rs None x) (home_left s rs (Some y) x)
  where
    by : (t : Bool) → is_same r y ≡ t → fold (allocation_step s) (if t then None else Some y) (map (λ r. fact.Terminated r) rs) ≡ Some x
        → (fold (allocation_step s) None (map (λ r. fact.Terminated r) rs) ≡ Some x → (None ≡ Some x) × (is_among x rs ≡ false))
        → (fold (allocation_step s) (Some y) (map (λ r. fact.Terminated r) rs) ≡ Some x → (Some y ≡ Some x) × (is_among x rs ≡ false))
        → (Some y ≡ Some x) × ((is_same x r || is_among x rs) ≡ false)
    by true e h none some = absurd (Rattle.plain_laws.proofs.Lists.none_is_not_some x (none h).0)
    by false e h none some = let k : (Some y ≡ Some x) × (is_among x rs ≡ false) = some h in
        (k.0, ap (λ z. is_same z r || is_among x rs) (sym (Rattle.plain_laws.proofs.Lists.some_is y x k.0)) ∙ (ap (λ t. t || is_among x rs) (other_way r y e) ∙ k.1))

pub still_lease : (rs : List Incarnation) (n : ℕ) → fold epoch_step n (map (λ r. fact.Terminated r) rs) ≡ n
still_lease [] n = refl
still_lease (r ∷ rs) n = still_lease rs n

-- The node along its first three deliveries: so much of the coordinator's list, and registered or not.

abbrev pub region_then : Base → Option Incarnation → Region
region_then b reg = record {
  who = b.who;
  set = b.set;
  version = b.version;
  view = b.who ∷ [];
  registered = reg;
  leaving = false;
  homes = replicate b.set.config.shards None;
  marks = replicate b.set.config.shards no_stamp;
  asked = replicate b.set.config.shards false;
  kept = replicate b.set.config.shards [];
}

abbrev pub leads_with : Base → List Fact → Coordinator
leads_with b entries = record { who = b.who; set = b.set; entries = entries; quitting = []; started = replicate b.set.config.shards false; moving = []; begun = 0 }

abbrev pub node_then : Base → Option Incarnation → Option Coordinator → Node
node_then b reg office = record {
  who = b.who;
  set = b.set;
  region = region_then b reg;
  entities = Rattle.yard_model.specs.Entities.new_entities b.set b.behaviour b.who;
  producers = replicate b.set.config.producers None;
  coordinator = office;
}

abbrev pub ends_all : List Incarnation → List Move
ends_all rs = map (λ r. told (fact.Terminated r)) rs

pub terminates_are : (b : Base) (rs : List Incarnation) (entries : List Fact) → for_each coordinator_after coordinator.terminate rs (leads_with b entries) ≡ ends_all rs
terminates_are b [] entries = refl
terminates_are b (r ∷ rs) entries = ap (λ ms. told (fact.Terminated r) ∷ ms) (terminates_are b rs (entries ++ fact.Terminated r ∷ []))

pub terminated_node : (b : Base) (rs : List Incarnation) (entries : List Fact) → fold after (node_then b None (Some (leads_with b entries))) (map by_coordinator (ends_all rs)) ≡ node_then b None (Some (leads_with b (entries ++ map (λ r. fact.Terminated r) rs)))
terminated_node b [] entries = ap (λ l. node_then b None (Some (leads_with b l))) (sym (append-nil entries))
terminated_node b (r ∷ rs) entries = terminated_node b rs (entries ++ fact.Terminated r ∷ []) ∙ ap (λ l. node_then b None (Some (leads_with b l))) (append_assoc entries (fact.Terminated r ∷ []) (map (λ r. fact.Terminated r) rs))

pub terminated_wire : (rs : List Incarnation) (w : List Packet) → fold wire_after w (map by_coordinator (ends_all rs)) ≡ w
terminated_wire [] w = refl
terminated_wire (r ∷ rs) w = terminated_wire rs w

abbrev pub granted_list : Base → List Fact
granted_list b = b.lists.coordinator ++ fact.Granted slot.Coordinator (epoch b.lists.coordinator + 1) b.who ∷ []

abbrev pub ended_list : Base → List Fact
ended_list b = granted_list b ++ map (λ r. fact.Terminated r) (lost b)

abbrev pub first_acts : Base → List Act
first_acts b = by_region (viewed (b.who ∷ [])) ∷ by_region (told (fact.View b.who b.version)) ∷ by_coordinator (told (fact.Granted slot.Coordinator (epoch b.lists.coordinator + 1) b.who)) ∷ by_coordinator (took slot.Coordinator (granted_list b)) ∷ []

abbrev pub view_acts : Base → List Act
view_acts b = first_acts b ++ (map by_coordinator (ends_all (lost b)) ++ (by_region (post b.who b.who body.Register) ∷ []))

pub view_is : (c : Script) (b : Base) → CanBegin c b → packet b.lists b.who (body.View b.version (b.who ∷ [])) (new_node b.set b.behaviour b.who) ≡ view_acts b
view_is c b k =
    ap (λ t. if t then [] else all_in_turn rules st) (not_old b.version k.versioned)
    ∙ (ap (λ ms. seen ms ++ (lead b.lists (fold after st (seen ms)) ++ (of_region region.register (fold after (fold after st (seen ms)) (lead b.lists (fold after st (seen ms)))) ++ []))) homes_none
    ∙ (ap (λ acts. seen [] ++ (acts ++ (of_region region.register (fold after (fold after st (seen [])) acts) ++ []))) lead_is
    ∙ ap (λ now. seen [] ++ (lead_acts ++ (of_region region.register now ++ []))) lead_node)
    ∙ tidy)
  where
    st : Node
    st = new_node b.set b.behaviour b.who

    rules : List Rule
    rules = of_region (region.take_view b.version (b.who ∷ [])) ∷ lead b.lists ∷ of_region region.register ∷ []

    seen : List Move → List Act
    seen ms = by_region (viewed (b.who ∷ [])) ∷ by_region (told (fact.View b.who b.version)) ∷ map by_region ms

    not_old : (v : ℕ) → 0 < v → nat_le v 0 ≡ false
    not_old v h = grind (arith, h)

    homes_none : flat_map (region.forget_lost (b.who ∷ []) (region.new_region b.set b.who)) (shards b.set) ≡ []
    homes_none = each_none _ (shards b.set) (λ s. ap (where_some (λ h. if is_among h (b.who ∷ []) then [] else region.forget s (region.new_region b.set b.who))) (get_replicate b.set.config.shards s None))

    two : List Act
    two = by_coordinator (told (fact.Granted slot.Coordinator (epoch b.lists.coordinator + 1) b.who)) ∷ by_coordinator (took slot.Coordinator (granted_list b)) ∷ []

    lead_acts : List Act
    lead_acts = two ++ map by_coordinator (ends_all (lost b))

    granted_regions : regions (granted_list b) ≡ regions b.lists.coordinator
    granted_regions = regions_more b.lists.coordinator (fact.Granted slot.Coordinator (epoch b.lists.coordinator + 1) b.who)

    lead_is : lead b.lists (fold after st (seen [])) ≡ two ++ map by_coordinator (ends_all (lost b))
    lead_is = ap (λ t. in_turn after (λ n. if t && true then map by_coordinator (acquire_by slot.Coordinator b.who b.lists.coordinator (holder b.lists.coordinator)) else []) (λ n. of_coordinator (coordinator.terminate_lost n.region.view) n) (node_then b None None)) (itself_is b.who b.who refl)
        ∙ (ap (λ o. in_turn after (λ n. map by_coordinator (acquire_by slot.Coordinator b.who b.lists.coordinator o)) (λ n. of_coordinator (coordinator.terminate_lost n.region.view) n) (node_then b None None)) k.led
        ∙ ap (λ ms. two ++ map by_coordinator ms) (ap (λ rs. for_each coordinator_after coordinator.terminate rs (leads_with b (granted_list b))) (ap (filter (λ r. not (is_among r (b.who ∷ [])))) granted_regions) ∙ terminates_are b (lost b) (granted_list b)))

    lead_node : fold after (fold after st (seen [])) (two ++ map by_coordinator (ends_all (lost b))) ≡ node_then b None (Some (leads_with b (ended_list b)))
    lead_node = terminated_node b (lost b) (granted_list b)

    tidy : seen [] ++ (lead_acts ++ (by_region (post b.who b.who body.Register) ∷ [])) ≡ view_acts b
    tidy = refl

pub viewed_node : (b : Base) → fold after (new_node b.set b.behaviour b.who) (view_acts b) ≡ node_then b None (Some (leads_with b (ended_list b)))
viewed_node b = fold-append after (node_then b None (Some (leads_with b (granted_list b)))) (map by_coordinator (ends_all (lost b))) (by_region (post b.who b.who body.Register) ∷ [])
    ∙ ap (λ n. fold after n (by_region (post b.who b.who body.Register) ∷ [])) (terminated_node b (lost b) (granted_list b))

pub viewed_wire : (b : Base) → fold wire_after [] (view_acts b) ≡ own_packet b body.Register ∷ []
viewed_wire b = fold-append wire_after [] (map by_coordinator (ends_all (lost b))) (by_region (post b.who b.who body.Register) ∷ [])
    ∙ ap (λ w. fold wire_after w (by_region (post b.who b.who body.Register) ∷ [])) (terminated_wire (lost b) [])

-- Register.

pub ended_regions : (c : Script) (b : Base) → CanBegin c b → regions (ended_list b) ≡ (if is_among b.who (regions (ended_list b)) then b.who ∷ [] else [])
ended_regions c b k = who_left b.who (regions (ended_list b)) (is_among b.who (regions (ended_list b))) refl
    (subst (λ xs. list_all (λ x. is_same x b.who || false) xs ≡ true) (sym folds) (all_left b.who (lost b) (regions b.lists.coordinator) (lost_or b.who (regions b.lists.coordinator) (regions b.lists.coordinator) (λ x h. h))))
    (subst (λ xs. differ xs ≡ true) (sym folds) (still_differ (lost b) (regions b.lists.coordinator) (regions_differ c b.lists.coordinator k.lawful)))
  where
    folds : regions (ended_list b) ≡ fold regions_step (regions b.lists.coordinator) (map (λ r. fact.Terminated r) (lost b))
    folds = fold-append regions_step [] (granted_list b) (map (λ r. fact.Terminated r) (lost b)) ∙ ap (λ rs. fold regions_step rs (map (λ r. fact.Terminated r) (lost b))) (regions_more b.lists.coordinator (fact.Granted slot.Coordinator (epoch b.lists.coordinator + 1) b.who))

abbrev pub register_acts : Base → Bool → List Act
register_acts b t = map by_coordinator ((if t then [] else told (fact.Registered b.who) ∷ []) ++ post b.who b.who body.RegisterAck ∷ [])

pub register_is : (b : Base) → packet b.lists b.who body.Register (node_then b None (Some (leads_with b (ended_list b)))) ≡ register_acts b (is_among b.who (regions (ended_list b)))
register_is b = ap (λ t. map by_coordinator (if t then (if is_among b.who (regions (ended_list b)) then [] else told (fact.Registered b.who) ∷ []) ++ post b.who b.who body.RegisterAck ∷ [] else [])) (own_among b)

registered_node : (b : Base) (t : Bool) → fold after (node_then b None (Some (leads_with b (ended_list b)))) (register_acts b t) ≡ node_then b None (Some (leads_with b (ended_list b ++ (if t then [] else fact.Registered b.who ∷ []))))
registered_node b true = ap (λ l. node_then b None (Some (leads_with b l))) (sym (append-nil (ended_list b)))
registered_node b false = refl

registered_wire : (b : Base) (t : Bool) → fold wire_after [] (register_acts b t) ≡ own_packet b body.RegisterAck ∷ []
registered_wire b true = refl
registered_wire b false = refl

-- What stands then.

pub begun_regions : (c : Script) (b : Base) → CanBegin c b → regions (begun_entries b) ≡ b.who ∷ []
begun_regions c b k = by (is_among b.who (regions (ended_list b))) (ended_regions c b k)
  where
    by : (t : Bool) → regions (ended_list b) ≡ (if t then b.who ∷ [] else []) → regions (ended_list b ++ (if t then [] else fact.Registered b.who ∷ [])) ≡ b.who ∷ []
    by true e = ap regions (append-nil (ended_list b)) ∙ e
    by false e = regions_more (ended_list b) (fact.Registered b.who) ∙ ap (λ rs. rs ++ b.who ∷ []) e

pub begun_lease : (c : Script) (b : Base) → CanBegin c b → epoch (begun_entries b) ≡ b.lease
begun_lease c b k = fold-append epoch_step 0 (ended_list b) (if is_among b.who (regions (ended_list b)) then [] else fact.Registered b.who ∷ []) ∙ (still (is_among b.who (regions (ended_list b))) (epoch (ended_list b)) ∙ (fold-append epoch_step 0 (granted_list b) (map (λ r. fact.Terminated r) (lost b))
    ∙ (still_lease (lost b) (epoch (granted_list b)) ∙ (fold-append epoch_step 0 b.lists.coordinator (fact.Granted slot.Coordinator (epoch b.lists.coordinator + 1) b.who ∷ []) ∙ sym k.lease_is))))
  where
    still : (t : Bool) (n : ℕ) → fold epoch_step n (if t then [] else fact.Registered b.who ∷ []) ≡ n
    still true n = refl
    still false n = refl

pub begun_homes : (c : Script) (b : Base) → CanBegin c b → (s : ℕ) (x : Incarnation) → allocation s (begun_entries b) ≡ Some x → x ≡ b.who
begun_homes c b k s x e = by (is_among x (b.who ∷ [])) refl
  where
    still : (t : Bool) (o : Option Incarnation) → fold (allocation_step s) o (if t then [] else fact.Registered b.who ∷ []) ≡ o
    still true o = refl
    still false o = refl

    ended : allocation s (ended_list b) ≡ Some x
    ended = sym (still (is_among b.who (regions (ended_list b))) (allocation s (ended_list b))) ∙ (sym (fold-append (allocation_step s) None (ended_list b) (if is_among b.who (regions (ended_list b)) then [] else fact.Registered b.who ∷ [])) ∙ e)

    kept : (allocation s (granted_list b) ≡ Some x) × (is_among x (lost b) ≡ false)
    kept = home_left s (lost b) (allocation s (granted_list b)) x (sym (fold-append (allocation_step s) None (granted_list b) (map (λ r. fact.Terminated r) (lost b))) ∙ ended)

    among : is_among x (regions b.lists.coordinator) ≡ true
    among = home_among c s b.lists.coordinator k.lawful x (sym (allocation_more s b.lists.coordinator (fact.Granted slot.Coordinator (epoch b.lists.coordinator + 1) b.who)) ∙ kept.0)

    plain : (t : Bool) → (t || false) ≡ true → t ≡ true
    plain true h = refl
    plain false h = h

    by : (t : Bool) → is_among x (b.who ∷ []) ≡ t → x ≡ b.who
    by true h = same_is x b.who (plain (is_same x b.who) h)
    by false h = absurd (true≢false (sym (among_where (λ r. not (is_among r (b.who ∷ []))) x (regions b.lists.coordinator) among (ap not h)) ∙ kept.1))

pub begun_stands : (c : Script) (b : Base) → CanBegin c b → Stands b none_later (beginning b)
begun_stands c b k = record {
  base_is = k.base_is;
  homes_there = length-replicate b.set.config.shards None;
  asked_there = length-replicate b.set.config.shards false;
  kept_there = length-replicate b.set.config.shards [];
  hosted_there = length-replicate b.set.config.shards None;
  cells_there = length-replicate (length b.set.names) (new_cell b.set);
  homes = λ s x e. absurd (Rattle.plain_laws.proofs.Lists.none_is_not_some x (sym (get_replicate b.set.config.shards s None) ∙ e));
  marks = λ s. ap (is_below (stamp_at b)) (get_replicate b.set.config.shards s no_stamp) ∙ least b.lease;
  running = λ s. ap runs (get_replicate b.set.config.shards s None);
  free = λ s h. k.free s;
  hosts = λ s h. absurd (true≢false (sym h ∙ ap (is_at b.who) (get_replicate b.set.config.shards s None)));
  regions_are = begun_regions c b k;
  lease_is = begun_lease c b k;
  allocated = begun_homes c b k;
  asking = λ s h. absurd (true≢false (sym h ∙ get_replicate b.set.config.shards s false));
  settled = λ e. ap is_settled (fresh e);
  live = λ e h. absurd (true≢false (sym h ∙ ap (λ (x : Cell). is_live x.phase) (fresh e)));
  loading = λ e h. absurd (true≢false (sym h ∙ ap (λ (x : Cell). is_phase phase.Loading x.phase) (fresh e)));
  kept = λ s. subst (Each (λ m. (shard_of b.set m.entity ≡ s) × Fits b (beginning b).hosted (beginning b).producers m)) (sym (get_replicate b.set.config.shards s [])) tt;
  stashed = λ e. subst (λ (x : Cell). Each (λ m. (m.entity ≡ e) × Fits b (beginning b).hosted (beginning b).producers m) x.stash) (sym (fresh e)) tt;
  posted = tt;
  producing = λ p j above e. absurd (Rattle.plain_laws.proofs.Lists.none_is_not_some j (sym (get_replicate b.set.config.producers (p - 1) None) ∙ e));
  bounded = λ p e above. subst (λ o. (confirmed_by e o ≤ recorded b (beginning b).hosted p e) × (confirmed_by e o ≤ queued_by e o) × (queued_by e o ≤ b.made p e) × (recorded b (beginning b).hosted p e ≤ b.made p e)) (sym (get_replicate b.set.config.producers (p - 1) None))
      (zero_least (recorded b (beginning b).hosted p e), le_itself 0, zero_least (b.made p e), subst (λ o. position p (journal e (list_in (shard_list b.lists (shard_of b.set e)) o)) ≤ b.made p e) (sym (get_replicate b.set.config.shards (shard_of b.set e) None)) (k.recorded_made p e above));
  paced = λ p e above. inl (subst (λ o. (demand_by e o ≡ 0) × (sent_by e o ≤ confirmed_by e o + 1) × (list_any (is_requesting p e) [] ≡ false)) (sym (get_replicate b.set.config.producers (p - 1) None)) (refl, zero_least 1, refl));
}
  where
    zero_least : (n : ℕ) → 0 ≤ n
    zero_least n = omega arith

    least : (n : ℕ) → is_below (record { epoch = n; round = 0 }) no_stamp ≡ false
    least n = by (nat_lt n 0) (n == 0) (none n)
      where
        none : (n : ℕ) → nat_lt n 0 ≡ false
        none n = grind arith

        by : (x y : Bool) → x ≡ false → (x || (y && false)) ≡ false
        by true y h = h
        by false true h = refl
        by false false h = refl

    fresh : (e : List ℕ) → cell_in b.set (beginning b).cells e ≡ new_cell b.set
    fresh e = get_replicate (length b.set.names) (place b.set e) (new_cell b.set)

-- The load of the beginning: one for each name.

pub sum_replicate : {A : Type 0} (f : A → ℕ) (n : ℕ) (x : A) (m : ℕ) → f x ≡ m → sum_by f (replicate n x) ≡ n * m
sum_replicate f zero x m h = sym (none m)
  where
    none : (m : ℕ) → 0 * m ≡ 0
    none m = grind arith
sum_replicate f (suc n) x m h = sum_by-cons f x (replicate n x) ∙ (ap (λ k. k + sum_by f (replicate n x)) h ∙ (ap (λ k. m + k) (sum_replicate f n x m h) ∙ more n m))
  where
    more : (n m : ℕ) → m + n * m ≡ suc n * m
    more n m = grind arith

pub nothing_left : (names : List (List ℕ)) → left_of names None ≡ 0
nothing_left [] = refl
nothing_left (e ∷ es) = sum_by-cons (λ e. left_by e None) e es ∙ ap (λ n. left_by e None + n) (nothing_left es)

pub begun_loads : (b : Base) → load b (beginning b) ≤ length b.set.names
begun_loads b = sums (lefts b (beginning b).producers) (cells_load (beginning b).cells) (kept_load (beginning b).kept) (length b.set.names) b.set.config.producers b.set.config.shards
    (sum_replicate (left_of b.set.names) b.set.config.producers None 0 (nothing_left b.set.names)) (sum_replicate (λ (c : Cell). cell_load c.phase c.stash) (length b.set.names) (new_cell b.set) 1 refl) (sum_replicate length b.set.config.shards [] 0 refl)
  where
    sums : (l v k n p s : ℕ) → l ≡ p * 0 → v ≡ n * 1 → k ≡ s * 0 → total l v k 0 ≤ n
    sums l v k n p s e f g = grind (arith, e, f, g)

-- Its lists: no shard's changes.

abbrev is_office : Fact → Bool
is_office (fact.View x v) = true
is_office (fact.Granted slot.Coordinator n x) = true
is_office (fact.Terminated r) = true
is_office (fact.Registered r) = true
is_office f = false

one_office : (set : Setting) (lists : SlotLists) (f : Fact) → is_office f ≡ true → (lists_step set lists f).shards ≡ lists.shards
one_office set lists (fact.View x v) h = refl
one_office set lists (fact.Granted slot.Coordinator n x) h = refl
one_office set lists (fact.Granted (slot.Shard s) n x) h = absurd (true≢false (sym h))
one_office set lists (fact.Granted (slot.Queue p) n x) h = absurd (true≢false (sym h))
one_office set lists (fact.Terminated r) h = refl
one_office set lists (fact.Registered r) h = refl
one_office set lists f h = absurd (true≢false (sym h))

all_office : (set : Setting) (fs : List Fact) (lists : SlotLists) → list_all is_office fs ≡ true → (fold (lists_step set) lists fs).shards ≡ lists.shards
all_office set [] lists h = refl
all_office set (f ∷ fs) lists h =
    let m : (is_office f ≡ true) × (list_all is_office fs ≡ true) = and_both (is_office f) (list_all is_office fs) h in
    all_office set fs (lists_step set lists f) m.1 ∙ one_office set lists f m.0

one_apart : (set : Setting) (lists : SlotLists) (f : Fact) → is_office f ≡ true → (lists_step set lists f).queues ≡ lists.queues
one_apart set lists (fact.View x v) h = refl
one_apart set lists (fact.Granted slot.Coordinator n x) h = refl
one_apart set lists (fact.Granted (slot.Shard s) n x) h = absurd (true≢false (sym h))
one_apart set lists (fact.Granted (slot.Queue p) n x) h = absurd (true≢false (sym h))
one_apart set lists (fact.Terminated r) h = refl
one_apart set lists (fact.Registered r) h = refl
one_apart set lists f h = absurd (true≢false (sym h))

all_apart : (set : Setting) (fs : List Fact) (lists : SlotLists) → list_all is_office fs ≡ true → (fold (lists_step set) lists fs).queues ≡ lists.queues
all_apart set [] lists h = refl
all_apart set (f ∷ fs) lists h =
    let m : (is_office f ≡ true) × (list_all is_office fs ≡ true) = and_both (is_office f) (list_all is_office fs) h in
    all_apart set fs (lists_step set lists f) m.1 ∙ one_apart set lists f m.0

view_office : (b : Base) → list_all is_office (facts_in (items_of (view_acts b))) ≡ true
view_office b = rest (lost b)
  where
    rest : (rs : List Incarnation) → list_all is_office (facts_in (items_of (map by_coordinator (ends_all rs) ++ (by_region (post b.who b.who body.Register) ∷ [])))) ≡ true
    rest [] = refl
    rest (r ∷ rs) = rest rs

register_office : (b : Base) (t : Bool) → list_all is_office (facts_in (items_of (register_acts b t))) ≡ true
register_office b true = refl
register_office b false = refl

pub node_begins : NodeBegins
node_begins c b k = record {
  viewed = node_then b None (Some (leads_with b (ended_list b)));
  registered = node_then b None (Some (leads_with b (begun_entries b)));
  view_is = ap (fold after (new_node b.set b.behaviour b.who)) (view_is c b k) ∙ viewed_node b;
  view_posts = ap (fold wire_after []) (view_is c b k) ∙ viewed_wire b;
  register_is = ap (fold after (node_then b None (Some (leads_with b (ended_list b))))) (register_is b) ∙ registered_node b (is_among b.who (regions (ended_list b)));
  register_posts = ap (fold wire_after []) (register_is b) ∙ registered_wire b (is_among b.who (regions (ended_list b)));
  ack_is = refl;
  ack_posts = refl;
  view_stays = λ set lists. ap (λ acts. (fold (lists_step set) lists (facts_in (items_of acts))).shards) (view_is c b k) ∙ all_office set (facts_in (items_of (view_acts b))) lists (view_office b);
  register_stays = λ set lists. ap (λ acts. (fold (lists_step set) lists (facts_in (items_of acts))).shards) (register_is b) ∙ all_office set (facts_in (items_of (register_acts b (is_among b.who (regions (ended_list b)))))) lists (register_office b (is_among b.who (regions (ended_list b))));
  view_leaves = λ set lists. ap (λ acts. (fold (lists_step set) lists (facts_in (items_of acts))).queues) (view_is c b k) ∙ all_apart set (facts_in (items_of (view_acts b))) lists (view_office b);
  register_leaves = λ set lists. ap (λ acts. (fold (lists_step set) lists (facts_in (items_of acts))).queues) (register_is b) ∙ all_apart set (facts_in (items_of (register_acts b (is_among b.who (regions (ended_list b)))))) lists (register_office b (is_among b.who (regions (ended_list b))));
  stands = begun_stands c b k;
  loads = begun_loads b;
}
