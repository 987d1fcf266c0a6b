-- From era to era: each line leads from a sound world to a sound one in the era where its facts end, and what it tells is safe.
use Rattle.std.proofs.Common.{ap₂, ◌≡◌, ◌≤◌, ℕ, zero, suc, ◌-◌, List, [], ◌∷◌, ◌++◌, length, map, sym, ap, subst, ◌∙◌, refl, true, false, true≢false, arith}
use Rattle.std.specs.Prelude.{Bool, ◌==◌, ◌&&◌, ◌||◌, not, max, filter, cond, fold, take, replicate, Option, Some, None, is_some, slice_index_or, if◌then◌else◌}
use Rattle.std.specs.List.{list_all, list_any, flat_map, slice_get}
use Rattle.std.proofs.lemmas.List.{length-replicate, length-set}
use Rattle.std.proofs.lemmas.List.Sums.{fold-append}
use Rattle.yard_model.specs.declared.fact.Fact.{Fact}
use Rattle.yard_model.specs.declared.fact.Fact.TheVariants as fact
use Rattle.yard_model.specs.declared.packet.Packet.{Packet}
use Rattle.yard_model.specs.declared.charter.Line.{Line}
use Rattle.yard_model.specs.declared.charter.Order.{Order}
use Rattle.yard_model.specs.declared.charter.Order.TheVariants as order
use Rattle.yard_model.specs.declared.incarnation.Incarnation.{Incarnation}
use Rattle.yard_model.specs.declared.incarnation.Slot.{Slot}
use Rattle.yard_model.specs.declared.incarnation.Slot.TheVariants as slot
use Rattle.yard_model.specs.Behaviour.{is_in}
use Rattle.yard_model.specs.Era.{Era, base, entries_of, is_of_name, first_era, era_of, era_step, opening_of, reshaped, upgrade_step, version_in}
use Rattle.yard_model.specs.Genuine.{is_slot_of}
use Rattle.yard_model.specs.Guards.{guarded}
use Rattle.yard_model.specs.Lawful.{lawful}
use Rattle.yard_model.specs.Node.{Node}
use Rattle.yard_model.specs.Safe.{live_at, live_step, at_most_holder, one_live, shows, is_safe_now}
use Rattle.yard_model.specs.Script.{Script, Setting, IsScript, is_config, is_order, is_upgrade, is_version, names_in, setting, with_shards}
use Rattle.yard_model.specs.Setting.{shards, shard_of, names_of, set_shards}
use Rattle.yard_model.specs.SlotLists.{SlotLists, shard_list, queue_list}
use Rattle.yard_model.specs.SlotReads.{holder, holder_step, epoch, journal, position, queued}
use Rattle.yard_model.specs.Trace.{list_at, lists_of, no_lists}
use Rattle.yard_model.specs.Words.{is_among, is_empty, at}
use Rattle.yard_model.specs.World as world
use Rattle.yard_model.specs.World.{World, Made, Step, world_after, tell, then_step, in_order, with_order, new_world, given_world, play_line, played, wire_limit, is_any_up, greatest_epoch}
use Rattle.plain_laws.proofs.Booleans.{and_both, both, get_replicate, all_map}
use Rattle.plain_laws.proofs.Lists.{none_is_not_some, all_take}
use Rattle.yard_laws.specs.Guarded.{GoesSafely}
use Rattle.yard_laws.proofs.Guarding.{guarded_opens}
use Rattle.yard_laws.proofs.SafetyLaws.{guarded_is_safe_now, safe_begins, safe_both}
use Rattle.node_laws.specs.Cluster.{IsCluster, IsHeldBy}
use Rattle.node_laws.specs.Members.{IsThere}
use Rattle.play_laws.specs.Sound.{SoundIf, Sound, AreQueued, LeadsOn}
use Rattle.play_laws.specs.Played.{is_named, is_played, LineLeadsOn, GivenIsSound, GivenStands, PlayedIsSound, PlayedIsSafe, PlayedLists}
use Rattle.play_laws.proofs.Handled.{Laws}
use Rattle.play_laws.proofs.Orders.{is_steady, names_are, play_leads}
use Rattle.play_laws.proofs.Steps.{Leads, heard, lists_next, nothing_leads, ordered_sound}
use Rattle.play_laws.proofs.Within.{AreWithin, play_stays}

-- Steps in turn.

-- a step within an era
on_leads : Laws → (era : Era) (w : World) (m : Made) → Leads era.script w m → AreWithin m.facts → Sound era.script era.trace w → LeadsOn era m
on_leads laws era w m leads within s =
    let next : Sound era.script (era.trace ++ m.facts) m.world = leads era.trace s in
    let go : GoesSafely era.script era.trace m.facts = laws.safes era.script era.trace m.facts m.world.nodes s.cluster.guarded_are within next.cluster in
    record { sound = subst (λ (e : Era). Sound e.script e.trace m.world) (sym go.era) next; safe = go.safe }

ended : (era : Era) (m : Made) (q : Step) → LeadsOn era m → (let mid : Era = fold era_step era m.facts in Sound mid.script mid.trace m.world → LeadsOn mid (q m.world)) → LeadsOn era (then_step m q)
ended era m q one rest = by m.world.full
  where
    by : (b : Bool) → LeadsOn era (elim b as (λ b. Made) [ true ↦ m | false ↦ let n : Made = q m.world in record { facts = m.facts ++ n.facts; world = n.world } ])
    by true = one
    by false =
        let n : Made = q m.world in
        let mid : Era = fold era_step era m.facts in
        let two : LeadsOn mid n = rest one.sound in
        record {
          sound = subst (λ (e : Era). Sound e.script e.trace n.world) (sym (fold-append era_step era m.facts n.facts)) two.sound;
          safe = safe_both era m.facts n.facts one.safe two.safe;
        }

-- No node is up.

none_up : (xs : List (Option Node)) → list_any is_some xs ≡ false → (k : ℕ) (st : Node) → at xs k ≡ Some st → ⊥
none_up [] h k st e = none_is_not_some st e
none_up (None ∷ xs) h zero st e = none_is_not_some st e
none_up (None ∷ xs) h (suc k) st e = none_up xs h k st e
none_up (Some x ∷ xs) h k st e = true≢false h

-- so no slot is held
none_held : (c : Script) (trace : List Fact) (w : World) → Sound c trace w → ((k : ℕ) (st : Node) → at w.nodes k ≡ Some st → ⊥) → (s : Slot) → is_slot_of c s ≡ true → holder (list_at (lists_of (setting c) trace) s) ≡ None
none_held c trace w s none t there = by (holder (list_at (lists_of (setting c) trace) t)) refl
  where
    by : (o : Option Incarnation) → holder (list_at (lists_of (setting c) trace) t) ≡ o → holder (list_at (lists_of (setting c) trace) t) ≡ None
    by None e = e
    by (Some x) e = let k : IsHeldBy w.nodes t x = s.cluster.held t x there e in absurd (none k.place k.st k.here)

-- and nothing is live
none_live : (live : List Incarnation) → at_most_holder None live ≡ true → is_empty live ≡ true
none_live [] h = refl
none_live (x ∷ []) h = absurd (true≢false (sym h))
none_live (x ∷ y ∷ ys) h = absurd (true≢false (sym h))

-- Another number of shards.

most_from : (ls : List (List Fact)) (m : ℕ) → m ≤ fold (λ m l. max m (epoch l)) m ls
most_from [] m = omega (arith)
most_from (l ∷ ls) m = grown m (epoch l) (fold (λ m l. max m (epoch l)) (max m (epoch l)) ls) (most_from ls (max m (epoch l)))
  where
    grown : (a b d : ℕ) → max a b ≤ d → a ≤ d
    grown a b d h = grind arith

most_of : (ls : List (List Fact)) (m s : ℕ) → epoch (slice_index_or ls s []) ≤ fold (λ m l. max m (epoch l)) m ls
most_of [] m s = least (fold (λ m l. max m (epoch l)) m [])
  where
    least : (a : ℕ) → 0 ≤ a
    least a = omega (arith)
most_of (l ∷ ls) m zero = grown m (epoch l) (fold (λ m l. max m (epoch l)) (max m (epoch l)) ls) (most_from ls (max m (epoch l)))
  where
    grown : (a b d : ℕ) → max a b ≤ d → b ≤ d
    grown a b d h = grind arith
most_of (l ∷ ls) m (suc s) = most_of ls (max m (epoch l)) s

-- an order's numbers are in range whatever the number of shards
order_fits : (c : Script) (n : ℕ) (o : Order) → is_order (with_shards n c).config o ≡ is_order c.config o
order_fits c n (order.Up k) = refl
order_fits c n (order.Crash k) = refl
order_fits c n (order.Leave k) = refl
order_fits c n (order.Tick k) = refl
order_fits c n (order.Produce p k) = refl
order_fits c n (order.Rest p) = refl
order_fits c n (order.Send p e k) = refl
order_fits c n (order.Passivate e) = refl
order_fits c n (order.FailWrite e k) = refl
order_fits c n (order.Deliver k) = refl
order_fits c n (order.Pump k) = refl
order_fits c n (order.Rebalance l) = refl
order_fits c n order.Settle = refl
order_fits c n (order.Reshard k) = refl
order_fits c n order.Upgrade = refl
order_fits c n (order.Ping p) = refl

config_fits : (c : Script) (n : ℕ) → is_config c.config ≡ true → is_in 1 128 n ≡ true → is_config (with_shards n c).config ≡ true
config_fits c n h fits = by (is_in 1 16 c.config.nodes) (is_in 1 128 c.config.shards) (is_in 1 128 n) (is_in 1 32 c.config.producers) (is_in 1 1000 c.config.buffer) (is_in 1 64 c.config.window) (is_in 1 10000 c.config.snapshot) (is_in 1 10 c.config.keep) h fits
  where
    by : (a b n p f w s k : Bool) → (a && b && p && f && w && s && k) ≡ true → n ≡ true → (a && n && p && f && w && s && k) ≡ true
    by true true true p f w s k h e = h
    by true false true p f w s k h e = absurd (true≢false (sym (ap (λ x. x) h) ∙ none p f w s k))
      where
        none : (p f w s k : Bool) → (false && p && f && w && s && k) ≡ false
        none p f w s k = refl
    by false b n p f w s k h e = h
    by a b false p f w s k h e = absurd (true≢false (sym e))

fits_still : (c : Script) (n : ℕ) (ls : List Line) → list_all (λ (l : Line). is_order c.config l.order) ls ≡ true → list_all (λ (l : Line). is_order (with_shards n c).config l.order) ls ≡ true
fits_still c n ls h = all_map (λ (l : Line). is_order c.config l.order) (λ (l : Line). is_order (with_shards n c).config l.order) (λ l k. order_fits c n l.order ∙ k) ls h

script_still : (c : Script) (n : ℕ) → IsScript c → is_in 1 128 n ≡ true → IsScript (with_shards n c)
script_still c n s fits = record { config = config_fits c n s.config fits; orders = fits_still c n c.orders s.orders; names = s.names; pairs = s.pairs; fits = s.fits }

-- Of the new lists no slot is held.

of_map : {A : Type 0} (P : List Fact → Type 0) (f : A → List Fact) → P [] → ((x : A) → P (f x)) → (xs : List A) (i : ℕ) → P (slice_index_or (map f xs) i [])
of_map P f none each [] i = none
of_map P f none each (x ∷ xs) zero = each x
of_map P f none each (x ∷ xs) (suc i) = of_map P f none each xs i

named_free : (e : List ℕ) (list : List Fact) (o : Option Incarnation) → fold holder_step o (filter (is_of_name e) list) ≡ o
named_free e [] o = refl
named_free e (f ∷ fs) o = by (is_of_name e f) refl (named_free e fs)
  where
    one : (f : Fact) (o : Option Incarnation) → is_of_name e f ≡ true → holder_step o f ≡ o
    one (fact.Granted s n x) o h = absurd (true≢false (sym h))
    one (fact.Freed s n why) o h = absurd (true≢false (sym h))
    one f o h = refl

    by : (b : Bool) → is_of_name e f ≡ b → ((o : Option Incarnation) → fold holder_step o (filter (is_of_name e) fs) ≡ o) → fold holder_step o (cond b (f ∷ filter (is_of_name e) fs) (filter (is_of_name e) fs)) ≡ o
    by true h rest = ap (λ p. fold holder_step p (filter (is_of_name e) fs)) (one f o h) ∙ rest o
    by false h rest = rest o

names_free : (set : Setting) (lists : SlotLists) (names : List (List ℕ)) (o : Option Incarnation) → fold holder_step o (flat_map (entries_of set lists) names) ≡ o
names_free set lists [] o = refl
names_free set lists (e ∷ es) o =
    fold-append holder_step o (entries_of set lists e) (flat_map (entries_of set lists) es)
    ∙ (ap (λ p. fold holder_step p (flat_map (entries_of set lists) es)) (named_free e (shard_list lists (shard_of set e)) o) ∙ names_free set lists es o)

reshaped_free : (c : Script) (n k : ℕ) (lists : SlotLists) (t : Slot) → ((p : ℕ) → is_slot_of (with_shards n c) (slot.Queue p) ≡ true → holder (queue_list lists p) ≡ None) → holder lists.coordinator ≡ None → is_slot_of (with_shards n c) t ≡ true
    → holder (list_at (reshaped (setting c) n k lists) t) ≡ None
reshaped_free c n k lists (slot.Shard s) queues office there =
    of_map (λ l. holder l ≡ None) (λ s. base (setting c) (set_shards n (setting c)) lists s ++ fact.Resharded s n k ∷ []) refl
    (λ s. fold-append holder_step None (base (setting c) (set_shards n (setting c)) lists s) (fact.Resharded s n k ∷ []) ∙ names_free (setting c) lists (names_of (set_shards n (setting c)) s) None) (shards (set_shards n (setting c))) s
reshaped_free c n k lists slot.Coordinator queues office there = fold-append holder_step None lists.coordinator (fact.Reshard n k ∷ []) ∙ office
reshaped_free c n k lists (slot.Queue p) queues office there = queues p there

module _ (laws : Laws) (c : Script) (trace : List Fact) (w : World) (n : ℕ) (s : Sound c trace w) (fits : is_in 1 128 n ≡ true) (none : (k : ℕ) (st : Node) → at w.nodes k ≡ Some st → ⊥) where
  abbrev lists : SlotLists
  lists = lists_of (setting c) trace

  abbrev k : ℕ
  k = greatest_epoch w.lists

  held : (s : Slot) → is_slot_of c s ≡ true → holder (list_at lists s) ≡ None
  held = none_held c trace w s none

  now : is_safe_now c trace ≡ true
  now = guarded_is_safe_now c trace s.cluster.guarded_are

  parts : (list_all (one_live c trace) (setting c).names ≡ true) × (lawful c lists ≡ true)
  parts = and_both (list_all (one_live c trace) (setting c).names) (lawful c lists) now

  -- the script, the lists and the trace that the era begins with
  abbrev next : Script
  next = with_shards n c

  abbrev new : SlotLists
  new = reshaped (setting c) n k lists

  abbrev opening : List Fact
  opening = opening_of (version_in trace) new

  below_k : (s : ℕ) → epoch (shard_list lists s) ≤ k
  below_k t = subst (λ (l : SlotLists). epoch (shard_list l t) ≤ k) s.lists_are (most_of w.lists.shards 0 t)

  lawful_is : lawful next new ≡ true
  lawful_is = laws.reshaped_lawful c n k lists s.script_is.config fits parts.1 (ap is_some (held slot.Coordinator refl)) below_k

  gives : lists_of (setting next) opening ≡ new
  gives = laws.opening_gives next (version_in trace) new lawful_is

  quiet : (version_in opening ≡ version_in trace) × ((e : List ℕ) → live_at e opening ≡ [])
  quiet = laws.opening_quiet next (version_in trace) new lawful_is

  safe_is : is_safe_now next opening ≡ true
  safe_is = laws.opens next (version_in trace) new lawful_is

  abbrev facts : List Fact
  facts = fact.Reshard n k ∷ []

  abbrev entries : List Fact
  entries = (flat_map (λ l. l) new.shards ++ new.coordinator) ++ flat_map (λ l. l) new.queues

  guarded_is : guarded next opening ≡ true
  guarded_is = guarded_opens next entries (version_in trace) safe_is

  abbrev v : World
  v = world_after w (fact.Reshard n k)

  new_lists : v.lists ≡ new
  new_lists = ap₂ (λ t l. reshaped t n k l) s.set_is s.lists_are

  new_held : (t : Slot) → is_slot_of next t ≡ true → holder (list_at (lists_of (setting next) opening) t) ≡ None
  new_held t there = ap (λ l. holder (list_at l t)) gives ∙ reshaped_free c n k lists t (λ p h. held (slot.Queue p) h) (held slot.Coordinator refl) there

  resharded : Sound next opening v
  resharded = record {
    script_is = script_still c n s.script_is fits;
    set_is = ap (λ t. set_shards n t) s.set_is;
    behaviour_is = s.behaviour_is ∙ sym quiet.0;
    admitted = s.admitted;
    sends_are = s.sends_are;
    nodes_there = s.nodes_there;
    ups_there = s.ups_there;
    lists_are = new_lists ∙ sym gives;
    cluster = laws.begins next opening w.nodes guarded_is new_held none;
    members_are = λ x m. let t : IsThere w x = s.members_are x m in absurd (none (x.node - 1) t.node t.is_up);
    members_different = s.members_different;
    are_members = λ k st e. absurd (none k st e);
    given_are = λ k st e. absurd (none k st e);
    numbered_are = λ e x m. absurd (true≢false (sym m ∙ ap (is_among x) (quiet.1 e)));
    queued_are = λ t p e. subst (λ (l : SlotLists). position p (journal e (shard_list l (shard_of (setting next) e))) ≤ queued e (queue_list l p)) (sym new_lists)
        (subst (λ l. position p l ≤ queued e (queue_list lists p)) (sym (laws.reshaped_keeps c n k lists fits parts.1 e))
        (subst (λ (l : SlotLists). position p (journal e (shard_list l (shard_of (setting c) e))) ≤ queued e (queue_list l p)) s.lists_are (s.queued_are tt p e)));
    carries = λ k st e. absurd (none k st e);
    wire_is = λ j p after e. absurd (none_is_not_some p (sym (past_end w.wire j after) ∙ e));
  }
    where
      past_end : (xs : List Packet) (j : ℕ) → length xs ≤ j → slice_get xs j ≡ None
      past_end [] zero h = refl
      past_end [] (suc j) h = refl
      past_end (x ∷ xs) zero h = absurd (over (length xs) h)
        where
          over : (a : ℕ) → suc a ≤ 0 → ⊥
          over a h = omega (arith, h)
      past_end (x ∷ xs) (suc j) h = past_end xs j (under (length xs) j h)
        where
          under : (a b : ℕ) → suc a ≤ suc b → a ≤ b
          under a b h = omega (arith, h)

  shown : shows c trace (fact.Reshard n k) ≡ true
  shown = all_map (one_live c trace) (λ e. is_empty (live_at e trace))
      (λ e h. none_live (live_at e trace) (ap (λ o. at_most_holder o (live_at e trace)) (sym (held (slot.Shard (shard_of (setting c) e)) (laws.there c e s.script_is))) ∙ h)) (setting c).names parts.0

  reshard_on : LeadsOn (record { script = c; trace = trace }) (tell facts w)
  reshard_on = record { sound = resharded; safe = both (is_safe_now c trace && shows c trace (fact.Reshard n k)) (is_safe_now next opening) (both (is_safe_now c trace) (shows c trace (fact.Reshard n k)) now shown) safe_is }

-- Another version.

upgrade_on : Laws → (c : Script) (trace : List Fact) (w : World) → Sound c trace w → is_version c 2 ≡ true → ((k : ℕ) (st : Node) → at w.nodes k ≡ Some st → ⊥) → LeadsOn (record { script = c; trace = trace }) (tell (fact.Upgrade 2 ∷ []) w)
upgrade_on laws c trace w s admits none = record {
  sound = record {
    script_is = s.script_is;
    set_is = s.set_is;
    behaviour_is = sym (fold-append upgrade_step 1 trace (fact.Upgrade 2 ∷ []));
    admitted = admits;
    sends_are = s.sends_are;
    nodes_there = s.nodes_there;
    ups_there = s.ups_there;
    lists_are = lists_next c trace w (fact.Upgrade 2) s;
    cluster = next;
    members_are = λ x m. let t : IsThere w x = s.members_are x m in absurd (none (x.node - 1) t.node t.is_up);
    members_different = s.members_different;
    are_members = λ k st e. absurd (none k st e);
    given_are = λ k st e. absurd (none k st e);
    numbered_are = λ e x m. s.numbered_are e x (ap (is_among x) (sym (fold-append (live_step e) [] trace (fact.Upgrade 2 ∷ []))) ∙ m);
    queued_are = s.queued_are;
    carries = λ k st e. absurd (none k st e);
    wire_is = s.wire_is;
  };
  safe = both (is_safe_now c trace && true) (is_safe_now c (trace ++ fact.Upgrade 2 ∷ [])) (both (is_safe_now c trace) true (guarded_is_safe_now c trace s.cluster.guarded_are) refl) (guarded_is_safe_now c (trace ++ fact.Upgrade 2 ∷ []) next.guarded_are);
}
  where
    next : IsCluster c (trace ++ fact.Upgrade 2 ∷ []) w.nodes
    next = laws.upgrades c trace w.nodes 2 none s.cluster

-- Orders.

left_no : (a b : Bool) → (a || b) ≡ false → a ≡ false
left_no true b h = absurd (true≢false h)
left_no false b h = refl

steady_on : Laws → (o : Order) (w : World) (era : Era) → is_steady o ≡ true → is_played era.script o ≡ true → Sound era.script era.trace w → LeadsOn era (world.play o w)
steady_on laws o w era steady h s =
    let m : ((is_order era.script.config o && is_named era.script o) ≡ true) × ((not (is_upgrade o) || is_version era.script 2) ≡ true) = and_both (is_order era.script.config o && is_named era.script o) (not (is_upgrade o) || is_version era.script 2) h in
    let n : (is_order era.script.config o ≡ true) × (is_named era.script o ≡ true) = and_both (is_order era.script.config o) (is_named era.script o) m.0 in
    on_leads laws era w (world.play o w) (play_leads laws era.script o w steady n.0 n.1) (play_stays o steady w) s

play_on : Laws → (o : Order) (w : World) (era : Era) → is_played era.script o ≡ true → Sound era.script era.trace w → LeadsOn era (world.play o w)
play_on laws (order.Reshard n) w era h s = by (is_any_up w || (n == w.set.config.shards)) refl
  where
    fits : is_in 1 128 n ≡ true
    fits = (and_both (is_in 1 128 n) true (and_both (is_in 1 128 n && true) true h).0).0

    by : (b : Bool) → (is_any_up w || (n == w.set.config.shards)) ≡ b → LeadsOn era (if b then world.nothing w else tell (fact.Reshard n (greatest_epoch w.lists) ∷ []) w)
    by true e = on_leads laws era w (world.nothing w) (nothing_leads laws era.script w) refl s
    by false e = reshard_on laws era.script era.trace w n s fits (none_up w.nodes (left_no (is_any_up w) (n == w.set.config.shards) e))
play_on laws order.Upgrade w era h s = by (is_any_up w || (w.behaviour == 2)) refl
  where
    by : (b : Bool) → (is_any_up w || (w.behaviour == 2)) ≡ b → LeadsOn era (if b then world.nothing w else tell (fact.Upgrade 2 ∷ []) w)
    by true e = on_leads laws era w (world.nothing w) (nothing_leads laws era.script w) refl s
    by false e = upgrade_on laws era.script era.trace w s h (none_up w.nodes (left_no (is_any_up w) (w.behaviour == 2) e))
play_on laws o w era h s = steady_on laws o w era refl h s

pub line_on : Laws → LineLeadsOn
line_on laws l w era h s =
    let v : World = with_order (Some l.order) w in
    let m : Made = tell (fact.At l.number ∷ []) v in
    ended era m (world.play l.order) (on_leads laws era v m (heard laws era.script v (fact.At l.number) refl refl) refl (ordered_sound era.script era.trace (Some l.order) w s))
    (λ k. play_on laws l.order m.world (era_step era (fact.At l.number)) h k)

-- Scripts.

-- whether an order is the script's doesn't turn on the number of shards
played_same : (c : Script) (n : ℕ) (o : Order) → is_played (with_shards n c) o ≡ is_played c o
played_same c n o = ap (λ b. b && is_named c o && (not (is_upgrade o) || is_version c 2)) (order_fits c n o)

pub lines_still : (ls : List Line) (fs : List Fact) (era : Era) → list_all (λ (l : Line). is_played era.script l.order) ls ≡ true → list_all (λ (l : Line). is_played (fold era_step era fs).script l.order) ls ≡ true
lines_still ls [] era h = h
lines_still ls (f ∷ fs) era h = lines_still ls fs (era_step era f) (one f)
  where
    one : (f : Fact) → list_all (λ (l : Line). is_played (era_step era f).script l.order) ls ≡ true
    one (fact.Reshard n k) = all_map (λ (l : Line). is_played era.script l.order) (λ (l : Line). is_played (with_shards n era.script) l.order) (λ l k. played_same era.script n l.order ∙ k) ls h
    one f = h

lines_on : Laws → (ls : List Line) (w : World) (era : Era) → list_all (λ (l : Line). is_played era.script l.order) ls ≡ true → Sound era.script era.trace w → LeadsOn era (in_order (map play_line ls) w)
lines_on laws [] w era h s = record { sound = s; safe = guarded_is_safe_now era.script era.trace s.cluster.guarded_are }
lines_on laws (l ∷ ls) w era h s =
    let m : (is_played era.script l.order ≡ true) × (list_all (λ (l : Line). is_played era.script l.order) ls ≡ true) = and_both (is_played era.script l.order) (list_all (λ (l : Line). is_played era.script l.order) ls) h in
    let one : LeadsOn era (play_line l w) = line_on laws l w era m.0 s in
    ended era (play_line l w) (in_order (map play_line ls)) one (λ k. lines_on laws ls (play_line l w).world (fold era_step era (play_line l w).facts) (lines_still ls (play_line l w).facts era m.1) k)

-- the orders of a script are its own
upgrades_are : (all ls : List Line) (b : Bool) → list_any (λ (l : Line). is_upgrade l.order) all ≡ b → (b ≡ false → list_any (λ (l : Line). is_upgrade l.order) ls ≡ false)
    → list_all (λ (l : Line). not (is_upgrade l.order) || list_any (λ v. v == 2) (if b then 1 ∷ 2 ∷ [] else 1 ∷ [])) ls ≡ true
upgrades_are all [] b e h = refl
upgrades_are all (l ∷ ls) true e h = both (not (is_upgrade l.order) || true) (list_all (λ (l : Line). not (is_upgrade l.order) || true) ls) (right (not (is_upgrade l.order))) (upgrades_are all ls true e (λ f. absurd (true≢false f)))
  where
    right : (b : Bool) → (b || true) ≡ true
    right true = refl
    right false = refl
upgrades_are all (l ∷ ls) false e h =
    let m : (is_upgrade l.order || list_any (λ (l : Line). is_upgrade l.order) ls) ≡ false = h refl in
    both (not (is_upgrade l.order) || false) (list_all (λ (l : Line). not (is_upgrade l.order) || false) ls) (ap (λ b. not b || false) (left_no (is_upgrade l.order) (list_any (λ (l : Line). is_upgrade l.order) ls) m))
    (upgrades_are all ls false e (λ f. right_no (is_upgrade l.order) (list_any (λ (l : Line). is_upgrade l.order) ls) m))
  where
    right_no : (a b : Bool) → (a || b) ≡ false → b ≡ false
    right_no true b h = absurd (true≢false h)
    right_no false b h = h

pub orders_played : (c : Script) → IsScript c → list_all (λ (l : Line). is_played c l.order) c.orders ≡ true
orders_played c script =
    all_three (λ (l : Line). is_order c.config l.order) (λ (l : Line). is_named c l.order) (λ (l : Line). not (is_upgrade l.order) || is_version c 2) c.orders script.orders (names_are (names_in c.orders) c.orders [] refl)
    (versions_are (list_any (λ (l : Line). is_upgrade l.order) c.orders) refl)
  where
    versions_are : (b : Bool) → list_any (λ (l : Line). is_upgrade l.order) c.orders ≡ b → list_all (λ (l : Line). not (is_upgrade l.order) || is_version c 2) c.orders ≡ true
    versions_are b e = subst (λ t. list_all (λ (l : Line). not (is_upgrade l.order) || list_any (λ v. v == 2) (if t then 1 ∷ 2 ∷ [] else 1 ∷ [])) c.orders ≡ true) (sym e) (upgrades_are c.orders c.orders b e (λ f. e ∙ f))

    all_three : {A : Type 0} (p q r : A → Bool) (xs : List A) → list_all p xs ≡ true → list_all q xs ≡ true → list_all r xs ≡ true → list_all (λ x. p x && q x && r x) xs ≡ true
    all_three p q r [] e f g = refl
    all_three p q r (x ∷ xs) e f g =
        let a : (p x ≡ true) × (list_all p xs ≡ true) = and_both (p x) (list_all p xs) e in
        let b : (q x ≡ true) × (list_all q xs ≡ true) = and_both (q x) (list_all q xs) f in
        let d : (r x ≡ true) × (list_all r xs ≡ true) = and_both (r x) (list_all r xs) g in
        both (p x && q x && r x) (list_all (λ x. p x && q x && r x) xs) (both (p x && q x) (r x) (both (p x) (q x) a.0 b.0) d.0) (all_three p q r xs a.1 b.1 d.1)

-- a world in which no node is up and nothing is posted, with lists that come of the trace
begun : {T : Type 0} → Laws → (c : Script) (version limit : ℕ) (lists : SlotLists) (ups ordered : List ℕ) (trace : List Fact) → IsScript c → is_version c version ≡ true → length ups ≡ c.config.nodes
    → guarded c trace ≡ true → lists_of (setting c) trace ≡ lists → version_in trace ≡ version → ((e : List ℕ) → live_at e trace ≡ []) → ((s : Slot) → is_slot_of c s ≡ true → holder (list_at lists s) ≡ None) → (T → AreQueued c lists)
    → SoundIf T c trace (world.world_of c version limit lists ups ordered)
begun laws c version limit given ups ordered trace script admits long g gives is_version quiet free queued = record {
  script_is = script;
  set_is = refl;
  behaviour_is = sym is_version;
  admitted = admits;
  sends_are = refl;
  nodes_there = length-replicate c.config.nodes None;
  ups_there = long;
  lists_are = sym gives;
  cluster = laws.begins c trace (replicate c.config.nodes None) g (λ s there. ap (λ l. holder (list_at l s)) gives ∙ free s there) none;
  members_are = λ x m. absurd (true≢false (sym m));
  members_different = refl;
  are_members = λ k st e. absurd (none k st e);
  given_are = λ k st e. absurd (none k st e);
  numbered_are = λ e x m. absurd (true≢false (sym m ∙ ap (is_among x) (quiet e)));
  queued_are = queued;
  carries = λ k st e. absurd (none k st e);
  wire_is = λ j p after e. absurd (none_is_not_some p (sym (none_got j) ∙ e));
}
  where
    none : (k : ℕ) (st : Node) → at (replicate c.config.nodes None) k ≡ Some st → ⊥
    none k st e = none_is_not_some st (sym (get_replicate c.config.nodes k None) ∙ e)

    no_packets : List Packet
    no_packets = []

    none_got : (j : ℕ) → slice_get no_packets j ≡ None
    none_got zero = refl
    none_got (suc j) = refl

begins_sound : Laws → (c : Script) (limit : ℕ) → IsScript c → Sound c [] (new_world c limit)
begins_sound laws c limit script = begun laws c 1 limit (no_lists (setting c)) (replicate c.config.nodes 0) (replicate c.config.producers 0) [] script (one_admitted (list_any (λ (l : Line). is_upgrade l.order) c.orders))
    (length-replicate c.config.nodes 0) (both (is_safe_now c []) true (safe_begins c) refl) refl refl (λ e. refl) free
    (λ t p e. subst (λ l. position p (journal e l) ≤ queued e (queue_list (no_lists (setting c)) p)) (sym (get_replicate c.config.shards (shard_of (setting c) e) [])) (least (queued e (queue_list (no_lists (setting c)) p))))
  where
    one_admitted : (b : Bool) → list_any (λ v. v == 1) (if b then 1 ∷ 2 ∷ [] else 1 ∷ []) ≡ true
    one_admitted true = refl
    one_admitted false = refl

    least : (n : ℕ) → 0 ≤ n
    least n = omega (arith)

    free : (s : Slot) → is_slot_of c s ≡ true → holder (list_at (no_lists (setting c)) s) ≡ None
    free (slot.Shard s) there = ap holder (get_replicate c.config.shards s [])
    free slot.Coordinator there = refl
    free (slot.Queue p) there = ap holder (get_replicate c.config.producers (p - 1) [])

given_begins : {T : Type 0} → Laws → (c : Script) (version : ℕ) (lists : SlotLists) → IsScript c → is_version c version ≡ true → lawful c lists ≡ true → ((s : Slot) → is_slot_of c s ≡ true → holder (list_at lists s) ≡ None) → (T → AreQueued c lists)
    → SoundIf T c (opening_of version lists) (given_world c version lists)
given_begins laws c version lists script admits is_lawful free queued =
    begun laws c version wire_limit lists (given_world c version lists).ups (given_world c version lists).ordered (opening_of version lists) script admits
    (length-set (replicate c.config.nodes 0) 0 _ ∙ length-replicate c.config.nodes 0)
    (guarded_opens c ((flat_map (λ l. l) lists.shards ++ lists.coordinator) ++ flat_map (λ l. l) lists.queues) version (laws.opens c version lists is_lawful))
    (laws.opening_gives c version lists is_lawful) (laws.opening_quiet c version lists is_lawful).0 (laws.opening_quiet c version lists is_lawful).1 free queued

pub given_is_sound : Laws → GivenIsSound
given_is_sound laws c version lists script admits is_lawful free queued = given_begins laws c version lists script admits is_lawful free (λ t. queued)

pub given_stands : Laws → GivenStands
given_stands laws c version lists script admits is_lawful free = given_begins laws c version lists script admits is_lawful free (λ t. absurd t)

pub played_is_sound : Laws → PlayedIsSound
played_is_sound laws c limit n script = lines_on laws (take n c.orders) (new_world c limit) (first_era c) (all_take (λ (l : Line). is_played c l.order) n c.orders (orders_played c script)) (begins_sound laws c limit script)

-- all orders
take_all : {A : Type 0} (xs : List A) → take (length xs) xs ≡ xs
take_all [] = refl
take_all (x ∷ xs) = ap (λ l. x ∷ l) (take_all xs)

whole : PlayedIsSound → (c : Script) (limit : ℕ) → IsScript c → LeadsOn (first_era c) (played c limit)
whole sound c limit script = subst (λ ls. LeadsOn (first_era c) (in_order (map play_line ls) (new_world c limit))) (take_all c.orders) (sound c limit (length c.orders) script)

pub played_is_safe : PlayedIsSound → PlayedIsSafe
played_is_safe sound c limit script = (whole sound c limit script).safe

pub played_lists : PlayedIsSound → PlayedLists
played_lists sound c limit script =
    let k : LeadsOn (first_era c) (played c limit) = whole sound c limit script in
    let era : Era = era_of c (played c limit).facts in
    let s : Sound era.script era.trace (played c limit).world = k.sound in
    let now : is_safe_now era.script era.trace ≡ true = guarded_is_safe_now era.script era.trace s.cluster.guarded_are in
    (sym s.lists_are, sym s.set_is, ap (lawful era.script) s.lists_are ∙ (and_both (list_all (one_live era.script era.trace) (setting era.script).names) (lawful era.script (lists_of (setting era.script) era.trace)) now).1)
