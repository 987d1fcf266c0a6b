-- The end of a world: every node stops, and the stores are at home.
use Rattle.std.proofs.Common.{◌≡◌, ◌≢◌, ℕ, zero, suc, ◌+◌, ◌-◌, ◌<◌, ◌≤◌, true, List, [], ◌∷◌, ◌++◌, length, fold, refl, ap, sym, ◌∙◌, subst, arith}
use Rattle.std.specs.Prelude.{Bool, false, ◌*◌, Result, Ok, Err, IfOk, IsSome, nat_lt, nat_le, map, Option, Some, None, is_some, slice_index_or, slice_set}
use Rattle.std.specs.List.{list_all, list_any, flat_map}
use Rattle.std.proofs.lemmas.Bool.Decides.{nat_tests}
use Rattle.std.proofs.lemmas.List.Folds.{list_all-append}
use Rattle.std.proofs.lemmas.List.Sums.{fold-append}
use Rattle.yard_model.specs.declared.fact.Fact.{Fact}
use Rattle.yard_model.specs.declared.fact.Fact.TheVariants as fact
use Rattle.yard_model.specs.declared.incarnation.Incarnation.{Incarnation}
use Rattle.yard_model.specs.declared.incarnation.Slot.{Slot}
use Rattle.yard_model.specs.declared.incarnation.Slot.TheVariants as slot
use Rattle.yard_model.specs.Behaviour.{is_in}
use Rattle.yard_model.specs.Genuine.{is_slot_of}
use Rattle.yard_model.specs.Node.{Node, crash, freed_stopped}
use Rattle.yard_model.specs.Script.{Script, Setting, setting, with_shards}
use Rattle.yard_model.specs.Setting.{shards, producers}
use Rattle.yard_model.specs.SlotLists.{SlotLists}
use Rattle.yard_model.specs.SlotReads.{holder}
use Rattle.yard_model.specs.Trace.{lists_step, list_at}
use Rattle.yard_model.specs.Turns.{where_some}
use Rattle.yard_model.specs.Words.{numbers, at}
use Rattle.yard_model.specs.World.{World, Made, world_after, nodes_step, go_down, go_down_by, is_any_up, node_at}
use Rattle.shard_store.specs.Stores.{entries_at, lists_at, place_of}
use Rattle.shard_lease.specs.Book.{Book, known_at, meaning_of}
use Rattle.node_core.specs.Leased.{IsTold, Tells}
use Rattle.node_laws.specs.Cluster.{IsMember, IsHeldBy}
use Rattle.node_core.specs.Found.{AreThere}
use Rattle.world_sim.specs.Keeps.{Keeps}
use Rattle.world_sim.specs.Stands.{Stands}
use Rattle.world_sim.specs.Stepped.{IsWhole}
use Rattle.plain_laws.proofs.Lists.{none_is_not_some, inside, placed_beside, by_place}
use Rattle.plain_laws.proofs.Booleans.{true_is_not_false, and_both, both}
use Rattle.world_sim.specs.declared.fault.StepFault.{StepFault}
use Rattle.world_sim.specs.declared.fault.StepFault.TheVariants as fault
use Rattle.world_sim.specs.Played.{FreesSome, AreFreed, is_freed, made_by}
use Rattle.world_sim.specs.Stopped.{IsQuiet, IsStopped}
use Rattle.world_sim.specs.Given.{Given}
use Rattle.world_sim.specs.World.{IsAt, IsCounted, IsKept, IsPlaying, IsOf, IsHeld, IsFromStores, IsWorld}
use Rattle.world_sim.specs.Yard.{Yard, IsSeen, IsFirm}
use Rattle.world_sim.proofs.RestsLaws.{member, there_of, own_of, held_by, told_of}
use Rattle.world_sim.proofs.TellLaws.{words_after, facts_within}
use Rattle.world_sim.proofs.EndLaws.{crash_own}

-- Numbers.

lt_is : (a b : ℕ) → a < b → nat_lt a b ≡ true
lt_is a b h = grind (arith, nat_tests)

le_is : (a b : ℕ) → a ≤ b → nat_le a b ≡ true
le_is a b h = grind (arith, nat_tests)

-- a number after so many is a node's
pub node_in : (nodes i n : ℕ) → n ≡ i + 1 → i < nodes → is_in 1 nodes n ≡ true
node_in nodes i n e less =
    let some : 1 ≤ n = omega (arith, e) in
    let most : n ≤ nodes = omega (arith, e, less) in
    both (nat_le 1 n) (nat_le n nodes) (le_is 1 n some) (le_is n nodes most)

-- What the end of a node frees.

join_freed : (xs ys : List Fact) → list_all is_freed xs ≡ true → list_all is_freed ys ≡ true → list_all is_freed (xs ++ ys) ≡ true
join_freed xs ys e f = list_all-append is_freed xs ys ∙ both (list_all is_freed xs) (list_all is_freed ys) e f

some_freed : {X : Type 0} (f : X → List Fact) (o : Option X) → ((x : X) → list_all is_freed (f x) ≡ true) → list_all is_freed (where_some f o) ≡ true
some_freed f None h = refl
some_freed f (Some x) h = h x

each_freed : {X : Type 0} (f : X → List Fact) (xs : List X) → ((x : X) → list_all is_freed (f x) ≡ true) → list_all is_freed (flat_map f xs) ≡ true
each_freed f [] h = refl
each_freed f (x ∷ xs) h = join_freed (f x) (flat_map f xs) (h x) (each_freed f xs h)

crash_freed : (st : Node) → list_all is_freed (crash st) ≡ true
crash_freed st =
    let shards_freed : List Fact = flat_map (λ s. where_some (λ h. freed_stopped (slot.Shard s) h.entries) (at st.entities.hosted s)) (shards st.set) in
    let lead_freed : List Fact = where_some (λ k. freed_stopped slot.Coordinator k.entries) st.coordinator in
    let queues_freed : List Fact = flat_map (λ p. where_some (λ k. freed_stopped (slot.Queue p) k.entries) (at st.producers (p - 1))) (producers st.set) in
    join_freed (shards_freed ++ lead_freed) queues_freed
    (join_freed shards_freed lead_freed
    (each_freed (λ s. where_some (λ h. freed_stopped (slot.Shard s) h.entries) (at st.entities.hosted s)) (shards st.set) (λ s. some_freed (λ h. freed_stopped (slot.Shard s) h.entries) (at st.entities.hosted s) (λ h. refl)))
    (some_freed (λ k. freed_stopped slot.Coordinator k.entries) st.coordinator (λ k. refl)))
    (each_freed (λ p. where_some (λ k. freed_stopped (slot.Queue p) k.entries) (at st.producers (p - 1))) (producers st.set) (λ p. some_freed (λ k. freed_stopped (slot.Queue p) k.entries) (at st.producers (p - 1)) (λ k. refl)))

-- nothing is freed at first
none_freed : (c : Script) (lists : SlotLists) → FreesSome c lists lists
none_freed c lists = record { freed = []; all_freed = refl; lists_are = refl }

-- some, and then others
freed_on : (c : Script) (lists mid new : SlotLists) → FreesSome c lists mid → FreesSome c mid new → FreesSome c lists new
freed_on c lists mid new a b = record {
  freed = a.freed ++ b.freed;
  all_freed = join_freed a.freed b.freed a.all_freed b.all_freed;
  lists_are = b.lists_are ∙ (ap (λ l. fold (lists_step (setting c)) l b.freed) a.lists_are ∙ sym (fold-append (lists_step (setting c)) lists a.freed b.freed));
}

down_by : (c : Script) (w : World) (o : Option Node) → w.set ≡ setting c → FreesSome c w.lists (go_down_by o w).world.lists
down_by c w None e = none_freed c w.lists
down_by c w (Some st) e = record {
  freed = crash st;
  all_freed = crash_freed st;
  lists_are = ap (λ (v : World). v.lists) (words_after (world_after w (fact.Gone st.who)) (crash st) (facts_within (crash st) (crash_own st))) ∙ ap (λ set. fold (lists_step set) w.lists (crash st)) e;
}

-- Places of nodes.

emptied : (xs : List (Option Node)) (k : ℕ) → at (slice_set xs k None) k ≡ None
emptied [] k = refl
emptied (x ∷ xs) zero = refl
emptied (x ∷ xs) (suc k) = emptied xs k

still_empty : (xs : List (Option Node)) (j k : ℕ) → at xs k ≡ None → at (slice_set xs j None) k ≡ None
still_empty xs j k h = by_place (at (slice_set xs j None) k ≡ None) k j (λ e. ap (at (slice_set xs j None)) e ∙ emptied xs j) (λ other. placed_beside xs j k None other ∙ h)

-- what is freed changes no node
freed_nodes : (set : Setting) (version : ℕ) (fs : List Fact) (ns : List (Option Node)) → list_all is_freed fs ≡ true → fold (nodes_step set version) ns fs ≡ ns
freed_nodes set version [] ns e = refl
freed_nodes set version (f ∷ fs) ns e =
    let p : (is_freed f ≡ true) × (list_all is_freed fs ≡ true) = and_both (is_freed f) (list_all is_freed fs) e in
    ap (λ ms. fold (nodes_step set version) ms fs) (one f p.0) ∙ freed_nodes set version fs ns p.1
  where
    one : (f : Fact) → is_freed f ≡ true → nodes_step set version ns f ≡ ns
    one (fact.Freed s n why) g = refl
    one f g = absurd (true_is_not_false (sym g))

nodes_by : (w : World) (st : Node) → (go_down_by (Some st) w).world.nodes ≡ slice_set w.nodes (st.who.node - 1) None
nodes_by w st =
    ap (λ (v : World). v.nodes) (words_after (world_after w (fact.Gone st.who)) (crash st) (facts_within (crash st) (crash_own st))) ∙ freed_nodes w.set w.behaviour (crash st) (slice_set w.nodes (st.who.node - 1) None) (crash_freed st)

-- a place that is empty stays so
pub down_stays : (w : World) (o : Option Node) (k : ℕ) → at w.nodes k ≡ None → at (go_down_by o w).world.nodes k ≡ None
down_stays w None k h = h
down_stays w (Some st) k h = ap (λ ns. at ns k) (nodes_by w st) ∙ still_empty w.nodes (st.who.node - 1) k h

-- the node's place is empty
pub down_now : (c : Script) (w : World) (j : ℕ) (o : Option Node) → Stands c w → at w.nodes j ≡ o → at (go_down_by o w).world.nodes j ≡ None
down_now c w j None s e = e
down_now c w j (Some st) s e =
    let u : IsMember c s.trace j st = member c w j st s e in
    let n : st.who.node ≡ j + 1 = u.node_is in
    let place : st.who.node - 1 ≡ j = omega (arith, n) in
    ap (λ ns. at ns j) (nodes_by w st) ∙ (ap (λ k. at (slice_set w.nodes k None) j) place ∙ emptied w.nodes j)

-- One node after the other.

pub stopped_first : (y : Yard) (w : World) → IsFirm y w → IsStopped (IsQuiet w) 0 w.lists y w
stopped_first y w f = record { firm_is = f; down = λ k less. absurd (omega (arith, less)); freed_are = none_freed y.script w.lists; still = λ q. (refl, q) }

pub stopped_next : {q : Type 0} → Keeps → (y z : Yard) (lists : SlotLists) (v : World) (i : ℕ) → is_in 1 y.script.config.nodes (i + 1) ≡ true → IsStopped q i lists y v → z.script ≡ y.script → IsSeen z (go_down (i + 1) v).world → IsStopped q (i + 1) lists z (go_down (i + 1) v).world
stopped_next keeps y z lists v i node s e g = record {
  firm_is = record { seen_is = g; stands_is = subst (λ c. Stands c m.world) (sym e) (keeps.goes_down y.script v (i + 1) s.firm_is.stands_is) };
  down = λ k less. by_place (at m.world.nodes k ≡ None) k i
      (λ same. ap (at m.world.nodes) same ∙ down_now y.script v i (node_at v (i + 1)) s.firm_is.stands_is (ap (at v.nodes) here))
      (λ other. down_stays v (node_at v (i + 1)) k (s.down k (lower k less other)));
  freed_are = subst (λ c. FreesSome c lists m.world.lists) (sym e) (freed_on y.script lists v.lists m.world.lists s.freed_are (down_by y.script v (node_at v (i + 1)) s.firm_is.stands_is.sound.set_is));
  still = λ q. let p : (v.lists ≡ lists) × IsQuiet v = s.still q in (ap (λ o. (go_down_by o v).world.lists) (p.1 (i + 1 - 1)) ∙ p.0, λ k. ap (λ o. at (go_down_by o v).world.nodes k) (p.1 (i + 1 - 1)) ∙ p.1 k);
}
  where
    m : Made
    m = go_down (i + 1) v

    here : i ≡ i + 1 - 1
    here = omega arith

    lower : (k : ℕ) → k < i + 1 → (k ≡ i → ⊥) → k < i
    lower k less other = omega (arith, less, other)

-- where all are down already
pub stopped_all : (y : Yard) (w : World) → IsFirm y w → ((k : ℕ) → k < y.script.config.nodes → at w.nodes k ≡ None) → IsStopped ⊥ y.script.config.nodes w.lists y w
stopped_all y w f down = record { firm_is = f; down = down; freed_are = none_freed y.script w.lists; still = λ q. absurd q }

-- what holds after so many nodes
pub record Stopping (old y : Yard) (i : ℕ) : Type 0 where
  pub goes_on : (w : World) → IsFirm old w → (v : World) × IsStopped (IsQuiet w) i w.lists y v
  pub script_is : y.script ≡ old.script
  pub version_is : y.version ≤ old.version + i

pub stopping_first : (y : Yard) → Stopping y y 0
stopping_first y = record { goes_on = λ w f. (w, stopped_first y w f); script_is = refl; version_is = omega arith }

pub stopping_next : Keeps → (old y z : Yard) (start after : List Fact) (i n : ℕ) → n ≡ i + 1 → is_in 1 y.script.config.nodes n ≡ true → Stopping old y i → IsWhole IsFirm 1 (go_down n) y z start after → Stopping old z (i + 1)
stopping_next keeps old y z start after i n one node s g =
    let before : y.version ≤ old.version + i = s.version_is in
    let more : z.version ≤ y.version + 1 = g.counts.version_is in
    record {
      goes_on = λ w f.
          let r : (v : World) × IsStopped (IsQuiet w) i w.lists y v = s.goes_on w f in (
            (go_down (i + 1) r.0).world,
            stopped_next keeps y z w.lists r.0 i (subst (λ n. is_in 1 y.script.config.nodes n ≡ true) one node) r.1 g.script_is
                (subst (λ n. IsSeen z (go_down n r.0).world) one (g.goes r.0 r.1.firm_is).seen_is),
          );
      script_is = g.script_is ∙ s.script_is;
      version_is = omega (arith, before, more);
    }

-- Where no node is up, nobody holds a slot.

pub none_holds : (c : Script) (w : World) (s : Slot) → Stands c w → ((k : ℕ) → k < c.config.nodes → at w.nodes k ≡ None) → is_slot_of c s ≡ true → holder (list_at w.lists s) ≡ None
none_holds c w s stands down i = by (holder (list_at w.lists s)) refl
  where
    by : (o : Option Incarnation) → holder (list_at w.lists s) ≡ o → o ≡ None
    by None e = refl
    by (Some x) e =
        let t : IsHeldBy w.nodes s x = held_by c w s x stands i e in
        let within : t.place < length w.nodes = inside w.nodes t.place t.st t.here in
        let count : length w.nodes ≡ c.config.nodes = stands.sound.nodes_there in
        let less : t.place < c.config.nodes = omega (arith, within, count) in
        absurd (none_is_not_some t.st (sym (down t.place less) ∙ t.here))

-- so each slot that was held is freed
pub all_free : {q : Type 0} → (y : Yard) (lists : SlotLists) (w : World) → IsStopped q y.script.config.nodes lists y w → AreFreed y.script lists w.lists
all_free y lists w s = record {
  some_are = s.freed_are;
  own_are = λ t i. own_of y.script w t s.firm_is.stands_is i;
  free_are = λ t i. ap is_some (none_holds y.script w t s.firm_is.stands_is s.down i);
}

-- so the book has no holder
pub none_leased : {q : Type 0} → (b : Book) (y : Yard) (lists : SlotLists) (w : World) → b ≡ y.book → IsStopped q y.script.config.nodes lists y w → (t : Slot) → is_slot_of b.script t ≡ true → at b.holders (place_of b.script.config t) ≡ None
none_leased b y lists w same s t i =
    let script : b.script ≡ y.script = ap (λ (b : Book). b.script) same ∙ s.firm_is.seen_is.book_is in
    let its : is_slot_of y.script t ≡ true = ap (λ (c : Script). is_slot_of c t) (sym script) ∙ i in
    let told : IsTold (list_at w.lists t) (known_at b (place_of b.script.config t)) = told_of b y.script w.lists t script (subst (λ b. Tells (meaning_of b) y.script w.lists) (sym same) s.firm_is.seen_is.tells_is) its in
    told.holder_is ∙ none_holds y.script w t s.firm_is.stands_is s.down its

-- Each list stands at its place.

by_numbers : (f : ℕ → List Fact) (xs : List (List Fact)) (a n : ℕ) → length xs ≡ n → ((i j : ℕ) → i < n → j ≡ a + i → f j ≡ slice_index_or xs i []) → map f (numbers a n) ≡ xs
by_numbers f [] a zero e h = refl
by_numbers f [] a (suc n) e h = absurd (omega (arith, e))
by_numbers f (x ∷ xs) a zero e h = absurd (omega (arith, e))
by_numbers f (x ∷ xs) a (suc n) e h =
    ap (λ y. y ∷ map f (numbers (a + 1) n)) (h 0 a (omega arith) (omega arith))
    ∙ ap (λ ys. x ∷ ys) (by_numbers f xs (a + 1) n (omega (arith, e)) (λ i j less same. h (suc i) j (omega (arith, less)) (omega (arith, same))))

lists_same : (a b : SlotLists) → a.shards ≡ b.shards → a.coordinator ≡ b.coordinator → a.queues ≡ b.queues → a ≡ b
lists_same a b e f g i = record { shards = e i; coordinator = f i; queues = g i }

pub lists_home : {q : Type 0} → (b : Book) (y : Yard) (lists : SlotLists) (w : World) → b ≡ y.book → IsStopped q y.script.config.nodes lists y w → lists_at y.script.config b.places ≡ w.lists
lists_home b y lists w same s = lists_same (lists_at y.script.config b.places) w.lists
    (by_numbers (entries_at b.places) w.lists.shards 0 y.script.config.shards there.shards
    (λ i j less e. let at_place : j ≡ i = omega (arith, e) in ap (entries_at b.places) at_place ∙ each (slot.Shard i) (lt_is i y.script.config.shards less)))
    (each slot.Coordinator refl)
    (by_numbers (λ p. entries_at b.places (y.script.config.shards + p)) w.lists.queues 1 y.script.config.producers there.queues
    (λ i j less e.
    let some : 1 ≤ j = omega (arith, e) in
    let most : j ≤ y.script.config.producers = omega (arith, e, less) in
    let before : j - 1 ≡ i = omega (arith, e) in
    each (slot.Queue j) (both (nat_le 1 j) (nat_le j y.script.config.producers) (le_is 1 j some) (le_is j y.script.config.producers most)) ∙ ap (λ k. slice_index_or w.lists.queues k []) before))
  where
    there : AreThere y.script w.lists
    there = there_of y.script w s.firm_is.stands_is

    each : (t : Slot) → is_slot_of y.script t ≡ true → entries_at b.places (place_of y.script.config t) ≡ list_at w.lists t
    each t i =
        let script : b.script ≡ y.script = ap (λ (b : Book). b.script) same ∙ s.firm_is.seen_is.book_is in
        let told : IsTold (list_at w.lists t) (known_at b (place_of b.script.config t)) = told_of b y.script w.lists t script (subst (λ b. Tells (meaning_of b) y.script w.lists) (sym same) s.firm_is.seen_is.tells_is) i in
        ap (λ (c : Script). entries_at b.places (place_of c.config t)) (sym script) ∙ told.list_is (told.holder_is ∙ none_holds y.script w t s.firm_is.stands_is s.down i)

-- The world's parts, where it found memory.

at_end : (c : Script) (y : Yard) (n : ℕ) (f : Option StepFault) → IsPlaying c y n f → f ≢ Some fault.OutOfMemory → (b : Bool) × IsAt c y n b × IsCounted y n
at_end c y n f w h = by f h w.kept
  where
    by : (f : Option StepFault) → f ≢ Some fault.OutOfMemory → IsKept c y n f → (b : Bool) × IsAt c y n b × IsCounted y n
    by None h k = (false, k.0, k.1)
    by (Some fault.WireFull) h k = (true, k.0, k.1)
    by (Some fault.OutOfMemory) h k = absurd (h refl)

pub of_end : (c : Script) (g : Given) (y : Yard) (n : ℕ) (f : Option StepFault) → IsFromStores c g y n f → f ≢ Some fault.OutOfMemory → IsOf c g y n
of_end c g y n f w h = by f h w.kept
  where
    by : (f : Option StepFault) → f ≢ Some fault.OutOfMemory → IsHeld c g y n f → IsOf c g y n
    by None h k = k
    by (Some fault.WireFull) h k = absurd k
    by (Some fault.OutOfMemory) h k = absurd (h refl)

pub firm_kept : (c : Script) (g : Option Given) (y : Yard) (n : ℕ) (f : Option StepFault) → IsWorld c g y n f → f ≢ Some fault.OutOfMemory → IsFirm y (made_by c g n).world
firm_kept c None y n f w h = let k : (b : Bool) × IsAt c y n b × IsCounted y n = at_end c y n f w h in record { seen_is = k.1.seen_is; stands_is = k.1.stands_is }
firm_kept c (Some g) y n f w h = let k : IsOf c g y n = of_end c g y n f w h in record { seen_is = k.seen_is; stands_is = subst (λ x. Stands x (made_by c (Some g) n).world) (sym k.script_is) k.stands_is }

-- with the number of shards in force
pub era_kept : (c : Script) (g : Option Given) (y : Yard) (n : ℕ) (f : Option StepFault) → IsWorld c g y n f → f ≢ Some fault.OutOfMemory → y.script ≡ with_shards y.script.config.shards c
era_kept c None y n f w h = (at_end c y n f w h).1.era_is
era_kept c (Some g) y n f w h = let k : IsOf c g y n = of_end c g y n f w h in k.script_is ∙ ap (λ (x : Script). with_shards x.config.shards c) (sym k.script_is)

-- which is that of given stores
pub same_kept : (c : Script) (g : Option Given) (y : Yard) (n : ℕ) (f : Option StepFault) → IsWorld c g y n f → f ≢ Some fault.OutOfMemory → IsSome g → y.script ≡ c
same_kept c None y n f w h some = absurd (true_is_not_false (sym some))
same_kept c (Some g) y n f w h some = (of_end c g y n f w h).script_is

pub version_kept : (c : Script) (g : Option Given) (y : Yard) (n : ℕ) (f : Option StepFault) → IsWorld c g y n f → f ≢ Some fault.OutOfMemory → y.version ≤ 60000000
version_kept c None y n f w h =
    let counted : y.version ≤ 20 * n = (at_end c y n f w h).2.version_is in
    let few : n ≤ length c.orders = w.few in
    let fits : length c.orders ≤ 3000000 = w.script_is.fits in
    omega (arith, counted, few, fits)
version_kept c (Some g) y n f w h =
    let counted : y.version ≤ 20 * n = (of_end c g y n f w h).version_is in
    let few : n ≤ 1 = w.few in
    omega (arith, counted, few)

-- where no node is up
pub quiet_of : (w : World) → is_any_up w ≡ false → IsQuiet w
quiet_of w h = none_up w.nodes h
  where
    none_up : (os : List (Option Node)) → list_any is_some os ≡ false → (k : ℕ) → at os k ≡ None
    none_up [] h k = refl
    none_up (None ∷ os) h zero = refl
    none_up (None ∷ os) h (suc k) = none_up os h k
    none_up (Some v ∷ os) h k = absurd (true_is_not_false h)

-- two things of what came, where it came
pub both_ok : {T E : Type 0} (r : Result T E) (P Q R : T → Type 0) → ((x : T) → P x → Q x → R x) → IfOk r P → IfOk r Q → IfOk r R
both_ok (Ok x) P Q R h p q = h x p q
both_ok (Err e) P Q R h p q = tt
