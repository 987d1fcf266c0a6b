-- The node that is found is the one that the definition asks.
use Rattle.std.proofs.Common.{◌≡◌, ℕ, zero, suc, ◌+◌, ◌-◌, ◌<◌, ◌≤◌, List, [], ◌∷◌, length, refl, ap, sym, ◌∙◌, subst, arith}
use Rattle.std.specs.Prelude.{◌↔◌, IsSome, Bool, true, false, fold, Option, Some, None, IfSome, is_none, is_some, if◌then◌else◌}
use Rattle.std.proofs.lemmas.List.{length-map}
use Rattle.yard_model.specs.declared.fact.Fact.{Fact}
use Rattle.yard_model.specs.declared.incarnation.Incarnation.{Incarnation}
use Rattle.yard_model.specs.declared.incarnation.Slot.{Slot}
use Rattle.yard_model.specs.declared.input.Input.{Input}
use Rattle.yard_model.specs.Behaviour.{is_in}
use Rattle.yard_model.specs.Genuine.{is_slot_of, is_brought}
use Rattle.yard_model.specs.Node.{Node}
use Rattle.yard_model.specs.Script.{Script}
use Rattle.yard_model.specs.SlotReads.{holder}
use Rattle.yard_model.specs.Trace.{list_at}
use Rattle.yard_model.specs.Words.{at}
use Rattle.yard_model.specs.World as world
use Rattle.yard_model.specs.World.{World, node_at, node_of, is_active_at, active_node}
use Rattle.actor_laws.specs.Hands.{held_list}
use Rattle.actor_laws.proofs.Room.{few_nodes}
use Rattle.node_core.specs.Standing.{Standing}
use Rattle.node_laws.specs.Cluster.{IsHeldBy}
use Rattle.plain_laws.proofs.Booleans.{true_is_not_false}
use Rattle.plain_laws.proofs.Lists.{inside, by_place, none_of}
use Rattle.world_sim.specs.declared.seek.Sought.{Sought}
use Rattle.world_sim.specs.declared.seek.Sought.TheVariants as sought
use Rattle.world_sim.specs.Found.{is_sought, is_it, MaySeek, IsFound}
use Rattle.world_sim.specs.Steps.{asked, node_to}
use Rattle.world_sim.specs.Yard.{Yard, IsSound, IsOffered, MayAsk, state_in}
use Rattle.world_sim.proofs.DeliveryLaws.{state_some}
use Rattle.world_sim.proofs.DownLaws.{is_there}
use Rattle.world_sim.proofs.EndLaws.{kept_is, number_is, none_kept}
use Rattle.world_sim.proofs.RestsLaws.{IsInHand, hand_is, held_by}
use Rattle.world_sim.proofs.UpLaws.{firm_of, node_kept, node_within, nodes_count}

-- One place after the other, from the end on.

-- none of the nodes from this place on has it
abbrev pub NoneFrom : Sought → List (Option Standing) → ℕ → Type 0
NoneFrom s nodes place = (k : ℕ) → place ≤ k → k < length nodes → is_it s (at nodes k) ≡ false

pub none_yet : (s : Sought) (nodes : List (Option Standing)) (place : ℕ) → length nodes ≤ place → NoneFrom s nodes place
none_yet s nodes place h = λ k from less. absurd (never k from less)
  where
    never : (k : ℕ) → place ≤ k → k < length nodes → ⊥
    never k from less = omega (arith, h, from, less)

-- one that has it, behind which none has
found_here : (s : Sought) (nodes : List (Option Standing)) (place n : ℕ) → n ≡ place + 1 → place < length nodes → is_it s (at nodes place) ≡ true → NoneFrom s nodes (place + 1) → IsFound s nodes (length nodes) (Some n)
found_here s nodes place n e less h none = record {
  some = omega (arith, e);
  inside = omega (arith, e, less);
  is = let back : n - 1 ≡ place = omega (arith, e) in ap (λ k. is_it s (at nodes k)) back ∙ h;
  none_later = λ k from less. none k (subst (λ m. m ≤ k) e from) less;
}

-- by the number that its place makes
pub found_number : (s : Sought) (nodes : List (Option Standing)) (place : ℕ) (r : Option ℕ) → (IsSome r ↔ ((0 < place + 1) × (place + 1 ≤ 16))) → IfSome r (λ n. n ≡ place + 1) → length nodes ≤ 16 → place < length nodes → is_it s (at nodes place) ≡ true → NoneFrom s nodes (place + 1) → IsFound s nodes (length nodes) r
found_number s nodes place None valid value few less h none = absurd (true_is_not_false (sym (valid.1 (omega arith, omega (arith, few, less)))))
found_number s nodes place (Some n) valid value few less h none = found_here s nodes place n value less h none

-- one that hasn't, before others that haven't
pub none_here : (s : Sought) (nodes : List (Option Standing)) (place : ℕ) → is_it s (at nodes place) ≡ false → NoneFrom s nodes (place + 1) → NoneFrom s nodes place
none_here s nodes place h none = λ k from less. by_place (is_it s (at nodes k) ≡ false) k place (λ e. ap (λ j. is_it s (at nodes j)) e ∙ h) (λ other. none k (above k from other) less)
  where
    above : (k : ℕ) → place ≤ k → (k ≡ place → ⊥) → place + 1 ≤ k
    above k from other = grind arith

-- none of them has it
pub none_found : (s : Sought) (nodes : List (Option Standing)) (place : ℕ) → place ≡ 0 → NoneFrom s nodes place → IsFound s nodes (length nodes) None
none_found s nodes place e none = λ k less. none k (omega (arith, e)) less

-- The nodes of a sound world can be asked.

pub number_inside : (y : Yard) (w : World) (n : ℕ) {c : Script} → IsSound y w → y.script ≡ c → is_in 1 c.config.nodes n ≡ true → n ≤ length y.nodes
number_inside y w n {c} s e h =
    let l : length y.nodes ≡ y.script.config.nodes = nodes_count y w (firm_of y w s) in
    let most : n ≤ c.config.nodes = (node_within n c.config.nodes h).1 in
    let same : y.script.config.nodes ≡ c.config.nodes = ap (λ (x : Script). x.config.nodes) e in
    omega (arith, l, most, same)

pub nodes_few : (y : Yard) (w : World) → IsSound y w → length y.nodes ≤ 16
nodes_few y w s =
    let l : length y.nodes ≡ y.script.config.nodes = nodes_count y w (firm_of y w s) in
    let most : y.script.config.nodes ≤ 16 = few_nodes y.script s.stands_is.sound.script_is in
    omega (arith, l, most)

may_seek : (y : Yard) (w : World) (s : Sought) → IsSound y w → MaySeek y.script s → (k : ℕ) → IfSome (at y.nodes k) (λ (v : Standing). MaySeek v.script s)
may_seek y w s sound may k = by (at y.nodes k) (sound.seen_is.scripts_are k)
  where
    by : (o : Option Standing) → IfSome o (λ (v : Standing). v.script ≡ y.script) → IfSome o (λ (v : Standing). MaySeek v.script s)
    by None h = tt
    by (Some v) h = subst (λ c. MaySeek c s) (sym h) may

pub may_seek_any : (y : Yard) (w : World) (s : Sought) → ((c : Script) → MaySeek c s) → IsSound y w → (k : ℕ) → IfSome (at y.nodes k) (λ (v : Standing). MaySeek v.script s)
may_seek_any y w s may sound = may_seek y w s sound (may y.script)

pub may_seek_active : (y : Yard) (w : World) (e : List ℕ) → IsSound y w → is_brought y.script e ≡ true → (k : ℕ) → IfSome (at y.nodes k) (λ (v : Standing). MaySeek v.script (sought.Active e))
may_seek_active y w e sound brought = may_seek y w (sought.Active e) sound brought

-- Asking the one that is found.

pub it_is_up : (s : Sought) (o : Option Standing) → is_it s o ≡ true → is_none o ≡ false
it_is_up s None h = sym h
it_is_up s (Some v) h = refl

abbrev pub IsFoundIn : Sought → Yard → Option ℕ → Type 0
IsFoundIn s y to = IsFound s y.nodes (length y.nodes) to

pub found_may : (s : Sought) (y : Yard) (w : World) (to : Option ℕ) (i : Input) → IsSound y w → IsFoundIn s y to → ((st : Node) → IsOffered y.script i st) → MayAsk i to y w
found_may s y w None i k f offered = record { sound = k; may = tt }
found_may s y w (Some n) i k f offered = record { sound = k; may = record { stands_at = record { sound = k; some = f.some; up = it_is_up s (at y.nodes (n - 1)) f.is }; offered = λ st e. offered st } }

-- a node that is asked where it is up
pub up_asked : (y : Yard) (w : World) (n : ℕ) (i : Input) (to : Option ℕ) → IsSound y w → 1 ≤ n → to ≡ (if is_none (at y.nodes (n - 1)) then None else Some n) → ((st : Node) → IsOffered y.script i st) → MayAsk i to y w × (asked to i w ≡ world.give_or i (node_at w n) world.nothing w)
up_asked y w n i to s some e offered = by (is_none (at y.nodes (n - 1))) refl e
  where
    by : (b : Bool) → is_none (at y.nodes (n - 1)) ≡ b → to ≡ (if b then None else Some n) → MayAsk i to y w × (asked to i w ≡ world.give_or i (node_at w n) world.nothing w)
    by true down e =
        let none : node_at w n ≡ None = none_of (node_at w n) (none_kept y w n true s.seen_is down) in
        subst (λ to. MayAsk i to y w × (asked to i w ≡ world.give_or i (node_at w n) world.nothing w)) (sym e) (record { sound = s; may = tt }, ap (λ o. world.give_or i o world.nothing w) (sym none))
    by false up e =
        subst (λ to. MayAsk i to y w × (asked to i w ≡ world.give_or i (node_at w n) world.nothing w)) (sym e)
        (record { sound = s; may = record { stands_at = record { sound = s; some = some; up = up }; offered = λ st f. offered st } }, refl)

-- The holder of a slot.

pub some_of : {A : Type 0} (o : Option A) → is_some o ≡ true → (x : A) × (o ≡ Some x)
some_of None h = absurd (true_is_not_false (sym h))
some_of (Some x) h = (x, refl)

pub holder_found : (s : Sought) (l : Slot) (y : Yard) (w : World) (to : Option ℕ) → IsSound y w → ((st : Node) → is_sought s st ≡ is_some (held_list l st)) → is_slot_of y.script l ≡ true → IsFoundIn s y to → node_to to w ≡ node_of w (holder (list_at w.lists l))
holder_found s l y w None k same i f = by (holder (list_at w.lists l)) refl
  where
    by : (o : Option Incarnation) → holder (list_at w.lists l) ≡ o → None ≡ node_of w o
    by None e = refl
    by (Some x) e =
        let h : IsHeldBy w.nodes l x = held_by y.script w l x k.stands_is i e in
        let v : (v : Standing) × (at y.nodes h.place ≡ Some v) × (v.state ≡ h.st) = state_some (at y.nodes h.place) h.st (sym (node_kept y w h.place k.seen_is) ∙ h.here) in
        let it : is_it s (at y.nodes h.place) ≡ true = ap (is_it s) v.1 ∙ (ap (is_sought s) v.2 ∙ (same h.st ∙ h.held)) in
        absurd (true_is_not_false (sym it ∙ f h.place (inside y.nodes h.place v.0 v.1)))
holder_found s l y w (Some n) k same i f =
    let t : (v : Standing) × (at y.nodes (n - 1) ≡ Some v) = is_there (at y.nodes (n - 1)) (it_is_up s (at y.nodes (n - 1)) f.is) in
    let here : at w.nodes (n - 1) ≡ Some t.0.state = kept_is n t.0 y w k.seen_is t.1 in
    let list : (x : List Fact) × (held_list l t.0.state ≡ Some x) = some_of (held_list l t.0.state) (sym (same t.0.state) ∙ (sym (ap (is_it s) t.1) ∙ f.is)) in
    let h : IsInHand w t.0.state l list.0 = hand_is y.script w (n - 1) t.0.state l list.0 k.stands_is here i list.1 in
    let number : t.0.state.who.node ≡ n = number_is n t.0 y w (firm_of y w k) f.some t.1 in
    ap (node_at w) (sym number) ∙ ap (node_of w) (sym (ap holder h.list_is ∙ h.holds_is))

-- The node at which an entity is active.

abbrev later : (Option Node → Bool) → Option Node → Option Node → Option Node
later t found o = if t o then o else found

fold_none : (t : Option Node → Bool) (xs : List (Option Node)) (found : Option Node) → ((k : ℕ) → k < length xs → t (at xs k) ≡ false) → fold (later t) found xs ≡ found
fold_none t [] found h = refl
fold_none t (x ∷ xs) found h = ap (λ b. fold (later t) (if b then x else found) xs) (h 0 (first (length xs))) ∙ fold_none t xs found (λ k less. h (suc k) (next k (length xs) less))
  where
    first : (n : ℕ) → 0 < suc n
    first n = omega arith

    next : (k n : ℕ) → k < n → suc k < suc n
    next k n h = omega (arith, h)

fold_last : (t : Option Node → Bool) (xs : List (Option Node)) (i : ℕ) (found : Option Node) → i < length xs → t (at xs i) ≡ true → ((k : ℕ) → i < k → k < length xs → t (at xs k) ≡ false) → fold (later t) found xs ≡ at xs i
fold_last t [] i found less is none = absurd (never i less)
  where
    never : (k : ℕ) → k < 0 → ⊥
    never k h = omega (arith, h)
fold_last t (x ∷ xs) zero found less is none = ap (λ b. fold (later t) (if b then x else found) xs) is ∙ fold_none t xs x (λ k less. none (suc k) (above k) (next k (length xs) less))
  where
    above : (k : ℕ) → 0 < suc k
    above k = omega arith

    next : (k n : ℕ) → k < n → suc k < suc n
    next k n h = omega (arith, h)
fold_last t (x ∷ xs) (suc i) found less is none = fold_last t xs i (later t found x) (back i (length xs) less) is (λ k above less. none (suc k) (next i k above) (next k (length xs) less))
  where
    back : (k n : ℕ) → suc k < suc n → k < n
    back k n h = omega (arith, h)

    next : (k n : ℕ) → k < n → suc k < suc n
    next k n h = omega (arith, h)

active_is : (e : List ℕ) (o : Option Standing) → is_active_at e (state_in o) ≡ is_it (sought.Active e) o
active_is e None = refl
active_is e (Some v) = refl

active_kept : (e : List ℕ) (y : Yard) (w : World) (k : ℕ) → IsSound y w → is_active_at e (at w.nodes k) ≡ is_it (sought.Active e) (at y.nodes k)
active_kept e y w k s = ap (is_active_at e) (node_kept y w k s.seen_is) ∙ active_is e (at y.nodes k)

pub active_found : (e : List ℕ) (y : Yard) (w : World) (to : Option ℕ) → IsSound y w → IsFoundIn (sought.Active e) y to → node_to to w ≡ active_node e w
active_found e y w None s f =
    let same : length w.nodes ≡ length y.nodes = sym (ap length s.seen_is.nodes_are) ∙ length-map y.nodes state_in in
    sym (fold_none (is_active_at e) w.nodes None (λ k less. active_kept e y w k s ∙ f k (subst (λ n. k < n) same less)))
active_found e y w (Some n) s f =
    let same : length w.nodes ≡ length y.nodes = sym (ap length s.seen_is.nodes_are) ∙ length-map y.nodes state_in in
    let some : 1 ≤ n = f.some in
    let most : n ≤ length y.nodes = f.inside in
    sym (fold_last (is_active_at e) w.nodes (n - 1) None (omega (arith, some, most, same)) (active_kept e y w (n - 1) s ∙ f.is)
    (λ k above less. active_kept e y w k s ∙ f.none_later k (omega (arith, above, some)) (subst (λ m. k < m) same less)))
