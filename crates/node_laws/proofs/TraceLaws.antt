-- Facts that are guarded by what a node has in hand are guarded in the trace.
use Rattle.yard_model.specs.Era.{upgrade_step, version_in}
use Rattle.yard_laws.proofs.Guarding.{guarded_next}
use Rattle.std.proofs.Common.{◌≡◌, ℕ, List, [], ◌∷◌, ◌++◌, sym, ap, subst, ◌∙◌, refl, true, false, ap₂}
use Rattle.std.specs.Prelude.{Bool, ◌&&◌, not, nat_le, fold, if◌then◌else◌}
use Rattle.std.specs.List.{list_all}
use Rattle.std.proofs.lemmas.List.{append-nil, append_assoc}
use Rattle.std.proofs.lemmas.List.Sums.{fold-append}
use Rattle.yard_model.specs.declared.fact.Fact.{Fact}
use Rattle.yard_model.specs.declared.fact.Fact.TheVariants as fact
use Rattle.yard_model.specs.declared.incarnation.Incarnation.{Incarnation}
use Rattle.yard_model.specs.declared.incarnation.Slot.TheVariants as slot
use Rattle.yard_model.specs.Genuine.{is_brought}
use Rattle.yard_model.specs.Lawful.{lawful, is_decided}
use Rattle.yard_model.specs.Safe.{is_journal_state, live_step, live_at, shard_list_of, one_live}
use Rattle.yard_model.specs.Guards.{guard, guarded}
use Rattle.yard_model.specs.Script.{Script, is_name, setting}
use Rattle.yard_model.specs.Setting.{shard_of, names_of}
use Rattle.yard_model.specs.SlotLists.{SlotLists, shard_list}
use Rattle.yard_model.specs.SlotReads.{holder, journal, position}
use Rattle.yard_model.specs.Trace.{slot_of, lists_step, no_lists, lists_of}
use Rattle.yard_model.specs.Words.{is_same, is_at, is_among, without}
use Rattle.plain_laws.proofs.Booleans.{true_is_not_false, and_both, both, all_map, same_name}
use Rattle.plain_laws.proofs.Members.{same_is, last_among, gone_from}
use Rattle.yard_laws.specs.Local.{guard_at}
use Rattle.yard_laws.proofs.LocalLaws.{guarded_by_its_actor}
use Rattle.yard_laws.proofs.SafetyLaws.{guarded_is_safe_now}
use Rattle.actor_laws.specs.Owes.{Hand, has_name, without_name, live_after, hand_after, follows_in_hand, lives_in_hand, guard_in_hand, guarded_in_hand}
use Rattle.node_laws.specs.NodeStands.{is_own_fact}
use Rattle.node_laws.specs.Traces.{IsHandOf, AreVouched, GoesOn, HandIsGuarded}
use Rattle.actor_laws.proofs.EntitiesMoves.{name_added, name_beside, name_gone, name_stays}

-- The guard of one fact.

by_hand : (c : Script) (trace : List Fact) (who : Incarnation) (vouches : List ℕ → ℕ → ℕ → Bool) (h : Hand) (f : Fact) → IsHandOf c trace who h
    → ((e : List ℕ) (p n : ℕ) → vouches e p n ≡ true → nat_le n (position p (journal e (shard_list_of c e trace))) ≡ true)
    → lives_in_hand c vouches who h f ≡ true → guard_at who c trace f ≡ true
by_hand c trace who vouches h (fact.Start x e) i v g =
    let one : ((is_brought c e && is_same x who && is_at x (holder (shard_list h.lists (shard_of (setting c) e)))) ≡ true) × (not (has_name e h.live) ≡ true) =
    and_both (is_brought c e && is_same x who && is_at x (holder (shard_list h.lists (shard_of (setting c) e)))) (not (has_name e h.live)) g in
    let two : ((is_brought c e && is_same x who) ≡ true) × (is_at x (holder (shard_list h.lists (shard_of (setting c) e))) ≡ true) = and_both (is_brought c e && is_same x who) (is_at x (holder (shard_list h.lists (shard_of (setting c) e)))) one.0 in
    let three : (is_brought c e ≡ true) × (is_same x who ≡ true) = and_both (is_brought c e) (is_same x who) two.0 in
    both (is_brought c e && is_at x (holder (shard_list_of c e trace))) (not (is_among x (live_at e trace)))
    (both (is_brought c e) (is_at x (holder (shard_list_of c e trace))) three.0 (ap (λ (l : SlotLists). is_at x (holder (shard_list l (shard_of (setting c) e)))) (sym i.lists_are) ∙ two.1))
    (ap (λ y. not (is_among y (live_at e trace))) (same_is x who three.1) ∙ (ap not (sym (i.live_are e)) ∙ one.1))
by_hand c trace who vouches h (fact.Wrote e r) i v g =
    let decided : Bool = is_decided h.version c (journal e (shard_list h.lists (shard_of (setting c) e))) r in
    let m : (has_name e h.live ≡ true) × (decided ≡ true) = and_both (has_name e h.live) decided g in
    both (is_among who (live_at e trace)) (is_decided (version_in trace) c (journal e (shard_list_of c e trace)) r) (sym (i.live_are e) ∙ m.0)
    (ap₂ (λ v (l : SlotLists). is_decided v c (journal e (shard_list l (shard_of (setting c) e))) r) (sym i.version_is) (sym i.lists_are) ∙ m.1)
by_hand c trace who vouches h (fact.Freed (slot.Shard s) n why) i v g =
    let m : (is_at who (holder (shard_list h.lists s)) ≡ true) × (list_all (λ e. not (has_name e h.live)) (names_of (setting c) s) ≡ true) = and_both (is_at who (holder (shard_list h.lists s))) (list_all (λ e. not (has_name e h.live)) (names_of (setting c) s)) g in
    both (is_at who (holder (shard_list (lists_of (setting c) trace) s))) (list_all (λ e. not (is_among who (live_at e trace))) (names_of (setting c) s))
    (ap (λ (l : SlotLists). is_at who (holder (shard_list l s))) (sym i.lists_are) ∙ m.0)
    (all_map (λ e. not (has_name e h.live)) (λ e. not (is_among who (live_at e trace))) (λ e k. ap not (sym (i.live_are e)) ∙ k) (names_of (setting c) s) m.1)
by_hand c trace who vouches h (fact.Active x e m st) i v g = ap (λ (l : SlotLists). is_journal_state c m st (journal e (shard_list l (shard_of (setting c) e)))) (sym i.lists_are) ∙ g
by_hand c trace who vouches h (fact.Confirmed p e n) i v g = v e p n g
by_hand c trace who vouches h (fact.Upgrade w) i v g = absurd (true_is_not_false (sym g))
by_hand c trace who vouches h f i v g = refl

-- What is live.

started : (who : Incarnation) (e g : List ℕ) (live : List (List ℕ)) (old : List Incarnation) → has_name e live ≡ is_among who old → (b : Bool) → is_name g e ≡ b → has_name e (live ++ g ∷ []) ≡ is_among who (if b then without who old ++ who ∷ [] else old)
started who e g live old i true k =
    subst (λ y. has_name e (live ++ y ∷ []) ≡ is_among who (without who old ++ who ∷ [])) (sym (same_name g e k)) (name_added e live ∙ sym (last_among who (without who old)))
started who e g live old i false k = name_beside g e live k ∙ i

stopped : (who : Incarnation) (e g : List ℕ) (live : List (List ℕ)) (old : List Incarnation) → has_name e live ≡ is_among who old → (b : Bool) → is_name g e ≡ b → has_name e (without_name g live) ≡ is_among who (if b then without who old else old)
stopped who e g live old i true k = subst (λ y. has_name e (without_name y live) ≡ is_among who (without who old)) (sym (same_name g e k)) (name_gone e live ∙ sym (gone_from who old))
stopped who e g live old i false k = name_stays g e live k ∙ i

live_on : (who : Incarnation) (e : List ℕ) (live : List (List ℕ)) (old : List Incarnation) (f : Fact) → is_own_fact who f ≡ true → has_name e live ≡ is_among who old → has_name e (live_after live f) ≡ is_among who (live_step e old f)
live_on who e live old (fact.Start x g) own i = subst (λ y. has_name e (live ++ g ∷ []) ≡ is_among who (if is_name g e then without y old ++ y ∷ [] else old)) (sym (same_is x who own)) (started who e g live old i (is_name g e) refl)
live_on who e live old (fact.Stop x g) own i = subst (λ y. has_name e (without_name g live) ≡ is_among who (if is_name g e then without y old else old)) (sym (same_is x who own)) (stopped who e g live old i (is_name g e) refl)
live_on who e live old (fact.WriteFailed x g) own i = subst (λ y. has_name e (without_name g live) ≡ is_among who (if is_name g e then without y old else old)) (sym (same_is x who own)) (stopped who e g live old i (is_name g e) refl)
live_on who e live old (fact.Gone x) own i = absurd (true_is_not_false (sym own))
live_on who e live old f own i = i

version_on : (who : Incarnation) (v : ℕ) (f : Fact) → is_own_fact who f ≡ true → upgrade_step v f ≡ v
version_on who v (fact.Upgrade w) own = absurd (true_is_not_false (sym own))
version_on who v f own = refl

hand_on : (c : Script) (trace : List Fact) (who : Incarnation) (h : Hand) (f : Fact) → is_own_fact who f ≡ true → IsHandOf c trace who h → IsHandOf c (trace ++ f ∷ []) who (hand_after c h f)
hand_on c trace who h f own i = record {
  lists_are = ap (λ l. lists_step (setting c) l f) i.lists_are ∙ sym (fold-append (lists_step (setting c)) (no_lists (setting c)) trace (f ∷ []));
  version_is = i.version_is ∙ sym (fold-append upgrade_step 1 trace (f ∷ []) ∙ version_on who (version_in trace) f own);
  live_are = λ e. live_on who e h.live (live_at e trace) f own (i.live_are e) ∙ ap (is_among who) (sym (fold-append (live_step e) [] trace (f ∷ [])));
}

-- All of them.

all_live : (c : Script) (trace : List Fact) → guarded c trace ≡ true → list_all (one_live c trace) (setting c).names ≡ true
all_live c trace g = (and_both (list_all (one_live c trace) (setting c).names) (lawful c (lists_of (setting c) trace)) (guarded_is_safe_now c trace g)).0

-- what is vouched for stays so
pub vouched_on : (c : Script) (trace : List Fact) (f : Fact) (vouches : List ℕ → ℕ → ℕ → Bool) → AreVouched c trace vouches → AreVouched c (trace ++ f ∷ []) vouches
vouched_on c trace f vouches v more w e p n y = subst (λ t. nat_le n (position p (journal e (shard_list_of c e t))) ≡ true) (sym (append_assoc trace (f ∷ []) more)) (v (f ∷ more) (ap (guarded c) (sym (append_assoc trace (f ∷ []) more)) ∙ w) e p n y)

pub hand_is_guarded : HandIsGuarded
hand_is_guarded c trace who vouches h [] g v i k own = record { guarded_are = ap (guarded c) (append-nil trace) ∙ g; in_hand = subst (λ t. IsHandOf c t who h) (sym (append-nil trace)) i }
hand_is_guarded c trace who vouches h (f ∷ fs) g v i k own =
    let m : (guard_in_hand c vouches who h f ≡ true) × (guarded_in_hand c vouches who (hand_after c h f) fs ≡ true) = and_both (guard_in_hand c vouches who h f) (guarded_in_hand c vouches who (hand_after c h f) fs) k in
    let n : (follows_in_hand c h.lists f (slot_of (setting c) f) ≡ true) × (lives_in_hand c vouches who h f ≡ true) = and_both (follows_in_hand c h.lists f (slot_of (setting c) f)) (lives_in_hand c vouches who h f) m.0 in
    let o : (is_own_fact who f ≡ true) × (list_all (is_own_fact who) fs ≡ true) = and_both (is_own_fact who f) (list_all (is_own_fact who) fs) own in
    let now : (e : List ℕ) (p n : ℕ) → vouches e p n ≡ true → nat_le n (position p (journal e (shard_list_of c e trace))) ≡ true = λ e p n w. subst (λ t. nat_le n (position p (journal e (shard_list_of c e t))) ≡ true) (append-nil trace) (v [] (ap (guarded c) (append-nil trace) ∙ g) e p n w) in
    let one : guard c trace f ≡ true = guarded_by_its_actor who c trace f (all_live c trace g) (ap (λ l. follows_in_hand c l f (slot_of (setting c) f)) (sym i.lists_are) ∙ n.0) (by_hand c trace who vouches h f i now n.1) in
    let next : guarded c (trace ++ f ∷ []) ≡ true = guarded_next c trace f g one in
    let rest : GoesOn c (trace ++ f ∷ []) who (hand_after c h f) fs = hand_is_guarded c (trace ++ f ∷ []) who vouches (hand_after c h f) fs next
    (vouched_on c trace f vouches v)
    (hand_on c trace who h f o.0 i) m.1 o.1 in
    record { guarded_are = ap (guarded c) (sym (append_assoc trace (f ∷ []) fs)) ∙ rest.guarded_are; in_hand = subst (λ t. IsHandOf c t who (fold (hand_after c) (hand_after c h f) fs)) (append_assoc trace (f ∷ []) fs) rest.in_hand }
