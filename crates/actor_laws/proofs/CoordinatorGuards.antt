-- What a coordinator tells is guarded by what its node has in hand.
use Rattle.std.proofs.Common.{◌≡◌, ℕ, sym, ap, ◌∙◌, refl}
use Rattle.std.specs.Prelude.{Bool, true, List, [], ◌∷◌, fold}
use Rattle.std.specs.List.{list_all}
use Rattle.yard_model.specs.declared.fact.Fact.{Fact}
use Rattle.yard_model.specs.declared.fact.Fact.TheVariants as fact
use Rattle.yard_model.specs.declared.incarnation.Incarnation.{Incarnation}
use Rattle.yard_model.specs.declared.incarnation.Slot.TheVariants as slot
use Rattle.yard_model.specs.Script.{Script}
use Rattle.yard_model.specs.Lawful.{own, may_follow}
use Rattle.plain_laws.proofs.Booleans.{true_is_not_false, and_both, both}
use Rattle.yard_laws.proofs.Before.{own_before}
use Rattle.actor_laws.specs.Owes.{Hand, hand_after, guard_in_hand, guarded_in_hand}
use Rattle.actor_laws.proofs.Rules.{may_of}
use Rattle.actor_laws.specs.Moves.{facts_of}
use Rattle.actor_laws.specs.CoordinatorStands.{IsGoodCoordinator, is_coordinator_fact, entered}
use Rattle.actor_laws.specs.CoordinatorOwes.{CoordinatorIsGuarded}

pub entered_was : (c : Script) (list : List Fact) (f : Fact) → own c slot.Coordinator (entered list f) ≡ true → own c slot.Coordinator list ≡ true
entered_was c list (fact.Registered r) o = own_before c slot.Coordinator list (fact.Registered r) refl o
entered_was c list (fact.Terminated r) o = own_before c slot.Coordinator list (fact.Terminated r) refl o
entered_was c list (fact.Allocated s r) o = own_before c slot.Coordinator list (fact.Allocated s r) refl o
entered_was c list (fact.Deallocated s) o = own_before c slot.Coordinator list (fact.Deallocated s) refl o
entered_was c list f o = o

pub all_entered_was : (c : Script) (list : List Fact) (fs : List Fact) → own c slot.Coordinator (fold entered list fs) ≡ true → own c slot.Coordinator list ≡ true
all_entered_was c list [] o = o
all_entered_was c list (f ∷ fs) o = entered_was c list f (all_entered_was c (entered list f) fs o)

-- a hand with this list of the coordinator's slot
abbrev with_list : Hand → List Fact → Hand
with_list h list = record h { lists = record h.lists { coordinator = list } }

hand_one : (c : Script) (h : Hand) (list : List Fact) (f : Fact) → is_coordinator_fact f ≡ true → hand_after c (with_list h list) f ≡ with_list h (entered list f)
hand_one c h list (fact.Registered r) e = refl
hand_one c h list (fact.Terminated r) e = refl
hand_one c h list (fact.Allocated s r) e = refl
hand_one c h list (fact.Deallocated s) e = refl
hand_one c h list (fact.Moving s stamp) e = refl
hand_one c h list fact.Nothing e = refl
hand_one c h list f e = absurd (true_is_not_false (sym e))

hand_all : (c : Script) (h : Hand) (list : List Fact) (fs : List Fact) → list_all is_coordinator_fact fs ≡ true → fold (hand_after c) (with_list h list) fs ≡ with_list h (fold entered list fs)
hand_all c h list [] e = refl
hand_all c h list (f ∷ fs) e =
    let m : (is_coordinator_fact f ≡ true) × (list_all is_coordinator_fact fs ≡ true) = and_both (is_coordinator_fact f) (list_all is_coordinator_fact fs) e in
    ap (λ g. fold (hand_after c) g fs) (hand_one c h list f m.0) ∙ hand_all c h (entered list f) fs m.1

one_in_hand : (c : Script) (vouches : List ℕ → ℕ → ℕ → Bool) (who : Incarnation) (h : Hand) (list : List Fact) (f : Fact) → is_coordinator_fact f ≡ true → own c slot.Coordinator (entered list f) ≡ true → guard_in_hand c vouches who (with_list h list) f ≡ true
one_in_hand c vouches who h list (fact.Registered r) e o = let f : Fact = fact.Registered r in both (may_follow c slot.Coordinator list f) true (may_of c list f refl o) refl
one_in_hand c vouches who h list (fact.Terminated r) e o = let f : Fact = fact.Terminated r in both (may_follow c slot.Coordinator list f) true (may_of c list f refl o) refl
one_in_hand c vouches who h list (fact.Allocated s r) e o = let f : Fact = fact.Allocated s r in both (may_follow c slot.Coordinator list f) true (may_of c list f refl o) refl
one_in_hand c vouches who h list (fact.Deallocated s) e o = let f : Fact = fact.Deallocated s in both (may_follow c slot.Coordinator list f) true (may_of c list f refl o) refl
one_in_hand c vouches who h list (fact.Moving s stamp) e o = refl
one_in_hand c vouches who h list fact.Nothing e o = refl
one_in_hand c vouches who h list f e o = absurd (true_is_not_false (sym e))

all_in_hand : (c : Script) (vouches : List ℕ → ℕ → ℕ → Bool) (who : Incarnation) (h : Hand) (list : List Fact) (fs : List Fact) → list_all is_coordinator_fact fs ≡ true → own c slot.Coordinator (fold entered list fs) ≡ true → guarded_in_hand c vouches who (with_list h list) fs ≡ true
all_in_hand c vouches who h list [] e o = refl
all_in_hand c vouches who h list (f ∷ fs) e o =
    let m : (is_coordinator_fact f ≡ true) × (list_all is_coordinator_fact fs ≡ true) = and_both (is_coordinator_fact f) (list_all is_coordinator_fact fs) e in
    both (guard_in_hand c vouches who (with_list h list) f) (guarded_in_hand c vouches who (hand_after c (with_list h list) f) fs)
    (one_in_hand c vouches who h list f m.0 (all_entered_was c (entered list f) fs o))
    (ap (λ g. guarded_in_hand c vouches who g fs) (hand_one c h list f m.0) ∙ all_in_hand c vouches who h (entered list f) fs m.1 o)

pub coordinator_is_guarded : CoordinatorIsGuarded
coordinator_is_guarded c vouches who h st ms k same =
    let sound : IsGoodCoordinator c _ = k.sound in
    let list : List Fact = st.entries in
    let is : with_list h h.lists.coordinator ≡ with_list h list = ap (with_list h) same in
    record {
      guarded_are = ap (λ g. guarded_in_hand c vouches who g (facts_of ms)) is ∙ all_in_hand c vouches who h list (facts_of ms) k.facts_are (ap (own c slot.Coordinator) (sym k.list_is) ∙ sound.own_is);
      hand_is = ap (λ g. fold (hand_after c) g (facts_of ms)) is ∙ (hand_all c h list (facts_of ms) k.facts_are ∙ ap (with_list h) (sym k.list_is));
    }
