-- What one call of a book of leases does.
use Rattle.std.proofs.Common.{◌≡◌, ◌≢◌, ℕ, zero, suc, ◌+◌, ◌-◌, ◌<◌, ◌≤◌, ◌⊎◌, inl, inr, List, length, sym, ap, subst, ◌∙◌, refl, true, false, true≢false, arith}
use Rattle.std.specs.Prelude.{Bool, [], ◌∷◌, ◌++◌, ◌==◌, ◌&&◌, is_some, is_none, IfSome, Option, Some, None, MatchOption, replicate, slice_set, if◌then◌else◌}
use Rattle.std.specs.List.{list_all}
use Rattle.std.proofs.lemmas.Bool.Decides.{nat_tests, Decides-eqb}
use Rattle.std.proofs.lemmas.List.Folds.{list_all-append}
use Rattle.std.proofs.lemmas.List.Sums.{fold-append}
use Rattle.std.proofs.lemmas.List.{get_or-set_same, get_or-set_other, length-set, get_or-replicate, length-replicate}
use Rattle.yard_model.specs.declared.fact.Fact.{Fact}
use Rattle.yard_model.specs.declared.fact.Fact.TheVariants as fact
use Rattle.yard_model.specs.declared.incarnation.Cause.{Cause}
use Rattle.yard_model.specs.declared.incarnation.Incarnation.{Incarnation}
use Rattle.yard_model.specs.declared.incarnation.Slot.{Slot}
use Rattle.yard_model.specs.declared.incarnation.Slot.TheVariants as slot
use Rattle.yard_model.specs.Behaviour.{is_in}
use Rattle.yard_model.specs.Equal.{is_slot}
use Rattle.yard_model.specs.Follow.{each_follows}
use Rattle.yard_model.specs.Genuine.{is_node, is_slot_of}
use Rattle.yard_model.specs.Lawful.{own, is_opening, may_open, may_follow, is_leased, is_entry, is_held}
use Rattle.yard_model.specs.Opening.{Parts, parts_of}
use Rattle.yard_model.specs.Script.{Script, with_shards}
use Rattle.yard_model.specs.SlotReads.{epoch, holder_step}
use Rattle.yard_model.specs.Words.{at}
use Rattle.yard_model.proofs.FollowLaws.{parts_whole}
use Rattle.shard_store.specs.declared.store.Store.{Store}
use Rattle.shard_store.specs.declared.store.StoreRef.{StoreRef}
use Rattle.shard_store.specs.Stores.{script_of, slot_of, entries_of, spare_of, entries_in, entries_at, slot_of_ref, script_of_ref, entries_of_ref, place_of, slot_at, IsHome, IsThere, AreHomes}
use Rattle.shard_store.proofs.PlaceLaws.{IsSlotAt, place_within, slot_back, slot_place, place_apart}
use Rattle.shard_lease.specs.Book.{Book, IsPlace, IsBook, AreLent, known_at, is_of_node, tells_of, holds_of, meaning_of}
use Rattle.shard_lease.specs.declared.leases.Acquire.{Acquire}
use Rattle.shard_lease.specs.declared.leases.Acquire.TheVariants as acquired
use Rattle.shard_lease.specs.Meaning.{Known, Meaning, Acquired, Claims, found_in, Apart, Still, Begins, is_taken, confirms, Serves, Stays, Hands, Refuses, Returns, Released}

and_both : (a b : Bool) → (a && b) ≡ true → (a ≡ true) × (b ≡ true)
and_both true b e = (refl, e)
and_both false b e = absurd (true≢false (sym e))

both : (a b : Bool) → a ≡ true → b ≡ true → (a && b) ≡ true
both a b e f = ap (λ x. x && b) e ∙ f

eq_is : (a b : ℕ) → a ≡ b → (a == b) ≡ true
eq_is a b h = (Decides-eqb a b).1 h

eq_not : (a b : ℕ) → a ≢ b → (a == b) ≡ false
eq_not a b h = grind (arith, nat_tests)

same_or_not : (a b : ℕ) → (a ≡ b) ⊎ (a ≢ b)
same_or_not a b = elim (a == b) as (λ v. (a == b) ≡ v → (a ≡ b) ⊎ (a ≢ b)) [
  | true ↦ λ e. inl ((Decides-eqb a b).0 e)
  | false ↦ λ e. inr (λ same. true≢false (sym ((Decides-eqb a b).1 same) ∙ e))
] refl

-- A book in which one place is changed.

pub with_place : Book → ℕ → Option Store → Option Incarnation → Book
with_place b k o h = record { script = b.script; places = slice_set b.places k o; holders = slice_set b.holders k h }

pub book_set : (b : Book) (s : Slot) (o : Option Store) (h : Option Incarnation) → IsBook b → is_slot_of b.script s ≡ true → IsPlace b.script s o h → IsBook (record { script = b.script; places = slice_set b.places (place_of b.script.config s) o; holders = slice_set b.holders (place_of b.script.config s) h })
book_set b s o h is slot_is now = record {
  script_is = is.script_is;
  all = length-set b.places k o ∙ is.all;
  holders_all = length-set b.holders k h ∙ (is.holders_all ∙ sym (length-set b.places k o));
  each = λ i within. at_place i (subst (λ n. i < n) (length-set b.places k o) within) (same_or_not i k);
}
  where
    k : ℕ
    k = place_of b.script.config s

    inside : k < length b.places
    inside = subst (λ n. k < n) (sym is.all) (place_within b.script s slot_is)

    at_place : (i : ℕ) → i < length b.places → (i ≡ k) ⊎ (i ≢ k) → IsPlace b.script (slot_at b.script.config i) (at (slice_set b.places k o) i) (at (slice_set b.holders k h) i)
    at_place i within (inl e) =
        subst (λ j. IsPlace b.script (slot_at b.script.config j) (at (slice_set b.places k o) j) (at (slice_set b.holders k h) j)) (sym e)
        (subst (λ x. IsPlace b.script (slot_at b.script.config k) x (at (slice_set b.holders k h) k)) (sym (get_or-set_same b.places k o None inside))
        (subst (λ x. IsPlace b.script (slot_at b.script.config k) o x) (sym (get_or-set_same b.holders k h None (subst (λ n. k < n) (sym is.holders_all) inside)))
        (subst (λ t. IsPlace b.script t o h) (sym (slot_back b.script s slot_is)) now)))
    at_place i within (inr e) =
        subst (λ x. IsPlace b.script (slot_at b.script.config i) x (at (slice_set b.holders k h) i)) (sym (get_or-set_other b.places k i o None e))
        (subst (λ x. IsPlace b.script (slot_at b.script.config i) (at b.places i) x) (sym (get_or-set_other b.holders k i h None e)) (is.each i within))

-- what stands at the place of a slot
pub place_is : (b : Book) (s : Slot) → IsBook b → is_slot_of b.script s ≡ true → IsPlace b.script s (at b.places (place_of b.script.config s)) (at b.holders (place_of b.script.config s))
place_is b s is h = subst (λ t. IsPlace b.script t (at b.places (place_of b.script.config s)) (at b.holders (place_of b.script.config s))) (slot_back b.script s h)
    (is.each (place_of b.script.config s) (subst (λ n. place_of b.script.config s < n) (sym is.all) (place_within b.script s h)))

known_else : (b : Book) (k i : ℕ) (o : Option Store) (h : Option Incarnation) → i ≢ k → known_at (with_place b k o h) i ≡ known_at b i
unfolding with_place
known_else b k i o h e =
    ap (λ x. record { holder = x; list = entries_in (at (slice_set b.places k o) i) }) (get_or-set_other b.holders k i h None e)
    ∙ ap (λ x. record { holder = at b.holders i; list = entries_in x }) (get_or-set_other b.places k i o None e)

apart_if : {A : Type 0} (v : Bool) (x y : A) (z : A) → (v ≡ true → x ≡ y) → (if v then x else z) ≡ (if v then y else z)
apart_if true x y z e = e refl
apart_if false x y z e = refl

apart_and : (v x y : Bool) → (v ≡ true → x ≡ y) → (v && x) ≡ (v && y)
apart_and true x y e = e refl
apart_and false x y e = refl

-- nothing of another slot; nor of another node, where the holder before and after isn't it
pub book_apart : (b : Book) (s : Slot) (node : ℕ) (o : Option Store) (h : Option Incarnation) → IsBook b → is_slot_of b.script s ≡ true
    → ((n : ℕ) → n ≢ node → is_of_node n h ≡ is_of_node n (at b.holders (place_of b.script.config s))) → Apart node s (meaning_of b) (meaning_of (with_place b (place_of b.script.config s) o h))
unfolding with_place
book_apart b s node o h is slot_is others = record {
  holds_is = λ n t e. apart_and (is_slot_of b.script t) (is_of_node n (at (slice_set b.holders k h) (place_of b.script.config t))) (is_of_node n (at b.holders (place_of b.script.config t))) (λ ht. at_slot n t ht e (same_or_not (place_of b.script.config t) k));
  told_is = λ t e. refl;
  tells_is = λ t e. apart_if (is_slot_of b.script t) (Some (known_at (with_place b k o h) (place_of b.script.config t))) (Some (known_at b (place_of b.script.config t))) None (λ ht. ap Some (known_else b k (place_of b.script.config t) o h (place_apart b.script s t slot_is ht e)));
}
  where
    k : ℕ
    k = place_of b.script.config s

    inside : k < length b.holders
    inside = subst (λ n. k < n) (sym (is.holders_all ∙ is.all)) (place_within b.script s slot_is)

    at_slot : (n : ℕ) (t : Slot) → is_slot_of b.script t ≡ true → (n ≢ node) ⊎ (t ≢ s) → (place_of b.script.config t ≡ k) ⊎ (place_of b.script.config t ≢ k) → is_of_node n (at (slice_set b.holders k h) (place_of b.script.config t)) ≡ is_of_node n (at b.holders (place_of b.script.config t))
    at_slot n t ht (inl ne) (inl e) = ap (λ i. is_of_node n (at (slice_set b.holders k h) i)) e ∙ (ap (is_of_node n) (get_or-set_same b.holders k h None inside) ∙ (others n ne ∙ ap (λ i. is_of_node n (at b.holders i)) (sym e)))
    at_slot n t ht (inr ne) (inl e) = absurd (place_apart b.script s t slot_is ht ne e)
    at_slot n t ht a (inr e) = ap (is_of_node n) (get_or-set_other b.holders k (place_of b.script.config t) h None e)

-- What the store of a slot that nobody held says after a grant.

follows_each : {A : Type 0} (may : List A → A → Bool) (p : A → Bool) → ((before : List A) (x : A) → may before x ≡ true → p x ≡ true) → (before xs : List A) → each_follows may before xs ≡ true → list_all p xs ≡ true
follows_each may p h before [] e = refl
follows_each may p h before (x ∷ xs) e =
    let m : (may before x ≡ true) × (each_follows may (before ++ x ∷ []) xs ≡ true) = and_both (may before x) (each_follows may (before ++ x ∷ []) xs) e in
    both (p x) (list_all p xs) (h before x m.0) (follows_each may p h (before ++ x ∷ []) xs m.1)

taken_entry : (b : Book) (s : Slot) → is_slot_of b.script s ≡ true → (before : List Fact) (f : Fact) → may_follow b.script s before f ≡ true → is_taken (meaning_of b) s f ≡ true
taken_entry b s slot_is before (fact.Granted t n x) m =
    let entry : is_entry b.script s before (fact.Granted t n x) ≡ true = (and_both (is_leased before (fact.Granted t n x)) (is_entry b.script s before (fact.Granted t n x)) m).1 in
    both (is_in 1 b.script.config.nodes x.node && is_slot_of b.script s) true (both (is_in 1 b.script.config.nodes x.node) (is_slot_of b.script s) (node s entry) slot_is) refl
  where
    node : (k : Slot) → is_entry b.script k before (fact.Granted t n x) ≡ true → is_in 1 b.script.config.nodes x.node ≡ true
    node (slot.Shard j) e = (and_both (is_slot t (slot.Shard j)) (is_node b.script x) e).1
    node slot.Coordinator e = (and_both (is_slot t slot.Coordinator) (is_node b.script x) e).1
    node (slot.Queue p) e = (and_both (is_slot t (slot.Queue p)) (is_node b.script x) e).1
taken_entry b s slot_is before (fact.Registered r) m = refl
taken_entry b s slot_is before (fact.Terminated r) m = refl
taken_entry b s slot_is before (fact.Allocated k r) m = refl
taken_entry b s slot_is before f m = refl

-- where its list begins anew
taken_opening : (b : Book) (s : Slot) → is_slot_of b.script s ≡ true → (k : ℕ) (before : List Fact) (f : Fact) → may_open b.script s k before f ≡ true → is_taken (meaning_of b) s f ≡ true
taken_opening b s slot_is k before (fact.Granted t n x) m =
    both (is_in 1 b.script.config.nodes x.node && is_slot_of b.script s) true (both (is_in 1 b.script.config.nodes x.node) (is_slot_of b.script s) (node s m) slot_is) refl
  where
    node : (z : Slot) → may_open b.script z k before (fact.Granted t n x) ≡ true → is_in 1 b.script.config.nodes x.node ≡ true
    node (slot.Shard j) e = absurd (true≢false (sym e))
    node slot.Coordinator e =
        let entry : is_entry (with_shards 128 b.script) slot.Coordinator before (fact.Granted t n x) ≡ true = (and_both (is_leased before (fact.Granted t n x)) (is_entry (with_shards 128 b.script) slot.Coordinator before (fact.Granted t n x)) e).1 in
        (and_both (is_slot t slot.Coordinator) (is_node b.script x) entry).1
    node (slot.Queue p) e = absurd (true≢false (sym e))
taken_opening b s slot_is k before (fact.Registered r) m = refl
taken_opening b s slot_is k before (fact.Terminated r) m = refl
taken_opening b s slot_is k before (fact.Allocated j r) m = refl
taken_opening b s slot_is k before f m = refl

taken_list : (b : Book) (s : Slot) → is_slot_of b.script s ≡ true → (list : List Fact) → own b.script s list ≡ true → list_all (is_taken (meaning_of b) s) list ≡ true
taken_list b s slot_is list o =
    let p : Parts = parts_of list in
    let taken : Fact → Bool = is_taken (meaning_of b) s in
    let m : (is_opening b.script s p.opening ≡ true) × (each_follows (may_follow b.script s) p.opening p.since ≡ true) = and_both (is_opening b.script s p.opening) (each_follows (may_follow b.script s) p.opening p.since) o in
    ap (list_all taken) (sym (parts_whole list))
    ∙ (list_all-append taken p.opening p.since
    ∙ both (list_all taken p.opening) (list_all taken p.since) (follows_each (may_open b.script s (epoch p.opening)) taken (taken_opening b s slot_is (epoch p.opening)) [] p.opening m.0) (follows_each (may_follow b.script s) taken (taken_entry b s slot_is) p.opening p.since m.1))

of_node_itself : (x : Incarnation) → is_of_node x.node (Some x) ≡ true
of_node_itself x = eq_is x.node x.node refl

of_other_node : (n : ℕ) (x : Incarnation) → n ≢ x.node → is_of_node n (Some x) ≡ false
of_other_node n x h = eq_not x.node n (λ e. h (sym e))

-- the store x stood at its place, and y is it with the grant
pub hands : (b : Book) (who : Incarnation) (s : Slot) (x y : Store) (n : ℕ) → IsBook b → is_node b.script who ≡ true → is_slot_of b.script s ≡ true
    → at b.places (place_of b.script.config s) ≡ Some x → at b.holders (place_of b.script.config s) ≡ None
    → n ≡ epoch (entries_of x) + 1 → script_of y ≡ script_of x → slot_of y ≡ slot_of x → entries_of y ≡ entries_of x ++ fact.Granted (slot_of x) n who ∷ [] → spare_of y ≡ spare_of x - 1
    → own (script_of y) (slot_of y) (entries_of y) ≡ true
    → Hands (meaning_of b) who s y (meaning_of (with_place b (place_of b.script.config s) None (Some who))) × Apart who.node s (meaning_of b) (meaning_of (with_place b (place_of b.script.config s) None (Some who)))
unfolding with_place
hands b who s x y n is node slot_is there nobody number script_same slot_same list less own_y =
    let k : ℕ = place_of b.script.config s in
    let inside : k < length b.holders = subst (λ i. k < i) (sym (is.holders_all ∙ is.all)) (place_within b.script s slot_is) in
    let home : IsHome b.script s x × (is_held (entries_of x) ≡ false) = subst (λ h. IsPlace b.script s (Some x) h) nobody (subst (λ o. IsPlace b.script s o (at b.holders k)) there (place_is b s is slot_is)) in
    let entries_is : entries_of y ≡ entries_of x ++ fact.Granted s (epoch (entries_of x) + 1) who ∷ [] = list ∙ (ap (λ t. entries_of x ++ fact.Granted t n who ∷ []) home.0.slot_is ∙ ap (λ i. entries_of x ++ fact.Granted s i who ∷ []) number) in
    let own_is : own b.script s (entries_of y) ≡ true = subst (λ c. own c s (entries_of y) ≡ true) (script_same ∙ home.0.script_is) (subst (λ t. own (script_of y) t (entries_of y) ≡ true) (slot_same ∙ home.0.slot_is) own_y) in
    let known : tells_of b s ≡ Some (known_at b k) = ap (λ v. if v then Some (known_at b k) else None) slot_is in
    let after : Book = record { script = b.script; places = slice_set b.places k None; holders = slice_set b.holders k (Some who) } in
    let known_after : tells_of after s ≡ Some (record { holder = Some who; list = [] }) =
    ap (λ v. if v then Some (known_at after k) else None) slot_is
    ∙ (ap (λ h. Some (record { holder = h; list = entries_in (at (slice_set b.places k None) k) })) (get_or-set_same b.holders k (Some who) None inside)
    ∙ ap (λ o. Some (record { holder = Some who; list = entries_in o })) (get_or-set_same b.places k None None (subst (λ i. k < i) is.holders_all inside))) in (
      record {
        script_is = script_same ∙ home.0.script_is;
        slot_is = slot_same ∙ home.0.slot_is;
        spare_is = omega (arith, home.0.spare_is home.1, less);
        before = entries_of x;
        free = home.1;
        list_is = entries_is;
        own_is = own_is;
        taken = taken_list after s slot_is (entries_of y) own_is;
        holds_is = both (is_slot_of b.script s) (is_of_node who.node (at (slice_set b.holders k (Some who)) k)) slot_is (ap (is_of_node who.node) (get_or-set_same b.holders k (Some who) None inside) ∙ of_node_itself who);
        seen_is = record { rest = entries_of y; is = refl };
        extends = record { rest = entries_of y; is = refl };
        vouched = λ e p i h. inr refl;
        tells_is = subst (λ o. MatchOption o (tells_of after s ≡ None) (λ t. (t.holder ≡ None) × (t.list ≡ entries_of x) × (tells_of after s ≡ Some (record { holder = Some who; list = [] })))) (sym known)
            (nobody, ap entries_in there, known_after);
      },
      book_apart b s who.node None (Some who) is slot_is (λ i ne. of_other_node i who ne ∙ sym (ap (is_of_node i) nobody)),
    )

-- another held it
pub refuses : (b : Book) (who h : Incarnation) (s : Slot) → IsBook b → is_slot_of b.script s ≡ true → holds_of b who.node s ≡ false → at b.holders (place_of b.script.config s) ≡ Some h
    → Refuses (meaning_of b) who s h.node × Still (meaning_of b) (meaning_of b)
refuses b who h s is slot_is free there =
    let k : ℕ = place_of b.script.config s in
    let of_node : is_node b.script h ≡ true = node (at b.places k) (subst (λ x. IsPlace b.script s (at b.places k) x) there (place_is b s is slot_is)) in
    let known : tells_of b s ≡ Some (known_at b k) = ap (λ v. if v then Some (known_at b k) else None) slot_is in (
      record {
        other = λ same. true≢false (sym (both (is_slot_of b.script s) (is_of_node who.node (at b.holders k)) slot_is (ap (is_of_node who.node) there ∙ eq_is h.node who.node same)) ∙ free);
        node_is = of_node;
        admitted = both (is_in 1 b.script.config.nodes h.node) (is_slot_of b.script s) of_node slot_is;
        tells_is = subst (λ o. MatchOption o (Unit {0}) (λ t. (x : Incarnation) × (t.holder ≡ Some x) × (x.node ≡ h.node))) (sym known) (h, there, refl);
      },
      record { holds_is = λ n t. refl; told_is = λ t. refl; tells_is = λ t. refl },
    )
  where
    node : (o : Option Store) → IsPlace b.script s o (Some h) → is_node b.script h ≡ true
    node None e = e
    node (Some x) e = absurd e

-- a book tells of each of its slots, so that it makes no claims
pub no_claims : (v w : Book) (who : Incarnation) (s : Slot) (r : Acquire) → Serves (meaning_of v) who s → Claims (meaning_of v) s r (meaning_of w)
no_claims v w who s r serves =
    subst (λ b. MatchOption (if b then Some (known_at v (place_of v.script.config s)) else None) (((meaning_of w).claims ≡ (meaning_of v).claims + 1) × ((meaning_of w).found ≡ found_in r)) (λ k. Unit {0})) (sym serves.slot_is) tt

-- y is the store that was given back, with the entry that frees it
pub released : (b : Book) (who : Incarnation) (s : Slot) (x y : Store) (why : Cause) → IsBook b → is_slot_of b.script s ≡ true → holds_of b who.node s ≡ true → slot_of x ≡ s
    → entries_of y ≡ entries_of x ++ fact.Freed (slot_of x) (epoch (entries_of x)) why ∷ []
    → Released (meaning_of b) who s x why (meaning_of (with_place b (place_of b.script.config s) (Some y) None))
unfolding with_place
released b who s x y why is slot_is held of list =
    let k : ℕ = place_of b.script.config s in
    let inside : k < length b.holders = subst (λ i. k < i) (sym (is.holders_all ∙ is.all)) (place_within b.script s slot_is) in
    let known : tells_of b s ≡ Some (known_at b k) = ap (λ v. if v then Some (known_at b k) else None) slot_is in
    let after : Book = record { script = b.script; places = slice_set b.places k (Some y); holders = slice_set b.holders k None } in
    let entries_is : entries_of y ≡ entries_of x ++ fact.Freed s (epoch (entries_of x)) why ∷ [] = list ∙ ap (λ t. entries_of x ++ fact.Freed t (epoch (entries_of x)) why ∷ []) of in
    let mine : is_of_node who.node (at b.holders k) ≡ true = (and_both (is_slot_of b.script s) (is_of_node who.node (at b.holders k)) held).1 in
    record {
      holds_is = ap (λ v. v && is_of_node who.node (at (slice_set b.holders k None) k)) slot_is ∙ ap (is_of_node who.node) (get_or-set_same b.holders k None None inside);
      apart = book_apart b s who.node (Some y) None is slot_is (λ i ne. sym (not_another i ne (at b.holders k) mine));
      tells_is = subst (λ o. MatchOption o (tells_of after s ≡ None) (λ t. tells_of after s ≡ Some (record { holder = None; list = entries_of x ++ fact.Freed s (epoch (entries_of x)) why ∷ [] }))) (sym known)
          (ap (λ v. if v then Some (known_at after k) else None) slot_is
          ∙ (ap (λ h. Some (record { holder = h; list = entries_in (at (slice_set b.places k (Some y)) k) })) (get_or-set_same b.holders k None None inside)
          ∙ (ap (λ o. Some (record { holder = None; list = entries_in o })) (get_or-set_same b.places k (Some y) None (subst (λ i. k < i) is.holders_all inside))
          ∙ ap (λ l. Some (record { holder = None; list = l })) entries_is)));
    }
  where
    not_another : (i : ℕ) → i ≢ who.node → (h : Option Incarnation) → is_of_node who.node h ≡ true → is_of_node i h ≡ false
    not_another i ne None e = refl
    not_another i ne (Some h) e = eq_not h.node i (λ same. ne (sym same ∙ (Decides-eqb h.node who.node).0 e))

-- The calls, in the words of their bodies.

pub book_acquired : (b v : Book) (who : Incarnation) (s : Slot) (k : ℕ) (places : List (Option Store)) → b ≡ v → IsBook b → Serves (meaning_of v) who s → k ≡ place_of b.script.config s → places ≡ slice_set b.places k None
    → IsBook (record { script = b.script; places = places; holders = slice_set b.holders k (Some who) })
book_acquired b v who s k places same is serves place taken =
    let mine : Serves (meaning_of b) who s = subst (λ w. Serves (meaning_of w) who s) (sym same) serves in
    subst (λ l. IsBook (record { script = b.script; places = l; holders = slice_set b.holders k (Some who) })) (sym taken)
    (subst (λ i. IsBook (record { script = b.script; places = slice_set b.places i None; holders = slice_set b.holders i (Some who) })) (sym place) (book_set b s None (Some who) is mine.slot_is mine.node_is))

pub store_acquired : (b v : Book) (who : Incarnation) (s : Slot) (k : ℕ) (places : List (Option Store)) (x y : Store) (n : ℕ) → b ≡ v → IsBook b → Serves (meaning_of v) who s → k ≡ place_of b.script.config s → places ≡ slice_set b.places k None
    → at b.places k ≡ Some x → at b.holders k ≡ None
    → n ≡ epoch (entries_of x) + 1 → script_of y ≡ script_of x → slot_of y ≡ slot_of x → entries_of y ≡ entries_of x ++ fact.Granted (slot_of x) n who ∷ [] → spare_of y ≡ spare_of x - 1
    → own (script_of y) (slot_of y) (entries_of y) ≡ true
    → Hands (meaning_of v) who s y (meaning_of (record { script = b.script; places = places; holders = slice_set b.holders k (Some who) })) × Apart who.node s (meaning_of v) (meaning_of (record { script = b.script; places = places; holders = slice_set b.holders k (Some who) }))
unfolding with_place
store_acquired b v who s k places x y n same is serves place taken there nobody number script_same slot_same list less own_y =
    let mine : Serves (meaning_of b) who s = subst (λ w. Serves (meaning_of w) who s) (sym same) serves in
    let k' : ℕ = place_of b.script.config s in
    subst (λ w. Hands (meaning_of w) who s y (meaning_of (record { script = b.script; places = places; holders = slice_set b.holders k (Some who) })) × Apart who.node s (meaning_of w) (meaning_of (record { script = b.script; places = places; holders = slice_set b.holders k (Some who) }))) same
    (subst (λ l. Hands (meaning_of b) who s y (meaning_of (record { script = b.script; places = l; holders = slice_set b.holders k (Some who) })) × Apart who.node s (meaning_of b) (meaning_of (record { script = b.script; places = l; holders = slice_set b.holders k (Some who) }))) (sym taken)
    (subst (λ i. Hands (meaning_of b) who s y (meaning_of (record { script = b.script; places = slice_set b.places i None; holders = slice_set b.holders i (Some who) })) × Apart who.node s (meaning_of b) (meaning_of (record { script = b.script; places = slice_set b.places i None; holders = slice_set b.holders i (Some who) }))) (sym place)
    (hands b who s x y n is mine.node_is mine.slot_is (ap (at b.places) (sym place) ∙ there) (ap (at b.holders) (sym place) ∙ nobody) number script_same slot_same list less own_y)))

pub book_released : (b v : Book) (who : Incarnation) (s : Slot) (k : ℕ) (places : List (Option Store)) (x y : Store) (why : Cause) → b ≡ v → IsBook b → Serves (meaning_of v) who s → Returns (meaning_of v) who s x → k ≡ place_of b.script.config s → places ≡ slice_set b.places k (Some y)
    → script_of y ≡ script_of x → slot_of y ≡ slot_of x → entries_of y ≡ entries_of x ++ fact.Freed (slot_of x) (epoch (entries_of x)) why ∷ [] → spare_of y ≡ spare_of x - 1
    → IsBook (record { script = b.script; places = places; holders = slice_set b.holders k None })
book_released b v who s k places x y why same is serves returns place put script_same slot_same list less =
    let mine : Serves (meaning_of b) who s = subst (λ w. Serves (meaning_of w) who s) (sym same) serves in
    let back : Returns (meaning_of b) who s x = subst (λ w. Returns (meaning_of w) who s x) (sym same) returns in
    let home : IsHome b.script s y = record { script_is = script_same ∙ back.script_is; slot_is = slot_same ∙ back.slot_is; spare_is = λ h. omega (arith, back.spare_is, less) } in
    let free : is_held (entries_of y) ≡ false = ap is_held list ∙ ap is_some (fold-append holder_step None (entries_of x) (fact.Freed (slot_of x) (epoch (entries_of x)) why ∷ [])) in
    subst (λ l. IsBook (record { script = b.script; places = l; holders = slice_set b.holders k None })) (sym put)
    (subst (λ i. IsBook (record { script = b.script; places = slice_set b.places i (Some y); holders = slice_set b.holders i None })) (sym place) (book_set b s (Some y) None is mine.slot_is (home, free)))

pub store_released : (b v : Book) (who : Incarnation) (s : Slot) (k : ℕ) (places : List (Option Store)) (x y : Store) (why : Cause) → b ≡ v → IsBook b → Serves (meaning_of v) who s → Returns (meaning_of v) who s x → k ≡ place_of b.script.config s → places ≡ slice_set b.places k (Some y)
    → entries_of y ≡ entries_of x ++ fact.Freed (slot_of x) (epoch (entries_of x)) why ∷ []
    → Released (meaning_of v) who s x why (meaning_of (record { script = b.script; places = places; holders = slice_set b.holders k None }))
unfolding with_place
store_released b v who s k places x y why same is serves returns place put list =
    let mine : Serves (meaning_of b) who s = subst (λ w. Serves (meaning_of w) who s) (sym same) serves in
    let back : Returns (meaning_of b) who s x = subst (λ w. Returns (meaning_of w) who s x) (sym same) returns in
    subst (λ w. Released (meaning_of w) who s x why (meaning_of (record { script = b.script; places = places; holders = slice_set b.holders k None }))) same
    (subst (λ l. Released (meaning_of b) who s x why (meaning_of (record { script = b.script; places = l; holders = slice_set b.holders k None }))) (sym put)
    (subst (λ i. Released (meaning_of b) who s x why (meaning_of (record { script = b.script; places = slice_set b.places i (Some y); holders = slice_set b.holders i None }))) (sym place)
    (released b who s x y why is mine.slot_is back.holds_is back.slot_is list)))

-- A book is made of stores, and taken apart.

pub book_new : (c : Script) (places : List (Option Store)) (holders : List (Option Incarnation)) → AreHomes c places → ((k : ℕ) → k < length places → is_held (entries_at places k) ≡ false) → holders ≡ replicate (length places) None
    → IsBook (record { script = c; places = places; holders = holders })
book_new c places holders homes free none = record {
  script_is = homes.script_is;
  all = homes.all;
  holders_all = ap length none ∙ length-replicate (length places) None;
  each = λ k within. subst (IsPlace c (slot_at c.config k) (at places k)) (sym (ap (λ l. at l k) none ∙ get_or-replicate (length places) k None None within)) (place (slot_at c.config k) (at places k) (homes.each k within) (free k within));
}
  where
    place : (s : Slot) (o : Option Store) → IsThere c s o → is_held (entries_in o) ≡ false → IsPlace c s o None
    place s None h f = h
    place s (Some x) h f = (h, f)

pub book_homes : (b : Book) → IsBook b → ((s : Slot) → is_slot_of b.script s ≡ true → at b.holders (place_of b.script.config s) ≡ None) → AreHomes b.script b.places
book_homes b is nobody = record {
  script_is = is.script_is;
  all = is.all;
  each = λ k within.
      let p : IsSlotAt b.script k (slot_at b.script.config k) = slot_place b.script k (subst (λ n. k < n) is.all within) in
      let none : at b.holders k ≡ None = ap (at b.holders) (sym p.1) ∙ nobody (slot_at b.script.config k) p.0 in
      there (slot_at b.script.config k) (at b.places k) (subst (IsPlace b.script (slot_at b.script.config k) (at b.places k)) none (is.each k within));
}
  where
    there : (s : Slot) (o : Option Store) → IsPlace b.script s o None → IsThere b.script s o
    there s None h = h
    there s (Some x) h = h.0

-- what stands in a book isn't leased
pub book_free : (b : Book) → IsBook b → (places : List (Option Store)) → places ≡ b.places → (k : ℕ) → k < length places → is_held (entries_at places k) ≡ false
book_free b is places same k within =
    ap (λ l. is_held (entries_at l k)) same ∙ free (slot_at b.script.config k) (at b.places k) (at b.holders k) (is.each k (subst (λ l. k < length l) same within))
  where
    free : (s : Slot) (o : Option Store) (h : Option Incarnation) → IsPlace b.script s o h → is_held (entries_in o) ≡ false
    free s (Some x) None h = h.1
    free s None (Some who) h = refl
    free s (Some x) (Some who) h = absurd h
    free s None None h = absurd h

-- A store that was handed out, and reserved, may be given back.

pub may_return : (old new : Meaning) (who : Incarnation) (s : Slot) (x y : Store) → Stays old new → Hands old who s x new → script_of y ≡ script_of x → slot_of y ≡ slot_of x → entries_of y ≡ entries_of x → 101 ≤ spare_of y → Returns new who s y
may_return old new who s x y stays h script_same slot_same same enough = record {
  holds_is = h.holds_is;
  script_is = script_same ∙ (h.script_is ∙ sym stays.script_is);
  slot_is = slot_same ∙ h.slot_is;
  extends = subst (Begins (new.told s)) (sym same) h.extends;
  taken = ap (list_all (is_taken new s)) same ∙ h.taken;
  vouched = λ e p n c. h.vouched e p n (ap (confirms e p n) (sym same) ∙ c);
  leased = ap is_held (same ∙ h.list_is) ∙ ap is_some (fold-append holder_step None h.before (fact.Granted s (epoch h.before + 1) who ∷ []));
  spare_is = enough;
}

-- and still so after another was refused a slot
pub may_return_still : (old new : Meaning) (who : Incarnation) (s : Slot) (y : Store) → Stays old new → Still old new → Returns old who s y → Returns new who s y
may_return_still old new who s y stays still r = record {
  holds_is = still.holds_is who.node s ∙ r.holds_is;
  script_is = r.script_is ∙ sym stays.script_is;
  slot_is = r.slot_is;
  extends = subst (λ l. Begins l (entries_of y)) (sym (still.told_is s)) r.extends;
  taken = all_taken (entries_of y) r.taken;
  vouched = λ e p n c. vouched e p n (r.vouched e p n c);
  leased = r.leased;
  spare_is = r.spare_is;
}
  where
    vouched : (e : List ℕ) (p n : ℕ) → (confirms e p n (old.told s) ≡ true) ⊎ (old.vouches e p n ≡ true) → (confirms e p n (new.told s) ≡ true) ⊎ (new.vouches e p n ≡ true)
    vouched e p n (inl h) = inl (ap (confirms e p n) (still.told_is s) ∙ h)
    vouched e p n (inr h) = inr (stays.vouched e p n h)

    taken : (f : Fact) → is_taken new s f ≡ is_taken old s f
    taken (fact.Granted t n x) = ap (λ v. v && new.within x.number) (stays.admits_is x.node s) ∙ ap (λ v. old.admits x.node s && v) (stays.within_is x.number)
    taken (fact.Registered r) = stays.within_is r.number
    taken (fact.Terminated r) = stays.within_is r.number
    taken (fact.Allocated k r) = stays.within_is r.number
    taken f = refl

    all_taken : (l : List Fact) → list_all (is_taken old s) l ≡ true → list_all (is_taken new s) l ≡ true
    all_taken [] h = refl
    all_taken (f ∷ fs) h =
        let m : (is_taken old s f ≡ true) × (list_all (is_taken old s) fs ≡ true) = and_both (is_taken old s f) (list_all (is_taken old s) fs) h in
        both (is_taken new s f) (list_all (is_taken new s) fs) (taken f ∙ m.0) (all_taken fs m.1)

-- who asks for a slot that another has is refused
still_held : (old new : Meaning) (x who : Incarnation) (s : Slot) (r : Acquire) (l : List Fact) → old.tells s ≡ Some (record { holder = Some x; list = l }) → Acquired old who s r new → Still old new
still_held old new x who s (acquired.Held h) l known a = a.1
still_held old new x who s (acquired.Granted y) l known a = absurd (some_is_not_none x (subst (λ o. MatchOption o (new.tells s ≡ None) (λ k. (k.holder ≡ None) × (k.list ≡ a.0.before) × (new.tells s ≡ Some (record { holder = Some who; list = [] })))) known a.0.tells_is).0)
  where
    some_is_not_none : (x : Incarnation) → Some x ≡ None → ⊥
    some_is_not_none x e = true≢false (ap is_some e)

-- a store that was handed out may be given back also where another asked for its slot meanwhile
pub may_return_asked : (b0 b1 b2 : Book) (who other : Incarnation) (s : Slot) (x y : Store) (r : Acquire) → is_slot_of b0.script s ≡ true
    → Stays (meaning_of b0) (meaning_of b1) → Hands (meaning_of b0) who s x (meaning_of b1)
    → Stays (meaning_of b1) (meaning_of b2) → Acquired (meaning_of b1) other s r (meaning_of b2)
    → script_of y ≡ script_of x → slot_of y ≡ slot_of x → entries_of y ≡ entries_of x → 101 ≤ spare_of y → Returns (meaning_of b2) who s y
may_return_asked b0 b1 b2 who other s x y r slot_is first h second a script_same slot_same same enough =
    may_return_still (meaning_of b1) (meaning_of b2) who s y second (still_held (meaning_of b1) (meaning_of b2) who other s r [] held a) (may_return (meaning_of b0) (meaning_of b1) who s x y first h script_same slot_same same enough)
  where
    held : tells_of b1 s ≡ Some (record { holder = Some who; list = [] })
    held =
        let known : tells_of b0 s ≡ Some (known_at b0 (place_of b0.script.config s)) = ap (λ v. if v then Some (known_at b0 (place_of b0.script.config s)) else None) slot_is in
        (subst (λ o. MatchOption o (tells_of b1 s ≡ None) (λ k. (k.holder ≡ None) × (k.list ≡ h.before) × (tells_of b1 s ≡ Some (record { holder = Some who; list = [] })))) known h.tells_is).2

-- Where one slot was lent and given back nobody holds any slot.

free_at_first : (b : Book) (n k : ℕ) → b.holders ≡ replicate n None → at b.holders k ≡ None
free_at_first b n k none = ap (λ l. at l k) none ∙ nobody n k
  where
    nobody : (n k : ℕ) → at (replicate {A = Option Incarnation} n None) k ≡ None
    nobody zero k = refl
    nobody (suc n) zero = refl
    nobody (suc n) (suc k) = nobody n k

pub all_free_again : (b0 b1 b2 : Book) (who : Incarnation) (s : Slot) (x y : Store) (why : Cause) (n : ℕ) → b0.holders ≡ replicate n None
    → Stays (meaning_of b0) (meaning_of b1) → Stays (meaning_of b1) (meaning_of b2)
    → Apart who.node s (meaning_of b0) (meaning_of b1) → is_slot_of b0.script s ≡ true
    → Released (meaning_of b1) who s y why (meaning_of b2)
    → (t : Slot) → is_slot_of b2.script t ≡ true → at b2.holders (place_of b2.script.config t) ≡ None
all_free_again b0 b1 b2 who s x y why n none first second apart slot_is back t there = by_place (same_or_not (place_of b0.script.config t) (place_of b0.script.config s))
  where
    slot_1 : (z : Slot) → is_slot_of b0.script z ≡ true → is_slot_of b1.script z ≡ true
    slot_1 z h = subst (λ c. is_slot_of c z ≡ true) (sym first.script_is) h

    slot_2 : (z : Slot) → is_slot_of b0.script z ≡ true → is_slot_of b2.script z ≡ true
    slot_2 z h = subst (λ c. is_slot_of c z ≡ true) (sym second.script_is) (slot_1 z h)

    there_0 : is_slot_of b0.script t ≡ true
    there_0 = subst (λ c. is_slot_of c t ≡ true) (second.script_is ∙ first.script_is) there

    known : (b : Book) (z : Slot) → is_slot_of b.script z ≡ true → tells_of b z ≡ Some (known_at b (place_of b.script.config z))
    known b z h = ap (λ v. if v then Some (known_at b (place_of b.script.config z)) else None) h

    holder_of : Option Known → Option Incarnation
    holder_of None = None
    holder_of (Some k) = k.holder

    freed : tells_of b2 s ≡ Some (record { holder = None; list = entries_of y ++ fact.Freed s (epoch (entries_of y)) why ∷ [] })
    freed = subst (λ o. MatchOption o (tells_of b2 s ≡ None) (λ k. tells_of b2 s ≡ Some (record { holder = None; list = entries_of y ++ fact.Freed s (epoch (entries_of y)) why ∷ [] }))) (known b1 s (slot_1 s slot_is)) back.tells_is

    same : t ≡ s → at b2.holders (place_of b2.script.config t) ≡ None
    same e = ap (λ z. at b2.holders (place_of b2.script.config z)) e ∙ (sym (ap holder_of (known b2 s (slot_2 s slot_is))) ∙ ap holder_of freed)

    other : t ≢ s → at b2.holders (place_of b2.script.config t) ≡ None
    other e = sym (ap holder_of (known b2 t there)) ∙ (ap holder_of (back.apart.tells_is t e ∙ apart.tells_is t e)
        ∙ (ap holder_of (known b0 t there_0) ∙ free_at_first b0 n (place_of b0.script.config t) none))

    by_place : (place_of b0.script.config t ≡ place_of b0.script.config s) ⊎ (place_of b0.script.config t ≢ place_of b0.script.config s) → at b2.holders (place_of b2.script.config t) ≡ None
    by_place (inl e) = same (sym (slot_back b0.script t there_0) ∙ (ap (slot_at b0.script.config) e ∙ slot_back b0.script s slot_is))
    by_place (inr e) = other (λ z. e (ap (place_of b0.script.config) z))

-- What is lent.

-- a slot has its store at home where nobody holds it, and what is lent is that
pub record Lent (b : Book) (s : Slot) (r : Option StoreRef) : Type 0 where
  pub held : is_some r ≡ is_none (at b.holders (place_of b.script.config s))
  pub slot_is : IfSome r (λ x. slot_of_ref x ≡ s)
  pub script_is : IfSome r (λ x. script_of_ref x ≡ b.script)
  pub entries_are : IfSome r (λ x. entries_of_ref x ≡ entries_at b.places (place_of b.script.config s))

lent_by : (c : Script) (s : Slot) (o : Option Store) (h : Option Incarnation) (r : Option StoreRef) → IsPlace c s o h → AreLent o r
    → (is_some r ≡ is_none h) × IfSome r (λ x. slot_of_ref x ≡ s) × IfSome r (λ x. script_of_ref x ≡ c) × IfSome r (λ x. entries_of_ref x ≡ entries_in o)
lent_by c s (Some x) None (Some y) home lent = (refl, lent.slot_is ∙ home.0.slot_is, lent.script_is ∙ home.0.script_is, lent.entries_are)
lent_by c s (Some x) None None home lent = absurd lent
lent_by c s (Some x) (Some h) r home lent = absurd home
lent_by c s None (Some h) None home lent = (refl, tt, tt, tt)
lent_by c s None (Some h) (Some y) home lent = absurd lent
lent_by c s None None r home lent = absurd home

lent_here : (b : Book) (s : Slot) (r : Option StoreRef) → IsBook b → is_slot_of b.script s ≡ true → AreLent (at b.places (place_of b.script.config s)) r → Lent b s r
lent_here b s r is slot_is lent =
    let it = lent_by b.script s (at b.places (place_of b.script.config s)) (at b.holders (place_of b.script.config s)) r (place_is b s is slot_is) lent in
    record { held = it.0; slot_is = it.1; script_is = it.2; entries_are = it.3 }

pub lent_of : (b v : Book) (s : Slot) (k : ℕ) (places : List (Option Store)) (r : Option StoreRef) → b ≡ v → IsBook b → is_slot_of v.script s ≡ true → k ≡ place_of b.script.config s → places ≡ b.places
    → AreLent (at places k) r → Lent v s r
lent_of b v s k places r same is slot_is at_k those lent =
    subst (λ w. is_slot_of w.script s ≡ true → Lent w s r) same
    (λ here. lent_here b s r is here (subst (λ i. AreLent (at b.places i) r) at_k (subst (λ l. AreLent (at l k) r) those lent))) slot_is

pub place_there : (b v : Book) (s : Slot) (k : ℕ) (places : List (Option Store)) → b ≡ v → IsBook b → is_slot_of v.script s ≡ true → k ≡ place_of b.script.config s → places ≡ b.places → k < length places
place_there b v s k places same is slot_is at_k those =
    let within : place_of b.script.config s < b.script.config.shards + b.script.config.producers + 1 = place_within b.script s (subst (λ w. is_slot_of w.script s ≡ true) (sym same) slot_is) in
    let long : length places ≡ b.script.config.shards + b.script.config.producers + 1 = ap length those ∙ is.all in
    omega arith
