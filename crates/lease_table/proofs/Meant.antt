-- What a pass's calls mean to those who only see leases.
use Rattle.std.proofs.Common.{◌≡◌, ◌≢◌, ℕ, zero, suc, ◌+◌, inl, inr, ⊎_elim, Bool, true, false, ◌&&◌, List, [], ◌∷◌, ◌++◌, refl, sym, ap, ◌∙◌, subst, eqb, eq-eqb, ne_eqb}
use Rattle.std.proofs.lemmas.List.{get_or-set_other}
use Rattle.std.specs.Prelude.{Option, None, Some, is_some, if◌then◌else◌}
use Rattle.std.specs.List.{list_all}
use Rattle.atomic_table.specs.Seated.{TableId}
use Rattle.plain_laws.proofs.Booleans.{and_both, both, same_number, number_itself}
use Rattle.yard_model.specs.declared.incarnation.Incarnation.{Incarnation}
use Rattle.yard_model.specs.declared.incarnation.Slot.{Slot}
use Rattle.yard_model.specs.declared.incarnation.Cause.{Cause}
use Rattle.yard_model.specs.declared.fact.Fact.{Fact}
use Rattle.yard_model.specs.declared.fact.Fact.TheVariants as fact
use Rattle.yard_model.specs.Genuine.{is_node, is_slot_of}
use Rattle.yard_model.specs.Lawful.{own}
use Rattle.yard_model.specs.Script.{Script}
use Rattle.yard_model.specs.SlotReads.{epoch}
use Rattle.shard_store.specs.declared.store.Store.{Store}
use Rattle.shard_store.specs.Stores.{entries_of, place_of, slot_at}
use Rattle.shard_lease.specs.declared.leases.Acquire.{Acquire}
use Rattle.shard_lease.specs.declared.leases.Acquire.TheVariants as answer
use Rattle.shard_lease.specs.Meaning.{Meaning, Begins, IsVouched, confirms, is_taken, Serves, Stays, Apart, Acquired, Claims, Returns, Released}
use Rattle.lease_table.specs.declared.View.{View}
use Rattle.lease_table.specs.Lists.{seen_at, Has}
use Rattle.yard_model.specs.Words.{at}
use Rattle.std.specs.Prelude.{slice_set}
use Rattle.lease_table.specs.Fits.{is_within, admits, is_fit, home_of}
use Rattle.lease_table.specs.Tells.{published, freed}
use Rattle.lease_table.specs.Leasing.{Pass, MayAct, Answers, MayRelease, MayPublish, Idle}
use Rattle.lease_table.specs.Means.{told_list, meaning_of, name_of}
use Rattle.lease_table.proofs.Charters.{in_nodes}
use Rattle.lease_table.proofs.Places.{same_or_not, begins_here, begins_on}
use Rattle.lease_table.proofs.Records.{recorded_begins, confirms_before}
use Rattle.shard_store.proofs.PlaceLaws.{place_within, slot_back, place_apart}

put_none : (l : List (Option (List Fact))) (k : ℕ) → at (slice_set l k None) k ≡ None
put_none [] k = refl
put_none (x ∷ xs) zero = refl
put_none (x ∷ xs) (suc k) = put_none xs k

and_no : (a b : Bool) → a ≡ false → (a && b) ≡ false
and_no true b e = cc
and_no false b e = refl

and_false : (a : Bool) → (a && false) ≡ false
and_false true = refl
and_false false = refl

pub serves_is : (z : TableId) (v : View) (n : ℕ) (who : Incarnation) (s : Slot) → Serves (meaning_of z v n) who s → who.node ≡ n
serves_is z v n who s h = same_number who.node n h.who_is

-- what a pass takes is what fits
pub taken_fit : (z : TableId) (v : View) (n : ℕ) (s : Slot) (f : Fact) → is_taken (meaning_of z v n) s f ≡ is_fit v.charter s f
taken_fit z v n s (fact.Granted t m x) = refl
taken_fit z v n s (fact.Registered r) = refl
taken_fit z v n s (fact.Terminated r) = refl
taken_fit z v n s (fact.Allocated k r) = refl
taken_fit z v n s f = refl

all_same : (p q : Fact → Bool) → ((f : Fact) → p f ≡ q f) → (fs : List Fact) → list_all p fs ≡ list_all q fs
all_same p q h [] = refl
all_same p q h (f ∷ fs) = ap (λ b. b && list_all p fs) (h f) ∙ ap (λ b. q f && b) (all_same p q h fs)

pub all_taken : (z : TableId) (v : View) (n : ℕ) (s : Slot) (fs : List Fact) → list_all (is_taken (meaning_of z v n) s) fs ≡ list_all (is_fit v.charter s) fs
all_taken z v n s fs = all_same (is_taken (meaning_of z v n) s) (is_fit v.charter s) (taken_fit z v n s) fs

-- another number holds nothing, whatever the view
other_number : (n m : ℕ) (b d : Bool) → m ≢ n → (eqb m n && b) ≡ (eqb m n && d)
other_number n m b d ne = and_no (eqb m n) b (ne_eqb m n ne) ∙ sym (and_no (eqb m n) d (ne_eqb m n ne))

if_slot : (b x y : Bool) → (b ≡ true → x ≡ y) → (b && x) ≡ (b && y)
if_slot true x y h = h refl
if_slot false x y h = refl

if_told : (b : Bool) (x y : List Fact) → (b ≡ true → x ≡ y) → (if b then x else []) ≡ (if b then y else [])
if_told true x y h = h refl
if_told false x y h = refl

-- the words of a view, by a script that it has
abbrev pub holds_by : View → ℕ → Script → ℕ → Slot → Bool
holds_by v n c m t = (eqb m n) && (is_slot_of c t && is_some (at v.held (place_of c.config t)))

abbrev pub told_by : View → Script → Slot → List Fact
told_by v c t = if is_slot_of c t then told_list (at v.held (place_of c.config t)) else []

-- what a view holds where it changed at one slot
pub apart : (z y : TableId) (v w : View) (n who : ℕ) (s : Slot) → w.charter ≡ v.charter → who ≡ n → is_slot_of v.charter s ≡ true → ((j : ℕ) → j ≢ place_of v.charter.config s → at w.held j ≡ at v.held j) → Apart who s (meaning_of z v n) (meaning_of y w n)
apart z y v w n who s same is here kept = record {
  holds_is = λ m t e. ap (λ (c : Script). holds_by w n c m t) same ∙ ⊎_elim (λ (ne : m ≢ who). other_number n m _ _ (λ e'. ne (e' ∙ sym is)))
      (λ (ne : t ≢ s). ap (λ b. eqb m n && b) (if_slot (is_slot_of v.charter t) _ _ (λ ht. ap (λ (o : Option (List Fact)). is_some o) (kept (place_of v.charter.config t) (place_apart v.charter s t here ht ne))))) e;
  told_is = λ t ne. ap (λ (c : Script). told_by w c t) same ∙ if_told (is_slot_of v.charter t) _ _ (λ ht. ap told_list (kept (place_of v.charter.config t) (place_apart v.charter s t here ht ne)));
  tells_is = λ t ne. refl;
}

pub told_here : (v : View) (s : Slot) (l : List Fact) → is_slot_of v.charter s ≡ true → at v.held (place_of v.charter.config s) ≡ Some l → told_by v v.charter s ≡ l
told_here v s l here e = ap (λ b. if b then told_list (at v.held (place_of v.charter.config s)) else []) here ∙ ap told_list e

pub acquired : (z y : TableId) (v w : View) (n : ℕ) (who : Incarnation) (s : Slot) (r : Acquire) → v.numbers ≡ n ∷ [] → Serves (meaning_of z v n) who s → who.node ≡ n → Answers v who (place_of v.charter.config s) r w → Acquired (meaning_of z v n) who s r (meaning_of y w n)
acquired z y v w n who s (answer.Granted x) nums serves is t =
    let k : ℕ = place_of v.charter.config s in
    let here : is_slot_of v.charter s ≡ true = serves.slot_is in
    let at_is : slot_at v.charter.config k ≡ s = slot_back v.charter s here in
    let same : w.charter ≡ v.charter = ap (λ (u : View). u.charter) t.now in
    let list_is : entries_of x ≡ t.hist ++ fact.Granted s (epoch t.hist + 1) who ∷ [] = t.log ∙ ap (λ q. t.hist ++ fact.Granted q (epoch t.hist + 1) who ∷ []) at_is in
    let told_is : told_by w w.charter s ≡ t.hist = told_here w s t.hist (ap (λ c. is_slot_of c s) same ∙ here) (ap (λ c. at w.held (place_of c.config s)) same ∙ t.held) in (
      record {
        script_is = t.script;
        slot_is = t.slot ∙ at_is;
        spare_is = t.spare;
        before = t.hist;
        free = t.closed;
        list_is = list_is;
        own_is = subst (λ q. own v.charter q (entries_of x) ≡ true) at_is t.own.lawful;
        taken = all_taken y w n s (entries_of x) ∙ ap (λ c. list_all (is_fit c s) (entries_of x)) same ∙ subst (λ q. list_all (is_fit v.charter q) (entries_of x) ≡ true) at_is t.own.fit;
        holds_is = ap (λ (c : Script). holds_by w n c who.node s) same ∙ both (eqb who.node n) (is_slot_of v.charter s && is_some (at w.held k)) (eq-eqb who.node n is) (both (is_slot_of v.charter s) (is_some (at w.held k)) here (ap (λ (o : Option (List Fact)). is_some o) t.held));
        seen_is = subst (λ (l : List Fact). Begins l (entries_of x)) (sym (ap (λ b. if b then seen_at v.seen k else []) here)) (begins_on (seen_at v.seen k) t.hist (entries_of x) t.seen record { rest = fact.Granted s (epoch t.hist + 1) who ∷ []; is = list_is });
        extends = subst (λ (l : List Fact). Begins l (entries_of x)) (sym told_is) record { rest = fact.Granted s (epoch t.hist + 1) who ∷ []; is = list_is };
        vouched = λ e p m h. inl (ap (confirms e p m) told_is ∙ confirms_before e p m t.hist (fact.Granted s (epoch t.hist + 1) who) refl (ap (confirms e p m) (sym list_is) ∙ h));
        tells_is = refl;
      },
      apart z y v w n who.node s same is here (λ j ne. ap (λ (u : View). at u.held j) t.now ∙ get_or-set_other v.held k j (Some t.hist) None ne),
    )
acquired z y v w n who s (answer.Held h) nums serves is t =
    let k : ℕ = place_of v.charter.config s in
    let admitted : admits v.charter h s ≡ true = subst (λ q. admits v.charter h q ≡ true) (slot_back v.charter s serves.slot_is) t.admitted in (
      record {
        other = λ e. t.other (subst (λ (l : List ℕ). Has h l) (sym nums) (inl (sym is ∙ sym e)));
        node_is = in_nodes v.charter h s admitted;
        admitted = admitted;
        tells_is = tt;
      },
      record {
        holds_is = λ m q. ap (λ (u : View). holds_by u n u.charter m q) t.now;
        told_is = λ q. ap (λ (u : View). told_by u u.charter q) t.now;
        tells_is = λ q. refl;
      },
    )

-- nothing can be told of the slot, and the answer is what one claim more has found
pub claims : (z y : TableId) (v w : View) (n : ℕ) (who : Incarnation) (s : Slot) (k : ℕ) (r : Acquire) → Answers v who k r w → Claims (meaning_of z v n) s r (meaning_of y w n)
claims z y v w n who s k (answer.Granted x) t = (ap (λ (u : View). u.claims) t.now, ap (λ (u : View). u.found) t.now)
claims z y v w n who s k (answer.Held h) t = (ap (λ (u : View). u.claims) t.now, ap (λ (u : View). u.found) t.now)

pub released : (z y : TableId) (v w : View) (n : ℕ) (who : Incarnation) (s : Slot) (x : Store) (cause : Cause) (l : List Fact) → is_slot_of v.charter s ≡ true → who.node ≡ n → w ≡ freed (published v (place_of v.charter.config s) l) (place_of v.charter.config s) → Released (meaning_of z v n) who s x cause (meaning_of y w n)
released z y v w n who s x cause l here is now =
    let k : ℕ = place_of v.charter.config s in record {
      holds_is = ap (λ (u : View). holds_by u n u.charter who.node s) now ∙ ap (λ (o : Option (List Fact)). eqb who.node n && (is_slot_of v.charter s && is_some o)) (put_none (slice_set v.held k (Some l)) k) ∙ ap (λ b. eqb who.node n && b) (and_false (is_slot_of v.charter s)) ∙ and_false (eqb who.node n);
      apart = apart z y v w n who.node s (ap (λ (u : View). u.charter) now) is here (λ j ne. ap (λ (u : View). at u.held j) now ∙ get_or-set_other (slice_set v.held k (Some l)) k j None None ne ∙ get_or-set_other v.held k j (Some l) None ne);
      tells_is = refl;
    }

pub name_same : (z y : TableId) → name_of y ≡ name_of z → y ≡ z
name_same z y e = let a : y.words ≡ z.words = cc in let b : y.slots ≡ z.slots = cc in let c : y.views_name ≡ z.views_name = cc in let d : y.atom ≡ z.atom = cc in let f : y.block ≡ z.block = cc in let g : y.offset ≡ z.offset = cc in let h : y.slot_names ≡ z.slot_names = cc in
    λ i. record { words = a i; slots = b i; views_name = c i; atom = d i; block = f i; offset = g i; slot_names = h i }

-- every list that was seen has grown
abbrev pub Grows : View → View → Type 0
Grows v w = (j : ℕ) → Begins (seen_at v.seen j) (seen_at w.seen j)

put_begins : (l : List (List Fact)) (k : ℕ) (x : List Fact) → Begins (seen_at l k) x → Begins (seen_at l k) (seen_at (slice_set l k x) k)
put_begins [] k x b = record { rest = []; is = refl }
put_begins (y ∷ ys) zero x b = b
put_begins (y ∷ ys) (suc k) x b = put_begins ys k x b

pub grows_at : (v w : View) (k : ℕ) (x : List Fact) → w.seen ≡ slice_set v.seen k x → Begins (seen_at v.seen k) x → Grows v w
grows_at v w k x now b j = subst (λ (l : List (List Fact)). Begins (seen_at v.seen j) (seen_at l j)) (sym now) (⊎_elim
    (λ (e : j ≡ k). subst (λ (i : ℕ). Begins (seen_at v.seen i) (seen_at (slice_set v.seen k x) i)) (sym e) (put_begins v.seen k x b))
    (λ (ne : j ≢ k). subst (λ (l : List Fact). Begins (seen_at v.seen j) l) (sym (get_or-set_other v.seen k j x [] ne)) (begins_here (seen_at v.seen j)))
    (same_or_not j k))

pub acquired_grows : (v w : View) (who : Incarnation) (k : ℕ) (r : Acquire) → Answers v who k r w → Grows v w
acquired_grows v w who k (answer.Granted x) t = grows_at v w k t.hist (ap (λ (u : View). u.seen) t.now) t.seen
acquired_grows v w who k (answer.Held x) t = λ j. subst (λ (u : View). Begins (seen_at v.seen j) (seen_at u.seen j)) (sym t.now) (begins_here (seen_at v.seen j))

pub released_grows : (v w : View) (k : ℕ) (l : List Fact) → w ≡ freed (published v k l) k → Begins (seen_at v.seen k) l → Grows v w
released_grows v w k l is b = grows_at v w k l (ap (λ (u : View). u.seen) is) b

abbrev seen_by : View → Script → Slot → List Fact
seen_by v c t = if is_slot_of c t then seen_at v.seen (place_of c.config t) else []

if_begins : (b : Bool) (x y : List Fact) → Begins x y → Begins (if b then x else []) (if b then y else [])
if_begins true x y h = h
if_begins false x y h = begins_here []

-- what a pass keeps where the lists that it has seen grow
pub stays : (z y : TableId) (v w : View) (n : ℕ) → y ≡ z → w.charter ≡ v.charter → Grows v w → Stays (meaning_of z v n) (meaning_of y w n)
stays z y v w n e same grows = record {
  name_is = ap name_of e;
  script_is = same;
  within_is = λ m. refl;
  serves_is = λ x. refl;
  admits_is = λ m s. ap (λ (c : Script). admits c m s) same;
  seen_is = λ s. subst (λ (c : Script). Begins (seen_by v v.charter s) (seen_by w c s)) (sym same) (if_begins (is_slot_of v.charter s) (seen_at v.seen (place_of v.charter.config s)) (seen_at w.seen (place_of v.charter.config s)) (grows (place_of v.charter.config s)));
  vouched = λ x p m h. recorded_begins x p m (seen_at v.seen (home_of v.charter x)) (seen_at w.seen (home_of w.charter x)) (subst (λ (c : Script). Begins (seen_at v.seen (home_of v.charter x)) (seen_at w.seen (home_of c x))) (sym same) (grows (home_of v.charter x))) h;
}

answered_script : (v w : View) (who : Incarnation) (k : ℕ) (r : Acquire) → Answers v who k r w → w.charter ≡ v.charter
answered_script v w who k (answer.Granted x) t = ap (λ (u : View). u.charter) t.now
answered_script v w who k (answer.Held x) t = ap (λ (u : View). u.charter) t.now

pub acquired_stays : (z y : TableId) (v w : View) (n : ℕ) (who : Incarnation) (k : ℕ) (r : Acquire) → y ≡ z → Answers v who k r w → Stays (meaning_of z v n) (meaning_of y w n)
acquired_stays z y v w n who k r e t = stays z y v w n e (answered_script v w who k r t) (acquired_grows v w who k r t)

pub released_stays : (z y : TableId) (v w : View) (n k : ℕ) (l : List Fact) → y ≡ z → w ≡ freed (published v k l) k → Begins (seen_at v.seen k) l → Stays (meaning_of z v n) (meaning_of y w n)
released_stays z y v w n k l e is b = stays z y v w n e (ap (λ (u : View). u.charter) is) (released_grows v w k l is b)

-- what the calls of the table ask
not_some : (o : Option (List Fact)) → is_some o ≡ false → o ≡ None
not_some None e = refl
not_some (Some x) e = cc

then_no : (a b : Bool) → a ≡ true → (a && b) ≡ false → b ≡ false
then_no true b p e = e
then_no false b p e = cc

pub free_there : (z : TableId) (v : View) (n who : ℕ) (s : Slot) → who ≡ n → is_slot_of v.charter s ≡ true → (meaning_of z v n).holds who s ≡ false → at v.held (place_of v.charter.config s) ≡ None
free_there z v n who s is here h = not_some (at v.held (place_of v.charter.config s)) (then_no (is_slot_of v.charter s) _ here (then_no (eqb who n) _ (eq-eqb who n is) h))

pub may_act : (z : TableId) (v : View) (n : ℕ) (who : Incarnation) (s : Slot) → v.numbers ≡ n ∷ [] → Serves (meaning_of z v n) who s → MayAct v who (place_of v.charter.config s)
may_act z v n who s nums h = record {
  slot = place_within v.charter s h.slot_is;
  number = subst (λ (l : List ℕ). Has who.node l) (sym nums) (inl (sym (serves_is z v n who s h)));
  limit = h.number_is;
  admitted = subst (λ q. admits v.charter who.node q ≡ true) (sym (slot_back v.charter s h.slot_is)) h.admitted;
}

-- the list of a slot that a pass holds
pub record Held (v : View) (s : Slot) : Type 0 where
  pub list : List Fact
  pub is : at v.held (place_of v.charter.config s) ≡ Some list

held_in : (v : View) (s : Slot) (o : Option (List Fact)) → at v.held (place_of v.charter.config s) ≡ o → is_some o ≡ true → Held v s
held_in v s None e h = cc
held_in v s (Some l) e h = record { list = l; is = e }

pub held_there : (z : TableId) (v : View) (n who : ℕ) (s : Slot) → (meaning_of z v n).holds who s ≡ true → Held v s
held_there z v n who s h = held_in v s (at v.held (place_of v.charter.config s)) refl (and_both (is_slot_of v.charter s) (is_some (at v.held (place_of v.charter.config s))) (and_both (eqb who n) (is_slot_of v.charter s && is_some (at v.held (place_of v.charter.config s))) h).1).1

pub may_release : (z : TableId) (v : View) (n : ℕ) (who : Incarnation) (s : Slot) (x : Store) → Serves (meaning_of z v n) who s → Returns (meaning_of z v n) who s x → MayRelease v (place_of v.charter.config s) x
may_release z v n who s x serves r =
    let here : is_slot_of v.charter s ≡ true = serves.slot_is in
    let h = held_there z v n who.node s r.holds_is in
    let told_is : told_by v v.charter s ≡ h.list = told_here v s h.list here h.is in
    let at_is : s ≡ slot_at v.charter.config (place_of v.charter.config s) = sym (slot_back v.charter s here) in record {
      old = h.list;
      held = h.is;
      extends = subst (λ (l : List Fact). Begins l (entries_of x)) told_is r.extends;
      vouched = λ e p m k. ⊎_elim (λ a. inl (ap (confirms e p m) (sym told_is) ∙ a)) (λ b. inr b) (r.vouched e p m k);
      fit = subst (λ q. list_all (is_fit v.charter q) (entries_of x) ≡ true) at_is (sym (all_taken z v n s (entries_of x)) ∙ r.taken);
      leased = r.leased;
      script = r.script_is;
      slot = r.slot_is ∙ at_is;
      spare = r.spare_is;
    }

-- a list that extends what is told of a slot may be published
pub may_publish : (z : TableId) (v : View) (n who : ℕ) (s : Slot) (list : List Fact) → is_slot_of v.charter s ≡ true → (meaning_of z v n).holds who s ≡ true → Begins ((meaning_of z v n).told s) list → list_all (is_taken (meaning_of z v n) s) list ≡ true
    → IsVouched (meaning_of z v n) ((meaning_of z v n).told s) list → own v.charter s list ≡ true → MayPublish v (place_of v.charter.config s) list
may_publish z v n who s list here holds extends taken vouched lawful =
    let h = held_there z v n who s holds in
    let told_is : told_by v v.charter s ≡ h.list = told_here v s h.list here h.is in
    let at_is : s ≡ slot_at v.charter.config (place_of v.charter.config s) = sym (slot_back v.charter s here) in record {
      old = h.list;
      held = h.is;
      extends = subst (λ (l : List Fact). Begins l list) told_is extends;
      vouched = λ e p m k. ⊎_elim (λ a. inl (ap (confirms e p m) (sym told_is) ∙ a)) (λ b. inr b) (vouched e p m k);
      own = record {
        lawful = subst (λ q. own v.charter q list ≡ true) at_is lawful;
        fit = subst (λ q. list_all (is_fit v.charter q) list ≡ true) at_is (sym (all_taken z v n s list) ∙ taken);
      };
    }

-- who is served at a slot is served there after any call
pub serves_on : (old new : Meaning) (who : Incarnation) (s : Slot) → Stays old new → Serves old who s → Serves new who s
serves_on old new who s same h = record {
  who_is = same.serves_is who ∙ h.who_is;
  node_is = ap (λ c. is_node c who) same.script_is ∙ h.node_is;
  number_is = same.within_is who.number ∙ h.number_is;
  slot_is = ap (λ c. is_slot_of c s) same.script_is ∙ h.slot_is;
  admitted = same.admits_is who.node s ∙ h.admitted;
}

-- a pass that holds nothing serves its node, and holds nothing there
pub idle_serves : (z : TableId) (c : Script) (n : ℕ) (p : Pass) (who : Incarnation) (s : Slot) → Idle z c n p → who.node ≡ n → is_node c who ≡ true → is_within who.number ≡ true → is_slot_of c s ≡ true → admits c n s ≡ true → Serves (meaning_of p.table p.view n) who s
idle_serves z c n p who s idle is node number here may = record {
  who_is = number_itself who.node n is;
  node_is = ap (λ y. is_node y who) idle.charter ∙ node;
  number_is = number;
  slot_is = ap (λ y. is_slot_of y s) idle.charter ∙ here;
  admitted = ap (λ y. admits y who.node s) idle.charter ∙ ap (λ m. admits c m s) is ∙ may;
}

pub idle_free : (z : TableId) (c : Script) (n m : ℕ) (p : Pass) (s : Slot) → Idle z c n p → (meaning_of p.table p.view n).holds m s ≡ false
idle_free z c n m p s idle = none (eqb m n) (is_slot_of p.view.charter s) (at p.view.held (place_of p.view.charter.config s)) (idle.nothing (place_of p.view.charter.config s))
  where
    none : (a b : Bool) (o : Option (List Fact)) → o ≡ None → (a && (b && is_some o)) ≡ false
    none a b None e = ap (λ x. a && x) (and_false b) ∙ and_false a
    none a b (Some l) e = cc

-- whatever a caller did by the calls alone, the pass is of the same table, script and node
pub same_pass : (z y : TableId) (v w : View) (n m : ℕ) → Stays (meaning_of z v n) (meaning_of y w m) → (y ≡ z) × (w.charter ≡ v.charter) × (m ≡ n)
same_pass z y v w n m h = (name_same z y h.name_is, h.script_is, sym (same_number n m (h.serves_is (record { node = n; number = 0 }) ∙ eq-eqb n n refl)))
