-- What a pass keeps where it takes a slot, and what an acquire answers.
use Rattle.std.proofs.Common.{◌≡◌, ◌≢◌, ℕ, zero, suc, ◌+◌, ◌-◌, ◌<◌, ◌≤◌, ⊎_elim, true, ◌&&◌, List, [], ◌∷◌, ◌++◌, length, take, drop, refl, sym, ap, ◌∙◌, subst, arith, eqb, eq-eqb}
use Rattle.std.proofs.lemmas.List.{get_or-set_same, get_or-set_other, length-set}
use Rattle.std.proofs.Math.Seq.{drop-append_seam, take-append_seam}
use Rattle.std.specs.Prelude.{Option, None, Some, is_some}
use Rattle.std.specs.List.{list_any, list_all}
use Rattle.std.proofs.lemmas.List.Folds.{list_all-append}
use Rattle.plain_laws.proofs.Booleans.{both, left_of, right_of}
use Rattle.plain_laws.proofs.Lists.{some_is}
use Rattle.yard_model.specs.declared.incarnation.Slot.{Slot}
use Rattle.yard_model.specs.Lawful.{own}
use Rattle.atomic_table.specs.Table.{rest}
use Rattle.yard_model.specs.Script.{Script}
use Rattle.yard_model.specs.declared.incarnation.Incarnation.{Incarnation}
use Rattle.yard_model.specs.declared.fact.Fact.{Fact}
use Rattle.yard_model.specs.declared.fact.Fact.TheVariants as fact
use Rattle.shard_store.specs.declared.store.Store.{Store}
use Rattle.lease_table.specs.Fits.{slot_count, is_within, is_fit, admits, Fits}
use Rattle.shard_lease.specs.Meaning.{Begins}
use Rattle.yard_model.specs.SlotReads.{epoch}
use Rattle.shard_store.specs.Stores.{script_of, slot_of, entries_of, spare_of, slot_at}
use Rattle.lease_table.specs.declared.View.{View}
use Rattle.lease_table.specs.Lists.{seen_at, Has}
use Rattle.yard_model.specs.Words.{at}
use Rattle.std.specs.Prelude.{slice_set}
use Rattle.lease_table.specs.Tells.{SeatState, won, published, Won}
use Rattle.lease_table.specs.Leasing.{counted, IsPass, MayAct, Took}
use Rattle.lease_table.proofs.Places.{same_or_not}

pub front : (m : SeatState) (w : View) (y : ℕ × Option Store) (cs : List (ℕ × Option Store)) → m ≡ (w, y ∷ cs) → m.1 ≡ y ∷ rest m.1
front m w y cs e = let a : m.1 ≡ y ∷ cs = ap (λ (x : SeatState). x.1) e in a ∙ ap (λ (l : List (ℕ × Option Store)). y ∷ l) (sym (ap (λ (l : List (ℕ × Option Store)). rest l) a))

pub counted-le : (l : List (Option (List Fact))) → counted l ≤ length l
counted-le [] = omega arith
counted-le (None ∷ xs) = let h = counted-le xs in omega arith
counted-le (Some x ∷ xs) = let h = counted-le xs in omega arith

pub counted_room : (l : List (Option (List Fact))) (k : ℕ) → k < length l → at l k ≡ None → counted l < length l
counted_room [] k lt e = absurd (omega arith)
counted_room (None ∷ xs) zero lt e = let h = counted-le xs in omega arith
counted_room (Some x ∷ xs) zero lt e = cc
counted_room (None ∷ xs) (suc k) lt e = let h = counted_room xs k (omega arith) e in omega arith
counted_room (Some x ∷ xs) (suc k) lt e = let h = counted_room xs k (omega arith) e in omega arith

pub counted_put : (l : List (Option (List Fact))) (k : ℕ) (h : List Fact) → k < length l → at l k ≡ None → counted (slice_set l k (Some h)) ≡ suc (counted l)
counted_put [] k h lt e = absurd (omega arith)
counted_put (None ∷ xs) zero h lt e = refl
counted_put (Some x ∷ xs) zero h lt e = cc
counted_put (None ∷ xs) (suc k) h lt e = counted_put xs k h (omega arith) e
counted_put (Some x ∷ xs) (suc k) h lt e = ap suc (counted_put xs k h (omega arith) e)

pub rotated : (xs : List ℕ) (k n : ℕ) → n ≡ length xs → drop n (xs ++ k ∷ []) ++ take n (xs ++ k ∷ []) ≡ k ∷ xs
rotated xs k n e = subst (λ (i : ℕ). drop i (xs ++ k ∷ []) ++ take i (xs ++ k ∷ []) ≡ k ∷ xs) (sym e) (ap (λ (l : List ℕ). l ++ take (length xs) (xs ++ k ∷ [])) (drop-append_seam xs (k ∷ [])) ∙ ap (λ (l : List ℕ). k ∷ l) (take-append_seam xs (k ∷ [])))

pub took_ok : (c : Script) (m n : SeatState) (order now : List ℕ) (room room' k : ℕ) (h : List Fact) → IsPass c m order room → n ≡ (won m.0 k h, (k, None) ∷ m.1) → now ≡ k ∷ order → room' ≡ room → k < slot_count c → at m.0.held k ≡ None → IsPass c n now room'
took_ok c m n order now room room' k h ok is is_now same lt none =
    let inside : k < length m.0.held = let e : length m.0.held ≡ slot_count c = ok.helds in omega arith in
    subst (λ (y : SeatState). IsPass c y now room') (sym is) (subst (λ (y : List ℕ). IsPass c (won m.0 k h, (k, None) ∷ m.1) y room') (sym is_now) record {
      carried = ap (λ (l : List (ℕ × Option Store)). (k, None) ∷ l) ok.carried;
      charter = ok.charter;
      live = ok.live;
      helds = length-set m.0.held k (Some h) ∙ ok.helds;
      seens = length-set m.0.seen k h ∙ ok.seens;
      oldss = ok.oldss;
      listed = λ j e. ⊎_elim (λ (p : j ≡ k). left_of (eqb j k) (list_any (eqb j) order) (eq-eqb j k p))
          (λ (p : j ≢ k). right_of (eqb j k) (list_any (eqb j) order) (ok.listed j (ap (λ (o : Option (List Fact)). is_some o) (sym (get_or-set_other m.0.held k j (Some h) None p)) ∙ e))) (same_or_not j k);
      count = ap suc ok.count ∙ sym (counted_put m.0.held k h inside none);
      room = let e : slot_count c ≤ room = ok.room in omega arith;
    })

-- the lists is fit with a grant to an admitted node more
pub fit_granted : (c : Script) (s : Slot) (h : List Fact) (n : ℕ) (who : Incarnation) → list_all (is_fit c s) h ≡ true → admits c who.node s ≡ true → is_within who.number ≡ true → list_all (is_fit c s) (h ++ fact.Granted s n who ∷ []) ≡ true
fit_granted c s h n who fit may le = list_all-append (is_fit c s) h (fact.Granted s n who ∷ []) ∙ both (list_all (is_fit c s) h) ((admits c who.node s && is_within who.number) && true) fit
    (both (admits c who.node s && is_within who.number) true (both (admits c who.node s) (is_within who.number) may le) refl)

-- what lies in front of those that are out
abbrev pub first_out : List (ℕ × Option Store) → Option Store
first_out [] = None
first_out (x ∷ xs) = x.1

-- x is the store as it was taken out, y the one that is handed out
pub took : (v u : View) (cs : List (ℕ × Option Store)) (who : Incarnation) (k e : ℕ) (m n : SeatState) (x y : Store) → u ≡ v → Won u cs k m → MayAct v who k → n.0 ≡ m.0 → k < length u.held → m.1 ≡ (k, Some x) ∷ rest m.1
    → e ≡ epoch (entries_of x) + 1 → (entries_of y) ≡ (entries_of x) ++ fact.Granted (slot_of x) e who ∷ [] → (spare_of y) ≡ (spare_of x) - 1 → script_of y ≡ script_of x → slot_of y ≡ slot_of x → own (script_of y) (slot_of y) (entries_of y) ≡ true → Took v who k y n.0
took v u cs who k e m n x y same w may is inside out number log spare script slot lawful =
    let h : List Fact = w.hist in let s : Slot = slot_at v.charter.config k in
    let st : w.store ≡ x = some_is w.store x (ap (λ (l : List (ℕ × Option Store)). (first_out l)) (sym (ap (λ (z : SeatState). z.1) w.now) ∙ out)) in
    let xlog : (entries_of x) ≡ h = ap (λ (z : Store). (entries_of z)) (sym st) ∙ w.rests.log in
    let xslot : slot_of x ≡ s = ap slot_of (sym st) ∙ w.rests.slot ∙ ap (λ (z : View). slot_at z.charter.config k) same in
    let xscript : script_of x ≡ v.charter = ap script_of (sym st) ∙ w.rests.script ∙ ap (λ (z : View). z.charter) same in
    let ylog : (entries_of y) ≡ h ++ fact.Granted s (epoch h + 1) who ∷ [] =
    log ∙ ap (λ (t : Slot). (entries_of x) ++ fact.Granted t e who ∷ []) xslot ∙ ap (λ (z : ℕ). (entries_of x) ++ fact.Granted s z who ∷ []) number ∙ ap (λ (l : List Fact). l ++ fact.Granted s (epoch l + 1) who ∷ []) xlog in
    let yscript : script_of y ≡ v.charter = script ∙ xscript in let yslot : slot_of y ≡ s = slot ∙ xslot in
    let old : Fits v.charter k h = subst (λ (z : View). Fits z.charter k h) same w.own in
    record {
      hist = h;
      now = is ∙ ap (λ (z : SeatState). z.0) w.now ∙ ap (λ (z : View). won z k h) same;
      held = ap (λ (z : View). at z.held k) (is ∙ ap (λ (z : SeatState). z.0) w.now) ∙ get_or-set_same u.held k (Some h) None inside;
      seen = subst (λ (z : View). Begins (seen_at z.seen k) h) same w.seen;
      olds = subst (λ (z : View). (y : List Fact) → Has y (seen_at z.olds k) → Begins y h) same w.olds;
      closed = w.rests.closed;
      log = ylog;
      spare = let a : 100 ≤ (spare_of w.store) = w.rests.spare in let b : (spare_of w.store) ≡ (spare_of x) = ap spare_of st in omega arith;
      script = yscript;
      slot = yslot;
      own = record {
        lawful = subst (λ (z : Script × Slot). own z.0 z.1 (entries_of y) ≡ true) (λ i. (yscript i, yslot i)) lawful;
        fit = subst (λ (l : List Fact). list_all (is_fit v.charter s) l ≡ true) (sym ylog) (fit_granted v.charter s h (epoch h + 1) who old.fit may.admitted may.limit);
      };
    }

pub counted_put_again : (l : List (Option (List Fact))) (k : ℕ) (h old : List Fact) → at l k ≡ Some old → counted (slice_set l k (Some h)) ≡ counted l
counted_put_again [] k h old e = refl
counted_put_again (None ∷ xs) zero h old e = cc
counted_put_again (Some x ∷ xs) zero h old e = refl
counted_put_again (None ∷ xs) (suc k) h old e = counted_put_again xs k h old e
counted_put_again (Some x ∷ xs) (suc k) h old e = ap suc (counted_put_again xs k h old e)

pub announced_ok : (c : Script) (m n : SeatState) (order : List ℕ) (room k : ℕ) (old h : List Fact) → IsPass c m order room → n ≡ (published m.0 k h, m.1) → at m.0.held k ≡ Some old → IsPass c n order room
announced_ok c m n order room k old h ok is has = subst (λ (y : SeatState). IsPass c y order room) (sym is) record {
  carried = ok.carried;
  charter = ok.charter;
  live = ok.live;
  helds = length-set m.0.held k (Some h) ∙ ok.helds;
  seens = length-set m.0.seen k h ∙ ok.seens;
  oldss = ok.oldss;
  listed = λ j e. ⊎_elim (λ (p : j ≡ k). subst (λ (y : ℕ). list_any (eqb y) order ≡ true) (sym p) (ok.listed k (ap (λ (o : Option (List Fact)). is_some o) has)))
      (λ (p : j ≢ k). ok.listed j (ap (λ (o : Option (List Fact)). is_some o) (sym (get_or-set_other m.0.held k j (Some h) None p)) ∙ e)) (same_or_not j k);
  count = ok.count ∙ sym (counted_put_again m.0.held k h old has);
  room = ok.room;
}
