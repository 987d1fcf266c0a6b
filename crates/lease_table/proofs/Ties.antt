-- The tie: what was seen of a slot becomes the longest of what was seen and of what joins brought.
use Rattle.lease_table.specs.Fits.{slot_count}
use Rattle.std.proofs.lemmas.List.{get_or-set_same, get_or-set_other}
use Rattle.std.proofs.Common.{◌≡◌, ◌≢◌, ℕ, zero, suc, ◌<◌, ◌≤◌, inl, inr, ⊎_elim, Bool, true, false, List, [], ◌∷◌, length, set, refl, sym, ap, ◌∙◌, subst, arith}
use Rattle.std.proofs.lemmas.List.{set-get_or}
use Rattle.std.proofs.lemmas.Bool.Decides.{nat_tests}
use Rattle.std.specs.Prelude.{nat_lt, if◌then◌else◌}
use mathlib.Core.Option as maybe
use Rattle.atomic_table.specs.Table.{step, keeps, Allows}
use Rattle.yard_model.specs.Script.{Script}
use Rattle.yard_model.specs.declared.fact.Fact.{Fact}
use Rattle.shard_lease.specs.Meaning.{Begins}
use Rattle.lease_table.specs.declared.View.{View}
use Rattle.lease_table.specs.Lists.{seen_at, Has}
use Rattle.std.specs.Prelude.{slice_set}
use Rattle.lease_table.specs.Rule.{IsView, IsTable}
use Rattle.lease_table.specs.Tells.{SeatState, longest, tied, Tied}
use Rattle.lease_table.proofs.Places.{begins_here, begins_on, begins_length, begins_both}
use Rattle.lease_table.proofs.Changes.{at_state, Same, changes, own_view}

abbrev pub longer : List Fact → List Fact → List Fact
longer l y = if nat_lt (length l) (length y) then y else l

abbrev by : Bool → List Fact → List Fact → List Fact
by b l y = if b then y else l

record Picked (l y h p : List Fact) : Type 0 where
  pub first : Begins l p
  pub second : Begins y p
  pub whole : Begins p h

picked_by : (b : Bool) (l y h : List Fact) → nat_lt (length l) (length y) ≡ b → Begins l h → Begins y h → Picked l y h (by b l y)
picked_by true l y h e p q = let n : length l < length y = grind (arith, nat_tests) in record { first = begins_both l y h p q (omega arith); second = begins_here y; whole = q }
picked_by false l y h e p q = let n : length y ≤ length l = grind (arith, nat_tests) in record { first = begins_here l; second = begins_both y l h q p n; whole = p }

picked : (l y h : List Fact) → Begins l h → Begins y h → Picked l y h (longer l y)
picked l y h p q = picked_by (nat_lt (length l) (length y)) l y h refl p q

pub record Longest (l : List Fact) (ys : List (List Fact)) (h p : List Fact) : Type 0 where
  pub first : Begins l p
  pub each : (y : List Fact) → Has y ys → Begins y p
  pub whole : Begins p h

pub is_longest : (l : List Fact) (ys : List (List Fact)) (h : List Fact) → Begins l h → ((y : List Fact) → Has y ys → Begins y h) → Longest l ys h (longest l ys)
is_longest l [] h p q = record { first = begins_here l; each = λ y e. elim e [ ]; whole = p }
is_longest l (y ∷ ys) h p q =
    let a = picked l y h p (q y (inl refl)) in let r = is_longest (longer l y) ys h a.whole (λ z e. q z (inr e)) in record {
      first = begins_on l (longer l y) (longest (longer l y) ys) a.first r.first;
      each = λ z e. ⊎_elim (λ (is : y ≡ z). subst (λ (x : List Fact). Begins x (longest (longer l y) ys)) is (begins_on y (longer l y) (longest (longer l y) ys) a.second r.first)) (λ t. r.each z t) e;
      whole = r.whole;
    }

stays_by : (b : Bool) (l y : List Fact) → nat_lt (length l) (length y) ≡ b → length y ≤ length l → by b l y ≡ l
stays_by true l y e h = let n : length l < length y = grind (arith, nat_tests) in absurd (omega arith)
stays_by false l y e h = refl

pub longest_whole : (l : List Fact) (ys : List (List Fact)) → ((y : List Fact) → Has y ys → Begins y l) → longest l ys ≡ l
longest_whole l [] q = refl
longest_whole l (y ∷ ys) q = ap (λ (x : List Fact). longest x ys) (stays_by (nat_lt (length l) (length y)) l y refl (begins_length y l (q y (inl refl)))) ∙ longest_whole l ys (λ z e. q z (inr e))

fewer : (os : List (List (List Fact))) (k j : ℕ) (y : List Fact) → Has y (seen_at (slice_set os k []) j) → Has y (seen_at os j)
fewer [] k j y h = h
fewer (o ∷ os) zero zero y h = elim h [ ]
fewer (o ∷ os) zero (suc j) y h = h
fewer (o ∷ os) (suc k) zero y h = h
fewer (o ∷ os) (suc k) (suc j) y h = fewer os k j y h

abbrev Told : SeatState → View → ℕ → Type 0
Told m w z = let n : SeatState = (w, m.1) in let t : SeatState = (tied m.0 z, m.1) in (n ≡ t) × Begins (seen_at m.0.seen z) (longest (seen_at m.0.seen z) (seen_at m.0.olds z)) × ((y : List Fact) → Has y (seen_at m.0.olds z) → Begins y (longest (seen_at m.0.seen z) (seen_at m.0.olds z)))

pub ties : (c : Script) (slots id : ℕ) (m : SeatState) (k : ℕ) → slots ≡ slot_count c → k < slot_count c → length m.0.seen ≡ slot_count c → Allows (IsTable c) slots id m k (λ n. n) (Tied (step slots k 0 0 maybe.none) m)
ties c slots id m k is lt seens s r wide here _ =
    let me = r.views id m.0 here in let w : View = tied m.0 k in
    let old : List Fact = seen_at m.0.seen k in let os : List (List Fact) = seen_at m.0.olds k in let l = is_longest old os (r.hist k) (me.seen k lt) (me.olds k lt) in
    let same : (j : ℕ) → j < slot_count c → j ≢ k → Same c s s.words s.homes r.hist r.hist j = λ j lj n. record { owner = refl; head = refl; home = refl; hist = refl } in
    let same' : (j : ℕ) → j < slot_count c → j ≢ (slot_count c) → Same c s s.words s.homes r.hist r.hist j = λ j lj n. record { owner = refl; head = refl; home = refl; hist = refl } in
    let grows : (j : ℕ) → j < slot_count c → Begins (r.hist j) (r.hist j) = λ j _. begins_here (r.hist j) in
    let no_slot : slot_count c < slot_count c → ⊥ = λ (h : slot_count c < slot_count c). omega arith in
    let seen_now : seen_at w.seen k ≡ longest old os = get_or-set_same m.0.seen k (longest old os) [] (omega arith) in
    let view : IsView c (at_state s.words s.homes (set s.views id w)) r.hist r.seat id w =
    own_view c s id m.0 w k s.words s.homes r.hist r.hist r.seat me refl refl refl (λ j n. refl) (λ j n. get_or-set_other m.0.seen k j (longest old os) [] n) (λ j y h. fewer m.0.olds k j y h) same grows
    (λ x e. let o = me.held k x e in record {
      inside = o.inside;
      leased = o.leased;
      mine = o.mine;
      whole = o.whole;
      seen = seen_now ∙ longest_whole old os (λ y h. subst (λ (z : List Fact). Begins y z) (sym o.seen) (me.olds k lt y h)) ∙ o.seen;
    })
    (λ _. subst (λ (z : List Fact). Begins z (r.hist k)) (sym seen_now) l.whole) in (
      w,
      keeps,
      tt,
      subst (λ (ws : List ℕ). IsTable c (at_state ws s.homes (set s.views id w))) (sym (set-get_or s.words k 0))
          (changes c s r id m.0 w (slot_count c) s.words s.homes r.hist here r.wide same' refl (λ j _. refl) grows (λ h. absurd (no_slot h)) (λ h. absurd (no_slot h)) view r.confirmed),
      (refl, l.first, l.each),
    )
