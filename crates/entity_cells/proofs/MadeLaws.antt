-- Cells that are made where they are first spoken of.
use Rattle.std.proofs.Common.{◌≡◌, ◌≢◌, ℕ, zero, suc, ◌+◌, ◌*◌, ◌<◌, ◌≤◌, List, [], ◌∷◌, ◌++◌, length, replicate, sym, ap, subst, ◌∙◌, refl, arith, length-append, get_or-set_same, get_or-set_other}
use Rattle.std.specs.Prelude.{Bool, true, false, ◌==◌, fold, slice_set, slice_index_or, if◌then◌else◌}
use Rattle.std.proofs.Math.Seq.{get_or-append_seam}
use Rattle.std.proofs.lemmas.List.{length-set, length-replicate, set-get_or, get_or_append_left, get_or_default, get_or-replicate, same_lists}
use Rattle.plain_laws.proofs.Booleans.{get_replicate, same_number, other_number}
use Rattle.yard_model.specs.declared.fact.Fact.TheVariants as fact
use Rattle.yard_model.specs.declared.incarnation.Incarnation.{Incarnation}
use Rattle.yard_model.specs.declared.event.Event.{Event}
use Rattle.yard_model.specs.declared.packet.Message.{Message}
use Rattle.yard_model.specs.declared.state.State.{State}
use Rattle.yard_model.specs.Behaviour.{apply}
use Rattle.yard_model.specs.Move.{Move, told}
use Rattle.envelope_pool.specs.Keyed.{Keyed}
use Rattle.entity_cells.specs.Celled.{Celled, celled, celled_after, celled_at, all_stashing, AreStashed, all_made, unmade, AreMade, IsSlot}
use Rattle.entity_cells.proofs.Keeping.{Keeps}
use Rattle.entity_cells.proofs.StashLaws.{inside_cells, kept_stashed, one_moved, seen_at, state_put, active_put, clear_put}

-- The list of all.

pub length_made : (slots : List ℕ) (made : List Celled) → length (all_made slots made) ≡ length slots
length_made [] made = refl
length_made (k ∷ slots) made = ap suc (length_made slots made)

pub at_made : (slots : List ℕ) (made : List Celled) (i : ℕ) (d : Celled) → i < length slots → slice_index_or (all_made slots made) i d ≡ celled_at made (slice_index_or slots i 0)
at_made [] made i d h = absurd (omega arith)
at_made (k ∷ slots) made zero d h = refl
at_made (k ∷ slots) made (suc i) d h = at_made slots made i d (omega arith)

-- it is another where it is another at each place
same_made : (slots : List ℕ) (made : List Celled) (ys : List Celled) → length ys ≡ length slots → ((i : ℕ) (d : Celled) → i < length slots → celled_at made (slice_index_or slots i 0) ≡ slice_index_or ys i d) → all_made slots made ≡ ys
same_made slots made ys long each =
    same_lists (all_made slots made) ys (length_made slots made ∙ sym long)
    (λ i d h. let inside : i < length slots = subst (λ n. i < n) (length_made slots made) h in at_made slots made i d inside ∙ each i d inside)

-- A cell is put.

pub put_made : {slots : List ℕ} {made : List Celled} {room i k : ℕ} (x : Celled) → AreMade slots made room → IsSlot slots made i k → all_made slots (slice_set made k x) ≡ slice_set (all_made slots made) i x
put_made {slots} {made} {room} {i} {k} x m s =
    same_made slots (slice_set made k x) (slice_set (all_made slots made) i x) (length-set (all_made slots made) i x ∙ length_made slots made) (λ j d h. by j d h (j == i) refl)
  where
    by : (j : ℕ) (d : Celled) → j < length slots → (b : Bool) → (j == i) ≡ b → celled_at (slice_set made k x) (slice_index_or slots j 0) ≡ slice_index_or (slice_set (all_made slots made) i x) j d
    by j d h true e =
        let here : j ≡ i = same_number j i e in
        let it : slice_index_or slots j 0 ≡ k = ap (λ n. slice_index_or slots n 0) here ∙ s.it in
        let there : i < length (all_made slots made) = subst (λ n. i < n) (sym (length_made slots made)) s.inside in
        ap (celled_at (slice_set made k x)) it ∙ (get_or-set_same made k x (celled 0 0) s.within ∙ sym (ap (λ n. slice_index_or (slice_set (all_made slots made) i x) n d) here ∙ get_or-set_same (all_made slots made) i x d there))
    by j d h false e =
        let other : j ≢ i = other_number j i e in
        let apart : slice_index_or slots j 0 ≢ k = λ same. let none : slice_index_or slots j 0 ≡ 0 = m.apart j i h s.inside other (same ∙ sym s.it) in absurd (omega (arith, none, same, s.some)) in
        get_or-set_other made k (slice_index_or slots j 0) x (celled 0 0) apart ∙ (sym (at_made slots made j d h) ∙ sym (get_or-set_other (all_made slots made) i j x d other))

pub made_put : {slots : List ℕ} {made : List Celled} {room i k : ℕ} (x : Celled) → AreMade slots made room → IsSlot slots made i k → AreMade slots (slice_set made k x) room
made_put {slots} {made} {room} {i} {k} x m s = record {
  some = subst (λ n. 0 < n) (sym (length-set made k x)) m.some;
  blank = subst (λ (y : Celled). y ≡ celled (length y.cell.reach) 0) (sym first) m.blank;
  within = λ j h. subst (λ n. slice_index_or slots j 0 < n) (sym (length-set made k x)) (m.within j h);
  apart = m.apart;
  left = subst (λ n. n + unmade slots ≤ length slots + 1) (sym (length-set made k x)) m.left;
  room_is = m.room_is;
}
  where
    first : celled_at (slice_set made k x) 0 ≡ celled_at made 0
    first = get_or-set_other made k 0 x (celled 0 0) (λ e. absurd (omega (arith, e, s.some)))

-- A cell more.

unmade_some : (slots : List ℕ) (i : ℕ) → i < length slots → slice_index_or slots i 0 ≡ 0 → 0 < unmade slots
unmade_some [] i h none = absurd (omega arith)
unmade_some (k ∷ slots) zero h none = subst (λ n. 0 < unmade slots + (if n == 0 then 1 else 0)) (sym none) (omega arith)
unmade_some (k ∷ slots) (suc i) h none = let rest : 0 < unmade slots = unmade_some slots i (omega arith) none in omega (arith, rest)

unmade_less : (slots : List ℕ) (i n : ℕ) → i < length slots → slice_index_or slots i 0 ≡ 0 → 0 < n → unmade (slice_set slots i n) + 1 ≡ unmade slots
unmade_less [] i n h none some = absurd (omega arith)
unmade_less (k ∷ slots) zero n h none some = by (n == 0) refl
  where
    by : (b : Bool) → (n == 0) ≡ b → unmade slots + (if b then 1 else 0) + 1 ≡ unmade slots + (if k == 0 then 1 else 0)
    by true e = let zero_is : n ≡ 0 = same_number n 0 e in absurd (omega (arith, zero_is, some))
    by false e = subst (λ m. unmade slots + 0 + 1 ≡ unmade slots + (if m == 0 then 1 else 0)) (sym none) (omega arith)
unmade_less (k ∷ slots) (suc i) n h none some = let rest : unmade (slice_set slots i n) + 1 ≡ unmade slots = unmade_less slots i n (omega arith) none some in omega (arith, rest)

pub made_few : {slots : List ℕ} {made : List Celled} {room i : ℕ} → AreMade slots made room → i < length slots → slice_index_or slots i 0 ≡ 0 → length made ≤ length slots
made_few {slots} {made} {room} {i} m inside none = let some : 0 < unmade slots = unmade_some slots i inside none in omega (arith, m.left, some)

pub grown : {slots new_slots : List ℕ} {made new : List Celled} {room more i n : ℕ} (x : Celled) → AreMade slots made room → i < length slots → slice_index_or slots i 0 ≡ 0 → n ≡ length made → new ≡ made ++ x ∷ [] → new_slots ≡ slice_set slots i n → room ≤ more → AreMade new_slots new more
grown {slots} {new_slots} {made} {new} {room} {more} {i} {n} x m inside none count push set enough =
    subst (λ (l : List ℕ). AreMade l new more) (sym set) (subst (λ (l : List Celled). AreMade (slice_set slots i n) l more) (sym push) record {
      some = omega (arith, long);
      blank = subst (λ (y : Celled). y ≡ celled (length y.cell.reach) 0) (sym (get_or_append_left made (x ∷ []) (celled 0 0) 0 m.some)) m.blank;
      within = λ j h. by j (subst (λ l. j < l) (length-set slots i n) h) (j == i) refl;
      apart = λ j k h g. apart j k (subst (λ l. j < l) (length-set slots i n) h) (subst (λ l. k < l) (length-set slots i n) g) (j == i) refl (k == i) refl;
      left = let less : unmade (slice_set slots i n) + 1 ≡ unmade slots = unmade_less slots i n inside none (omega (arith, count, m.some)) in omega (arith, m.left, less, long, length-set slots i n);
      room_is = omega (arith, m.room_is, enough, length-set slots i n);
    })
  where
    long : length (made ++ x ∷ []) ≡ length made + 1
    long = length-append made (x ∷ [])

    by : (j : ℕ) → j < length slots → (b : Bool) → (j == i) ≡ b → slice_index_or (slice_set slots i n) j 0 < length (made ++ x ∷ [])
    by j h true e = let it : slice_index_or (slice_set slots i n) j 0 ≡ n = ap (λ k. slice_index_or (slice_set slots i n) k 0) (same_number j i e) ∙ get_or-set_same slots i n 0 inside in omega (arith, it, count, long)
    by j h false e = let it : slice_index_or (slice_set slots i n) j 0 ≡ slice_index_or slots j 0 = get_or-set_other slots i j n 0 (other_number j i e) in let old : slice_index_or slots j 0 < length made = m.within j h in omega (arith, it, old, long)

    own : (j : ℕ) → (j == i) ≡ true → slice_index_or (slice_set slots i n) j 0 ≡ n
    own j e = ap (λ k. slice_index_or (slice_set slots i n) k 0) (same_number j i e) ∙ get_or-set_same slots i n 0 inside

    others : (j : ℕ) → (j == i) ≡ false → slice_index_or (slice_set slots i n) j 0 ≡ slice_index_or slots j 0
    others j e = get_or-set_other slots i j n 0 (other_number j i e)

    apart : (j k : ℕ) → j < length slots → k < length slots → (b : Bool) → (j == i) ≡ b → (c : Bool) → (k == i) ≡ c → j ≢ k → slice_index_or (slice_set slots i n) j 0 ≡ slice_index_or (slice_set slots i n) k 0 → slice_index_or (slice_set slots i n) j 0 ≡ 0
    apart j k h g true e true f differ same = absurd (differ (same_number j i e ∙ sym (same_number k i f)))
    apart j k h g true e false f differ same = let below : slice_index_or slots k 0 < length made = m.within k g in absurd (omega (arith, own j e, others k f, same, count, below))
    apart j k h g false e true f differ same = let below : slice_index_or slots j 0 < length made = m.within j h in absurd (omega (arith, others j e, own k f, same, count, below))
    apart j k h g false e false f differ same = others j e ∙ m.apart j k h g differ (sym (others j e) ∙ (same ∙ others k f))

pub grown_seen : {slots new_slots : List ℕ} {made new : List Celled} {room i n : ℕ} {x b : Celled} → AreMade slots made room → i < length slots → slice_index_or slots i 0 ≡ 0 → n ≡ length made → b ≡ slice_index_or made 0 b → x ≡ celled (length b.cell.reach) 0 → new ≡ made ++ x ∷ [] → new_slots ≡ slice_set slots i n
    → all_made new_slots new ≡ all_made slots made
grown_seen {slots} {new_slots} {made} {new} {room} {i} {n} {x} {b} m inside none count read is push set =
    ap (λ (l : List ℕ). all_made l new) set ∙ (ap (all_made (slice_set slots i n)) push
    ∙ same_made (slice_set slots i n) (made ++ x ∷ []) (all_made slots made) (length_made slots made ∙ sym (length-set slots i n)) (λ j d h. by j d (subst (λ l. j < l) (length-set slots i n) h) (j == i) refl))
  where
    first : celled_at made 0 ≡ b
    first = get_or_default made 0 (celled 0 0) b m.some ∙ sym read

    new_is : x ≡ celled_at made 0
    new_is = is ∙ (ap (λ (y : Celled). celled (length y.cell.reach) 0) (sym first) ∙ sym m.blank)

    by : (j : ℕ) (d : Celled) → j < length slots → (t : Bool) → (j == i) ≡ t → celled_at (made ++ x ∷ []) (slice_index_or (slice_set slots i n) j 0) ≡ slice_index_or (all_made slots made) j d
    by j d h true e =
        let here : j ≡ i = same_number j i e in
        let it : slice_index_or (slice_set slots i n) j 0 ≡ length made = ap (λ k. slice_index_or (slice_set slots i n) k 0) here ∙ (get_or-set_same slots i n 0 inside ∙ count) in
        let was : slice_index_or slots j 0 ≡ 0 = ap (λ k. slice_index_or slots k 0) here ∙ none in
        ap (celled_at (made ++ x ∷ [])) it ∙ (get_or-append_seam made x [] (celled 0 0) ∙ (new_is ∙ sym (at_made slots made j d h ∙ ap (celled_at made) was)))
    by j d h false e =
        ap (celled_at (made ++ x ∷ [])) (get_or-set_other slots i j n 0 (other_number j i e))
        ∙ (get_or_append_left made (x ∷ []) (celled 0 0) (slice_index_or slots j 0) (m.within j h) ∙ sym (at_made slots made j d h))

pub grown_slot : {slots new_slots : List ℕ} {made new : List Celled} {room i n : ℕ} (x : Celled) → AreMade slots made room → i < length slots → n ≡ length made → new ≡ made ++ x ∷ [] → new_slots ≡ slice_set slots i n → IsSlot new_slots new i n
grown_slot {slots} {new_slots} {made} {new} {room} {i} {n} x m inside count push set = record {
  inside = subst (λ l. i < l) (sym (ap length set ∙ length-set slots i n)) inside;
  it = ap (λ l. slice_index_or l i 0) set ∙ get_or-set_same slots i n 0 inside;
  some = omega (arith, count, m.some);
  within = let long : length new ≡ length made + 1 = ap length push ∙ length-append made (x ∷ []) in omega (arith, long, count);
}

-- None is made yet.

pub none_made : (n : ℕ) (made : List Celled) (x : Celled) → made ≡ x ∷ [] → all_made (replicate n 0) made ≡ replicate n x
none_made zero made x is = refl
none_made (suc n) made x is = ap (λ y. y ∷ all_made (replicate n 0) made) (ap (λ l. celled_at l 0) is) ∙ ap (λ l. x ∷ l) (none_made n made x is)

unmade_all : (n : ℕ) → unmade (replicate n 0) ≡ n
unmade_all zero = refl
unmade_all (suc n) = let rest : unmade (replicate n 0) ≡ n = unmade_all n in omega (arith, rest)

pub fresh_made : {slots : List ℕ} {made : List Celled} {room : ℕ} (n p : ℕ) → slots ≡ replicate n 0 → made ≡ celled p 0 ∷ [] → n + 1 ≤ room → AreMade slots made room
fresh_made {slots} {made} {room} n p none is enough = subst (λ (l : List ℕ). AreMade l made room) (sym none) (subst (λ (l : List Celled). AreMade (replicate n 0) l room) (sym is) record {
  some = omega arith;
  blank = ap (λ k. celled k 0) (sym reaches);
  within = λ i h. omega (arith, zeros i h);
  apart = λ i j h g differ same. zeros i h;
  left = omega (arith, unmade_all n, long);
  room_is = omega (arith, long, enough);
})
  where
    reaches : length {A = ℕ} (replicate p 0) ≡ p
    reaches = length-replicate p 0

    long : length {A = ℕ} (replicate n 0) ≡ n
    long = length-replicate n 0

    zeros : (i : ℕ) → i < length {A = ℕ} (replicate n 0) → slice_index_or {A = ℕ} (replicate n 0) i 0 ≡ 0
    zeros i h = get_or-replicate n i 0 0 (subst (λ l. i < l) long h)

-- What the methods say.

pub inside_slots : (w : ℕ) (slots : List ℕ) (made : List Celled) (stashes : List (List Message)) {v : List Celled} {i : ℕ} → all_stashing w (all_made slots made) stashes ≡ v → i < length v → i < length slots
inside_slots w slots made stashes {v} {i} seen inside = subst (λ n. i < n) (length_made slots made) (inside_cells w (all_made slots made) stashes seen inside)

pub few_slots : {w : ℕ} (slots : List ℕ) (made : List Celled) {s : Keyed Message} → AreStashed w (all_made slots made) s → length slots < 65536
few_slots {w} slots made {s} k = subst (λ n. n < 65536) (length_made slots made) k.few

-- what is read at a place
pub read_at : (slots : List ℕ) (made : List Celled) {i : ℕ} {x : Celled} → i < length slots → x ≡ celled_at (all_made slots made) i → x ≡ slice_index_or (all_made slots made) i x
read_at slots made {i} {x} inside is = is ∙ get_or_default (all_made slots made) i (celled 0 0) x (subst (λ n. i < n) (sym (length_made slots made)) inside)

pub read_made : {slots : List ℕ} {made : List Celled} {i k : ℕ} {was : Celled} → IsSlot slots made i k → was ≡ slice_index_or made k was → was ≡ slice_index_or (all_made slots made) i was
read_made {slots} {made} {i} {k} {was} s read = read ∙ sym (at_made slots made i was s.inside ∙ (ap (celled_at made) s.it ∙ get_or_default made k (celled 0 0) was s.within))

pub stashed_made : {w : ℕ} {cells : List Celled} {slots : List ℕ} {made : List Celled} {s : Keyed Message} {room i k : ℕ} (now : Celled) → AreStashed w cells s → all_made slots made ≡ cells → AreMade slots made room → IsSlot slots made i k → AreStashed w (all_made slots (slice_set made k now)) s
stashed_made {w} {cells} {slots} {made} {s} {room} {i} {k} now k_stashed same m slot =
    subst (λ l. AreStashed w l s) (sym (put_made now m slot)) (kept_stashed i now (subst (λ l. AreStashed w l s) (sym same) k_stashed))

pub moved_made : (w : ℕ) (cells : List Celled) (stashes : List (List Message)) {slots : List ℕ} {made : List Celled} {v : List Celled} {room i k : ℕ} {was now : Celled} {move : Move} → Keeps move → all_stashing w cells stashes ≡ v → i < length v → all_made slots made ≡ cells → AreMade slots made room → IsSlot slots made i k
    → was ≡ slice_index_or made k was → now ≡ celled_after was move → all_stashing w (all_made slots (slice_set made k now)) stashes ≡ slice_set v i (celled_after (celled_at v i) move)
moved_made w cells stashes {slots} {made} {v} {room} {i} {k} {was} {now} {move} keeps seen inside same m s read step =
    ap (λ l. all_stashing w l stashes) (put_made now m s) ∙ one_moved w (all_made slots made) stashes keeps (ap (λ l. all_stashing w l stashes) same ∙ seen) inside (read_made s read) step

pub state_made : (w : ℕ) (cells : List Celled) (stashes : List (List Message)) {slots : List ℕ} {made : List Celled} {v : List Celled} {room i k : ℕ} {was now : Celled} {st : State} → all_stashing w cells stashes ≡ v → i < length v → all_made slots made ≡ cells → AreMade slots made room → IsSlot slots made i k
    → was ≡ slice_index_or made k was → now ≡ record { cell = was.cell; state = st; window = was.window } → all_stashing w (all_made slots (slice_set made k now)) stashes ≡ slice_set v i (record { cell = (celled_at v i).cell; state = st; window = (celled_at v i).window })
state_made w cells stashes {slots} {made} {v} {room} {i} {k} {was} {now} {st} seen inside same m s read step =
    ap (λ l. all_stashing w l stashes) (put_made now m s) ∙ state_put w (all_made slots made) stashes (ap (λ l. all_stashing w l stashes) same ∙ seen) inside (read_made s read) step

-- the state that is seen at a place
pub state_seen : (w : ℕ) (cells : List Celled) (stashes : List (List Message)) {slots : List ℕ} {made : List Celled} {v : List Celled} {i k : ℕ} {was : Celled} → all_stashing w cells stashes ≡ v → i < length v → all_made slots made ≡ cells → IsSlot slots made i k → was ≡ slice_index_or made k was
    → (celled_at v i).state ≡ was.state
state_seen w cells stashes {slots} {made} {v} {i} {k} {was} seen inside same s read =
    ap (λ (x : Celled). x.state) (seen_at w (all_made slots made) stashes (ap (λ l. all_stashing w l stashes) same ∙ seen) inside (read_made s read))

-- it goes on with events
pub applied_made : (w : ℕ) (cells : List Celled) (stashes : List (List Message)) (es : List Event) {slots : List ℕ} {made : List Celled} {v : List Celled} {room i k : ℕ} {was now : Celled} → all_stashing w cells stashes ≡ v → i < length v → all_made slots made ≡ cells → AreMade slots made room → IsSlot slots made i k
    → was ≡ slice_index_or made k was → now ≡ record { cell = was.cell; state = fold apply was.state es; window = was.window }
    → all_stashing w (all_made slots (slice_set made k now)) stashes ≡ slice_set v i (record { cell = (celled_at v i).cell; state = fold apply (celled_at v i).state es; window = (celled_at v i).window })
applied_made w cells stashes es {slots} {made} {v} {room} {i} {k} {was} {now} seen inside same m s read step =
    state_made w cells stashes seen inside same m s read step
    ∙ ap (λ (st : State). slice_set v i (record { cell = (celled_at v i).cell; state = fold apply st es; window = (celled_at v i).window })) (sym (state_seen w cells stashes seen inside same s read))

pub active_made : (w : ℕ) (cells : List Celled) (stashes : List (List Message)) {new : List (List Message)} {slots : List ℕ} {made : List Celled} {v : List Celled} {room i k : ℕ} {was now : Celled} {st : State} (x : Incarnation) (e : List ℕ) (n : ℕ) (t : State) → all_stashing w cells stashes ≡ v → i < length v → i < length stashes
    → all_made slots made ≡ cells → AreMade slots made room → IsSlot slots made i k → was ≡ slice_index_or made k was → now ≡ record { cell = (celled_after was (told (fact.Active x e n t))).cell; state = st; window = was.window } → new ≡ slice_set stashes i []
    → all_stashing w (all_made slots (slice_set made k now)) new ≡ slice_set v i (record { cell = (celled_after (celled_at v i) (told (fact.Active x e n t))).cell; state = st; window = (celled_at v i).window })
active_made w cells stashes {new} {slots} {made} {v} {room} {i} {k} {was} {now} {st} x e n t seen inside there same m s read change step =
    ap (λ l. all_stashing w l new) (put_made now m s) ∙ active_put w (all_made slots made) stashes x e n t (ap (λ l. all_stashing w l stashes) same ∙ seen) inside there (read_made s read) change step

-- A cell is cleared, where there is one: the first one is as it was.

cleared_first : {slots : List ℕ} {made : List Celled} {room i : ℕ} {was now : Celled} → AreMade slots made room → i < length slots → slice_index_or slots i 0 ≡ 0 → was ≡ slice_index_or made 0 was → now ≡ celled (length was.cell.reach) 0 → (slice_set made 0 now ≡ made) × (slice_set (all_made slots made) i now ≡ all_made slots made)
cleared_first {slots} {made} {room} {i} {was} {now} m inside none read change =
    let first : celled_at made 0 ≡ was = get_or_default made 0 (celled 0 0) was m.some ∙ sym read in
    let same : now ≡ celled_at made 0 = change ∙ (ap (λ (y : Celled). celled (length y.cell.reach) 0) (sym first) ∙ sym m.blank) in
    let there : now ≡ slice_index_or (all_made slots made) i (celled 0 0) = same ∙ sym (at_made slots made i (celled 0 0) inside ∙ ap (celled_at made) none) in
    (ap (λ x. slice_set made 0 x) same ∙ set-get_or made 0 (celled 0 0), ap (λ x. slice_set (all_made slots made) i x) there ∙ set-get_or (all_made slots made) i (celled 0 0))

-- what a clearing leaves
pub record IsCleared (slots : List ℕ) (made new : List Celled) (room i : ℕ) (was now : Celled) : Type 0 where
  pub made_is : AreMade slots new room
  pub list_is : all_made slots new ≡ slice_set (all_made slots made) i now
  pub was_is : was ≡ slice_index_or (all_made slots made) i was

pub cleared_made : {slots : List ℕ} {made : List Celled} {room i k : ℕ} {was now : Celled} → AreMade slots made room → i < length slots → k ≡ slice_index_or slots i 0 → was ≡ slice_index_or made k was → now ≡ celled (length was.cell.reach) 0 → IsCleared slots made (slice_set made k now) room i was now
cleared_made {slots} {made} {room} {i} {k} {was} {now} m inside slot read change = by (k == 0) refl
  where
    by : (b : Bool) → (k == 0) ≡ b → IsCleared slots made (slice_set made k now) room i was now
    by true e =
        let none : k ≡ 0 = same_number k 0 e in
        let at_first : was ≡ slice_index_or made 0 was = read ∙ ap (λ n. slice_index_or made n was) none in
        let both : (slice_set made 0 now ≡ made) × (slice_set (all_made slots made) i now ≡ all_made slots made) = cleared_first m inside (sym slot ∙ none) at_first change in
        let same : slice_set made k now ≡ made = ap (λ n. slice_set made n now) none ∙ both.0 in
        record {
          made_is = subst (λ l. AreMade slots l room) (sym same) m;
          list_is = ap (all_made slots) same ∙ sym both.1;
          was_is = at_first ∙ (get_or_default made 0 was (celled 0 0) m.some ∙ sym (at_made slots made i was inside ∙ ap (celled_at made) (sym slot ∙ none)));
        }
    by false e =
        let other : k ≢ 0 = other_number k 0 e in
        let s : IsSlot slots made i k = record { inside = inside; it = sym slot; some = omega (arith, other); within = subst (λ n. n < length made) (sym slot) (m.within i inside) } in
        record { made_is = made_put now m s; list_is = put_made now m s; was_is = read_made s read }

pub clear_made : (w : ℕ) (slots : List ℕ) (made : List Celled) (stashes : List (List Message)) {new : List (List Message)} {new_made : List Celled} {v : List Celled} {room i : ℕ} {was now : Celled} → all_stashing w (all_made slots made) stashes ≡ v → i < length v → i < length stashes → IsCleared slots made new_made room i was now
    → now ≡ celled (length was.cell.reach) 0 → new ≡ slice_set stashes i [] → all_stashing w (all_made slots new_made) new ≡ slice_set v i (celled (length (celled_at v i).cell.reach) (celled_at v i).window)
clear_made w slots made stashes {new} {new_made} {v} {room} {i} {was} {now} seen inside there c change step =
    ap (λ l. all_stashing w l new) c.list_is ∙ clear_put w (all_made slots made) stashes seen inside there c.was_is change step

-- the cell that is found at a place
pub slot_is : (slots : List ℕ) {i k : ℕ} → i < length slots → k ≡ slice_index_or slots i k → k ≡ slice_index_or slots i 0
slot_is slots {i} {k} inside read = read ∙ sym (get_or_default slots i 0 k inside)

pub slot_within : {slots : List ℕ} {made : List Celled} {room i k : ℕ} → AreMade slots made room → i < length slots → k ≡ slice_index_or slots i k → k < length made
slot_within {slots} {made} {room} {i} {k} m inside read = subst (λ n. n < length made) (sym (slot_is slots inside read)) (m.within i inside)

pub cell_found : {slots : List ℕ} {made : List Celled} {room i k : ℕ} {x : Celled} → AreMade slots made room → i < length slots → k ≡ slice_index_or slots i k → x ≡ slice_index_or made k x → x ≡ celled_at (all_made slots made) i
cell_found {slots} {made} {room} {i} {k} {x} m inside slot read =
    read ∙ sym (at_made slots made i (celled 0 0) inside ∙ (ap (celled_at made) (sym (slot_is slots inside slot)) ∙ get_or_default made k (celled 0 0) x (slot_within m inside slot)))

pub read_before : {slots : List ℕ} {made cells : List Celled} {i k : ℕ} {was : Celled} → all_made slots made ≡ cells → IsSlot slots made i k → was ≡ slice_index_or made k was → was ≡ slice_index_or cells i was
read_before {slots} {made} {cells} {i} {k} {was} same s read = read_made s read ∙ ap (λ l. slice_index_or l i was) same

pub fresh_stashed : (w n : ℕ) (x : Celled) {s : Keyed Message} → n ≤ 1000 → s.lists ≡ replicate n [] → s.cells ≡ n * w → AreStashed w (replicate n x) s
fresh_stashed w n x {s} few none room = record {
  few = omega (arith, few, length-replicate n x);
  there = ap length none ∙ (length-replicate n [] ∙ sym (length-replicate n x));
  room = room ∙ ap (λ k. k * w) (sym (length-replicate n x));
  short = λ i. subst (λ (l : List Message). length l ≤ w) (sym (ap (λ ls. slice_index_or ls i []) none ∙ get_replicate n i [])) (omega arith);
}
