-- Cells with their stashes, which are kept apart.
use Rattle.std.proofs.Common.{◌≡◌, ℕ, zero, suc, ◌+◌, ◌*◌, ◌<◌, ◌≤◌, List, [], ◌∷◌, ◌++◌, length, drop, replicate, sym, ap, subst, ◌∙◌, refl, arith, length-append, length-drop, get_or-set_same, get_or-set_other}
use Rattle.std.specs.Prelude.{Bool, true, false, ◌==◌, Option, None, Some, MatchOption, IsNone, IfSome, IfNone, ◌↔◌, slice_set, slice_index_or, sum_by}
use Rattle.std.proofs.Math.Nat.{suc-mul}
use Rattle.std.proofs.lemmas.List.{length-set, set-get_or}
use Rattle.std.proofs.lemmas.List.Sums.{sum_by-cons}
use Rattle.yard_model.specs.declared.fact.Fact.TheVariants as fact
use Rattle.yard_model.specs.declared.incarnation.Incarnation.{Incarnation}
use Rattle.yard_model.specs.declared.input.Phase.{Phase}
use Rattle.yard_model.specs.declared.input.Phase.TheVariants as phase
use Rattle.yard_model.specs.declared.packet.Message.{Message}
use Rattle.yard_model.specs.declared.state.State.{State}
use Rattle.yard_model.specs.Entities.{stash_step}
use Rattle.yard_model.specs.Move.{Move, told}
use Rattle.envelope_pool.specs.Keyed.{Keyed, held}
use Rattle.entity_cells.specs.Celled.{Celled, celled, celled_after, celled_at, stashing, all_stashing, AreStashed}
use Rattle.plain_laws.proofs.Booleans.{same_number, other_number}
use Rattle.entity_cells.proofs.Keeping.{Keeps}

-- The list of all.

get_rest : {A : Type 0} (xs : List A) (i : ℕ) (d : A) → slice_index_or (drop 1 xs) i d ≡ slice_index_or xs (suc i) d
get_rest [] i d = refl
get_rest (x ∷ xs) i d = refl

pub length_all : (w : ℕ) (cells : List Celled) (stashes : List (List Message)) → length (all_stashing w cells stashes) ≡ length cells
length_all w [] stashes = refl
length_all w (x ∷ cells) stashes = ap suc (length_all w cells (drop 1 stashes))

pub at_all : (w : ℕ) (cells : List Celled) (stashes : List (List Message)) (i : ℕ) (d e : Celled) → i < length cells → slice_index_or (all_stashing w cells stashes) i d ≡ stashing w (slice_index_or cells i e) (slice_index_or stashes i [])
at_all w [] stashes i d e h = absurd (omega arith)
at_all w (x ∷ cells) stashes zero d e h = refl
at_all w (x ∷ cells) stashes (suc i) d e h = at_all w cells (drop 1 stashes) i d e (omega arith) ∙ ap (stashing w (slice_index_or cells i e)) (get_rest stashes i [])

-- another cell, its stash as before
pub put_all : (w : ℕ) (cells : List Celled) (stashes : List (List Message)) (i : ℕ) (x : Celled) → i < length cells → all_stashing w (slice_set cells i x) stashes ≡ slice_set (all_stashing w cells stashes) i (stashing w x (slice_index_or stashes i []))
put_all w [] stashes i x h = absurd (omega arith)
put_all w (y ∷ cells) stashes zero x h = refl
put_all w (y ∷ cells) stashes (suc i) x h =
    ap (λ l. stashing w y (slice_index_or stashes 0 []) ∷ l)
    (put_all w cells (drop 1 stashes) i x (omega arith) ∙ ap (λ s. slice_set (all_stashing w cells (drop 1 stashes)) i (stashing w x s)) (get_rest stashes i []))

-- another stash, its cell as before
pub stash_all : (w : ℕ) (cells : List Celled) (stashes : List (List Message)) (i : ℕ) (d : Celled) (s : List Message) → i < length cells → i < length stashes → all_stashing w cells (slice_set stashes i s) ≡ slice_set (all_stashing w cells stashes) i (stashing w (slice_index_or cells i d) s)
stash_all w [] stashes i d s h g = absurd (omega arith)
stash_all w (y ∷ cells) [] i d s h g = absurd (omega arith)
stash_all w (y ∷ cells) (l ∷ stashes) zero d s h g = refl
stash_all w (y ∷ cells) (l ∷ stashes) (suc i) d s h g = ap (λ l'. stashing w y l ∷ l') (stash_all w cells stashes i d s (omega arith) (omega arith))

pub none_all : (w n : ℕ) (x : Celled) → all_stashing w (replicate n x) (replicate n []) ≡ replicate n (stashing w x [])
none_all w zero x = refl
none_all w (suc n) x = ap (λ l. stashing w x [] ∷ l) (none_all w n x)

set_again : {A : Type 0} (xs : List A) (i : ℕ) (a b : A) → slice_set (slice_set xs i a) i b ≡ slice_set xs i b
set_again [] i a b = refl
set_again (x ∷ xs) zero a b = refl
set_again (x ∷ xs) (suc i) a b = ap (λ l. x ∷ l) (set_again xs i a b)

-- What stands at a place.

pub inside_cells : (w : ℕ) (cells : List Celled) (stashes : List (List Message)) {v : List Celled} {i : ℕ} → all_stashing w cells stashes ≡ v → i < length v → i < length cells
inside_cells w cells stashes {v} {i} seen inside = subst (λ n. i < n) (length_all w cells stashes) (subst (λ (l : List Celled). i < length l) (sym seen) inside)

pub seen_at : (w : ℕ) (cells : List Celled) (stashes : List (List Message)) {v : List Celled} {i : ℕ} {was : Celled} → all_stashing w cells stashes ≡ v → i < length v → was ≡ slice_index_or cells i was → celled_at v i ≡ stashing w was (slice_index_or stashes i [])
seen_at w cells stashes {v} {i} {was} seen inside read =
    ap (λ l. celled_at l i) (sym seen) ∙ (at_all w cells stashes i (celled 0 0) was (inside_cells w cells stashes seen inside) ∙ ap (λ x. stashing w x (slice_index_or stashes i [])) (sym read))

pub stash_at : (w : ℕ) (cells : List Celled) (stashes : List (List Message)) {v : List Celled} {i : ℕ} → all_stashing w cells stashes ≡ v → i < length v → celled_at v i ≡ stashing w (celled_at cells i) (slice_index_or stashes i [])
stash_at w cells stashes {v} {i} seen inside = ap (λ l. celled_at l i) (sym seen) ∙ at_all w cells stashes i (celled 0 0) (celled 0 0) (inside_cells w cells stashes seen inside)

pub inside_stashes : {w : ℕ} {cells : List Celled} {s : Keyed Message} {v : List Celled} {i : ℕ} → AreStashed w cells s → all_stashing w cells s.lists ≡ v → i < length v → i < length s.lists
inside_stashes {w} {cells} {s} {v} {i} k seen inside = subst (λ n. i < n) (sym k.there) (inside_cells w cells s.lists seen inside)

pub place_fits : {w : ℕ} {cells : List Celled} {s : Keyed Message} {v : List Celled} {i : ℕ} → AreStashed w cells s → all_stashing w cells s.lists ≡ v → i < length v → i < 65536
place_fits {w} {cells} {s} {v} {i} k seen inside = let here : i < length cells = inside_cells w cells s.lists seen inside in omega (arith, here, k.few)

-- Steps.

pub kept_stashed : {w : ℕ} {cells : List Celled} {s : Keyed Message} (i : ℕ) (now : Celled) → AreStashed w cells s → AreStashed w (slice_set cells i now) s
kept_stashed {w} {cells} {s} i now k = record {
  few = subst (λ n. n < 65536) (sym (length-set cells i now)) k.few;
  there = k.there ∙ sym (length-set cells i now);
  room = k.room ∙ ap (λ n. n * w) (sym (length-set cells i now));
  short = k.short;
}

stash_kept : (w : ℕ) (was : Celled) (s : List Message) (m : Move) → ((p : Phase) (old : List Message) → stash_step p old m ≡ old) → stashing w (celled_after was m) s ≡ celled_after (stashing w was s) m
stash_kept w was s m keeps = ap (λ l. record { cell = record { phase = (celled_after was m).cell.phase; passivating = (celled_after was m).cell.passivating; stash = l; armed = (celled_after was m).cell.armed; reach = (celled_after was m).cell.reach }; state = was.state; window = w }) (sym (keeps was.cell.phase s))

-- a cell is put that differs by what isn't its stash
pub cell_put_seen : (w : ℕ) (cells : List Celled) (stashes : List (List Message)) {v : List Celled} {i : ℕ} (now x : Celled) → all_stashing w cells stashes ≡ v → i < length v → stashing w now (slice_index_or stashes i []) ≡ x → all_stashing w (slice_set cells i now) stashes ≡ slice_set v i x
cell_put_seen w cells stashes {v} {i} now x seen inside same = put_all w cells stashes i now (inside_cells w cells stashes seen inside) ∙ (ap (λ y. slice_set (all_stashing w cells stashes) i y) same ∙ ap (λ l. slice_set l i x) seen)

pub one_moved : (w : ℕ) (cells : List Celled) (stashes : List (List Message)) {v : List Celled} {i : ℕ} {was now : Celled} {m : Move} → Keeps m → all_stashing w cells stashes ≡ v → i < length v → was ≡ slice_index_or cells i was → now ≡ celled_after was m
    → all_stashing w (slice_set cells i now) stashes ≡ slice_set v i (celled_after (celled_at v i) m)
one_moved w cells stashes {v} {i} {was} {now} {m} keeps seen inside read step =
    cell_put_seen w cells stashes now (celled_after (celled_at v i) m) seen inside
    (ap (λ x. stashing w x (slice_index_or stashes i [])) step
    ∙ (stash_kept w was (slice_index_or stashes i []) m keeps.stash_is ∙ ap (λ x. celled_after x m) (sym (seen_at w cells stashes seen inside read))))

pub state_put : (w : ℕ) (cells : List Celled) (stashes : List (List Message)) {v : List Celled} {i : ℕ} {was now : Celled} {st : State} → all_stashing w cells stashes ≡ v → i < length v → was ≡ slice_index_or cells i was → now ≡ record { cell = was.cell; state = st; window = was.window }
    → all_stashing w (slice_set cells i now) stashes ≡ slice_set v i (record { cell = (celled_at v i).cell; state = st; window = (celled_at v i).window })
state_put w cells stashes {v} {i} {was} {now} {st} seen inside read step =
    cell_put_seen w cells stashes now (record { cell = (celled_at v i).cell; state = st; window = (celled_at v i).window }) seen inside
    (ap (λ x. stashing w x (slice_index_or stashes i [])) step ∙ ap (λ (x : Celled). record { cell = x.cell; state = st; window = x.window }) (sym (seen_at w cells stashes seen inside read)))

-- Both change: another cell, and another stash.
pub both_put : (w : ℕ) (cells : List Celled) (stashes : List (List Message)) {new : List (List Message)} {v : List Celled} {i : ℕ} {s : List Message} (now x : Celled) → all_stashing w cells stashes ≡ v → i < length v → i < length stashes → new ≡ slice_set stashes i s → stashing w now s ≡ x
    → all_stashing w (slice_set cells i now) new ≡ slice_set v i x
both_put w cells stashes {new} {v} {i} {s} now x seen inside there step same =
    let here : i < length cells = inside_cells w cells stashes seen inside in
    ap (λ l. all_stashing w (slice_set cells i now) l) step
    ∙ (stash_all w (slice_set cells i now) stashes i now s (subst (λ n. i < n) (sym (length-set cells i now)) here) there
    ∙ (ap (λ y. slice_set (all_stashing w (slice_set cells i now) stashes) i (stashing w y s)) (get_or-set_same cells i now now here)
    ∙ (ap (λ l. slice_set l i (stashing w now s)) (put_all w cells stashes i now here)
    ∙ (set_again (all_stashing w cells stashes) i (stashing w now (slice_index_or stashes i [])) (stashing w now s)
    ∙ (ap (λ y. slice_set (all_stashing w cells stashes) i y) same ∙ ap (λ l. slice_set l i x) seen)))))

-- the stash alone
pub stash_put : (w : ℕ) (cells : List Celled) (stashes : List (List Message)) {new : List (List Message)} {v : List Celled} {i : ℕ} {s : List Message} (x : Celled) → all_stashing w cells stashes ≡ v → i < length v → i < length stashes → new ≡ slice_set stashes i s → stashing w (celled_at cells i) s ≡ x
    → all_stashing w cells new ≡ slice_set v i x
stash_put w cells stashes {new} {v} {i} {s} x seen inside there step same =
    ap (λ l. all_stashing w cells l) step
    ∙ (stash_all w cells stashes i (celled 0 0) s (inside_cells w cells stashes seen inside) there
    ∙ (ap (λ y. slice_set (all_stashing w cells stashes) i y) same ∙ ap (λ l. slice_set l i x) seen))

-- the stashes stand after one of them is another, within the window
pub stashed_on : {w : ℕ} {cells : List Celled} {s new : Keyed Message} {i : ℕ} (l : List Message) → AreStashed w cells s → i < length s.lists → new.lists ≡ slice_set s.lists i l → new.cells ≡ s.cells → length l ≤ w → AreStashed w cells new
stashed_on {w} {cells} {s} {new} {i} l k there step same few = record {
  few = k.few;
  there = ap length step ∙ (length-set s.lists i l ∙ k.there);
  room = same ∙ k.room;
  short = λ j. subst (λ (x : List (List Message)). length (slice_index_or x j []) ≤ w) (sym step) (by j (j == i) refl);
}
  where
    by : (j : ℕ) (b : Bool) → (j == i) ≡ b → length (slice_index_or (slice_set s.lists i l) j []) ≤ w
    by j true e = subst (λ n. length (slice_index_or (slice_set s.lists i l) n []) ≤ w) (sym (same_number j i e)) (subst (λ (x : List Message). length x ≤ w) (sym (get_or-set_same s.lists i l [] there)) few)
    by j false e = subst (λ (x : List Message). length x ≤ w) (sym (get_or-set_other s.lists i j l [] (other_number j i e))) (k.short j)

-- There is room in all where a stash has room.

sum_most : (w : ℕ) (ls : List (List Message)) → ((i : ℕ) → length (slice_index_or ls i []) ≤ w) → sum_by length ls ≤ length ls * w
sum_most w [] short = omega arith
sum_most w (l ∷ ls) short =
    let own : length l ≤ w = short 0 in
    let rest : sum_by length ls ≤ length ls * w = sum_most w ls (λ i. short (suc i)) in
    let all : suc (length ls) * w ≡ length ls * w + w = suc-mul (length ls) w in
    omega (arith, sum_by-cons length l ls, own, rest, all)

sum_less : (w i : ℕ) (ls : List (List Message)) → ((j : ℕ) → length (slice_index_or ls j []) ≤ w) → i < length ls → length (slice_index_or ls i []) < w → sum_by length ls < length ls * w
sum_less w i [] short h some = absurd (omega arith)
sum_less w zero (l ∷ ls) short h some =
    let own : length l < w = some in
    let rest : sum_by length ls ≤ length ls * w = sum_most w ls (λ i. short (suc i)) in
    let all : suc (length ls) * w ≡ length ls * w + w = suc-mul (length ls) w in
    omega (arith, sum_by-cons length l ls, own, rest, all)
sum_less w (suc i) (l ∷ ls) short h some =
    let own : length l ≤ w = short 0 in
    let rest : sum_by length ls < length ls * w = sum_less w i ls (λ i. short (suc i)) (omega arith) some in
    let all : suc (length ls) * w ≡ length ls * w + w = suc-mul (length ls) w in
    omega (arith, sum_by-cons length l ls, own, rest, all)

pub has_cell : {w : ℕ} {cells : List Celled} {s : Keyed Message} {v : List Celled} {i : ℕ} → AreStashed w cells s → all_stashing w cells s.lists ≡ v → i < length v → length (celled_at v i).cell.stash < (celled_at v i).window → held s ≡ s.cells → ⊥
has_cell {w} {cells} {s} {v} {i} k seen inside room full =
    let at : celled_at v i ≡ stashing w (celled_at cells i) (slice_index_or s.lists i []) = stash_at w cells s.lists seen inside in
    let some : length (slice_index_or s.lists i []) < w = subst (λ (x : Celled). length x.cell.stash < x.window) at room in
    let less : sum_by length s.lists < length s.lists * w = sum_less w i s.lists k.short (inside_stashes k seen inside) some in
    let all : s.cells ≡ length s.lists * w = k.room ∙ ap (λ n. n * w) (sym k.there) in
    omega (arith, less, all, full)

-- Messages that go one by one.

pub own_list : (ls : List (List Message)) {new : List (List Message)} {key : ℕ} {xs : List Message} → key < length ls → new ≡ slice_set ls key xs → slice_index_or new key [] ≡ xs
own_list ls {new} {key} {xs} inside step = ap (λ l. slice_index_or l key []) step ∙ get_or-set_same ls key xs [] inside

pub put_again : (L : List (List Message)) {ls new : List (List Message)} {key : ℕ} (xs : List Message) → key < length ls → ls ≡ slice_set L key (slice_index_or ls key []) → new ≡ slice_set ls key xs → new ≡ slice_set L key (slice_index_or new key [])
put_again L {ls} {new} {key} xs inside was step =
    step ∙ (ap (λ l. slice_set l key xs) was ∙ (set_again L key (slice_index_or ls key []) xs ∙ ap (slice_set L key) (sym (own_list ls inside step))))

pub put_same_list : (L : List (List Message)) (key : ℕ) → L ≡ slice_set L key (slice_index_or L key [])
put_same_list L key = sym (set-get_or L key [])

pub list_inside : (L : List (List Message)) {ls : List (List Message)} {key : ℕ} → key < length L → ls ≡ slice_set L key (slice_index_or ls key []) → key < length ls
list_inside L {ls} {key} inside was = subst (λ n. key < n) (sym (ap length was ∙ length-set L key (slice_index_or ls key []))) inside

pub none_left : (xs : List Message) (n m : ℕ) → length xs + n ≡ m → n ≡ m → xs ≡ []
none_left [] n m e f = refl
none_left (x ∷ xs) n m e f = absurd (omega arith)

pub one_less : (xs : List Message) {ys : List Message} {n m k : ℕ} → ys ≡ drop 1 xs → length xs + n ≡ m → n < m → k ≡ n + 1 → length ys + k ≡ m
one_less xs {ys} {n} {m} {k} step left some next = let e : length ys ≡ length (drop 1 xs) = ap length step in omega (arith, e, length-drop 1 xs, left, some, next)

-- What the methods say of a stash.

pub stash_room : (w : ℕ) (cells : List Celled) (stashes : List (List Message)) {v : List Celled} {i : ℕ} → all_stashing w cells stashes ≡ v → i < length v → length (celled_at v i).cell.stash < (celled_at v i).window → length (slice_index_or stashes i []) < w
stash_room w cells stashes {v} {i} seen inside room = subst (λ (x : Celled). length x.cell.stash < x.window) (stash_at w cells stashes seen inside) room

pub window_at : (w : ℕ) (cells : List Celled) (stashes : List (List Message)) {v : List Celled} {i : ℕ} → all_stashing w cells stashes ≡ v → i < length v → (celled_at v i).window ≡ w
window_at w cells stashes {v} {i} seen inside = ap (λ (x : Celled). x.window) (stash_at w cells stashes seen inside)

pub list_at : (w : ℕ) (cells : List Celled) (stashes : List (List Message)) {v : List Celled} {i : ℕ} → all_stashing w cells stashes ≡ v → i < length v → (celled_at v i).cell.stash ≡ slice_index_or stashes i []
list_at w cells stashes {v} {i} seen inside = ap (λ (x : Celled). x.cell.stash) (stash_at w cells stashes seen inside)

pub one_more : {w : ℕ} (xs : List Message) (m : Message) → length xs < w → length (xs ++ m ∷ []) ≤ w
one_more xs m few = omega (arith, length-append xs (m ∷ []), few)

pub one_out : {w : ℕ} (xs : List Message) → length xs ≤ w → length (drop 1 xs) ≤ w
one_out xs few = omega (arith, length-drop 1 xs, few)

pub put_seen : (w : ℕ) (cells : List Celled) (stashes : List (List Message)) {new : List (List Message)} {v : List Celled} {i : ℕ} (x : Incarnation) (m : Message) → all_stashing w cells stashes ≡ v → i < length v → i < length stashes → new ≡ slice_set stashes i (slice_index_or stashes i [] ++ m ∷ [])
    → all_stashing w cells new ≡ slice_set v i (celled_after (celled_at v i) (told (fact.Stashed x m)))
put_seen w cells stashes {new} {v} {i} x m seen inside there step =
    stash_put w cells stashes (celled_after (celled_at v i) (told (fact.Stashed x m))) seen inside there step
    (sym (ap (λ y. celled_after y (told (fact.Stashed x m))) (stash_at w cells stashes seen inside)))

-- what is at the place once its oldest is taken out
pop_at : (w : ℕ) (cells : List Celled) (stashes : List (List Message)) {new : List (List Message)} {v : List Celled} {i : ℕ} → all_stashing w cells stashes ≡ v → i < length v → i < length stashes → new ≡ slice_set stashes i (drop 1 (slice_index_or stashes i []))
    → celled_at (all_stashing w cells new) i ≡ stashing w (celled_at cells i) (drop 1 (slice_index_or stashes i []))
pop_at w cells stashes {new} {v} {i} seen inside there step =
    at_all w cells new i (celled 0 0) (celled 0 0) (inside_cells w cells stashes seen inside) ∙ ap (stashing w (celled_at cells i)) (own_list stashes there step)

pub pop_others : (w : ℕ) (cells : List Celled) (stashes : List (List Message)) {new : List (List Message)} {v : List Celled} {i : ℕ} → all_stashing w cells stashes ≡ v → i < length v → i < length stashes → new ≡ slice_set stashes i (drop 1 (slice_index_or stashes i []))
    → all_stashing w cells new ≡ slice_set v i (celled_at (all_stashing w cells new) i)
pop_others w cells stashes {new} {v} {i} seen inside there step =
    stash_put w cells stashes (celled_at (all_stashing w cells new) i) seen inside there step (sym (pop_at w cells stashes seen inside there step))

dropped_stash : (p : Phase) (old : List Message) (x : Incarnation) (m : Message) → p ≡ phase.Absent → stash_step p old (told (fact.Dropped x m)) ≡ drop 1 old
dropped_stash p old x m e = ap (λ q. stash_step q old (told (fact.Dropped x m))) e

pub pop_cell : (w : ℕ) (cells : List Celled) (stashes : List (List Message)) {new : List (List Message)} {v : List Celled} {i : ℕ} (r : Option Message) → all_stashing w cells stashes ≡ v → i < length v → i < length stashes → new ≡ slice_set stashes i (drop 1 (slice_index_or stashes i []))
    → (celled_at v i).cell.phase ≡ phase.Absent → IfSome r (λ m. (x : Incarnation) → celled_at (all_stashing w cells new) i ≡ celled_after (celled_at v i) (told (fact.Dropped x m)))
pop_cell w cells stashes None seen inside there step gone = tt
pop_cell w cells stashes {new} {v} {i} (Some m) seen inside there step gone = λ x.
    pop_at w cells stashes seen inside there step
    ∙ (ap (stashing w (celled_at cells i)) (sym (dropped_stash (celled_at cells i).cell.phase (slice_index_or stashes i []) x m (sym (ap (λ (y : Celled). y.cell.phase) (stash_at w cells stashes seen inside)) ∙ gone)))
    ∙ sym (ap (λ y. celled_after y (told (fact.Dropped x m))) (stash_at w cells stashes seen inside)))

pub pop_none : (w : ℕ) (cells : List Celled) (stashes : List (List Message)) {new : List (List Message)} {v : List Celled} {i : ℕ} (r : Option Message) → all_stashing w cells stashes ≡ v → i < length v → i < length stashes → new ≡ slice_set stashes i (drop 1 (slice_index_or stashes i []))
    → MatchOption r (slice_index_or stashes i [] ≡ []) (λ m. slice_index_or stashes i [] ≡ m ∷ drop 1 (slice_index_or stashes i [])) → IfNone r (celled_at (all_stashing w cells new) i ≡ celled_at v i)
pop_none w cells stashes (Some m) seen inside there step item = tt
pop_none w cells stashes {new} {v} {i} None seen inside there step item =
    pop_at w cells stashes seen inside there step
    ∙ (ap (stashing w (celled_at cells i)) (ap (drop 1) item ∙ sym item) ∙ sym (stash_at w cells stashes seen inside))

pub pop_oldest : (r : Option Message) {l s : List Message} → s ≡ l → MatchOption r (l ≡ []) (λ m. l ≡ m ∷ drop 1 l) → IfSome r (λ m. s ≡ m ∷ drop 1 s)
pop_oldest None same item = tt
pop_oldest (Some m) {l} {s} same item = subst (λ x. x ≡ m ∷ drop 1 x) (sym same) item

true_false : true ≡ false → ⊥
true_false e = cc

pub pop_empty : (r : Option Message) {l s : List Message} → s ≡ l → MatchOption r (l ≡ []) (λ m. l ≡ m ∷ drop 1 l) → IsNone r ↔ (s ≡ [])
pop_empty None {l} {s} same item = (λ n. same ∙ item, λ e. refl)
pop_empty (Some m) {l} {s} same item = (λ n. absurd (true_false n), λ e. absurd (no_more (sym item ∙ (sym same ∙ e))))
  where
    no_more : m ∷ drop 1 l ≡ [] → ⊥
    no_more e = cc

pub active_put : (w : ℕ) (cells : List Celled) (stashes : List (List Message)) {new : List (List Message)} {v : List Celled} {i : ℕ} {was now : Celled} {st : State} (x : Incarnation) (e : List ℕ) (n : ℕ) (s : State) → all_stashing w cells stashes ≡ v → i < length v → i < length stashes → was ≡ slice_index_or cells i was
    → now ≡ record { cell = (celled_after was (told (fact.Active x e n s))).cell; state = st; window = was.window } → new ≡ slice_set stashes i []
    → all_stashing w (slice_set cells i now) new ≡ slice_set v i (record { cell = (celled_after (celled_at v i) (told (fact.Active x e n s))).cell; state = st; window = (celled_at v i).window })
active_put w cells stashes {new} {v} {i} {was} {now} {st} x e n s seen inside there read change step =
    both_put w cells stashes now (record { cell = (celled_after (celled_at v i) (told (fact.Active x e n s))).cell; state = st; window = (celled_at v i).window }) seen inside there step
    (ap (λ y. stashing w y []) change
    ∙ ap (λ (y : Celled). record { cell = (celled_after y (told (fact.Active x e n s))).cell; state = st; window = y.window }) (sym (seen_at w cells stashes seen inside read)))

pub clear_put : (w : ℕ) (cells : List Celled) (stashes : List (List Message)) {new : List (List Message)} {v : List Celled} {i : ℕ} {was now : Celled} → all_stashing w cells stashes ≡ v → i < length v → i < length stashes → was ≡ slice_index_or cells i was
    → now ≡ celled (length was.cell.reach) 0 → new ≡ slice_set stashes i [] → all_stashing w (slice_set cells i now) new ≡ slice_set v i (celled (length (celled_at v i).cell.reach) (celled_at v i).window)
clear_put w cells stashes {new} {v} {i} {was} {now} seen inside there read change step =
    both_put w cells stashes now (celled (length (celled_at v i).cell.reach) (celled_at v i).window) seen inside there step
    (ap (λ y. stashing w y []) change ∙ ap (λ (y : Celled). celled (length y.cell.reach) y.window) (sym (seen_at w cells stashes seen inside read)))
