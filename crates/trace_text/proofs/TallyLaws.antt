-- The counts of names after one entry more.
use Rattle.std.proofs.Common.{◌≡◌, ◌≢◌, ℕ, ◌<◌, ◌≤◌, ◌+◌, List, [], ◌∷◌, ◌++◌, take, length, sym, ap, ◌∙◌, arith, length-append}
use Rattle.std.specs.Prelude.{Bool, true, false, map, fold, slice_index_or, slice_set, cond, if◌then◌else◌}
use Rattle.std.specs.Ordering.{nat_cmp}
use Rattle.std.specs.Cmp.Lexicographic.{slice_cmp, nat_list_eq_equiv}
use Rattle.std.specs.List.{HoldsAt}
use Rattle.std.specs.List.Sorted.{IsStrictlySortedBy}
use Rattle.std.proofs.lemmas.List.Sums.{fold-append}
use Rattle.std.proofs.lemmas.List.{get_or-map, take_more, map-append, length-map, length-take-le}
use Rattle.yard_model.specs.declared.entry.QueueEntry.{QueueEntry}
use Rattle.yard_model.specs.Entry.{queue_fact}
use Rattle.yard_model.specs.declared.event.Command.{Command}
use Rattle.yard_model.specs.declared.fact.Fact.{Fact}
use Rattle.yard_model.specs.declared.fact.Fact.TheVariants as fact
use Rattle.yard_model.specs.Script.{is_name}
use Rattle.yard_model.specs.SlotReads.{commands, commands_step, queued, confirmed, confirmed_step}
use Rattle.trace_text.specs.declared.queues.Tally.{Tally}
use Rattle.trace_text.specs.Places.{tally_of, tallies_of}
use Rattle.trace_text.proofs.PlaceLaws.{put_at, put_nowhere}

abbrev tally : ℕ → ℕ → Tally
tally n k = record { queued = n; confirmed = k }

tally_more : (n : List ℕ) (list : List Fact) (f : Fact) → tally_of (list ++ f ∷ []) n ≡ tally (length (commands_step n (commands n list) f)) (confirmed_step n (confirmed n list) f)
tally_more n list f =
    ap (λ (l : List Command). tally (length l) (confirmed n (list ++ f ∷ []))) (fold-append (commands_step n) [] list (f ∷ []))
    ∙ ap (λ k. tally (length (commands_step n (commands n list) f)) k) (fold-append (confirmed_step n) 0 list (f ∷ []))

-- a command to another name
queued_elsewhere : (e : List ℕ) (p k : ℕ) (c : Command) (list : List Fact) (n : List ℕ) → is_name e n ≡ false → tally_of (list ++ fact.Queued p e k c ∷ []) n ≡ tally_of list n
queued_elsewhere e p k c list n o = tally_more n list (fact.Queued p e k c) ∙ ap (λ b. tally (length (if b then commands n list ++ c ∷ [] else commands n list)) (confirmed n list)) o

queued_here : (e : List ℕ) (p k : ℕ) (c : Command) (list : List Fact) → tally_of (list ++ fact.Queued p e k c ∷ []) e ≡ tally (queued e list + 1) (confirmed e list)
queued_here e p k c list =
    tally_more e list (fact.Queued p e k c)
    ∙ (ap (λ b. tally (length (if b then commands e list ++ c ∷ [] else commands e list)) (confirmed e list)) (nat_list_eq_equiv.refl e)
    ∙ ap (λ n. tally n (confirmed e list)) (length-append (commands e list) (c ∷ [])))

confirmed_elsewhere : (e : List ℕ) (p k : ℕ) (list : List Fact) (n : List ℕ) → is_name e n ≡ false → tally_of (list ++ fact.Confirmed p e k ∷ []) n ≡ tally_of list n
confirmed_elsewhere e p k list n o = tally_more n list (fact.Confirmed p e k) ∙ ap (λ b. tally (queued n list) (if b then k else confirmed n list)) o

confirmed_here : (e : List ℕ) (p k : ℕ) (list : List Fact) → tally_of (list ++ fact.Confirmed p e k ∷ []) e ≡ tally (queued e list) k
confirmed_here e p k list = tally_more e list (fact.Confirmed p e k) ∙ ap (λ b. tally (queued e list) (if b then k else confirmed e list)) (nat_list_eq_equiv.refl e)

-- what is kept at a name's place is the name's
kept_at : (names : List (List ℕ)) (e : List ℕ) (list : List Fact) (i : ℕ) (old : List Tally) (t : Tally) → i < length names → HoldsAt (λ y. y ≡ e) names i
    → t ≡ slice_index_or old i t → old ≡ tallies_of names list → t ≡ tally_of list e
kept_at names e list i old t h is kept was = kept ∙ (ap (λ r. slice_index_or r i t) was ∙ (get_or-map (tally_of list) names i [] t h ∙ ap (tally_of list) (is [])))

-- an entry of the name at a place
pub queued_put : (names : List (List ℕ)) (e : List ℕ) (p k : ℕ) (c : Command) (list : List Fact) (i : ℕ) (old : List Tally) (t : Tally) → IsStrictlySortedBy (slice_cmp nat_cmp) names → i < length names
    → HoldsAt (λ y. y ≡ e) names i → t ≡ slice_index_or old i t → old ≡ tallies_of names list
    → slice_set old i (record { queued = t.queued + 1; confirmed = t.confirmed }) ≡ tallies_of names (list ++ fact.Queued p e k c ∷ [])
queued_put names e p k c list i old t s h is kept was =
    ap (λ (x : Tally). slice_set old i (tally (x.queued + 1) x.confirmed)) (kept_at names e list i old t h is kept was)
    ∙ (ap (λ r. slice_set r i (tally (queued e list + 1) (confirmed e list))) was
    ∙ (ap (λ x. slice_set (tallies_of names list) i x) (sym (queued_here e p k c list))
    ∙ sym (put_at (tally_of list) (tally_of (list ++ fact.Queued p e k c ∷ [])) e names i s h is (queued_elsewhere e p k c list))))

pub confirmed_put : (names : List (List ℕ)) (e : List ℕ) (p k : ℕ) (list : List Fact) (i : ℕ) (old : List Tally) (t : Tally) → IsStrictlySortedBy (slice_cmp nat_cmp) names → i < length names
    → HoldsAt (λ y. y ≡ e) names i → t ≡ slice_index_or old i t → old ≡ tallies_of names list
    → slice_set old i (record { queued = t.queued; confirmed = k }) ≡ tallies_of names (list ++ fact.Confirmed p e k ∷ [])
confirmed_put names e p k list i old t s h is kept was =
    ap (λ (x : Tally). slice_set old i (tally x.queued k)) (kept_at names e list i old t h is kept was)
    ∙ (ap (λ r. slice_set r i (tally (queued e list) k)) was
    ∙ (ap (λ x. slice_set (tallies_of names list) i x) (sym (confirmed_here e p k list))
    ∙ sym (put_at (tally_of list) (tally_of (list ++ fact.Confirmed p e k ∷ [])) e names i s h is (confirmed_elsewhere e p k list))))

-- an entry of a name that is not among them
pub queued_pass : (names : List (List ℕ)) (e : List ℕ) (p k : ℕ) (c : Command) (list : List Fact) (old : List Tally) → ((j : ℕ) → j < length names → slice_index_or names j e ≢ e)
    → old ≡ tallies_of names list → old ≡ tallies_of names (list ++ fact.Queued p e k c ∷ [])
queued_pass names e p k c list old none was = was ∙ sym (put_nowhere (tally_of list) (tally_of (list ++ fact.Queued p e k c ∷ [])) e names none (queued_elsewhere e p k c list))

pub confirmed_pass : (names : List (List ℕ)) (e : List ℕ) (p k : ℕ) (list : List Fact) (old : List Tally) → ((j : ℕ) → j < length names → slice_index_or names j e ≢ e)
    → old ≡ tallies_of names list → old ≡ tallies_of names (list ++ fact.Confirmed p e k ∷ [])
confirmed_pass names e p k list old none was = was ∙ sym (put_nowhere (tally_of list) (tally_of (list ++ fact.Confirmed p e k ∷ [])) e names none (confirmed_elsewhere e p k list))

-- one entry more is taken
pub queue_facts_more : (p : ℕ) (list : List QueueEntry) (i : ℕ) (x : QueueEntry) → i < length list → x ≡ slice_index_or list i x
    → map (queue_fact p) (take i list) ++ queue_fact p x ∷ [] ≡ map (queue_fact p) (take (i + 1) list)
queue_facts_more p list i x h is = sym (ap (map (queue_fact p)) (take_more list i x h) ∙ (map-append (queue_fact p) (take i list) (slice_index_or list i x ∷ []) ∙ ap (λ y. map (queue_fact p) (take i list) ++ queue_fact p y ∷ []) (sym is)))

-- no more commands are queued than there are entries
step_within : (e : List ℕ) (old : List Command) (f : Fact) → length (commands_step e old f) ≤ length old + 1
step_within e old (fact.Queued p x n c) = one (is_name x e)
  where
    one : (b : Bool) → length (cond b (old ++ c ∷ []) old) ≤ length old + 1
    one true = let more : length (old ++ c ∷ []) ≡ length old + 1 = length-append old (c ∷ []) in omega arith
    one false = omega arith
step_within e old f = omega arith

within : (e : List ℕ) (old : List Command) (list : List Fact) → length (fold (commands_step e) old list) ≤ length old + length list
within e old [] = omega arith
within e old (f ∷ fs) = let rest : length (fold (commands_step e) (commands_step e old f) fs) ≤ length (commands_step e old f) + length fs = within e (commands_step e old f) fs in let one : length (commands_step e old f) ≤ length old + 1 = step_within e old f in omega arith

pub count_within : (names : List (List ℕ)) (p : ℕ) (list : List QueueEntry) (i : ℕ) (kept : List Tally) (k : ℕ) (d : Tally) → kept ≡ tallies_of names (map (queue_fact p) (take i list)) → i ≤ length list
    → k < length names → (slice_index_or kept k d).queued ≤ i
count_within names p list i kept k d is short h =
    let facts : List Fact = map (queue_fact p) (take i list) in
    let here : slice_index_or kept k d ≡ tally_of facts (slice_index_or names k []) = ap (λ r. slice_index_or r k d) is ∙ get_or-map (tally_of facts) names k [] d h in
    let count : (slice_index_or kept k d).queued ≡ queued (slice_index_or names k []) facts = ap (λ (t : Tally). t.queued) here in
    let most : queued (slice_index_or names k []) facts ≤ 0 + length facts = within (slice_index_or names k []) [] facts in
    let as_long : length facts ≡ i = length-map (take i list) (queue_fact p) ∙ length-take-le i list short in
    omega arith
