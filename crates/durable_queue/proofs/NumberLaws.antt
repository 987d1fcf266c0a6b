-- The number of a send is one more than how many were sent to its name before.
use Rattle.std.proofs.Common.{◌≡◌, ◌<◌, ◌≤◌, ℕ, ◌+◌, sym, ap, ◌∙◌, refl, arith, take, length-append, slice_get, unwrap_or, true≢false}
use Rattle.std.specs.Prelude.{Bool, true, false, ◌==◌, nat_lt, List, [], ◌∷◌, ◌++◌, length, filter, fold, is_some, Some, if◌then◌else◌}
use Rattle.std.proofs.lemmas.Bool.Decides.{nat_tests}
use Rattle.std.proofs.lemmas.List.{take-append-le, length-map}
use Rattle.std.proofs.lemmas.Option.{slice_get_within}
use Rattle.std.proofs.Math.Seq.{take-append_seam}
use Rattle.yard_model.specs.declared.charter.Line.{Line}
use Rattle.yard_model.specs.declared.charter.Order.{Order}
use Rattle.yard_model.specs.declared.charter.Order.TheVariants as order
use Rattle.yard_model.specs.declared.charter.Sending.{Sending}
use Rattle.yard_model.specs.declared.event.Command.{Command}
use Rattle.yard_model.specs.declared.fact.Fact.{Fact}
use Rattle.yard_model.specs.Script.{Script, is_name, count_to, with_send, with_order, with_send_of, sends}
use Rattle.yard_model.specs.SlotReads as reads
use Rattle.durable_queue.specs.Kept.{AreFirst}
use Rattle.durable_queue.proofs.FirstLaws.{get_first}

record AreNumbered (all : List Sending) : Type 0 where
  pub each : (i : ℕ) (x : Sending) → slice_get all i ≡ Some x → x.number ≡ count_to x.entity (take i all) + 1

lt_of : (a b : ℕ) → nat_lt a b ≡ true → a < b
lt_of a b e = grind (arith, nat_tests)

le_of : (a b : ℕ) → nat_lt a b ≡ false → b ≤ a
le_of a b e = grind (arith, nat_tests)

get_last : (all : List Sending) (x : Sending) → slice_get (all ++ x ∷ []) (length all) ≡ Some x
get_last [] x = refl
get_last (y ∷ ys) x = get_last ys x

numbered_at : (all : List Sending) (x : Sending) (i : ℕ) (y : Sending) (b : Bool) → nat_lt i (length all) ≡ b → x.number ≡ count_to x.entity all + 1 → AreNumbered all → slice_get (all ++ x ∷ []) i ≡ Some y
    → y.number ≡ count_to y.entity (take i (all ++ x ∷ [])) + 1
numbered_at all x i y true t next n h =
    let inside : i < length all = lt_of i (length all) t in
    let most : i ≤ length all = omega arith in
    n.each i y (sym (get_first all (x ∷ []) i inside) ∙ h) ∙ ap (λ l. count_to y.entity l + 1) (sym (take-append-le i all (x ∷ []) most))
numbered_at all x i y false t next n h =
    let past : length all ≤ i = le_of i (length all) t in
    let within : i < length (all ++ x ∷ []) = slice_get_within (all ++ x ∷ []) i y h in
    let last : i ≡ length all = omega (arith, length-append all (x ∷ [])) in
    let same : x ≡ y = ap (λ o. unwrap_or o x) (sym (get_last all x) ∙ (ap (slice_get (all ++ x ∷ [])) (sym last) ∙ h)) in
    ap (λ (z : Sending). z.number) (sym same) ∙ (next ∙ (ap (λ (z : Sending). count_to z.entity all + 1) same
    ∙ ap (λ l. count_to y.entity l + 1) (sym (ap (λ k. take k (all ++ x ∷ [])) last ∙ take-append_seam all (x ∷ [])))))

numbered_send : (all : List Sending) (e : List ℕ) (k : Command) → AreNumbered all → AreNumbered (with_send all e k)
numbered_send all e k n = let x : Sending = record { entity = e; number = count_to e all + 1; command = k } in record { each = λ i y h. numbered_at all x i y (nat_lt i (length all)) refl refl n h }

numbered_if : (all : List Sending) (e : List ℕ) (k : Command) (b : Bool) → AreNumbered all → AreNumbered (if b then with_send all e k else all)
numbered_if all e k true n = numbered_send all e k n
numbered_if all e k false n = n

numbered_order : (p : ℕ) (all : List Sending) (o : Order) → AreNumbered all → AreNumbered (with_order p all o)
numbered_order p all (order.Send q e k) n = numbered_if all e k (q == p) n
numbered_order p all o n = n

numbered_lines : (p : ℕ) (lines : List Line) (all : List Sending) → AreNumbered all → AreNumbered (fold (with_send_of p) all lines)
numbered_lines p [] all n = n
numbered_lines p (l ∷ ls) all n = numbered_lines p ls (with_send_of p all l) (numbered_order p all l.order n)

numbered_none : AreNumbered []
numbered_none = record { each = λ i x h. absurd (true≢false (sym (ap is_some h))) }

-- the next send has the next number of its name
pub number_next : (c : Script) (p : ℕ) (xs : List Fact) (x : Sending) → AreFirst c p xs → slice_get (sends c p) (reads.queued_in_all xs) ≡ Some x → x.number ≡ reads.queued x.entity xs + 1
number_next c p xs x first next =
    let before : List Sending = take (reads.queued_in_all xs) (sends c p) in
    let count : count_to x.entity before ≡ reads.queued x.entity xs =
    sym (ap length (first.each x.entity) ∙ length-map (filter (λ (y : Sending). is_name y.entity x.entity) before) (λ (y : Sending). y.command)) in
    (numbered_lines p c.orders [] numbered_none).each (reads.queued_in_all xs) x next ∙ ap (λ n. n + 1) count
