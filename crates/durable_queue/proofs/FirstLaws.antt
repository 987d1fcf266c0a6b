-- What is queued are the first sends: how many they are, and which.
use Rattle.std.proofs.Common.{◌≡◌, ◌<◌, ◌≤◌, ℕ, zero, suc, ◌+◌, sym, ap, ◌∙◌, refl, arith, take, drop, length-append, not-suc-le-zero, le_of_suc-le-suc}
use Rattle.std.specs.Prelude.{true, List, [], ◌∷◌, ◌++◌, length, map, filter, Option, Some, None, is_some, IfSome, slice_get, slice_index_or, if◌then◌else◌}
use Rattle.std.proofs.lemmas.Bool.Decides.{Decides-eqb}
use Rattle.std.proofs.lemmas.Slice.Eq.{slice_eq-Decides}
use Rattle.std.proofs.lemmas.List.{map-append, take-append-drop}
use Rattle.std.proofs.lemmas.List.Elements.{filter-append}
use Rattle.yard_model.specs.declared.charter.Sending.{Sending}
use Rattle.yard_model.specs.declared.fact.Fact.{Fact}
use Rattle.yard_model.specs.Script.{Script, is_name, sends}
use Rattle.yard_model.specs.SlotReads as reads
use Rattle.durable_queue.specs.Kept.{commands_to, AreFirst}
use Rattle.durable_queue.proofs.SendsLaws.{commands_next}

-- the commands to a name are those of the first sends, and then those of the others
commands_split : (e : List ℕ) (i : ℕ) (all : List Sending) → commands_to e all ≡ commands_to e (take i all) ++ commands_to e (drop i all)
commands_split e i all =
    ap (commands_to e) (sym (take-append-drop i all))
    ∙ (ap (map (λ (y : Sending). y.command)) (filter-append (λ (y : Sending). is_name y.entity e) (take i all) (drop i all))
    ∙ map-append (λ (y : Sending). y.command) (filter (λ (y : Sending). is_name y.entity e) (take i all)) (filter (λ (y : Sending). is_name y.entity e) (drop i all)))

prefix_length : {A : Type 0} (xs ys zs : List A) → zs ≡ xs ++ ys → length xs ≤ length zs
prefix_length xs ys zs e = let size : length zs ≡ length xs + length ys = ap length e ∙ length-append xs ys in omega arith

pub get_first : {A : Type 0} (xs ys : List A) (i : ℕ) → i < length xs → slice_get (xs ++ ys) i ≡ slice_get xs i
get_first [] ys i h = absurd (not-suc-le-zero h)
get_first (x ∷ xs) ys zero h = refl
get_first (x ∷ xs) ys (suc i) h = get_first xs ys i (le_of_suc-le-suc h)

-- no more are queued of a name than are sent to it
pub queued_fits : (c : Script) (p : ℕ) (xs : List Fact) (e : List ℕ) → AreFirst c p xs → reads.queued e xs ≤ length (commands_to e (sends c p))
queued_fits c p xs e first =
    let size : reads.queued e xs ≡ length (commands_to e (take (reads.queued_in_all xs) (sends c p))) = ap length (first.each e) in
    let more : length (commands_to e (take (reads.queued_in_all xs) (sends c p))) ≤ length (commands_to e (sends c p)) =
    prefix_length (commands_to e (take (reads.queued_in_all xs) (sends c p))) (commands_to e (drop (reads.queued_in_all xs) (sends c p))) (commands_to e (sends c p)) (commands_split e (reads.queued_in_all xs) (sends c p)) in
    omega arith

-- the command of a queued number is the one that is sent
pub command_is : (c : Script) (p : ℕ) (xs : List Fact) (e : List ℕ) (i : ℕ) → AreFirst c p xs → i < reads.queued e xs → slice_get (commands_to e (sends c p)) i ≡ slice_get (reads.commands e xs) i
command_is c p xs e i first h =
    let n : ℕ = reads.queued_in_all xs in
    let all : List Sending = sends c p in
    let size : reads.queued e xs ≡ length (commands_to e (take n all)) = ap length (first.each e) in
    ap (λ l. slice_get l i) (commands_split e n all) ∙ (get_first (commands_to e (take n all)) (commands_to e (drop n all)) i (omega arith) ∙ ap (λ l. slice_get l i) (sym (first.each e)))

-- a name that is sent to has commands
pub some_commands : (all : List Sending) (i : ℕ) (x : Sending) → i < length all → x ≡ slice_index_or all i x → 0 < length (commands_to x.entity all)
some_commands all i x h is =
    let own : is_name x.entity x.entity ≡ true = (slice_eq-Decides Decides-eqb x.entity x.entity (is_name x.entity x.entity) refl).1 refl in
    let here : length (commands_to x.entity (take (i + 1) all)) ≡ length (commands_to x.entity (take i all)) + 1 =
    ap length (commands_next x.entity all i x h is ∙ ap (λ b. if b then commands_to x.entity (take i all) ++ x.command ∷ [] else commands_to x.entity (take i all)) own) ∙ length-append (commands_to x.entity (take i all)) (x.command ∷ []) in
    let more : length (commands_to x.entity (take (i + 1) all)) ≤ length (commands_to x.entity all) =
    prefix_length (commands_to x.entity (take (i + 1) all)) (commands_to x.entity (drop (i + 1) all)) (commands_to x.entity all) (commands_split x.entity (i + 1) all) in
    omega arith

-- within a list there is an item
pub get_within : {A : Type 0} (xs : List A) (i : ℕ) → i < length xs → is_some (slice_get xs i) ≡ true
get_within [] i h = absurd (not-suc-le-zero h)
get_within (x ∷ xs) zero h = refl
get_within (x ∷ xs) (suc i) h = get_within xs i (le_of_suc-le-suc h)

-- an answer is what it is equal to
pub some_is : {A : Type 0} (answer wanted : Option A) → answer ≡ wanted → IfSome answer (λ x. wanted ≡ Some x)
some_is None wanted e = tt
some_is (Some x) wanted e = sym e
