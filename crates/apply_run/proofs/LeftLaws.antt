-- The batches of a run of `log`, up to any of them.
use Rattle.std.proofs.Common.{◌≡◌, ◌<◌, ◌≤◌, ℕ, zero, suc, ◌+◌, sym, ap, ◌∙◌, refl, arith}
use Rattle.std.specs.Prelude.{List, [], ◌∷◌, ◌++◌, length, take}
use Rattle.std.specs.List.{flat_map}
use Rattle.std.proofs.lemmas.List.{append-nil, append_assoc, take_more}
use Rattle.yard_model.specs.declared.fact.Fact.{Fact}
use Rattle.yard_model.specs.Script.{Script}
use Rattle.yard_model.specs.World.{wire_limit}
use Rattle.logged_lines.specs.Logged.{facts_to, order_facts, orders_of}
use Rattle.logged_lines.proofs.RunLaws.{facts_more, order_at, orders_long}
use Rattle.apply_laws.specs.Applying.{LeftIsTaken}
use Rattle.apply_run.specs.Left.{LeftOfLogIsTaken}

flat_both : (xs ys : List (List Fact)) → flat_map (λ f. f) (xs ++ ys) ≡ flat_map (λ f. f) xs ++ flat_map (λ f. f) ys
flat_both [] ys = refl
flat_both (x ∷ xs) ys = ap (λ l. x ++ l) (flat_both xs ys) ∙ sym (append_assoc x (flat_map (λ f. f) xs) (flat_map (λ f. f) ys))

facts_are : (c : Script) (n : ℕ) → n ≤ length (orders_of c) → flat_map (λ f. f) (take n (orders_of c)) ≡ facts_to c n
facts_are c zero le = refl
facts_are c (suc n) le =
    let inside : n < length (orders_of c) = omega (arith, le) in
    let next : suc n ≡ n + 1 = omega arith in
    let x : List Fact = order_facts c n in
    let front : take (n + 1) (orders_of c) ≡ take n (orders_of c) ++ x ∷ [] =
    take_more (orders_of c) n x inside ∙ ap (λ y. take n (orders_of c) ++ y ∷ []) (sym (order_at c n x (omega (arith, le, orders_long c)))) in
    ap (λ k. flat_map (λ f. f) (take k (orders_of c))) next
    ∙ (ap (flat_map (λ f. f)) front
    ∙ (flat_both (take n (orders_of c)) (x ∷ [])
    ∙ (ap (λ l. flat_map (λ f. f) (take n (orders_of c)) ++ l) (append-nil x)
    ∙ (ap (λ l. l ++ x) (facts_are c n (omega (arith, le)))
    ∙ (sym (facts_more c n) ∙ ap (facts_to c) (sym next))))))

pub left_of_log : LeftIsTaken → LeftOfLogIsTaken
left_of_log left c k script are = left c wire_limit (orders_of c) k script (facts_are c) are
