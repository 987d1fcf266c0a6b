use Rattle.std.proofs.Common.{arith, ◌≡◌, ◌<◌, ℕ, List, map, length, take, drop, ◌++◌, refl, sym, ap, ◌∙◌, append-nil, get_or, add-one}
use Rattle.atomic_table.specs.Table.{turned}
use Rattle.lease_table.specs.Leasing.{empty}
use Rattle.lease_table.proofs.Turns.{turns, brought}
use Rattle.lease_table.proofs.order.bring.Goals as goal

pub loop-init : goal.loop-init
loop-init c = record { same = (refl, refl, refl); carried = c.requires.carried ∙ ap (λ (l : List ℕ). map empty l) (sym (append-nil c.args.order.now.items)) }

pub loop-preserved : goal.loop-preserved
loop-preserved c =
    let xs : List ℕ = c.args.order.now.items in
    let i : ℕ = c.loop.counter in
    let short : i < length xs = let a : c.place_of-at.result < length c.as_slice.result.now = c.place_of-at.ensures.0 in let b : length c.as_slice.result.now ≡ length xs = ap (λ (l : List ℕ). length l) c.as_slice.ensures.value in let t = c.loop-test.true in omega arith in
    let e = c.turn.ensures in record {
      same = (e.0 ∙ c.loop.invariant.same.0, e.1 ∙ c.loop.invariant.same.1, ap (λ m. m.0) e.2 ∙ c.loop.invariant.same.2);
      carried = ap (λ m. m.1) e.2 ∙ ap turned c.loop.invariant.carried ∙ (turns xs i short ∙ ap (λ (n : ℕ). map empty (drop n xs ++ take n xs)) (sym (add-one i)));
    }

pub returns-clause-seat : goal.returns-clause-seat
returns-clause-seat c = c.loop.invariant.same

pub returns-clause-order : goal.returns-clause-order
returns-clause-order c =
    let xs : List ℕ = c.args.order.now.items in
    let e = c.place_of-at.ensures in
    let value : c.as_slice.result.now ≡ xs = c.as_slice.ensures.value in
    let short : c.place_of-at.result < length xs = let a : c.place_of-at.result < length c.as_slice.result.now = e.0 in let b : length c.as_slice.result.now ≡ length xs = ap (λ (l : List ℕ). length l) value in omega arith in
    let here : get_or xs c.place_of-at.result 0 ≡ c.args.slot = ap (λ (l : List ℕ). get_or l c.place_of-at.result 0) (sym value) ∙ e.1 in
    let end : c.loop.counter ≡ c.place_of-at.result = let t = c.loop-test.false in omega arith in
    brought c.args.slot c.place_of-at.result xs _ _ short here c.rotate_left.ensures.items (c.loop.invariant.carried ∙ ap (λ (n : ℕ). map empty (drop n xs ++ take n xs)) end)
