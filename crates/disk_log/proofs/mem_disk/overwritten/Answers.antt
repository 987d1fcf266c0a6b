use Rattle.std.proofs.Common.{◌≡◌, ℕ, ◌+◌, ◌-◌, ◌≤◌, List, inl, inr, ◌++◌, Vec, Global, length, min, take, drop, sym, ◌∙◌, ap, arith}
use Rattle.std.proofs.lemmas.Bool.{cases_lt}
use Rattle.std.proofs.lemmas.List.{append-nil, drop_all, take_all, take_rest}
use Rattle.disk_log.specs.Images.{written}
use Rattle.disk_log.proofs.mem_disk.overwritten.Goals as goal
use Rattle.disk_log.proofs.mem_disk.overwritten.Goals.{then-at-items+then-piece-items+in_ok-extend_from_slice-2, else-at-items, else-at-items-via-then-at-items+else-piece-items, else-at-items-via-else-at-items}

take_least : {A : Type 0} (at : ℕ) (xs : List A) → take (min at (length xs)) xs ≡ take at xs
take_least at xs = elim (cases_lt at (length xs)) [
  | inl less ↦ let same : min at (length xs) ≡ at = omega (arith, less) in ap (λ k. take k xs) same
  | inr all ↦ take_all (min at (length xs)) xs (omega (arith, all)) ∙ sym (take_all at xs all)
]

-- the front and the piece, and what is behind them
module _ {A : Type 0} (at n : ℕ) (piece xs front both new : List A) (count : n ≡ min at (length xs)) (front_is : front ≡ take n xs) (both_is : both ≡ front ++ piece) where
  with_all : new ≡ both ++ drop (at + length piece) xs → new ≡ written at piece xs
  with_all is = is ∙ ap (λ l. l ++ drop (at + length piece) xs) (both_is ∙ ap (λ l. l ++ piece) (front_is ∙ (ap (λ k. take k xs) count ∙ take_least at xs)))

  with_rest : (last : List A) → new ≡ last → last ≡ both ++ take (length xs - (at + length piece)) (drop (at + length piece) xs) → new ≡ written at piece xs
  with_rest last same is = with_all (same ∙ (is ∙ ap (λ l. both ++ l) (take_rest xs (at + length piece))))

  with_none : new ≡ both → length xs ≤ at + length piece → new ≡ written at piece xs
  with_none same all = with_all (same ∙ sym (ap (λ l. both ++ l) (drop_all (at + length piece) xs all) ∙ append-nil both))

pub returns : goal.returns
returns g c = elim c.if-at-items.branch [
  | then-at-items+then-piece-items+in_ok-extend_from_slice-2 w ↦
      with_rest c.args.at c.min.result c.args.piece.now c.args.items.now c.in_ok-next.next.items c.extend_from_slice.new.self.items c.if-at-items.next.items c.min.ensures c.in_ok-next.ensures.items c.in_ok-extend_from_slice.ensures.items
      w.extend_from_slice-then-piece-items.new.self.items (ap (λ (v : Vec g.row.T.Denot Global). v.items) w.next-is) w.in_ok-extend_from_slice-2.ensures.items
  | else-at-items w ↦
      with_none c.args.at c.min.result c.args.piece.now c.args.items.now c.in_ok-next.next.items c.extend_from_slice.new.self.items c.if-at-items.next.items c.min.ensures c.in_ok-next.ensures.items c.in_ok-extend_from_slice.ensures.items
      (ap (λ (v : Vec g.row.T.Denot Global). v.items) w.next-is)
      (elim w.else-at-items.branch [
        | else-at-items-via-then-at-items+else-piece-items x ↦ omega (arith, x.if-piece-items.false)
        | else-at-items-via-else-at-items x ↦ omega (arith, x.if-at-items.false)
      ])
]
