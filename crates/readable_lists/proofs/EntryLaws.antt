-- The lines of a slot's entries are read as those entries.
use Rattle.std.proofs.Common.{◌≡◌, sym, ap, ap₂, ◌∙◌, refl}
use Rattle.std.specs.Prelude.{ℕ, List, [], ◌∷◌, ◌++◌, Some, None}
use Rattle.std.specs.List.{flat_map}
use Rattle.std.proofs.lemmas.List.{append_assoc}
use Rattle.yard_model.specs.declared.fact.Fact.{Fact}
use Rattle.yard_model.specs.declared.fact.Fact.TheVariants as fact
use Rattle.yard_model.specs.declared.incarnation.Slot.{Slot}
use Rattle.yard_model.specs.declared.incarnation.Slot.TheVariants as slot
use Rattle.yard_model.specs.Text.{fact_line}
use Rattle.fact_lines.specs.Readable.{IsReadable}
use Rattle.fact_lines.specs.Reads.{line_at}
use Rattle.fact_lines.proofs.FactLaws.{printed_is_read}
use Rattle.fact_lines.proofs.NumberLaws.{none_some}
use Rattle.readable_lists.specs.Readable.{AreTold, IsTold}

-- what the line of an entry is read as
abbrev said : Fact → Fact
said (fact.Resharded s n k) = fact.Reshard n k
said f = f

-- the entry of this slot that is read so
abbrev heard : Slot → Fact → Fact
heard (slot.Shard s) (fact.Reshard n k) = fact.Resharded s n k
heard s f = f

said_line : (f : Fact) → fact_line f ≡ fact_line (said f)
said_line (fact.Resharded s n k) = refl
said_line f = refl

said_reads : (s : Slot) (f : Fact) → IsTold s f → IsReadable (said f)
said_reads (slot.Shard s) (fact.Resharded t n k) h = (h.1, h.2)
said_reads (slot.Shard s) (fact.Reshard n k) h = absurd h
said_reads slot.Coordinator (fact.Resharded t n k) h = absurd h
said_reads (slot.Queue p) (fact.Resharded t n k) h = absurd h
said_reads (slot.Shard s) f h = h
said_reads slot.Coordinator f h = h
said_reads (slot.Queue p) f h = h

heard_said : (s : Slot) (f : Fact) → IsTold s f → heard s (said f) ≡ f
heard_said (slot.Shard s) (fact.Resharded t n k) h = ap (λ i. fact.Resharded i n k) (sym h.0)
heard_said (slot.Shard s) (fact.Reshard n k) h = absurd h
heard_said slot.Coordinator (fact.Resharded t n k) h = absurd h
heard_said (slot.Queue p) (fact.Resharded t n k) h = absurd h
heard_said (slot.Shard s) f h = refl
heard_said slot.Coordinator f h = refl
heard_said (slot.Queue p) f h = refl

entry_read : (s : Slot) (f : Fact) (rest : List ℕ) → IsTold s f → line_at (fact_line f ++ rest) ≡ Some (said f, rest)
entry_read s f rest h = ap (λ l. line_at (l ++ rest)) (said_line f) ∙ printed_is_read (said f) rest (said_reads s f h)

-- a list of entries, and what stands behind it
lines_read : (s : Slot) (f : Fact) (fs : List Fact) (rest : List ℕ) → IsTold s f → line_at (flat_map fact_line (f ∷ fs) ++ rest) ≡ Some (said f, flat_map fact_line fs ++ rest)
lines_read s f fs rest h = ap line_at (append_assoc (fact_line f) (flat_map fact_line fs) rest) ∙ entry_read s f (flat_map fact_line fs ++ rest) h

one : (x y : Fact × List ℕ) → Some x ≡ Some y → x ≡ y
one x y e = cc

-- where no line stands behind them, lists of entries that have one text are the same, and so is what stands behind
pub entries_tell : (s : Slot) (fs gs : List Fact) (a b : List ℕ) → AreTold s fs → AreTold s gs → line_at a ≡ None → line_at b ≡ None → flat_map fact_line fs ++ a ≡ flat_map fact_line gs ++ b → (fs ≡ gs) × (a ≡ b)
entries_tell s [] [] a b kf kg na nb e = (refl, e)
entries_tell s [] (g ∷ gs) a b kf kg na nb e = absurd (none_some (said g, flat_map fact_line gs ++ b) (sym na ∙ (ap line_at e ∙ lines_read s g gs b kg.0)))
entries_tell s (f ∷ fs) [] a b kf kg na nb e = absurd (none_some (said f, flat_map fact_line fs ++ a) (sym nb ∙ (ap line_at (sym e) ∙ lines_read s f fs a kf.0)))
entries_tell s (f ∷ fs) (g ∷ gs) a b kf kg na nb e =
    let same : (said f, flat_map fact_line fs ++ a) ≡ (said g, flat_map fact_line gs ++ b) = one _ _ (sym (lines_read s f fs a kf.0) ∙ (ap line_at e ∙ lines_read s g gs b kg.0)) in
    let first : f ≡ g = sym (heard_said s f kf.0) ∙ (ap (λ (x : Fact × List ℕ). heard s x.0) same ∙ heard_said s g kg.0) in
    let more : (fs ≡ gs) × (a ≡ b) = entries_tell s fs gs a b kf.1 kg.1 na nb (ap (λ (x : Fact × List ℕ). x.1) same) in
    (ap₂ (λ (x : Fact) (xs : List Fact). x ∷ xs) first more.0, more.1)
