-- The list of a slot, and the lists of all with the report behind them.
use Rattle.std.proofs.Common.{◌≡◌, ℕ, List, [], ◌∷◌, ◌++◌, length, ap, sym, ◌∙◌, subst, refl}
use Rattle.std.specs.Prelude.{◌==◌, Result, false, map, codes, decimal}
use Rattle.std.specs.List.{flat_map}
use Rattle.std.proofs.lemmas.List.{length-map}
use Rattle.std.proofs.lemmas.List.Folds.{flat_map-map}
use Rattle.yard_model.specs.declared.fact.Fact.{Fact}
use Rattle.yard_model.specs.declared.incarnation.Slot.{Slot}
use Rattle.yard_model.specs.Script.{Setting}
use Rattle.yard_model.specs.SlotLists.{SlotLists}
use Rattle.yard_model.specs.Text.{Bytes, fact_line, line, report, slot_lines, slot_text, lists_text}
use Rattle.trace_text.specs.Grown.{Grows}
use Rattle.trace_text.specs.Slots.{slots_text}
use Rattle.trace_text.proofs.GrownLaws.{grows_on}

abbrev slot_line : Slot → ℕ → Bytes
slot_line s n = line (codes "slot" ∷ slot_text s ∷ decimal n ∷ [])

-- a list with an entry, and what the entries say
slot_lines_are : {E : Type 0} (s : Slot) (fact_of : E → Fact) (list : List E) → (length list == 0) ≡ false
    → slot_line s (length list) ++ flat_map (λ e. fact_line (fact_of e)) list ≡ slot_lines s (map fact_of list)
slot_lines_are s fact_of [] some = cc
slot_lines_are s fact_of (x ∷ xs) some =
    ap (λ n. slot_line s n ++ flat_map (λ e. fact_line (fact_of e)) (x ∷ xs)) (sym (length-map (x ∷ xs) fact_of))
    ∙ ap (λ l. slot_line s (length (map fact_of (x ∷ xs))) ++ l) (sym (flat_map-map fact_line fact_of (x ∷ xs)))

-- a slot's line, and behind it what the entries say
pub slot_grows : {E X Y : Type 0} (s : Slot) (fact_of : E → Fact) (list : List E) (r : Result X Y) (old mid new : Bytes) → (length list == 0) ≡ false
    → mid ≡ old ++ line (codes "slot" ∷ slot_text s ∷ decimal (length list) ∷ []) → Grows r mid new (flat_map (λ e. fact_line (fact_of e)) list) → Grows r old new (slot_lines s (map fact_of list))
slot_grows s fact_of list r old mid new some first told =
    subst (λ (l : Bytes). Grows r old new l) (slot_lines_are s fact_of list some) (grows_on r old mid new (slot_line s (length list)) (flat_map (λ e. fact_line (fact_of e)) list) first told)

-- the lists of all slots, and the report behind them
pub lists_are : (set : Setting) (lists : SlotLists) → slots_text set lists ++ report set lists ≡ lists_text set lists
lists_are set lists = refl
