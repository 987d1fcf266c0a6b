-- Lines of groups are the lines of their bytes.
use Rattle.std.proofs.Common.{◌≡◌, sym, ap, ◌∙◌, refl, true≢false}
use Rattle.std.specs.Prelude.{Bool, true, false, cond, List, [], ◌∷◌, ◌++◌, map, IsTrue}
use Rattle.std.specs.List.{list_all, onto_first, slice_split}
use Rattle.std.specs.Str.Lines.{lines, lines_of_parts, strip_carriage_return}
use Rattle.std.proofs.lemmas.List.{append-nil}
use Rattle.plain_laws.proofs.Booleans.{and_both}
use Rattle.yard_model.specs.Text.{Bytes}
use Rattle.serve_run.specs.Scenes.{LinesAddUp, ends_line, joined}
use Rattle.serve_run.specs.Windows.{is_lf}

-- whole lines are parts, and an empty one behind them
record Parts (bytes : Bytes) : Type 0 where
  first : Bytes
  others : List Bytes
  alone : slice_split is_lf bytes ≡ (first ∷ others) ++ [] ∷ []
  before : (more : Bytes) → slice_split is_lf (bytes ++ more) ≡ (first ∷ others) ++ slice_split is_lf more

parts_of : (bytes : Bytes) → IsTrue (ends_line bytes) → Parts bytes
parts_of [] ends = absurd (true≢false (sym ends))
parts_of (b ∷ []) ends = record {
  first = [];
  others = [];
  alone = ap (λ t. cond t ([] ∷ [] ∷ []) ((b ∷ []) ∷ [])) ends;
  before = λ more. ap (λ t. cond t ([] ∷ slice_split is_lf more) (onto_first b (slice_split is_lf more))) ends;
}
parts_of (b ∷ d ∷ bytes) ends = by (is_lf b) refl (parts_of (d ∷ bytes) ends)
  where
    by : (t : Bool) → is_lf b ≡ t → Parts (d ∷ bytes) → Parts (b ∷ d ∷ bytes)
    by true e p = record {
      first = [];
      others = p.first ∷ p.others;
      alone = ap (λ t. cond t ([] ∷ slice_split is_lf (d ∷ bytes)) (onto_first b (slice_split is_lf (d ∷ bytes)))) e ∙ ap (λ ps. [] ∷ ps) p.alone;
      before = λ more. ap (λ t. cond t ([] ∷ slice_split is_lf ((d ∷ bytes) ++ more)) (onto_first b (slice_split is_lf ((d ∷ bytes) ++ more)))) e ∙ ap (λ ps. [] ∷ ps) (p.before more);
    }
    by false e p = record {
      first = b ∷ p.first;
      others = p.others;
      alone = ap (λ t. cond t ([] ∷ slice_split is_lf (d ∷ bytes)) (onto_first b (slice_split is_lf (d ∷ bytes)))) e ∙ ap (onto_first b) p.alone;
      before = λ more. ap (λ t. cond t ([] ∷ slice_split is_lf ((d ∷ bytes) ++ more)) (onto_first b (slice_split is_lf ((d ∷ bytes) ++ more)))) e ∙ ap (onto_first b) (p.before more);
    }

-- there is a first part
record HasPart (ps : List Bytes) : Type 0 where
  part : Bytes
  others : List Bytes
  split : ps ≡ part ∷ others

some_part : (bytes : Bytes) → HasPart (slice_split is_lf bytes)
some_part [] = record { part = []; others = []; split = refl }
some_part (b ∷ bytes) = by (is_lf b) (slice_split is_lf bytes) (some_part bytes)
  where
    by : (t : Bool) (ps : List Bytes) → HasPart ps → HasPart (cond t ([] ∷ ps) (onto_first b ps))
    by true ps h = record { part = []; others = ps; split = refl }
    by false ps h = record { part = b ∷ h.part; others = h.others; split = ap (onto_first b) h.split }

parts_both : (p : Bytes) (ps : List Bytes) (q : Bytes) (qs : List Bytes) → lines_of_parts ((p ∷ ps) ++ q ∷ qs) ≡ map strip_carriage_return (p ∷ ps) ++ lines_of_parts (q ∷ qs)
parts_both p [] q qs = refl
parts_both p (r ∷ ps) q qs = ap (λ ls. strip_carriage_return p ∷ ls) (parts_both r ps q qs)

lines_both : (bytes more : Bytes) → IsTrue (ends_line bytes) → lines (bytes ++ more) ≡ lines bytes ++ lines more
lines_both bytes more ends =
    let p : Parts bytes = parts_of bytes ends in
    let q : HasPart (slice_split is_lf more) = some_part more in
    let done : List Bytes = map strip_carriage_return (p.first ∷ p.others) in
    let here : lines bytes ≡ done = ap lines_of_parts p.alone ∙ (parts_both p.first p.others [] [] ∙ append-nil done) in
    ap lines_of_parts (p.before more ∙ ap (λ ps. (p.first ∷ p.others) ++ ps) q.split)
    ∙ (parts_both p.first p.others q.part q.others ∙ (ap (λ ps. done ++ lines_of_parts ps) (sym q.split) ∙ ap (λ ls. ls ++ lines more) (sym here)))

pub lines_add_up : LinesAddUp
lines_add_up [] ends = refl
lines_add_up (g ∷ groups) ends =
    let m = and_both (ends_line g) (list_all ends_line groups) ends in
    ap (λ ls. lines g ++ ls) (lines_add_up groups m.1) ∙ sym (lines_both g (joined groups) m.0)
