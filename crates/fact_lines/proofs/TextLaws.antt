-- The lines of entries: a text is those of one list alone.
use Rattle.std.proofs.Common.{◌≡◌, ◌≢◌, ◌<◌, ◌≤◌, ℕ, ◌+◌, sym, ap, ◌∙◌, refl, arith}
use Rattle.std.specs.Prelude.{true, false, ◌&&◌, List, [], ◌∷◌, ◌++◌, length, Some, None}
use Rattle.std.specs.List.{flat_map, list_all}
use Rattle.std.proofs.lemmas.List.{append-nil, append_assoc, length-append, nil_from_length}
use Rattle.std.proofs.lemmas.List.Folds.{list_all-append}
use Rattle.plain_laws.proofs.Booleans.{and_both, both, true_is_not_false}
use Rattle.yard_model.specs.declared.fact.Fact.{Fact}
use Rattle.yard_model.specs.Text.{fact_line, fact_words, words}
use Rattle.fact_lines.specs.Entry.{is_entry}
use Rattle.fact_lines.specs.Entries.{AreLines, IsNoEntry, IsOther, Took, TookSo}
use Rattle.fact_lines.specs.Reads.{fact_at, line_at, text_at}
use Rattle.fact_lines.proofs.EntryLaws.{entries_are_readable}
use Rattle.fact_lines.proofs.FactLaws.{fact_read, printed_is_read}
use Rattle.fact_lines.proofs.NumberLaws.{none_some, text_front, text_is}

entry_read : (f : Fact) (rest : List ℕ) → is_entry f ≡ true → line_at (fact_line f ++ rest) ≡ Some (f, rest)
entry_read f rest h = printed_is_read f rest (entries_are_readable f h)

one : (x y : Fact × List ℕ) → Some x ≡ Some y → x ≡ y
one x y e = cc

-- no fact stands at the front
pub no_fact : (text : List ℕ) → fact_at text ≡ None → IsNoEntry text
no_fact text e f rest h t = none_some f (sym e ∙ (ap fact_at t ∙ fact_read f rest (entries_are_readable f h)))

fact_there : (text : List ℕ) (g f : Fact) (rest : List ℕ) → fact_at text ≡ Some g → is_entry f ≡ true → text ≡ fact_line f ++ rest → g ≡ f
fact_there text g f rest e h t = it g f (sym e ∙ (ap fact_at t ∙ fact_read f rest (entries_are_readable f h)))
  where
    it : (x y : Fact) → Some x ≡ Some y → x ≡ y
    it x y e = cc

-- what is read is no entry
pub other_fact : (text : List ℕ) (g : Fact) → fact_at text ≡ Some g → is_entry g ≡ false → IsNoEntry text
other_fact text g e n f rest h t = true_is_not_false (sym h ∙ (ap is_entry (sym (fact_there text g f rest e h t)) ∙ n))

-- what is read prints otherwise
pub other_line : (text : List ℕ) (g : Fact) → fact_at text ≡ Some g → text_at (fact_line g) text ≡ None → IsNoEntry text
other_line text g e n f rest h t =
    none_some rest (sym n ∙ (ap (λ x. text_at (fact_line x) text) (fact_there text g f rest e h t) ∙ (ap (text_at (fact_line f)) t ∙ text_front (fact_line f) rest)))

pub took : (text : List ℕ) (f : Fact) (rest : List ℕ) (old new : List Fact) → is_entry f ≡ true → text_at (fact_line f) text ≡ Some rest → new ≡ old ++ f ∷ [] → Took text old new rest
took text f rest old new h e is = record { fact = f; entry = h; facts = is; line = text_is (fact_line f) text rest e }

lines_more : (facts : List Fact) (f : Fact) → flat_map fact_line (facts ++ f ∷ []) ≡ flat_map fact_line facts ++ fact_line f
lines_more [] f = append-nil (fact_line f)
lines_more (g ∷ gs) f = ap (λ t. fact_line g ++ t) (lines_more gs f) ∙ sym (append_assoc (fact_line g) (flat_map fact_line gs) (fact_line f))

pub took_more : (text : List ℕ) (facts new : List Fact) (rest behind : List ℕ) → TookSo text facts rest → Took rest facts new behind → TookSo text new behind
took_more text facts new rest behind s t = record {
  each = ap (list_all is_entry) t.facts ∙ (list_all-append is_entry facts (t.fact ∷ []) ∙ both (list_all is_entry facts) (is_entry t.fact && true) s.each (both (is_entry t.fact) true t.entry refl));
  lines = s.lines ∙ (ap (λ r. flat_map fact_line facts ++ r) t.line ∙ (sym (append_assoc (flat_map fact_line facts) (fact_line t.fact) behind) ∙ ap (λ l. l ++ behind) (sym (lines_more facts t.fact) ∙ ap (flat_map fact_line) (sym t.facts))));
}

-- a line is no empty text
pub shorter : (text : List ℕ) (old new : List Fact) (rest : List ℕ) → Took text old new rest → length rest < length text
shorter text old new rest t =
    let whole : length text ≡ length (fact_line t.fact) + length rest = ap length t.line ∙ length-append (fact_line t.fact) rest in
    let some : length (fact_line t.fact) ≡ length (words (fact_words t.fact)) + 1 = length-append (words (fact_words t.fact)) (10 ∷ []) in
    omega (arith, whole, some)

pub took_all : (text : List ℕ) (facts : List Fact) (rest : List ℕ) → TookSo text facts rest → length rest ≤ 0 → AreLines text facts
took_all text facts rest s h = let e : rest ≡ [] = nil_from_length rest (omega (arith, h)) in record { each = s.each; lines = s.lines ∙ (ap (λ r. flat_map fact_line facts ++ r) e ∙ append-nil (flat_map fact_line facts)) }

-- behind the same lines, the rests are the same
no_rest : (facts others : List Fact) (rest : List ℕ) → list_all is_entry facts ≡ true → list_all is_entry others ≡ true → rest ≢ [] → IsNoEntry rest → flat_map fact_line facts ++ rest ≡ flat_map fact_line others → ⊥
no_rest [] [] rest a b some none e = some e
no_rest [] (g ∷ gs) rest a b some none e = none g (flat_map fact_line gs) (and_both (is_entry g) (list_all is_entry gs) b).0 e
no_rest (f ∷ fs) [] rest a b some none e =
    none_some (f, flat_map fact_line fs ++ rest) (ap line_at (sym e ∙ append_assoc (fact_line f) (flat_map fact_line fs) rest) ∙ entry_read f (flat_map fact_line fs ++ rest) (and_both (is_entry f) (list_all is_entry fs) a).0)
no_rest (f ∷ fs) (g ∷ gs) rest a b some none e =
    let k = and_both (is_entry f) (list_all is_entry fs) a in
    let m = and_both (is_entry g) (list_all is_entry gs) b in
    let same : (f, flat_map fact_line fs ++ rest) ≡ (g, flat_map fact_line gs) = one (f, flat_map fact_line fs ++ rest) (g, flat_map fact_line gs)
    (sym (entry_read f (flat_map fact_line fs ++ rest) k.0) ∙ (ap line_at (sym (append_assoc (fact_line f) (flat_map fact_line fs) rest) ∙ e) ∙ entry_read g (flat_map fact_line gs) m.0)) in
    no_rest fs gs rest k.1 m.1 some none (ap (λ (x : Fact × List ℕ). x.1) same)

pub other_text : (text : List ℕ) (facts : List Fact) (rest : List ℕ) → TookSo text facts rest → 0 < length rest → IsNoEntry rest → IsOther text
other_text text facts rest s some none others l = no_rest facts others rest s.each l.each (λ e. omega (arith, ap length e, some)) none (sym s.lines ∙ l.lines)
