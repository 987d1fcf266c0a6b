-- An image spells one list of batches.
use Rattle.std.proofs.Common.{◌≡◌, ℕ, sym, ap, ◌∙◌, refl, subst, arith}
use Rattle.std.specs.Prelude.{true, List, [], ◌∷◌, ◌++◌, map}
use Rattle.std.specs.List.{list_all}
use Rattle.plain_laws.proofs.Booleans.{and_both}
use Rattle.yard_model.specs.declared.fact.Fact.{Fact}
use Rattle.fact_lines.specs.Entry.{is_entry}
use Rattle.fact_lines.specs.Readable.{AreReadable}
use Rattle.fact_lines.proofs.EntryLaws.{entries_are_readable}
use Rattle.fact_lines.proofs.FactLaws.{texts_tell}
use Rattle.disk_log.specs.Frames.{framed, AreTexts, Holds, Says}
use Rattle.disk_log.specs.Spelled.{AreBatches, Spells, lines}
use Rattle.disk_log.proofs.SpellLaws.{frame_behind, frame_one, text_of_batch}

are_readable : (facts : List Fact) → list_all is_entry facts ≡ true → AreReadable facts
are_readable [] each = tt
are_readable (f ∷ fs) each = let m = and_both (is_entry f) (list_all is_entry fs) each in (entries_are_readable f m.0, are_readable fs m.1)

says_once : (texts others : List (List ℕ)) (image : List ℕ) → AreTexts texts → AreTexts others → Says texts image → Says others image → texts ≡ others
says_once [] [] image are too s t = refl
says_once [] (o ∷ others) image are too s t =
    let e : t.0 ∷ (framed o ++ t.1) ≡ 0 ∷ s.0 = sym t.3 ∙ s.1 in
    let gate : t.0 ≡ 0 = cc in
    absurd (omega (arith, gate, t.2))
says_once (x ∷ texts) [] image are too s t =
    let e : s.0 ∷ (framed x ++ s.1) ≡ 0 ∷ t.0 = sym s.3 ∙ t.1 in
    let gate : s.0 ≡ 0 = cc in
    absurd (omega (arith, gate, s.2))
says_once (x ∷ texts) (o ∷ others) image are too s t =
    let e : s.0 ∷ (framed x ++ s.1) ≡ t.0 ∷ (framed o ++ t.1) = sym s.3 ∙ t.3 in
    let frames : framed x ++ s.1 ≡ framed o ++ t.1 = cc in
    let first : x ≡ o = frame_one x o s.1 t.1 are.0 too.0 frames in
    let rest : s.1 ≡ t.1 = frame_behind x o s.1 t.1 are.0 too.0 frames in
    let more : texts ≡ others = says_once texts others s.1 are.1 too.1 s.4 (subst (Says others) (sym rest) t.4) in
    ap (λ y. y ∷ texts) first ∙ ap (λ l. o ∷ l) more

pub holds_once : (image : List ℕ) (texts others : List (List ℕ)) → AreTexts texts → AreTexts others → Holds texts image → Holds others image → texts ≡ others
holds_once [] texts others are too s t = s ∙ sym t
holds_once (gate ∷ []) texts others are too s t = s ∙ sym t
holds_once (gate ∷ next ∷ image) texts others are too s t = says_once texts others (gate ∷ next ∷ image) are too s t

pub texts_of : (batches : List (List Fact)) → AreBatches batches → AreTexts (map lines batches)
texts_of [] are = tt
texts_of (b ∷ batches) are = (text_of_batch b are.0, texts_of batches are.1)

pub batches_told : (batches others : List (List Fact)) → AreBatches batches → AreBatches others → map lines batches ≡ map lines others → batches ≡ others
batches_told [] [] are too e = refl
batches_told [] (o ∷ others) are too e = cc
batches_told (b ∷ batches) [] are too e = cc
batches_told (b ∷ batches) (o ∷ others) are too e =
    let texts : lines b ≡ lines o = cc in
    let rest : map lines batches ≡ map lines others = cc in
    let facts : b ≡ o = texts_tell b o (are_readable b are.0.entries) (are_readable o too.0.entries) texts in
    ap (λ x. x ∷ batches) facts ∙ ap (λ l. o ∷ l) (batches_told batches others are.1 too.1 rest)

pub spells_once : (image : List ℕ) (batches others : List (List Fact)) → Spells image batches → Spells image others → batches ≡ others
spells_once image batches others s t =
    batches_told batches others s.batches_are t.batches_are
    (holds_once image (map lines batches) (map lines others) (texts_of batches s.batches_are) (texts_of others t.batches_are) s.texts t.texts)
