-- Facts whose lines are read, and lines that are read as facts.
use Rattle.std.proofs.Common.{◌≡◌, ℕ, sym, ap, ◌∙◌, refl, arith}
use Rattle.std.specs.Prelude.{List, [], ◌∷◌, ◌++◌, codes, decimal, Option, Some, None, if◌then◌else◌}
use Rattle.std.proofs.lemmas.List.{append_assoc}
use Rattle.plain_laws.proofs.Booleans.{number_itself}
use Rattle.plain_laws.proofs.Lists.{some_is}
use Rattle.yard_model.specs.declared.fact.Fact.{Fact}
use Rattle.yard_model.specs.declared.fact.Fact.TheVariants as fact
use Rattle.yard_model.specs.declared.incarnation.Incarnation.{Incarnation}
use Rattle.yard_model.specs.declared.state.State.{State}
use Rattle.yard_model.specs.Text.{fact_line, incarnation_text, state_text, words}
use Rattle.fact_lines.specs.Readable.{IsReadable}
use Rattle.fact_lines.specs.Reads.{and_then, fact_at, or_else}
use Rattle.fact_lines.proofs.FactLaws.{fact_read}
use Rattle.fact_lines.proofs.NumberLaws.{entity_read}
use Rattle.fact_lines.proofs.PartLaws.{incarnation_read}
use Rattle.state_lines.specs.Laws.{LinesTell, ReadIsTold, ToldIsRead}
use Rattle.state_lines.specs.States.{active_at, told_at, upgraded}
use Rattle.state_lines.specs.Told.{IsTold}
use Rattle.state_lines.proofs.RangeLaws as ranges
use Rattle.state_lines.proofs.StateLaws.{standing_read}

active_read : (x : Incarnation) (e : List ℕ) (m : ℕ) (st : State) (rest : List ℕ) → IsTold (fact.Active x e m st) → active_at (fact_line (fact.Active x e m st) ++ rest) ≡ Some (fact.Active x e m st)
active_read x e m st rest k =
    let behind : List ℕ = 32 ∷ (decimal m ++ (32 ∷ (state_text st ++ (10 ∷ rest)))) in
    let text : fact_line (fact.Active x e m st) ++ rest ≡ codes "active " ++ (incarnation_text x ++ (32 ∷ (e ++ behind))) =
    append_assoc (words (codes "active" ∷ incarnation_text x ∷ e ∷ decimal m ∷ state_text st ∷ [])) (10 ∷ []) rest
    ∙ ap (λ t. codes "active " ++ t)
    (append_assoc (incarnation_text x) (32 ∷ words (e ∷ decimal m ∷ state_text st ∷ [])) (10 ∷ rest)
    ∙ ap (λ t. incarnation_text x ++ (32 ∷ t))
    (append_assoc e (32 ∷ words (decimal m ∷ state_text st ∷ [])) (10 ∷ rest)
    ∙ ap (λ t. e ++ (32 ∷ t)) (append_assoc (decimal m) (32 ∷ state_text st) (10 ∷ rest)))) in
    ap active_at text ∙ rw (incarnation_read x (32 ∷ (e ++ behind)) k.0 refl, entity_read e behind k.1 refl, standing_read m st rest k.2 k.3) refl

-- another fact's line doesn't begin so
not_active : (f : Fact) (rest : List ℕ) → IsReadable f → active_at (fact_line f ++ rest) ≡ None
not_active (fact.Granted s n x) rest k = refl
not_active (fact.Freed s n why) rest k = refl
not_active (fact.Registered x) rest k = refl
not_active (fact.Terminated x) rest k = refl
not_active (fact.Allocated s x) rest k = refl
not_active (fact.Deallocated s) rest k = refl
not_active (fact.Wrote e r) rest k = refl
not_active (fact.Snapshot e n) rest k = refl
not_active (fact.Remembered e) rest k = refl
not_active (fact.Forgotten e) rest k = refl
not_active (fact.Queued p e n c) rest k = refl
not_active (fact.Confirmed p e n) rest k = refl
not_active (fact.Start x e) rest k = refl
not_active (fact.Stop x e) rest k = refl
not_active (fact.WriteFailed x e) rest k = refl
not_active (fact.Gone x) rest k = refl
not_active (fact.Upgrade v) rest k = refl
not_active (fact.Reshard n m) rest k = refl
not_active f rest k = absurd k

other_read : (f : Fact) (rest : List ℕ) → IsReadable f → upgraded f ≡ Some f → told_at (fact_line f ++ rest) ≡ Some f
other_read f rest k u =
    ap (λ (o : Option Fact). or_else o (and_then (fact_at (fact_line f ++ rest)) upgraded)) (not_active f rest k) ∙ (ap (λ (o : Option Fact). and_then o upgraded) (fact_read f rest k) ∙ u)

pub told_is_read : ToldIsRead
told_is_read (fact.Active x e m st) rest k = ap (λ (o : Option Fact). or_else o (and_then (fact_at (fact_line (fact.Active x e m st) ++ rest)) upgraded)) (active_read x e m st rest k)
told_is_read (fact.Upgrade v) rest k = other_read (fact.Upgrade v) rest (omega (arith, k)) (ap (λ b. if b then Some (fact.Upgrade v) else None) (number_itself v 2 k))
told_is_read f rest k = other_read f rest k refl

pub read_is_told : ReadIsTold
read_is_told text f h = ranges.read_is_told text f h

pub lines_tell : LinesTell
lines_tell f g kf kg e = some_is f g (sym (told_is_read f [] kf) ∙ (ap (λ l. told_at (l ++ [])) e ∙ told_is_read g [] kg))
