-- The lines of facts that may be told: each is heard as its fact.
use Rattle.std.proofs.Common.{◌≡◌, ℕ, sym, subst, ap, ◌∙◌, refl, true≢false}
use Rattle.std.specs.Prelude.{Bool, true, false, List, [], codes, Option, Some, None, if◌then◌else◌}
use Rattle.std.proofs.lemmas.List.{append-nil}
use Rattle.plain_laws.proofs.Booleans.{same_name}
use Rattle.plain_laws.proofs.Lists.{none_is_not_some, some_is}
use Rattle.plain_laws.proofs.Names.{name_itself}
use Rattle.yard_model.specs.declared.fact.Fact.{Fact}
use Rattle.yard_model.specs.declared.fact.Fact.TheVariants as fact
use Rattle.yard_model.specs.Script.{is_name}
use Rattle.yard_model.specs.Text.{fact_line}
use Rattle.state_lines.specs.States.{told_at}
use Rattle.state_lines.specs.Told.{IsTold}
use Rattle.state_lines.proofs.ToldLaws.{read_is_told, told_is_read}
use Rattle.verdict_laws.specs.Lines.{is_end, is_quiet, read_as, read_line}

-- it isn't passed over
pub told_loud : (f : Fact) → IsTold f → is_quiet (fact_line f) ≡ false
told_loud (fact.Granted s n x) k = refl
told_loud (fact.Freed s n why) k = refl
told_loud (fact.Registered x) k = refl
told_loud (fact.Terminated x) k = refl
told_loud (fact.Allocated s x) k = refl
told_loud (fact.Deallocated s) k = refl
told_loud (fact.Wrote e r) k = refl
told_loud (fact.Snapshot e n) k = refl
told_loud (fact.Remembered e) k = refl
told_loud (fact.Forgotten e) k = refl
told_loud (fact.Queued p e n c) k = refl
told_loud (fact.Confirmed p e n) k = refl
told_loud (fact.Start x e) k = refl
told_loud (fact.Stop x e) k = refl
told_loud (fact.WriteFailed x e) k = refl
told_loud (fact.Gone x) k = refl
told_loud (fact.Upgrade v) k = refl
told_loud (fact.Reshard n m) k = refl
told_loud (fact.Active x e m st) k = refl
told_loud f k = absurd k

-- it doesn't end the trace
pub told_goes_on : (f : Fact) → IsTold f → is_end (fact_line f) ≡ false
told_goes_on (fact.Granted s n x) k = refl
told_goes_on (fact.Freed s n why) k = refl
told_goes_on (fact.Registered x) k = refl
told_goes_on (fact.Terminated x) k = refl
told_goes_on (fact.Allocated s x) k = refl
told_goes_on (fact.Deallocated s) k = refl
told_goes_on (fact.Wrote e r) k = refl
told_goes_on (fact.Snapshot e n) k = refl
told_goes_on (fact.Remembered e) k = refl
told_goes_on (fact.Forgotten e) k = refl
told_goes_on (fact.Queued p e n c) k = refl
told_goes_on (fact.Confirmed p e n) k = refl
told_goes_on (fact.Start x e) k = refl
told_goes_on (fact.Stop x e) k = refl
told_goes_on (fact.WriteFailed x e) k = refl
told_goes_on (fact.Gone x) k = refl
told_goes_on (fact.Upgrade v) k = refl
told_goes_on (fact.Reshard n m) k = refl
told_goes_on (fact.Active x e m st) k = refl
told_goes_on f k = absurd k

-- one that is passed over doesn't end the trace
pub quiet_goes_on : (l : List ℕ) → is_quiet l ≡ true → is_end l ≡ false
quiet_goes_on l h = by (is_end l) refl
  where
    by : (b : Bool) → is_end l ≡ b → b ≡ false
    by false e = refl
    by true e = let end : l ≡ codes "report\n" = same_name l (codes "report\n") e in absurd (true≢false (sym h ∙ ap is_quiet end))

-- it is read as its fact
pub line_read : (f : Fact) → IsTold f → read_line (fact_line f) ≡ Some f
line_read f k =
    let there : told_at (fact_line f) ≡ Some f = ap told_at (sym (append-nil (fact_line f))) ∙ told_is_read f [] k in
    ap (read_as (fact_line f)) there ∙ ap (λ b. if b then Some f else None) (name_itself (fact_line f))

-- the line that is read as a fact is that fact's, which may be told
pub record IsRead (l : List ℕ) (f : Fact) : Type 0 where
  pub told : IsTold f
  pub line : l ≡ fact_line f

pub read_is : (l : List ℕ) (f : Fact) → read_line l ≡ Some f → IsRead l f
read_is l f h = by (told_at l) refl h
  where
    same : (g : Fact) → told_at l ≡ Some g → (b : Bool) → is_name (fact_line g) l ≡ b → (if b then Some g else None) ≡ Some f → IsRead l f
    same g r true n e = subst (IsRead l) (some_is g f e) (record { told = read_is_told l g r; line = sym (same_name (fact_line g) l n) })
    same g r false n e = absurd (none_is_not_some f e)

    by : (o : Option Fact) → told_at l ≡ o → read_as l o ≡ Some f → IsRead l f
    by None r e = absurd (none_is_not_some f e)
    by (Some g) r e = same g r (is_name (fact_line g) l) refl e
