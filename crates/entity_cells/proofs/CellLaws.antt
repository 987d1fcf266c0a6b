-- What a cell keeps of each producer, as far as there are producers.
use Rattle.std.proofs.Common.{◌≡◌, ℕ, ◌<◌, ◌≤◌, List, [], length, replicate, sym, ap, subst, refl, ◌∙◌, arith}
use Rattle.std.specs.Prelude.{Bool, Option, take, slice_set}
use Rattle.std.proofs.Math.Seq.{take-set-lt}
use Rattle.std.proofs.lemmas.List.{take-replicate, length-take-le}
use Rattle.yard_model.specs.declared.incarnation.Keep.{Keep}
use Rattle.yard_model.specs.declared.input.Phase.{Phase}
use Rattle.yard_model.specs.declared.input.Phase.TheVariants as phase
use Rattle.yard_model.specs.declared.packet.Body.TheVariants as body
use Rattle.yard_model.specs.declared.state.State.{State}
use Rattle.yard_model.specs.Entities.{phase_by_post}
use Rattle.entity_cells.specs.Celled.{Celled}

-- a cell as it is seen
abbrev pub shown : Phase → Bool → Option Keep → List ℕ → State → Celled
shown p b k reach st = record { cell = record { phase = p; passivating = b; stash = []; armed = k; reach = reach }; state = st; window = 0 }

abbrev pub at_state : State → Celled → Celled
at_state st x = record { cell = x.cell; state = st; window = x.window }

pub none_yet : (p : ℕ) → p ≤ 32 → take {A = ℕ} p (replicate 32 0) ≡ replicate p 0
none_yet p few = take-replicate p 32 0 few

pub zeros : (p : ℕ) (r : List ℕ) → length r ≡ 32 → p ≤ 32 → take {A = ℕ} p (replicate 32 0) ≡ replicate (length (take p r)) 0
zeros p r long few = take-replicate p 32 0 few ∙ ap (λ n. replicate n 0) (sym (length-take-le p r (omega (arith, long, few))))

pub asked : (p : ℕ) (r : List ℕ) (i u : ℕ) → length r ≡ 32 → p ≤ 32 → i < length (take p r) → take p (slice_set r i u) ≡ slice_set (take p r) i u
asked p r i u long few inside = take-set-lt p r i u (subst (λ n. i < n) (length-take-le p r (omega (arith, long, few))) inside)

pub phase_stays : (p : Phase) (q : ℕ) (e : List ℕ) (n u : ℕ) → p ≡ phase_by_post p (body.Request q e n u)
phase_stays phase.Absent q e n u = refl
phase_stays phase.Loading q e n u = refl
phase_stays phase.Active q e n u = refl
phase_stays phase.Stopping q e n u = refl
