-- Moves that leave what is stashed.
use Rattle.std.proofs.Common.{◌≡◌, ℕ, List, length, refl}
use Rattle.std.proofs.lemmas.List.{length-set}
use Rattle.yard_model.specs.declared.fact.Fact.TheVariants as fact
use Rattle.yard_model.specs.declared.incarnation.Incarnation.{Incarnation}
use Rattle.yard_model.specs.declared.incarnation.Keep.{Keep}
use Rattle.yard_model.specs.declared.input.Phase.{Phase}
use Rattle.yard_model.specs.declared.input.Phase.TheVariants as phase
use Rattle.yard_model.specs.declared.packet.Body.TheVariants as body
use Rattle.yard_model.specs.declared.packet.Message.{Message}
use Rattle.yard_model.specs.Entities.{phase_step, stash_step, reach_step}
use Rattle.yard_model.specs.Move.{Move, told, post, passivates}

-- a move that leaves the stash and starts no work
pub record Keeps (m : Move) : Type 0 where
  pub reach_is : (old : List ℕ) → length (reach_step old m) ≡ length old
  pub stash_is : (p : Phase) (old : List Message) → stash_step p old m ≡ old
  pub phase_is : (p : Phase) → phase_step p m ≡ phase.Active → p ≡ phase.Active

pub keeps_arm : (e : List ℕ) (k : Keep) → Keeps (told (fact.Armed e k))
keeps_arm e k = record { reach_is = λ old. refl; stash_is = λ p old. refl; phase_is = λ p active. active }

pub keeps_passivates : (e : List ℕ) → Keeps (passivates e)
keeps_passivates e = record { reach_is = λ old. refl; stash_is = λ p old. refl; phase_is = λ p active. active }

pub keeps_start : (x : Incarnation) (e : List ℕ) → Keeps (told (fact.Start x e))
keeps_start x e = record { reach_is = λ old. refl; stash_is = λ p old. refl; phase_is = λ p active. cc }

pub keeps_failed : (x : Incarnation) (e : List ℕ) → Keeps (told (fact.WriteFailed x e))
keeps_failed x e = record { reach_is = λ old. refl; stash_is = λ p old. refl; phase_is = λ p active. cc }

pub keeps_stop_posted : (x y : Incarnation) (e : List ℕ) → Keeps (post x y (body.StopEntity e))
keeps_stop_posted x y e = record { reach_is = λ old. refl; stash_is = λ p old. refl; phase_is = not_active }
  where
    not_active : (p : Phase) → phase_step p (post x y (body.StopEntity e)) ≡ phase.Active → p ≡ phase.Active
    not_active phase.Absent h = cc
    not_active phase.Loading h = cc
    not_active phase.Active h = refl
    not_active phase.Stopping h = cc

pub keeps_request : (x y : Incarnation) (p : ℕ) (e : List ℕ) (n u : ℕ) → Keeps (post x y (body.Request p e n u))
keeps_request x y p e n u = record { reach_is = λ old. length-set old _ u; stash_is = λ p old. refl; phase_is = same }
  where
    same : (q : Phase) → phase_step q (post x y (body.Request p e n u)) ≡ phase.Active → q ≡ phase.Active
    same phase.Absent h = h
    same phase.Loading h = h
    same phase.Active h = h
    same phase.Stopping h = h

pub keeps_stop : (x : Incarnation) (e : List ℕ) → Keeps (told (fact.Stop x e))
keeps_stop x e = record { reach_is = λ old. refl; stash_is = λ p old. refl; phase_is = λ p active. cc }
