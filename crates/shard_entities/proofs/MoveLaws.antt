-- Each move of one entity: what it is of.
use Rattle.std.proofs.Common.{◌≡◌, ℕ, List, refl, ap}
use Rattle.std.specs.Prelude.{Some}
use Rattle.yard_model.specs.declared.fact.Fact.TheVariants as fact
use Rattle.yard_model.specs.declared.incarnation.Incarnation.{Incarnation}
use Rattle.yard_model.specs.declared.incarnation.Keep.{Keep}
use Rattle.yard_model.specs.declared.packet.Body.TheVariants as body
use Rattle.yard_model.specs.declared.packet.Message.{Message}
use Rattle.yard_model.specs.declared.state.State.{State}
use Rattle.yard_model.specs.Move.{told, post, passivates}
use Rattle.shard_entities.proofs.LodgedLaws.{IsOf}

pub of_arm : (e : List ℕ) (k : Keep) → IsOf e (told (fact.Armed e k))
of_arm e k = record { of_is = refl; hosted_is = λ set old. refl; rooms_is = λ set old. refl }

pub of_passivates : (e : List ℕ) → IsOf e (passivates e)
of_passivates e = record { of_is = refl; hosted_is = λ set old. refl; rooms_is = λ set old. refl }

pub of_start : (x : Incarnation) (e : List ℕ) → IsOf e (told (fact.Start x e))
of_start x e = record { of_is = refl; hosted_is = λ set old. refl; rooms_is = λ set old. refl }

pub of_failed : (x : Incarnation) (e : List ℕ) → IsOf e (told (fact.WriteFailed x e))
of_failed x e = record { of_is = refl; hosted_is = λ set old. refl; rooms_is = λ set old. refl }

pub of_stop_posted : (x y : Incarnation) (e : List ℕ) → IsOf e (post x y (body.StopEntity e))
of_stop_posted x y e = record { of_is = refl; hosted_is = λ set old. refl; rooms_is = λ set old. refl }

pub of_request : (x y : Incarnation) (p : ℕ) {a e : List ℕ} (n u : ℕ) → a ≡ e → IsOf e (post x y (body.Request p a n u))
of_request x y p n u same = record { of_is = ap (λ (l : List ℕ). Some l) same; hosted_is = λ set old. refl; rooms_is = λ set old. refl }

pub of_stashed : (x : Incarnation) {m : Message} {e : List ℕ} → m.entity ≡ e → IsOf e (told (fact.Stashed x m))
of_stashed x same = record { of_is = ap (λ (l : List ℕ). Some l) same; hosted_is = λ set old. refl; rooms_is = λ set old. refl }

pub of_active : (x : Incarnation) (e : List ℕ) (n : ℕ) (st : State) → IsOf e (told (fact.Active x e n st))
of_active x e n st = record { of_is = refl; hosted_is = λ set old. refl; rooms_is = λ set old. refl }

pub of_stop : (x : Incarnation) (e : List ℕ) → IsOf e (told (fact.Stop x e))
of_stop x e = record { of_is = refl; hosted_is = λ set old. refl; rooms_is = λ set old. refl }

pub of_dropped : (x : Incarnation) {m : Message} {e : List ℕ} → m.entity ≡ e → IsOf e (told (fact.Dropped x m))
of_dropped x same = record { of_is = ap (λ (l : List ℕ). Some l) same; hosted_is = λ set old. refl; rooms_is = λ set old. refl }
