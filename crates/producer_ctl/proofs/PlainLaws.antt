-- The moves of a producer's rules neither take nor free its queue.
use Rattle.std.proofs.Common.{◌≡◌, ℕ, ◌+◌, List, [], ◌∷◌, map, refl, true, false}
use Rattle.std.specs.Prelude.{Bool, nat_lt, if◌then◌else◌}
use Rattle.std.specs.List.{list_all}
use Rattle.yard_model.specs.declared.charter.Sending.{Sending}
use Rattle.yard_model.specs.declared.fact.Fact.TheVariants as fact
use Rattle.yard_model.specs.Move.{Move, told, demanded, pushed}
use Rattle.yard_model.specs.Producer.{Producer, confirm}
use Rattle.yard_model.specs.SlotReads.{confirmed, queued}
use Rattle.plain_laws.proofs.Lists.{all_join}
use Rattle.producer_ctl.specs.Produced.{Gives, and_then, acking, asking, pushing, queueing, repeating}
use Rattle.producer_ctl.proofs.ProducingLaws.{is_plain}

pub plain_confirm : (e : List ℕ) (n : ℕ) (st : Producer) → list_all is_plain (confirm e n st) ≡ true
plain_confirm e n st = at (nat_lt (confirmed e st.entries) n)
  where
    at : (b : Bool) → list_all is_plain (if b then told (fact.Confirmed st.number e n) ∷ [] else []) ≡ true
    at true = refl
    at false = refl

plain_then : (p : Producer → List Move) (q : Producer → Gives) (st : Producer) → list_all is_plain (p st) ≡ true → ((st : Producer) → list_all is_plain (q st).moves ≡ true) → list_all is_plain (and_then p q st).moves ≡ true
plain_then p q st one two = all_join is_plain (p st) _ one (two _)

pub plain_acking : (e : List ℕ) (n : ℕ) (st : Producer) → list_all is_plain (acking e n st).moves ≡ true
plain_acking e n st = plain_then (confirm e n) (pushing e) st (plain_confirm e n st) (λ st. refl)

pub plain_asking : (e : List ℕ) (n u : ℕ) (st : Producer) → list_all is_plain (asking e n u st).moves ≡ true
plain_asking e n u st = plain_then (confirm e n) (and_then (λ st. demanded e u ∷ []) (pushing e)) st (plain_confirm e n st) (λ st. refl)

pub plain_queueing : (x : Sending) (st : Producer) → list_all is_plain (queueing x st).moves ≡ true
plain_queueing x st = refl

pub plain_repeating : (e : List ℕ) (st : Producer) → list_all is_plain (repeating e st).moves ≡ true
plain_repeating e st = at (nat_lt (confirmed e st.entries) (queued e st.entries))
  where
    at : (b : Bool) → list_all is_plain (map (pushed e) (if b then (confirmed e st.entries + 1) ∷ [] else [])) ≡ true
    at true = refl
    at false = refl
