-- Rules, one after the other; and what is read of a pair.
use Rattle.std.proofs.Common.{◌≡◌, ℕ, ◌≤◌, ◌+◌, List, [], ◌∷◌, sym, ap, subst, ◌∙◌, refl, true, false, arith}
use Rattle.std.specs.Prelude.{Bool, fold, max, min, nat_lt, if◌then◌else◌}
use Rattle.std.proofs.lemmas.List.Sums.{fold-append}
use Rattle.yard_model.specs.declared.out.Item.{Item}
use Rattle.yard_model.specs.declared.fact.Fact.TheVariants as fact
use Rattle.yard_model.specs.Move.{Move, told}
use Rattle.yard_model.specs.Producer.{Producer, Progress, producer_after, progress, allowed, confirm, to_push, to_resend, to_repeat}
use Rattle.yard_model.specs.SlotReads.{confirmed, confirmed_step, queued}
use Rattle.yard_model.specs.Script.{Script}
use Rattle.yard_model.specs.Spared.{Spared}
use Rattle.yard_model.specs.Words.{from_to}
use Rattle.plain_laws.proofs.Booleans.{not_below}
use Rattle.plain_laws.proofs.Names.{name_itself}
use Rattle.producer_ctl.proofs.PairLaws.{confirmed_more}
use Rattle.send_window.specs.declared.pair.Pair.{Pair}
use Rattle.send_window.specs.Window.{allowed_of}
use Rattle.producer_ctl.specs.Produced.{Produced, Gives, moved, given, and_then, IsPairOf}

-- the state after moves
pub moved_state : (v : Produced) (ms : List Move) → (moved v ms).state ≡ fold producer_after v.state ms
moved_state v [] = refl
moved_state v (m ∷ ms) = moved_state (record { script = v.script; state = producer_after v.state m; room = _ }) ms

-- a rule and what follows it
pub then_moved : (p : Producer → List Move) (q : Producer → Gives) (v : Produced) {mid new : Produced} → mid ≡ moved v (p v.state) → new ≡ moved mid (q mid.state).moves → new ≡ moved v (and_then p q v.state).moves
then_moved p q v {mid} {new} one two =
    let at : mid.state ≡ fold producer_after v.state (p v.state) = ap (λ (x : Produced). x.state) one ∙ moved_state v (p v.state) in
    two ∙ (ap (λ st. moved mid (q st).moves) at ∙ (ap (λ x. moved x (q (fold producer_after v.state (p v.state))).moves) one ∙ sym (fold-append _ v (p v.state) (q (fold producer_after v.state (p v.state))).moves)))

pub then_given : (p : Producer → List Move) (q : Producer → Gives) (v : Produced) (out : Spared Item) {mid : Produced} {one_out new_out : Spared Item} → mid ≡ moved v (p v.state) → one_out ≡ given out (p v.state) → new_out ≡ given one_out (q mid.state).moves
    → new_out ≡ given out (and_then p q v.state).moves
then_given p q v out {mid} {one_out} {new_out} one first second =
    let at : mid.state ≡ fold producer_after v.state (p v.state) = ap (λ (x : Produced). x.state) one ∙ moved_state v (p v.state) in
    second ∙ (ap (λ st. given one_out (q st).moves) at ∙ (ap (λ x. given x (q (fold producer_after v.state (p v.state))).moves) first ∙ sym (fold-append _ out (p v.state) (q (fold producer_after v.state (p v.state))).moves)))

pub then_numbers : (p : Producer → List Move) (q : Producer → Gives) (v : Produced) {mid : Produced} {ns : List ℕ} → mid ≡ moved v (p v.state) → ns ≡ (q mid.state).numbers → ns ≡ (and_then p q v.state).numbers
then_numbers p q v {mid} {ns} one is =
    is ∙ ap (λ st. (q st).numbers) (ap (λ (x : Produced). x.state) one ∙ moved_state v (p v.state))

-- What is read.

pub allowed_is : {v : Produced} {e : List ℕ} {k : Pair} → IsPairOf v e k → allowed e v.state ≡ allowed_of k
allowed_is {v} {e} {k} is =
    ap (λ n. min n (max (progress v.state e).demand (confirmed e v.state.entries + 1))) (sym is.pair_is.queued_is)
    ∙ (ap (λ (x : Progress). min k.queued (max x.demand (confirmed e v.state.entries + 1))) is.progress_is
    ∙ ap (λ n. min k.queued (max k.demand (n + 1))) (sym is.pair_is.confirmed_is))

pub push_is : {v : Produced} {e : List ℕ} {k : Pair} → IsPairOf v e k → to_push e v.state ≡ from_to (max k.sent k.confirmed + 1) (allowed_of k)
push_is {v} {e} {k} is =
    ap (λ (x : Progress). from_to (max x.sent (confirmed e v.state.entries) + 1) (allowed e v.state)) is.progress_is
    ∙ (ap (λ n. from_to (max k.sent n + 1) (allowed e v.state)) (sym is.pair_is.confirmed_is) ∙ ap (from_to (max k.sent k.confirmed + 1)) (allowed_is is))

pub resend_is : (f : ℕ) {v : Produced} {e : List ℕ} {k : Pair} → IsPairOf v e k → to_resend e f v.state ≡ from_to (max f (k.confirmed + 1)) (allowed_of k)
resend_is f {v} {e} {k} is = ap (λ n. from_to (max f (n + 1)) (allowed e v.state)) (sym is.pair_is.confirmed_is) ∙ ap (from_to (max f (k.confirmed + 1))) (allowed_is is)

pub repeat_is : {v : Produced} {e : List ℕ} {k : Pair} → IsPairOf v e k → to_repeat e v.state ≡ (if nat_lt k.confirmed k.queued then (k.confirmed + 1) ∷ [] else [])
repeat_is {v} {e} {k} is =
    ap (λ n. if nat_lt n (queued e v.state.entries) then (n + 1) ∷ [] else []) (sym is.pair_is.confirmed_is) ∙ ap (λ n. if nat_lt k.confirmed n then (k.confirmed + 1) ∷ [] else []) (sym is.pair_is.queued_is)

-- what is confirmed is at least what was told
pub confirm_reaches : (e : List ℕ) (n : ℕ) (v : Produced) {new : Produced} → new ≡ moved v (confirm e n v.state) → n ≤ confirmed e new.state.entries
confirm_reaches e n v {new} is = subst (λ (x : Produced). n ≤ confirmed e x.state.entries) (sym is) (at (nat_lt (confirmed e v.state.entries) n) refl)
  where
    at : (b : Bool) → nat_lt (confirmed e v.state.entries) n ≡ b → n ≤ confirmed e (moved v (if b then told (fact.Confirmed v.state.number e n) ∷ [] else [])).state.entries
    at false t = not_below (confirmed e v.state.entries) n t
    at true t = subst (λ m. n ≤ m) (sym (confirmed_more e v.state.entries (fact.Confirmed v.state.number e n) ∙ one)) (omega arith)
      where
        one : confirmed_step e (confirmed e v.state.entries) (fact.Confirmed v.state.number e n) ≡ n
        one = rw (name_itself e) refl

-- and the script is the same
pub moved_script : (v : Produced) (ms : List Move) → (moved v ms).script ≡ v.script
moved_script v [] = refl
moved_script v (m ∷ ms) = moved_script (record { script = v.script; state = producer_after v.state m; room = _ }) ms

pub bounded_by : (e : List ℕ) (n u : ℕ) (v : Produced) {new : Produced} → new ≡ moved v (confirm e n v.state) → u ≤ n + v.script.config.window → u ≤ confirmed e new.state.entries + new.script.config.window
bounded_by e n u v {new} is h =
    let reached : n ≤ confirmed e new.state.entries = confirm_reaches e n v is in
    let same : new.script.config.window ≡ v.script.config.window = ap (λ (x : Produced). x.script.config.window) is ∙ ap (λ (c : Script). c.config.window) (moved_script v (confirm e n v.state)) in
    omega (arith, reached, same, h)
