-- A version decides as version 1 or 2 does.
use Rattle.std.proofs.Common.{◌≡◌, ℕ, sym, ap, ◌∙◌, refl}
use Rattle.std.specs.Prelude.{Bool, true, false, ◌==◌, nat_lt, if◌then◌else◌}
use Rattle.yard_model.specs.declared.event.Command.{Command}
use Rattle.yard_model.specs.declared.event.Command.TheVariants as command
use Rattle.yard_model.specs.declared.event.Decision.{Decision}
use Rattle.yard_model.specs.declared.event.Event.{Event}
use Rattle.yard_model.specs.declared.event.Event.TheVariants as event
use Rattle.yard_model.specs.declared.packet.Record.{Record}
use Rattle.yard_model.specs.declared.state.State.{State}
use Rattle.yard_model.specs.declared.state.State.TheVariants as state
use Rattle.yard_model.specs.Behaviour.{adapt, decide, decide_open, decide_shut, in_version, no, pays_in, takes_out, with_memo}
use Rattle.yard_model.specs.Equal.{is_decision}
use Rattle.entry_slots.specs.Kept.{is_answer_in, one_or_two}

same_side : (v : ℕ) → nat_lt (one_or_two v) 2 ≡ nat_lt v 2
same_side v = by (nat_lt v 2)
  where
    by : (b : Bool) → nat_lt (if b then 1 else 2) 2 ≡ b
    by true = refl
    by false = refl

told_alike : (v w : ℕ) (e : Event) → nat_lt w 2 ≡ nat_lt v 2 → in_version w e ≡ in_version v e
told_alike v w e h = ap (λ b. if b then e else adapt e) h

memo_alike : (v w : ℕ) (d : Decision) → nat_lt w 2 ≡ nat_lt v 2 → with_memo w d ≡ with_memo v d
memo_alike v w d h = ap (λ b. if b then no 6 else d) h

open_alike : (v w b : ℕ) (k : Command) → nat_lt w 2 ≡ nat_lt v 2 → decide_open w b k ≡ decide_open v b k
open_alike v w b (command.Deposit k) h = ap (pays_in b k) (told_alike v w (event.Deposited k) h)
open_alike v w b (command.Withdraw k) h = ap (takes_out b k) (told_alike v w (event.Withdrawn k) h)
open_alike v w b (command.DepositWithMemo m k) h = memo_alike v w (pays_in b k (event.DepositedWithMemo m k)) h
open_alike v w b (command.WithdrawWithMemo m k) h = memo_alike v w (takes_out b k (event.WithdrawnWithMemo m k)) h
open_alike v w b k h = refl

none_alike : (v w : ℕ) (k : Command) → nat_lt w 2 ≡ nat_lt v 2 → decide_shut w state.NoAccount k ≡ decide_shut v state.NoAccount k
none_alike v w command.Create h = refl
none_alike v w (command.DepositWithMemo m k) h = memo_alike v w (no 1) h
none_alike v w (command.WithdrawWithMemo m k) h = memo_alike v w (no 1) h
none_alike v w k h = refl

closed_alike : (v w : ℕ) (k : Command) → nat_lt w 2 ≡ nat_lt v 2 → decide_shut w state.Closed k ≡ decide_shut v state.Closed k
closed_alike v w command.Create h = refl
closed_alike v w (command.DepositWithMemo m k) h = memo_alike v w (no 1) h
closed_alike v w (command.WithdrawWithMemo m k) h = memo_alike v w (no 1) h
closed_alike v w k h = refl

alike : (v w : ℕ) (st : State) (k : Command) → nat_lt w 2 ≡ nat_lt v 2 → decide w st k ≡ decide v st k
alike v w (state.Counter n) (command.Add k) h = refl
alike v w (state.Counter n) k h = refl
alike v w (state.Open b m) k h = open_alike v w b k h
alike v w (state.Cart true items) k h = refl
alike v w (state.Cart false items) k h = refl
alike v w state.NoAccount k h = none_alike v w k h
alike v w state.Closed k h = closed_alike v w k h

pub decided_alike : (v : ℕ) (st : State) (r : Record) → is_answer_in (one_or_two v) st r ≡ is_answer_in v st r
decided_alike v st r = ap (λ (d : Decision). is_decision d (record { events = r.events; reply = r.reply })) (alike v (one_or_two v) st r.command (same_side v))
