-- What a desk keeps beside the settings and the commands that were accepted, and what it answers.
use Rattle.std.specs.Prelude.{◌≡◌, ℕ, Bool, ◌&&◌, not, nat_le, List, length, Some}
use Rattle.std.specs.Map.{keys_of}
use Rattle.yard_model.specs.declared.charter.Order.{Order}
use Rattle.yard_model.specs.declared.event.Command.{Command}
use Rattle.yard_model.specs.Script.{Script, is_order, names_in, pairs_in, plan}
use Rattle.script_text.specs.declared.fault.Mode.TheVariants as mode
use Rattle.script_text.specs.Reading.{is_over, with_line}
use Rattle.serve_laws.specs.Hearing.{Answer, Refused, Done, Gap, Conflict, Heard, Request, most_accepted}
use Rattle.serve_laws.specs.Hearings.{IsHeard}
use Rattle.serve_desk.specs.Rows.{kept_of}
use Rattle.serve_desk.specs.declared.desk.Heard.{Heard as Told}
use Rattle.serve_desk.specs.declared.desk.Heard.TheVariants as say

-- by name and producer the commands of each pair, and how many pairs there are
pub record IsDesk (c : Script) (rows : List (List ℕ × List (List Command))) (count : ℕ) : Type 0 where
  pub heard : IsHeard c
  pub names : keys_of rows ≡ names_in c.orders
  pub plans : (p : ℕ) (e : List ℕ) → kept_of rows p e ≡ plan c p e
  pub pairs : count ≡ length (pairs_in c.orders)

-- what a request is answered
abbrev pub answer_to : Request → Told → Answer
answer_to r say.Done = Done r.producer r.entity r.number
answer_to r (say.Refused w) = Refused w
answer_to r (say.Gap n) = Gap r.producer r.entity r.number n
answer_to r (say.Conflict k) = Conflict r.producer r.entity r.number k

-- what is so behind a request, and its answer
abbrev pub told : Script → Request → Told → Heard
told c r a = record { so_far = Some c; answer = answer_to r a }

-- an order of these settings, within the limits
abbrev pub may_enter : Script → ℕ → Order → Bool
may_enter c n o = is_order c.config o && not (is_over mode.Log (with_line c n o)) && not (nat_le most_accepted (length c.orders))
