-- What a line asks, and what becomes of that.
use Rattle.std.specs.Prelude.{ℕ, ◌<◌, List, Option, Some, None, Result, Ok, Err, IsTrue}
use Rattle.yard_model.specs.declared.charter.Config.{Config}
use Rattle.yard_model.specs.declared.charter.Order.TheVariants as order
use Rattle.yard_model.specs.declared.event.Command.{Command}
use Rattle.yard_model.specs.Script.{Script, is_config, is_order}
use Rattle.script_text.specs.declared.fault.Why.{Why}
use Rattle.script_text.specs.declared.fault.Why.TheVariants as why
use Rattle.serve_laws.specs.Hearing.{Ask, Heard, OfEntity, OfReport, Refused, Report, Show, Silent, ToDo, configured, requested, still}
use Rattle.serve_laws.specs.Hearing.{Request as Numbered}
use Rattle.serve_lines.specs.declared.requests.Request.{Request}
use Rattle.serve_lines.specs.declared.requests.Request.TheVariants as request

-- the settings that are in force, if any are
abbrev pub settings_in : Option Script → Option Config
settings_in None = None
settings_in (Some c) = Some c.config

-- what is so behind what a line asks, and its answer
abbrev pub heard_as : Option Script → Request → Heard
heard_as so request.Nothing = still so Silent
heard_as so (request.Refused w) = still so (Refused w)
heard_as so (request.Settings config) = configured so (Ok config)
heard_as (Some c) (request.Send p e n k) = requested c (record { producer = p; entity = e; number = n; command = k })
heard_as (Some c) request.Report = still (Some c) Report
heard_as (Some c) (request.Show e) = still (Some c) (Show e)
heard_as None (request.Send p e n k) = still None (Refused why.NoConfig)
heard_as None request.Report = still None (Refused why.NoConfig)
heard_as None (request.Show e) = still None (Refused why.NoConfig)

-- what it asks is in range, under the settings that are in force; where none are, it asks for settings at most
abbrev pub IsRequest : Option Config → Request → Type 0
IsRequest so request.Nothing = Unit {0}
IsRequest so (request.Refused w) = Unit {0}
IsRequest so (request.Settings config) = IsTrue (is_config config)
IsRequest (Some c) (request.Send p e n k) = IsTrue (is_order c (order.Send p e k)) × (0 < n)
IsRequest (Some c) request.Report = Unit {0}
IsRequest (Some c) (request.Show e) = Unit {0}
IsRequest None (request.Send p e n k) = ⊥
IsRequest None request.Report = ⊥
IsRequest None (request.Show e) = ⊥

-- what is defined, as it is read
abbrev pub of_request : Numbered → Request
of_request r = request.Send r.producer r.entity r.number r.command

abbrev pub of_parts : ((ℕ × List ℕ) × ℕ) × Command → Request
of_parts x = request.Send x.0.0.0 x.0.0.1 x.0.1 x.1

abbrev pub of_ask : Ask → Request
of_ask OfReport = request.Report
of_ask (OfEntity e) = request.Show e
of_ask (ToDo r) = of_request r

-- the same, of what may be refused
abbrev pub read_as : {A : Type 0} → (A → Request) → Result A Why → Result Request Why
read_as f (Ok a) = Ok (f a)
read_as f (Err w) = Err w

abbrev pub of_words : Result Ask Why → Request
of_words (Ok a) = of_ask a
of_words (Err w) = request.Refused w

abbrev pub of_settings : Result Config Why → Request
of_settings (Ok config) = request.Settings config
of_settings (Err w) = request.Refused w
