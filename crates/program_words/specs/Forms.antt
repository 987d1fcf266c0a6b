-- The forms of the command line: the words after the program's name.
use Rattle.std.specs.Prelude.{ℕ, Bool, true, false, nat_eq, ◌&&◌, List, [], ◌∷◌, String, string_bytes, Option, Some, None, codes, if◌then◌else◌}
use Rattle.std.specs.Cmp.Lexicographic.{pointwise}
use Rattle.std.specs.declared.alloc.Global.{Global}
use Rattle.yard_model.specs.Behaviour.{is_in}
use Rattle.script_text.specs.Words.{is_number, value_of}
use Rattle.script_text.specs.declared.fault.Mode.TheVariants as mode
use Rattle.program_words.specs.declared.forms.Form.{Form}
use Rattle.program_words.specs.declared.forms.Form.TheVariants as form
use Rattle.program_words.specs.declared.forms.ScriptFrom.{ScriptFrom}
use Rattle.program_words.specs.declared.forms.ScriptFrom.TheVariants as script_from

abbrev pub form_of_word : List ℕ → Option Form
form_of_word w =
    if pointwise nat_eq w (codes "solo") then Some form.Solo
    else if pointwise nat_eq w (codes "replay") then Some form.Replay
    else if pointwise nat_eq w (codes "pull") then Some form.Pull
    else None

-- with a disk at hand there are `log`, `resume` and `apply` too
abbrev pub disk_form_of_word : List ℕ → Option Form
disk_form_of_word w =
    if pointwise nat_eq w (codes "log") then Some form.Log
    else if pointwise nat_eq w (codes "resume") then Some form.Resume
    else if pointwise nat_eq w (codes "apply") then Some form.Apply
    else form_of_word w

-- `bulk` and a number from 1 to 1,000
abbrev pub bulk_form : List ℕ → Option Form
bulk_form w = if is_number w && is_in 1 1000 (value_of w) then Some (form.Bulk (value_of w)) else None

-- `daemon` and how many instances, 1 to 100
abbrev pub daemon_form : List ℕ → Option Form
daemon_form w = if is_number w && is_in 1 100 (value_of w) then Some (form.Daemon (value_of w)) else None

abbrev pub form_of_words : List ℕ → List ℕ → Option Form
form_of_words w v =
    if pointwise nat_eq w (codes "replay") && pointwise nat_eq v (codes "json") then Some form.ReplayJson
    else if pointwise nat_eq w (codes "bulk") then bulk_form v
    else if pointwise nat_eq w (codes "daemon") then daemon_form v
    else None

-- a seed below 2^32
abbrev pub live_seed : ℕ → List ℕ → Option Form
live_seed n u = if is_number u && is_in 0 4294967295 (value_of u) then Some (form.Live n (value_of u)) else None

-- a number of turns from 1 to 100,000, and a seed
abbrev pub live_form : List ℕ → List ℕ → Option Form
live_form v u = if is_number v && is_in 1 100000 (value_of v) then live_seed (value_of v) u else None

abbrev pub form_of_three : List ℕ → List ℕ → List ℕ → Option Form
form_of_three w v u = if pointwise nat_eq w (codes "live") then live_form v u else None

-- the form of these words: `solo`, `replay` or `pull` alone, `replay json`, `bulk` and a number, `daemon` and a number, or `live`, turns and a seed
abbrev pub form_in : List (String Global) → Option Form
form_in [] = None
form_in (w ∷ []) = form_of_word (string_bytes w)
form_in (w ∷ v ∷ []) = form_of_words (string_bytes w) (string_bytes v)
form_in (w ∷ v ∷ u ∷ []) = form_of_three (string_bytes w) (string_bytes v) (string_bytes u)
form_in (w ∷ v ∷ u ∷ t ∷ ws) = None

-- those with a disk at hand: `log`, `resume` and `apply` too
abbrev pub form_on : List (String Global) → Option Form
form_on [] = None
form_on (w ∷ []) = disk_form_of_word (string_bytes w)
form_on (w ∷ v ∷ []) = form_of_words (string_bytes w) (string_bytes v)
form_on (w ∷ v ∷ u ∷ []) = form_of_three (string_bytes w) (string_bytes v) (string_bytes u)
form_on (w ∷ v ∷ u ∷ t ∷ ws) = None

-- those of one thread, with a disk at hand
abbrev pub alone_on : List (String Global) → Option Form
alone_on [] = None
alone_on (w ∷ []) = disk_form_of_word (string_bytes w)
alone_on (w ∷ v ∷ []) = form_of_words (string_bytes w) (string_bytes v)
alone_on (w ∷ v ∷ u ∷ ws) = None

-- whether a form is one of one thread
abbrev pub is_alone : Form → Bool
is_alone (form.Live n s) = false
is_alone f = true

-- whether a form needs a script alone: neither threads nor a disk
abbrev pub is_bare : Form → Bool
is_bare (form.Live n s) = false
is_bare form.Log = false
is_bare form.Resume = false
is_bare form.Apply = false
is_bare f = true

-- where a form's script is from: the input, read as a script of a command, or a number
abbrev pub from_of : Form → ScriptFrom
from_of form.Solo = script_from.Input mode.Solo
from_of form.Replay = script_from.Input mode.Replay
from_of form.ReplayJson = script_from.Input mode.Replay
from_of (form.Bulk n) = script_from.Number n
from_of (form.Live n s) = script_from.Input mode.Live
from_of form.Pull = script_from.Input mode.Pull
from_of (form.Daemon n) = script_from.Input mode.Daemon
from_of form.Log = script_from.Input mode.Log
from_of form.Resume = script_from.Input mode.Log
from_of form.Apply = script_from.Input mode.Log

-- the numbers that have a script are 1 to 1,000
abbrev pub is_there : ScriptFrom → Bool
is_there (script_from.Input m) = true
is_there (script_from.Number n) = is_in 1 1000 n

-- a daemon has 1 to 100 instances
abbrev pub is_counted : Form → Bool
is_counted (form.Daemon n) = is_in 1 100 n
is_counted f = true
