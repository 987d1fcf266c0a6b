-- The settings' line as it is read.
use Rattle.std.specs.Prelude.{◌≡◌, List, [], ◌∷◌, Option, Some, None, Result, Ok, Err, IsTrue}
use Rattle.yard_model.specs.declared.charter.Config.{Config}
use Rattle.yard_model.specs.Script.{is_config}
use Rattle.yard_model.specs.Text.{Bytes, line}
use Rattle.script_text.specs.declared.fault.Why.{Why}
use Rattle.script_text.specs.Settings.{settings}
use Rattle.serve_laws.specs.Served.{config_words}

-- the line of these settings
abbrev pub head_line : Config → Bytes
head_line config = line (config_words config)

-- it is the line of those settings, or of none
abbrev pub IsHeadOf : Bytes → Option Config → Type 0
IsHeadOf text (Some config) = IsTrue (is_config config) × (text ≡ head_line config)
IsHeadOf text None = (config : Config) → IsTrue (is_config config) → text ≡ head_line config → ⊥

-- the settings that the words behind the first say, if they say any
abbrev pub if_read : Result Config Why → Option Config
if_read (Ok config) = Some config
if_read (Err w) = None

abbrev pub settings_behind : List Bytes → Option Config
settings_behind [] = None
settings_behind (w ∷ ws) = if_read (settings ws)
