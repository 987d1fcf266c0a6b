-- The settings of a script and the words that spell them: words key=value, in any order, each key at most once.
use Rattle.std.specs.Prelude.{ℕ, ◌+◌, Bool, true, false, ◌==◌, ◌||◌, if◌then◌else◌, List, [], ◌∷◌, take, drop, fold, Option, Some, None, Result, Ok, Err, codes}
use Rattle.std.specs.List.{position, list_any}
use Rattle.yard_model.specs.declared.charter.Config.{Config}
use Rattle.yard_model.specs.declared.event.Kind.{Kind}
use Rattle.yard_model.specs.declared.event.Kind.TheVariants as kind
use Rattle.yard_model.specs.Behaviour.{is_in}
use Rattle.script_text.specs.declared.fault.Why.{Why}
use Rattle.script_text.specs.declared.fault.Why.TheVariants as why
use Rattle.script_text.specs.declared.settings.Setting.{Setting}
use Rattle.script_text.specs.declared.settings.Setting.TheVariants as setting
use Rattle.script_text.specs.Faults.{◌>>=◌, refuse, number_of}
use Rattle.script_text.specs.Words.{is_text}
use Rattle.script_text.specs.Orders.{number}

unfoldable pub kind_named : List ℕ → Result Kind Why
kind_named v =
    if is_text v (codes "counter") then Ok kind.Counter
    else if is_text v (codes "account") then Ok kind.Account
    else if is_text v (codes "cart") then Ok kind.Cart
    else Err why.UnknownWord

unfoldable pub switch_named : List ℕ → Result Bool Why
switch_named v = if is_text v (codes "on") then Ok true else if is_text v (codes "off") then Ok false else Err why.UnknownWord

-- the setting of this key and value
unfoldable pub setting_named : List ℕ → List ℕ → Result Setting Why
setting_named k v =
    if is_text k (codes "nodes") then (number 1 16 v >>= λ n. Ok (setting.Nodes n))
    else if is_text k (codes "shards") then (number 1 128 v >>= λ n. Ok (setting.Shards n))
    else if is_text k (codes "producers") then (number 1 32 v >>= λ n. Ok (setting.Producers n))
    else if is_text k (codes "buffer") then (number 1 1000 v >>= λ n. Ok (setting.Buffer n))
    else if is_text k (codes "window") then (number 1 64 v >>= λ n. Ok (setting.Window n))
    else if is_text k (codes "snapshot") then (number 1 10000 v >>= λ n. Ok (setting.Snapshot n))
    else if is_text k (codes "keep") then (number 1 10 v >>= λ n. Ok (setting.Keep n))
    else if is_text k (codes "remember") then (switch_named v >>= λ b. Ok (setting.Remember b))
    else if is_text k (codes "kind") then (kind_named v >>= λ k. Ok (setting.OfKind k))
    else Err why.UnknownWord

abbrev pub is_equals : ℕ → Bool
is_equals b = b == 61

-- what stands before the first `=`, or the whole word where there is none
abbrev pub until : List ℕ → Option ℕ → List ℕ
until w (Some i) = take i w
until w None = w

unfoldable pub key_text : List ℕ → List ℕ
key_text w = until w (position is_equals w)

-- a word key=value
abbrev pub setting_at : List ℕ → Option ℕ → Result Setting Why
setting_at w (Some i) = setting_named (take i w) (drop (i + 1) w)
setting_at w None = Err why.UnknownWord

unfoldable pub setting_of : List ℕ → Result Setting Why
setting_of w = setting_at w (position is_equals w)

abbrev pub is_reason : Why → Result Setting Why → Bool
is_reason y (Ok s) = false
is_reason y (Err z) = number_of y == number_of z

-- no setting is refused for this reason
unfoldable pub none_refused : Why → List (List ℕ) → Result (Unit {0}) Why
none_refused y ws = refuse (list_any (λ w. is_reason y (setting_of w)) ws) y

abbrev pub has_key : List ℕ → List ℕ → Bool
has_key k w = is_text (key_text w) k

-- a key is given twice
abbrev pub is_twice : List (List ℕ) → Bool
is_twice [] = false
is_twice (w ∷ ws) = list_any (has_key (key_text w)) ws || is_twice ws

-- the settings that aren't given
abbrev pub defaults : Config
defaults = record { nodes = 3; shards = 10; producers = 2; buffer = 100; window = 50; snapshot = 100; keep = 2; remember = false; kind = kind.Counter }

abbrev pub with_value : Config → Setting → Config
with_value c (setting.Nodes n) = record c { nodes = n }
with_value c (setting.Shards n) = record c { shards = n }
with_value c (setting.Producers n) = record c { producers = n }
with_value c (setting.Buffer n) = record c { buffer = n }
with_value c (setting.Window n) = record c { window = n }
with_value c (setting.Snapshot n) = record c { snapshot = n }
with_value c (setting.Keep n) = record c { keep = n }
with_value c (setting.Remember b) = record c { remember = b }
with_value c (setting.OfKind k) = record c { kind = k }

abbrev pub with_read : Config → Result Setting Why → Config
with_read c (Ok s) = with_value c s
with_read c (Err y) = c

abbrev pub with_setting : Config → List ℕ → Config
with_setting c w = with_read c (setting_of w)

-- the words after `config`
unfoldable pub settings : List (List ℕ) → Result Config Why
settings ws = do
  known ← none_refused why.UnknownWord ws
  once ← refuse (is_twice ws) why.ExtraWord
  numbers ← none_refused why.BadNumber ws
  ranges ← none_refused why.OutOfRange ws
  Ok (fold with_setting defaults ws)

-- a setting in its range
abbrev pub is_setting : Setting → Bool
is_setting (setting.Nodes n) = is_in 1 16 n
is_setting (setting.Shards n) = is_in 1 128 n
is_setting (setting.Producers n) = is_in 1 32 n
is_setting (setting.Buffer n) = is_in 1 1000 n
is_setting (setting.Window n) = is_in 1 64 n
is_setting (setting.Snapshot n) = is_in 1 10000 n
is_setting (setting.Keep n) = is_in 1 10 n
is_setting (setting.Remember b) = true
is_setting (setting.OfKind k) = true
