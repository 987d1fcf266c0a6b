-- A log that is served, and what is appended to it.
use Rattle.std.specs.Prelude.{ℕ, Bool, true, false, List, [], ◌∷◌, ◌++◌, Option, Some, None}
use Rattle.yard_model.specs.Script.{Script}
use Rattle.yard_model.specs.Text.{Bytes}
use Rattle.serve_laws.specs.Served.{Desk, empty_desk}

-- the desk, and where its log ends
pub record Serving : Type 0 where
  pub desk : Desk
  pub end : ℕ

abbrev pub desk_in : Option Desk → Desk
desk_in None = empty_desk
desk_in (Some d) = d

-- a text more, if it isn't empty
abbrev pub with_text : List Bytes → Bytes → List Bytes
with_text texts [] = texts
with_text texts (b ∷ bs) = texts ++ (b ∷ bs) ∷ []

-- settings are in force
abbrev pub has_settings_in : Option Script → Bool
has_settings_in None = false
has_settings_in (Some c) = true

abbrev pub has_settings : Desk → Bool
has_settings d = has_settings_in d.so_far
