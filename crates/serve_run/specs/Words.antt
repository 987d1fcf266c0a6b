-- What the words behind the program's name ask for.
use Rattle.std.specs.Prelude.{ℕ, nat_eq, List, [], ◌∷◌, String, string_bytes, codes, if◌then◌else◌}
use Rattle.std.specs.Cmp.Lexicographic.{pointwise}
use Rattle.std.specs.declared.alloc.Global.{Global}
use Rattle.serve_run.specs.declared.words.Asked.{Asked}
use Rattle.serve_run.specs.declared.words.Asked.TheVariants as asked

-- one word
abbrev pub asked_by : List ℕ → Asked
asked_by w =
    if pointwise nat_eq w (codes "--help") then asked.Help
    else if pointwise nat_eq w (codes "--version") then asked.Version
    else asked.Usage

-- all arguments, of which the first is the name
abbrev pub asked_in : List (String Global) → Asked
asked_in [] = asked.Serve
asked_in (name ∷ []) = asked.Serve
asked_in (name ∷ w ∷ []) = asked_by (string_bytes w)
asked_in (name ∷ w ∷ v ∷ ws) = asked.Usage
