-- Texts that are joined: the first, and each later one behind its separator.
use Rattle.std.specs.Prelude.{List, ◌++◌, map}
use Rattle.std.specs.List.{flat_map, join_with_byte}
use Rattle.yard_model.specs.declared.incarnation.Incarnation.{Incarnation}
use Rattle.yard_model.specs.Text.{Bytes, incarnation_text}

-- each with the separator in front
abbrev pub behind : {A : Type 0} → Bytes → (A → Bytes) → List A → Bytes
behind separator show xs = flat_map (λ x. separator ++ show x) xs

-- members, with a comma between each two
abbrev pub members_text : List Incarnation → Bytes
members_text ms = join_with_byte 44 (map incarnation_text ms)
