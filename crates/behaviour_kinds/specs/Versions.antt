-- The number of a version.
use Rattle.std.specs.Prelude.{ℕ}
use Rattle.behaviour_kinds.specs.declared.version.Version.{Version}
use Rattle.behaviour_kinds.specs.declared.version.Version.TheVariants as version

abbrev pub number : Version → ℕ
number version.First = 1
number version.Second = 2
