-- The kind and the version of a behaviour by kind.
use Rattle.std.specs.Prelude.{ℕ}
use Rattle.yard_model.specs.declared.event.Kind.{Kind}
use Rattle.yard_model.specs.declared.event.Kind.TheVariants as kind
use Rattle.behaviour_kinds.specs.Versions.{number}
use Rattle.behaviour_by_kind.specs.declared.by_kind.ByKind.{ByKind}
use Rattle.behaviour_by_kind.specs.declared.by_kind.ByKind.TheVariants as by

abbrev pub kind_of : ByKind → Kind
kind_of (by.Counter b) = kind.Counter
kind_of (by.Account b) = kind.Account
kind_of (by.Cart b) = kind.Cart

abbrev pub version_of : ByKind → ℕ
version_of (by.Counter b) = number b.version
version_of (by.Account b) = number b.version
version_of (by.Cart b) = number b.version
