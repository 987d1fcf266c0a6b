-- Prefixes.
use Rattle.std.proofs.Common.{◌≡◌, sym, ◌∙◌}
use Rattle.std.specs.Prelude.{Bool, true, ◌&&◌, List, [], ◌∷◌, ◌++◌, fold}
use Rattle.yard_model.specs.declared.fact.Fact.{Fact}
use Rattle.yard_model.specs.Lawful.{own, may_follow}
use Rattle.yard_model.specs.Era.{Era, first_era, era_step}
use Rattle.yard_model.specs.Safe.{shows, is_safe_now, safe_from}
use Rattle.yard_model.proofs.FollowLaws.{own_grows}
use Rattle.yard_laws.specs.Prefixes.{OwnBefore, GuardedBefore, SafeBefore, SafeNow}
use Rattle.plain_laws.proofs.Booleans.{and_both, both}
use Rattle.yard_laws.proofs.Guarding.{guarded_was}

pub own_before : OwnBefore
own_before c s list f within e = (and_both (own c s list) (may_follow c s list f) (sym (own_grows c s list f within) ∙ e)).0

pub guarded_before : GuardedBefore
guarded_before c trace more within e = guarded_was c trace more within e

-- what stands at an era's beginning
safe_first : (era : Era) (fs : List Fact) → safe_from era fs ≡ true → is_safe_now era.script era.trace ≡ true
safe_first era [] e = e
safe_first era (f ∷ fs) e =
    let a : Bool = is_safe_now era.script era.trace in
    let b : Bool = shows era.script era.trace f in
    (and_both a b (and_both (a && b) (safe_from (era_step era f) fs) e).0).0

from_before : (era : Era) (fs more : List Fact) → safe_from era (fs ++ more) ≡ true → safe_from era fs ≡ true
from_before era [] more e = safe_first era more e
from_before era (f ∷ fs) more e =
    let a : Bool = is_safe_now era.script era.trace && shows era.script era.trace f in
    let m : (a ≡ true) × (safe_from (era_step era f) (fs ++ more) ≡ true) = and_both a (safe_from (era_step era f) (fs ++ more)) e in
    both a (safe_from (era_step era f) fs) m.0 (from_before (era_step era f) fs more m.1)

pub safe_before : SafeBefore
safe_before c trace more e = from_before (first_era c) trace more e

from_now : (era : Era) (fs : List Fact) → safe_from era fs ≡ true → let end : Era = fold era_step era fs in is_safe_now end.script end.trace ≡ true
from_now era [] e = e
from_now era (f ∷ fs) e = from_now (era_step era f) fs (and_both (is_safe_now era.script era.trace && shows era.script era.trace f) (safe_from (era_step era f) fs) e).1

pub safe_now : SafeNow
safe_now c trace e = from_now (first_era c) trace e
