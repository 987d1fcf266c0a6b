use Rattle.std.proofs.Common.{sym, subst, refl}
use Rattle.script_text.specs.Drafts.{IsDraft}
use Rattle.script_text.proofs.Pairs.{pairs_none}
use Rattle.script_text.proofs.draft.Draft.new.Goals as goal

pub invariant_of-result : goal.invariant_of-result
invariant_of-result c =
    subst (λ os. IsDraft (record { config = c.args.config; orders = os }) c.new.result 0 0) (sym c.in_ok-with_capacity.ensures.items)
    (record { config = c.requires; orders = refl; names = c.new.ensures.names; pairs = pairs_none c.new.result c.new.ensures; pings = refl })
