use Rattle.std.proofs.Common.{sym, subst, refl}
use Rattle.script_text.specs.Drafts.{IsDraft}
use Rattle.script_text.proofs.Pairs.{pairs_none}
use Rattle.script_text.proofs.draft.Draft.add.Goals as goal

pub invariant_of-self-in-Err : goal.invariant_of-self-in-Err
invariant_of-self-in-Err c =
    subst (λ os. IsDraft (record { config = c.self.inside.config; orders = os }) c.new-in-Err.result 0 0) (sym c.new.ensures.items)
    (record { config = c.self.invariant.config; orders = refl; names = c.new-in-Err.ensures.names; pairs = pairs_none c.new-in-Err.result c.new-in-Err.ensures; pings = refl })
