use Rattle.std.proofs.Common.{◌≡◌, subst}
use Rattle.durable_queue.specs.Kept.{place_of}
use Rattle.name_index.proofs.NameLaws.{placed}
use Rattle.durable_queue.proofs.names.Names.place_near.Goals as goal

pub returns-clause-place : goal.returns-clause-place
returns-clause-place c = subst (λ l. c.place_near.result ≡ place_of l c.args.entity.now) c.self.view_is (placed _ c.args.entity.now c.place_near.result c.self.invariant c.place_near.ensures.within c.place_near.ensures.it)
