use Rattle.std.proofs.Common.{◌≡◌, ◌<◌, length, subst}
use Rattle.std.specs.Prelude.{IfSome, IfNone}
use Rattle.durable_queue.specs.Kept.{place_of}
use Rattle.durable_queue.proofs.PlaceLaws.{some_place, none_place}
use Rattle.durable_queue.proofs.names.Names.find.Goals as goal

pub returns-clause-place : goal.returns-clause-place
returns-clause-place c = subst (λ l. IfSome c.find.result (λ k. (k < length l) × (k ≡ place_of l c.args.entity.now))) c.self.view_is (some_place _ c.args.entity.now c.find.result c.self.invariant c.find.ensures)

pub returns-clause-none : goal.returns-clause-none
returns-clause-none c = subst (λ l. IfNone c.find.result (place_of l c.args.entity.now ≡ length l)) c.self.view_is (none_place _ c.args.entity.now c.find.result c.find.ensures)
