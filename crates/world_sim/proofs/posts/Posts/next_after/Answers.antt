use Rattle.std.proofs.Common.{◌≡◌, [], filter, nat_lt, subst, MatchOption}
use Rattle.world_sim.specs.Mail.{Heads, Mails}
use Rattle.world_sim.proofs.RunLaws.{next_by}
use Rattle.world_sim.proofs.posts.Posts.next_after.Goals as goal

pub returns : goal.returns
returns c =
    subst (λ (m : Mails). MatchOption c.next_fresh.result (filter (nat_lt c.args.from) m.fresh ≡ []) (λ k. Heads k (filter (nat_lt c.args.from) m.fresh))) c.self.view_is
    (next_by c.self.inside.wire.marked c.self.inside.base c.self.inside.reached c.args.from c.after_run-start.result c.next_fresh.result c.self.invariant.marked_are c.after_run-start.ensures c.next_fresh.ensures)
