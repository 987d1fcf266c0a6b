use Rattle.std.proofs.Common.{subst}
use Rattle.shard_lease.specs.Meaning.{Meaning}
use Rattle.node_core.specs.Standing.{Standing}
use Rattle.node_core.specs.Gave.{moment}
use Rattle.node_core.specs.Turned.{Ended}
use Rattle.node_core.proofs.node.Node.crash.Goals as goal

pub returns : goal.returns
returns g c =
    let old : Meaning = g.L.Leases.meaning c.args.leases.now in
    let new : Meaning = g.L.Leases.meaning c.end.new.leases in
    let v : Standing = c.self.inside.actors in
    subst (λ (w : Standing). Ended w.script (moment old w.state c.args.out.now.items) new c.end.new.out.items) c.self.view_is
    (record {
      items_are = c.end.ensures.items_are;
      tells = c.end.ensures.tells;
      free = c.end.ensures.free;
      keeps = λ h hand. c.crash_stands.ensures v.script old.vouches v.state h c.self.invariant.0 hand;
      stays = c.end.ensures.stays;
      others = c.end.ensures.others;
    })
