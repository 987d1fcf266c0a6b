use Rattle.std.proofs.Common.{◌≢◌, ◌<◌, [], false, length, arith}
use Rattle.yard_model.specs.World.{wire_limit}
use Rattle.world_sim.proofs.ToldLaws.{posted_one}
use Rattle.world_sim.proofs.posts.Posts.tell_post.Goals as goal

pub returns-in_ok-push_sent-in-Ok-clause-ok : goal.returns-in_ok-push_sent-in-Ok-clause-ok
returns-in_ok-push_sent-in-Ok-clause-ok g c =
    let wire = c.self.inside.wire in
    let room : length wire.packets ≢ wire_limit = λ e. let bad = c.in-Ok.ensures.full.1 e in cc in
    let under : length wire.packets < wire_limit = omega (arith, c.self.invariant.wire_is.fits) in
    rw (c.in-Ok.ensures.ok, ← c.self.view_is) (posted_one wire_limit wire.packets wire.marked [] 0 false c.args.packet.now c.self.invariant.wire_is.same under)
