use Rattle.node_runner.specs.Mailed.{IsSameHolder}
use Rattle.std.specs.Vec.{vec_len}
use Rattle.node_runner.proofs.mail.Mail.release_held.Given as goal

abbrev pub invariant-loop-parcel : goal.invariant-loop-parcel
invariant-loop-parcel g l = IsSameHolder l.fn.self.pass l.self.pass

abbrev pub decreases-loop-parcel : goal.decreases-loop-parcel
decreases-loop-parcel g l = vec_len l.self.held
