use Rattle.std.specs.Prelude.{length}
use Rattle.lease_table.specs.Belongs.{id_of, charter_of}
use Rattle.node_runner.specs.Posts.{AreGenuine, ArePackets}
use Rattle.node_runner.specs.Rested.{Rested, SeesOn}
use Rattle.node_runner.specs.Told.{AreShownBut}
use Rattle.node_runner.proofs.telling.publish_told.Given as goal

abbrev pub invariant-loop-item : goal.invariant-loop-item
invariant-loop-item g l = record {
  rested : Rested (id_of l.table) (charter_of l.table) l.fn.me l.pass l.node;
  shown : AreShownBut (charter_of l.table) l.pass l.node.state l.out.items;
  sees : SeesOn l.fn.me l.fn.pass l.pass;
  posts : AreGenuine (charter_of l.table) l.fn.out.items → ArePackets (charter_of l.table) l.fn.posts.items → AreGenuine (charter_of l.table) l.out.items × ArePackets (charter_of l.table) l.posts.items;
}

abbrev pub decreases-loop-item : goal.decreases-loop-item
decreases-loop-item g l = length l.out.items
