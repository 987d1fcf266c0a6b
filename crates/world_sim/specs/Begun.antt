-- A world before its first step.
use Rattle.std.specs.Prelude.{◌≡◌, ℕ, false, List, [], None, replicate}
use Rattle.yard_model.specs.Script.{Script}
use Rattle.shard_lease.specs.Book.{Book}
use Rattle.world_sim.specs.Yard.{Yard}

-- no node is up, none is a member, and nothing was posted
pub record Begins (c : Script) (book : Book) (ups ordered : List ℕ) (y : Yard) : Type 0 where
  pub script_is : y.script ≡ c
  pub past_none : y.force.past ≡ 0
  pub book_is : y.book ≡ book
  pub nodes_none : y.nodes ≡ replicate c.config.nodes None
  pub members_none : y.members ≡ []
  pub version_none : y.version ≡ 0
  pub ups_are : y.ups ≡ ups
  pub ordered_are : y.ordered ≡ ordered
  pub packets_none : y.mail.packets ≡ []
  pub fresh_none : y.mail.fresh ≡ []
  pub items_none : y.mail.items ≡ []
  pub full_not : y.mail.full ≡ false
