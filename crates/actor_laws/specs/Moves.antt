-- What moves post and tell.
use Rattle.std.specs.Prelude.{Bool, List}
use Rattle.std.specs.List.{list_all, flat_map}
use Rattle.yard_model.specs.declared.fact.Fact.{Fact}
use Rattle.yard_model.specs.declared.incarnation.Incarnation.{Incarnation}
use Rattle.yard_model.specs.Move.{Move, item_of}
use Rattle.yard_model.specs.Script.{Script}
use Rattle.actor_laws.specs.Owes.{facts_in, is_own_post}

-- what a move posts comes from this incarnation, and is made of the script's nodes, shards and sends
abbrev pub is_own_move : Script → Incarnation → Move → Bool
is_own_move c who m = list_all (is_own_post c who) (item_of m)

-- the facts that moves tell, in order
abbrev pub facts_of : List Move → List Fact
facts_of ms = facts_in (flat_map item_of ms)
