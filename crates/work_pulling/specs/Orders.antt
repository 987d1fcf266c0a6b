-- What the next order asks for, and what an error leaves.
use Rattle.yard_model.specs.declared.charter.Order.{Order}
use Rattle.pull_laws.specs.Next.{IsNextOrder}
use Rattle.pull_cluster.specs.Cluster.{Cluster}

-- what an order asks for
abbrev pub IsNext : Cluster → Order → Type 0
IsNext k o = IsNextOrder k.script k.pulling.told o
