use Rattle.std.proofs.Common.{◌≡◌, sym, subst}
use Rattle.std.specs.Prelude.{None}
use Rattle.yard_model.specs.Entities.{hosted}
use Rattle.shard_entities.specs.Lodged.{Lodged}
use Rattle.shard_entities.proofs.RoomLaws.{on_ok_map, roomy_of}
use Rattle.shard_entities.proofs.entities.Entities.reserve.Goals as goal

pub returns-clause-roomy : goal.returns-clause-roomy
returns-clause-roomy c = on_ok_map c.reserve.result
    (λ ok s there. let home : hosted c.self.inside.shards.state s ≡ None → ⊥ = subst (λ (v : Lodged). hosted v.state s ≡ None → ⊥) (sym c.self.view_is) there in roomy_of c.self.inside.shards s c.reserve.ensures.state home (ok s home))
    c.reserve.ensures.ok
