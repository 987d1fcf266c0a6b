use Rattle.std.proofs.Common.{sym, ap, ◌∙◌}
use Rattle.yard_model.specs.Entities.{activate}
use Rattle.shard_entities.specs.Lodged.{Lodged}
use Rattle.shard_entities.proofs.WayLaws.{version_moved}
use Rattle.shard_entities.proofs.LoopLaws.{activated, pending_for, pending_space, pending_room}
use Rattle.shard_entities.proofs.shards.Shards.recovered.Goals as goal

pub deliver_all-requires-clause-version : goal.deliver_all-requires-clause-version
deliver_all-requires-clause-version g c = c.requires.version ∙ sym (ap (λ (v : Lodged). v.state.version) c.activate.ensures.state ∙ version_moved c.args.self.now (activate c.args.place.now.entity c.args.self.now.state))

pub deliver_all-requires-clause-for_it : goal.deliver_all-requires-clause-for_it
deliver_all-requires-clause-for_it g c = pending_for c.args.self.now c.args.place.now c.activate.ensures.state c.activate.ensures.pending c.stashed.ensures.own

pub deliver_all-requires-clause-there : goal.deliver_all-requires-clause-there
deliver_all-requires-clause-there g c = λ none. (c.requires.there (sym c.phase.ensures ∙ c.in-Loading.is)).hosted_is ((activated c.knows.ensures c.requires.place (c.requires.there (sym c.phase.ensures ∙ c.in-Loading.is)).hosted_is c.requires.settled c.activate.ensures.state).walk.hosted_are c.args.place.now.shard none)

pub deliver_all-requires-clause-space : goal.deliver_all-requires-clause-space
deliver_all-requires-clause-space g c = pending_space (activated c.knows.ensures c.requires.place (c.requires.there (sym c.phase.ensures ∙ c.in-Loading.is)).hosted_is c.requires.settled c.activate.ensures.state) c.activate.ensures.pending c.stashed.ensures.count c.stashed.ensures.few (c.requires.there (sym c.phase.ensures ∙ c.in-Loading.is))

pub deliver_all-requires-clause-settled : goal.deliver_all-requires-clause-settled
deliver_all-requires-clause-settled g c = (activated c.knows.ensures c.requires.place (c.requires.there (sym c.phase.ensures ∙ c.in-Loading.is)).hosted_is c.requires.settled c.activate.ensures.state).settled

pub deliver_all-requires-clause-room : goal.deliver_all-requires-clause-room
deliver_all-requires-clause-room g c = pending_room c.args.out.now (activated c.knows.ensures c.requires.place (c.requires.there (sym c.phase.ensures ∙ c.in-Loading.is)).hosted_is c.requires.settled c.activate.ensures.state) c.activate.ensures.pending c.activate.ensures.out c.stashed.ensures.count c.stashed.ensures.few c.requires.room
