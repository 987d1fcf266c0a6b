use Rattle.std.proofs.Common.{◌≡◌, subst}
use Rattle.std.specs.Prelude.{IfSome}
use Rattle.std.specs.Option.{option_map}
use Rattle.pull_laws.specs.Pulled.{packet}
use Rattle.pull_cluster.specs.Cluster.{Cluster, IsOfJobs, parcel_fact}
use Rattle.pull_cluster.proofs.WireLaws.{packet_is, packet_of_jobs}
use Rattle.pull_cluster.proofs.cluster.Cluster.packet.Goals as goal

pub returns-clause-value : goal.returns-clause-value
returns-clause-value c = subst (λ (k : Cluster). packet c.args.number k.pulling.told ≡ option_map (parcel_fact k.script c.args.number) c.get.result) c.self.view_is (packet_is c.self.inside.charter c.self.inside.story.told c.self.inside.parcels c.args.number c.get.result c.requires c.get.ensures c.self.invariant.parcels_are)

pub returns-clause-jobs : goal.returns-clause-jobs
returns-clause-jobs c = subst (λ (k : Cluster). IfSome c.get.result (IsOfJobs k.pulling.told)) c.self.view_is (packet_of_jobs c.self.inside.charter c.self.inside.story.told c.self.inside.parcels c.args.number c.get.result c.get.ensures c.self.invariant.parcels_are)
