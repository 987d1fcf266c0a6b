use Rattle.std.proofs.Common.{sym, ◌∙◌}
use Rattle.pull_cluster.specs.Cluster.{name_at}
use Rattle.work_pulling.proofs.TellLaws.{did_jobs, did_posted}
use Rattle.work_pulling.proofs.steps.take_job.Goals as goal

pub post-requires : goal.post-requires
post-requires c = did_jobs c.args.who.now (name_at c.args.cluster.now.script c.args.job) c.args.job c.args.cluster.now c.do_once.new.cluster c.args.out.now c.do_once.new.out c.in_ok-do_once.ensures c.requires

pub returns : goal.returns
returns c = did_posted c.post.result c.args.who.now c.args.job c.args.cluster.now c.do_once.new.cluster c.post.new.self c.args.out.now c.do_once.new.out c.post.new.out (sym c.is_up.ensures ∙ c.if-not-is_up.false) c.in_ok-do_once.ensures c.post.ensures
