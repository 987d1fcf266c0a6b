use Rattle.std.proofs.Common.{◌≡◌, ◌∙◌, List, sym, ap, subst, length}
use Rattle.std.specs.Prelude.{replicate}
use Rattle.yard_model.specs.declared.charter.Sending.{Sending}
use Rattle.yard_model.specs.declared.fact.Fact.{Fact}
use Rattle.yard_model.specs.Script.{Script, sends}
use Rattle.pull_laws.specs.PullSafe.{IsPulled}
use Rattle.pull_cluster.specs.Kept.{IsKept}
use Rattle.pull_cluster.proofs.KeptLaws.{kept_none}
use Rattle.pull_cluster.proofs.cluster.Cluster.new.Goals as goal

pub invariant_of-result : goal.invariant_of-result
invariant_of-result c =
    let same : c.in_ok-charter.charter ≡ c.args.charter.now = c.in_ok-charter.ensures in
    let pulled : IsPulled c.in_ok-charter.charter = subst IsPulled (sym same) c.requires.pulled in
    let many : length c.sends-count.result.now ≡ length (sends c.in_ok-charter.charter 1) =
    ap (λ (l : List Sending). length l) c.sends-count.ensures ∙ (ap (λ p. length (sends c.args.charter.now p)) c.requires.first ∙ ap (λ (s : Script). length (sends s 1)) (sym same)) in
    subst (λ (t : List Fact). IsKept c.in_ok-charter.charter c.args.producer t c.in_ok-queue.queue 0 c.in_ok-board.board c.in_ok-doers.doers (replicate 16 0) c.in_ok-parcels.parcels) (sym c.new-5.ensures)
    (kept_none c.in_ok-charter.charter c.args.producer c.in_ok-queue.queue (length c.sends-count.result.now) c.in_ok-board.board c.in_ok-doers.doers c.in_ok-parcels.parcels pulled c.requires.first
    (c.in_ok-queue.ensures.script ∙ sym same) c.in_ok-queue.ensures.producer c.in_ok-queue.ensures.entries many c.in_ok-board.ensures c.in_ok-doers.ensures c.in_ok-parcels.ensures)
