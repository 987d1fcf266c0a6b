use Rattle.std.proofs.Common.{◌≡◌, [], true, false, length, sym, subst}
use Rattle.disk_log.specs.Images.{LeavesOnly}
use Rattle.disk_log.specs.Rest.{HoldsPrefix, Rests}
use Rattle.disk_log.proofs.CommitLaws.{rests_hold}
use Rattle.disk_log.proofs.Moments.{leaves_weaker}
use Rattle.log_orders.proofs.GatherLaws.{leaves_none, long_of}
use Rattle.serve_service.proofs.TextLaws.{either_holds, text_none, text_some, with_holds}
use Rattle.serve_service.proofs.commit.commit.Goals as goal

pub returns-then-is_empty-clause-ok : goal.returns-then-is_empty-clause-ok
returns-then-is_empty-clause-ok g c texts rests =
    subst (Rests g.D.Disk.tells c.args.log (g.D.Disk.content c.args.disk.now) (g.D.Disk.images c.args.disk.now)) (sym (text_none texts c.args.batch.now (c.is_empty.ensures.empty.0 c.if-is_empty.true))) rests

pub returns-then-is_empty-clause-any_moment : goal.returns-then-is_empty-clause-any_moment
returns-then-is_empty-clause-any_moment g c texts rests told =
    leaves_none _ (g.met.D.Disk.timed c.args.disk.now) (λ d now. with_holds texts c.args.batch.now d (rests_hold _ _ _ _ texts rests told d now))

pub returns-then-not-has_room-clause-any_moment : goal.returns-then-not-has_room-clause-any_moment
returns-then-not-has_room-clause-any_moment g c texts rests told =
    leaves_none _ (g.met.D.Disk.timed c.args.disk.now) (λ d now. with_holds texts c.args.batch.now d (rests_hold _ _ _ _ texts rests told d now))

pub commit-requires-clause-some : goal.commit-requires-clause-some
commit-requires-clause-some g c =
    long_of c.args.batch.now (λ none. let t : c.is_empty.result ≡ true = c.is_empty.ensures.empty.1 none in let f : c.is_empty.result ≡ false = c.if-is_empty.false in cc)

pub returns-in_err-commit-clause-any_moment : goal.returns-in_err-commit-clause-any_moment
returns-in_err-commit-clause-any_moment g c texts rests told =
    let some : c.args.batch.now ≡ [] → ⊥ = λ none. let t : c.is_empty.result ≡ true = c.is_empty.ensures.empty.1 none in let f : c.is_empty.result ≡ false = c.if-is_empty.false in cc in
    subst (λ l. LeavesOnly (g.D.Disk.images c.args.disk.now) (g.D.Disk.images c.commit.new.disk) (HoldsPrefix l (length texts))) (sym (text_some texts c.args.batch.now some))
    (leaves_weaker _ _ (either_holds texts c.args.batch.now) (c.commit.ensures.any_moment texts rests told))

pub returns-clause-any_moment : goal.returns-clause-any_moment
returns-clause-any_moment g c texts rests told =
    let some : c.args.batch.now ≡ [] → ⊥ = λ none. let t : c.is_empty.result ≡ true = c.is_empty.ensures.empty.1 none in let f : c.is_empty.result ≡ false = c.if-is_empty.false in cc in
    subst (λ l. LeavesOnly (g.D.Disk.images c.args.disk.now) (g.D.Disk.images c.commit.new.disk) (HoldsPrefix l (length texts))) (sym (text_some texts c.args.batch.now some))
    (leaves_weaker _ _ (either_holds texts c.args.batch.now) (c.commit.ensures.any_moment texts rests told))

pub returns-clause-ok : goal.returns-clause-ok
returns-clause-ok g c texts rests =
    let some : c.args.batch.now ≡ [] → ⊥ = λ none. let t : c.is_empty.result ≡ true = c.is_empty.ensures.empty.1 none in let f : c.is_empty.result ≡ false = c.if-is_empty.false in cc in
    subst (Rests g.D.Disk.tells c.in_ok-commit.field-0 (g.D.Disk.content c.commit.new.disk) (g.D.Disk.images c.commit.new.disk)) (sym (text_some texts c.args.batch.now some))
    (c.in_ok-commit.ensures.ok texts rests)
