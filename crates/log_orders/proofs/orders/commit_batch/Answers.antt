use Rattle.std.proofs.Common.{◌≡◌, ◌++◌, [], List, ℕ, true, false, refl, length, map, sym, ◌∙◌, ap, subst, arith}
use Rattle.disk_log.specs.Spelled.{lines}
use Rattle.disk_log.proofs.Moments.{leaves_weaker}
use Rattle.log_orders.specs.Orders.{batch_of}
use Rattle.log_orders.proofs.GatherLaws.{leaves_both, leaves_none, long_of, rest_prefix, rests_more, rests_none}
use Rattle.log_orders.proofs.orders.commit_batch.Goals as goal

pub commit-requires-clause-some : goal.commit-requires-clause-some
commit-requires-clause-some g c =
    long_of c.args.batch.now (λ none. let t : c.is_empty.result ≡ true = c.is_empty.ensures.empty.1 none in let f : c.is_empty.result ≡ false = c.if-is_empty.false in cc)

pub commit-requires-clause-rests : goal.commit-requires-clause-rests
commit-requires-clause-rests g c = (map lines c.requires.rests.0, c.requires.rests.2)

pub returns-then-is_empty-clause-any_moment : goal.returns-then-is_empty-clause-any_moment
returns-then-is_empty-clause-any_moment g c facts gathers done are rests told =
    leaves_none _ (g.met.D.Disk.timed c.args.disk.now) (λ d now. rest_prefix _ _ _ _ done (batch_of facts) are rests told d now)

pub returns-then-is_empty-clause-ok : goal.returns-then-is_empty-clause-ok
returns-then-is_empty-clause-ok g c facts gathers done are rests =
    rests_none facts c.args.batch.now gathers done are _ _ _ _ (c.is_empty.ensures.empty.0 c.if-is_empty.true) rests

pub returns-clause-any_moment : goal.returns-clause-any_moment
returns-clause-any_moment g c facts gathers done are rests told =
    let some : c.args.batch.now ≡ [] → ⊥ = λ none. let t : c.is_empty.result ≡ true = c.is_empty.ensures.empty.1 none in let f : c.is_empty.result ≡ false = c.if-is_empty.false in cc in
    leaves_weaker _ _ (λ d p. leaves_both facts c.args.batch.now gathers done are some (long_of c.args.batch.now some) c.is_empty.ensures.fits d p)
    (c.commit.ensures.any_moment (map lines done) rests told)

pub returns-in_err-commit-clause-any_moment : goal.returns-in_err-commit-clause-any_moment
returns-in_err-commit-clause-any_moment g c facts gathers done are rests told =
    let some : c.args.batch.now ≡ [] → ⊥ = λ none. let t : c.is_empty.result ≡ true = c.is_empty.ensures.empty.1 none in let f : c.is_empty.result ≡ false = c.if-is_empty.false in cc in
    leaves_weaker _ _ (λ d p. leaves_both facts c.args.batch.now gathers done are some (long_of c.args.batch.now some) c.is_empty.ensures.fits d p)
    (c.commit.ensures.any_moment (map lines done) rests told)

pub returns-clause-ok : goal.returns-clause-ok
returns-clause-ok g c facts gathers done are rests =
    let some : c.args.batch.now ≡ [] → ⊥ = λ none. let t : c.is_empty.result ≡ true = c.is_empty.ensures.empty.1 none in let f : c.is_empty.result ≡ false = c.if-is_empty.false in cc in
    rests_more facts c.args.batch.now gathers done are _ _ _ _ some (long_of c.args.batch.now some) c.is_empty.ensures.fits (c.in_ok-commit.ensures.ok (map lines done) rests)
