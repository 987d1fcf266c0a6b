use Rattle.std.proofs.Common.{◌≡◌, List, ℕ, ◌+◌, sym, subst, ◌∙◌}
use Rattle.shard_store.specs.Grown.{Kinds, had_next, kinds_next, stands}
use Rattle.shard_store.proofs.GrowLaws.{IsGrowing, growing_none, growing_next, growing_fits, growing_end}
use Rattle.shard_store.proofs.ReshapeLaws.{named_at}
use Rattle.shard_store.proofs.grow.grow_held.Goals as goal

pub loop-at-preserved : goal.loop-at-preserved
loop-at-preserved c =
    let old : List (List ℕ) = c.args.old.now in
    let names : List (List ℕ) = c.args.names.now in
    let first : Kinds = record { journals = c.args.held.now.journals.items; snapshots = c.args.held.now.snapshots.items; marks = c.args.held.now.remembered } in
    let now : Kinds = record { journals = c.loop-at.held.journals.items; snapshots = c.loop-at.held.snapshots.items; marks = c.loop-at.held.remembered } in
    let next : Kinds = record { journals = c.next_held.new.held.journals.items; snapshots = c.next_held.new.held.snapshots.items; marks = c.next_held.new.held.remembered } in
    subst (λ n. IsGrowing old names first next n (c.loop-at.at + 1)) (sym c.in_ok-had.ensures.had)
    (growing_next old names c.requires.sorted.0 c.requires.sorted.1 c.requires.among first now next c.args.keep c.loop-at.had c.loop-at.at c.index-names-at.result c.requires.keep c.loop-at-test.true
    (named_at names c.loop-at.at c.index-names-at.result c.loop-at-test.true c.index-names-at.is) c.in_ok-had.ensures.held c.loop-at.invariant)

pub returns-clause-long : goal.returns-clause-long
returns-clause-long c =
    (growing_end c.args.old.now c.args.names.now c.requires.sorted.0 c.requires.sorted.1 c.requires.among _ _ c.loop-at.had c.loop-at.at c.loop-at-test.false c.loop-at.invariant).0

pub returns-clause-grows : goal.returns-clause-grows
returns-clause-grows c =
    (growing_end c.args.old.now c.args.names.now c.requires.sorted.0 c.requires.sorted.1 c.requires.among _ _ c.loop-at.had c.loop-at.at c.loop-at-test.false c.loop-at.invariant).1
