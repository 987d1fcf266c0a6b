use Rattle.std.proofs.Common.{sym, ap, ◌∙◌, subst, ◌++◌, ◌∷◌, [], List}
use Rattle.yard_model.specs.declared.fact.Fact.{Fact}
use Rattle.yard_model.specs.declared.fact.Fact.TheVariants as fact
use Rattle.yard_model.specs.declared.incarnation.Cause.TheVariants as cause
use Rattle.yard_model.specs.declared.incarnation.Slot.TheVariants as slot
use Rattle.yard_model.specs.Script.{Script}
use Rattle.yard_model.specs.SlotReads.{epoch}
use Rattle.shard_store.specs.Stores.{place_of, entries_of}
use Rattle.lease_table.specs.Belongs.{id_of}
use Rattle.lease_table.specs.Leasing.{MayRelease}
use Rattle.lease_table.specs.Tells.{freed, published}
use Rattle.embedding.proofs.HoldLaws.{may_release, given_back}
use Rattle.embedding.proofs.turns.give_back.Goals as goal

pub release-requires-clause-charter : goal.release-requires-clause-charter
release-requires-clause-charter c = c.requires.holding.charter ∙ sym c.requires.script

pub release-requires-clause-store : goal.release-requires-clause-store
release-requires-clause-store c = subst (λ (y : Script). MayRelease c.args.pass.now.view (place_of y.config slot.Coordinator) c.args.store) (sym c.requires.script) (may_release (id_of c.args.table.now) c.args.who.node c.args.store c.args.pass.now c.requires.holding c.requires.spare)

pub returns : goal.returns
returns c =
    let l : List Fact = entries_of c.args.store ++ fact.Freed slot.Coordinator (epoch (entries_of c.args.store)) cause.Released ∷ [] in
    given_back (id_of c.args.table.now) c.args.who.node c.args.store c.args.pass.now c.release.new.pass l c.requires.holding c.release.ensures.table
    (c.release.ensures.now ∙ ap (λ (y : Script). freed (published c.args.pass.now.view (place_of y.config slot.Coordinator) l) (place_of y.config slot.Coordinator)) c.requires.script)
