use Rattle.std.proofs.Common.{sym, ap, ◌∙◌, subst, ◌++◌, ◌∷◌, [], List}
use Rattle.yard_model.specs.declared.fact.Fact.{Fact}
use Rattle.yard_model.specs.declared.fact.Fact.TheVariants as fact
use Rattle.yard_model.specs.declared.incarnation.Cause.TheVariants as cause
use Rattle.yard_model.specs.Genuine.{is_slot_of}
use Rattle.yard_model.specs.Script.{Script}
use Rattle.yard_model.specs.SlotReads.{epoch}
use Rattle.shard_store.specs.Stores.{place_of, entries_of}
use Rattle.lease_table.specs.Belongs.{id_of}
use Rattle.lease_table.specs.Leasing.{MayRelease}
use Rattle.lease_table.specs.Tells.{freed, published}
use Rattle.lease_tests.proofs.HoldLaws.{may_release, given_back}
use Rattle.lease_tests.proofs.passes.give_back.Goals as goal

pub release-requires-clause-slot : goal.release-requires-clause-slot
release-requires-clause-slot c = ap (λ (y : Script). is_slot_of y c.args.slot) c.requires.script ∙ c.requires.slot

pub release-requires-clause-charter : goal.release-requires-clause-charter
release-requires-clause-charter c = c.requires.holding.charter ∙ sym c.requires.script

pub release-requires-clause-store : goal.release-requires-clause-store
release-requires-clause-store c = subst (λ (y : Script). MayRelease c.args.pass.now.view (place_of y.config c.args.slot) c.args.store) (sym c.requires.script) (may_release (id_of c.args.table.now) c.args.who.node c.args.slot c.args.store c.args.pass.now c.requires.slot c.requires.holding c.requires.spare)

pub returns : goal.returns
returns c =
    let l : List Fact = entries_of c.args.store ++ fact.Freed c.args.slot (epoch (entries_of c.args.store)) cause.Released ∷ [] in
    given_back (id_of c.args.table.now) c.args.who.node c.args.slot c.args.store c.args.pass.now c.release.new.pass l c.requires.holding c.release.ensures.table
    (c.release.ensures.now ∙ ap (λ (y : Script). freed (published c.args.pass.now.view (place_of y.config c.args.slot) l) (place_of y.config c.args.slot)) c.requires.script)
