use Rattle.std.proofs.Common.{◌∷◌, ◌++◌, [], List, sym, subst, ap, ◌∙◌}
use Rattle.yard_model.specs.declared.fact.Fact.{Fact}
use Rattle.yard_model.specs.declared.fact.Fact.TheVariants as fact
use Rattle.yard_model.specs.Genuine.{is_slot_of}
use Rattle.yard_model.specs.Script.{Script}
use Rattle.yard_model.specs.SlotReads.{epoch}
use Rattle.shard_lease.specs.Meaning.{Begins}
use Rattle.shard_store.specs.Stores.{place_of, entries_of}
use Rattle.lease_table.specs.Lists.{seen_at}
use Rattle.lease_table.specs.Tells.{freed, published}
use Rattle.lease_table.specs.declared.View.{View}
use Rattle.lease_table.specs.Belongs.{charter_of}
use Rattle.lease_table.specs.Leasing.{MayRelease}
use Rattle.lease_table.proofs.Meant.{released, released_stays, serves_is, may_release}
use Rattle.lease_table.proofs.WholeLaws.{released_whole}
use Rattle.lease_table.proofs.table_pass.TablePassLeases.release.Goals as goal

pub release-requires-clause-slot : goal.release-requires-clause-slot
release-requires-clause-slot c = let p = c.args.self.now in ap (λ (y : Script). is_slot_of y c.args.slot) (sym p.charter) ∙ c.requires.serves.slot_is

pub release-requires-clause-store : goal.release-requires-clause-store
release-requires-clause-store c = let p = c.args.self.now in subst (λ (y : Script). MayRelease p.pass.view (place_of y.config c.args.slot) c.args.store) p.charter (may_release p.pass.table p.pass.view p.node c.args.who c.args.slot c.args.store c.requires.serves c.requires.store)

pub returns-clause-released : goal.returns-clause-released
returns-clause-released c =
    let p = c.args.self.now in
    let l : List Fact = entries_of c.args.store ++ fact.Freed c.args.slot (epoch (entries_of c.args.store)) c.args.cause ∷ [] in
    released p.pass.table c.release.new.pass.table p.pass.view c.release.new.pass.view p.node c.args.who c.args.slot c.args.store c.args.cause l c.requires.serves.slot_is (serves_is p.pass.table p.pass.view p.node c.args.who c.args.slot c.requires.serves)
    (c.release.ensures.now ∙ ap (λ (y : Script). freed (published p.pass.view (place_of y.config c.args.slot) l) (place_of y.config c.args.slot)) (sym p.charter))

pub returns-clause-stays : goal.returns-clause-stays
returns-clause-stays c =
    let p = c.args.self.now in
    let l : List Fact = entries_of c.args.store ++ fact.Freed c.args.slot (epoch (entries_of c.args.store)) c.args.cause ∷ [] in
    released_stays p.pass.table c.release.new.pass.table p.pass.view c.release.new.pass.view p.node (place_of (p.pass.view.charter).config c.args.slot) l c.release.ensures.table
    (c.release.ensures.now ∙ ap (λ (y : Script). freed (published p.pass.view (place_of y.config c.args.slot) l) (place_of y.config c.args.slot)) (sym p.charter))
    (subst (λ (y : Script). Begins (seen_at p.pass.view.seen (place_of y.config c.args.slot)) l) (sym p.charter) c.release.ensures.seen)

pub invariant_of-self : goal.invariant_of-self
invariant_of-self c =
    let p = c.args.self.now in
    let l : List Fact = entries_of c.args.store ++ fact.Freed c.args.slot (epoch (entries_of c.args.store)) c.args.cause ∷ [] in
    record {
      belongs = c.release.ensures.table ∙ p.belongs;
      charter = ap (λ (u : View). u.charter) c.release.ensures.now ∙ p.charter;
      one = ap (λ (u : View). u.numbers) c.release.ensures.now ∙ p.one;
      whole = released_whole p.pass.view c.release.new.pass.view (place_of (charter_of p.table.now).config c.args.slot) l c.release.ensures.now p.whole;
    }
