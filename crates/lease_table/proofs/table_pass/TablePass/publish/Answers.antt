use Rattle.std.proofs.Common.{sym, subst, ap, ◌∙◌}
use Rattle.yard_model.specs.Genuine.{is_slot_of}
use Rattle.yard_model.specs.Script.{Script}
use Rattle.shard_store.specs.Stores.{place_of, entries_of_ref}
use Rattle.shard_lease.specs.Meaning.{Begins}
use Rattle.lease_table.specs.declared.View.{View}
use Rattle.lease_table.specs.Leasing.{MayPublish}
use Rattle.lease_table.specs.Lists.{seen_at}
use Rattle.lease_table.specs.Tells.{published}
use Rattle.lease_table.proofs.WholeLaws.{published_whole}
use Rattle.lease_table.proofs.table_pass.TablePass.publish.Goals as goal

pub publish-requires-clause-slot : goal.publish-requires-clause-slot
publish-requires-clause-slot c = let p = c.args.self.now in ap (λ (y : Script). is_slot_of y c.args.slot) (sym p.charter) ∙ c.requires.slot

pub publish-requires-clause-store : goal.publish-requires-clause-store
publish-requires-clause-store c = let p = c.args.self.now in subst (λ (y : Script). MayPublish p.pass.view (place_of y.config c.args.slot) (entries_of_ref c.args.store)) p.charter c.requires.store

pub returns-clause-now : goal.returns-clause-now
returns-clause-now c = let p = c.args.self.now in c.publish.ensures.now ∙ ap (λ (y : Script). published p.pass.view (place_of y.config c.args.slot) (entries_of_ref c.args.store)) (sym p.charter)

pub returns-clause-seen : goal.returns-clause-seen
returns-clause-seen c = let p = c.args.self.now in subst (λ (y : Script). Begins (seen_at p.pass.view.seen (place_of y.config c.args.slot)) (entries_of_ref c.args.store)) (sym p.charter) c.publish.ensures.seen

pub invariant_of-self : goal.invariant_of-self
invariant_of-self c =
    let p = c.args.self.now in
    record {
      belongs = c.publish.ensures.table ∙ p.belongs;
      charter = ap (λ (u : View). u.charter) c.publish.ensures.now ∙ p.charter;
      one = ap (λ (u : View). u.numbers) c.publish.ensures.now ∙ p.one;
      whole = published_whole p.pass.view c.publish.new.pass.view _ _ c.stands.ensures c.publish.ensures.now p.whole;
    }
