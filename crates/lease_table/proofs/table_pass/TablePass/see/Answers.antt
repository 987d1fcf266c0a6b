use Rattle.std.proofs.Common.{[], ◌∷◌, ◌++◌, sym, subst, ap, ◌∙◌}
use Rattle.std.proofs.lemmas.List.{append-nil}
use Rattle.yard_model.specs.Genuine.{is_slot_of}
use Rattle.yard_model.specs.Script.{Script}
use Rattle.yard_model.specs.Words.{at}
use Rattle.shard_store.specs.Stores.{place_of}
use Rattle.lease_table.specs.declared.View.{View}
use Rattle.lease_table.specs.Leasing.{Met}
use Rattle.lease_table.proofs.WholeLaws.{met_whole}
use Rattle.lease_table.proofs.table_pass.TablePass.see.Goals as goal

pub see-requires-clause-slot : goal.see-requires-clause-slot
see-requires-clause-slot c = let p = c.args.self.now in ap (λ (y : Script). is_slot_of y c.args.slot) (sym p.charter) ∙ c.requires.slot

pub returns-clause-met : goal.returns-clause-met
returns-clause-met c = let p = c.args.self.now in subst (λ (y : Script). Met p.pass.view c.args.note.view (place_of y.config c.args.slot) c.see.new.pass.view) (sym p.charter) c.see.ensures.met

pub invariant_of-self : goal.invariant_of-self
invariant_of-self c =
    let p = c.args.self.now in
    let met = subst (λ (y : Script). Met p.pass.view c.args.note.view (place_of y.config c.args.slot) c.see.new.pass.view) (sym p.charter) c.see.ensures.met in
    record {
      belongs = c.see.ensures.table ∙ p.belongs;
      charter = ap (λ (u : View). u.charter) met.now ∙ p.charter;
      one = ap (λ (u : View). u.numbers) met.now ∙ ap (λ ns. p.pass.view.numbers ++ ns) c.stands.ensures ∙ append-nil p.pass.view.numbers ∙ p.one;
      whole = met_whole p.pass.view c.args.note.view c.see.new.pass.view (place_of p.pass.view.charter.config c.args.slot) met c.requires.free p.whole;
    }
