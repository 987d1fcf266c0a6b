use Rattle.std.proofs.Common.{◌≡◌, ◌≤◌, ◌++◌, ap, sym, ◌∙◌, subst}
use Rattle.std.specs.Prelude.{fold, true}
use Rattle.yard_model.specs.Era.{opening_of}
use Rattle.yard_model.specs.Lawful.{lawful}
use Rattle.yard_model.specs.Script.{Script}
use Rattle.yard_model.specs.World.{given_world, number_step, settled_from, wire_limit}
use Rattle.shard_store.specs.Stores.{lists_at}
use Rattle.settle_laws.specs.Settles.{most_deliveries}
use Rattle.log_resume.specs.Restored.{MayGoOn}
use Rattle.apply_run.proofs.carry.settle_anew.Goals as goal

-- the copy is the charter
pub carry_on-requires-clause-fits : goal.carry_on-requires-clause-fits
carry_on-requires-clause-fits g c = subst (λ (s : Script). most_deliveries (given_world s 1 (lists_at s.config c.args.stores.places)) ≤ wire_limit) (sym c.in_ok-own.ensures) c.requires.fits

pub carry_on-requires-clause-go_on : goal.carry_on-requires-clause-go_on
carry_on-requires-clause-go_on g c = subst (λ (s : Script). MayGoOn s (lists_at s.config c.args.stores.places)) (sym c.in_ok-own.ensures) c.requires.go_on

pub carry_on-requires-clause-number : goal.carry_on-requires-clause-number
carry_on-requires-clause-number g c = λ v. c.greatest_number-number.ensures v ∙ ap (λ (s : Script). fold number_step 0 (opening_of v (lists_at s.config c.args.stores.places))) (c.requires.script ∙ sym c.in_ok-own.ensures)

pub returns-clause-lists : goal.returns-clause-lists
returns-clause-lists g c = subst (λ (s : Script). lists_at s.config c.in_ok-last.settled.places ≡ (settled_from s 1 (lists_at s.config c.args.stores.places)).world.lists) c.in_ok-own.ensures c.in_ok-last.ensures.lists

pub returns-clause-lawful : goal.returns-clause-lawful
returns-clause-lawful g c = subst (λ (s : Script). lawful s (lists_at s.config c.in_ok-last.settled.places) ≡ true) c.in_ok-own.ensures c.in_ok-last.ensures.lawful

pub returns-clause-told : goal.returns-clause-told
returns-clause-told g c = subst (λ (s : Script). c.carry_on.new.out ≡ c.args.out.now ++ (settled_from s 1 (lists_at s.config c.args.stores.places)).facts) c.in_ok-own.ensures c.in_ok-last.ensures.told
