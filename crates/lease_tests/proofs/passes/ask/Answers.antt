use Rattle.std.proofs.Common.{sym, ap, ◌∙◌, subst}
use Rattle.yard_model.specs.Genuine.{is_slot_of}
use Rattle.yard_model.specs.Script.{Script}
use Rattle.shard_store.specs.Stores.{place_of}
use Rattle.lease_table.specs.Belongs.{id_of}
use Rattle.lease_table.specs.Leasing.{MayAct, Answers}
use Rattle.lease_tests.proofs.HoldLaws.{may_act, asked}
use Rattle.lease_tests.proofs.passes.ask.Goals as goal

pub acquire-requires-clause-slot : goal.acquire-requires-clause-slot
acquire-requires-clause-slot c = ap (λ (y : Script). is_slot_of y c.args.slot) c.requires.script ∙ c.requires.may.slot

pub acquire-requires-clause-charter : goal.acquire-requires-clause-charter
acquire-requires-clause-charter c = c.requires.idle.charter ∙ sym c.requires.script

pub acquire-requires-clause-may : goal.acquire-requires-clause-may
acquire-requires-clause-may c = subst (λ (y : Script). MayAct c.args.pass.now.view c.args.who (place_of y.config c.args.slot)) (sym c.requires.script) (may_act (id_of c.args.table.now) c.args.who c.args.slot c.args.pass.now c.requires.may c.requires.idle)

pub acquire-requires-clause-free : goal.acquire-requires-clause-free
acquire-requires-clause-free c = c.requires.idle.nothing _

pub returns : goal.returns
returns c = asked (id_of c.args.table.now) c.args.who c.args.slot c.acquire.result c.args.pass.now c.acquire.new.pass c.requires.may c.requires.idle c.acquire.ensures.table
    (subst (λ (y : Script). Answers c.args.pass.now.view c.args.who (place_of y.config c.args.slot) c.acquire.result c.acquire.new.pass.view) c.requires.script c.acquire.ensures.answer)
