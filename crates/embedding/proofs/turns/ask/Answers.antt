use Rattle.std.proofs.Common.{sym, ap, ◌∙◌, subst}
use Rattle.yard_model.specs.declared.incarnation.Slot.TheVariants as slot
use Rattle.yard_model.specs.Script.{Script}
use Rattle.shard_store.specs.Stores.{place_of}
use Rattle.lease_table.specs.Belongs.{id_of}
use Rattle.lease_table.specs.Leasing.{MayAct, Answers}
use Rattle.embedding.proofs.HoldLaws.{may_act, asked}
use Rattle.embedding.proofs.turns.ask.Goals as goal

pub acquire-requires-clause-charter : goal.acquire-requires-clause-charter
acquire-requires-clause-charter c = c.requires.idle.charter ∙ sym c.requires.script

pub acquire-requires-clause-may : goal.acquire-requires-clause-may
acquire-requires-clause-may c = subst (λ (y : Script). MayAct c.args.pass.now.view c.args.who (place_of y.config slot.Coordinator)) (sym c.requires.script) (may_act (id_of c.args.table.now) c.args.who c.args.pass.now c.requires.may c.requires.idle)

pub acquire-requires-clause-free : goal.acquire-requires-clause-free
acquire-requires-clause-free c = c.requires.idle.nothing _

pub returns : goal.returns
returns c = asked (id_of c.args.table.now) c.args.who c.acquire.result c.args.pass.now c.acquire.new.pass c.requires.idle c.acquire.ensures.table
    (subst (λ (y : Script). Answers c.args.pass.now.view c.args.who (place_of y.config slot.Coordinator) c.acquire.result c.acquire.new.pass.view) c.requires.script c.acquire.ensures.answer)
