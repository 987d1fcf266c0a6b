use Rattle.std.proofs.Common.{sym, subst, ap, ◌∙◌}
use Rattle.yard_model.specs.Genuine.{is_slot_of}
use Rattle.yard_model.specs.Script.{Script}
use Rattle.shard_store.specs.Stores.{place_of}
use Rattle.yard_model.specs.Words.{at}
use Rattle.lease_table.specs.Belongs.{charter_of}
use Rattle.lease_table.specs.Leasing.{MayAct, Answers}
use Rattle.lease_table.proofs.Meant.{acquired, acquired_stays, claims, serves_is, free_there, may_act}
use Rattle.lease_table.proofs.WholeLaws.{acquired_same, acquired_whole}
use Rattle.lease_table.proofs.table_pass.TablePassLeases.acquire.Goals as goal

pub acquire-requires-clause-slot : goal.acquire-requires-clause-slot
acquire-requires-clause-slot c = let p = c.args.self.now in ap (λ (y : Script). is_slot_of y c.args.slot) (sym p.charter) ∙ c.requires.serves.slot_is

pub acquire-requires-clause-may : goal.acquire-requires-clause-may
acquire-requires-clause-may c = let p = c.args.self.now in subst (λ (y : Script). MayAct p.pass.view c.args.who (place_of y.config c.args.slot)) p.charter (may_act p.pass.table p.pass.view p.node c.args.who c.args.slot p.one c.requires.serves)

pub acquire-requires-clause-free : goal.acquire-requires-clause-free
acquire-requires-clause-free c = let p = c.args.self.now in
    ap (λ (y : Script). at p.pass.view.held (place_of y.config c.args.slot)) (sym p.charter) ∙ free_there p.pass.table p.pass.view p.node c.args.who.node c.args.slot (serves_is p.pass.table p.pass.view p.node c.args.who c.args.slot c.requires.serves) c.requires.serves.slot_is c.requires.free

pub returns-clause-answer : goal.returns-clause-answer
returns-clause-answer c = let p = c.args.self.now in
    acquired p.pass.table c.acquire.new.pass.table p.pass.view c.acquire.new.pass.view p.node c.args.who c.args.slot c.acquire.result p.one c.requires.serves (serves_is p.pass.table p.pass.view p.node c.args.who c.args.slot c.requires.serves)
    (subst (λ (y : Script). Answers p.pass.view c.args.who (place_of y.config c.args.slot) c.acquire.result c.acquire.new.pass.view) (sym p.charter) c.acquire.ensures.answer)

pub returns-clause-claim : goal.returns-clause-claim
returns-clause-claim c = let p = c.args.self.now in
    claims p.pass.table c.acquire.new.pass.table p.pass.view c.acquire.new.pass.view p.node c.args.who c.args.slot (place_of (charter_of p.table.now).config c.args.slot) c.acquire.result c.acquire.ensures.answer

pub returns-clause-stays : goal.returns-clause-stays
returns-clause-stays c = let p = c.args.self.now in acquired_stays p.pass.table c.acquire.new.pass.table p.pass.view c.acquire.new.pass.view p.node c.args.who (place_of (p.pass.view.charter).config c.args.slot) c.acquire.result c.acquire.ensures.table
    (subst (λ (y : Script). Answers p.pass.view c.args.who (place_of y.config c.args.slot) c.acquire.result c.acquire.new.pass.view) (sym p.charter) c.acquire.ensures.answer)

pub invariant_of-self : goal.invariant_of-self
invariant_of-self c =
    let p = c.args.self.now in
    let k = place_of (charter_of p.table.now).config c.args.slot in
    let same = acquired_same p.pass.view c.acquire.new.pass.view c.args.who k c.acquire.result c.acquire.ensures.answer in
    record {
      belongs = c.acquire.ensures.table ∙ p.belongs;
      charter = same.0 ∙ p.charter;
      one = same.1 ∙ p.one;
      whole = acquired_whole p.pass.view c.acquire.new.pass.view c.args.who k c.acquire.result c.stands.ensures c.acquire.ensures.answer p.whole;
    }
