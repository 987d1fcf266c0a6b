use Rattle.std.proofs.Common.{◌≡◌, sym, subst, ap, refl, map, Vec, Global, ◌++◌, ◌∷◌, []}
use Rattle.std.proofs.lemmas.Result.{on_ok_weaker}
use Rattle.yard_model.specs.declared.charter.Sending.{Sending}
use Rattle.yard_model.specs.Charter.{KeepsSends}
use Rattle.yard_model.specs.Script.{with_order, brought}
use Rattle.yard_model.proofs.SendsLaws.{keeps_send, keeps_name}
use Rattle.yard_model.proofs.charter.add_order.Goals as goal

pub returns-in_ok-number-in-Send-clause-keeps : goal.returns-in_ok-number-in-Send-clause-keeps
returns-in_ok-number-in-Send-clause-keeps c =
    on_ok_weaker c.add_send.result
    (λ put done number few keeps.
    subst (λ o. KeepsSends c.add.new.self (map (λ (v : Vec Sending Global). v.items) c.add_send.new.all.items) (done ++ record { number = number; order = o } ∷ [])) (sym c.in-Send.is)
    (keeps_send c.args.counts.now c.add.new.self _ _ done number _ c.in_ok-number-in-Send.number _ _ keeps c.in_ok-number-in-Send.ensures.counts c.in_ok-number-in-Send.ensures.names
    c.in_ok-number-in-Send.ensures.count c.add_send.ensures.range few put))
    c.add_send.ensures.sends

pub returns-in_ok-add_name-in-Passivate-clause-keeps : goal.returns-in_ok-add_name-in-Passivate-clause-keeps
returns-in_ok-add_name-in-Passivate-clause-keeps c = λ done number few keeps.
    keeps_name c.args.counts.now c.add_name.new.self _ done number _ c.args.order.now (λ p xs. subst (λ o. with_order p xs o ≡ xs) (sym c.in-Passivate.is) refl) (ap brought c.in-Passivate.is) keeps
    c.in_ok-add_name-in-Passivate.ensures.counts c.in_ok-add_name-in-Passivate.ensures.names

pub returns-in_ok-add_name-in-FailWrite-clause-keeps : goal.returns-in_ok-add_name-in-FailWrite-clause-keeps
returns-in_ok-add_name-in-FailWrite-clause-keeps c = λ done number few keeps.
    keeps_name c.args.counts.now c.add_name-in-FailWrite.new.self _ done number _ c.args.order.now (λ p xs. subst (λ o. with_order p xs o ≡ xs) (sym c.in-FailWrite.is) refl) (ap brought c.in-FailWrite.is) keeps
    c.in_ok-add_name-in-FailWrite.ensures.counts c.in_ok-add_name-in-FailWrite.ensures.names
