use Rattle.std.proofs.Common.{◌≤◌, ℕ, List, length, map, take, sym, subst, ap, ◌∙◌, Vec, Global}
use Rattle.std.specs.List.{list_any}
use Rattle.yard_model.specs.declared.charter.Sending.{Sending}
use Rattle.yard_model.specs.declared.event.Command.{Command}
use Rattle.yard_model.specs.Script.{is_name, sends}
use Rattle.durable_queue.specs.Kept.{AreNamed, ArePlans}
use Rattle.durable_queue.proofs.NamedLaws.{sends_named}
use Rattle.durable_queue.proofs.known.know_more.Goals as goal

pub move_all-requires-clause-all : goal.move_all-requires-clause-all
move_all-requires-clause-all c = λ e among. ap (list_any (is_name e)) c.in_ok-names.ensures.names ∙ c.requires.all e among

pub add_rest-requires-clause-named : goal.add_rest-requires-clause-named
add_rest-requires-clause-named c =
    subst (λ (l : List Sending). AreNamed c.in_ok-names.names l) (sym c.sends-sends.ensures)
    (subst (λ (l : List (List ℕ)). AreNamed l (sends c.args.charter.now c.args.producer)) (sym c.in_ok-names.ensures.names) (sends_named c.args.charter.now c.args.producer))

pub add_rest-requires-clause-within : goal.add_rest-requires-clause-within
add_rest-requires-clause-within c = subst (λ (l : List Sending). c.args.planned ≤ length l) (sym c.sends-sends.ensures) c.requires.within

pub add_rest-requires-clause-done : goal.add_rest-requires-clause-done
add_rest-requires-clause-done c =
    let seen = λ (v : Vec Command Global). v.items in
    let plans = map seen c.move_all.new.plans.items in
    subst (λ (l : List Sending). ArePlans c.in_ok-names.names plans (take c.args.planned l)) (sym c.sends-sends.ensures)
    (record { each = λ e. c.in_ok-moved.ensures.plans.each e ∙ c.requires.plans.each e })

pub returns-clause-plans : goal.returns-clause-plans
returns-clause-plans c =
    subst (λ (l : List Sending). ArePlans c.in_ok-names.names (map (λ (v : Vec Command Global). v.items) c.add_rest.new.plans.items) l) c.sends-sends.ensures c.in_ok-add_rest.ensures.plans
