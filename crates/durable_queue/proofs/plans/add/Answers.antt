use Rattle.std.proofs.Common.{◌≡◌, [], ◌∷◌, ◌++◌, map, sym, ap, ◌∙◌, set, get_or, arith, Vec, Global}
use Rattle.std.proofs.lemmas.List.{map-set}
use Rattle.yard_model.specs.declared.event.Command.{Command}
use Rattle.durable_queue.proofs.PlaceLaws.{list_read}
use Rattle.durable_queue.proofs.plans.add.Goals as goal

pub returns-clause-plan : goal.returns-clause-plan
returns-clause-plan c =
    let seen = λ (v : Vec Command Global). v.items in
    let all = c.args.plans.now.items in
    let k = c.place_near-place.result in
    let was : get_or (map seen all) k [] ≡ c.index_mut.result.now.items = list_read all c.index_mut.result.now k (omega (arith, c.requires.sized, c.place_near-place.ensures.within)) c.index_mut.ensures.value in
    map-set seen all k c.push.new.self
    ∙ (ap (λ l. set (map seen all) k l) (c.in_ok-push.ensures.items ∙ ap (λ l. l ++ c.args.sending.now.command ∷ []) (sym was))
    ∙ ap (λ n. set (map seen all) n (get_or (map seen all) n [] ++ c.args.sending.now.command ∷ [])) c.place_near-place.ensures.place)
