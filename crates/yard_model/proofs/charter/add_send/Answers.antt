use Rattle.std.proofs.Common.{◌≡◌, [], ◌∷◌, ◌++◌, ◌-◌, map, sym, ap, ◌∙◌, set, get_or, arith, Vec, Global}
use Rattle.std.proofs.lemmas.List.{map-set, length-map}
use Rattle.std.proofs.Math.ListN.{get_or-map}
use Rattle.yard_model.proofs.SendsLaws.{get_or_any}
use Rattle.yard_model.specs.declared.charter.Sending.{Sending}
use Rattle.yard_model.proofs.charter.add_send.Goals as goal

pub returns-clause-sends : goal.returns-clause-sends
returns-clause-sends c =
    let seen = λ (v : Vec Sending Global). v.items in
    let place : c.get.result - 1 ≡ c.args.producer - 1 = ap (λ n. n - 1) c.get.ensures.value in
    let was : get_or (map seen c.args.all.now.items) (c.get.result - 1) [] ≡ c.index_mut.result.now.items =
    get_or_any (map seen c.args.all.now.items) (c.get.result - 1) [] c.index_mut.result.now.items (omega (arith, length-map c.args.all.now.items seen))
    ∙ (get_or-map seen c.args.all.now.items (c.get.result - 1) c.index_mut.result.now ∙ ap seen (sym c.index_mut.ensures.value)) in
    map-set seen c.args.all.now.items (c.get.result - 1) c.push.new.self
    ∙ (ap (λ l. set (map seen c.args.all.now.items) (c.get.result - 1) l) (c.in_ok-push.ensures.items ∙ ap (λ l. l ++ c.args.sending.now ∷ []) (sym was))
    ∙ ap (λ n. set (map seen c.args.all.now.items) n (get_or (map seen c.args.all.now.items) n [] ++ c.args.sending.now ∷ [])) place)
