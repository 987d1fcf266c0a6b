use Rattle.std.proofs.Common.{◌≡◌, [], ◌∷◌, ◌++◌, map, sym, ap, ◌∙◌, set, get_or, arith, Vec, Global}
use Rattle.std.specs.Prelude.{Result, Ok, Err, OnErr}
use Rattle.std.proofs.lemmas.List.{map-set, set-get_or, length-map, get_or_default}
use Rattle.std.proofs.Math.ListN.{get_or-map}
use Rattle.yard_model.specs.declared.incarnation.Incarnation.{Incarnation}
use Rattle.job_board.proofs.doers.push_at.Goals as goal

pub returns-clause-ok : goal.returns-clause-ok
returns-clause-ok c =
    let seen = λ (v : Vec Incarnation Global). v.items in
    let was : get_or (map seen c.args.doers.now.items) c.args.job [] ≡ c.index_mut.result.now.items =
    get_or_default (map seen c.args.doers.now.items) c.args.job [] c.index_mut.result.now.items (omega (arith, length-map c.args.doers.now.items seen, c.requires))
    ∙ (get_or-map seen c.args.doers.now.items c.args.job c.index_mut.result.now ∙ ap seen (sym c.index_mut.ensures.value)) in
    map-set seen c.args.doers.now.items c.args.job c.push.new.self
    ∙ ap (λ l. set (map seen c.args.doers.now.items) c.args.job l) (c.in_ok-push.ensures.items ∙ ap (λ l. l ++ c.args.who.now ∷ []) (sym was))

on_err_any : {T E : Type 0} (r : Result T E) (P : Type 0) → P → OnErr r P
on_err_any (Ok x) P h = tt
on_err_any (Err e) P h = h

pub returns-in_err-push-clause-err : goal.returns-in_err-push-clause-err
returns-in_err-push-clause-err c =
    let seen = λ (v : Vec Incarnation Global). v.items in
    let was : get_or (map seen c.args.doers.now.items) c.args.job [] ≡ c.index_mut.result.now.items =
    get_or_default (map seen c.args.doers.now.items) c.args.job [] c.index_mut.result.now.items (omega (arith, length-map c.args.doers.now.items seen, c.requires))
    ∙ (get_or-map seen c.args.doers.now.items c.args.job c.index_mut.result.now ∙ ap seen (sym c.index_mut.ensures.value)) in
    on_err_any c.from_residual.result _ (map-set seen c.args.doers.now.items c.args.job c.push.new.self
    ∙ (ap (λ l. set (map seen c.args.doers.now.items) c.args.job l) (c.in_err-push.ensures.items ∙ sym was) ∙ set-get_or (map seen c.args.doers.now.items) c.args.job []))
