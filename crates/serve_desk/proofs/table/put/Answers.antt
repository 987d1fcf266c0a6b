use Rattle.std.proofs.Common.{◌≡◌, List, sym, ap, ◌∙◌, subst}
use Rattle.std.specs.Prelude.{is_some, Option, Some, None}
use Rattle.std.specs.Ordering.{nat_cmp}
use Rattle.std.specs.Cmp.Lexicographic.{slice_cmp}
use Rattle.std.specs.BTreeMap.{Updates, get, is_at, keys}
use Rattle.std.specs.BTreeSet.{insert_key}
use Rattle.std.specs.Map.{keys_of, set_value}
use Rattle.std.specs.Option.{option_copied_mut}
use Rattle.std.proofs.lemmas.Map.Steps.{set_value_same}
use Rattle.yard_model.specs.declared.event.Command.{Command}
use Rattle.yard_model.proofs.CountsLaws.{keys_more}
use Rattle.serve_desk.specs.Rows.{RowHasOneMore, row_in}
use Rattle.serve_desk.proofs.RowLaws.{Rows, err_then, keys_kept, ok_then, row_put}
use Rattle.serve_desk.proofs.table.put.Goals as goal

pub returns-in-Some-clause-more : goal.returns-in-Some-clause-more
returns-in-Some-clause-more c =
    let seen : get (slice_cmp nat_cmp) c.args.table.now c.args.entity.now ≡ Some c.in-Some.plans.now = sym c.in-Some.ensures.value in
    let after = c.get_mut.follows.holds c.push.new.self in
    ok_then c.push.result c.push.ensures.more (λ m. row_put c.args.table.now (c.get_mut.follows.lender c.push.new.self) c.args.producer c.args.entity.now c.args.command.now c.push.new.self (after.3 (ap is_some seen))
    (subst (λ (o : Option (List (List Command))). RowHasOneMore (row_in o) c.push.new.self c.args.producer c.args.command.now) (sym seen) m)
    (after.1 ∙ sym (keys_kept c.args.table.now.entries c.args.entity.now c.get_mut.ensures.ordered (ap is_some seen))))

pub returns-in-Some-clause-kept : goal.returns-in-Some-clause-kept
returns-in-Some-clause-kept c =
    let seen : get (slice_cmp nat_cmp) c.args.table.now c.args.entity.now ≡ Some c.in-Some.plans.now = sym c.in-Some.ensures.value in
    let at = is_at (slice_cmp nat_cmp c.args.entity.now) in
    err_then c.push.result c.push.ensures.kept (λ same. (c.get_mut.follows.holds c.push.new.self).0
    ∙ (ap (λ (w : List (List Command)). set_value at c.args.table.now.entries w) same ∙ set_value_same at c.args.table.now.entries c.in-Some.plans.now seen))

pub returns-clause-more : goal.returns-clause-more
returns-clause-more c =
    let back : c.get_mut.follows.lender-at-none ≡ c.args.table.now = c.get_mut.follows.holds-at-none in
    let absent : get (slice_cmp nat_cmp) c.args.table.now c.args.entity.now ≡ None = sym c.get_mut.ensures.value ∙ ap option_copied_mut c.in_default.is in
    let row = c.in_ok-plans.plans in
    row_put c.args.table.now c.insert.new.self c.args.producer c.args.entity.now c.args.command.now row
    (subst (λ (m : Rows). Updates (slice_cmp nat_cmp) m c.insert.new.self c.args.entity.now (Some row)) back c.in_ok-insert.ensures.updates)
    (subst (λ (o : Option (List (List Command))). RowHasOneMore (row_in o) row c.args.producer c.args.command.now) (sym absent) c.in_ok-plans.ensures)
    (ap keys_of c.in_ok-insert.ensures.entries ∙ (keys_more c.get_mut.follows.lender-at-none.entries c.args.entity.now row ∙ ap (λ (m : Rows). insert_key (slice_cmp nat_cmp) (keys m) c.args.entity.now) back))
