use Rattle.lease_table.specs.Fits.{slot_count}
use Rattle.std.proofs.Common.{arith, ◌≡◌, ◌≢◌, ℕ, ◌<◌, ◌≤◌, List, ◌∷◌, ◌++◌, [], length, false, sym, ap, ◌∙◌, subst, get_or, set, length-append, get_or-set_same, get_or-set_other, ⊎_elim}
use Rattle.std.specs.Prelude.{Option}
use Rattle.std.specs.Slots.{slots_filled, slots_len, slots_items, slots_counts}
use lib.ListN.{get_elem?}
use Rattle.atomic_table.specs.Table.{Final, Seen}
use Rattle.yard_model.specs.Script.{Script}
use Rattle.shard_store.specs.declared.store.Store.{Store}
use Rattle.lease_table.specs.declared.View.{View}
use Rattle.lease_table.specs.Rule.{IsTable}
use Rattle.lease_table.specs.Leasing.{Pass, Closed}
use Rattle.lease_table.proofs.Given.{got_more, all_closed, homes_closed}
use Rattle.lease_table.proofs.Places.{same_or_not}
use Rattle.lease_table.proofs.table.LeaseTable.close.Goals as goal

pub loop-i-preserved : goal.loop-i-preserved
loop-i-preserved c =
    let i : ℕ = c.loop-i.i in let v = c.loop-i.invariant in let o = c.take-store.ensures.others in
    let long : slots_len c.loop-i.closed.slots ≡ length (slots_filled c.loop-i.closed.slots) = (slots_counts c.loop-i.closed.slots).1 in
    let test : i < c.args.self.slots = c.loop-i-test.true in
    let wide : slots_len c.loop-i.closed.slots ≡ c.args.self.slots = v.long in record {
      full = λ k le lt. ap (λ l. get_or l k false) o.1 ∙ get_or-set_other (slots_filled c.loop-i.closed.slots) i k false false (λ e. omega arith) ∙ v.full k (omega arith) (let a = o.2 in omega arith);
      below = λ k lt. ap (λ l. get_or l k false) o.1 ∙ ⊎_elim (λ (e : k ≡ i). ap (λ (j : ℕ). get_or (set (slots_filled c.loop-i.closed.slots) i false) j false) e ∙ get_or-set_same (slots_filled c.loop-i.closed.slots) i false false (omega arith))
          (λ (n : k ≢ i). get_or-set_other (slots_filled c.loop-i.closed.slots) i k false false n ∙ v.below k (omega arith)) (same_or_not k i);
      long = o.2 ∙ v.long;
      same = o.0 ∙ v.same;
      count = let a : length c.push_reserved.new.self.items ≡ length (c.loop-i.spare.items ++ c.take-store.result ∷ []) = ap (λ (l : List (Option Store)). length l) c.push_reserved.ensures.items in let b : length c.loop-i.spare.items ≡ i = v.count in omega (arith, length-append c.loop-i.spare.items (c.take-store.result ∷ []));
      within = omega arith;
      room = c.push_reserved.ensures.capacity ∙ v.room;
      got = λ k x e. got_more c.loop-i.spare.items (slots_items c.close_with-closed.result.slots) c.take-store.result i v.count v.got
          (ap (λ l. get_elem? l i) (sym v.same) ∙ c.take-store.ensures.value) k x (ap (λ l. get_elem? l k) (sym c.push_reserved.ensures.items) ∙ e);
    }

pub returns-clause-closed : goal.returns-clause-closed
returns-clause-closed c =
    let key : c.args.self.table.shared.key.charter.value ≡ c.args.self.charter.value = c.args.self.sized.2 in
    let same : c.pass.inside.seat.me.0 ≡ c.args.pass.view = ap (λ (p : Pass). p.view) c.pass.view_is in
    let v = c.loop-i.invariant in
    let run : c.args.self.slots ≡ slot_count c.args.self.charter.value = c.args.self.sized.6 in
    let all : length c.loop-i.spare.items ≡ slot_count c.args.self.charter.value = let a : length c.loop-i.spare.items ≡ c.loop-i.i = v.count in let b : c.loop-i.i ≤ c.args.self.slots = v.within in let e = c.loop-i-test.false in omega arith in
    subst (λ (l : List (Option Store)). Closed c.args.self.charter.value c.args.pass.view l) (sym c.from_parts.ensures.places) (all_closed c.args.self.charter.value c.pass.inside.seat.id c.args.pass.view _ _ _
    (subst (λ (u : View). Final (Seen (IsTable c.args.self.charter.value) c.pass.inside.seat.id u) (slots_items c.close_with-closed.result.words) (slots_items c.close_with-closed.result.slots)) same
    (subst (λ (y : Script). Final (Seen (IsTable y) c.pass.inside.seat.id c.pass.inside.seat.me.0) (slots_items c.close_with-closed.result.words) (slots_items c.close_with-closed.result.slots)) key c.close_with-closed.ensures.values.2))
    c.requires.all all v.got)

pub from_parts-requires-clause-homes : goal.from_parts-requires-clause-homes
from_parts-requires-clause-homes c =
    let key : c.args.self.table.shared.key.charter.value ≡ c.args.self.charter.value = c.args.self.sized.2 in
    let same : c.pass.inside.seat.me.0 ≡ c.args.pass.view = ap (λ (p : Pass). p.view) c.pass.view_is in
    let v = c.loop-i.invariant in
    let run : c.args.self.slots ≡ slot_count c.args.self.charter.value = c.args.self.sized.6 in
    let all : length c.loop-i.spare.items ≡ slot_count c.args.self.charter.value = let a : length c.loop-i.spare.items ≡ c.loop-i.i = v.count in let b : c.loop-i.i ≤ c.args.self.slots = v.within in let e = c.loop-i-test.false in omega arith in
    homes_closed c.args.self.charter.value c.args.pass.view c.loop-i.spare.items (all_closed c.args.self.charter.value c.pass.inside.seat.id c.args.pass.view _ _ _
    (subst (λ (u : View). Final (Seen (IsTable c.args.self.charter.value) c.pass.inside.seat.id u) (slots_items c.close_with-closed.result.words) (slots_items c.close_with-closed.result.slots)) same
    (subst (λ (y : Script). Final (Seen (IsTable y) c.pass.inside.seat.id c.pass.inside.seat.me.0) (slots_items c.close_with-closed.result.words) (slots_items c.close_with-closed.result.slots)) key c.close_with-closed.ensures.values.2))
    c.requires.all all v.got)
