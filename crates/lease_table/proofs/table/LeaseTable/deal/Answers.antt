use Rattle.lease_table.specs.Fits.{slot_count}
use Rattle.plain_laws.proofs.Booleans.{get_replicate}
use Rattle.std.proofs.Common.{◌≤◌, ℕ, List, length, sym, arith, None, ◌++◌, ◌≡◌, ◌<◌, ◌-◌, [], ap, ◌∙◌}
use Rattle.lease_table.specs.declared.View.{View}
use Rattle.lease_table.specs.Belongs.{id_of}
use Rattle.yard_model.specs.declared.charter.Config.{Config}
use Rattle.yard_model.specs.declared.fact.Fact.{Fact}
use Rattle.lease_table.specs.Tells.{SeatState, fresh_view}
use Rattle.lease_table.specs.Leasing.{pass, dealt_from, fresh}
use Rattle.lease_table.specs.Rule.{down, head_at}
use Rattle.yard_model.specs.Words.{at}
use Rattle.lease_table.proofs.Records.{some_nodes}
use Rattle.lease_table.proofs.Seats.{deals}
use Rattle.lease_table.proofs.Dealt.{deals_on, right_fresh, last_fresh, ends_dealt, down_split, down_apart}
use Rattle.lease_table.proofs.table.LeaseTable.deal.Goals as goal

pub loop-left-init : goal.loop-left-init
loop-left-init c =
    let nodes : c.config.result.now.nodes ≡ c.args.charter.now.config.nodes = ap (λ (y : Config). y.nodes) c.config.ensures.value in record {
      table = c.requires.seat.1;
      some = let h : 1 ≤ c.args.charter.now.config.nodes = some_nodes c.args.charter.now c.config.ensures.script in omega arith;
      me = c.requires.seat.2 ∙ ap (λ (n : ℕ). (fresh_view c.args.charter.now c.args.seat.me.0.seen (down n), [])) (sym nodes);
      passed = ap (λ l. l ++ dealt_from (id_of c.args.self.now) c.args.charter.now c.args.seat.me.0.seen c.config.result.now.nodes) c.new-passes.ensures.items ∙ ap (λ (n : ℕ). dealt_from (id_of c.args.self.now) c.args.charter.now c.args.seat.me.0.seen n) nodes;
    }

pub split_seat-other-requires : goal.split_seat-other-requires
split_seat-other-requires c =
    let d = c.loop-left.invariant in let z = c.args.self.now.sized in
    let a : c.args.self.now.table.shared.table_id.words ≡ head_at (slot_count c.args.self.now.charter.value) (slot_count c.args.self.now.charter.value) = z.0 in let b : 0 < slot_count c.args.self.now.charter.value = z.5 in (
      d.table,
      omega arith,
      deals _ _ c.loop-left.seat.me.0 c.loop-left.left (down (c.loop-left.left - 1)) (ap (λ (m : SeatState). m.0.numbers) d.me ∙ down_split c.loop-left.left d.some) (down_apart c.loop-left.left d.some)
          (λ k. ap (λ (m : SeatState). at m.0.held k) d.me ∙ get_replicate (slot_count c.args.charter.now) k None),
    )

pub deal_one-requires-clause-seat : goal.deal_one-requires-clause-seat
deal_one-requires-clause-seat c =
    let e = c.split_seat-other.ensures in let d = c.loop-left.invariant in
    let ls : List (List Fact) = c.args.seat.me.0.seen in
    let me : c.split_seat-other.result.me ≡ (fresh c.args.charter.now ls c.loop-left.left, []) = e.4 ∙ ap (λ (v : View). (v, [])) (right_fresh _ _ _ _ _ _ _ d) in
    let seen : ls ≡ c.split_seat-other.result.me.0.seen = sym (ap (λ (m : SeatState). m.0.seen) me) in (
      e.3 ∙ d.table,
      (c.loop-left.left, ap (λ l. length l) (sym seen) ∙ c.requires.seat.0, me ∙ ap (λ l. (fresh c.args.charter.now l c.loop-left.left, [])) seen),
    )

pub loop-left-preserved : goal.loop-left-preserved
loop-left-preserved c = let e = c.split_seat-other.ensures in deals_on _ _ _ c.loop-left.left _ _ c.loop-left.seat.me c.split_seat-other.new.seat.me c.loop-left.passes.items _ c.in_ok-deal_one.field-0 c.loop-left.invariant c.loop-left-test.true e.0 e.2 (c.in_ok-deal_one.ensures ∙ ap (λ (m : SeatState). pass (id_of c.args.self.now) m.0) e.4) c.in_ok-push.ensures.items

pub deal_one-requires-2-clause-seat : goal.deal_one-requires-2-clause-seat
deal_one-requires-2-clause-seat c =
    let d = c.loop-left.invariant in let ls : List (List Fact) = c.args.seat.me.0.seen in
    let me : c.loop-left.seat.me ≡ (fresh c.args.charter.now ls 1, []) = last_fresh _ _ _ _ _ _ _ d c.loop-left-test.false in
    let seen : ls ≡ c.loop-left.seat.me.0.seen = sym (ap (λ (m : SeatState). m.0.seen) me) in
    (d.table, (1, ap (λ l. length l) (sym seen) ∙ c.requires.seat.0, me ∙ ap (λ l. (fresh c.args.charter.now l 1, [])) seen))

pub returns : goal.returns
returns c = ends_dealt _ _ _ c.loop-left.left _ c.loop-left.seat.me c.loop-left.passes.items _ c.in_ok-deal_one-2.field-0 c.loop-left.invariant c.loop-left-test.false c.in_ok-deal_one-2.ensures c.in_ok-push-2.ensures.items
