use Rattle.lease_table.specs.Fits.{slot_count}
use Rattle.std.proofs.Common.{arith, ◌≡◌, ◌<◌, length, sym, ap, ◌∙◌}
use Rattle.yard_model.specs.Script.{Script}
use Rattle.lease_table.specs.declared.View.{View}
use Rattle.yard_model.specs.Words.{at}
use Rattle.lease_table.specs.Rule.{head_at}
use Rattle.lease_table.specs.Tells.{SeatState, united}
use Rattle.lease_table.specs.Leasing.{Pass}
use Rattle.lease_table.proofs.Seats.{joins}
use Rattle.lease_table.proofs.Ties.{ties}
use Rattle.lease_table.proofs.United.{united_ok, tied_ok, met}
use Rattle.lease_table.proofs.table.LeaseTable.see_at.Goals as goal

pub join_seat-requires : goal.join_seat-requires
join_seat-requires c =
    let z = c.args.self.now.sized in
    let a : c.args.self.now.table.shared.table_id.words ≡ head_at (slot_count c.args.self.now.charter.value) (slot_count c.args.self.now.charter.value) = z.0 in let b : 0 < slot_count c.args.self.now.charter.value = z.5 in (
      ap (λ (p : Pass). p.table) c.pass.view_is ∙ c.requires.table.0,
      ap (λ (p : Pass). p.table) c.note.view_is ∙ c.requires.table.1,
      c.note.invariant.carried,
      omega arith,
      joins _ _ _ _ _ (λ k. ap (λ l. at l k) c.note.invariant.nothing),
    )

pub load-requires : goal.load-requires
load-requires c =
    let t = c.args.self.now.table.shared in let z = c.args.self.now.sized in let m : SeatState = c.join_seat.new.seat.me in
    let ok = united_ok _ _ c.join_seat.new.seat.me c.note.inside.seat.me.0 _ _ c.pass.invariant c.join_seat.ensures.2 in
    let slots : t.table_id.slots ≡ c.args.self.now.slots = z.1 ∙ sym z.6 in
    let run : c.args.self.now.slots ≡ slot_count c.args.self.now.charter.value = z.6 in
    let key : t.table_id.slots ≡ slot_count t.key.charter.value = z.1 ∙ ap (λ (y : Script). slot_count y) (sym z.2) in
    let lt : c.args.slot < slot_count c.args.self.now.charter.value = c.requires.slot in
    let words : t.table_id.words ≡ head_at (slot_count c.args.self.now.charter.value) (slot_count c.args.self.now.charter.value) = z.0 in
    let charter : slot_count c.pass.inside.charter.value ≡ slot_count c.args.self.now.charter.value = ap (λ (y : Script). slot_count y) (sym c.pass.invariant.charter) ∙ ap (λ (p : Pass). (slot_count p.view.charter)) c.pass.view_is ∙ ap (λ (y : Script). slot_count y) c.requires.charter in (
      c.join_seat.ensures.0 ∙ ap (λ (p : Pass). p.table) c.pass.view_is ∙ c.requires.table.0,
      omega arith,
      ties t.key.charter.value t.table_id.slots c.join_seat.new.seat.id m c.args.slot key (omega arith) (ok.seens ∙ charter ∙ sym z.1 ∙ key),
    )

pub invariant_of-pass : goal.invariant_of-pass
invariant_of-pass c = tied_ok _ _ _ _ _ _ (united_ok _ _ c.join_seat.new.seat.me c.note.inside.seat.me.0 _ _ c.pass.invariant c.join_seat.ensures.2) c.load.ensures.2.0

pub returns-clause-met : goal.returns-clause-met
returns-clause-met c =
    let m : SeatState = c.pass.inside.seat.me in let ok = c.pass.invariant in
    let mv : m.0 ≡ c.args.pass.now.view = ap (λ (p : Pass). p.view) c.pass.view_is in
    let wv : c.note.inside.seat.me.0 ≡ c.args.note.view = ap (λ (p : Pass). p.view) c.note.view_is in
    let charter : slot_count c.pass.inside.charter.value ≡ slot_count c.args.self.now.charter.value = ap (λ (y : Script). slot_count y) (sym ok.charter) ∙ ap (λ (p : Pass). (slot_count p.view.charter)) c.pass.view_is ∙ ap (λ (y : Script). slot_count y) c.requires.charter in
    let lt : c.args.slot < slot_count c.args.self.now.charter.value = c.requires.slot in
    let seens : length m.0.seen ≡ slot_count c.pass.inside.charter.value = ok.seens in let oldss : length m.0.olds ≡ slot_count c.pass.inside.charter.value = ok.oldss in
    let e = c.load.ensures.2 in
    met m c.join_seat.new.seat.me c.load.new.seat.me c.args.pass.now.view c.args.note.view c.args.slot mv (ap (λ (x : SeatState). x.0) c.join_seat.ensures.2 ∙ ap (λ (w : View). united m.0 w) wv) (omega arith) (omega arith) e.0 e.1 e.2
