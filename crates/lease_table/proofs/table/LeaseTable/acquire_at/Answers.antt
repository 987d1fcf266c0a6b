use Rattle.lease_table.specs.Fits.{slot_count}
use Rattle.std.proofs.Common.{arith, ◌≡◌, ℕ, ◌-◌, ◌<◌, ◌≤◌, length, [], None, Some, Option, sym, ap, ◌∙◌, List, ◌∷◌, ◌++◌, drop, take}
use Rattle.std.specs.Vec.{vec_len, vec_capacity}
use Rattle.yard_model.specs.Script.{Script}
use Rattle.atomic_table.specs.Table.{rest}
use Rattle.shard_store.specs.declared.store.Store.{Store}
use Rattle.lease_table.specs.Tells.{SeatState}
use Rattle.yard_model.specs.Words.{at}
use Rattle.lease_table.specs.Leasing.{Pass, counted}
use Rattle.lease_table.proofs.Taken.{front, counted_room, rotated, took_ok, took}
use Rattle.shard_store.specs.Stores.{slot_at}
use Rattle.lease_table.proofs.Charters.{admitted_some}
use Rattle.lease_table.proofs.Records.{few_nodes}
use Rattle.lease_table.proofs.table.LeaseTable.acquire_at.Goals as goal

pub exchange-taken-requires : goal.exchange-taken-requires
exchange-taken-requires c =
    let told = c.claim-found.ensures.told.hit c.if-found-ne0.false in
    (c.claim-found.ensures.seat.0 ∙ ap (λ (p : Pass). p.table) c.pass.view_is ∙ c.requires.table, (Some told.store, front _ _ _ _ told.now))

pub push_reserved-requires : goal.push_reserved-requires
push_reserved-requires c =
    let ok = c.pass.invariant in
    let free : at c.pass.inside.seat.me.0.held c.args.slot ≡ None = ap (λ (p : Pass). at p.view.held c.args.slot) c.pass.view_is ∙ c.requires.free in
    let charter : slot_count c.pass.inside.charter.value ≡ slot_count c.args.pass.now.view.charter = ap (λ (y : Script). slot_count y) (sym ok.charter) ∙ ap (λ (p : Pass). (slot_count p.view.charter)) c.pass.view_is in
    let inside : c.args.slot < slot_count c.args.pass.now.view.charter = c.requires.may.slot in
    let wide : length c.pass.inside.seat.me.0.held ≡ slot_count c.pass.inside.charter.value = ok.helds in
    let lt = counted_room c.pass.inside.seat.me.0.held c.args.slot (omega arith) free in
    let count : length c.pass.inside.order.items ≡ counted c.pass.inside.seat.me.0.held = ok.count in
    let room : slot_count c.pass.inside.charter.value ≤ vec_capacity c.pass.inside.order = ok.room in
    omega arith

pub invariant_of-pass-2 : goal.invariant_of-pass-2
invariant_of-pass-2 c =
    let ok = c.pass.invariant in
    let told = c.claim-found.ensures.told.hit c.if-found-ne0.false in
    let free : at c.pass.inside.seat.me.0.held c.args.slot ≡ None = ap (λ (p : Pass). at p.view.held c.args.slot) c.pass.view_is ∙ c.requires.free in
    let charter : slot_count c.pass.inside.charter.value ≡ slot_count c.args.pass.now.view.charter = ap (λ (y : Script). slot_count y) (sym ok.charter) ∙ ap (λ (p : Pass). (slot_count p.view.charter)) c.pass.view_is in
    let inside : c.args.slot < slot_count c.args.pass.now.view.charter = c.requires.may.slot in
    let now : c.push_reserved.new.self.items ≡ c.pass.inside.order.items ++ c.args.slot ∷ [] = c.push_reserved.ensures.items in
    let len : vec_len c.push_reserved.new.self - 1 ≡ length c.pass.inside.order.items = let l = c.push_reserved.ensures.len in omega arith in
    let order : c.rotate_right.new.self.items ≡ c.args.slot ∷ c.pass.inside.order.items =
    c.rotate_right.ensures.items ∙ ap (λ (l : List ℕ). drop (vec_len c.push_reserved.new.self - 1) l ++ take (vec_len c.push_reserved.new.self - 1) l) now ∙ rotated c.pass.inside.order.items c.args.slot _ len in
    took_ok _ _ _ _ _ _ _ c.args.slot told.hist ok (c.exchange-taken.ensures.3 ∙ ap (λ (m : SeatState). (m.0, (c.args.slot, None) ∷ rest m.1)) told.now) order
    (c.rotate_right.ensures.capacity ∙ c.push_reserved.ensures.capacity) (omega arith) free

pub returns-clause-answer : goal.returns-clause-answer
returns-clause-answer c =
    let ok = c.pass.invariant in
    let charter : slot_count c.pass.inside.charter.value ≡ slot_count c.args.pass.now.view.charter = ap (λ (y : Script). slot_count y) (sym ok.charter) ∙ ap (λ (p : Pass). (slot_count p.view.charter)) c.pass.view_is in
    let inside : c.args.slot < slot_count c.args.pass.now.view.charter = c.requires.may.slot in
    let wide : length c.pass.inside.seat.me.0.held ≡ slot_count c.pass.inside.charter.value = ok.helds in
    let told = c.claim-found.ensures.told.hit c.if-found-ne0.false in
    took _ _ _ c.args.who c.args.slot _ c.claim-found.new.seat.me c.exchange-taken.new.seat.me c.in-Some.store c.grant.new.self (ap (λ (p : Pass). p.view) c.pass.view_is) told c.requires.may (ap (λ (m : SeatState). m.0) c.exchange-taken.ensures.3) (omega arith)
    (c.exchange-taken.ensures.2 ∙ ap (λ (o : Option Store). (c.args.slot, o) ∷ rest c.claim-found.new.seat.me.1) c.in-Some.is) c.grant.ensures.epoch c.grant.ensures.entries c.grant.ensures.spare c.grant.ensures.script c.grant.ensures.slot c.is_leased-leased.ensures.own

pub node_of-requires-clause-some : goal.node_of-requires-clause-some
node_of-requires-clause-some c = let n = c.if-found-ne0.true in let some : 0 < c.claim-found.result = omega arith in some

pub node_of-requires-clause-few : goal.node_of-requires-clause-few
node_of-requires-clause-few c =
    let m = c.claim-found.ensures.told.miss c.if-found-ne0.true in
    let script : c.pass.inside.seat.me.0.charter ≡ c.args.self.now.charter.value = ap (λ (p : Pass). p.view.charter) c.pass.view_is ∙ c.requires.charter in
    let a = admitted_some c.pass.inside.seat.me.0.charter c.claim-found.result (slot_at c.pass.inside.seat.me.0.charter.config c.args.slot) m.admitted in
    let b : c.claim-found.result ≤ c.pass.inside.seat.me.0.charter.config.nodes = a.1 in
    let few : c.args.self.now.charter.value.config.nodes ≤ 16 = few_nodes c.args.self.now.charter.value c.args.self.now.script in
    let same : c.pass.inside.seat.me.0.charter.config.nodes ≡ c.args.self.now.charter.value.config.nodes = ap (λ (y : Script). y.config.nodes) script in
    let within : c.claim-found.result ≤ 16 = omega arith in within
