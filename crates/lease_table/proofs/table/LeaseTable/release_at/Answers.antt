use Rattle.lease_table.specs.Fits.{slot_count}
use Rattle.std.proofs.lemmas.List.{get_or-set_same}
use Rattle.std.proofs.Common.{true, [], ◌++◌, arith, ◌≡◌, ℕ, ◌<◌, List, ◌∷◌, length, map, None, Some, Option, sym, ap, ◌∙◌, subst}
use Rattle.yard_model.specs.Script.{Script}
use Rattle.yard_model.specs.declared.fact.Fact.{Fact}
use Rattle.shard_store.specs.declared.store.Store.{Store}
use Rattle.shard_store.specs.Stores.{script_of, slot_of, entries_of, slot_at, entries_of_ref}
use Rattle.yard_model.specs.declared.fact.Fact.TheVariants as fact
use Rattle.yard_model.specs.declared.incarnation.Slot.{Slot}
use Rattle.yard_model.specs.Lawful.{own}
use Rattle.yard_model.specs.SlotReads.{epoch}
use Rattle.std.specs.List.{remove}
use Rattle.atomic_table.specs.Table.{rest}
use Rattle.lease_table.specs.declared.View.{View}
use Rattle.yard_model.specs.Words.{at}
use Rattle.lease_table.specs.Tells.{SeatState, freed, published}
use Rattle.lease_table.specs.Leasing.{Pass, MayRelease, empty}
use Rattle.lease_table.proofs.Given.{may_end, rests_ended, gave_ok}
use Rattle.lease_table.proofs.table.LeaseTable.release_at.Goals as goal

pub announce-requires-clause-rule : goal.announce-requires-clause-rule
announce-requires-clause-rule c =
    let same : c.pass.inside.seat.me.0 ≡ c.args.pass.now.view = ap (λ (p : Pass). p.view) c.pass.view_is in
    may_end c.pass.inside.seat.me.0 c.args.slot c.args.store c.args.cause _ (subst (λ (v : View). MayRelease v c.args.slot c.args.store) (sym same) c.requires.store)
    (let charter : c.args.pass.now.view.charter ≡ c.pass.inside.seat.me.0.charter = ap (λ (v : View). v.charter) (sym same) in
    let script : script_of c.free.new.self ≡ c.pass.inside.seat.me.0.charter = c.free.ensures.script ∙ c.requires.store.script ∙ charter in
    let slot : slot_of c.free.new.self ≡ slot_at c.pass.inside.seat.me.0.charter.config c.args.slot = c.free.ensures.slot ∙ c.requires.store.slot ∙ ap (λ (y : Script). slot_at y.config c.args.slot) charter in
    ap (λ l. own c.pass.inside.seat.me.0.charter (slot_at c.pass.inside.seat.me.0.charter.config c.args.slot) l) c.as_ref.ensures.entries ∙ subst (λ (z : Script × Slot). own z.0 z.1 (entries_of c.free.new.self) ≡ true) (λ i. (script i, slot i)) c.is_leased-leased.ensures.own)
    (c.as_ref.ensures.entries ∙ c.free.ensures.entries ∙ ap (λ q. entries_of c.args.store ++ fact.Freed q (epoch (entries_of c.args.store)) c.args.cause ∷ []) (c.requires.store.slot ∙ ap (λ (v : View). slot_at v.charter.config c.args.slot) (sym same)))

pub give-requires-clause-rests : goal.give-requires-clause-rests
give-requires-clause-rests c =
    let m : SeatState = c.pass.inside.seat.me in
    let ok = c.pass.invariant in
    let k : ℕ = c.args.slot in
    let l : List Fact = (entries_of_ref c.as_ref.result) in
    let log : (entries_of c.free.new.self) ≡ l = sym c.as_ref.ensures.entries in
    let b = c.bring.ensures.order in
    let same : slot_count c.pass.inside.charter.value ≡ slot_count c.args.self.now.charter.value = ap (λ (y : Script). slot_count y) (sym ok.charter) ∙ ap (λ (p : Pass). (slot_count p.view.charter)) c.pass.view_is ∙ ap (λ (y : Script). slot_count y) c.requires.charter in
    let lt : k < slot_count c.args.self.now.charter.value = c.requires.slot in
    let wide : length m.0.held ≡ slot_count c.pass.inside.charter.value = ok.helds in
    let view : c.exchange.new.seat.me.0 ≡ published m.0 k l = ap (λ (x : SeatState). x.0) c.exchange.ensures.3 ∙ c.bring.ensures.seat.2 ∙ ap (λ (x : SeatState). x.0) c.announce.ensures.told in (
      (entries_of c.free.new.self),
      c.free.new.self,
      map empty b.tail,
      ap (λ (v : View). at v.held k) view ∙ get_or-set_same m.0.held k (Some l) None (omega arith) ∙ ap (λ (h : List Fact). Some h) (sym log),
      ap (λ (x : SeatState). x.1) c.exchange.ensures.3 ∙ ap (λ (cs : List (ℕ × Option Store)). (k, Some c.free.new.self) ∷ rest cs) (b.all ∙ ap (λ (o : List ℕ). map empty o) b.is),
      rests_ended c.args.self.now.charter.value c.args.pass.now.view k c.args.store c.free.new.self c.args.cause c.requires.charter c.requires.store c.free.ensures.entries c.free.ensures.spare c.free.ensures.script c.free.ensures.slot,
    )

pub invariant_of-pass : goal.invariant_of-pass
invariant_of-pass c =
    let m : SeatState = c.pass.inside.seat.me in
    let ok = c.pass.invariant in
    let k : ℕ = c.args.slot in
    let l : List Fact = (entries_of_ref c.as_ref.result) in
    let b = c.bring.ensures.order in
    let same : slot_count c.pass.inside.charter.value ≡ slot_count c.args.self.now.charter.value = ap (λ (y : Script). slot_count y) (sym ok.charter) ∙ ap (λ (p : Pass). (slot_count p.view.charter)) c.pass.view_is ∙ ap (λ (y : Script). slot_count y) c.requires.charter in
    let lt : k < slot_count c.args.self.now.charter.value = c.requires.slot in
    let view : c.bring.new.seat.me.0 ≡ published m.0 k l = c.bring.ensures.seat.2 ∙ ap (λ (x : SeatState). x.0) c.announce.ensures.told in
    gave_ok c.pass.inside.charter.value m c.give.new.seat.me c.pass.inside.order.items c.bring.new.order.items c.remove.new.self.items c.bring.new.seat.me.1 _ _ k c.requires.store.old l ok
    (ap (λ (p : Pass). at p.view.held k) c.pass.view_is ∙ c.requires.store.held) (omega arith) b (c.remove.ensures.items ∙ ap (λ (o : List ℕ). remove o 0) b.is)
    (c.give.ensures.told ∙ ap (λ (x : SeatState). (freed x.0 k, rest x.1)) c.exchange.ensures.3 ∙ ap (λ (v : View). (freed v k, rest c.bring.new.seat.me.1)) view)
    (c.remove.ensures.capacity ∙ c.bring.ensures.room)
