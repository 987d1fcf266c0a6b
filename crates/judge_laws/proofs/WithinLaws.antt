-- The places of a journal's records are no more than the records.
use Rattle.std.proofs.Common.{◌≡◌, ◌≤◌, ℕ, ◌+◌, sym, ap, ◌∙◌, refl, subst, arith}
use Rattle.std.specs.Prelude.{Bool, true, false, ◌==◌, ◌&&◌, ◌||◌, cond, List, [], ◌∷◌, ◌++◌, if◌then◌else◌}
use Rattle.yard_model.specs.declared.fact.Fact.{Fact}
use Rattle.yard_model.specs.declared.fact.Fact.TheVariants as fact
use Rattle.yard_model.specs.declared.packet.Record.{Record}
use Rattle.yard_model.specs.declared.incarnation.Slot.TheVariants as slot
use Rattle.yard_model.specs.Script.{Script, is_name}
use Rattle.yard_model.specs.Genuine.{is_producer, is_planned}
use Rattle.yard_model.specs.Lawful.{own, has_place, is_of_shard, is_folded_after, is_merged_after, is_shard_entry}
use Rattle.yard_model.specs.SlotReads.{journal, journal_step, position}
use Rattle.yard_model.specs.Opening.{begins}
use Rattle.plain_laws.proofs.Booleans.{true_is_not_false, and_both, same_number, same_name}
use Rattle.plain_laws.proofs.Read.{journal_more}
use Rattle.yard_laws.proofs.Owned.{shard_to}
use Rattle.yard_laws.proofs.Places.{position_more, place_more}

abbrev pub AreWithin : List Record → Type 0
AreWithin records = (p n : ℕ) → has_place p n records ≡ true → n ≤ position p records

within_more : (records : List Record) (r : Record) → AreWithin records → (r.place == position r.producer records + 1) ≡ true → AreWithin (records ++ r ∷ [])
within_more records r h next p n has =
    let long : position p (records ++ r ∷ []) ≡ position p records + cond (r.producer == p) 1 0 = position_more p records r in
    subst (λ m. n ≤ m) (sym long) (by (has_place p n records) refl (r.producer == p) refl (r.place == n) refl (sym (place_more p n records r) ∙ has))
  where
    by : (a : Bool) → has_place p n records ≡ a → (b : Bool) → (r.producer == p) ≡ b → (d : Bool) → (r.place == n) ≡ d → (a || ((b && d) || false)) ≡ true → n ≤ position p records + cond b 1 0
    by true e true f d g i = let less : n ≤ position p records = h p n e in omega (arith, less)
    by true e false f d g i = let less : n ≤ position p records = h p n e in omega (arith, less)
    by false e true f true g i =
        let same : r.place ≡ n = same_number r.place n g in
        let it : r.place ≡ position r.producer records + 1 = same_number r.place (position r.producer records + 1) next in
        let who : position r.producer records ≡ position p records = ap (λ q. position q records) (same_number r.producer p f) in
        omega (arith, same, it, who)
    by false e true f false g i = absurd (true_is_not_false (sym i))
    by false e false f d g i = absurd (true_is_not_false (sym i))

within_step : (c : Script) (k : ℕ) (e : List ℕ) (list : List Fact) (f : Fact) → AreWithin (journal e list) → (begins f || is_shard_entry c k list f) ≡ true → AreWithin (journal_step e (journal e list) f)
within_step c k e list (fact.Wrote x r) h may = step (is_name x e) refl
  where
    entry : (is_of_shard c k x && is_producer c r.producer && is_folded_after c (journal x list) r && is_merged_after c x (journal x list) r) ≡ true
    entry = may

    merged : is_merged_after c x (journal x list) r ≡ true
    merged = (and_both (is_of_shard c k x && is_producer c r.producer && is_folded_after c (journal x list) r) (is_merged_after c x (journal x list) r) entry).1

    next : (r.place == position r.producer (journal x list) + 1) ≡ true
    next = (and_both (r.place == position r.producer (journal x list) + 1) (is_planned c r.producer x r.place r.command) merged).0

    step : (b : Bool) → is_name x e ≡ b → AreWithin (if b then journal e list ++ r ∷ [] else journal e list)
    step false s = h
    step true s = within_more (journal e list) r h (subst (λ y. (r.place == position r.producer (journal y list) + 1) ≡ true) (same_name x e s) next)
within_step c k e list f h may = h

pub within : (c : Script) (k : ℕ) (e : List ℕ) (list : List Fact) → own c (slot.Shard k) list ≡ true → AreWithin (journal e list)
within c k e list o = shard_to c k (λ l. AreWithin (journal e l)) none (λ l f h may. subst AreWithin (sym (journal_more e l f)) (within_step c k e l f h may)) list o
  where
    none : AreWithin []
    none p n has = absurd (true_is_not_false (sym has))
