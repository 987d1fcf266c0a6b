-- A pass that met a note: its node rests on it, and it has seen what the note shows.
use Rattle.std.proofs.Common.{◌≡◌, ◌≢◌, ℕ, ◌+◌, ◌<◌, ◌≤◌, ◌⊎◌, inl, inr, ⊎_elim, true, List, [], ◌∷◌, ◌++◌, refl, sym, ap, ◌∙◌, subst, append-nil, get_or-set_other, arith}
use Rattle.std.specs.Prelude.{Option, None, Some, IfSome, is_some, slice_set}
use Rattle.atomic_table.specs.Seated.{TableId}
use Rattle.yard_model.specs.declared.fact.Fact.{Fact}
use Rattle.yard_model.specs.declared.incarnation.Slot.{Slot}
use Rattle.yard_model.specs.declared.incarnation.Slot.TheVariants as slot
use Rattle.yard_model.specs.Genuine.{is_slot_of, is_shard}
use Rattle.yard_model.specs.Node.{Node}
use Rattle.yard_model.specs.Script.{Script}
use Rattle.yard_model.specs.Words.{at}
use Rattle.shard_store.specs.Stores.{place_of, slot_at}
use Rattle.shard_store.proofs.PlaceLaws.{slot_back}
use Rattle.actor_laws.specs.Hands.{held_list}
use Rattle.shard_lease.specs.Meaning.{Meaning, Begins, Stays}
use Rattle.node_core.specs.Leased.{IsHandOf, Rests}
use Rattle.node_core.specs.Standing.{Standing}
use Rattle.node_core.proofs.AskLaws.{hand_stays}
use Rattle.lease_table.specs.declared.View.{View}
use Rattle.lease_table.specs.Fits.{recorded, home_of}
use Rattle.lease_table.specs.Leasing.{Pass, Met}
use Rattle.lease_table.specs.Lists.{seen_at}
use Rattle.lease_table.specs.Tells.{tied, united, longest}
use Rattle.lease_table.proofs.Meant.{Grows, stays, holds_by, told_by, free_there}
use Rattle.lease_table.proofs.Places.{begins_here, same_or_not}
use Rattle.lease_table.proofs.Records.{recorded_begins}
use Rattle.plain_laws.proofs.Lists.{none_is_not_some}
use Rattle.node_runner.specs.Rested.{Rested, ArePublished, SeesOn, means}
use Rattle.node_runner.proofs.WholeLaws.{met_whole}

-- it has seen more at one slot, and the rest is as before
pub met_grows : (v w u : View) (k : ℕ) → Met v w k u → Grows v u
met_grows v w u k m j = ⊎_elim
    (λ (e : j ≡ k). subst (λ (i : ℕ). Begins (seen_at v.seen i) (seen_at u.seen i)) (sym e) m.mine)
    (λ (ne : j ≢ k). subst (λ (l : List Fact). Begins (seen_at v.seen j) l) (sym (ap (λ (x : View). seen_at x.seen j) m.now ∙ get_or-set_other v.seen k j (longest (seen_at v.seen k) (seen_at (united v w).olds k)) [] ne)) (begins_here (seen_at v.seen j)))
    (same_or_not j k)

pub met_sees : (me : ℕ) (p note q : Pass) (k : ℕ) → q.table ≡ p.table → Met p.view note.view k q.view → SeesOn me p q
met_sees me p note q k table m = stays p.table q.table p.view q.view me table (ap (λ (u : View). u.charter) m.now) (met_grows p.view note.view q.view k m)

-- of two meanings with the same leases, the second of which has seen no less
some_hand : (old new : Meaning) (s : Slot) (o : Option (List Fact)) → Stays old new → new.told s ≡ old.told s → IfSome o (IsHandOf old s) → IfSome o (IsHandOf new s)
some_hand old new s None h told is = is
some_hand old new s (Some list) h told is = hand_stays old new s list h told is

rests_on : (c : Script) (me : ℕ) (p q : Pass) (st : Node) → Rests (means me p) c st → SeesOn me p q → q.view.charter ≡ p.view.charter → q.view.held ≡ p.view.held → Rests (means me q) c st
rests_on c me p q st r on charter held = record {
  script_is = charter ∙ r.script_is;
  serves_is = r.serves_is;
  number_is = r.number_is;
  admits_is = λ s here n. on.admits_is st.who.node s ∙ r.admits_is s here n;
  held_is = λ s here. holds_same st.who.node s ∙ r.held_is s here;
  lists_are = λ s here. some_hand (means me p) (means me q) s (held_list s st) on (told_same s) (r.lists_are s here);
  leased_are = r.leased_are;
}
  where
    holds_same : (n : ℕ) (s : Slot) → (means me q).holds n s ≡ (means me p).holds n s
    holds_same n s = ap (λ (y : Script). holds_by q.view me y n s) charter ∙ ap (λ (h : List (Option (List Fact))). holds_by (record p.view { held = h }) me p.view.charter n s) held

    told_same : (s : Slot) → (means me q).told s ≡ (means me p).told s
    told_same s = ap (λ (y : Script). told_by q.view y s) charter ∙ ap (λ (h : List (Option (List Fact))). told_by (record p.view { held = h }) p.view.charter s) held

-- it met the note at a shard that its node doesn't host
pub not_held : (z : TableId) (c : Script) (me : ℕ) (p : Pass) (v : Standing) (k : ℕ) → Rested z c me p v → is_shard c k ≡ true → held_list (slot.Shard k) v.state ≡ None → at p.view.held k ≡ None
not_held z c me p v k r shard none =
    free_there p.table p.view me v.state.who.node (slot.Shard k) r.who (ap (λ (y : Script). is_slot_of y (slot.Shard k)) r.charter ∙ shard)
    (r.rests.held_is (slot.Shard k) shard ∙ ap (λ (o : Option (List Fact)). is_some o) none)

pub met_rested : (z : TableId) (c : Script) (me : ℕ) (p note q : Pass) (v : Standing) (k : ℕ) → Rested z c me p v → is_shard c k ≡ true → held_list (slot.Shard k) v.state ≡ None → note.view.numbers ≡ [] → q.table ≡ p.table → Met p.view note.view k q.view → Rested z c me q v
met_rested z c me p note q v k r shard free none table m = record {
  table = table ∙ r.table;
  charter = ap (λ (u : View). u.charter) m.now ∙ r.charter;
  numbers = ap (λ (u : View). u.numbers) m.now ∙ ap (λ (l : List ℕ). p.view.numbers ++ l) none ∙ append-nil p.view.numbers ∙ r.numbers;
  script = r.script;
  who = r.who;
  rests = rests_on c me p q v.state r.rests (met_sees me p note q k table m) (ap (λ (u : View). u.charter) m.now) (ap (λ (u : View). u.held) m.now);
  whole = met_whole p.view note.view q.view k m (not_held z c me p v k r shard free) r.whole;
}

-- and what its node holds is seen as before
pub met_published : (c : Script) (p note q : Pass) (st : Node) (k : ℕ) → is_shard c k ≡ true → held_list (slot.Shard k) st ≡ None → Met p.view note.view k q.view → ArePublished c p st → ArePublished c q st
met_published c p note q st k shard free m published s here = by (held_list s st) refl (published s here)
  where
    by : (o : Option (List Fact)) → held_list s st ≡ o → IfSome o (λ list. seen_at p.view.seen (place_of c.config s) ≡ list) → IfSome o (λ list. seen_at q.view.seen (place_of c.config s) ≡ list)
    by None e h = h
    by (Some list) e h = ap (λ (x : View). seen_at x.seen (place_of c.config s)) m.now ∙ get_or-set_other p.view.seen k (place_of c.config s) (longest (seen_at p.view.seen k) (seen_at (united p.view note.view).olds k)) [] apart ∙ h
      where
        apart : place_of c.config s ≢ k
        apart is =
            let same : s ≡ slot.Shard k = sym (slot_back c s here) ∙ ap (slot_at c.config) is ∙ slot_back c (slot.Shard k) shard in
            absurd (none_is_not_some list (sym free ∙ ap (λ (t : Slot). held_list t st) (sym same) ∙ e))

-- it vouches for the record that the note has seen
pub met_vouches : (c : Script) (me : ℕ) (p note q : Pass) (e : List ℕ) (i n : ℕ) → p.view.charter ≡ c → Met p.view note.view (home_of c e) q.view → recorded e i n (seen_at note.view.seen (home_of c e)) ≡ true → (means me q).vouches e i n ≡ true
met_vouches c me p note q e i n charter m h =
    let same : q.view.charter ≡ c = ap (λ (u : View). u.charter) m.now ∙ charter in
    ap (λ (y : Script). recorded e i n (seen_at q.view.seen (home_of y e))) same ∙ recorded_begins e i n (seen_at note.view.seen (home_of c e)) (seen_at q.view.seen (home_of c e)) m.theirs h
