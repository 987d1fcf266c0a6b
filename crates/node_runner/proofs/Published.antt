-- A pass after a publish: its node rests on it, and has seen what the pass has.
use Rattle.std.proofs.Common.{◌≡◌, ◌≢◌, ℕ, zero, suc, ◌+◌, ◌-◌, ◌<◌, ◌≤◌, ◌⊎◌, inl, inr, ⊎_elim, Bool, true, false, ◌&&◌, List, [], ◌∷◌, length, refl, sym, ap, ◌∙◌, subst, arith, eqb, eq-eqb, ne_eqb, get_or-set_same, get_or-set_other}
use Rattle.std.specs.Prelude.{◌==◌, Option, None, Some, IfSome, is_some, slice_get, slice_set}
use Rattle.std.specs.List.{list_all}
use Rattle.atomic_table.specs.Seated.{TableId}
use Rattle.plain_laws.proofs.Booleans.{both}
use Rattle.plain_laws.proofs.Lists.{some_is, inside, placed_at, placed_beside}
use Rattle.yard_model.specs.declared.fact.Fact.{Fact}
use Rattle.yard_model.specs.declared.incarnation.Slot.{Slot}
use Rattle.yard_model.specs.Genuine.{is_slot_of}
use Rattle.yard_model.specs.Lawful.{own}
use Rattle.yard_model.specs.declared.out.Item.{Item}
use Rattle.yard_model.specs.Node.{Node, Act}
use Rattle.yard_model.specs.SlotLists.{SlotLists}
use Rattle.yard_model.specs.Script.{Script, IsScript}
use Rattle.yard_model.specs.Words.{at}
use Rattle.actor_laws.specs.Hands.{held_list}
use Rattle.node_laws.specs.NodeStands.{IsSoundNode}
use Rattle.shard_store.specs.Stores.{place_of, slot_at}
use Rattle.shard_store.proofs.PlaceLaws.{place_within, slot_back}
use Rattle.shard_lease.specs.Meaning.{Meaning, Begins, Stays, confirms}
use Rattle.node_core.specs.Leased.{IsHandOf, Rests}
use Rattle.node_core.specs.Gave.{moment}
use Rattle.node_core.specs.Turned.{Turned}
use Rattle.node_core.specs.Slots.{held_slots}
use Rattle.node_core.specs.Standing.{Standing}
use Rattle.node_core.proofs.AskLaws.{hand_stays}
use Rattle.node_core.proofs.GaveLaws.{stays_same, stays_both}
use Rattle.node_core.proofs.PartLaws.{holds_it, hand_of}
use Rattle.node_core.proofs.TurnLaws.{held_own}
use Rattle.lease_table.specs.declared.View.{View}
use Rattle.lease_table.specs.Fits.{is_fit, slot_count}
use Rattle.lease_table.specs.Leasing.{Pass, MayPublish, Spans}
use Rattle.lease_table.specs.Lists.{seen_at}
use Rattle.lease_table.specs.Means.{meaning_of}
use Rattle.lease_table.specs.Tells.{published}
use Rattle.lease_table.proofs.Meant.{all_taken, held_there, told_here, told_by, holds_by, stays, apart, grows_at, may_publish}
use Rattle.lease_table.proofs.Places.{begins_here, same_or_not}
use Rattle.node_runner.specs.Rested.{Rested, ArePublished, SeesOn, means}
use Rattle.node_runner.specs.Told.{StayShown}
use Rattle.node_runner.proofs.WholeLaws.{published_whole}

-- What a publish asks.

pub may_show : (z : TableId) (c : Script) (me : ℕ) (p : Pass) (v : Standing) (s : Slot) (list : List Fact) → Rested z c me p v → IsSoundNode c v.state → is_slot_of c s ≡ true → held_list s v.state ≡ Some list → MayPublish p.view (place_of c.config s) list
may_show z c me p v s list r sound here e =
    let hand : IsHandOf (means me p) s list = hand_of c (means me p) v.state s list here e r.rests in
    let lawful : own p.view.charter s list ≡ true = ap (λ (y : Script). own y s list) r.charter ∙ held_own c v.state s list sound here e in
    let holds : (means me p).holds v.state.who.node s ≡ true = holds_it c (means me p) v.state s list here e r.rests in
    subst (λ (y : Script). MayPublish p.view (place_of y.config s) list) r.charter
    (may_publish p.table p.view me v.state.who.node s list (ap (λ (y : Script). is_slot_of y s) r.charter ∙ here) holds hand.extends hand.taken hand.vouched lawful)

-- What a pass is after it.

slot_or_not : (c : Script) (t s : Slot) → is_slot_of c t ≡ true → is_slot_of c s ≡ true → (t ≡ s) ⊎ (place_of c.config t ≢ place_of c.config s)
slot_or_not c t s ht hs = ⊎_elim
    (λ (e : place_of c.config t ≡ place_of c.config s). inl (sym (slot_back c t ht) ∙ ap (slot_at c.config) e ∙ slot_back c s hs))
    (λ (ne : place_of c.config t ≢ place_of c.config s). inr ne)
    (same_or_not (place_of c.config t) (place_of c.config s))

some_hand : (old new : Meaning) (s : Slot) (o : Option (List Fact)) → Stays old new → new.told s ≡ old.told s → IfSome o (IsHandOf old s) → IfSome o (IsHandOf new s)
some_hand old new s None h told is = is
some_hand old new s (Some list) h told is = hand_stays old new s list h told is

pub sees_published : (me : ℕ) (p q : Pass) (k : ℕ) (list : List Fact) → q.table ≡ p.table → q.view ≡ published p.view k list → Begins (seen_at p.view.seen k) list → SeesOn me p q
sees_published me p q k list table now seen = stays p.table q.table p.view q.view me table (ap (λ (u : View). u.charter) now) (grows_at p.view q.view k list (ap (λ (u : View). u.seen) now) seen)

rests_published : (me : ℕ) (p q : Pass) (st : Node) (s : Slot) (list : List Fact) → st.who.node ≡ me → Rests (means me p) p.view.charter st → is_slot_of p.view.charter s ≡ true → held_list s st ≡ Some list
    → q.table ≡ p.table → q.view ≡ published p.view (place_of p.view.charter.config s) list → Begins (seen_at p.view.seen (place_of p.view.charter.config s)) list → Rests (means me q) p.view.charter st
rests_published me p q st s list who rests here e table now seen =
    let v : View = p.view in
    let w : View = q.view in
    let k : ℕ = place_of v.charter.config s in
    let same : w.charter ≡ v.charter = ap (λ (u : View). u.charter) now in
    let hold : (means me p).holds st.who.node s ≡ true = rests.held_is s here ∙ ap (λ (o : Option (List Fact)). is_some o) e in
    let h = held_there p.table v me st.who.node s hold in
    let there : at w.held k ≡ Some list = ap (λ (u : View). at u.held k) now ∙ placed_at v.held k (Some list) (inside v.held k h.list h.is) in
    let there_now : at w.held (place_of w.charter.config s) ≡ Some list = ap (λ (c : Script). at w.held (place_of c.config s)) same ∙ there in
    let told_is : told_by w w.charter s ≡ list = told_here w s list (ap (λ (c : Script). is_slot_of c s) same ∙ here) there_now in
    let on : Stays (means me p) (means me q) = sees_published me p q k list table now seen in
    let a = apart p.table q.table v w me st.who.node s same who here (λ j ne. ap (λ (u : View). at u.held j) now ∙ placed_beside v.held k j (Some list) ne) in
    let mine : (means me q).holds st.who.node s ≡ true = ap (λ (c : Script). holds_by w me c st.who.node s) same
    ∙ both (eqb st.who.node me) (is_slot_of v.charter s && is_some (at w.held k)) (eq-eqb st.who.node me who) (both (is_slot_of v.charter s) (is_some (at w.held k)) here (ap (λ (o : Option (List Fact)). is_some o) there)) in
    let hand : IsHandOf (means me p) s list = hand_of v.charter (means me p) st s list here e rests in
    let now_hand : IsHandOf (means me q) s list = record {
      extends = subst (λ (l : List Fact). Begins l list) (sym told_is) (begins_here list);
      taken = all_taken q.table w me s list ∙ ap (λ (c : Script). list_all (is_fit c s) list) same ∙ sym (all_taken p.table v me s list) ∙ hand.taken;
      vouched = λ x i m c. inl (ap (confirms x i m) told_is ∙ c);
    } in record {
      script_is = same;
      serves_is = rests.serves_is;
      number_is = rests.number_is;
      admits_is = λ t ht n. on.admits_is st.who.node t ∙ rests.admits_is t ht n;
      held_is = λ t ht. ⊎_elim (λ (is : t ≡ s). subst (λ (u : Slot). (means me q).holds st.who.node u ≡ is_some (held_list u st)) (sym is) (mine ∙ sym (ap (λ (o : Option (List Fact)). is_some o) e)))
          (λ (ne : place_of v.charter.config t ≢ k). a.holds_is st.who.node t (inr (λ is. ne (ap (place_of v.charter.config) is))) ∙ rests.held_is t ht) (slot_or_not v.charter t s ht here);
      lists_are = λ t ht. ⊎_elim (λ (is : t ≡ s). subst (λ (u : Slot). IfSome (held_list u st) (IsHandOf (means me q) u)) (sym is) (subst (λ o. IfSome o (IsHandOf (means me q) s)) (sym e) now_hand))
          (λ (ne : place_of v.charter.config t ≢ k). some_hand (means me p) (means me q) t (held_list t st) on (a.told_is t (λ is. ne (ap (place_of v.charter.config) is))) (rests.lists_are t ht)) (slot_or_not v.charter t s ht here);
      leased_are = rests.leased_are;
    }

pub after_publish : (z : TableId) (c : Script) (me : ℕ) (p q : Pass) (v : Standing) (s : Slot) (list : List Fact) → Rested z c me p v → Spans p.view → is_slot_of c s ≡ true → held_list s v.state ≡ Some list
    → q.table ≡ p.table → q.view ≡ published p.view (place_of c.config s) list → Begins (seen_at p.view.seen (place_of c.config s)) list → Rested z c me q v
after_publish z c me p q v s list r wide here e table now seen = record {
  table = table ∙ r.table;
  charter = ap (λ (u : View). u.charter) now ∙ r.charter;
  numbers = ap (λ (u : View). u.numbers) now ∙ r.numbers;
  script = r.script;
  who = r.who;
  rests = subst (λ (y : Script). Rests (means me q) y v.state) r.charter
      (rests_published me p q v.state s list r.who (subst (λ (y : Script). Rests (means me p) y v.state) (sym r.charter) r.rests) (ap (λ (y : Script). is_slot_of y s) r.charter ∙ here) e table
      (subst (λ (y : Script). q.view ≡ published p.view (place_of y.config s) list) (sym r.charter) now) (subst (λ (y : Script). Begins (seen_at p.view.seen (place_of y.config s)) list) (sym r.charter) seen));
  whole = published_whole p.view q.view (place_of c.config s) list wide now r.whole;
}

-- what it has seen of the slots then

pub shown_here : (c : Script) (p q : Pass) (s : Slot) (list : List Fact) → Spans p.view → p.view.charter ≡ c → is_slot_of c s ≡ true → q.view ≡ published p.view (place_of c.config s) list → seen_at q.view.seen (place_of c.config s) ≡ list
shown_here c p q s list wide charter here now =
    let k : ℕ = place_of c.config s in
    let all : length p.view.seen ≡ slot_count c = wide.seens ∙ ap slot_count charter in
    let low : k < slot_count c = place_within c s here in
    let less : k < length p.view.seen = subst (λ m. k < m) (sym all) low in
    ap (λ (u : View). seen_at u.seen k) now ∙ get_or-set_same p.view.seen k list [] less

pub stay_shown : (c : Script) (p q : Pass) (st : Node) (s : Slot) (list : List Fact) → Spans p.view → p.view.charter ≡ c → is_slot_of c s ≡ true → held_list s st ≡ Some list → q.view ≡ published p.view (place_of c.config s) list → StayShown c p q st
stay_shown c p q st s list wide charter here e now t l there h seen = ⊎_elim
    (λ (is : t ≡ s). subst (λ (u : Slot). seen_at q.view.seen (place_of c.config u) ≡ l) (sym is) (shown_here c p q s list wide charter here now ∙ some_is list l (sym e ∙ ap (λ (u : Slot). held_list u st) (sym is) ∙ h)))
    (λ (ne : place_of c.config t ≢ place_of c.config s). ap (λ (u : View). seen_at u.seen (place_of c.config t)) now ∙ get_or-set_other p.view.seen (place_of c.config s) (place_of c.config t) list [] ne ∙ seen)
    (slot_or_not c t s there here)

-- A turn, and then what it told is published.

no_other : (me n : ℕ) (b d : Bool) → n ≢ me → ((n == me) && b) ≡ ((n == me) && d)
no_other me n b d ne = let none : (n == me) ≡ false = ne_eqb n me ne in ap (λ x. x && b) none ∙ sym (ap (λ x. x && d) none)

pub turned_on : (c : Script) (acts : SlotLists → List Act) (me : ℕ) (p mid r : Pass) (st w : Node) (old new : List Item) → st.who.node ≡ me → Turned c acts (moment (means me p) st old) (moment (means me mid) w new) → SeesOn me mid r → Rests (means me r) c w
    → Turned c acts (moment (means me p) st old) (moment (means me r) w new)
turned_on c acts me p mid r st w old new who t on rests = record {
  told = t.told;
  items_are = t.items_are;
  node_is = t.node_is;
  acts_are = t.acts_are;
  tells = t.tells;
  in_hand = t.in_hand;
  lists = t.lists;
  found = t.found;
  found_acts = t.found_acts;
  keeps = t.keeps;
  rests = rests;
  stays = stays_both (means me p) (means me mid) (means me r) t.stays on;
  others = λ n s ne. no_other me n (is_slot_of r.view.charter s && is_some (at r.view.held (place_of r.view.charter.config s))) (is_slot_of p.view.charter s && is_some (at p.view.held (place_of p.view.charter.config s))) (λ e. ne (e ∙ sym who));
}
