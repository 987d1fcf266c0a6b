-- The world along the items of one turn: its lists go on with the facts, its wire with the packets.
use Rattle.yard_model.specs.Era.{upgrade_step}
use Rattle.yard_laws.proofs.Guarding.{guarded_more, guarded_was}
use Rattle.std.proofs.Common.{◌≡◌, ◌⊎◌, inl, inr, ℕ, ◌+◌, List, [], ◌∷◌, ◌++◌, length, sym, ap, subst, ◌∙◌, refl, true, false, true≢false, ◌≤◌}
use Rattle.std.specs.Prelude.{Bool, ◌&&◌, nat_lt, not, fold, Option, Some, if◌then◌else◌}
use Rattle.std.specs.List.{list_all, slice_get}
use Rattle.std.proofs.lemmas.List.{append-nil, append_assoc}
use Rattle.std.proofs.lemmas.List.Sums.{fold-append}
use Rattle.yard_model.specs.declared.fact.Fact.{Fact}
use Rattle.yard_model.specs.declared.fact.Fact.TheVariants as fact
use Rattle.yard_model.specs.declared.out.Item.{Item}
use Rattle.yard_model.specs.declared.out.Item.TheVariants as item
use Rattle.yard_model.specs.declared.packet.Body.{Body}
use Rattle.yard_model.specs.declared.packet.Body.TheVariants as body
use Rattle.yard_model.specs.declared.packet.Packet.{Packet}
use Rattle.yard_model.specs.declared.incarnation.Incarnation.{Incarnation}
use Rattle.yard_model.specs.declared.charter.Sending.{Sending}
use Rattle.yard_model.specs.Genuine.{is_genuine_packet}
use Rattle.yard_model.specs.Node.{Node}
use Rattle.yard_model.specs.Guards.{guard, guarded, opens}
use Rattle.yard_model.specs.Script.{Script, Setting, setting}
use Rattle.yard_model.specs.SlotLists.{SlotLists}
use Rattle.yard_model.specs.Trace.{lists_step, lists_of}
use Rattle.yard_model.specs.Words.{is_same}
use Rattle.yard_model.specs.World.{World, world_after, members_step, ups_step, wire_step, nodes_step, numbered, count_posts, input_facts, set_step, past_step, lists_after}
use Rattle.plain_laws.proofs.Booleans.{and_both, all_map}
use Rattle.plain_laws.proofs.Lists.{last_or_before}
use Rattle.yard_laws.proofs.Owns.{lists_more}
use Rattle.actor_laws.specs.Owes.{Hand, facts_in, hand_after, is_own_post}
use Rattle.node_laws.specs.Members.{is_different_body}
use Rattle.node_laws.specs.Carried.{is_view, is_carried_body, is_carried_fact, carried_in_hand}
use Rattle.play_laws.specs.Sound.{IsWell, AreQueued}
use Rattle.play_laws.proofs.Queued.{all_carried_on, fact_queued}

-- Words that a fact leaves.

-- no node comes up or is gone by it, no packet is sent, and shards and versions stay
abbrev pub is_still : Fact → Bool
is_still (fact.Up x) = false
is_still (fact.Gone x) = false
is_still (fact.Sent k p) = false
is_still (fact.Reshard n k) = false
is_still (fact.Upgrade v) = false
is_still f = true

pub members_still : (old : List Incarnation) (f : Fact) → is_still f ≡ true → members_step old f ≡ old
members_still old (fact.Up x) h = absurd (true≢false (sym h))
members_still old (fact.Gone x) h = absurd (true≢false (sym h))
members_still old f h = refl

pub ups_still : (old : List ℕ) (f : Fact) → is_still f ≡ true → ups_step old f ≡ old
ups_still old (fact.Up x) h = absurd (true≢false (sym h))
ups_still old f h = refl

pub nodes_still : (set : Setting) (version : ℕ) (old : List (Option Node)) (f : Fact) → is_still f ≡ true → nodes_step set version old f ≡ old
nodes_still set version old (fact.Up x) h = absurd (true≢false (sym h))
nodes_still set version old (fact.Gone x) h = absurd (true≢false (sym h))
nodes_still set version old f h = refl

pub set_still : (old : Setting) (f : Fact) → is_still f ≡ true → set_step old f ≡ old
set_still old (fact.Reshard n k) h = absurd (true≢false (sym h))
set_still old f h = refl

pub version_still : (old : ℕ) (f : Fact) → is_still f ≡ true → upgrade_step old f ≡ old
version_still old (fact.Upgrade v) h = absurd (true≢false (sym h))
version_still old f h = refl

pub past_still : (wire : List Packet) (old : ℕ) (f : Fact) → is_still f ≡ true → past_step wire old f ≡ old
past_still wire old (fact.Reshard n k) h = absurd (true≢false (sym h))
past_still wire old f h = refl

pub lists_still : (set : Setting) (old : SlotLists) (f : Fact) → is_still f ≡ true → lists_after set old f ≡ lists_step set old f
lists_still set old (fact.Reshard n k) h = absurd (true≢false (sym h))
lists_still set old f h = refl

pub wire_still : (old : List Packet) (f : Fact) → is_still f ≡ true → wire_step old f ≡ old
wire_still old (fact.Sent k p) h = absurd (true≢false (sym h))
wire_still old f h = refl

-- it brings no other version
pub still_opens : (f : Fact) → is_still f ≡ true → opens f ≡ false
still_opens (fact.Upgrade v) h = absurd (true≢false (sym h))
still_opens f h = refl

-- The wire.

-- each packet since so many were posted
abbrev pub AreWell : Script → SlotLists → ℕ → List Packet → Type 0
AreWell c lists past wire = (j : ℕ) (p : Packet) → past ≤ j → slice_get wire j ≡ Some p → IsWell c lists p

pub well_more : (c : Script) (lists : SlotLists) (past : ℕ) (wire : List Packet) (p : Packet) → IsWell c lists p → AreWell c lists past wire → AreWell c lists past (wire ++ p ∷ [])
well_more c lists past wire p one all j q after e = by (last_or_before wire p q j e)
  where
    by : (slice_get wire j ≡ Some q) ⊎ (p ≡ q) → IsWell c lists q
    by (inl before) = all j q after before
    by (inr same) = subst (IsWell c lists) same one

-- with the lists after more facts
pub well_on : (c : Script) (lists : SlotLists) (fs : List Fact) (past : ℕ) (wire : List Packet) → AreWell c lists past wire → AreWell c (fold (lists_step (setting c)) lists fs) past wire
well_on c lists fs past wire all j p after e =
    let one : IsWell c lists p = all j p after e in
    record { genuine = one.genuine; different = one.different; carried = all_carried_on c fs lists p.body one.carried }

-- Along.

-- the world after the items: these words are as they were, and the lists are these
pub record Went (T : Type 0) (c : Script) (set : Setting) (version past : ℕ) (sends : List (List Sending)) (ups : List ℕ) (members : List Incarnation) (nodes : List (Option Node)) (lists : SlotLists) (v : World) : Type 0 where
  pub set_is : v.set ≡ set
  pub version_is : v.behaviour ≡ version
  pub past_is : v.past ≡ past
  pub sends_are : v.sends ≡ sends
  pub ups_are : v.ups ≡ ups
  pub members_are : v.members ≡ members
  pub nodes_are : v.nodes ≡ nodes
  pub lists_are : v.lists ≡ lists
  pub queued_are : T → AreQueued c lists
  pub wire_is : AreWell c lists past v.wire

abbrev pub WentOn : Type 0 → Script → World → SlotLists → World → Type 0
WentOn T c w lists v = Went T c w.set w.behaviour w.past w.sends w.ups w.members w.nodes lists v

no_view : (b : Body) → not (is_view b) ≡ true → is_different_body b ≡ true
no_view (body.View v xs) h = absurd (true≢false (sym h))
no_view b h = refl

pub went_items : {T : Type 0} → (c : Script) (who : Incarnation) (limit k : ℕ) (is : List Item) (u : List Fact) (h : Hand) (w : World) → h.lists ≡ lists_of (setting c) u → w.set ≡ setting c → w.lists ≡ lists_of (setting c) u
    → guarded c (u ++ facts_in is) ≡ true → list_all (is_own_post c who) is ≡ true → list_all is_still (facts_in is) ≡ true → carried_in_hand c h is ≡ true
    → (T → AreQueued c (lists_of (setting c) u)) → AreWell c (lists_of (setting c) u) w.past w.wire
    → WentOn T c w (lists_of (setting c) (u ++ facts_in is)) (fold world_after w (numbered limit k is))
went_items {T = T} c who limit k [] u h w hand set_is lists_are g posts still carried q wire = subst (λ t. WentOn T c w (lists_of (setting c) t) w) (sym (append-nil u)) (record {
  set_is = refl;
  version_is = refl;
  past_is = refl;
  sends_are = refl;
  ups_are = refl;
  members_are = refl;
  nodes_are = refl;
  lists_are = lists_are;
  queued_are = q;
  wire_is = wire;
})
went_items {T = T} c who limit k (item.Post p ∷ is) u h w hand set_is lists_are g posts still carried q wire =
    by (nat_lt k limit) (λ v s l r. went_items c who limit (k + 1) is u h v hand s l g (and_both (is_own_post c who (item.Post p)) (list_all (is_own_post c who) is) posts).1 still m.1 q r)
  where
    m : ((not (is_view p.body) && is_carried_body c h.lists p.body) ≡ true) × (carried_in_hand c h is ≡ true)
    m = and_both (not (is_view p.body) && is_carried_body c h.lists p.body) (carried_in_hand c h is) carried

    n : (not (is_view p.body) ≡ true) × (is_carried_body c h.lists p.body ≡ true)
    n = and_both (not (is_view p.body)) (is_carried_body c h.lists p.body) m.0

    well : IsWell c (lists_of (setting c) u) p
    well = record {
      genuine = (and_both (is_same p.from who) (is_genuine_packet c p) (and_both (is_own_post c who (item.Post p)) (list_all (is_own_post c who) is) posts).0).1;
      different = no_view p.body n.0;
      carried = subst (λ l. is_carried_body c l p.body ≡ true) hand n.1;
    }

    more : List Fact
    more = numbered limit (k + 1) is

    lists : SlotLists
    lists = lists_of (setting c) (u ++ facts_in is)

    by : (b : Bool) → ((v : World) → v.set ≡ setting c → v.lists ≡ lists_of (setting c) u → AreWell c (lists_of (setting c) u) v.past v.wire → WentOn T c v lists (fold world_after v more))
        → WentOn T c w lists (fold world_after w ((if b then fact.Sent (k + 1) p ∷ [] else []) ++ more))
    by true rest = rest (world_after w (fact.Sent (k + 1) p)) set_is lists_are (well_more c (lists_of (setting c) u) w.past w.wire p well wire)
    by false rest = rest w set_is lists_are wire
went_items {T = T} c who limit k (item.Fact f ∷ is) u h w hand set_is lists_are g posts still carried q wire =
    let m : (is_carried_fact h.lists f ≡ true) × (carried_in_hand c (hand_after c h f) is ≡ true) = and_both (is_carried_fact h.lists f) (carried_in_hand c (hand_after c h f) is) carried in
    let s : (is_still f ≡ true) × (list_all is_still (facts_in is) ≡ true) = and_both (is_still f) (list_all is_still (facts_in is)) still in
    let longer : (u ++ f ∷ []) ++ facts_in is ≡ u ++ (f ∷ facts_in is) = append_assoc u (f ∷ []) (facts_in is) in
    let all : guarded c ((u ++ f ∷ []) ++ facts_in is) ≡ true = ap (guarded c) longer ∙ g in
    let one : (guarded c u ≡ true) × (guard c u f ≡ true) = and_both (guarded c u) (guard c u f) (sym (guarded_more c u f (still_opens f s.0)) ∙ guarded_was c (u ++ f ∷ []) (facts_in is) (all_map is_still (λ f. not (opens f)) (λ f k. ap not (still_opens f k)) (facts_in is) s.1) all) in
    let next : lists_step (setting c) (lists_of (setting c) u) f ≡ lists_of (setting c) (u ++ f ∷ []) = sym (lists_more c u f) in
    let rest : WentOn T c (world_after w f) (lists_of (setting c) ((u ++ f ∷ []) ++ facts_in is)) (fold world_after (world_after w f) (numbered limit k is)) =
    went_items c who limit k is (u ++ f ∷ []) (hand_after c h f) (world_after w f) (ap (λ l. lists_step (setting c) l f) hand ∙ next) (set_still w.set f s.0 ∙ set_is)
    (lists_still w.set w.lists f s.0 ∙ (ap (λ t. lists_step t w.lists f) set_is ∙ (ap (λ l. lists_step (setting c) l f) lists_are ∙ next))) all
    posts s.1 m.1 (λ t. fact_queued c u f one.1 (subst (λ l. is_carried_fact l f ≡ true) hand m.0) (q t))
    (subst (λ n. AreWell c (lists_of (setting c) (u ++ f ∷ [])) n (world_after w f).wire) (sym (past_still w.wire w.past f s.0))
    (subst (AreWell c (lists_of (setting c) (u ++ f ∷ [])) w.past) (sym (wire_still w.wire f s.0)) (subst (λ l. AreWell c l w.past w.wire) next (well_on c (lists_of (setting c) u) (f ∷ []) w.past w.wire wire)))) in
    subst (λ t. WentOn T c w (lists_of (setting c) t) (fold world_after (world_after w f) (numbered limit k is))) longer (record {
      set_is = rest.set_is ∙ set_still w.set f s.0;
      version_is = rest.version_is ∙ version_still w.behaviour f s.0;
      past_is = rest.past_is ∙ past_still w.wire w.past f s.0;
      sends_are = rest.sends_are;
      ups_are = rest.ups_are ∙ ups_still w.ups f s.0;
      members_are = rest.members_are ∙ members_still w.members f s.0;
      nodes_are = rest.nodes_are ∙ nodes_still w.set w.behaviour w.nodes f s.0;
      lists_are = rest.lists_are;
      queued_are = rest.queued_are;
      wire_is = subst (λ n. AreWell c (lists_of (setting c) ((u ++ f ∷ []) ++ facts_in is)) n (fold world_after (world_after w f) (numbered limit k is)).wire) (past_still w.wire w.past f s.0) rest.wire_is;
    })

pub went_input : {T : Type 0} → (c : Script) (who : Incarnation) (is : List Item) (u : List Fact) (h : Hand) (w : World) → h.lists ≡ lists_of (setting c) u → w.set ≡ setting c → w.lists ≡ lists_of (setting c) u
    → guarded c (u ++ facts_in is) ≡ true → list_all (is_own_post c who) is ≡ true → list_all is_still (facts_in is) ≡ true → carried_in_hand c h is ≡ true
    → (T → AreQueued c (lists_of (setting c) u)) → AreWell c (lists_of (setting c) u) w.past w.wire
    → WentOn T c w (lists_of (setting c) (u ++ facts_in is)) (fold world_after w (input_facts w is))
went_input {T = T} c who is u h w hand set_is lists_are g posts still carried q wire =
    subst (WentOn T c w (lists_of (setting c) (u ++ facts_in is))) (sym (fold-append world_after w fs (full b)))
    (last b (went_items c who w.limit (length w.wire) is u h w hand set_is lists_are g posts still carried q wire))
  where
    fs : List Fact
    fs = numbered w.limit (length w.wire) is

    b : Bool
    b = nat_lt w.limit (fold count_posts (length w.wire) is)

    full : Bool → List Fact
    full b = if b then fact.WireFull ∷ [] else []

    last : (b : Bool) → let v : World = fold world_after w fs in WentOn T c w (lists_of (setting c) (u ++ facts_in is)) v → WentOn T c w (lists_of (setting c) (u ++ facts_in is)) (fold world_after v (full b))
    last true m = record {
      set_is = m.set_is;
      version_is = m.version_is;
      past_is = m.past_is;
      sends_are = m.sends_are;
      ups_are = m.ups_are;
      members_are = m.members_are;
      nodes_are = m.nodes_are;
      lists_are = m.lists_are;
      queued_are = m.queued_are;
      wire_is = m.wire_is;
    }
    last false m = m
