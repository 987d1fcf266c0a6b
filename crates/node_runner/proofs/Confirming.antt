-- A packet that confirms a record, and what the node has of it.
use Rattle.std.proofs.Common.{◌≡◌, ℕ, true, false, Bool, List, ◌+◌, refl, sym, ap, ◌∙◌, subst}
use Rattle.std.specs.Prelude.{Option, None, Some, IfSome, IsSomeAnd, ◌&&◌, ◌==◌}
use Rattle.yard_model.specs.declared.fact.Fact.{Fact}
use Rattle.yard_model.specs.declared.incarnation.Slot.TheVariants as slot
use Rattle.yard_model.specs.declared.packet.Body.{Body}
use Rattle.yard_model.specs.declared.packet.Body.TheVariants as body
use Rattle.yard_model.specs.declared.packet.Packet.{Packet}
use Rattle.yard_model.specs.Genuine.{is_node, is_producer, is_brought, is_shard, is_genuine_body, is_genuine_packet}
use Rattle.yard_model.specs.Lawful.{is_of_shard}
use Rattle.yard_model.specs.Node.{Node}
use Rattle.yard_model.specs.Script.{Script, setting}
use Rattle.yard_model.specs.Setting.{shard_of}
use Rattle.actor_laws.specs.Hands.{held_list}
use Rattle.lease_table.specs.Fits.{recorded, home_of}
use Rattle.lease_table.specs.Leasing.{Pass}
use Rattle.lease_table.specs.Lists.{seen_at}
use Rattle.lease_table.specs.Tells.{noted}
use Rattle.node_runner.specs.declared.offer.Confirmed.{Confirmed}
use Rattle.node_runner.specs.Parcels.{is_shown, is_confirming}
use Rattle.node_runner.specs.Rested.{ArePublished, means}
use Rattle.node_runner.specs.Shown.{confirmed_of, IsRecordedIn}
use Rattle.plain_laws.proofs.Booleans.{and_both, both, number_itself, true_is_not_false}
use Rattle.plain_laws.proofs.Lists.{some_is, none_is_not_some}

pub plain_of : (b : Body) → confirmed_of b ≡ None → is_confirming b ≡ false
plain_of (body.Ack p e n) h = absurd (none_is_not_some (record { producer = p; entity = e; number = n }) (sym h))
plain_of (body.Request p e n u) h = absurd (none_is_not_some (record { producer = p; entity = e; number = n }) (sym h))
plain_of b h = refl

-- of a packet that confirms nothing nothing is to be shown
pub plain_shown : (c : Script) (b : Body) (seer : Option Pass) → is_confirming b ≡ false → is_shown c b seer ≡ true
plain_shown c (body.Ack p e n) seer h = absurd (true_is_not_false h)
plain_shown c (body.Request p e n u) seer h = absurd (true_is_not_false h)
plain_shown c b seer h = refl

-- so it is of one that confirms no record
pub none_shown : (c : Script) (b : Body) (seer : Option Pass) → confirmed_of b ≡ None → is_shown c b seer ≡ true
none_shown c b seer h = plain_shown c b seer (plain_of b h)

-- what it confirms is of a name that the script brings
pub brought_of : (c : Script) (b : Body) (r : Confirmed) → is_genuine_body c b ≡ true → confirmed_of b ≡ Some r → is_brought c r.entity ≡ true
brought_of c (body.Ack p e n) r g h = ap (λ (x : Confirmed). is_brought c x.entity) (sym (some_is _ r h)) ∙ (and_both (is_producer c p) (is_brought c e) g).1
brought_of c (body.Request p e n u) r g h =
    ap (λ (x : Confirmed). is_brought c x.entity) (sym (some_is _ r h)) ∙ (and_both (is_producer c p) (is_brought c e) (and_both (is_producer c p && is_brought c e) (u == n + c.config.window) g).0).1
brought_of c b r g h = absurd (none_is_not_some r h)

-- and its producer is the script's
pub producer_of : (c : Script) (b : Body) (r : Confirmed) → is_genuine_body c b ≡ true → confirmed_of b ≡ Some r → is_producer c r.producer ≡ true
producer_of c (body.Ack p e n) r g h = ap (λ (x : Confirmed). is_producer c x.producer) (sym (some_is _ r h)) ∙ (and_both (is_producer c p) (is_brought c e) g).0
producer_of c (body.Request p e n u) r g h =
    ap (λ (x : Confirmed). is_producer c x.producer) (sym (some_is _ r h)) ∙ (and_both (is_producer c p) (is_brought c e) (and_both (is_producer c p && is_brought c e) (u == n + c.config.window) g).0).0
producer_of c b r g h = absurd (none_is_not_some r h)

-- a note that has seen the record shows it
pub shown_of : (c : Script) (b : Body) (r : Confirmed) (w : Pass) → confirmed_of b ≡ Some r → recorded r.entity r.producer r.number (seen_at w.view.seen (home_of c r.entity)) ≡ true → is_shown c b (Some w) ≡ true
shown_of c (body.Ack p e n) r w h seen = ap (λ (x : Confirmed). recorded x.entity x.producer x.number (seen_at w.view.seen (home_of c x.entity))) (some_is _ r h) ∙ seen
shown_of c (body.Request p e n u) r w h seen = ap (λ (x : Confirmed). recorded x.entity x.producer x.number (seen_at w.view.seen (home_of c x.entity))) (some_is _ r h) ∙ seen
shown_of c b r w h seen = absurd (none_is_not_some r h)

-- its name is of this shard
pub of_home : (c : Script) (p : Packet) (r : Confirmed) (s : ℕ) → is_genuine_packet c p ≡ true → confirmed_of p.body ≡ Some r → s ≡ home_of c r.entity → is_of_shard c s r.entity ≡ true
of_home c p r s g h e =
    both (is_brought c r.entity) (shard_of (setting c) r.entity == s) (brought_of c p.body r (and_both (is_node c p.from && is_node c p.to) (is_genuine_body c p.body) g).1 h) (number_itself (shard_of (setting c) r.entity) s (sym e))

met_list : (P : List Fact → Type 0) (l : List Fact) (o : Option (List Fact)) → IsSomeAnd o P → IfSome o (λ list. l ≡ list) → P l
met_list P l None a b = absurd a
met_list P l (Some x) a b = subst P (sym b) a

-- the pass has seen the record, since what its node holds is published
pub seen_of : (c : Script) (p : Pass) (st : Node) (r : Confirmed) (s : ℕ) → ArePublished c p st → is_shard c s ≡ true → s ≡ home_of c r.entity → IsRecordedIn s r st → recorded r.entity r.producer r.number (seen_at p.view.seen (home_of c r.entity)) ≡ true
seen_of c p st r s published shard e known =
    subst (λ k. recorded r.entity r.producer r.number (seen_at p.view.seen k) ≡ true) e (met_list (λ list. recorded r.entity r.producer r.number list ≡ true) (seen_at p.view.seen s) (held_list (slot.Shard s) st) known (published (slot.Shard s) shard))

pub recorded_in : (s : ℕ) (r : Confirmed) (st : Node) (list : List Fact) → held_list (slot.Shard s) st ≡ Some list → recorded r.entity r.producer r.number list ≡ true → IsRecordedIn s r st
recorded_in s r st list h e = subst (λ o. IsSomeAnd o (λ (l : List Fact). recorded r.entity r.producer r.number l ≡ true)) (sym h) e

-- so it vouches for it
pub own_vouches : (c : Script) (me : ℕ) (p : Pass) (st : Node) (r : Confirmed) (s : ℕ) (list : List Fact) → ArePublished c p st → p.view.charter ≡ c → is_shard c s ≡ true → s ≡ home_of c r.entity → held_list (slot.Shard s) st ≡ Some list → recorded r.entity r.producer r.number list ≡ true
    → (means me p).vouches r.entity r.producer r.number ≡ true
own_vouches c me p st r s list published charter shard home held known =
    ap (λ (y : Script). recorded r.entity r.producer r.number (seen_at p.view.seen (home_of y r.entity))) charter ∙ seen_of c p st r s published shard home (recorded_in s r st list held known)
