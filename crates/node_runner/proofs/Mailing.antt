-- What a worker posts: who may be a member, and what is left of what a turn posted.
use Rattle.std.proofs.Common.{◌≡◌, ℕ, zero, suc, ◌<◌, true, List, [], ◌∷◌, length, sym, ap, ◌∙◌, subst, arith}
use Rattle.std.specs.Prelude.{Option, Some, slice_index_or}
use Rattle.std.specs.List.{list_all}
use Rattle.atomic_table.specs.Seated.{TableId}
use Rattle.plain_laws.proofs.Booleans.{and_both, both}
use Rattle.yard_model.specs.declared.out.Item.{Item}
use Rattle.yard_model.specs.Behaviour.{is_in}
use Rattle.yard_model.specs.declared.packet.Packet.{Packet}
use Rattle.yard_model.specs.Genuine.{is_node, is_genuine_packet}
use Rattle.yard_model.specs.Script.{Script}
use Rattle.node_core.specs.Standing.{Standing}
use Rattle.lease_table.specs.Fits.{is_within}
use Rattle.lease_table.specs.Leasing.{Pass}
use Rattle.node_runner.specs.Entered.{is_member}
use Rattle.node_runner.specs.Posts.{is_genuine_item, AreGenuine, ArePackets}
use Rattle.node_runner.specs.Progress.{StandsAt}
use Rattle.node_runner.specs.Rested.{Rested}

-- a node that rests on its pass may be a member
pub rested_member : (z : TableId) (c : Script) (n : ℕ) (p : Pass) (v : Standing) → is_in 1 c.config.nodes n ≡ true → Rested z c n p v → is_member c v.state.who ≡ true
rested_member z c n p v node rested = both (is_node c v.state.who) (is_within v.state.who.number) (ap (is_in 1 c.config.nodes) rested.who ∙ node) rested.rests.number_is

pub up_member : (z : TableId) (c : Script) (n : ℕ) (p : Pass) (o : Option Standing) (v : Standing) → is_in 1 c.config.nodes n ≡ true → StandsAt z c n p o → o ≡ Some v → is_member c v.state.who ≡ true
up_member z c n p o v node stands is = rested_member z c n p v node (subst (λ (x : Option Standing). StandsAt z c n p x) is stands).0

-- each of genuine packets
pub genuine_at : (c : Script) (ps : List Packet) (i : ℕ) (x : Packet) → ArePackets c ps → i < length ps → x ≡ slice_index_or ps i x → is_genuine_packet c x ≡ true
genuine_at c [] i x h low e = absurd (never i low)
  where
    never : (k : ℕ) → k < 0 → ⊥
    never k h = omega (arith, h)
genuine_at c (p ∷ ps) zero x h low e = ap (is_genuine_packet c) e ∙ (and_both (is_genuine_packet c p) (list_all (is_genuine_packet c) ps) h).0
genuine_at c (p ∷ ps) (suc i) x h low e = genuine_at c ps i x (and_both (is_genuine_packet c p) (list_all (is_genuine_packet c) ps) h).1 (down i (length ps) low) e
  where
    down : (k n : ℕ) → suc k < suc n → k < n
    down k n h = omega (arith, h)

pub first_genuine : (c : Script) (items rest : List Item) (x : Item) → AreGenuine c items → items ≡ x ∷ rest → is_genuine_item c x ≡ true
first_genuine c items rest x h e = (and_both (is_genuine_item c x) (list_all (is_genuine_item c) rest) (ap (list_all (is_genuine_item c)) (sym e) ∙ h)).0

pub rest_genuine : (c : Script) (items rest : List Item) (x : Item) → AreGenuine c items → items ≡ x ∷ rest → AreGenuine c rest
rest_genuine c items rest x h e = (and_both (is_genuine_item c x) (list_all (is_genuine_item c) rest) (ap (list_all (is_genuine_item c)) (sym e) ∙ h)).1
