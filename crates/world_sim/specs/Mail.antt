-- Mail: the packets of a world, and what a turn made and isn't told yet.
use Rattle.std.specs.Prelude.{◌≡◌, ℕ, ◌+◌, ◌≤◌, ◌<◌, Bool, true, false, nat_lt, max, slice_index_or, List, [], ◌∷◌, ◌++◌, length, fold, if◌then◌else◌}
use Rattle.yard_model.specs.declared.fact.Fact.{Fact}
use Rattle.yard_model.specs.declared.fact.Fact.TheVariants as fact
use Rattle.yard_model.specs.declared.out.Item.{Item}
use Rattle.yard_model.specs.declared.out.Item.TheVariants as item
use Rattle.yard_model.specs.declared.packet.Packet.{Packet}
use Rattle.yard_model.specs.Words.{numbers}
use Rattle.yard_model.specs.World.{numbered, count_posts}
use Rattle.wire_packet.specs.Wire.{Posted, IsWire}

pub record Mails : Type 0 where
  pub packets : List Packet  -- what was posted, from number 1
  pub fresh : List ℕ  -- the numbers that were never delivered, rising
  pub items : List Item  -- what isn't told yet, oldest first
  pub spare : ℕ  -- so many items more take no memory
  pub full : Bool  -- the limit was passed

-- the numbers of those that aren't marked, where the first of them has number n
abbrev pub fresh_from : ℕ → List Bool → List ℕ
fresh_from n [] = []
fresh_from n (true ∷ marks) = fresh_from (n + 1) marks
fresh_from n (false ∷ marks) = n ∷ fresh_from (n + 1) marks

-- the numbers, from 1, of those that aren't marked
abbrev pub fresh_of : List Bool → List ℕ
fresh_of marks = fresh_from 1 marks

-- each number above this one, up to that one, is marked
abbrev pub AreMarked : List Bool → ℕ → ℕ → Type 0
AreMarked marks base reached = (i : ℕ) → base ≤ i → i < reached → slice_index_or marks i false ≡ true

-- where a search for a number above `from` may begin
abbrev pub run_end : ℕ → ℕ → ℕ → ℕ
run_end base reached from = if nat_lt from base then from else max from reached

-- the packets of a wire, as a mail with nothing to tell
abbrev pub posts_in : Posted → Mails
posts_in w = record { packets = w.packets; fresh = fresh_of w.marked; items = []; spare = 0; full = false }

abbrev pub nothing_posted : Mails
nothing_posted = record { packets = []; fresh = []; items = []; spare = 0; full = false }

-- how the packets are kept: beside the wire, how many were posted, and a run of numbers that were all delivered
pub record IsMail (wire : Posted) (count base reached : ℕ) : Type 0 where
  pub wire_is : IsWire wire
  pub count_is : count ≡ length wire.packets
  pub within : reached ≤ count
  pub marked_are : AreMarked wire.marked base reached

-- this list of numbers begins with k
pub record Heads (k : ℕ) (ks : List ℕ) : Type 0 where
  pub rest : List ℕ
  pub is : ks ≡ k ∷ rest

-- a post of the items was past the limit, where k were posted before
abbrev pub is_past : ℕ → ℕ → List Item → Bool
is_past limit k is = nat_lt limit (fold count_posts k is)

-- the facts of items where k were posted before: World's input_facts
abbrev pub facts_of : ℕ → ℕ → List Item → List Fact
facts_of limit k is = numbered limit k is ++ (if is_past limit k is then fact.WireFull ∷ [] else [])

-- the packets of items that are posted where k were posted before
abbrev pub posts_of : ℕ → ℕ → List Item → List Packet
posts_of limit k [] = []
posts_of limit k (item.Fact f ∷ is) = posts_of limit k is
posts_of limit k (item.Post p ∷ is) = (if nat_lt k limit then p ∷ [] else []) ++ posts_of limit (k + 1) is

-- these packets more, none of them delivered
abbrev pub with_posts : Mails → List Packet → Mails
with_posts m ps = record m { packets = m.packets ++ ps; fresh = m.fresh ++ numbers (length m.packets + 1) (length ps) }

-- one list of facts goes on as `new`, by a beginning of `whole`
pub record ToldSome (old new whole : List Fact) : Type 0 where
  pub said : List Fact
  pub left : List Fact
  pub new_is : new ≡ old ++ said
  pub whole_is : whole ≡ said ++ left
