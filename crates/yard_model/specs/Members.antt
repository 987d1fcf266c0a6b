-- Members: incarnations of different nodes, oldest first.
use Rattle.std.specs.Prelude.{◌≡◌, ℕ, zero, suc, Bool, not, ◌==◌, List, [], ◌∷◌, length, map, take, IsTrue}
use Rattle.std.specs.List.{list_any}
use Rattle.std.proofs.Common.{refl, ap, sym, ◌∙◌, arith}
use Rattle.std.proofs.lemmas.List.{length-map}
use Rattle.yard_model.specs.declared.incarnation.Incarnation.{Incarnation}
use Rattle.yard_model.specs.Padded.{IsPadded, padded, padded_length, padded_cells}
use Rattle.yard_model.specs.Follow.{each_follows}

abbrev pub no_member : Incarnation
no_member = record { node = 1; number = 0 }

-- an incarnation of this node is among them
abbrev pub has_node : ℕ → List Incarnation → Bool
has_node n xs = list_any (λ x. x.node == n) xs

-- a member's node is not that of one before it
abbrev pub is_other_node : List Incarnation → Incarnation → Bool
is_other_node before x = not (has_node x.node before)

-- they are of different nodes
abbrev pub are_of_different_nodes : List Incarnation → Bool
are_of_different_nodes xs = each_follows is_other_node [] xs

-- incarnations of these nodes with these numbers
abbrev pub paired : List ℕ → List ℕ → List Incarnation
paired [] numbers = []
paired (n ∷ nodes) [] = []
paired (n ∷ nodes) (k ∷ numbers) = record { node = n; number = k } ∷ paired nodes numbers

-- how members are kept: their nodes and their numbers, each in cells of which the first len count
pub record AreMembers (nodes numbers : List ℕ) (len : ℕ) : Type 0 where
  pub nodes_padded : IsPadded 16 1 nodes len
  pub numbers_padded : IsPadded 16 0 numbers len
  pub different : IsTrue (are_of_different_nodes (take len (paired nodes numbers)))

-- the cells are read off the list

nodes_of : (k : ℕ) (nodes numbers : List ℕ) → length nodes ≡ length numbers → map (λ (x : Incarnation). x.node) (take k (paired nodes numbers)) ≡ take k nodes
nodes_of zero ns ks e = refl
nodes_of (suc k) [] ks e = refl
nodes_of (suc k) (n ∷ ns) [] e = absurd (omega (arith, e))
nodes_of (suc k) (n ∷ ns) (m ∷ ks) e = ap (λ l. n ∷ l) (nodes_of k ns ks (omega (arith, e)))

numbers_of : (k : ℕ) (nodes numbers : List ℕ) → length nodes ≡ length numbers → map (λ (x : Incarnation). x.number) (take k (paired nodes numbers)) ≡ take k numbers
numbers_of zero ns ks e = refl
numbers_of (suc k) [] [] e = refl
numbers_of (suc k) [] (m ∷ ks) e = absurd (omega (arith, e))
numbers_of (suc k) (n ∷ ns) [] e = absurd (omega (arith, e))
numbers_of (suc k) (n ∷ ns) (m ∷ ks) e = ap (λ l. m ∷ l) (numbers_of k ns ks (omega (arith, e)))

pub same_size : {nodes numbers : List ℕ} {len : ℕ} → AreMembers nodes numbers len → length nodes ≡ length numbers
same_size h = h.nodes_padded.size ∙ sym h.numbers_padded.size

pub cells_of_nodes : {nodes numbers : List ℕ} {len : ℕ} → AreMembers nodes numbers len → padded 16 1 (map (λ (x : Incarnation). x.node) (take len (paired nodes numbers))) ≡ nodes
cells_of_nodes {nodes} {numbers} {len} h = ap (padded 16 1) (nodes_of len nodes numbers (same_size h)) ∙ padded_cells h.nodes_padded

pub cells_of_numbers : {nodes numbers : List ℕ} {len : ℕ} → AreMembers nodes numbers len → padded 16 0 (map (λ (x : Incarnation). x.number) (take len (paired nodes numbers))) ≡ numbers
cells_of_numbers {nodes} {numbers} {len} h = ap (padded 16 0) (numbers_of len nodes numbers (same_size h)) ∙ padded_cells h.numbers_padded

pub count_of : {nodes numbers : List ℕ} {len : ℕ} → AreMembers nodes numbers len → length (take len (paired nodes numbers)) ≡ len
count_of {nodes} {numbers} {len} h = sym (length-map (take len (paired nodes numbers)) (λ (x : Incarnation). x.node)) ∙ (ap length (nodes_of len nodes numbers (same_size h)) ∙ padded_length h.nodes_padded)
