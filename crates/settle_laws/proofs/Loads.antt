-- How many packets wait, at most.
use Rattle.std.proofs.Common.{◌≡◌, ◌≤◌, ℕ, suc, ◌+◌, List, [], ◌∷◌, length, sym, subst, ◌∙◌, arith}
use Rattle.std.specs.Prelude.{fold}
use Rattle.std.proofs.lemmas.List.Sums.{sum_by-cons}
use Rattle.yard_model.specs.declared.out.Item.{Item}
use Rattle.yard_model.specs.declared.out.Item.TheVariants as item
use Rattle.yard_model.specs.declared.packet.Body.{Body}
use Rattle.yard_model.specs.declared.packet.Body.TheVariants as body
use Rattle.yard_model.specs.declared.packet.Packet.{Packet}
use Rattle.yard_model.specs.World.{count_posts}
use Rattle.settle_laws.specs.Alone.{Base, Alone, weight, total, load, lefts, cells_load, kept_load, wire_load}
use Rattle.settle_laws.specs.Inputs.{posts_in}

pub count_is : (is : List Item) (k : ℕ) → fold count_posts k is ≡ k + length (posts_in is)
count_is [] k = none k
  where
    none : (k : ℕ) → k ≡ k + 0
    none k = omega arith
count_is (item.Fact f ∷ is) k = count_is is k
count_is (item.Post p ∷ is) k = count_is is (k + 1) ∙ more k (length (posts_in is))
  where
    more : (k n : ℕ) → k + 1 + n ≡ k + suc n
    more k n = omega arith

pub weight_least : (x : Body) → 1 ≤ weight x
weight_least (body.GetShardHome s) = omega arith
weight_least (body.HostShard s stamp) = omega arith
weight_least x = omega arith

pub wire_least : (w : List Packet) → length w ≤ wire_load w
wire_least [] = omega arith
wire_least (p ∷ w) = subst (λ n. suc (length w) ≤ n) (sym (sum_by-cons (λ (p : Packet). weight p.body) p w)) (sums (length w) (weight p.body) (wire_load w) (weight_least p.body) (wire_least w))
  where
    sums : (n a b : ℕ) → 1 ≤ a → n ≤ b → suc n ≤ a + b
    sums n a b h k = omega (arith, h, k)

pub load_least : (b : Base) (z : Alone) → length z.wire ≤ load b z
load_least b z = sums (lefts b z.producers) (cells_load z.cells) (kept_load z.kept) (wire_load z.wire) (length z.wire) (wire_least z.wire)
  where
    sums : (l v k w n : ℕ) → n ≤ w → n ≤ total l v k w
    sums l v k w n h = omega (arith, h)
