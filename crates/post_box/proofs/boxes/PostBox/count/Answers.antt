use Rattle.std.proofs.Common.{◌≡◌, ℕ, ◌<◌, ◌≤◌, ◌-◌, List, length, map, ap, sym, ◌∙◌, subst, arith}
use Rattle.std.proofs.lemmas.List.{length-map}
use lib.ListN.{get_elem?}
use Rattle.atomic_table.specs.Seated.{TableId}
use Rattle.atomic_table.proofs.Lists.{at_index}
use Rattle.post_box.specs.Holding.{Boxes, Holder}
use Rattle.post_box.specs.Tables.{queue_table, queue_room}
use Rattle.post_box.proofs.Places.{at_map, replicate_at}
use Rattle.post_box.proofs.Holders.{may_post, counted_stands, counted_told}
use Rattle.post_box.proofs.boxes.PostBox.count.Goals as goal

pub count_at-requires-clause-queue : goal.count_at-requires-clause-queue
count_at-requires-clause-queue g c =
    let tables : map queue_table c.self.inside.boxes.items ≡ c.args.self.now.tables = ap (λ (b : Boxes). b.tables) c.self.view_is in
    let size : length (map queue_table c.self.inside.boxes.items) ≡ length c.self.inside.boxes.items = length-map c.self.inside.boxes.items queue_table in
    let counted : length (map queue_table c.self.inside.boxes.items) ≡ length c.args.self.now.tables = ap (λ (l : List TableId). length l) tables in
    let to : c.args.to ≤ length c.args.self.now.tables = c.requires.to in let value : c.get.result ≡ c.args.to = c.get.ensures.value in let range : 0 < c.args.to = c.get.ensures.range.0 in
    let low : c.get.result - 1 < length c.self.inside.boxes.items = omega arith in
    let same = ap (λ (h : Holder _). h.tables) c.pass.view_is ∙ c.requires.belongs ∙ sym tables in
    may_post (map queue_table c.self.inside.boxes.items) _ _ _ _ (queue_table c.index-queue.result.now) c.pass.invariant same (at_map queue_table c.self.inside.boxes.items (c.get.result - 1) c.index-queue.result.now (at_index _ _ _ low c.index-queue.ensures))

pub invariant_of-pass : goal.invariant_of-pass
invariant_of-pass g c = counted_stands _ _ _ _ _ _ c.pass.invariant c.count_at.ensures.counted

pub returns-clause-pass : goal.returns-clause-pass
returns-clause-pass g c = (counted_told _ _ c.args.to _ _ _ _ c.args.pass.now c.pass.invariant c.pass.view_is (ap (λ n. n - 1) c.get.ensures.value) c.count_at.ensures.counted).0

pub returns-clause-few : goal.returns-clause-few
returns-clause-few g c =
    let tables : map queue_table c.self.inside.boxes.items ≡ c.args.self.now.tables = ap (λ (b : Boxes). b.tables) c.self.view_is in
    let size : length (map queue_table c.self.inside.boxes.items) ≡ length c.self.inside.boxes.items = length-map c.self.inside.boxes.items queue_table in
    let counted : length (map queue_table c.self.inside.boxes.items) ≡ length c.args.self.now.tables = ap (λ (l : List TableId). length l) tables in
    let to : c.args.to ≤ length c.args.self.now.tables = c.requires.to in let value : c.get.result ≡ c.args.to = c.get.ensures.value in let range : 0 < c.args.to = c.get.ensures.range.0 in
    let low : c.get.result - 1 < length c.self.inside.boxes.items = omega arith in
    let here = at_map queue_room c.self.inside.boxes.items (c.get.result - 1) c.index-queue.result.now (at_index _ _ _ low c.index-queue.ensures) in
    let room : queue_room c.index-queue.result.now ≡ c.args.self.now.capacity = sym (replicate_at (length c.self.inside.boxes.items) (c.get.result - 1) c.self.inside.capacity _ (ap (λ (l : List ℕ). get_elem? l (c.get.result - 1)) (sym c.self.invariant) ∙ here)) ∙ ap (λ (b : Boxes). b.capacity) c.self.view_is in
    subst (λ n. c.count_at.result ≤ n) room c.count_at.ensures.few

pub returns-clause-counted : goal.returns-clause-counted
returns-clause-counted g c = (counted_told _ _ c.args.to _ _ _ _ c.args.pass.now c.pass.invariant c.pass.view_is (ap (λ n. n - 1) c.get.ensures.value) c.count_at.ensures.counted).1
