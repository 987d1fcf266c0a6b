use Rattle.std.proofs.Common.{◌≡◌, ℕ, ◌<◌, ◌≤◌, ◌-◌, List, length, map, ap, sym, ◌∙◌, arith}
use Rattle.std.proofs.lemmas.List.{length-map}
use lib.ListN.{get_elem?}
use mathlib.Core.Option as maybe
use Rattle.atomic_table.specs.Seated.{TableId}
use Rattle.atomic_table.proofs.Lists.{at_index}
use Rattle.post_box.specs.Holding.{Boxes, Holder, QueueState, table_of}
use Rattle.post_box.specs.Rule.{parcels_of}
use Rattle.post_box.specs.Tables.{queue_table}
use Rattle.post_box.proofs.Places.{at_map}
use Rattle.post_box.proofs.Holders.{may_take, may_post, sends, ordered}
use Rattle.post_box.proofs.boxes.PostBox.in_order.Goals as goal

pub compare-requires-clause-queue : goal.compare-requires-clause-queue
compare-requires-clause-queue g c =
    let tables : map queue_table c.self.inside.boxes.items ≡ c.args.self.now.tables = ap (λ (b : Boxes). b.tables) c.self.view_is in
    let mine = ap (λ (h : Holder _). h.tables) c.pass.view_is ∙ c.requires.belongs.0 ∙ sym tables in
    let theirs = ap (λ (h : Holder _). h.tables) c.other.view_is ∙ c.requires.belongs.1 ∙ sym tables in
    let size : length (map queue_table c.self.inside.boxes.items) ≡ length c.self.inside.boxes.items = length-map c.self.inside.boxes.items queue_table in
    let wide : length (map table_of c.pass.inside.senders.items) ≡ length (map queue_table c.self.inside.boxes.items) = ap (λ (l : List TableId). length l) mine in
    let all : length (map table_of c.pass.inside.senders.items) ≡ length c.pass.inside.senders.items = length-map c.pass.inside.senders.items table_of in
    let wide' : length (map table_of c.other.inside.senders.items) ≡ length (map queue_table c.self.inside.boxes.items) = ap (λ (l : List TableId). length l) theirs in
    let all' : length (map table_of c.other.inside.senders.items) ≡ length c.other.inside.senders.items = length-map c.other.inside.senders.items table_of in
    let some : 0 < c.pass.inside.node = c.pass.invariant.some in let within : c.pass.inside.node ≤ length c.pass.inside.senders.items = c.pass.invariant.within in
    let node : c.get.result ≡ c.pass.inside.node = c.get.ensures.value in
    let low : c.get.result - 1 < length c.self.inside.boxes.items = omega arith in
    let low' : c.get.result - 1 < length c.other.inside.senders.items = omega arith in
    let here = at_map queue_table c.self.inside.boxes.items (c.get.result - 1) c.index.result.now (at_index _ _ _ low c.index.ensures) in
    let home = ap (λ n. get_elem? (map queue_table c.self.inside.boxes.items) (n - 1)) (sym node) ∙ here in
    let take = may_take (map queue_table c.self.inside.boxes.items) _ _ _ (queue_table c.index.result.now) c.pass.invariant mine home in
    let post = may_post (map queue_table c.self.inside.boxes.items) _ (c.get.result - 1) _ _ (queue_table c.index.result.now) c.other.invariant theirs here c.swap_remove-sender.result (at_index _ _ _ low' c.swap_remove-sender.ensures.value) in
    ((take.0, take.1), (post.0, ap (λ (q : QueueState _). q.1) post.1))

pub compare-requires-clause-posts : goal.compare-requires-clause-posts
compare-requires-clause-posts g c =
    let tables : map queue_table c.self.inside.boxes.items ≡ c.args.self.now.tables = ap (λ (b : Boxes). b.tables) c.self.view_is in
    let mine = ap (λ (h : Holder _). h.tables) c.pass.view_is ∙ c.requires.belongs.0 ∙ sym tables in
    let theirs = ap (λ (h : Holder _). h.tables) c.other.view_is ∙ c.requires.belongs.1 ∙ sym tables in
    let size : length (map queue_table c.self.inside.boxes.items) ≡ length c.self.inside.boxes.items = length-map c.self.inside.boxes.items queue_table in
    let wide : length (map table_of c.pass.inside.senders.items) ≡ length (map queue_table c.self.inside.boxes.items) = ap (λ (l : List TableId). length l) mine in
    let all : length (map table_of c.pass.inside.senders.items) ≡ length c.pass.inside.senders.items = length-map c.pass.inside.senders.items table_of in
    let wide' : length (map table_of c.other.inside.senders.items) ≡ length (map queue_table c.self.inside.boxes.items) = ap (λ (l : List TableId). length l) theirs in
    let all' : length (map table_of c.other.inside.senders.items) ≡ length c.other.inside.senders.items = length-map c.other.inside.senders.items table_of in
    let some : 0 < c.pass.inside.node = c.pass.invariant.some in let within : c.pass.inside.node ≤ length c.pass.inside.senders.items = c.pass.invariant.within in
    let node : c.get.result ≡ c.pass.inside.node = c.get.ensures.value in
    let low : c.get.result - 1 < length c.self.inside.boxes.items = omega arith in
    let low' : c.get.result - 1 < length c.other.inside.senders.items = omega arith in
    let here = at_map queue_table c.self.inside.boxes.items (c.get.result - 1) c.index.result.now (at_index _ _ _ low c.index.ensures) in
    let post = may_post (map queue_table c.self.inside.boxes.items) _ (c.get.result - 1) _ _ (queue_table c.index.result.now) c.other.invariant theirs here c.swap_remove-sender.result (at_index _ _ _ low' c.swap_remove-sender.ensures.value) in
    sends c.other.inside.node c.swap_remove-sender.result post.1

pub returns : goal.returns
returns g c =
    let tables : map queue_table c.self.inside.boxes.items ≡ c.args.self.now.tables = ap (λ (b : Boxes). b.tables) c.self.view_is in
    let mine = ap (λ (h : Holder _). h.tables) c.pass.view_is ∙ c.requires.belongs.0 ∙ sym tables in
    let theirs = ap (λ (h : Holder _). h.tables) c.other.view_is ∙ c.requires.belongs.1 ∙ sym tables in
    let size : length (map queue_table c.self.inside.boxes.items) ≡ length c.self.inside.boxes.items = length-map c.self.inside.boxes.items queue_table in
    let wide : length (map table_of c.pass.inside.senders.items) ≡ length (map queue_table c.self.inside.boxes.items) = ap (λ (l : List TableId). length l) mine in
    let all : length (map table_of c.pass.inside.senders.items) ≡ length c.pass.inside.senders.items = length-map c.pass.inside.senders.items table_of in
    let wide' : length (map table_of c.other.inside.senders.items) ≡ length (map queue_table c.self.inside.boxes.items) = ap (λ (l : List TableId). length l) theirs in
    let all' : length (map table_of c.other.inside.senders.items) ≡ length c.other.inside.senders.items = length-map c.other.inside.senders.items table_of in
    let some : 0 < c.pass.inside.node = c.pass.invariant.some in let within : c.pass.inside.node ≤ length c.pass.inside.senders.items = c.pass.invariant.within in
    let node : c.get.result ≡ c.pass.inside.node = c.get.ensures.value in
    let low : c.get.result - 1 < length c.self.inside.boxes.items = omega arith in
    let low' : c.get.result - 1 < length c.other.inside.senders.items = omega arith in
    let here = at_map queue_table c.self.inside.boxes.items (c.get.result - 1) c.index.result.now (at_index _ _ _ low c.index.ensures) in
    let post = may_post (map queue_table c.self.inside.boxes.items) _ (c.get.result - 1) _ _ (queue_table c.index.result.now) c.other.invariant theirs here c.swap_remove-sender.result (at_index _ _ _ low' c.swap_remove-sender.ensures.value) in
    let there = ap (λ n. get_elem? c.other.inside.senders.items (n - 1)) (sym node) ∙ at_index _ _ _ low' c.swap_remove-sender.ensures.value in
    let told = c.compare.ensures.order in
    record { order = (_, ordered c.pass.inside.node c.other.inside.node c.pass.inside.senders.items c.other.inside.senders.items c.pass.inside.taker c.other.inside.taker c.swap_remove-sender.result told.0 c.args.pass c.args.other c.pass.view_is c.other.view_is there post.1 told.1) }
