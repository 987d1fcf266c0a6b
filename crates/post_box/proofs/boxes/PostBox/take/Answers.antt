use Rattle.std.proofs.Common.{◌≡◌, ℕ, ◌<◌, ◌≤◌, ◌-◌, List, length, map, ap, sym, ◌∙◌, arith}
use Rattle.std.proofs.lemmas.List.{length-map}
use lib.ListN.{get_elem?}
use mathlib.Core.Option as maybe
use Rattle.atomic_table.specs.Seated.{TableId}
use Rattle.atomic_table.proofs.Lists.{at_index}
use Rattle.post_box.specs.Holding.{Boxes, Holder}
use Rattle.post_box.specs.Tables.{queue_table}
use Rattle.post_box.proofs.Places.{at_map}
use Rattle.post_box.proofs.Holders.{may_take, taken_stands, taken_told}
use Rattle.post_box.proofs.boxes.PostBox.take.Goals as goal

pub pop-requires-clause-queue : goal.pop-requires-clause-queue
pop-requires-clause-queue g c =
    let tables : map queue_table c.self.inside.boxes.items ≡ c.args.self.now.tables = ap (λ (b : Boxes). b.tables) c.self.view_is in
    let size : length (map queue_table c.self.inside.boxes.items) ≡ length c.self.inside.boxes.items = length-map c.self.inside.boxes.items queue_table in
    let counted : length (map queue_table c.self.inside.boxes.items) ≡ length c.args.pass.now.tables = ap (λ (l : List TableId). length l) (tables ∙ sym c.requires.belongs) in
    let own : c.args.at ≡ c.args.pass.now.node = c.requires.own in let within : c.args.pass.now.node ≤ length c.args.pass.now.tables = c.node-own.ensures.within in
    let value : c.get.result ≡ c.args.at = c.get.ensures.value in let range : 0 < c.args.at = c.get.ensures.range.0 in
    let low : c.get.result - 1 < length c.self.inside.boxes.items = omega arith in
    let node : c.get.result ≡ c.pass.inside.node = value ∙ own ∙ sym (ap (λ (h : Holder _). h.node) c.pass.view_is) in
    let same = ap (λ (h : Holder _). h.tables) c.pass.view_is ∙ c.requires.belongs ∙ sym tables in
    let home = ap (λ n. get_elem? (map queue_table c.self.inside.boxes.items) (n - 1)) (sym node) ∙ at_map queue_table c.self.inside.boxes.items (c.get.result - 1) c.index-queue.result.now (at_index _ _ _ low c.index-queue.ensures) in
    let may = may_take (map queue_table c.self.inside.boxes.items) _ _ _ (queue_table c.index-queue.result.now) c.pass.invariant same home in
    (may.0, may.1)

pub invariant_of-pass : goal.invariant_of-pass
invariant_of-pass g c = taken_stands _ _ _ _ c.pop.result c.pass.invariant c.pop.ensures.queue.0 c.pop.ensures.queue.2 c.pop.ensures.taken

pub returns-clause-kept : goal.returns-clause-kept
returns-clause-kept g c = (ap (λ (h : Holder _). h.tables) c.pass.view_is, ap (λ (h : Holder _). h.node) c.pass.view_is)

pub returns-clause-taken : goal.returns-clause-taken
returns-clause-taken g c = taken_told c.pass.inside.node c.pass.inside.senders.items c.pass.inside.taker c.pop.new.pass c.pop.result c.args.pass.now c.pass.invariant c.pass.view_is c.pop.ensures.taken
