use Rattle.std.proofs.Common.{◌≡◌, ◌<◌, ◌+◌, ◌-◌, ◌++◌, ap, sym, ◌∙◌, subst, arith, length, List, ℕ, [], OnOk, nat_cmp}
use Rattle.std.specs.Prelude.{map, slice_index_or}
use Rattle.std.specs.List.Sorted.{IsStrictlySortedBy}
use Rattle.std.specs.Cmp.Lexicographic.{slice_cmp}
use Rattle.std.proofs.lemmas.List.{get_or-map}
use Rattle.yard_model.specs.declared.charter.Config.{Config}
use Rattle.yard_model.specs.Script.{setting}
use Rattle.yard_model.specs.SlotLists.{queue_list}
use Rattle.yard_model.specs.Text.{Bytes}
use Rattle.trace_text.specs.Foldable.{is_foldable_shard}
use Rattle.trace_text.specs.Parts.{queue_part, report_part, report_parts}
use Rattle.trace_text.specs.Rows.{queue_rows, tally_text}
use Rattle.trace_text.proofs.RowLaws.{all_below}
use Rattle.trace_text.proofs.PartLaws.{parts_count, part_of_shard, part_of_queue, part_behind}
use Rattle.trace_text.proofs.sheet.Sheet.push_report_part.Goals as goal

pub push_shard-requires-clause-sorted : goal.push_shard-requires-clause-sorted
push_shard-requires-clause-sorted g c =
    let shards : c.config.result.now.shards ≡ c.args.charter.now.config.shards = ap (λ (k : Config). k.shards) c.config.ensures.value in
    let some : 0 < c.args.k = omega arith in
    let k : c.args.k - 1 < c.args.charter.now.config.shards = omega arith in
    let h : c.args.k - 1 < length c.args.names.now.by_shard.items = omega (arith, c.requires.names.length) in
    let it : slice_index_or (map (λ v. v.items) c.args.names.now.by_shard.items) (c.args.k - 1) [] ≡ c.as_slice-own.result.now =
    get_or-map (λ v. v.items) c.args.names.now.by_shard.items (c.args.k - 1) c.index.result.now [] h ∙ (ap (λ v. v.items) (sym c.index.ensures) ∙ sym c.as_slice-own.ensures.value) in
    subst (λ (l : List (List ℕ)). IsStrictlySortedBy (slice_cmp nat_cmp) l) it (c.requires.names.sorted (c.args.k - 1) k)

pub push_shard-requires-clause-foldable : goal.push_shard-requires-clause-foldable
push_shard-requires-clause-foldable g c =
    let shards : c.config.result.now.shards ≡ c.args.charter.now.config.shards = ap (λ (k : Config). k.shards) c.config.ensures.value in
    let some : 0 < c.args.k = omega arith in
    all_below (is_foldable_shard (setting c.args.charter.now) (g.T.Lists.lists c.args.stores.now)) c.args.charter.now.config.shards (c.args.k - 1) c.requires.foldable (omega arith)

pub returns-then-k-shards : goal.returns-then-k-shards
returns-then-k-shards g c =
    let shards : c.config.result.now.shards ≡ c.args.charter.now.config.shards = ap (λ (k : Config). k.shards) c.config.ensures.value in
    let some : 0 < c.args.k = omega arith in
    subst (λ (b : Bytes). OnOk c.push_shard.result (c.push_shard.new.out ≡ c.args.self.now ++ b))
    (sym (part_of_shard (setting c.args.charter.now) (g.T.Lists.lists c.args.stores.now) c.args.k (c.args.k - 1) (omega arith) (omega arith))) c.push_shard.ensures

pub returns-then-k-shards-2 : goal.returns-then-k-shards-2
returns-then-k-shards-2 g c =
    let shards : c.config.result.now.shards ≡ c.args.charter.now.config.shards = ap (λ (k : Config). k.shards) c.config.ensures.value in
    let producers : c.config-2.result.now.producers ≡ c.args.charter.now.config.producers = ap (λ (k : Config). k.producers) c.config-2.ensures.value in
    let part : report_part (setting c.args.charter.now) (g.T.Lists.lists c.args.stores.now) c.args.k ≡ queue_part (setting c.args.charter.now) (g.T.Lists.lists c.args.stores.now) (c.args.k - c.config.result.now.shards) =
    part_of_queue (setting c.args.charter.now) (g.T.Lists.lists c.args.stores.now) c.args.k (c.args.k - c.config.result.now.shards) (omega arith) (omega arith) (omega arith) in
    subst (λ (b : Bytes). OnOk c.push_queue.result (c.push_queue.new.out ≡ c.args.self.now ++ b))
    (ap (λ (n : List (List ℕ)). queue_rows tally_text (c.args.k - c.config.result.now.shards) (queue_list (g.T.Lists.lists c.args.stores.now) (c.args.k - c.config.result.now.shards)) n) c.requires.names.all ∙ sym part)
    c.push_queue.ensures

pub returns : goal.returns
returns g c =
    let shards : c.config.result.now.shards ≡ c.args.charter.now.config.shards = ap (λ (k : Config). k.shards) c.config.ensures.value in
    let producers : c.config-2.result.now.producers ≡ c.args.charter.now.config.producers = ap (λ (k : Config). k.producers) c.config-2.ensures.value in
    let count : length (report_parts (setting c.args.charter.now) (g.T.Lists.lists c.args.stores.now)) ≡ c.args.charter.now.config.shards + c.args.charter.now.config.producers + 2 = parts_count (setting c.args.charter.now) (g.T.Lists.lists c.args.stores.now) in
    subst (λ (b : Bytes). OnOk c.push_word-2.result (c.push_word-2.new.self ≡ c.args.self.now ++ b))
    (sym (part_behind (setting c.args.charter.now) (g.T.Lists.lists c.args.stores.now) c.args.k (omega arith))) c.push_word-2.ensures
