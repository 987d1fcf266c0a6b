use Rattle.std.specs.List.{list_all}
use Rattle.std.proofs.Common.{true, arith, ◌≡◌, ◌≤◌, length, sym, ap, ◌∙◌, subst, List}
use Rattle.std.specs.Prelude.{Option, vec_capacity}
use Rattle.atomic_table.specs.Table.{opening}
use Rattle.yard_model.specs.Script.{Script}
use Rattle.shard_store.specs.declared.store.Store.{Store}
use Rattle.shard_store.specs.Stores.{AreHomes}
use Rattle.lease_table.specs.Tells.{opening_view}
use Rattle.lease_table.specs.Rule.{IsTable, head_at}
use Rattle.lease_table.specs.Leasing.{words_of, lists_in, is_short, Ready}
use Rattle.yard_model.specs.Script.{IsScript}
use Rattle.lease_table.specs.Fits.{slot_count}
use Rattle.lease_table.specs.declared.plays.About.{About}
use Rattle.lease_table.proofs.Dealt.{opens, wide_words}
use Rattle.lease_table.proofs.table.LeaseTable.make.Goals as goal

pub new-requires : goal.new-requires
new-requires c =
    let xs : List (Option Store) = c.into_parts-shards.result.places.items in
    subst (λ (y : Script). IsTable y (opening c.as_slice-2.result.now xs (opening_view y (lists_in c.of-2.result.value.items)))) (sym c.of.ensures)
    (subst (λ (l : List (Option Store)). IsTable c.args.charter.now (opening c.as_slice-2.result.now xs (opening_view c.args.charter.now (lists_in l)))) (ap (λ v. v.items) (sym c.of-2.ensures))
    (opens c.args.charter.now xs _ (subst (λ (y : Script). AreHomes y xs) (c.into_parts-shards.ensures.script ∙ c.requires.script) c.into_parts-shards.ensures.homes) (subst (λ (l : List (Option Store)). Ready c.args.charter.now l) (sym c.into_parts-shards.ensures.places) c.requires.ready)
    (subst (λ (l : List (Option Store)). list_all is_short l ≡ true) c.as_slice.ensures.value c.in_ok-words.ensures.short)
    (c.as_slice-2.ensures.value ∙ c.in_ok-words.ensures.words ∙ ap (λ (l : List (Option Store)). words_of (length l) l) c.as_slice.ensures.value)))

pub invariant_of-table : goal.invariant_of-table
invariant_of-table c =
    let c' : Script = c.of-3.result.value in
    let xs : List (Option Store) = c.into_parts-shards.result.places.items in
    let script : IsScript c' = subst IsScript (sym c.of-3.ensures) c.config.ensures.script in
    let here : c.into_parts-shards.result.script.value ≡ c' = c.into_parts-shards.ensures.script ∙ c.requires.script ∙ sym c.of-3.ensures in
    let all : length xs ≡ slot_count c' = (subst (λ (y : Script). AreHomes y xs) here c.into_parts-shards.ensures.homes).all in
    let room : c.len-slots.result ≤ vec_capacity c.in_ok-spare.spare = c.in_ok-spare.ensures.capacity in
    let count : c.len-slots.result ≡ slot_count c' = c.len-slots.ensures ∙ sym c.as_slice.ensures.len ∙ ap length c.as_slice.ensures.value ∙ all in
    let words : c.as_slice-2.result.now ≡ words_of (length xs) xs = c.as_slice-2.ensures.value ∙ c.in_ok-words.ensures.words ∙ ap (λ (l : List (Option Store)). words_of (length l) l) c.as_slice.ensures.value in
    let wide : c.in-Ok.table.shared.table_id.words ≡ head_at (slot_count c') (slot_count c') = c.in-Ok.ensures.ok.0 ∙ ap length words ∙ wide_words c' xs all in record {
      script = script;
      sized = (
        wide,
        c.in-Ok.ensures.ok.1 ∙ all,
        ap (λ (a : About). a.charter.value) c.in-Ok.ensures.ok.5 ∙ c.of.ensures ∙ sym c.of-3.ensures,
        c.in_ok-spare.ensures.len,
        omega (arith, room, count),
        omega arith,
        count,
        c.into_parts-shards.ensures.shards ∙ ap (λ (y : Script). y.config.shards) here,
      );
    }
