use Rattle.std.proofs.Common.{◌≡◌, ◌∷◌, ◌++◌, ◌+◌, ◌==◌, [], List, ℕ, arith, cond, drop, filter, length, slice_index_or, sym, ap, subst, ◌∙◌}
use Rattle.std.proofs.lemmas.List.{append-nil, get_or_default, length-map}
use Rattle.yard_model.specs.Shard.{shard}
use Rattle.shard_store.proofs.NamesLaws.{picked_next}
use Rattle.shard_store.proofs.names.picked.Goals.{then-eq+in_ok-push, else-eq}
use Rattle.shard_store.proofs.names.picked.Goals as goal

next : (c : goal.Joined-eq) (new : List (List ℕ)) → new ≡ c.loop-at.picked.items ++ cond c.eq.result (slice_index_or c.args.names.now c.loop-at.at [] ∷ []) []
    → new ++ filter (λ e. shard c.args.count e == c.args.s) (drop (c.loop-at.at + 1) c.args.names.now) ≡ filter (λ e. shard c.args.count e == c.args.s) c.args.names.now
next c new is = picked_next c.args.count c.args.s c.loop-at.at c.index-shards-at.result c.args.names.now c.loop-at.picked.items new c.eq.result c.loop-at-test.true (subst (λ l. c.index-shards-at.result ≡ slice_index_or l c.loop-at.at c.index-shards-at.result) c.requires c.index-shards-at.is) c.eq.ensures is c.loop-at.invariant

pub loop-at-preserved : goal.loop-at-preserved
loop-at-preserved c = elim c.if-eq.branch [
  | then-eq+in_ok-push w ↦ next c c.if-eq.picked.items (
      ap (λ v. v.items) w.picked-is
      ∙ (w.in_ok-push.ensures.items
      ∙ (ap (λ e. c.loop-at.picked.items ++ e ∷ []) (w.index-names-at.is ∙ sym (get_or_default c.args.names.now c.loop-at.at [] w.index-names-at.result c.loop-at-test.true))
      ∙ ap (λ b. c.loop-at.picked.items ++ cond b (slice_index_or c.args.names.now c.loop-at.at [] ∷ []) []) (sym w.if-eq.true))))
  | else-eq w ↦ next c c.if-eq.picked.items (
      ap (λ v. v.items) w.picked-is
      ∙ (sym (append-nil c.loop-at.picked.items)
      ∙ ap (λ b. c.loop-at.picked.items ++ cond b (slice_index_or c.args.names.now c.loop-at.at [] ∷ []) []) (sym w.if-eq.false)))
]

pub bounds-shards-at : goal.bounds-shards-at
bounds-shards-at c = omega (arith, ap length c.requires, length-map c.args.names.now (shard c.args.count))
