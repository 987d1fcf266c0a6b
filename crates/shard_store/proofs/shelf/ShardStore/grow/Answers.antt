use Rattle.std.proofs.Common.{◌≡◌, List, ℕ, sym, ap, subst, ◌∙◌}
use Rattle.yard_model.specs.Grown.{GoesOn}
use Rattle.yard_model.specs.Script.{Script, with_shards}
use Rattle.shard_store.specs.Grown.{Kinds, AreGrown}
use Rattle.shard_store.specs.Shelf.{Shelf}
use Rattle.shard_store.proofs.GrowLaws.{names_go_on, shelf_grown}
use Rattle.shard_store.proofs.ReshapeLaws.{all_brought}
use Rattle.shard_store.proofs.shelf.ShardStore.grow.Goals as goal

pub grown-requires-clause-among : goal.grown-requires-clause-among
grown-requires-clause-among c =
    names_go_on c.self.inside.script.value c.args.charter.now c.self.inside.shard c.as_slice.result.now c.as_slice-2.result.now (subst (λ (v : Shelf). GoesOn v.script c.args.charter.now) (sym c.self.view_is) c.requires.goes_on)
    (c.as_slice.ensures ∙ c.self.invariant.names_are) (c.as_slice-2.ensures ∙ c.in_ok-names.ensures.names)

pub grown-requires-clause-names : goal.grown-requires-clause-names
grown-requires-clause-names c =
    all_brought c.args.table.now c.args.charter.now c.args.charter.now.config.shards c.self.inside.shard c.as_slice-2.result.now (sym (ap (with_shards c.args.charter.now.config.shards) c.requires.table)) (c.as_slice-2.ensures ∙ c.in_ok-names.ensures.names)

pub begun-requires : goal.begun-requires
begun-requires c =
    let s : Shelf = record { script = c.self.inside.script.value; shard = c.self.inside.shard; entries = c.self.inside.list.entries; spare = c.self.inside.list.spare } in
    let old : Kinds = record { journals = c.self.inside.journals.items; snapshots = c.self.inside.snapshots.items; marks = c.self.inside.remembered } in
    let new : Kinds = record { journals = c.in_ok-held.held.journals.items; snapshots = c.in_ok-held.held.snapshots.items; marks = c.in_ok-held.held.remembered } in
    shelf_grown s c.args.charter.now old new c.self.invariant (subst (λ (v : Shelf). GoesOn v.script c.args.charter.now) (sym c.self.view_is) c.requires.goes_on)
    c.in_ok-names.ensures.names c.in_ok-names.ensures.few c.in_ok-names.ensures.sorted
    (subst (λ (d : Script). AreGrown d c.self.inside.names c.in_ok-names.names old new) c.requires.table
    (subst (λ (l : List (List ℕ)). AreGrown c.args.table.now l c.in_ok-names.names old new) c.as_slice.ensures
    (subst (λ (l : List (List ℕ)). AreGrown c.args.table.now c.as_slice.result.now l old new) c.as_slice-2.ensures c.in_ok-held.ensures)))
