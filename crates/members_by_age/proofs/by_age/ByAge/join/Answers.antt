use Rattle.std.proofs.Common.{◌≡◌, ◌+◌, ◌++◌, ◌∷◌, [], suc, length, ap, ◌∙◌, arith}
use Rattle.std.proofs.lemmas.Option.{slice_get_within}
use Rattle.indexmap.specs.IndexMap.{set_value_at}
use Rattle.indexmap.proofs.CallerLemmas.{keys-with_value_at, index_map_len-with_value_at}
use Rattle.yard_model.specs.Members.{has_node}
use Rattle.members_by_age.specs.Aged.{members_of}
use Rattle.members_by_age.proofs.AgedLaws.{place_behind, counted, joined, other_order, same_keys}
use Rattle.members_by_age.proofs.by_age.ByAge.join.Goals as goal

pub move_index-requires-clause-to_in_bounds : goal.move_index-requires-clause-to_in_bounds
move_index-requires-clause-to_in_bounds c =
    let p = c.place_of-from.ensures.place in
    let within = slice_get_within c.self.inside.numbers.entries c.place_of-from.result _ p.1 in
    let after = place_behind c.self.inside.numbers.entries c.place_of-from.result c.self.inside.count c.args.who.now.node p.0 p.1 (ap (has_node c.args.who.now.node) c.self.view_is ∙ c.requires.other) in
    omega (arith, within, after)

pub index_mut-requires : goal.index_mut-requires
index_mut-requires c =
    let p = c.place_of-from.ensures.place in
    let within = slice_get_within c.self.inside.numbers.entries c.place_of-from.result _ p.1 in
    let after = place_behind c.self.inside.numbers.entries c.place_of-from.result c.self.inside.count c.args.who.now.node p.0 p.1 (ap (has_node c.args.who.now.node) c.self.view_is ∙ c.requires.other) in
    let len = c.move_index.ensures.reordered.1 in
    omega (arith, within, after, len)

pub invariant_of-self : goal.invariant_of-self
invariant_of-self c =
    let p = c.place_of-from.ensures.place in
    let old = c.self.inside.numbers in
    let mid = c.move_index.new.self in
    let count = c.self.inside.count in
    let within = slice_get_within old.entries c.place_of-from.result _ p.1 in
    let after = place_behind old.entries c.place_of-from.result count c.args.who.now.node p.0 p.1 (ap (has_node c.args.who.now.node) c.self.view_is ∙ c.requires.other) in
    let len = c.move_index.ensures.reordered.1 in
    let long = index_map_len-with_value_at mid count c.args.who.now.number in
    let room = c.requires.room in
    let same = ap (λ l. length l) c.self.view_is in
    let size = counted old.entries count c.self.invariant.within in
    record {
      nodes = same_keys 16 mid.entries _ (keys-with_value_at mid count c.args.who.now.number) (other_order 16 old.entries mid.entries c.move_index.ensures.reordered.2 c.self.invariant.nodes);
      within = omega (arith, within, after, len, long);
      few = omega (arith, size, same, room);
    }

pub returns : goal.returns
returns c =
    let p = c.place_of-from.ensures.place in
    let old = c.self.inside.numbers in
    let count = c.self.inside.count in
    let after = place_behind old.entries c.place_of-from.result count c.args.who.now.node p.0 p.1 (ap (has_node c.args.who.now.node) c.self.view_is ∙ c.requires.other) in
    let next : count + 1 ≡ suc count = omega arith in
    ap (λ k. members_of (set_value_at c.move_index.new.self.entries count c.args.who.now.number) k) next
    ∙ (joined old.entries c.move_index.new.self.entries c.place_of-from.result count c.args.who.now.node p.0 c.args.who.now.number p.1 after c.move_index.ensures.entries
    ∙ ap (λ l. l ++ c.args.who.now ∷ []) c.self.view_is)
