use Rattle.std.proofs.Common.{◌≡◌, ap, ◌∙◌, subst, sym}
use Rattle.std.specs.Prelude.{None}
use Rattle.std.specs.Ordering.{nat_cmp}
use Rattle.std.specs.Cmp.Lexicographic.{slice_cmp}
use Rattle.std.specs.BTreeSet.{insert_key}
use Rattle.std.specs.Map.{keys_of}
use Rattle.yard_model.specs.Counts.{Counted, names, place_of, CountsTheSame}
use Rattle.yard_model.proofs.CountsLaws.{begun_stands, begun_same, keys_more, counted_by}
use Rattle.yard_model.proofs.counts.Counts.begin.Goals as goal

pub invariant_of-self-2 : goal.invariant_of-self-2
invariant_of-self-2 c =
    let absent : place_of (counted_by c.self.inside.places c.self.inside.rows.items) c.args.entity.now ≡ None = subst (λ (v : Counted). place_of v c.args.entity.now ≡ None) (sym c.self.view_is) c.requires in
    begun_stands c.self.inside.places c.insert.new.self c.self.inside.rows.items c.push.new.self.items c.args.entity.now c.len-place.result c.self.invariant absent (c.len-place.ensures ∙ c.self.inside.rows.ok.0) c.in_default.ensures.updates
    c.in_default.ensures.ordered c.in_ok-push.ensures.items

pub returns-clause-counts : goal.returns-clause-counts
returns-clause-counts c =
    let absent : place_of (counted_by c.self.inside.places c.self.inside.rows.items) c.args.entity.now ≡ None = subst (λ (v : Counted). place_of v c.args.entity.now ≡ None) (sym c.self.view_is) c.requires in
    subst (λ (v : Counted). CountsTheSame v (counted_by c.insert.new.self c.push.new.self.items)) c.self.view_is
    (begun_same c.self.inside.places c.insert.new.self c.self.inside.rows.items c.push.new.self.items c.args.entity.now c.len-place.result c.self.invariant absent (c.len-place.ensures ∙ c.self.inside.rows.ok.0) c.in_default.ensures.updates
    c.in_default.ensures.ordered c.in_ok-push.ensures.items)

pub returns-clause-names : goal.returns-clause-names
returns-clause-names c =
    ap keys_of c.in_default.ensures.entries ∙ (keys_more c.self.inside.places.entries c.args.entity.now c.len-place.result ∙ ap (λ (v : Counted). insert_key (slice_cmp nat_cmp) (names v) c.args.entity.now) c.self.view_is)

pub returns-clause-stands : goal.returns-clause-stands
returns-clause-stands c =
    let absent : place_of (counted_by c.self.inside.places c.self.inside.rows.items) c.args.entity.now ≡ None = subst (λ (v : Counted). place_of v c.args.entity.now ≡ None) (sym c.self.view_is) c.requires in
    begun_stands c.self.inside.places c.insert.new.self c.self.inside.rows.items c.push.new.self.items c.args.entity.now c.len-place.result c.self.invariant absent (c.len-place.ensures ∙ c.self.inside.rows.ok.0)
    c.in_default.ensures.updates c.in_default.ensures.ordered c.in_ok-push.ensures.items
