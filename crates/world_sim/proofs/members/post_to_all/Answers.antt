use Rattle.std.proofs.Common.{◌≡◌, ◌+◌, ◌<◌, ◌++◌, [], ◌∷◌, length, map, take, ap, sym, ◌∙◌, arith, append_assoc}
use Rattle.std.specs.Prelude.{slice_get, Some}
use Rattle.world_sim.specs.Steps.{view_item}
use Rattle.world_sim.proofs.MembersLaws.{map_one_more}
use Rattle.world_sim.proofs.members.post_to_all.Goals as goal

pub loop-place-preserved : goal.loop-place-preserved
loop-place-preserved c =
    let k = c.loop-place.place in
    let xs = c.args.members.now in
    let f = view_item c.args.version xs in
    let x = c.in-Some.member in
    let less : k < length xs = omega (arith, c.loop-place-test.true, c.len-place-end.ensures.len) in
    let got : slice_get xs k ≡ Some x = sym c.get.ensures ∙ c.in-Some.is in
    let i = c.loop-place.invariant in
    let p = c.post_view.ensures in
    let spare = p.spare in
    let left = i.4 in (
      p.items ∙ (ap (λ is. is ++ f x ∷ []) i.0 ∙ (append_assoc c.args.mail.now.items (map f (take k xs)) (f x ∷ [])
          ∙ ap (λ is. c.args.mail.now.items ++ is) (sym (map_one_more f xs k x got)))),
      p.packets ∙ i.1,
      p.fresh ∙ i.2,
      p.full ∙ i.3,
      omega (arith, spare, left),
      omega (arith, less),
    )
