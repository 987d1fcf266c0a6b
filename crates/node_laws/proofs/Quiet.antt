-- Moves that bring no message on: they keep, stash, record and acknowledge nothing, and post no message and no view.
use Rattle.std.proofs.Common.{◌≡◌, List, [], ◌∷◌, refl, true, false}
use Rattle.std.specs.Prelude.{Bool}
use Rattle.std.specs.List.{list_all, flat_map}
use Rattle.yard_model.specs.declared.fact.Fact.{Fact}
use Rattle.yard_model.specs.declared.fact.Fact.TheVariants as fact
use Rattle.yard_model.specs.declared.out.Item.{Item}
use Rattle.yard_model.specs.declared.out.Item.TheVariants as item
use Rattle.yard_model.specs.declared.packet.Body.{Body}
use Rattle.yard_model.specs.declared.packet.Body.TheVariants as body
use Rattle.yard_model.specs.Move.{Move, made, item_of}
use Rattle.plain_laws.proofs.Booleans.{and_both, both}

abbrev pub is_quiet_body : Body → Bool
is_quiet_body (body.View v xs) = false
is_quiet_body (body.Sequenced m) = false
is_quiet_body (body.Request p e n u) = false
is_quiet_body (body.Ack p e n) = false
is_quiet_body b = true

abbrev pub is_quiet_fact : Fact → Bool
is_quiet_fact (fact.Kept x m) = false
is_quiet_fact (fact.Stashed x m) = false
is_quiet_fact (fact.Wrote e r) = false
is_quiet_fact f = true

abbrev pub is_quiet_item : Item → Bool
is_quiet_item (item.Post p) = is_quiet_body p.body
is_quiet_item (item.Fact f) = is_quiet_fact f

abbrev pub is_quiet : Move → Bool
is_quiet (made i) = is_quiet_item i
is_quiet m = true

-- so are their items
pub quiet_items : (ms : List Move) → list_all is_quiet ms ≡ true → list_all is_quiet_item (flat_map item_of ms) ≡ true
quiet_items [] h = refl
quiet_items (made i ∷ ms) h =
    let n : (is_quiet_item i ≡ true) × (list_all is_quiet ms ≡ true) = and_both (is_quiet_item i) (list_all is_quiet ms) h in
    both (is_quiet_item i) (list_all is_quiet_item (flat_map item_of ms)) n.0 (quiet_items ms n.1)
quiet_items (m ∷ ms) h = quiet_items ms h
