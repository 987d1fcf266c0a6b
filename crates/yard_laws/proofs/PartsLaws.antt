-- Acts and the parts of the node.
use Rattle.std.proofs.Common.{refl, ap}
use Rattle.std.specs.Prelude.{[], ◌∷◌, ◌++◌, fold}
use Rattle.std.proofs.lemmas.List.Sums.{fold-append}
use Rattle.yard_model.specs.Move.{item_of}
use Rattle.yard_model.specs.Node.{after, by_region, by_entities, by_producer, by_coordinator}
use Rattle.yard_laws.specs.Parts.{RegionAlone, EntitiesAlone, ProducerAlone, CoordinatorAlone, PartsAreFolds, RegionItems, EntitiesItems, ProducerItems, CoordinatorItems, AfterBoth}

pub region_alone : RegionAlone
region_alone st [] = refl
region_alone st (m ∷ ms) = region_alone (after st (by_region m)) ms

pub entities_alone : EntitiesAlone
entities_alone st [] = refl
entities_alone st (m ∷ ms) = entities_alone (after st (by_entities m)) ms

pub producer_alone : ProducerAlone
producer_alone st p [] = refl
producer_alone st p (m ∷ ms) = producer_alone (after st (by_producer p m)) p ms

pub coordinator_alone : CoordinatorAlone
coordinator_alone st [] = refl
coordinator_alone st (m ∷ ms) = coordinator_alone (after st (by_coordinator m)) ms

pub parts_are_folds : PartsAreFolds
parts_are_folds st [] = refl
parts_are_folds st (a ∷ acts) = parts_are_folds (after st a) acts

pub region_items : RegionItems
region_items [] = refl
region_items (m ∷ ms) = ap (λ is. item_of m ++ is) (region_items ms)

pub entities_items : EntitiesItems
entities_items [] = refl
entities_items (m ∷ ms) = ap (λ is. item_of m ++ is) (entities_items ms)

pub producer_items : ProducerItems
producer_items p [] = refl
producer_items p (m ∷ ms) = ap (λ is. item_of m ++ is) (producer_items p ms)

pub coordinator_items : CoordinatorItems
coordinator_items [] = refl
coordinator_items (m ∷ ms) = ap (λ is. item_of m ++ is) (coordinator_items ms)

pub after_both : AfterBoth
after_both p q st = fold-append after st (p st) (q (fold after st (p st)))
