-- What stays of a region and of a coordinator, whatever their moves; and what is told of a view.
use Rattle.yard_model.specs.Opening.{begins}
use Rattle.std.proofs.Common.{◌≡◌, ◌∙◌, sym, refl, ℕ}
use Rattle.std.specs.Prelude.{[], ◌∷◌, Bool, true, false, List, fold, is_none, ◌++◌, if◌then◌else◌}
use Rattle.std.specs.List.{list_all, flat_map}
use Rattle.yard_model.specs.declared.incarnation.Incarnation.{Incarnation}
use Rattle.yard_model.specs.Move.{Move, viewed, told, post}
use Rattle.yard_model.specs.Region.{Region, region_after, view_step}
use Rattle.yard_model.specs.Coordinator.{Coordinator, coordinator_after}
use Rattle.yard_model.specs.declared.fact.Fact.TheVariants as fact
use Rattle.yard_model.specs.declared.packet.Body.TheVariants as body
use Rattle.yard_model.specs.Setting.{shards}
use Rattle.yard_model.specs.Words.{is_at, is_among}
use Rattle.yard_model.specs.Region as region
use Rattle.yard_model.specs.declared.fact.Fact.{Fact}
use Rattle.yard_model.specs.declared.incarnation.Slot.TheVariants as slot
use Rattle.yard_model.specs.Script.{Script}
use Rattle.yard_model.specs.Lawful.{own, may_follow}
use Rattle.yard_model.proofs.FollowLaws.{own_grows}
use Rattle.plain_laws.proofs.Booleans.{true_is_not_false, and_both, both}
use Rattle.plain_laws.proofs.Lists.{all_if, all_some, all_each}

pub region_who : (r : Region) (ms : List Move) → (fold region_after r ms).who ≡ r.who
region_who r [] = refl
region_who r (m ∷ ms) = region_who (region_after r m) ms

pub region_set : (r : Region) (ms : List Move) → (fold region_after r ms).set ≡ r.set
region_set r [] = refl
region_set r (m ∷ ms) = region_set (region_after r m) ms

-- moves that leave the view
abbrev pub is_viewless : Move → Bool
is_viewless (viewed xs) = false
is_viewless m = true

one_viewless : (view : List Incarnation) (m : Move) → is_viewless m ≡ true → view_step view m ≡ view
one_viewless view (viewed xs) h = absurd (true_is_not_false (sym h))
one_viewless view m h = refl

pub region_view : (r : Region) (ms : List Move) → list_all is_viewless ms ≡ true → (fold region_after r ms).view ≡ r.view
region_view r [] h = refl
region_view r (m ∷ ms) h =
    let n : (is_viewless m ≡ true) × (list_all is_viewless ms ≡ true) = and_both (is_viewless m) (list_all is_viewless ms) h in
    region_view (region_after r m) ms n.1 ∙ one_viewless r.view m n.0

pub who_fold : (k : Coordinator) (ms : List Move) → (fold coordinator_after k ms).who ≡ k.who
who_fold k [] = refl
who_fold k (m ∷ ms) = who_fold (coordinator_after k m) ms

pub set_fold : (k : Coordinator) (ms : List Move) → (fold coordinator_after k ms).set ≡ k.set
set_fold k [] = refl
set_fold k (m ∷ ms) = set_fold (coordinator_after k m) ms

pub lost_all : (p : Move → Bool) → ((x : Incarnation) (s : ℕ) → p (told (fact.Forget x s)) ≡ true) → (xs : List Incarnation) (r : Region) → list_all p (flat_map (region.forget_lost xs r) (shards r.set)) ≡ true
lost_all p h xs r = all_each p (region.forget_lost xs r) (shards r.set) (λ s.
    all_some p (λ x. if is_among x xs then [] else region.forget s r) (region.home r s) (λ x.
    all_if p (is_among x xs) [] (region.forget s r) refl
    (all_if p (is_none (region.home r s)) [] (told (fact.Forget r.who s) ∷ []) refl (both (p (told (fact.Forget r.who s))) true (h r.who s) refl))))

pub register_viewless : (r : Region) → list_all is_viewless (region.register r) ≡ true
register_viewless r = all_some is_viewless (λ x. if is_at x r.registered then [] else post r.who x body.Register ∷ []) (region.oldest r) (λ x. all_if is_viewless (is_at x r.registered) [] (post r.who x body.Register ∷ []) refl refl)

pub may_of : (c : Script) (list : List Fact) (f : Fact) → begins f ≡ false → own c slot.Coordinator (list ++ f ∷ []) ≡ true → may_follow c slot.Coordinator list f ≡ true
may_of c list f within o = (and_both (own c slot.Coordinator list) (may_follow c slot.Coordinator list f) (sym (own_grows c slot.Coordinator list f within) ∙ o)).1
