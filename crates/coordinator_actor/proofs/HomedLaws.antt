-- Each shard that has a home has it at a registered region, whose load has it.
use Rattle.std.proofs.Common.{◌≡◌, ◌<◌, ◌≤◌, ◌+◌, ℕ, zero, suc, sym, ap, ◌∙◌, refl, arith}
use Rattle.std.specs.Prelude.{Bool, true, false, ◌==◌, ◌&&◌, ◌||◌, cond, List, [], ◌∷◌, map, filter, find, Option, Some, None, is_some, is_none, option_map, if◌then◌else◌}
use Rattle.std.specs.List.{All, list_any}
use Rattle.std.proofs.lemmas.List.Sums.{fold-append}
use Rattle.yard_model.specs.declared.fact.Fact.{Fact}
use Rattle.yard_model.specs.declared.fact.Fact.TheVariants as fact
use Rattle.yard_model.specs.declared.incarnation.Incarnation.{Incarnation}
use Rattle.yard_model.specs.declared.incarnation.Slot.TheVariants as slot
use Rattle.yard_model.specs.declared.load.Load.{Load}
use Rattle.yard_model.specs.Coordinator.{Coordinator, Moving, home_of, registered}
use Rattle.yard_model.specs.Genuine.{is_shard}
use Rattle.yard_model.specs.Lawful.{own, is_leased, is_entry, may_be_before, may_follow}
use Rattle.yard_model.specs.Script.{Script, with_shards}
use Rattle.yard_model.specs.ShardSet.{has}
use Rattle.yard_model.specs.SlotReads.{regions, regions_step, allocation, allocation_step}
use Rattle.yard_model.specs.Words.{is_same, is_at, is_among, numbers}
use Rattle.coordinator_state.specs.Coord.{IsLoadOf}
use Rattle.coordinator_state.specs.Homes.{regions_of}
use Rattle.handoff_steps.specs.Places.{all_shards, begins, home_in}
use Rattle.handoff_steps.specs.Places as places
use Rattle.coordinator_actor.specs.Held.{AreHomed}
use Rattle.coordinator_actor.specs.Parts.{shards_in}
use Rattle.coordinator_actor.proofs.Differ.{regions_more}
use Rattle.coordinator_actor.proofs.OwnLaws.{own_steps}
use Rattle.coordinator_actor.proofs.Same.{true_is_not_false, and_both, or_left, or_right, same_turned, some_is, at_none, among_more, among_without}
use Rattle.coordinator_actor.proofs.ShareLaws.{past}

-- the home of a shard is registered
abbrev IsThere : List Fact → ℕ → Type 0
IsThere list s = (r : Incarnation) → allocation s list ≡ Some r → is_among r (regions list) ≡ true

there_step : (c : Script) (s : ℕ) (list : List Fact) (f : Fact) → IsThere list s → may_follow c slot.Coordinator list f ≡ true → (r : Incarnation) → allocation_step s (allocation s list) f ≡ Some r → is_among r (regions_step (regions list) f) ≡ true
there_step c s list (fact.Allocated t q) k may r e =
    let entry : (is_shard c t && is_among q (regions list) && is_none (allocation t list)) ≡ true = (and_both (is_leased list (fact.Allocated t q)) (is_entry c slot.Coordinator list (fact.Allocated t q)) may).1 in
    let there : is_among q (regions list) ≡ true = (and_both (is_shard c t) (is_among q (regions list)) (and_both (is_shard c t && is_among q (regions list)) (is_none (allocation t list)) entry).0).1 in
    by_shard (t == s) there e
  where
    by_shard : (b : Bool) → is_among q (regions list) ≡ true → (if b then Some q else allocation s list) ≡ Some r → is_among r (regions list) ≡ true
    by_shard true there g = ap (λ x. is_among x (regions list)) (sym (some_is q r g)) ∙ there
    by_shard false there g = k r g
there_step c s list (fact.Deallocated t) k may r e = by_shard (t == s) e
  where
    by_shard : (b : Bool) → (if b then None else allocation s list) ≡ Some r → is_among r (regions list) ≡ true
    by_shard true g = absurd (true_is_not_false (sym (ap is_some g)))
    by_shard false g = k r g
there_step c s list (fact.Registered q) k may r e = among_more r q (regions list) (k r e)
there_step c s list (fact.Terminated q) k may r e = by_home (is_at q (allocation s list)) refl e
  where
    by_home : (b : Bool) → is_at q (allocation s list) ≡ b → (if b then None else allocation s list) ≡ Some r → is_among r (regions_step (regions list) (fact.Terminated q)) ≡ true
    by_home true away g = absurd (true_is_not_false (sym (ap is_some g)))
    by_home false away g = among_without r q (regions list) (ap (is_at q) (sym g) ∙ away) (k r g)
there_step c s list (fact.Reshard n m) k may r e = absurd (true_is_not_false (sym (ap is_some e)))
there_step c s list f k may r e = k r e

-- also up to a change of the number of shards
open_step : (c : Script) (s : ℕ) (list : List Fact) (f : Fact) → IsThere list s → may_be_before c list f ≡ true → (r : Incarnation) → allocation_step s (allocation s list) f ≡ Some r → is_among r (regions_step (regions list) f) ≡ true
open_step c s list (fact.Reshard n m) k may r e = absurd (true_is_not_false (sym (ap is_some e)))
open_step c s list f k may r e = there_step (with_shards 128 c) s list f k may r e

home_there : (c : Script) (list : List Fact) → own c slot.Coordinator list ≡ true → (s : ℕ) → IsThere list s
home_there c list o s = own_steps c slot.Coordinator (λ l. IsThere l s) (λ r e. absurd (true_is_not_false (sym (ap is_some e))))
    (λ n l f k may r e. ap (is_among r) (regions_more l f) ∙ open_step c s l f k may r (sym (fold-append (allocation_step s) None l (f ∷ [])) ∙ e))
    (λ l f k may r e. ap (is_among r) (regions_more l f) ∙ there_step c s l f k may r (sym (fold-append (allocation_step s) None l (f ∷ [])) ∙ e)) list o

-- a load has the shard whose home is its region
loads_have : (list : List Fact) (s : ℕ) (r : Incarnation) → s < 128 → allocation s list ≡ Some r → (loads : List Load) → All (IsLoadOf list) loads → is_among r (regions_of loads) ≡ true → list_any (λ l. has l.shards s) loads ≡ true
loads_have list s r low home [] k e = e
loads_have list s r low home (l ∷ ls) k e = by_first (is_same r l.region) refl e (loads_have list s r low home ls (λ i d h. k (suc i) d (omega (arith, h))))
  where
    by_first : (b : Bool) → is_same r l.region ≡ b → (b || is_among r (regions_of ls)) ≡ true → (is_among r (regions_of ls) ≡ true → list_any (λ l. has l.shards s) ls ≡ true) → (has l.shards s || list_any (λ l. has l.shards s) ls) ≡ true
    by_first true f g next = or_left (has l.shards s) (list_any (λ l. has l.shards s) ls) (k zero l (omega arith) s low ∙ (ap (is_at l.region) home ∙ (same_turned l.region r ∙ f)))
    by_first false f g next = or_right (has l.shards s) (list_any (λ l. has l.shards s) ls) (next g)

pub homed_loads : (c : Script) (list : List Fact) (loads : List Load) (s : ℕ) → own c slot.Coordinator list ≡ true → regions_of loads ≡ regions list → All (IsLoadOf list) loads → s < 128 → is_some (allocation s list) ≡ true
    → list_any (λ l. has l.shards s) loads ≡ true
homed_loads c list loads s o rs k low some = by_home (allocation s list) refl some
  where
    by_home : (h : Option Incarnation) → allocation s list ≡ h → is_some h ≡ true → list_any (λ l. has l.shards s) loads ≡ true
    by_home None e f = absurd (true_is_not_false (sym f))
    by_home (Some r) e f = loads_have list s r low e loads k (ap (is_among r) rs ∙ home_there c list o s r e)

-- and the other way round
pub loads_homed : (list : List Fact) (s : ℕ) → s < 128 → (loads : List Load) → All (IsLoadOf list) loads → list_any (λ l. has l.shards s) loads ≡ true → home_in loads s ≡ allocation s list
loads_homed list s low [] k e = absurd (true_is_not_false (sym e))
loads_homed list s low (l ∷ ls) k e = by_first (has l.shards s) refl e (loads_homed list s low ls (λ i d h. k (suc i) d (omega (arith, h))))
  where
    by_first : (b : Bool) → has l.shards s ≡ b → (b || list_any (λ l. has l.shards s) ls) ≡ true → (list_any (λ l. has l.shards s) ls ≡ true → home_in ls s ≡ allocation s list)
        → option_map (λ (l : Load). l.region) (if b then Some l else find (λ l. has l.shards s) ls) ≡ allocation s list
    by_first true f g next = sym (at_none l.region (allocation s list) (sym (k zero l (omega arith) s low) ∙ f))
    by_first false f g next = next g

some_home : (loads : List Load) (s : ℕ) → list_any (λ l. has l.shards s) loads ≡ true → is_some (home_in loads s) ≡ true
some_home [] s e = e
some_home (l ∷ ls) s e = by_first (has l.shards s) e (some_home ls s)
  where
    by_first : (b : Bool) → (b || list_any (λ l. has l.shards s) ls) ≡ true → (list_any (λ l. has l.shards s) ls ≡ true → is_some (home_in ls s) ≡ true) → is_some (option_map (λ (l : Load). l.region) (if b then Some l else find (λ l. has l.shards s) ls)) ≡ true
    by_first true f next = refl
    by_first false f next = next f

pub picks_homed : (list : List Fact) (s : ℕ) → s < 128 → (loads : List Load) → All (IsLoadOf list) loads → list_any (λ l. has l.shards s) loads ≡ true → is_some (allocation s list) ≡ true
picks_homed list s low loads k e = sym (ap is_some (loads_homed list s low loads k e)) ∙ some_home loads s e

pub some_at : (r : Incarnation) (o : Option Incarnation) → is_at r o ≡ true → is_some o ≡ true
some_at r None e = absurd (true_is_not_false (sym e))
some_at r (Some x) e = refl

-- The shards of a round that begins.

none_past : (p : ℕ → Bool) (a k : ℕ) → ((t : ℕ) → a ≤ t → t < a + k → p t ≡ false) → filter p (numbers a k) ≡ []
none_past p a zero h = refl
none_past p a (suc k) h = ap (λ b. cond b (a ∷ filter p (numbers (a + 1) k)) (filter p (numbers (a + 1) k))) (h a (omega arith) (omega arith)) ∙ none_past p (a + 1) k (λ t u v. h t (omega (arith, u)) (omega (arith, v)))

cut_at : (p : ℕ → Bool) (a n k : ℕ) → ((t : ℕ) → a + n ≤ t → t < a + k → p t ≡ false) → n ≤ k → filter p (numbers a k) ≡ filter p (numbers a n)
cut_at p a zero k h le = none_past p a k (λ t u v. h t (omega (arith, u)) v)
cut_at p a (suc n) zero h le = absurd (omega (arith, le))
cut_at p a (suc n) (suc k) h le = ap (λ (l : List ℕ). cond (p a) (a ∷ l) l) (cut_at p (a + 1) n k (λ t u v. h t (omega (arith, u)) (omega (arith, v))) (omega (arith, le)))

-- no shard past the last has a home
pub set_cut : (c : Script) (set : ℕ) (st : Coordinator) → own c slot.Coordinator st.entries ≡ true → st.set.config.shards ≡ c.config.shards → c.config.shards ≤ 128 → AreHomed set st → places.shards_in set ≡ shards_in set st
unfolding all_shards
set_cut c set st o n few homed = cut_at (has set) 0 st.set.config.shards 128 (λ t u v. none t (omega (arith, u, n)) (omega (arith, v))) (omega (arith, n, few))
  where
    none : (t : ℕ) → c.config.shards ≤ t → t < 128 → has set t ≡ false
    none t past_last low = by_bit (has set t) refl
      where
        by_bit : (b : Bool) → has set t ≡ b → b ≡ false
        by_bit true e = absurd (true_is_not_false (sym (homed t low e) ∙ ap is_some (past c st.entries o t past_last)))
        by_bit false e = refl

map_to : (f g : ℕ → Moving) (p : ℕ → Bool) (a k : ℕ) → ((t : ℕ) → t < a + k → p t ≡ true → f t ≡ g t) → map f (filter p (numbers a k)) ≡ map g (filter p (numbers a k))
map_to f g p a zero h = refl
map_to f g p a (suc k) h = by_bit (p a) refl (map_to f g p (a + 1) k (λ t u e. h t (omega (arith, u)) e))
  where
    by_bit : (b : Bool) → p a ≡ b → map f (filter p (numbers (a + 1) k)) ≡ map g (filter p (numbers (a + 1) k)) → map f (cond b (a ∷ filter p (numbers (a + 1) k)) (filter p (numbers (a + 1) k))) ≡ map g (cond b (a ∷ filter p (numbers (a + 1) k)) (filter p (numbers (a + 1) k)))
    by_bit true e rest = ap (λ (x : Moving). x ∷ map f (filter p (numbers (a + 1) k))) (h a (omega arith) e) ∙ ap (λ (l : List Moving). g a ∷ l) rest
    by_bit false e rest = rest

-- as the round's loads have it, and as the rule has it
pub opened_moving : (c : Script) (set : ℕ) (st : Coordinator) (loads : List Load) → own c slot.Coordinator st.entries ≡ true → st.set.config.shards ≡ c.config.shards → c.config.shards ≤ 128 → AreHomed set st
    → regions_of loads ≡ regions st.entries → All (IsLoadOf st.entries) loads
    → map (begins loads) (places.shards_in set) ≡ map (λ s. record { shard = s; owner = home_of st s; awaited = registered st }) (shards_in set st)
opened_moving c set st loads o n few homed rs k =
    ap (λ (l : List ℕ). map (begins loads) l) (set_cut c set st o n few homed)
    ∙ map_to (begins loads) (λ s. record { shard = s; owner = home_of st s; awaited = registered st }) (has set) 0 st.set.config.shards
    (λ t u e. let low : t < 128 = omega (arith, u, n, few) in
    ap (λ (h : Option Incarnation). let x : Moving = record { shard = t; owner = h; awaited = places.regions_of loads } in x) (loads_homed st.entries t low loads k (homed_loads c st.entries loads t o rs k low (homed t low e)))
    ∙ ap (λ (l : List Incarnation). let x : Moving = record { shard = t; owner = home_of st t; awaited = l } in x) rs)
