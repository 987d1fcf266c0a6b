-- The loads that the store tells are the shares of the definition.
use Rattle.std.proofs.Common.{◌≡◌, ◌<◌, ◌≤◌, ◌+◌, ℕ, zero, suc, sym, ap, ◌∙◌, refl, arith, length}
use Rattle.std.specs.Prelude.{Bool, true, false, ◌==◌, ◌&&◌, not, nat_lt, cond, List, [], ◌∷◌, map, filter, Option, Some, None, is_none, option_map, if◌then◌else◌}
use Rattle.std.specs.List.{All, list_all}
use Rattle.std.proofs.lemmas.Bool.Decides.{Decides-eqb, nat_tests}
use Rattle.std.proofs.lemmas.List.Elements.{All-filter}
use Rattle.std.proofs.lemmas.List.Folds.{list_all-map}
use Rattle.std.proofs.lemmas.List.Sums.{fold-append}
use Rattle.yard_model.specs.declared.fact.Fact.{Fact}
use Rattle.yard_model.specs.declared.fact.Fact.TheVariants as fact
use Rattle.yard_model.specs.declared.incarnation.Incarnation.{Incarnation}
use Rattle.yard_model.specs.declared.incarnation.Slot.TheVariants as slot
use Rattle.yard_model.specs.declared.packet.Body.TheVariants as body
use Rattle.yard_model.specs.declared.load.Load.{Load}
use Rattle.yard_model.specs.Coordinator.{Coordinator, Share, shares, homes_at, stamp, smallest, allocate}
use Rattle.yard_model.specs.Genuine.{is_shard}
use Rattle.yard_model.specs.Lawful.{own, is_leased, is_entry, may_open, may_follow}
use Rattle.yard_model.specs.Opening.{begins}
use Rattle.yard_model.specs.Move.{told, post}
use Rattle.yard_model.specs.Turns.{where_some}
use Rattle.yard_model.specs.Script.{Script}
use Rattle.yard_model.specs.ShardSet.{has}
use Rattle.yard_model.specs.SlotReads.{regions, allocation, allocation_step}
use Rattle.yard_model.specs.Words.{is_at, is_among, is_empty, numbers}
use Rattle.coordinator_state.specs.Coord.{IsLoadOf}
use Rattle.coordinator_state.specs.Homes.{regions_of}
use Rattle.least_shard.specs.Spread.{members, members_below, share_of, shares_of}
use Rattle.coordinator_actor.specs.Parts.{staying_of, allocate_to}
use Rattle.coordinator_actor.proofs.OwnLaws.{own_anew}
use Rattle.coordinator_actor.proofs.RestLaws.{each_among}
use Rattle.coordinator_actor.proofs.Same.{true_is_not_false, and_both, both, not_so}

-- A shard that there isn't has no home.

not_below : (s t n : ℕ) → nat_lt s n ≡ true → n ≤ t → (s == t) ≡ false
not_below s t n e h = not_so (s == t) (λ same. absurd (apart ((Decides-eqb s t).0 same)))
  where
    less : s < n
    less = grind (arith, nat_tests)

    apart : s ≡ t → ⊥
    apart q = omega (arith, less, h, q)

past_step : (c : Script) (t : ℕ) → c.config.shards ≤ t → (list : List Fact) (f : Fact) → allocation t list ≡ None → may_follow c slot.Coordinator list f ≡ true → allocation_step t (allocation t list) f ≡ None
past_step c t h list (fact.Allocated s r) e may =
    let entry : (is_shard c s && is_among r (regions list) && is_none (allocation s list)) ≡ true = (and_both (is_leased list (fact.Allocated s r)) (is_entry c slot.Coordinator list (fact.Allocated s r)) may).1 in
    let there : is_shard c s ≡ true = (and_both (is_shard c s) (is_among r (regions list)) (and_both (is_shard c s && is_among r (regions list)) (is_none (allocation s list)) entry).0).0 in
    ap (λ b. if b then Some r else allocation t list) (not_below s t c.config.shards there h) ∙ e
past_step c t h list (fact.Deallocated s) e may = step (s == t)
  where
    step : (b : Bool) → (if b then None else allocation t list) ≡ None
    step true = refl
    step false = e
past_step c t h list (fact.Terminated r) e may = ap (λ o. if is_at r o then None else o) e
past_step c t h list (fact.Reshard n k) e may = refl
past_step c t h list f e may = e

-- where the number of shards changes, no shard has a home
past_anew : (c : Script) (t k : ℕ) (list : List Fact) (f : Fact) → begins f ≡ true → may_open c slot.Coordinator k list f ≡ true → allocation_step t (allocation t list) f ≡ None
past_anew c t k list (fact.Reshard n m) b may = refl
past_anew c t k list (fact.Resharded s n m) b may = absurd (true_is_not_false (sym (and_both (is_leased list (fact.Resharded s n m)) false may).1))
past_anew c t k list f b may = absurd (true_is_not_false (sym b))

pub past : (c : Script) (list : List Fact) → own c slot.Coordinator list ≡ true → (t : ℕ) → c.config.shards ≤ t → allocation t list ≡ None
past c list o t h =
    own_anew c slot.Coordinator (λ l. allocation t l ≡ None) refl (λ k l f b may. fold-append (allocation_step t) None l (f ∷ []) ∙ past_anew c t k l f b may)
    (λ l f e may. fold-append (allocation_step t) None l (f ∷ []) ∙ past_step c t h l f e may) list o

-- Shards of a region.

pub same_filter : (p q : ℕ → Bool) (a k : ℕ) → ((t : ℕ) → a ≤ t → t < a + k → p t ≡ q t) → filter p (numbers a k) ≡ filter q (numbers a k)
same_filter p q a zero h = refl
same_filter p q a (suc k) h =
    ap (λ b. cond b (a ∷ filter p (numbers (a + 1) k)) (filter p (numbers (a + 1) k))) (h a (omega arith) (omega arith))
    ∙ ap (λ (l : List ℕ). cond (q a) (a ∷ l) l) (same_filter p q (a + 1) k (λ t u v. h t (omega (arith, u)) (omega (arith, v))))

pub none_in : (p : ℕ → Bool) (a k : ℕ) → ((t : ℕ) → a ≤ t → p t ≡ false) → filter p (numbers a k) ≡ []
none_in p a zero h = refl
none_in p a (suc k) h = ap (λ b. cond b (a ∷ filter p (numbers (a + 1) k)) (filter p (numbers (a + 1) k))) (h a (omega arith)) ∙ none_in p (a + 1) k (λ t u. h t (omega (arith, u)))

cut : (p : ℕ → Bool) (a n k : ℕ) → ((t : ℕ) → a + n ≤ t → p t ≡ false) → n ≤ k → filter p (numbers a k) ≡ filter p (numbers a n)
cut p a zero k h le = none_in p a k (λ t u. h t (omega (arith, u)))
cut p a (suc n) zero h le = absurd (omega (arith, le))
cut p a (suc n) (suc k) h le = ap (λ (l : List ℕ). cond (p a) (a ∷ l) l) (cut p (a + 1) n k (λ t u. h t (omega (arith, u))) (omega (arith, le)))

share_with : Incarnation → List ℕ → Share
share_with r xs = record { region = r; rest = xs; count = length xs }

shards_are : (c : Script) (st : Coordinator) (l : Load) → own c slot.Coordinator st.entries ≡ true → st.set.config.shards ≡ c.config.shards → c.config.shards ≤ 128 → IsLoadOf st.entries l → members l.shards ≡ homes_at st l.region
unfolding members members_below
shards_are c st l o n few h =
    let home : ℕ → Bool = λ s. is_at l.region (allocation s st.entries) in
    same_filter (has l.shards) home 0 128 (λ t u v. h t (omega (arith, v)))
    ∙ (cut home 0 c.config.shards 128 (λ t u. ap (is_at l.region) (past c st.entries o t (omega (arith, u)))) few
    ∙ ap (λ k. filter home (numbers 0 k)) (sym n))

pub shares_are : (c : Script) (st : Coordinator) (loads : List Load) → own c slot.Coordinator st.entries ≡ true → st.set.config.shards ≡ c.config.shards → c.config.shards ≤ 128 → regions_of loads ≡ regions st.entries → All (IsLoadOf st.entries) loads
    → shares_of (staying_of st.quitting loads) ≡ shares st
shares_are c st loads o n few rs each = go loads each ∙ ap (λ (xs : List Incarnation). map one (filter (λ r. not (is_among r st.quitting)) xs)) rs
  where
    one : Incarnation → Share
    one r = record { region = r; rest = homes_at st r; count = length (homes_at st r) }

    same : (l : Load) → IsLoadOf st.entries l → share_of l ≡ one l.region
    same l h = ap (λ (xs : List ℕ). let x : Share = record { region = l.region; rest = xs; count = length xs } in x) (shards_are c st l o n few h)

    keep : (b : Bool) (l : Load) (ls : List Load) → share_of l ≡ one l.region → shares_of (staying_of st.quitting ls) ≡ map one (filter (λ r. not (is_among r st.quitting)) (regions_of ls))
        → shares_of (cond b (l ∷ staying_of st.quitting ls) (staying_of st.quitting ls)) ≡ map one (cond b (l.region ∷ filter (λ r. not (is_among r st.quitting)) (regions_of ls)) (filter (λ r. not (is_among r st.quitting)) (regions_of ls)))
    keep true l ls e f = ap (λ (x : Share). x ∷ shares_of (staying_of st.quitting ls)) e ∙ ap (λ (xs : List Share). one l.region ∷ xs) f
    keep false l ls e f = f

    go : (ls : List Load) → All (IsLoadOf st.entries) ls → shares_of (staying_of st.quitting ls) ≡ map one (filter (λ r. not (is_among r st.quitting)) (regions_of ls))
    go [] h = refl
    go (l ∷ ls) h = keep (not (is_among l.region st.quitting)) l ls (same l (h zero l (omega arith))) (go ls (λ i d k. h (suc i) d (omega (arith, k))))

all_filter : (p pick : Load → Bool) → (xs : List Load) → list_all p xs ≡ true → list_all p (filter pick xs) ≡ true
all_filter p pick [] e = refl
all_filter p pick (x ∷ xs) e = step (pick x) (all_filter p pick xs (and_both (p x) (list_all p xs) e).1)
  where
    step : (b : Bool) → list_all p (filter pick xs) ≡ true → list_all p (cond b (x ∷ filter pick xs) (filter pick xs)) ≡ true
    step true h = both (p x) (list_all p (filter pick xs)) (and_both (p x) (list_all p xs) e).0 h
    step false h = h

pub staying_homes : (P : Load → Type 0) (pick : Load → Bool) (ls : List Load) → All P ls → All P (filter pick ls)
staying_homes P pick ls h = All-filter pick P ls h

pub staying_registered : (quitting rs : List Incarnation) (loads : List Load) → regions_of loads ≡ rs → list_all (λ (l : Load). is_among l.region rs) (staying_of quitting loads) ≡ true
staying_registered quitting rs loads e =
    all_filter (λ (l : Load). is_among l.region rs) (λ (l : Load). not (is_among l.region quitting)) loads
    (sym (list_all-map (λ r. is_among r rs) (λ (l : Load). l.region) loads) ∙ (ap (λ (xs : List Incarnation). list_all (λ r. is_among r rs) xs) e ∙ each_among rs))

-- where nobody leaves, all stay
pub all_stay : (quitting : List Incarnation) (loads : List Load) → is_empty quitting ≡ true → staying_of quitting loads ≡ loads
all_stay [] [] e = refl
all_stay [] (l ∷ ls) e = ap (λ (xs : List Load). l ∷ xs) (all_stay [] ls e)
all_stay (q ∷ qs) ls e = absurd (true_is_not_false (sym e))

-- The rule by the region that is chosen.

pub allocate_is : (s : ℕ) (st : Coordinator) (o : Option Incarnation) → o ≡ option_map (λ (x : Share). x.region) (smallest (shares st)) → allocate s st ≡ allocate_to s o st
allocate_is s st o e = by (smallest (shares st)) ∙ ap (λ p. allocate_to s p st) (sym e)
  where
    by : (x : Option Share) → where_some (λ (x : Share). told (fact.Allocated s x.region) ∷ post st.who x.region (body.HostShard s (stamp st)) ∷ []) x ≡ allocate_to s (option_map (λ (x : Share). x.region) x) st
    by None = refl
    by (Some x) = refl
