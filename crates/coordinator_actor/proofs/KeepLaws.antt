-- A shard keeps its home, but where it has stopped, where its home is lost, or where the number of shards changes.
use Rattle.std.proofs.Common.{◌≡◌, ℕ, sym, ap, subst, ◌∙◌, refl}
use Rattle.std.specs.Prelude.{Bool, true, false, ◌==◌, ◌&&◌, not, cond, List, [], ◌∷◌, ◌++◌, filter, fold, Option, None, Some, IfSome, is_none, if◌then◌else◌}
use Rattle.std.specs.List.{list_all}
use Rattle.std.proofs.lemmas.Bool.Decides.{Decides-eqb}
use Rattle.std.proofs.lemmas.List.Sums.{fold-append}
use Rattle.yard_model.specs.declared.fact.Fact.{Fact}
use Rattle.yard_model.specs.declared.fact.Fact.TheVariants as fact
use Rattle.yard_model.specs.declared.out.Item.TheVariants as item
use Rattle.yard_model.specs.declared.packet.Body.{Body}
use Rattle.yard_model.specs.declared.packet.Body.TheVariants as body
use Rattle.yard_model.specs.declared.incarnation.Incarnation.{Incarnation}
use Rattle.yard_model.specs.declared.incarnation.Stamp.{Stamp}
use Rattle.yard_model.specs.Coordinator.{Coordinator, Share, allocate, coordinate, coordinator_after, coordinator_step, get_home, home_of, is_moving, acknowledge, quit, registered, rebalance, register_from, shard_started, shard_stopped, shares, smallest, stamp, tell_home, terminate, terminate_lost, tick_coordinator}
use Rattle.yard_model.specs.Move.{Move, made, told, post}
use Rattle.yard_model.specs.SlotReads.{allocation, allocation_step}
use Rattle.yard_model.specs.Turns.{for_each, in_turn, where_some}
use Rattle.yard_model.specs.Words.{is_same, is_among}
use Rattle.yard_laws.specs.Free.{is_free_move}
use Rattle.yard_laws.proofs.FreeLaws.{AreFree}
use Rattle.yard_laws.proofs.HomeLaws.{coordinator_is_free}
use Rattle.coordinator_actor.specs.Homes.{takes_home, is_stop_of, KeepsHome, KeepsViewed, EntriesKeep, PacketsKeep, ViewsKeep, TicksKeep, RebalancesKeep}
use Rattle.coordinator_actor.specs.Parts.{allocate_and_tell, allocate_new, is_stopped_by}
use Rattle.coordinator_actor.proofs.Differ.{of_not}
use Rattle.coordinator_actor.proofs.MoveLaws.{terminated_state}
use Rattle.coordinator_actor.proofs.Same.{true_is_not_false, and_both, both, not_so, same_is}

-- An entry.

entry_stays : (s : ℕ) (h : Incarnation) (list : List Fact) (f : Fact) → takes_home s h f ≡ false → allocation s list ≡ Some h → allocation s (list ++ f ∷ []) ≡ Some h
entry_stays s h list f stays is = fold-append (allocation_step s) None list (f ∷ []) ∙ (ap (λ o. allocation_step s o f) is ∙ one f stays)
  where
    one : (f : Fact) → takes_home s h f ≡ false → allocation_step s (Some h) f ≡ Some h
    one (fact.Allocated t r) e = ap (λ b. if b then Some r else Some h) e
    one (fact.Deallocated t) e = ap (λ b. if b then None else Some h) e
    one (fact.Terminated r) e = ap (λ b. if b then None else Some h) e
    one (fact.Reshard n k) e = absurd (true_is_not_false e)
    one f e = refl

if_some : (s : ℕ) (list new : List Fact) → ((h : Incarnation) → allocation s list ≡ Some h → allocation s new ≡ Some h) → IfSome (allocation s list) (λ h. allocation s new ≡ Some h)
if_some s list new stays = by (allocation s list) refl
  where
    by : (o : Option Incarnation) → allocation s list ≡ o → IfSome o (λ h. allocation s new ≡ Some h)
    by None e = tt
    by (Some h) e = stays h e

pub entries_keep : EntriesKeep
entries_keep s list f = by (allocation s list) refl
  where
    by : (o : Option Incarnation) → allocation s list ≡ o → IfSome o (λ h. takes_home s h f ≡ false → allocation s (list ++ f ∷ []) ≡ Some h)
    by None e = tt
    by (Some h) e = λ stays. entry_stays s h list f stays e

-- A move.

told_stays : (s : ℕ) (h : Incarnation) (st : Coordinator) (f : Fact) → takes_home s h f ≡ false → home_of st s ≡ Some h → home_of (coordinator_after st (told f)) s ≡ Some h
told_stays s h st (fact.Registered r) e is = entry_stays s h st.entries (fact.Registered r) e is
told_stays s h st (fact.Terminated r) e is = entry_stays s h st.entries (fact.Terminated r) e is
told_stays s h st (fact.Allocated t r) e is = entry_stays s h st.entries (fact.Allocated t r) e is
told_stays s h st (fact.Deallocated t) e is = entry_stays s h st.entries (fact.Deallocated t) e is
told_stays s h st f e is = is

free_step : (old : List Fact) (m : Move) → is_free_move m ≡ true → coordinator_step old m ≡ old
free_step old (made (item.Fact (fact.Registered r))) e = absurd (true_is_not_false (sym e))
free_step old (made (item.Fact (fact.Terminated r))) e = absurd (true_is_not_false (sym e))
free_step old (made (item.Fact (fact.Allocated t r))) e = absurd (true_is_not_false (sym e))
free_step old (made (item.Fact (fact.Deallocated t))) e = absurd (true_is_not_false (sym e))
free_step old m e = refl

free_entries : (st : Coordinator) (ms : List Move) → AreFree ms → (fold coordinator_after st ms).entries ≡ st.entries
free_entries st [] e = refl
free_entries st (m ∷ ms) e =
    let k : (is_free_move m ≡ true) × (list_all is_free_move ms ≡ true) = and_both (is_free_move m) (list_all is_free_move ms) e in
    free_entries (coordinator_after st m) ms k.1 ∙ free_step st.entries m k.0

free_stays : (s : ℕ) (h : Incarnation) (st : Coordinator) (ms : List Move) → AreFree ms → home_of st s ≡ Some h → home_of (fold coordinator_after st ms) s ≡ Some h
free_stays s h st ms e is = ap (allocation s) (free_entries st ms e) ∙ is

free_keeps : (s : ℕ) (st : Coordinator) (ms : List Move) → AreFree ms → KeepsHome s st (fold coordinator_after st ms)
free_keeps s st ms e = if_some s st.entries (fold coordinator_after st ms).entries (λ h. free_stays s h st ms e)

-- Rules.

-- another shard is allocated
allocate_stays : (s t : ℕ) (h : Incarnation) (st : Coordinator) → (t == s) ≡ false → home_of st s ≡ Some h → home_of (fold coordinator_after st (allocate t st)) s ≡ Some h
allocate_stays s t h st other is = by (smallest (shares st))
  where
    by : (o : Option Share) → home_of (fold coordinator_after st (where_some (λ x. told (fact.Allocated t x.region) ∷ post st.who x.region (body.HostShard t (stamp st)) ∷ []) o)) s ≡ Some h
    by None = is
    by (Some x) = told_stays s h st (fact.Allocated t x.region) other is

registers_stay : (s : ℕ) (h : Incarnation) (from : Incarnation) (view : List Incarnation) (st : Coordinator) → home_of st s ≡ Some h → home_of (fold coordinator_after st (register_from from view st)) s ≡ Some h
registers_stay s h from view st is = by (is_among from view) (is_among from (registered st))
  where
    by : (seen there : Bool) → home_of (fold coordinator_after st (if seen then (if there then [] else told (fact.Registered from) ∷ []) ++ post st.who from body.RegisterAck ∷ [] else [])) s ≡ Some h
    by false there = is
    by true true = is
    by true false = told_stays s h st (fact.Registered from) refl is

gets_stay : (s : ℕ) (h : Incarnation) (from : Incarnation) (t : ℕ) (st : Coordinator) → home_of st s ≡ Some h → home_of (fold coordinator_after st (get_home from t st)) s ≡ Some h
gets_stay s h from t st is = by (is_among from (registered st) && not (is_moving st t))
  where
    same_shard : is_none (home_of st t) ≡ true → (t == s) ≡ true → ⊥
    same_shard none same = true_is_not_false (sym none ∙ ap is_none (ap (home_of st) ((Decides-eqb t s).0 same) ∙ is))

    at : (b : Bool) → is_none (home_of st t) ≡ b → home_of (fold coordinator_after st (if b then allocate t st else [])) s ≡ Some h
    at false e = is
    at true e = allocate_stays s t h st (not_so (t == s) (same_shard e)) is

    by : (b : Bool) → home_of (fold coordinator_after st (if b then allocate_and_tell from t st else [])) s ≡ Some h
    by false = is
    by true =
        ap (λ (x : Coordinator). home_of x s) (fold-append coordinator_after st (allocate_new t st) (tell_home from t (fold coordinator_after st (allocate_new t st))))
        ∙ free_stays s h (fold coordinator_after st (allocate_new t st)) (tell_home from t (fold coordinator_after st (allocate_new t st))) ((coordinator_is_free (fold coordinator_after st (allocate_new t st))).tells from t) (at (is_none (home_of st t)) refl)

stops_stay : (s : ℕ) (h : Incarnation) (from : Incarnation) (t : ℕ) (given : Stamp) (st : Coordinator) → ((t == s) && is_stopped_by from t given st) ≡ false → home_of st s ≡ Some h → home_of (fold coordinator_after st (shard_stopped from t given st)) s ≡ Some h
stops_stay s h from t given st other is = by (is_stopped_by from t given st) refl
  where
    by : (b : Bool) → is_stopped_by from t given st ≡ b → home_of (fold coordinator_after st (if b then in_turn coordinator_after (λ st. told (fact.Deallocated t) ∷ []) (allocate t) st else [])) s ≡ Some h
    by false e = is
    by true e =
        let apart : (t == s) ≡ false = not_so (t == s) (λ same. true_is_not_false (sym (both (t == s) (is_stopped_by from t given st) same e) ∙ other)) in
        allocate_stays s t h (coordinator_after st (told (fact.Deallocated t))) apart (told_stays s h st (fact.Deallocated t) apart is)

-- Packets.

packet_stays : (s : ℕ) (h : Incarnation) (from : Incarnation) (b : Body) (view : List Incarnation) (st : Coordinator) → is_stop_of s from b st ≡ false → home_of st s ≡ Some h → home_of (fold coordinator_after st (coordinate from b view st)) s ≡ Some h
packet_stays s h from body.Register view st other is = registers_stay s h from view st is
packet_stays s h from (body.GetShardHome t) view st other is = gets_stay s h from t st is
packet_stays s h from (body.ShardStarted t) view st other is = free_stays s h st (shard_started from t st) ((coordinator_is_free st).starts from t) is
packet_stays s h from body.GracefulShutdownReq view st other is = free_stays s h st (quit from st) ((coordinator_is_free st).quits from) is
packet_stays s h from (body.BeginHandOffAck t given) view st other is = free_stays s h st (acknowledge from t given st) ((coordinator_is_free st).acknowledges from t given) is
packet_stays s h from (body.ShardStopped t given) view st other is = stops_stay s h from t given st other is
packet_stays s h from b view st other is = is

pub packets_keep : PacketsKeep
packets_keep s from b view st other = if_some s st.entries (fold coordinator_after st (coordinate from b view st)).entries (λ h. packet_stays s h from b view st other)

-- Views.

-- none of these regions is h
abbrev are_others : Incarnation → List Incarnation → Bool
are_others h rs = list_all (λ r. not (is_same r h)) rs

lost_others : (h : Incarnation) (view rs : List Incarnation) → is_among h view ≡ true → are_others h (filter (λ r. not (is_among r view)) rs) ≡ true
lost_others h view [] seen = refl
lost_others h view (r ∷ rs) seen = by (is_among r view) refl (lost_others h view rs seen)
  where
    by : (b : Bool) → is_among r view ≡ b → are_others h (filter (λ r. not (is_among r view)) rs) ≡ true → are_others h (cond (not b) (r ∷ filter (λ r. not (is_among r view)) rs) (filter (λ r. not (is_among r view)) rs)) ≡ true
    by true e rest = rest
    by false e rest = both (not (is_same r h)) (are_others h (filter (λ r. not (is_among r view)) rs))
        (ap not (not_so (is_same r h) (λ same. true_is_not_false (sym seen ∙ (ap (λ x. is_among x view) (sym (same_is r h same)) ∙ e))))) rest

each_stays : (s : ℕ) (h : Incarnation) (rs : List Incarnation) (st : Coordinator) → are_others h rs ≡ true → home_of st s ≡ Some h → home_of (fold coordinator_after st (for_each coordinator_after terminate rs st)) s ≡ Some h
each_stays s h [] st others is = is
each_stays s h (r ∷ rs) st others is =
    let k : (not (is_same r h) ≡ true) × (are_others h rs ≡ true) = and_both (not (is_same r h)) (are_others h rs) others in
    ap (λ (x : Coordinator). home_of x s) (fold-append coordinator_after st (terminate r st) (for_each coordinator_after terminate rs (fold coordinator_after st (terminate r st))))
    ∙ each_stays s h rs (fold coordinator_after st (terminate r st)) k.1
    (ap (λ (x : Coordinator). home_of x s) (terminated_state r st) ∙ told_stays s h st (fact.Terminated r) (of_not (is_same r h) k.0) is)

pub views_keep : ViewsKeep
views_keep s view st = by (home_of st s) refl
  where
    by : (o : Option Incarnation) → home_of st s ≡ o → IfSome o (λ h. is_among h view ≡ true → home_of (fold coordinator_after st (terminate_lost view st)) s ≡ Some h)
    by None e = tt
    by (Some h) e = λ seen. each_stays s h (filter (λ r. not (is_among r view)) (registered st)) st (lost_others h view (registered st) seen) e

-- What begins by itself.

pub ticks_keep : TicksKeep
ticks_keep s st = free_keeps s st (tick_coordinator st) (coordinator_is_free st).ticks

pub rebalances_keep : RebalancesKeep
rebalances_keep s limit st = free_keeps s st (rebalance limit st) ((coordinator_is_free st).rebalances limit)

-- As the state after is known by its value.

pub handled : (from : Incarnation) (b : Body) (view : List Incarnation) (st : Coordinator) {new : Coordinator} → new ≡ fold coordinator_after st (coordinate from b view st) → (s : ℕ) → is_stop_of s from b st ≡ false → KeepsHome s st new
handled from b view st {new} is s other = subst (KeepsHome s st) (sym is) (packets_keep s from b view st other)

pub lost : (view : List Incarnation) (st : Coordinator) {new : Coordinator} → new ≡ fold coordinator_after st (terminate_lost view st) → (s : ℕ) → KeepsViewed view s st new
lost view st {new} is s = subst (KeepsViewed view s st) (sym is) (views_keep s view st)
