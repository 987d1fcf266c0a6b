-- HostShard and ShardHome: the node learns that it is the home of a shard, starts it, and releases what it kept.
use Rattle.std.proofs.Common.{◌≡◌, ◌<◌, ◌≤◌, ◌⊎◌, inl, inr, ℕ, zero, suc, ◌+◌, List, [], ◌∷◌, ◌++◌, length, map, sym, ap, subst, ◌∙◌, refl, true, false, true≢false, arith}
use Rattle.std.specs.Prelude.{Bool, ◌==◌, ◌||◌, ◌&&◌, not, nat_lt, fold, Option, Some, None, is_none, slice_index_or, slice_set, if◌then◌else◌}
use Rattle.std.specs.List.{list_any}
use Rattle.std.proofs.lemmas.List.{length-set, get_or-set_same, get_or-set_other}
use Rattle.yard_model.specs.declared.fact.Fact.{Fact}
use Rattle.yard_model.specs.declared.fact.Fact.TheVariants as fact
use Rattle.yard_model.specs.declared.incarnation.Incarnation.{Incarnation}
use Rattle.yard_model.specs.declared.input.Phase.{Phase}
use Rattle.yard_model.specs.declared.input.Phase.TheVariants as phase
use Rattle.yard_model.specs.Entities as entities
use Rattle.yard_model.specs.Entities.{Cell, Hosted, cell_in, cell_after, is_phase, new_cell, phase_by_post, reach_by_post, entered, entries_in}
use Rattle.yard_model.specs.Move.{told}
use Rattle.yard_model.specs.Node.{Node, Act, by_entities, after}
use Rattle.yard_model.specs.Setting.{shard_of}
use Rattle.yard_model.specs.SlotLists.{shard_list}
use Rattle.yard_model.specs.SlotReads.{holder, journal, journal_step, position}
use Rattle.yard_model.specs.Words.{at}
use Rattle.plain_laws.proofs.Booleans.{and_both, both, same_name, same_number, number_itself, at_most, below, not_below}
use Rattle.plain_laws.proofs.Lists.{by_place}
use Rattle.settle_laws.specs.Alone.{Base, Alone, node_with, entities_at, is_home_at, recorded, is_live, runs, is_asking, Stands, load, Goes}
use Rattle.settle_laws.proofs.Records.{le_itself}
use Rattle.settle_laws.proofs.Tools.{goes_also}
use Rattle.yard_model.specs.Words.{is_at}
use Rattle.yard_model.specs.Region as region
use Rattle.yard_model.specs.Region.{Region, kept_of, home}
use Rattle.yard_model.specs.Entities.{is_running_in}
use Rattle.yard_model.specs.Node.{by_region}
use Rattle.plain_laws.proofs.Members.{itself_is}
use Rattle.settle_laws.proofs.Tools.{table_all}
use Rattle.std.specs.List.{fold}
use Rattle.std.proofs.lemmas.List.Sums.{fold-append}
use Rattle.plain_laws.proofs.Lists.{inside, placed_at, placed_beside}
use Rattle.yard_model.specs.Turns.{in_turn}
use Rattle.yard_model.specs.Entities.{Entities, entities_after, is_in_phase}
use Rattle.yard_model.specs.Region.{no_stamp}
use Rattle.yard_model.specs.Words.{is_below}
use Rattle.settle_laws.specs.Alone.{stamp_at, list_in}
use Rattle.settle_laws.proofs.Push.{goes_saved}
use Rattle.yard_model.specs.declared.incarnation.Slot.TheVariants as slot
use Rattle.yard_model.specs.SlotLists.{SlotLists}
use Rattle.yard_model.specs.SlotReads.{epoch}
use Rattle.yard_model.specs.Move.{took, marked}
use Rattle.yard_model.specs.Node.{start, acquire_by, of_region, of_entities}
use Rattle.plain_laws.proofs.Booleans.{of_not}
use Rattle.settle_laws.proofs.Recover.{Learns, learned, learned_stands, learned_more, learned_goes}
use Rattle.yard_model.specs.Entities.{is_hosted}
use Rattle.yard_model.specs.Node.{acquire}
use Rattle.yard_model.specs.SlotReads.{holder}
use Rattle.settle_laws.proofs.Starts.{Starts, start_remembered_goes}

pub set_outside : {A : Type 0} (v d : A) (ys : List A) (k : ℕ) → length ys ≤ k → slice_index_or (slice_set ys k v) k d ≡ slice_index_or ys k d
set_outside v d [] zero h = refl
set_outside v d [] (suc k) h = refl
set_outside v d (y ∷ ys) zero h = absurd (none (length ys) h)
  where
    none : (n : ℕ) → suc n ≤ 0 → ⊥
    none n h = omega (arith, h)
set_outside v d (y ∷ ys) (suc k) h = set_outside v d ys k (less (length ys) k h)
  where
    less : (n m : ℕ) → suc n ≤ suc m → n ≤ m
    less n m h = omega (arith, h)

-- a table that is set reads as before, or as it was set
pub set_either : {A : Type 0} (xs : List A) (i : ℕ) (v d : A) (j : ℕ) → (slice_index_or (slice_set xs i v) j d ≡ v) ⊎ (slice_index_or (slice_set xs i v) j d ≡ slice_index_or xs j d)
set_either xs i v d j = by_place ((slice_index_or (slice_set xs i v) j d ≡ v) ⊎ (slice_index_or (slice_set xs i v) j d ≡ slice_index_or xs j d)) j i
    (λ same. subst (λ k. (slice_index_or (slice_set xs i v) k d ≡ v) ⊎ (slice_index_or (slice_set xs i v) k d ≡ slice_index_or xs k d)) (sym same) (inside (nat_lt i (length xs)) refl))
    (λ other. inr (get_or-set_other xs i j v d other))
  where
    inside : (t : Bool) → nat_lt i (length xs) ≡ t → (slice_index_or (slice_set xs i v) i d ≡ v) ⊎ (slice_index_or (slice_set xs i v) i d ≡ slice_index_or xs i d)
    inside true e = inl (get_or-set_same xs i v d (Rattle.plain_laws.proofs.Booleans.below i (length xs) e))
    inside false e = inr (set_outside v d xs i (not_below i (length xs) e))

pub below_itself : (b : Base) → is_below (stamp_at b) (stamp_at b) ≡ false
below_itself b = by (nat_lt b.lease b.lease) (b.lease == b.lease) (itself b.lease)
  where
    itself : (n : ℕ) → nat_lt n n ≡ false
    itself n = grind arith

    by : (x y : Bool) → x ≡ false → (x || (y && false)) ≡ false
    by true y h = h
    by false true h = refl
    by false false h = refl

-- what is learned of a shard
pub record Learned (b : Base) (z : Alone) (s : ℕ) (to : Alone) : Type 0 where
  pub home_is : is_home_at b to.homes s ≡ true
  pub producers_are : to.producers ≡ z.producers
  pub asked_on : (t : ℕ) → slice_index_or z.asked t false ≡ true → (is_home_at b to.homes t ≡ true) ⊎ (slice_index_or to.asked t false ≡ true)

pub marks_learned : (b : Base) (later : ℕ → List ℕ → Type 0) (z : Alone) (s : ℕ) → Stands b later z → (t : ℕ) → is_below (stamp_at b) (slice_index_or (slice_set z.marks s (stamp_at b)) t no_stamp) ≡ false
marks_learned b later z s i t = by (set_either z.marks s (stamp_at b) no_stamp t)
  where
    by : (slice_index_or (slice_set z.marks s (stamp_at b)) t no_stamp ≡ stamp_at b) ⊎ (slice_index_or (slice_set z.marks s (stamp_at b)) t no_stamp ≡ slice_index_or z.marks t no_stamp) → is_below (stamp_at b) (slice_index_or (slice_set z.marks s (stamp_at b)) t no_stamp) ≡ false
    by (inl e) = ap (is_below (stamp_at b)) e ∙ below_itself b
    by (inr e) = ap (is_below (stamp_at b)) e ∙ i.marks t

-- asked is no where it was learned
pub asked_learned : (b : Base) (z : Alone) (homes : List (Option Incarnation)) (s : ℕ) → is_home_at b homes s ≡ true → ((t : ℕ) → slice_index_or z.asked t false ≡ true → (is_home_at b homes t ≡ true) ⊎ (slice_index_or (slice_set z.asked s false) t false ≡ true))
asked_learned b z homes s home t h = by_place ((is_home_at b homes t ≡ true) ⊎ (slice_index_or (slice_set z.asked s false) t false ≡ true)) t s
    (λ same. inl (subst (λ k. is_home_at b homes k ≡ true) (sym same) home))
    (λ other. inr (get_or-set_other z.asked s t false false other ∙ h))

pub asking_learned : (b : Base) (later : ℕ → List ℕ → Type 0) (z : Alone) (homes : List (Option Incarnation)) (s : ℕ) → Stands b later z → ((t : ℕ) → is_home_at b z.homes t ≡ true → is_home_at b homes t ≡ true)
    → (t : ℕ) → slice_index_or (slice_set z.asked s false) t false ≡ true → (is_home_at b homes t ≡ true) ⊎ (list_any (is_asking t) z.wire ≡ true)
asking_learned b later z homes s i on t h = by (set_either z.asked s false false t)
  where
    still : (is_home_at b z.homes t ≡ true) ⊎ (list_any (is_asking t) z.wire ≡ true) → (is_home_at b homes t ≡ true) ⊎ (list_any (is_asking t) z.wire ≡ true)
    still (inl k) = inl (on t k)
    still (inr k) = inr k

    by : (slice_index_or (slice_set z.asked s false) t false ≡ false) ⊎ (slice_index_or (slice_set z.asked s false) t false ≡ slice_index_or z.asked t false) → (is_home_at b homes t ≡ true) ⊎ (list_any (is_asking t) z.wire ≡ true)
    by (inl e) = absurd (true≢false (sym h ∙ e))
    by (inr e) = still (i.asking t (sym e ∙ h))

-- the shard's home is this node from now on, and these are hosted
pub home_learns : (b : Base) (later : ℕ → List ℕ → Type 0) (z : Alone) (s : ℕ) (hosted : List (Option Hosted)) → Stands b later z → s < b.set.config.shards → length hosted ≡ b.set.config.shards → ((t : ℕ) → runs (at hosted t) ≡ true)
    → ((t : ℕ) → at hosted t ≡ None → at z.hosted t ≡ None) → is_none (at hosted s) ≡ false → ((q : ℕ) (f : List ℕ) → recorded b hosted q f ≡ recorded b z.hosted q f)
    → Learns b z (slice_set z.homes s (Some b.who)) (slice_set z.marks s (stamp_at b)) (slice_set z.asked s false) hosted
home_learns b later z s hosted i less full running nones there recorded_are = record {
  homes_full = length-set z.homes s (Some b.who) ∙ i.homes_there;
  asked_full = length-set z.asked s false ∙ i.asked_there;
  hosted_full = full;
  own_homes = table_all (λ t o. (x : Incarnation) → o ≡ Some x → x ≡ b.who) z.homes s (Some b.who) None inside_homes (λ x e. sym (Rattle.plain_laws.proofs.Lists.some_is b.who x e)) i.homes;
  own_marks = marks_learned b later z s i;
  running = running;
  free = λ t h. i.free t (nones t h);
  hosts = table_all (λ t o. is_at b.who o ≡ true → is_none (at hosted t) ≡ false) z.homes s (Some b.who) None inside_homes (λ h. there) (λ t h. some_still t (i.hosts t h));
  asking = asking_learned b later z (slice_set z.homes s (Some b.who)) s i homes_on;
  homes_on = homes_on;
  hosted_on = some_still;
  recorded_are = recorded_are;
}
  where
    inside_homes : s < length z.homes
    inside_homes = subst (λ n. s < n) (sym i.homes_there) less

    homes_on : (t : ℕ) → is_home_at b z.homes t ≡ true → is_home_at b (slice_set z.homes s (Some b.who)) t ≡ true
    homes_on = table_all (λ t o. is_home_at b z.homes t ≡ true → is_at b.who o ≡ true) z.homes s (Some b.who) None inside_homes (λ h. itself_is b.who b.who refl) (λ t h. h)

    some_still : (t : ℕ) → is_none (at z.hosted t) ≡ false → is_none (at hosted t) ≡ false
    some_still t h = by (at hosted t) refl
      where
        by : (o : Option Hosted) → at hosted t ≡ o → is_none o ≡ false
        by None e = absurd (true≢false (sym (ap is_none (nones t e)) ∙ h))
        by (Some x) e = refl

pub home_set : (b : Base) (later : ℕ → List ℕ → Type 0) (z : Alone) (s : ℕ) → Stands b later z → s < b.set.config.shards → is_home_at b (slice_set z.homes s (Some b.who)) s ≡ true
home_set b later z s i less = ap (is_at b.who) (get_or-set_same z.homes s (Some b.who) None (subst (λ n. s < n) (sym i.homes_there) less)) ∙ itself_is b.who b.who refl

abbrev pub learn_acts : Base → ℕ → Bool → List Act
learn_acts b s known = map by_region (marked s (stamp_at b) ∷ (if known then [] else told (fact.Home b.who s b.who) ∷ []))

abbrev pub start_after : Base → Alone → SlotLists → ℕ → Bool → List Act
start_after b z lists s known = let made : List Act = learn_acts b s known in made ++ start lists s (fold after (node_with b z) made)

pub learn_start_goes : (b : Base) (later : ℕ → List ℕ → Type 0) (z : Alone) (lists : SlotLists) (s : ℕ) → Stands b later z → s < b.set.config.shards → (is_none (at z.hosted s) ≡ true → shard_list lists s ≡ shard_list b.lists s)
    → Goes b later 0 (Learned b z s) z (in_turn after (of_region (region.learn s b.who (stamp_at b))) (start lists s) (node_with b z))
learn_start_goes b later z lists s i less agree = by (is_home_at b z.homes s) refl
  where
    at_home : is_home_at b z.homes s ≡ true → Goes b later 0 (Learned b z s) z (start_after b z lists s true)
    at_home home = subst (λ t. Goes b later 0 (Learned b z s) z (by_region (marked s (stamp_at b)) ∷ (if not t then [] else in_turn after (λ st. map by_entities (acquire (slot.Shard s) st.who (shard_list lists s))) (of_entities (entities.start_remembered s)) (node_with b (learned z z.homes (slice_set z.marks s (stamp_at b)) (slice_set z.asked s false) z.hosted))))) (sym (i.hosts s home))
        (goes_also b later 0 0 (λ to. to ≡ now) (Learned b z s) z (by_region (marked s (stamp_at b)) ∷ []) (le_itself 0)
        (λ to t more same. subst (Learned b z s) (sym same) (record { home_is = home; producers_are = refl; asked_on = asked_learned b z z.homes s home }))
        (learned_goes b later z z.homes (slice_set z.marks s (stamp_at b)) (slice_set z.asked s false) z.hosted (by_region (marked s (stamp_at b)) ∷ []) i learns refl refl refl))
      where
        now : Alone
        now = learned z z.homes (slice_set z.marks s (stamp_at b)) (slice_set z.asked s false) z.hosted

        learns : Learns b z z.homes (slice_set z.marks s (stamp_at b)) (slice_set z.asked s false) z.hosted
        learns = record {
          homes_full = i.homes_there;
          asked_full = length-set z.asked s false ∙ i.asked_there;
          hosted_full = i.hosted_there;
          own_homes = i.homes;
          own_marks = marks_learned b later z s i;
          running = i.running;
          free = i.free;
          hosts = i.hosts;
          asking = asking_learned b later z z.homes s i (λ t h. h);
          homes_on = λ t h. h;
          hosted_on = λ t h. h;
          recorded_are = λ q f. refl;
        }

    new_home : is_home_at b z.homes s ≡ false → Goes b later 0 (Learned b z s) z (start_after b z lists s false)
    new_home away = hosted_by (at z.hosted s) refl
      where
        homes : List (Option Incarnation)
        homes = slice_set z.homes s (Some b.who)

        two : List Act
        two = by_region (marked s (stamp_at b)) ∷ by_region (told (fact.Home b.who s b.who)) ∷ []

        is_new : (now : Alone) → now.homes ≡ homes → now.producers ≡ z.producers → now.asked ≡ slice_set z.asked s false → Learned b z s now
        is_new now h p a = record {
          home_is = ap (λ l. is_home_at b l s) h ∙ home_set b later z s i less;
          producers_are = p;
          asked_on = subst (λ l. (t : ℕ) → slice_index_or z.asked t false ≡ true → (is_home_at b now.homes t ≡ true) ⊎ (slice_index_or l t false ≡ true)) (sym a) (asked_learned b z now.homes s (ap (λ l. is_home_at b l s) h ∙ home_set b later z s i less));
        }

        hosted_by : (o : Option Hosted) → at z.hosted s ≡ o → Goes b later 0 (Learned b z s) z (start_after b z lists s false)
        hosted_by (Some h) e = subst (λ t. Goes b later 0 (Learned b z s) z (by_region (marked s (stamp_at b)) ∷ by_region (told (fact.Home b.who s b.who)) ∷ (if not t then [] else in_turn after (λ st. map by_entities (acquire (slot.Shard s) st.who (shard_list lists s))) (of_entities (entities.start_remembered s)) (node_with b (learned z homes (slice_set z.marks s (stamp_at b)) (slice_set z.asked s false) z.hosted))))) (sym (ap is_none e))
            (goes_also b later 0 0 (λ to. to ≡ now) (Learned b z s) z two (le_itself 0) (λ to t more same. subst (Learned b z s) (sym same) (is_new now refl refl refl))
            (learned_goes b later z homes (slice_set z.marks s (stamp_at b)) (slice_set z.asked s false) z.hosted two i (home_learns b later z s z.hosted i less i.hosted_there i.running (λ t k. k) (ap is_none e) (λ q f. refl)) refl refl refl))
          where
            now : Alone
            now = learned z homes (slice_set z.marks s (stamp_at b)) (slice_set z.asked s false) z.hosted
        hosted_by None e = subst (λ t. Goes b later 0 (Learned b z s) z (by_region (marked s (stamp_at b)) ∷ by_region (told (fact.Home b.who s b.who)) ∷ (if not t then [] else in_turn after (λ st. map by_entities (acquire (slot.Shard s) st.who (shard_list lists s))) (of_entities (entities.start_remembered s)) mid))) (sym (ap is_none e))
            (subst (λ l. Goes b later 0 (Learned b z s) z (by_region (marked s (stamp_at b)) ∷ by_region (told (fact.Home b.who s b.who)) ∷ in_turn after (λ st. map by_entities (acquire_by (slot.Shard s) st.who l (holder l))) (of_entities (entities.start_remembered s)) mid)) (sym (agree (ap is_none e)))
            (subst (λ o. Goes b later 0 (Learned b z s) z (by_region (marked s (stamp_at b)) ∷ by_region (told (fact.Home b.who s b.who)) ∷ in_turn after (λ st. map by_entities (acquire_by (slot.Shard s) st.who list o)) (of_entities (entities.start_remembered s)) mid)) (sym (i.free s e))
            (goes_saved b later 0 0 (Learned b z s) z now four (map by_entities (entities.start_remembered s (entities_at b now))) refl refl (learned_more b z homes (slice_set z.marks s (stamp_at b)) (slice_set z.asked s false) hosted learns) (le_itself (load b z + 0)) (both _ _ (ap (λ o. not (is_none o)) (get_or-set_same z.hosted s (Some taken) None inside_hosted)) refl)
            (goes_also b later 0 0 (Starts now) (Learned b z s) now _ (le_itself 0)
            (λ to t more x. is_new to x.homes_are x.producers_are x.asked_are)
            (start_remembered_goes b later now s (learned_stands b later z homes (slice_set z.marks s (stamp_at b)) (slice_set z.asked s false) hosted i learns) (home_set b later z s i less) absent)))))
          where
            mid : Node
            mid = node_with b (learned z homes (slice_set z.marks s (stamp_at b)) (slice_set z.asked s false) z.hosted)

            list : List Fact
            list = shard_list b.lists s

            grant : Fact
            grant = fact.Granted (slot.Shard s) (epoch list + 1) b.who

            taken : Hosted
            taken = record { entries = list ++ grant ∷ []; stopping = None }

            hosted : List (Option Hosted)
            hosted = slice_set z.hosted s (Some taken)

            now : Alone
            now = learned z homes (slice_set z.marks s (stamp_at b)) (slice_set z.asked s false) hosted

            four : List Act
            four = by_region (marked s (stamp_at b)) ∷ by_region (told (fact.Home b.who s b.who)) ∷ by_entities (told grant) ∷ by_entities (took (slot.Shard s) (list ++ grant ∷ [])) ∷ []

            inside_hosted : s < length z.hosted
            inside_hosted = subst (λ n. s < n) (sym i.hosted_there) less

            recorded_are : (q : ℕ) (f : List ℕ) → recorded b hosted q f ≡ recorded b z.hosted q f
            recorded_are q f = by_place (recorded b hosted q f ≡ recorded b z.hosted q f) (shard_of b.set f) s
                (λ same. subst (λ t. position q (journal f (list_in (shard_list b.lists t) (at hosted t))) ≡ position q (journal f (list_in (shard_list b.lists t) (at z.hosted t)))) (sym same)
                (ap (λ o. position q (journal f (list_in list o))) (get_or-set_same z.hosted s (Some taken) None inside_hosted)
                ∙ (ap (position q) (fold-append (journal_step f) [] list (grant ∷ [])) ∙ sym (ap (λ o. position q (journal f (list_in list o))) e))))
                (λ other. ap (λ o. position q (journal f (list_in (shard_list b.lists (shard_of b.set f)) o))) (get_or-set_other z.hosted s (shard_of b.set f) (Some taken) None other))

            nones : (t : ℕ) → at hosted t ≡ None → at z.hosted t ≡ None
            nones = table_all (λ t o. o ≡ None → at z.hosted t ≡ None) z.hosted s (Some taken) None inside_hosted (λ k. e) (λ t k. k)

            learns : Learns b z homes (slice_set z.marks s (stamp_at b)) (slice_set z.asked s false) hosted
            learns = home_learns b later z s hosted i less (length-set z.hosted s (Some taken) ∙ i.hosted_there) (table_all (λ t o. runs o ≡ true) z.hosted s (Some taken) None inside_hosted refl i.running) nones
                (ap is_none (get_or-set_same z.hosted s (Some taken) None inside_hosted)) recorded_are

            absent : (f : List ℕ) → shard_of b.set f ≡ s → (cell_in b.set z.cells f).phase ≡ phase.Absent
            absent f of_s = dead (cell_in b.set z.cells f).phase (λ h. true≢false (sym (i.live f h) ∙ (ap (is_home_at b z.homes) of_s ∙ away)))
              where
                dead : (p : Phase) → (is_live p ≡ true → ⊥) → p ≡ phase.Absent
                dead phase.Absent h = refl
                dead phase.Loading h = absurd (h refl)
                dead phase.Active h = absurd (h refl)
                dead phase.Stopping h = absurd (h refl)

    by : (t : Bool) → is_home_at b z.homes s ≡ t → Goes b later 0 (Learned b z s) z (start_after b z lists s (is_home_at b z.homes s))
    by true e = subst (λ t. Goes b later 0 (Learned b z s) z (start_after b z lists s t)) (sym e) (at_home e)
    by false e = subst (λ t. Goes b later 0 (Learned b z s) z (start_after b z lists s t)) (sym e) (new_home e)
