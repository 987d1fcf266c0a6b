-- The lists for another number of shards are lawful.
use Rattle.std.proofs.Common.{◌≡◌, ◌<◌, ◌≤◌, ℕ, zero, suc, ◌+◌, sym, ap, ◌∙◌, refl, subst, arith}
use Rattle.std.specs.Prelude.{Bool, true, false, ◌==◌, ◌&&◌, ◌||◌, not, cond, nat_lt, nat_le, List, [], ◌∷◌, ◌++◌, length, filter, fold, is_some, is_none}
use Rattle.std.specs.List.{list_any, list_all, flat_map}
use Rattle.std.proofs.lemmas.List.{append-nil, append_assoc, get_or_past, length-map}
use Rattle.std.proofs.lemmas.List.Sums.{fold-append, fold_push}
use Rattle.std.proofs.lemmas.List.Folds.{list_all-append}
use Rattle.std.proofs.lemmas.List.Elements.{filter-append}
use Rattle.yard_model.specs.declared.fact.Fact.{Fact}
use Rattle.yard_model.specs.declared.fact.Fact.TheVariants as fact
use Rattle.yard_model.specs.declared.packet.Record.{Record}
use Rattle.yard_model.specs.declared.incarnation.Slot.{Slot}
use Rattle.yard_model.specs.declared.incarnation.Slot.TheVariants as slot
use Rattle.yard_model.specs.Script.{Script, Setting, setting, with_shards, is_name, is_config, names_in}
use Rattle.yard_model.specs.Setting.{shard_of, names_of, set_shards}
use Rattle.yard_model.specs.Shard.{shard}
use Rattle.yard_model.specs.Words.{numbers, is_among}
use Rattle.yard_model.specs.Genuine.{is_brought, is_producer, is_shard}
use Rattle.yard_model.specs.Behaviour.{is_in}
use Rattle.yard_model.specs.Follow.{each_follows}
use Rattle.yard_model.specs.SlotLists.{SlotLists, shard_list}
use Rattle.yard_model.specs.SlotReads.{holder, holder_step, epoch, epoch_step, journal, journal_step, last_snapshot, snapshot_step, is_remembered, remembered_step, regions, allocation}
use Rattle.yard_model.specs.Opening.{begins, Parts, parts_of}
use Rattle.yard_model.specs.Lawful.{own, lawful, is_held, is_leased, is_of_shard, is_folded_after, is_merged_after, is_shard_entry, may_follow, may_be_brought, may_be_before, may_open, is_opening, has_place, is_recorded, confirmed_there}
use Rattle.yard_model.specs.Era.{is_of_name, entries_of, base, reshaped}
use Rattle.yard_model.proofs.FollowLaws.{follows_more, follows_within, parts_more, parts_whole}
use Rattle.plain_laws.specs.Names.{AllDiffer}
use Rattle.plain_laws.proofs.Booleans.{true_is_not_false, and_both, both, of_not, not_of, same_number, number_itself, same_name, below, not_below, at_most, within, is_below, all_map}
use Rattle.plain_laws.proofs.Names.{left_differ}
use Rattle.yard_laws.specs.Guarded.{Owns}
use Rattle.yard_laws.proofs.Follows.{follows_to}
use Rattle.yard_laws.proofs.Owned.{own_to, shard_to}
use Rattle.yard_laws.proofs.Live.{holder_more}
use Rattle.yard_laws.proofs.SafetyLaws.{owns_of, lawful_of}
use Rattle.era_laws.specs.Reshapes.{ReshapedIsLawful}
use Rattle.era_laws.proofs.ShapeLaws.{Reads, journal_reads, none_of, none_same, of_name_same, others_none, names_differ, reshaped_list, reshaped_keeps_journals}

-- The epochs of a shard's records are from 1 to that of its list.

abbrev is_up_to : ℕ → Fact → Bool
is_up_to k (fact.Wrote e r) = is_in 1 k r.epoch
is_up_to k f = true

record Dated (list : List Fact) : Type 0 where
  pub all : list_all (is_up_to (epoch list)) list ≡ true
  pub held : is_held list ≡ true → 0 < epoch list

epoch_more : (list : List Fact) (f : Fact) → epoch (list ++ f ∷ []) ≡ epoch_step (epoch list) f
epoch_more list f = fold_push epoch_step 0 list f

one_more : {X : Type 0} (p : X → Bool) (xs : List X) (x : X) → list_all p xs ≡ true → p x ≡ true → list_all p (xs ++ x ∷ []) ≡ true
one_more p xs x e f = list_all-append p xs (x ∷ []) ∙ both (list_all p xs) (p x && true) e (both (p x) true f refl)

up_more : (j k : ℕ) (f : Fact) → j ≤ k → is_up_to j f ≡ true → is_up_to k f ≡ true
up_more j k (fact.Wrote e r) less h =
    let m : (nat_le 1 r.epoch ≡ true) × (nat_le r.epoch j ≡ true) = and_both (nat_le 1 r.epoch) (nat_le r.epoch j) h in
    let high : r.epoch ≤ j = at_most r.epoch j m.1 in
    both (nat_le 1 r.epoch) (nat_le r.epoch k) m.0 (within r.epoch k (omega arith))
up_more j k f less h = refl

all_up_more : (j k : ℕ) (list : List Fact) → j ≤ k → list_all (is_up_to j) list ≡ true → list_all (is_up_to k) list ≡ true
all_up_more j k list less h = all_map (is_up_to j) (is_up_to k) (λ f e. up_more j k f less e) list h

-- an entry that changes neither epoch nor holder
dated_same : (list : List Fact) (f : Fact) → epoch_step (epoch list) f ≡ epoch list → holder_step (holder list) f ≡ holder list → is_up_to (epoch list) f ≡ true → Dated list → Dated (list ++ f ∷ [])
dated_same list f same keeps up d =
    let now : epoch (list ++ f ∷ []) ≡ epoch list = epoch_more list f ∙ same in
    record {
      all = ap (λ k. list_all (is_up_to k) (list ++ f ∷ [])) now ∙ one_more (is_up_to (epoch list)) list f d.all up;
      held = λ h. subst (λ k. 0 < k) (sym now) (d.held (sym (ap (λ o. is_some o) (holder_more list f ∙ keeps)) ∙ h));
    }

dated_step : (c : Script) (s : ℕ) (list : List Fact) (f : Fact) → Dated list → may_follow c (slot.Shard s) list f ≡ true → Dated (list ++ f ∷ [])
dated_step c s list (fact.Granted t n x) d m =
    let f : Fact = fact.Granted t n x in
    let leased : (not (is_held list) && (n == epoch list + 1)) ≡ true = (and_both (is_leased list f) (is_shard_entry c s list f) m).0 in
    let next : n ≡ epoch list + 1 = same_number n (epoch list + 1) (and_both (not (is_held list)) (n == epoch list + 1) leased).1 in
    let now : epoch (list ++ f ∷ []) ≡ n = epoch_more list f in
    record {
      all = ap (λ k. list_all (is_up_to k) (list ++ f ∷ [])) now ∙ one_more (is_up_to n) list f (all_up_more (epoch list) n list (omega arith) d.all) refl;
      held = λ h. omega arith;
    }
dated_step c s list (fact.Freed t n why) d m =
    let f : Fact = fact.Freed t n why in
    let now : epoch (list ++ f ∷ []) ≡ epoch list = epoch_more list f in
    record {
      all = ap (λ k. list_all (is_up_to k) (list ++ f ∷ [])) now ∙ one_more (is_up_to (epoch list)) list f d.all refl;
      held = λ h. absurd (true_is_not_false (sym h ∙ ap (λ o. is_some o) (holder_more list f)));
    }
dated_step c s list (fact.Wrote e r) d m =
    let f : Fact = fact.Wrote e r in
    let leased : (is_held list && (r.epoch == epoch list)) ≡ true = (and_both (is_leased list f) (is_shard_entry c s list f) m).0 in
    let parts : (is_held list ≡ true) × ((r.epoch == epoch list) ≡ true) = and_both (is_held list) (r.epoch == epoch list) leased in
    let above : 0 < epoch list = d.held parts.0 in
    let same : r.epoch ≡ epoch list = same_number r.epoch (epoch list) parts.1 in
    dated_same list f refl refl (both (nat_le 1 r.epoch) (nat_le r.epoch (epoch list)) (within 1 r.epoch (omega arith)) (within r.epoch (epoch list) (omega arith))) d
dated_step c s list (fact.Resharded t n j) d m = absurd (true_is_not_false (sym (and_both (is_held list) false m).1))
dated_step c s list f d m = dated_same list f refl refl refl d

-- before the first grant
abbrev Unheld : ℕ → List Fact → Type 0
Unheld k list = (list_all (is_up_to k) list ≡ true) × (is_held list ≡ false)

opened_step : (c : Script) (s k : ℕ) (list : List Fact) (f : Fact) → Unheld k list → may_be_brought c s k list f ≡ true → Unheld k (list ++ f ∷ [])
opened_step c s k list f h m = (one_more (is_up_to k) list f h.0 (up f m), ap (λ o. is_some o) (holder_more list f ∙ keeps f m) ∙ h.1)
  where
    up : (f : Fact) → may_be_brought c s k list f ≡ true → is_up_to k f ≡ true
    up (fact.Wrote e r) m = (and_both (is_in 1 k r.epoch) (is_shard_entry c s list (fact.Wrote e r)) m).0
    up f m = refl

    keeps : (f : Fact) → may_be_brought c s k list f ≡ true → holder_step (holder list) f ≡ holder list
    keeps (fact.Granted t n x) m = absurd (true_is_not_false (sym m))
    keeps (fact.Freed t n why) m = absurd (true_is_not_false (sym m))
    keeps f m = refl

dated : (c : Script) (s : ℕ) (list : List Fact) → own c (slot.Shard s) list ≡ true → Dated list
dated c s list o =
    let p : Parts = parts_of list in
    let k : ℕ = epoch p.opening in
    let may : List Fact → Fact → Bool = may_follow c (slot.Shard s) in
    let m : (is_opening c (slot.Shard s) p.opening ≡ true) × (each_follows may p.opening p.since ≡ true) = and_both (is_opening c (slot.Shard s) p.opening) (each_follows may p.opening p.since) o in
    let opened : Unheld k p.opening = follows_to (may_open c (slot.Shard s) k) (Unheld k) (λ l f h t. opened_step c s k l f h t) [] p.opening (refl, refl) m.0 in
    let first : Dated p.opening = record { all = opened.0; held = λ h. absurd (true_is_not_false (sym h ∙ opened.1)) } in
    subst Dated (parts_whole list) (follows_to may Dated (λ l f d t. dated_step c s l f d t) p.opening p.since first m.1)

-- The entries of a name may be brought where none of that name stands yet.

pub snapshot_reads : (e : List ℕ) → Reads e (snapshot_step e)
snapshot_reads e old (fact.Snapshot y n) m = ap (λ b. cond b n old) m
snapshot_reads e old f m = refl

pub remembered_reads : (e : List ℕ) → Reads e (remembered_step e)
remembered_reads e old (fact.Remembered y) m = ap (λ b. cond b true old) m
remembered_reads e old (fact.Forgotten y) m = ap (λ b. cond b false old) m
remembered_reads e old f m = refl

-- what two lists say of a name
record SaySame (e : List ℕ) (a b : List Fact) : Type 0 where
  pub journal_is : journal e a ≡ journal e b
  pub snapshot_is : last_snapshot e a ≡ last_snapshot e b
  pub remembered_is : is_remembered e a ≡ is_remembered e b

read_same : {B : Type 0} (e : List ℕ) (g : B → Fact → B) → Reads e g → (z : B) (before list : List Fact) → none_of e before ≡ true → fold g z (before ++ filter (is_of_name e) list) ≡ fold g z list
read_same e g reads z before list none =
    fold-append g z before (filter (is_of_name e) list)
    ∙ (ap (λ y. fold g y (filter (is_of_name e) list)) (none_same e g reads z before none)
    ∙ of_name_same e g reads z list)

say_same : (e : List ℕ) (before list : List Fact) → none_of e before ≡ true → SaySame e (before ++ filter (is_of_name e) list) list
say_same e before list none = record {
  journal_is = read_same e (journal_step e) (journal_reads e) [] before list none;
  snapshot_is = read_same e (snapshot_step e) (snapshot_reads e) 0 before list none;
  remembered_is = read_same e (remembered_step e) (remembered_reads e) false before list none;
}

-- of another shard, by another number of shards
of_new : (c : Script) (n s t : ℕ) (e : List ℕ) → (shard n e == s) ≡ true → is_of_shard c t e ≡ true → is_of_shard (with_shards n c) s e ≡ true
of_new c n s t e new m = both (is_brought c e) (shard n e == s) (and_both (is_brought c e) (shard_of (setting c) e == t) m).0 new

may_carry : (c : Script) (n s t k : ℕ) (x : List ℕ) (now list : List Fact) (f : Fact) → (shard n x == s) ≡ true → SaySame x now list → is_of_name x f ≡ true → is_up_to k f ≡ true
    → (begins f || is_shard_entry c t list f) ≡ true → may_be_brought (with_shards n c) s k now f ≡ true
may_carry c n s t k x now list (fact.Wrote y r) new same named up m =
    let y_is : x ≡ y = sym (same_name y x named) in
    let it : SaySame y now list = subst (λ z. SaySame z now list) y_is same in
    let new_y : (shard n y == s) ≡ true = subst (λ z. (shard n z == s) ≡ true) y_is new in
    let records : List Record = journal y list in
    let folded : Bool = is_folded_after c records r in
    let merged : Bool = is_merged_after c y records r in
    let a : ((is_of_shard c t y && is_producer c r.producer && folded) ≡ true) × (merged ≡ true) = and_both (is_of_shard c t y && is_producer c r.producer && folded) merged m in
    let b : ((is_of_shard c t y && is_producer c r.producer) ≡ true) × (folded ≡ true) = and_both (is_of_shard c t y && is_producer c r.producer) folded a.0 in
    let d : (is_of_shard c t y ≡ true) × (is_producer c r.producer ≡ true) = and_both (is_of_shard c t y) (is_producer c r.producer) b.0 in
    let of_it : Bool = is_of_shard (with_shards n c) s y in
    both (is_in 1 k r.epoch) (is_shard_entry (with_shards n c) s now (fact.Wrote y r)) up
    (ap (λ js. of_it && is_producer c r.producer && is_folded_after c js r && is_merged_after c y js r) it.journal_is
    ∙ both (of_it && is_producer c r.producer && folded) merged (both (of_it && is_producer c r.producer) folded (both of_it (is_producer c r.producer) (of_new c n s t y new_y d.0) d.1) b.1) a.1)
may_carry c n s t k x now list (fact.Snapshot y i) new same named up m =
    let y_is : x ≡ y = sym (same_name y x named) in
    let it : SaySame y now list = subst (λ z. SaySame z now list) y_is same in
    let new_y : (shard n y == s) ≡ true = subst (λ z. (shard n z == s) ≡ true) y_is new in
    let long : Bool = i == length (journal y list) in
    let rises : Bool = nat_lt (last_snapshot y list) i in
    let a : ((is_of_shard c t y && long) ≡ true) × (rises ≡ true) = and_both (is_of_shard c t y && long) rises m in
    let b : (is_of_shard c t y ≡ true) × (long ≡ true) = and_both (is_of_shard c t y) long a.0 in
    let of_it : Bool = is_of_shard (with_shards n c) s y in
    ap (λ js. of_it && (i == length js) && nat_lt (last_snapshot y now) i) it.journal_is
    ∙ (ap (λ j. of_it && long && nat_lt j i) it.snapshot_is
    ∙ both (of_it && long) rises (both of_it long (of_new c n s t y new_y b.0) b.1) a.1)
may_carry c n s t k x now list (fact.Remembered y) new same named up m =
    let y_is : x ≡ y = sym (same_name y x named) in
    let it : SaySame y now list = subst (λ z. SaySame z now list) y_is same in
    let new_y : (shard n y == s) ≡ true = subst (λ z. (shard n z == s) ≡ true) y_is new in
    let a : (is_of_shard c t y ≡ true) × (not (is_remembered y list) ≡ true) = and_both (is_of_shard c t y) (not (is_remembered y list)) m in
    both (is_of_shard (with_shards n c) s y) (not (is_remembered y now)) (of_new c n s t y new_y a.0) (ap not it.remembered_is ∙ a.1)
may_carry c n s t k x now list (fact.Forgotten y) new same named up m =
    let y_is : x ≡ y = sym (same_name y x named) in
    let it : SaySame y now list = subst (λ z. SaySame z now list) y_is same in
    let new_y : (shard n y == s) ≡ true = subst (λ z. (shard n z == s) ≡ true) y_is new in
    let a : (is_of_shard c t y ≡ true) × (is_remembered y list ≡ true) = and_both (is_of_shard c t y) (is_remembered y list) m in
    both (is_of_shard (with_shards n c) s y) (is_remembered y now) (of_new c n s t y new_y a.0) (it.remembered_is ∙ a.1)
may_carry c n s t k x now list f new same named up m = absurd (true_is_not_false (sym named))

-- the entries of one name, one after the other
carried : (c : Script) (n s t k : ℕ) (x : List ℕ) (before list : List Fact) → (shard n x == s) ≡ true → none_of x before ≡ true → own c (slot.Shard t) list ≡ true → list_all (is_up_to k) list ≡ true
    → each_follows (may_be_brought (with_shards n c) s k) before (filter (is_of_name x) list) ≡ true
carried c n s t k x before list new none o =
    shard_to c t (λ l. list_all (is_up_to k) l ≡ true → each_follows (may_be_brought (with_shards n c) s k) before (filter (is_of_name x) l) ≡ true) (λ up. refl)
    (λ l f h m up. ap (each_follows (may_be_brought (with_shards n c) s k) before) (filter-append (is_of_name x) l (f ∷ [])) ∙ step l f h m (and_both (list_all (is_up_to k) l) (is_up_to k f && true) (sym (list_all-append (is_up_to k) l (f ∷ [])) ∙ up)) (is_of_name x f) refl)
    list o
  where
    step : (l : List Fact) (f : Fact) → (list_all (is_up_to k) l ≡ true → each_follows (may_be_brought (with_shards n c) s k) before (filter (is_of_name x) l) ≡ true) → (begins f || is_shard_entry c t l f) ≡ true
        → (list_all (is_up_to k) l ≡ true) × ((is_up_to k f && true) ≡ true) → (b : Bool) → is_of_name x f ≡ b
        → each_follows (may_be_brought (with_shards n c) s k) before (filter (is_of_name x) l ++ cond b (f ∷ []) []) ≡ true
    step l f h m up true e =
        let q : List Fact → Fact → Bool = may_be_brought (with_shards n c) s k in
        let fs : List Fact = filter (is_of_name x) l in
        follows_more q before fs f
        ∙ both (each_follows q before fs) (q (before ++ fs) f) (h up.0) (may_carry c n s t k x (before ++ fs) l f new (say_same x before l none) e (and_both (is_up_to k f) true up.1).0 m)
    step l f h m up false e = ap (each_follows (may_be_brought (with_shards n c) s k) before) (append-nil (filter (is_of_name x) l)) ∙ h up.0

-- The entries of several names, one name after the other.

follows_join : {A : Type 0} (may : List A → A → Bool) (before xs ys : List A) → each_follows may before xs ≡ true → each_follows may (before ++ xs) ys ≡ true → each_follows may before (xs ++ ys) ≡ true
follows_join may before [] ys e f = subst (λ l. each_follows may l ys ≡ true) (append-nil before) f
follows_join may before (x ∷ xs) ys e f =
    let m : (may before x ≡ true) × (each_follows may (before ++ x ∷ []) xs ≡ true) = and_both (may before x) (each_follows may (before ++ x ∷ []) xs) e in
    both (may before x) (each_follows may (before ++ x ∷ []) (xs ++ ys)) m.0
    (follows_join may (before ++ x ∷ []) xs ys m.1 (subst (λ l. each_follows may l ys ≡ true) (sym (append_assoc before (x ∷ []) xs)) f))

-- of none of these names an entry stands there
abbrev are_new : List Fact → List (List ℕ) → Bool
are_new before names = list_all (λ x. none_of x before) names

new_still : (before : List Fact) (x : List ℕ) (list : List Fact) (names : List (List ℕ)) → list_all (λ y. not (is_name x y)) names ≡ true → are_new before names ≡ true → are_new (before ++ filter (is_of_name x) list) names ≡ true
new_still before x list [] d h = refl
new_still before x list (y ∷ ys) d h =
    let a : (not (is_name x y) ≡ true) × (list_all (λ y. not (is_name x y)) ys ≡ true) = and_both (not (is_name x y)) (list_all (λ y. not (is_name x y)) ys) d in
    let b : (none_of y before ≡ true) × (are_new before ys ≡ true) = and_both (none_of y before) (are_new before ys) h in
    both (none_of y (before ++ filter (is_of_name x) list)) (are_new (before ++ filter (is_of_name x) list) ys)
    (list_all-append (λ f. not (is_of_name y f)) before (filter (is_of_name x) list) ∙ both (none_of y before) (none_of y (filter (is_of_name x) list)) b.0 (others_none x y list (of_not (is_name x y) a.0)))
    (new_still before x list ys a.1 b.1)

all_carried : (c : Script) (n s k : ℕ) (lists : SlotLists) → ((t : ℕ) → own c (slot.Shard t) (shard_list lists t) ≡ true) → ((t : ℕ) → epoch (shard_list lists t) ≤ k) → (before : List Fact) (names : List (List ℕ))
    → AllDiffer names → are_new before names ≡ true → list_all (λ x. shard n x == s) names ≡ true
    → each_follows (may_be_brought (with_shards n c) s k) before (flat_map (entries_of (setting c) lists) names) ≡ true
all_carried c n s k lists o low before [] d new of_it = refl
all_carried c n s k lists o low before (x ∷ xs) d new of_it =
    let may : List Fact → Fact → Bool = may_be_brought (with_shards n c) s k in
    let t : ℕ = shard_of (setting c) x in
    let list : List Fact = shard_list lists t in
    let a : (none_of x before ≡ true) × (are_new before xs ≡ true) = and_both (none_of x before) (are_new before xs) new in
    let b : ((shard n x == s) ≡ true) × (list_all (λ x. shard n x == s) xs ≡ true) = and_both (shard n x == s) (list_all (λ x. shard n x == s) xs) of_it in
    let up : list_all (is_up_to k) list ≡ true = all_up_more (epoch list) k list (low t) (dated c t list (o t)).all in
    follows_join may before (filter (is_of_name x) list) (flat_map (entries_of (setting c) lists) xs)
    (carried c n s t k x before list b.0 a.0 (o t) up)
    (all_carried c n s k lists o low (before ++ filter (is_of_name x) list) xs d.1 (new_still before x list xs d.0 a.1) b.1)

-- none begins a list anew
name_within : (x : List ℕ) (f : Fact) → is_of_name x f ≡ true → begins f ≡ false
name_within x (fact.Reshard n k) e = absurd (true_is_not_false (sym e))
name_within x (fact.Resharded s n k) e = absurd (true_is_not_false (sym e))
name_within x f e = refl

none_begins : (x : List ℕ) (list : List Fact) → list_any begins (filter (is_of_name x) list) ≡ false
none_begins x [] = refl
none_begins x (f ∷ fs) = at (is_of_name x f) refl (none_begins x fs)
  where
    at : (b : Bool) → is_of_name x f ≡ b → list_any begins (filter (is_of_name x) fs) ≡ false → list_any begins (cond b (f ∷ filter (is_of_name x) fs) (filter (is_of_name x) fs)) ≡ false
    at true e rest = ap (λ b. b || list_any begins (filter (is_of_name x) fs)) (name_within x f e) ∙ rest
    at false e rest = rest

neither_begins : (xs ys : List Fact) → list_any begins xs ≡ false → list_any begins ys ≡ false → list_any begins (xs ++ ys) ≡ false
neither_begins [] ys e f = f
neither_begins (x ∷ xs) ys e f = at (begins x) e (λ h. neither_begins xs ys h f)
  where
    at : (b : Bool) → (b || list_any begins xs) ≡ false → (list_any begins xs ≡ false → list_any begins (xs ++ ys) ≡ false) → (b || list_any begins (xs ++ ys)) ≡ false
    at true h rest = h
    at false h rest = rest h

base_within : (set : Setting) (lists : SlotLists) (names : List (List ℕ)) → list_any begins (flat_map (entries_of set lists) names) ≡ false
base_within set lists [] = refl
base_within set lists (x ∷ xs) = neither_begins (entries_of set lists x) (flat_map (entries_of set lists) xs) (none_begins x (shard_list lists (shard_of set x))) (base_within set lists xs)

-- A list that has just begun anew.

abbrev own_of : Script → Slot → Parts → Bool
own_of c s p = is_opening c s p.opening && each_follows (may_follow c s) p.opening p.since

begun : (c : Script) (s : Slot) (list : List Fact) (f : Fact) → begins f ≡ true → is_opening c s (list ++ f ∷ []) ≡ true → own c s (list ++ f ∷ []) ≡ true
begun c s list f b o =
    let p : Parts = parts_of list in
    let parts : parts_of (list ++ f ∷ []) ≡ record { opening = list ++ f ∷ []; since = [] } =
    parts_more list f
    ∙ (ap (λ t. cond t (record { opening = (p.opening ++ p.since) ++ f ∷ []; since = [] }) (record { opening = p.opening; since = p.since ++ f ∷ [] })) b
    ∙ ap (λ l. record { opening = l ++ f ∷ []; since = [] }) (parts_whole list)) in
    ap (own_of c s) parts ∙ both (is_opening c s (list ++ f ∷ [])) true o refl

kept_all : {X : Type 0} (p : X → Bool) (xs : List X) → list_all p (filter p xs) ≡ true
kept_all p [] = refl
kept_all {X} p (x ∷ xs) = at (p x) refl (kept_all p xs)
  where
    at : (b : Bool) → p x ≡ b → list_all p (filter p xs) ≡ true → list_all p (cond b (x ∷ filter p xs) (filter p xs)) ≡ true
    at true e rest = both (p x) (list_all p (filter p xs)) e rest
    at false e rest = rest

all_new : (names : List (List ℕ)) → are_new [] names ≡ true
all_new [] = refl
all_new (x ∷ xs) = all_new xs

-- of a shard
pub shard_begun : (c : Script) (n s k : ℕ) (lists : SlotLists) → ((t : ℕ) → own c (slot.Shard t) (shard_list lists t) ≡ true) → ((t : ℕ) → epoch (shard_list lists t) ≤ k)
    → own (with_shards n c) (slot.Shard s) (base (setting c) (set_shards n (setting c)) lists s ++ fact.Resharded s n k ∷ []) ≡ true
shard_begun c n s k lists o low =
    let new : Script = with_shards n c in
    let names : List (List ℕ) = names_of (set_shards n (setting c)) s in
    let of_it : List ℕ → Bool = λ x. shard n x == s in
    let list : List Fact = base (setting c) (set_shards n (setting c)) lists s in
    let f : Fact = fact.Resharded s n k in
    let brought : each_follows (may_be_brought new s k) [] list ≡ true =
    all_carried c n s k lists o low [] names (left_differ of_it (names_in c.orders) (names_differ c.orders)) (all_new names) (kept_all of_it (names_in c.orders)) in
    let last : may_be_brought new s k list f ≡ true =
    both (s == s) (not (list_any begins list)) (number_itself s s refl) (not_of (list_any begins list) (base_within (setting c) lists names)) in
    begun new (slot.Shard s) list f refl
    (ap (λ j. each_follows (may_open new (slot.Shard s) j) [] (list ++ f ∷ [])) (epoch_more list f)
    ∙ (follows_more (may_be_brought new s k) [] list f ∙ both (each_follows (may_be_brought new s k) [] list) (may_be_brought new s k list f) brought last))

-- The coordinator's list.

more_shards : (c : Script) (s : ℕ) → c.config.shards ≤ 128 → is_shard c s ≡ true → is_shard (with_shards 128 c) s ≡ true
more_shards c s most h = let less : s < c.config.shards = below s c.config.shards h in is_below s 128 (omega arith)

stands_before : (c : Script) (list : List Fact) (f : Fact) → c.config.shards ≤ 128 → may_follow c slot.Coordinator list f ≡ true → may_be_before c list f ≡ true
stands_before c list (fact.Allocated s r) most m =
    let among : Bool = is_among r (regions list) in
    let none : Bool = is_none (allocation s list) in
    let a : (is_held list ≡ true) × ((is_shard c s && among && none) ≡ true) = and_both (is_held list) (is_shard c s && among && none) m in
    let b : ((is_shard c s && among) ≡ true) × (none ≡ true) = and_both (is_shard c s && among) none a.1 in
    let d : (is_shard c s ≡ true) × (among ≡ true) = and_both (is_shard c s) among b.0 in
    let there : Bool = is_shard (with_shards 128 c) s in
    both (is_held list) (there && among && none) a.0 (both (there && among) none (both there among (more_shards c s most d.0) d.1) b.1)
stands_before c list (fact.Deallocated s) most m =
    let some : Bool = is_some (allocation s list) in
    let a : (is_held list ≡ true) × ((is_shard c s && some) ≡ true) = and_both (is_held list) (is_shard c s && some) m in
    let b : (is_shard c s ≡ true) × (some ≡ true) = and_both (is_shard c s) some a.1 in
    both (is_held list) (is_shard (with_shards 128 c) s && some) a.0 (both (is_shard (with_shards 128 c) s) some (more_shards c s most b.0) b.1)
stands_before c list (fact.Reshard n k) most m = absurd (true_is_not_false (follows_within c slot.Coordinator list (fact.Reshard n k) m))
stands_before c list f most m = m

all_before : (c : Script) (list : List Fact) → c.config.shards ≤ 128 → own c slot.Coordinator list ≡ true → each_follows (may_be_before c) [] list ≡ true
all_before c list most o =
    own_to c slot.Coordinator (λ l. each_follows (may_be_before c) [] l ≡ true) refl
    (λ k l f h m. follows_more (may_be_before c) [] l f ∙ both (each_follows (may_be_before c) [] l) (may_be_before c l f) h m)
    (λ l f h m. follows_more (may_be_before c) [] l f ∙ both (each_follows (may_be_before c) [] l) (may_be_before c l f) h (stands_before c l f most m))
    list o

pub coordinator_begun : (c : Script) (n k : ℕ) (list : List Fact) → c.config.shards ≤ 128 → is_in 1 128 n ≡ true → is_held list ≡ false → own c slot.Coordinator list ≡ true → own (with_shards n c) slot.Coordinator (list ++ fact.Reshard n k ∷ []) ≡ true
coordinator_begun c n k list most range free o =
    let f : Fact = fact.Reshard n k in
    begun (with_shards n c) slot.Coordinator list f refl
    (follows_more (may_be_before c) [] list f
    ∙ both (each_follows (may_be_before c) [] list) (may_be_before c list f) (all_before c list most o) (both (not (is_held list)) (is_in 1 128 n) (not_of (is_held list) free) range))

-- All lists.

length_numbers : (a n : ℕ) → length (numbers a n) ≡ n
length_numbers a zero = refl
length_numbers a (suc n) = ap suc (length_numbers (a + 1) n)

shards_within : (c : Script) → is_config c.config ≡ true → c.config.shards ≤ 128
shards_within c h = at_most c.config.shards 128 (and_both (nat_le 1 c.config.shards) (nat_le c.config.shards 128) (second _ (is_in 1 128 c.config.shards) _ _ _ _ _ h)).1
  where
    second : (a b d e f g i : Bool) → (a && b && d && e && f && g && i) ≡ true → b ≡ true
    second true true d e f g i h = refl
    second true false d e f g i h = h
    second false true d e f g i h = refl
    second false false d e f g i h = h

recorded_still : (c : Script) (n k : ℕ) (lists : SlotLists) → is_in 1 128 n ≡ true → lawful c lists ≡ true → (f : Fact) → is_recorded c lists f ≡ true → is_recorded (with_shards n c) (reshaped (setting c) n k lists) f ≡ true
recorded_still c n k lists range h (fact.Confirmed p e m) r = ap (has_place p m) (reshaped_keeps_journals c n k lists range h e) ∙ r
recorded_still c n k lists range h f r = refl

pub reshaped_is_lawful : ReshapedIsLawful
reshaped_is_lawful c n k lists config range h free low =
    let new : SlotLists = reshaped (setting c) n k lists in
    let o : (Owns c lists) × (confirmed_there c lists ≡ true) = owns_of c lists h in
    let list_of : ℕ → List Fact = λ s. base (setting c) (set_shards n (setting c)) lists s ++ fact.Resharded s n k ∷ [] in
    let long : length new.shards ≡ n = length-map (numbers 0 n) list_of ∙ length_numbers 0 n in
    lawful_of (with_shards n c) new
    (record {
      shards = long;
      queues = o.0.queues;
      shard = λ s. shard_at s (nat_lt s n) refl long o.0;
      coordinator = coordinator_begun c n k lists.coordinator (shards_within c config) range free o.0.coordinator;
      queue = o.0.queue;
    })
    (all_map (list_all (is_recorded c lists)) (list_all (is_recorded (with_shards n c) new)) (λ l e. all_map (is_recorded c lists) (is_recorded (with_shards n c) new) (λ f r. recorded_still c n k lists range h f r) l e) lists.queues o.1)
  where
    shard_at : (s : ℕ) (b : Bool) → nat_lt s n ≡ b → length (reshaped (setting c) n k lists).shards ≡ n → Owns c lists → own (with_shards n c) (slot.Shard s) (shard_list (reshaped (setting c) n k lists) s) ≡ true
    shard_at s true e long o = ap (own (with_shards n c) (slot.Shard s)) (reshaped_list (setting c) n k lists s (below s n e)) ∙ shard_begun c n s k lists o.shard low
    shard_at s false e long o = ap (own (with_shards n c) (slot.Shard s)) (get_or_past (reshaped (setting c) n k lists).shards s [] (let past : n ≤ s = not_below s n e in omega (arith, long)))
