-- Batches that are kept in one list.
use Rattle.std.proofs.Common.{◌≡◌, ℕ, zero, suc, ◌-◌, ◌<◌, ◌≤◌, ◌^◌, Bool, List, [], ◌∷◌, ◌++◌, length, take, drop, get_or, refl, sym, ◌∙◌, ap, ap₂, subst, arith, length-append, append_assoc}
use Rattle.std.proofs.lemmas.List.{append-nil, drop_at, drop-append-le, get_or_default, length-drop, take_all, take-append-le}
use Rattle.yard_model.specs.declared.fact.Fact.{Fact}
use Rattle.disk_log.specs.Spelled.{AreBatches, IsBatch}
use Rattle.disk_log.specs.Window.{Ahead, Closed, IsAhead, Opened, Passed}
use Rattle.disk_log.specs.Kept.{AreEnds, AreKept, ClosedMore, OpenedMore, ReadMore, cut}
use Rattle.disk_log.proofs.ReadLaws.{SoFar, all_read, none_yet, one_more}
use Rattle.disk_log.proofs.SpellLaws.{are_more}

pub length-cut : (from : ℕ) (ends : List ℕ) (facts : List Fact) → length (cut from ends facts) ≡ length ends
length-cut from [] facts = refl
length-cut from (end ∷ ends) facts = ap suc (length-cut end ends facts)

pub ends_within : (from : ℕ) (ends : List ℕ) (to : ℕ) → AreEnds from ends to → from ≤ to
ends_within from [] to rise = omega (arith, rise)
ends_within from (end ∷ ends) to rise = omega (arith, rise.0, ends_within end ends to rise.1)

-- where a batch begins and ends
pub within_at : (from : ℕ) (ends : List ℕ) (to k : ℕ) → AreEnds from ends to → k < length ends → (get_or (from ∷ ends) k 0 ≤ get_or ends k 0) × (get_or ends k 0 ≤ to)
within_at from [] to k rise inside = absurd (omega (arith, inside))
within_at from (end ∷ ends) to zero rise inside = (rise.0, ends_within end ends to rise.1)
within_at from (end ∷ ends) to (suc k) rise inside = within_at end ends to k rise.1 (omega (arith, inside))

pub cut_at : (from : ℕ) (ends : List ℕ) (facts : List Fact) (k : ℕ) → k < length ends → get_or (cut from ends facts) k [] ≡ take (get_or ends k 0 - get_or (from ∷ ends) k 0) (drop (get_or (from ∷ ends) k 0) facts)
cut_at from [] facts k inside = absurd (omega (arith, inside))
cut_at from (end ∷ ends) facts zero inside = refl
cut_at from (end ∷ ends) facts (suc k) inside = cut_at end ends facts k (omega (arith, inside))

-- where the batch behind another begins
pub begins_at : (ends : List ℕ) (k : ℕ) → 0 < k → get_or ends (k - 1) 0 ≡ get_or (0 ∷ ends) k 0
begins_at ends zero some = absurd (omega (arith, some))
begins_at ends (suc k) some = let same : suc k - 1 ≡ k = omega arith in ap (λ (j : ℕ). get_or ends j 0) same

pub ends_more : (from : ℕ) (ends : List ℕ) (to end : ℕ) → AreEnds from ends to → to ≤ end → AreEnds from (ends ++ end ∷ []) end
ends_more from [] to end rise up = (omega (arith, rise, up), refl)
ends_more from (e ∷ ends) to end rise up = (rise.0, ends_more e ends to end rise.1 up)

pub cut_more : (from : ℕ) (ends : List ℕ) (facts read : List Fact) → AreEnds from ends (length facts) → cut from (ends ++ length (facts ++ read) ∷ []) (facts ++ read) ≡ cut from ends facts ++ read ∷ []
cut_more from [] facts read rise =
    ap (λ (l : List Fact). l ∷ []) (ap (take (length (facts ++ read) - from)) (drop_at facts read from (sym rise)) ∙ take_all (length (facts ++ read) - from) read (omega (arith, length-append facts read, rise)))
cut_more from (end ∷ ends) facts read rise =
    let far : end ≤ length facts = ends_within end ends (length facts) rise.1 in
    ap₂ (λ (l : List Fact) (ls : List (List Fact)). l ∷ ls)
    (ap (take (end - from)) (drop-append-le from facts read (omega (arith, rise.0, far))) ∙ take-append-le (end - from) (drop from facts) read (omega (arith, far, length-drop from facts)))
    (cut_more end ends facts read rise.1)

-- no batch
pub none_kept : (ends : List ℕ) (facts : List Fact) → ends ≡ [] → facts ≡ [] → AreKept ends facts
none_kept ends facts no_ends none =
    subst (λ es. AreKept es facts) (sym no_ends) (subst (AreKept []) (sym none) (record { rise = refl; batches = tt; few = omega arith }))

-- a closed gate, of what is kept
pub closed : (tells : Bool) (content : List ℕ) (old new : Ahead) (ends : List ℕ) (facts more : List Fact) → ClosedMore tells content old new facts more
    → Closed tells content old new (cut 0 ends facts) (cut 0 ends more)
closed tells content old new ends facts more c = record { same = ap (cut 0 ends) c.same; place = c.place; gate = c.gate }

module _ (tells : Bool) (content : List ℕ) (old new : Ahead) (ends later : List ℕ) (facts more : List Fact) (kept : AreKept ends facts) (o : OpenedMore tells content old new facts more) (later_are : later ≡ ends ++ length more ∷ []) where
  with_it : cut 0 later more ≡ cut 0 ends facts ++ o.batch.read ∷ []
  with_it =
      ap (λ (l : List ℕ). cut 0 l more) later_are
      ∙ (ap (λ (l : List Fact). cut 0 (ends ++ length l ∷ []) l) o.batch.more_are ∙ cut_more 0 ends facts o.batch.read kept.rise)

  -- an open one
  pub opened : Opened tells content old new (cut 0 ends facts) (cut 0 later more)
  opened = record { facts = o.batch.read; read = o.batch.are; more_are = with_it; gate = o.gate }

  pub kept_more : length later < 2 ^ 32 → AreKept later more
  kept_more few = record {
    rise = subst (λ (l : List ℕ). AreEnds 0 l (length more)) (sym later_are) (ends_more 0 ends (length facts) (length more) kept.rise (omega (arith, ap length o.batch.more_are, length-append facts o.batch.read)));
    batches = subst AreBatches (sym with_it) (are_more (cut 0 ends facts) o.batch.read kept.batches o.batch.are.batch);
    few = few;
  }

-- what stands behind those before
abbrev pub read_of : List Fact → List Fact → List Fact
read_of before facts = drop (length before) facts

-- entries that are read behind others
module _ (tells : Bool) (content : List ℕ) (n : ℕ) (old : Ahead) (before : List Fact) where
  pub none_more : IsAhead tells content old → SoFar tells content n n old old (read_of before before)
  none_more ahead = none_yet tells content n old (read_of before before) ahead (ap (drop (length before)) (sym (append-nil before)) ∙ drop_at before [] (length before) refl)

  pub none_behind : before ≡ before ++ read_of before before
  none_behind = sym (append-nil before) ∙ ap (λ (l : List Fact). before ++ l) (sym (ap (drop (length before)) (sym (append-nil before)) ∙ drop_at before [] (length before) refl))

  module _ (left : ℕ) (mid : Ahead) (facts : List Fact) (are : facts ≡ before ++ read_of before facts) (so_far : SoFar tells content n left old mid (read_of before facts)) where
    module _ (used : ℕ) (new : Ahead) (more : List Fact) (p : Passed tells content left used mid new facts more) where
      one_read : read_of before more ≡ read_of before facts ++ p.fact ∷ []
      one_read = ap (drop (length before)) p.facts_are ∙ drop-append-le (length before) facts (p.fact ∷ []) (omega (arith, ap length are, length-append before (read_of before facts)))

      pub read_on : SoFar tells content n (left - used) old new (read_of before more)
      read_on = one_more tells content n left old mid (read_of before facts) so_far used new (read_of before more) (record {
        fact = p.fact;
        entry = p.entry;
        facts_are = one_read;
        used_is = p.used_is;
        some = p.some;
        fits = p.fits;
        ahead = p.ahead;
        size = p.size;
        place = p.place;
        line = p.line;
      })

      pub still_behind : more ≡ before ++ read_of before more
      still_behind = p.facts_are ∙ (ap (λ (l : List Fact). l ++ p.fact ∷ []) are ∙ (append_assoc before (read_of before facts) (p.fact ∷ []) ∙ ap (λ (l : List Fact). before ++ l) (sym one_read)))

    pub read_whole : left ≡ 0 → ReadMore tells content n old mid before facts
    read_whole none = record { read = read_of before facts; more_are = are; are = all_read tells content n left old mid (read_of before facts) so_far none }

-- a batch that is cut out, between the places that are read of the ends
module _ (ends read : List ℕ) (facts : List Fact) (k start end : ℕ) (inside : k < length ends) (same : read ≡ ends) (start_is : start ≡ get_or (0 ∷ read) k 0) (end_is : end ≡ get_or ends k end) where
  begins : start ≡ get_or (0 ∷ ends) k 0
  begins = start_is ∙ ap (λ (l : List ℕ). get_or (0 ∷ l) k 0) same

  stops : end ≡ get_or ends k 0
  stops = end_is ∙ get_or_default ends k end 0 inside

  pub part_rises : AreEnds 0 ends (length facts) → start ≤ end
  part_rises rise = let w = within_at 0 ends (length facts) k rise inside in let low = w.0 in omega (arith, low, begins, stops)

  pub part_within : AreEnds 0 ends (length facts) → end ≤ length facts
  part_within rise = let w = within_at 0 ends (length facts) k rise inside in let high = w.1 in omega (arith, high, stops)

  pub part_is : (view : List (List Fact)) → view ≡ cut 0 ends facts → take (end - start) (drop start facts) ≡ get_or view k []
  part_is view view_is =
      ap₂ (λ (i j : ℕ). take (j - i) (drop i facts)) begins stops
      ∙ (sym (cut_at 0 ends facts k inside) ∙ sym (ap (λ (v : List (List Fact)). get_or v k []) view_is))

-- a batch more, whose facts stand behind the others
module _ (ends later : List ℕ) (facts all more : List Fact) (kept : AreKept ends facts) (all_are : all ≡ facts ++ more) (later_are : later ≡ ends ++ length all ∷ []) where
  pub with_is : cut 0 later all ≡ cut 0 ends facts ++ more ∷ []
  with_is =
      ap (λ (l : List ℕ). cut 0 l all) later_are
      ∙ (ap (λ (l : List Fact). cut 0 (ends ++ length l ∷ []) l) all_are ∙ cut_more 0 ends facts more kept.rise)

  pub kept_with : IsBatch more → length later < 2 ^ 32 → AreKept later all
  kept_with batch few = record {
    rise = subst (λ (l : List ℕ). AreEnds 0 l (length all)) (sym later_are) (ends_more 0 ends (length facts) (length all) kept.rise (omega (arith, ap length all_are, length-append facts more)));
    batches = subst AreBatches (sym with_is) (are_more (cut 0 ends facts) more kept.batches batch);
    few = few;
  }
