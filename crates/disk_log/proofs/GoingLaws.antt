-- Batches that are read one after the other.
use Rattle.std.proofs.Common.{◌≡◌, ℕ, ◌+◌, ◌-◌, ◌<◌, Bool, true, false, List, [], ◌∷◌, ◌++◌, length, map, drop, refl, sym, ◌∙◌, ap, subst, arith}
use Rattle.std.specs.Prelude.{IsTrue, if◌then◌else◌}
use Rattle.std.proofs.lemmas.List.{length-drop, map_push}
use Rattle.plain_laws.proofs.Booleans.{true_is_not_false}
use Rattle.yard_model.specs.declared.fact.Fact.{Fact}
use Rattle.disk_log.specs.Images.{Images, Only}
use Rattle.disk_log.specs.Spelled.{lines, AreBatches, Spells, Opens, IsDamaged}
use Rattle.disk_log.specs.Window.{Ahead, IsAhead, Closed, Opened, IsBadGate}
use Rattle.disk_log.specs.Rest.{gated, Rests}
use Rattle.disk_log.specs.Opening.{EndsAt, IsDamagedFrom}
use Rattle.disk_log.proofs.FrameLaws.{front_of, gated_front, holds_of, length-gated_push, opens_says}
use Rattle.disk_log.proofs.SpellLaws.{are_more, more_batches}

-- so far these batches were read from `start` on; a gate is at hand, or there was a closed one
pub record Going (tells : Bool) (content : List ℕ) (start : ℕ) (w : Ahead) (batches : List (List Fact)) (more : Bool) : Type 0 where
  pub are : AreBatches batches
  pub far : w.place ≡ start + length (gated (map lines batches))
  pub ahead : more ≡ true → IsAhead tells content w
  pub there : more ≡ true → w.place < w.size
  pub opens : IsTrue tells → Opens (map lines batches) (drop start content) (drop w.place content)
  pub shut : IsTrue tells → more ≡ false → (rest : List ℕ) × (drop w.place content ≡ 0 ∷ rest)

pub begins : (tells : Bool) (content : List ℕ) (w : Ahead) (batches : List (List Fact)) → IsAhead tells content w → w.place < w.size → batches ≡ [] → Going tells content w.place w batches true
begins tells content w batches ahead there no_batch = record {
  are = subst AreBatches (sym no_batch) tt;
  far = omega (arith, ap (λ (bs : List (List Fact)). length (gated (map lines bs))) no_batch);
  ahead = λ more. ahead;
  there = λ more. there;
  opens = λ told. subst (λ (bs : List (List Fact)). Opens (map lines bs) (drop w.place content) (drop w.place content)) (sym no_batch) refl;
  shut = λ told more. absurd (true_is_not_false more);
}

-- bytes of which none was read yet
pub ahead_new : (tells : Bool) (content : List ℕ) (w : Ahead) (size : ℕ) → w ≡ record { size = size; place = 0; bytes = [] } → (IsTrue tells → size ≡ length content) → IsAhead tells content w
ahead_new tells content w size is said = subst (IsAhead tells content) (sym is) (record {
  within = omega arith;
  size = said;
  front = λ told. (content, refl);
})

module _ (tells : Bool) (content : List ℕ) (start : ℕ) (w : Ahead) (batches : List (List Fact)) (going : Going tells content start w batches true) where
  pub goes_on : (new : Ahead) (more : List (List Fact)) → Opened tells content w new batches more → Going tells content start new more true
  goes_on new more o = record {
    are = subst AreBatches (sym o.more_are) (are_more batches o.facts going.are o.read.batch);
    far = omega (arith, o.read.place, going.far, grown);
    ahead = λ is. o.read.ahead;
    there = λ is. o.read.within;
    opens = λ told. subst (λ bs. Opens (map lines bs) (drop start content) (drop new.place content)) (sym o.more_are)
        (more_batches batches o.facts (drop start content) (drop w.place content) (drop (w.place + 1) content) (drop new.place content) (o.gate told).0 (o.gate told).2 (o.gate told).1 (going.opens told)
        (record { batch = o.read.batch; frame = o.read.frame told; gate = omega (arith, length-drop new.place content, o.read.within, o.read.ahead.size told) }));
    shut = λ told is. absurd (true_is_not_false is);
  }
    where
      grown : length (gated (map lines more)) ≡ length (gated (map lines batches)) + (length (lines o.facts) + 5)
      grown =
          ap (λ (bs : List (List Fact)). length (gated (map lines bs))) o.more_are
          ∙ (ap (λ (ts : List (List ℕ)). length (gated ts)) (map_push lines batches o.facts) ∙ length-gated_push (map lines batches) (lines o.facts))

  pub ends : (new : Ahead) (more : List (List Fact)) → Closed tells content w new batches more → Going tells content start new more false
  ends new more c = record {
    are = subst AreBatches (sym c.same) going.are;
    far = c.place ∙ (going.far ∙ ap (λ (bs : List (List Fact)). start + length (gated (map lines bs))) (sym c.same));
    ahead = λ is. absurd (true_is_not_false (sym is));
    there = λ is. absurd (true_is_not_false (sym is));
    opens = λ told. subst (λ (k : ℕ). Opens (map lines more) (drop start content) (drop k content)) (sym c.place)
        (subst (λ (bs : List (List Fact)). Opens (map lines bs) (drop start content) (drop w.place content)) (sym c.same) (going.opens told));
    shut = λ told is. ((c.gate told).0, ap (λ (k : ℕ). drop k content) c.place ∙ (c.gate told).1);
  }

  pub is_damaged : (at : ℕ) → IsTrue tells → IsBadGate content w.place at → IsDamagedFrom content start at
  is_damaged at told bad = record {
    batches = batches;
    batches_are = going.are;
    gate = bad.gate;
    rest = drop (w.place + 1) content;
    opens = subst (Opens (map lines batches) (drop start content)) bad.here (going.opens told);
    is_open = bad.is_open;
    place = omega (arith, bad.same, ap length bad.here, length-drop w.place content, going.there refl, (going.ahead refl).size told);
    unfollowed = bad.unfollowed;
  }

module _ (tells : Bool) (content other : List ℕ) (start : ℕ) (w : Ahead) (batches : List (List Fact)) (was : Bool) (going : Going tells content start w batches was) (open_was : was ≡ true) (same : other ≡ content) where
  begun : Going tells content start w batches true
  begun = subst (Going tells content start w batches) open_was going

  pub stepped : (new : Ahead) (more : List (List Fact)) (b : Bool) → (b ≡ true → Opened tells other w new batches more) → (b ≡ false → Closed tells other w new batches more) → Going tells content start new more b
  stepped new more true o c = goes_on tells content start w batches begun new more (subst (λ xs. Opened tells xs w new batches more) same (o refl))
  stepped new more false o c = ends tells content start w batches begun new more (subst (λ xs. Closed tells xs w new batches more) same (c refl))

  pub falls : (new : Ahead) (more : List (List Fact)) (b : Bool) → (b ≡ true → Opened tells other w new batches more)
      → (if b then new.size - new.place + 1 else 0) < (if was then w.size - w.place + 1 else 0)
  falls new more b o = subst (λ v. (if b then new.size - new.place + 1 else 0) < (if v then w.size - w.place + 1 else 0)) (sym open_was) (by b o)
    where
      by : (d : Bool) → (d ≡ true → Opened tells other w new batches more) → (if d then new.size - new.place + 1 else 0) < w.size - w.place + 1
      by true p = let r = (p refl).read in omega (arith, r.place, r.within, r.size, begun.there refl)
      by false p = omega arith

  pub breaks : (at : ℕ) → IsTrue tells → IsBadGate other w.place at → IsDamagedFrom content start at
  breaks at told bad = is_damaged tells content start w batches begun at told (subst (λ xs. IsBadGate xs w.place at) same bad)

-- all batches were read
pub ended : (tells : Bool) (content : List ℕ) (start : ℕ) (w : Ahead) (batches : List (List Fact)) (more : Bool) → Going tells content start w batches more → more ≡ false → EndsAt tells content start w.place batches
ended tells content start w batches more going none = record {
  are = going.are;
  far = going.far;
  shut = λ told. let s = going.shut told none in (s.0, subst (Opens (map lines batches) (drop start content)) s.1 (going.opens told));
}

-- from the front on
pub ended_spells : (tells : Bool) (content : List ℕ) (start end : ℕ) (batches : List (List Fact)) → start ≡ 0 → EndsAt tells content start end batches → IsTrue tells → Spells content batches
ended_spells tells content start end batches front ends told =
    let e : EndsAt tells content 0 end batches = subst (λ k. EndsAt tells content k end batches) front ends in
    record {
      batches_are = e.are;
      texts = holds_of (map lines batches) content (opens_says (map lines batches) content (e.shut told).0 (e.shut told).1);
    }

pub damaged_front : (image : List ℕ) (start at : ℕ) → start ≡ 0 → 1 < length image → IsDamagedFrom image start at → IsDamaged image at
damaged_front image start at front long bad =
    let d : IsDamagedFrom image 0 at = subst (λ k. IsDamagedFrom image k at) front bad in
    record {
      batches = d.batches;
      batches_are = d.batches_are;
      gate = d.gate;
      rest = d.rest;
      opens = d.opens;
      is_open = d.is_open;
      place = d.place;
      long = long;
      unfollowed = d.unfollowed;
    }

-- a log goes on where a closed gate stands behind its texts
pub rests_behind : (tells : Bool) (content after : List ℕ) (images : Images) (end : ℕ) (texts : List (List ℕ)) → end ≡ length (gated texts) → (IsTrue tells → (rest : List ℕ) × Opens texts content (0 ∷ rest)) → after ≡ content
    → (IsTrue tells → Only content images) → Rests tells end after images texts
rests_behind true content after images end texts far shut same durable =
    let s = shut refl in
    let f = front_of texts content (0 ∷ s.0) s.1 in
    record {
      front = f.front;
      rest = s.0;
      gate = omega (arith, far, f.long);
      opens = f.opens;
      bytes = λ told. same ∙ f.whole;
      durable = λ told. subst (λ (l : List ℕ). Only l images) (sym same) (durable told);
    }
rests_behind false content after images end texts far shut same durable = record {
  front = gated texts;
  rest = [];
  gate = far;
  opens = gated_front texts;
  bytes = λ told. absurd (true_is_not_false (sym told));
  durable = λ told. absurd (true_is_not_false (sym told));
}

pub ended_rests : (tells : Bool) (content after : List ℕ) (images : Images) (start end : ℕ) (batches : List (List Fact)) → start ≡ 0 → EndsAt tells content start end batches → after ≡ content
    → (IsTrue tells → Only content images) → Rests tells end after images (map lines batches)
ended_rests tells content after images start end batches front ends same durable =
    let e : EndsAt tells content 0 end batches = subst (λ k. EndsAt tells content k end batches) front ends in
    rests_behind tells content after images end (map lines batches) (omega (arith, e.far)) e.shut same durable
