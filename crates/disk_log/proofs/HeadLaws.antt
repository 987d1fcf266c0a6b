-- The first text of a log that has a head.
use Rattle.std.proofs.Common.{◌≡◌, ◌⊎◌, inl, inr, ℕ, ◌+◌, ◌-◌, ◌<◌, ◌≤◌, Bool, List, [], ◌∷◌, ◌++◌, length, map, take, drop, refl, sym, ◌∙◌, ap, subst, arith, length-take-le, take-append-drop}
use Rattle.std.specs.Prelude.{IsTrue, IfNone, IfSome, Option, None, Some}
use Rattle.std.proofs.lemmas.List.{drop-drop, length-drop, take-append-le}
use Rattle.yard_model.specs.declared.fact.Fact.{Fact}
use Rattle.disk_log.specs.declared.headed.HeadedFault.TheVariants as headed
use Rattle.disk_log.specs.declared.reading.ReadLogFault.{ReadLogFault}
use Rattle.disk_log.specs.declared.reading.ReadLogFault.TheVariants as reading
use Rattle.disk_log.specs.Faults.{of_reading}
use Rattle.disk_log.specs.Frames.{framed, Holds, IsText}
use Rattle.disk_log.specs.Headed.{HeadRead, IsDamagedBehind, IsHead, IsHeadless, IsLongHead, IsOpenFront, IsTextless, headed_texts}
use Rattle.disk_log.specs.Images.{Images, Only}
use Rattle.disk_log.specs.Opening.{EndsAt, IsDamagedFrom}
use Rattle.disk_log.specs.Rest.{gated, Rests}
use Rattle.disk_log.specs.Spelled.{lines, Opens}
use Rattle.disk_log.specs.Window.{Ahead, Filled, IsAhead, IsSize}
use Rattle.disk_log.proofs.FrameLaws.{holds_of, opens_says}
use Rattle.disk_log.proofs.GoingLaws.{rests_behind}
use Rattle.disk_log.proofs.ReadLaws.{pass_ahead, text_frame}
use Rattle.disk_log.proofs.SpellLaws.{length-frame}

-- what is so of what is there
pub if_some : {X : Type 0} (P : X → Type 0) (o : Option X) (x : X) → o ≡ Some x → IfSome o P → P x
if_some {X} P (Some y) x e p = let same : y ≡ x = cc in subst P same p
if_some P None x e p = cc

-- and where nothing is
pub if_none : {X : Type 0} (o : Option X) (P : Type 0) → o ≡ None → IfNone o P → P
if_none (Some y) P e p = cc
if_none None P e p = p

-- a fault of reading
pub was_damaged : (r : ReadLogFault) (at : ℕ) → of_reading r ≡ headed.Damaged at → r ≡ reading.Damaged at
was_damaged reading.Failed at e = cc
was_damaged reading.OutOfMemory at e = cc
was_damaged (reading.Damaged k) at e = cc

at_front : (content : List ℕ) (k n : ℕ) → k ≡ 0 → drop (k + n) content ≡ drop n content
at_front content k n first = let same : k + n ≡ n = omega (arith, first) in ap (λ j. drop j content) same

-- a gate at the front, by where the window stands
pub open_front : (content : List ℕ) (place gate : ℕ) → place ≡ 0 → 0 < gate → drop place content ≡ gate ∷ drop (place + 1) content → IsOpenFront content
open_front content place gate first is_open here = record {
  gate = gate;
  is_open = is_open;
  front = sym (ap (λ k. drop k content) first) ∙ (here ∙ ap (λ (l : List ℕ). gate ∷ l) (at_front content place 1 first));
}

pub shut_front : (content : List ℕ) (place : ℕ) → place ≡ 0 → (rest : List ℕ) × (drop place content ≡ 0 ∷ rest) → (rest : List ℕ) × (content ≡ 0 ∷ rest)
shut_front content place first shut = (shut.0, sym (ap (λ k. drop k content) first) ∙ shut.1)

pub headless : (content : List ℕ) (place : ℕ) → place ≡ 0 → 1 < length content → IsOpenFront content → IsTextless (drop (place + 1) content) → IsHeadless content
headless content place first long front none = record {
  gate = front.gate;
  rest = drop 1 content;
  bytes = front.front;
  is_open = front.is_open;
  long = long;
  textless = subst IsTextless (at_front content place 1 first) none;
}

module _ (tells : Bool) (content : List ℕ) (w : Ahead) (ahead : IsAhead tells content w) (first : w.place ≡ 0) (n : ℕ) (sized : IsSize w.bytes (w.size - w.place) n) where
  -- the text that stands there
  abbrev pub text_there : List ℕ
  text_there = take n (drop 5 content)

  long_there : IsTrue tells → length text_there ≡ n
  long_there told = length-take-le n (drop 5 content) (omega (arith, length-drop 5 content, ahead.size told, first, sized.room))

  pub opens_there : IsTrue tells → IsOpenFront content → Opens (text_there ∷ []) content (drop n (drop 5 content))
  opens_there told front =
      let text : drop (w.place + 5) content ≡ text_there ++ drop n (drop 5 content) = at_front content w.place 5 first ∙ sym (take-append-drop n (drop 5 content)) in
      let frame : drop 1 content ≡ framed text_there ++ drop n (drop 5 content) =
      sym (at_front content w.place 1 first) ∙ text_frame tells content w ahead told n text_there (drop n (drop 5 content)) sized (long_there told) text in
      (front.gate, drop n (drop 5 content), front.is_open, front.front ∙ ap (λ (l : List ℕ). front.gate ∷ l) frame, refl)

  -- it is too long
  pub long_head : IsTrue tells → (IsTrue tells → IsOpenFront content) → 1024 < n → IsLongHead content
  long_head told front long = record {
    text = text_there;
    rest = drop n (drop 5 content);
    text_is = record { some = omega (arith, long, long_there told); fits = omega (arith, sized.fits, long_there told) };
    long = omega (arith, long, long_there told);
    opens = opens_there told (front told);
  }

  -- the gate and the length were passed
  pub ahead_behind : (mid : Ahead) → mid ≡ record { size = w.size; place = w.place + 5; bytes = drop 5 w.bytes } → IsAhead tells content mid
  ahead_behind mid is = subst (IsAhead tells content) (sym is) (pass_ahead tells content w ahead 5 sized.long)

  module _ (mid filled : Ahead) (mid_is : mid ≡ record { size = w.size; place = w.place + 5; bytes = drop 5 w.bytes }) (came : Filled tells content n mid filled) where
    five : filled.place ≡ 5
    five = came.place ∙ (ap (λ (v : Ahead). v.place) mid_is ∙ ap (λ k. k + 5) first)

    size_is : filled.size ≡ w.size
    size_is = came.size ∙ ap (λ (v : Ahead). v.size) mid_is

    -- it is at hand
    pub enough : IsTrue tells → length filled.bytes < n → ⊥
    enough told less = by (came.enough told)
      where
        by : (n ≤ length filled.bytes) ⊎ (filled.size ≤ filled.place + length filled.bytes) → ⊥
        by (inl all) = omega (arith, all, less)
        by (inr all) = omega (arith, all, less, five, size_is, first, sized.room)

    pub head_read : (new : Ahead) (head : List ℕ) → n ≤ length filled.bytes → head ≡ take n filled.bytes → n ≤ 1024 → (IsTrue tells → IsOpenFront content)
        → new ≡ record { size = filled.size; place = filled.place + n; bytes = drop n filled.bytes } → HeadRead tells content new head
    head_read new head all is few front new_is = record {
      head_is = record { text = record { some = omega (arith, long, sized.some); fits = omega (arith, long, sized.fits) }; few = omega (arith, long, few) };
      ahead = subst (IsAhead tells content) (sym new_is) (pass_ahead tells content filled came.ahead n all);
      there = omega (arith, place, ap (λ (v : Ahead). v.size) new_is, size_is, first, sized.room, long);
      place = place;
      opens = λ told. subst (λ (l : List ℕ). Opens (l ∷ []) content (drop new.place content)) (sym (text_is told)) (subst (Opens (text_there ∷ []) content) (behind_is told) (opens_there told (front told)));
    }
      where
        long : length head ≡ n
        long = ap length is ∙ length-take-le n filled.bytes all

        place : new.place ≡ length head + 5
        place = omega (arith, ap (λ (v : Ahead). v.place) new_is, five, long)

        text_is : IsTrue tells → head ≡ text_there
        text_is told =
            let rest : List ℕ = (came.ahead.front told).0 in
            is ∙ (sym (take-append-le n filled.bytes rest all) ∙ ap (take n) (sym (came.ahead.front told).1 ∙ ap (λ k. drop k content) five))

        behind_is : IsTrue tells → drop n (drop 5 content) ≡ drop new.place content
        behind_is told = drop-drop n 5 content ∙ ap (λ k. drop k content) (omega (arith, place, long))

-- what stands behind the head
module _ (tells : Bool) (content : List ℕ) (w : Ahead) (head : List ℕ) (read : HeadRead tells content w head) where
  module _ (end : ℕ) (batches : List (List Fact)) (ends : EndsAt tells content w.place end batches) where
    far : end ≡ length (gated (headed_texts (Some head) batches))
    far = omega (arith, ends.far, read.place, length-frame head (gated (map lines batches)))

    shut : IsTrue tells → (rest : List ℕ) × Opens (headed_texts (Some head) batches) content (0 ∷ rest)
    shut told =
        let o = read.opens told in
        let s = ends.shut told in
        (s.0, (o.0, o.1, o.2, o.3, subst (λ (l : List ℕ). Opens (map lines batches) l (0 ∷ s.0)) (sym o.4) s.1))

    pub head_holds : IsTrue tells → Holds (headed_texts (Some head) batches) content
    head_holds told =
        let s = shut told in
        holds_of (headed_texts (Some head) batches) content (opens_says (headed_texts (Some head) batches) content s.0 s.1)

    pub head_rests : (after : List ℕ) (images : Images) → after ≡ content → (IsTrue tells → Only content images) → Rests tells end after images (headed_texts (Some head) batches)
    head_rests after images same durable = rests_behind tells content after images end (headed_texts (Some head) batches) far shut same durable

  pub damaged_behind : (at : ℕ) → IsTrue tells → IsDamagedFrom content w.place at → IsDamagedBehind content at
  damaged_behind at told d =
      let o = read.opens told in
      record {
        head = head;
        head_is = read.head_is;
        batches = d.batches;
        batches_are = d.batches_are;
        gate = d.gate;
        rest = d.rest;
        opens = (o.0, o.1, o.2, o.3, subst (λ (l : List ℕ). Opens (map lines d.batches) l (d.gate ∷ d.rest)) (sym o.4) d.opens);
        is_open = d.is_open;
        place = d.place;
        unfollowed = d.unfollowed;
      }

-- no text, and a closed gate
pub none_holds : (content : List ℕ) → (rest : List ℕ) × (content ≡ 0 ∷ rest) → Holds [] content
none_holds content shut = holds_of [] content (shut.0, shut.1)

pub none_rests : (tells : Bool) (content after : List ℕ) (images : Images) → (IsTrue tells → (rest : List ℕ) × (content ≡ 0 ∷ rest)) → after ≡ content → (IsTrue tells → Only content images) → Rests tells 0 after images []
none_rests tells content after images shut same durable = rests_behind tells content after images 0 [] refl shut same durable
