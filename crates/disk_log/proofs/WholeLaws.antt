-- An image of a log with a head is read as nothing else.
use Rattle.std.proofs.Common.{◌≡◌, ◌⊎◌, inl, inr, ℕ, ◌+◌, ◌<◌, List, [], ◌∷◌, ◌++◌, length, map, sym, ◌∙◌, ap, subst, arith}
use Rattle.std.specs.Prelude.{Option, None, Some}
use Rattle.yard_model.specs.declared.fact.Fact.{Fact}
use Rattle.disk_log.specs.Frames.{framed, Holds, Says}
use Rattle.disk_log.specs.Headed.{IsDamagedBehind, IsHead, IsHeadDamaged, IsHeaded, IsHeadless, IsLongHead, headed_texts}
use Rattle.disk_log.specs.Spelled.{lines, AreBatches, Opens}
use Rattle.disk_log.proofs.SpellLaws.{frame_behind, frame_one, holds_says, length-frame, not_both, says_some}

-- an image at whose front a text stands has two bytes or more
long_of : (image text more : List ℕ) (gate : ℕ) → image ≡ gate ∷ (framed text ++ more) → 1 < length image
long_of image text more gate is = omega (arith, ap length is, length-frame text more)

-- a gate at the front isn't both closed and open
both_gates : (image rest more : List ℕ) (gate : ℕ) → image ≡ 0 ∷ rest → image ≡ gate ∷ more → 0 < gate → ⊥
both_gates image rest more gate shut is is_open =
    let e : 0 ∷ rest ≡ gate ∷ more = sym shut ∙ is in
    let none : 0 ≡ gate = cc in
    omega (arith, none, is_open)

-- what stands behind two gates at the front is one
behind_gate : (image a b : List ℕ) (gate door : ℕ) → image ≡ gate ∷ a → image ≡ door ∷ b → a ≡ b
behind_gate image a b gate door one other = let e : gate ∷ a ≡ door ∷ b = sym one ∙ other in cc

module _ (image : List ℕ) where
  none_headless : Holds [] image → IsHeadless image → ⊥
  none_headless holds h = let s = holds_says [] image h.long holds in both_gates image s.0 h.rest h.gate s.1 h.bytes h.is_open

  none_opens : Holds [] image → (text more : List ℕ) (gate : ℕ) → 0 < gate → image ≡ gate ∷ (framed text ++ more) → ⊥
  none_opens holds text more gate is_open is =
      let s = holds_says [] image (long_of image text more gate is) holds in
      both_gates image s.0 (framed text ++ more) gate s.1 is is_open

  module _ (head : List ℕ) (batches : List (List Fact)) (is : IsHead head) (are : AreBatches batches) (holds : Holds (head ∷ map lines batches) image) where
    some_headless : IsHeadless image → ⊥
    some_headless h =
        let s = holds_says (head ∷ map lines batches) image h.long holds in
        h.textless head s.1 is.text (says_some (map lines batches) s.1 s.4) (behind_gate image h.rest (framed head ++ s.1) h.gate s.0 h.bytes s.3)

    some_long : IsLongHead image → ⊥
    some_long l =
        let o = l.opens in
        let s = holds_says (head ∷ map lines batches) image (long_of image l.text o.1 o.0 o.3) holds in
        let same : head ≡ l.text = frame_one head l.text s.1 o.1 is.text l.text_is (behind_gate image (framed head ++ s.1) (framed l.text ++ o.1) s.0 o.0 s.3 o.3) in
        omega (arith, ap length same, is.few, l.long)

    some_behind : (at : ℕ) → IsDamagedBehind image at → ⊥
    some_behind at d =
        let o = d.opens in
        let s = holds_says (head ∷ map lines batches) image (long_of image d.head o.1 o.0 o.3) holds in
        let more : o.1 ≡ s.1 = frame_behind d.head head o.1 s.1 d.head_is.text is.text (behind_gate image (framed d.head ++ o.1) (framed head ++ s.1) o.0 s.0 o.3 s.3) in
        not_both d.batches batches o.1 d.rest d.gate d.batches_are are o.4 d.is_open d.unfollowed (subst (Says (map lines batches)) (sym more) s.4)

pub whole_log : (image : List ℕ) (head : Option (List ℕ)) (batches : List (List Fact)) (at : ℕ) → IsHeaded head batches → Holds (headed_texts head batches) image → IsHeadDamaged image at → ⊥
whole_log image None batches at is holds (inl h) = none_headless image (subst (λ bs. Holds (map lines bs) image) is holds) h.1
whole_log image None batches at is holds (inr d) = let o = d.opens in none_opens image (subst (λ bs. Holds (map lines bs) image) is holds) d.head o.1 o.0 o.2 o.3
whole_log image (Some head) batches at is holds (inl h) = some_headless image head batches is.0 is.1 holds h.1
whole_log image (Some head) batches at is holds (inr d) = some_behind image head batches is.0 is.1 holds at d

pub short_head : (image : List ℕ) (head : Option (List ℕ)) (batches : List (List Fact)) → IsHeaded head batches → Holds (headed_texts head batches) image → IsLongHead image → ⊥
short_head image None batches is holds l = let o = l.opens in none_opens image (subst (λ bs. Holds (map lines bs) image) is holds) l.text o.1 o.0 o.2 o.3
short_head image (Some head) batches is holds l = some_long image head batches is.0 is.1 holds l
