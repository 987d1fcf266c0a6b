-- What images spell: frames are read in one way, and batches one after the other.
use Rattle.std.proofs.Common.{◌≡◌, ℕ, zero, suc, ◌+◌, ◌-◌, ◌<◌, ◌≤◌, List, [], ◌∷◌, ◌++◌, length, map, take, drop, get_or, inl, inr, refl, sym, ◌∙◌, ap, subst, arith, length-append, append_assoc, take-append-drop, length-take-le}
use Rattle.std.specs.Int.{w32, to_be_bytes, from_be_bytes}
use Rattle.std.proofs.lemmas.Nat.{be_bytes_4, from_be_bytes-to_be_bytes_4}
use Rattle.std.proofs.lemmas.List.{take_at, drop_at, append_cancel_left, drop_more, get_or-take, get_or_past, map_push, take-map, length-map}
use Rattle.std.proofs.lemmas.Bool.{cases_lt}
use Rattle.std.specs.Prelude.{slice_index, true}
use Rattle.std.specs.List.{list_all}
use Rattle.fact_lines.specs.Entry.{is_entry}
use Rattle.yard_model.specs.declared.fact.Fact.{Fact}
use Rattle.disk_log.specs.Frames.{framed, Says, Holds, IsText}
use Rattle.disk_log.specs.Spelled.{lines, IsBatch, AreBatches, Spells, Opens, IsFollowed, IsUnfollowed, IsDamaged, SpellsPrefix}
use Rattle.disk_log.specs.Rest.{HoldsPrefix}
use Rattle.disk_log.proofs.FrameLaws.{opens_more}

-- the length that a frame says
pub frame_size : (bytes text more : List ℕ) → IsText text → bytes ≡ framed text ++ more → from_be_bytes w32 (take 4 bytes) ≡ length text
frame_size bytes text more fits is =
    ap (λ (l : List ℕ). from_be_bytes w32 (take 4 l)) (is ∙ append_assoc (to_be_bytes w32 (length text)) text more)
    ∙ (ap (from_be_bytes w32) (take_at (to_be_bytes w32 (length text)) (text ++ more) 4 refl) ∙ from_be_bytes-to_be_bytes_4 (length text) fits.fits)

pub frame_tail : (bytes text more : List ℕ) → bytes ≡ framed text ++ more → drop 4 bytes ≡ text ++ more
frame_tail bytes text more is =
    ap (λ (l : List ℕ). drop 4 l) (is ∙ append_assoc (to_be_bytes w32 (length text)) text more) ∙ drop_at (to_be_bytes w32 (length text)) (text ++ more) 4 refl

pub length-frame : (text more : List ℕ) → length (framed text ++ more) ≡ 4 + length text + length more
length-frame text more = length-append (framed text) more ∙ omega (arith, length-append (to_be_bytes w32 (length text)) text)

-- two readings of a frame are one
pub frame_one : (a b x y : List ℕ) → IsText a → IsText b → framed a ++ x ≡ framed b ++ y → a ≡ b
frame_one a b x y fa fb is =
    let same : length a ≡ length b = sym (frame_size (framed a ++ x) a x fa refl) ∙ frame_size (framed a ++ x) b y fb is in
    let tails : a ++ x ≡ b ++ y = sym (frame_tail (framed a ++ x) a x refl) ∙ frame_tail (framed a ++ x) b y is in
    sym (take_at a x (length a) refl) ∙ (ap (take (length a)) tails ∙ take_at b y (length a) (sym same))

-- what a length and enough bytes behind it say
pub frame_found : (bytes : List ℕ) (n : ℕ) → ((i : ℕ) → get_or bytes i 0 < 256) → 4 ≤ length bytes → n ≡ from_be_bytes w32 (take 4 bytes) → n ≤ length (drop 4 bytes)
    → bytes ≡ framed (take n (drop 4 bytes)) ++ drop n (drop 4 bytes)
frame_found bytes n small long is fits =
    let text = take n (drop 4 bytes) in
    let size : length text ≡ n = length-take-le n (drop 4 bytes) fits in
    let front : to_be_bytes w32 n ≡ take 4 bytes = be_bytes_4 (take 4 bytes) n (length-take-le 4 bytes long) (λ i. take_small i) is in
    sym (take-append-drop 4 bytes) ∙ (ap (λ (l : List ℕ). l ++ drop 4 bytes) (sym front ∙ ap (to_be_bytes w32) (sym size))
    ∙ (ap (λ (l : List ℕ). to_be_bytes w32 (length text) ++ l) (sym (take-append-drop n (drop 4 bytes))) ∙ sym (append_assoc (to_be_bytes w32 (length text)) text (drop n (drop 4 bytes)))))
  where
    take_small : (i : ℕ) → get_or (take 4 bytes) i 0 < 256
    take_small i = elim (cases_lt i 4) [
      | inl inside ↦ rw get_or-take (small i)
      | inr past ↦ omega (arith, get_or_past (take 4 bytes) i 0 (omega (arith, past, length-take-le 4 bytes long)))
    ]

pub opens_shorter : (texts : List (List ℕ)) (image rest : List ℕ) → Opens texts image rest → length rest ≤ length image
opens_shorter [] image rest opens = omega (arith, ap length opens)
opens_shorter (t ∷ texts) image rest opens =
    omega (arith, opens_shorter texts opens.1 rest opens.4, ap length opens.3, length-frame t opens.1)

pub are_more : (batches : List (List Fact)) (facts : List Fact) → AreBatches batches → IsBatch facts → AreBatches (batches ++ facts ∷ [])
are_more [] facts are is = (is, tt)
are_more (b ∷ batches) facts are is = (are.0, are_more batches facts are.1 is)

pub text_of_batch : (facts : List Fact) → IsBatch facts → IsText (lines facts)
text_of_batch facts is = record { some = is.some; fits = is.fits }

pub batch_of_one : (bytes text behind : List ℕ) → IsText text → bytes ≡ framed text ++ behind → ((facts : List Fact) → IsBatch facts → text ≡ lines facts → ⊥) → IsUnfollowed bytes
batch_of_one bytes text behind fits is none facts other f =
    none facts f.batch (frame_one text (lines facts) behind other fits (text_of_batch facts f.batch) (sym is ∙ f.frame))

pub none_followed : (bytes : List ℕ) → ((text more : List ℕ) → IsText text → 0 < length more → bytes ≡ framed text ++ more → ⊥) → IsUnfollowed bytes
none_followed bytes none facts behind f = none (lines facts) behind (text_of_batch facts f.batch) f.gate f.frame

-- an image of at most one byte
pub short_spells : (image : List ℕ) → length image ≤ 1 → Spells image []
short_spells [] short = record { batches_are = tt; texts = refl }
short_spells (g ∷ []) short = record { batches_are = tt; texts = refl }
short_spells (g ∷ h ∷ image) short = absurd (omega (arith, short))

-- a list that has a first item
pub first_and_rest : (rest : List ℕ) → 0 < length rest → rest ≡ slice_index rest 0 ∷ drop 1 rest
first_and_rest rest some = drop_more rest 0 0 some

-- one batch more behind its gate
pub more_batches : (batches : List (List Fact)) (facts : List Fact) (image rest tail behind : List ℕ) (gate : ℕ) → rest ≡ gate ∷ tail → 0 < gate → Opens (map lines batches) image rest
    → IsFollowed tail facts behind → Opens (map lines (batches ++ facts ∷ [])) image behind
more_batches batches facts image rest tail behind gate is is_open opens f =
    let here : rest ≡ gate ∷ (framed (lines facts) ++ behind) = is ∙ ap (λ (l : List ℕ). gate ∷ l) f.frame in
    subst (λ ts. Opens ts image behind) (sym (map_push lines batches facts))
    (opens_more (map lines batches) (lines facts) image behind gate is_open (subst (Opens (map lines batches) image) here opens))

pub damaged_at : (batches : List (List Fact)) (image rest tail : List ℕ) (gate at : ℕ) → rest ≡ gate ∷ tail → 0 < gate → AreBatches batches → Opens (map lines batches) image rest
    → 1 < length image → at ≡ length image - length rest → IsUnfollowed tail → IsDamaged image at
damaged_at batches image rest tail gate at is is_open are opens long place none = record {
  batches = batches;
  batches_are = are;
  gate = gate;
  rest = tail;
  opens = subst (Opens (map lines batches) image) is opens;
  is_open = is_open;
  place = omega (arith, place, ap length is, opens_shorter (map lines batches) image rest opens);
  long = long;
  unfollowed = none;
}

pub says_some : (texts : List (List ℕ)) (bytes : List ℕ) → Says texts bytes → 0 < length bytes
says_some [] bytes says = omega (arith, ap length says.1)
says_some (t ∷ texts) bytes says = omega (arith, ap length says.3)

-- what stands behind two readings of a frame is one
pub frame_behind : (a b x y : List ℕ) → IsText a → IsText b → framed a ++ x ≡ framed b ++ y → x ≡ y
frame_behind a b x y fa fb is =
    append_cancel_left (framed a) x y (is ∙ ap (λ (l : List ℕ). framed l ++ y) (sym (frame_one a b x y fa fb is)))

-- batches of which a text is empty aren't known by it, but their frames are the same
pub not_both : (batches others : List (List Fact)) (image rest : List ℕ) (gate : ℕ) → AreBatches batches → AreBatches others → Opens (map lines batches) image (gate ∷ rest) → 0 < gate → IsUnfollowed rest
    → Says (map lines others) image → ⊥
not_both [] [] image rest gate are too opens is_open none says = let e : gate ∷ rest ≡ 0 ∷ says.0 = sym opens ∙ says.1 in let g : gate ≡ 0 = cc in omega (arith, g, is_open)
not_both [] (o ∷ others) image rest gate are too opens is_open none says =
    let e : gate ∷ rest ≡ says.0 ∷ (framed (lines o) ++ says.1) = sym opens ∙ says.3 in
    let r : rest ≡ framed (lines o) ++ says.1 = cc in
    none o says.1 (record { batch = too.0; frame = r; gate = says_some (map lines others) says.1 says.4 })
not_both (b ∷ batches) [] image rest gate are too opens is_open none says =
    let e : opens.0 ∷ (framed (lines b) ++ opens.1) ≡ 0 ∷ says.0 = sym opens.3 ∙ says.1 in let g : opens.0 ≡ 0 = cc in omega (arith, g, opens.2)
not_both (b ∷ batches) (o ∷ others) image rest gate are too opens is_open none says =
    let e : opens.0 ∷ (framed (lines b) ++ opens.1) ≡ says.0 ∷ (framed (lines o) ++ says.1) = sym opens.3 ∙ says.3 in
    let r : framed (lines b) ++ opens.1 ≡ framed (lines o) ++ says.1 = cc in
    let same : opens.1 ≡ says.1 = frame_behind (lines b) (lines o) opens.1 says.1 (text_of_batch b are.0) (text_of_batch o too.0) r in
    not_both batches others opens.1 rest gate are.1 too.1 opens.4 is_open none (subst (Says (map lines others)) (sym same) says.4)

pub holds_says : (texts : List (List ℕ)) (image : List ℕ) → 1 < length image → Holds texts image → Says texts image
holds_says texts [] long holds = absurd (omega (arith, long))
holds_says texts (g ∷ []) long holds = absurd (omega (arith, long))
holds_says texts (g ∷ h ∷ image) long holds = holds

pub spelled_whole : (image : List ℕ) (batches : List (List Fact)) (at : ℕ) → Spells image batches → IsDamaged image at → ⊥
spelled_whole image batches at spells bad =
    not_both bad.batches batches image bad.rest bad.gate bad.batches_are spells.batches_are bad.opens bad.is_open bad.unfollowed (holds_says (map lines batches) image bad.long spells.texts)

-- two places behind which nothing follows have the same rest
same_rest : (batches others : List (List Fact)) (image rest more : List ℕ) (gate door : ℕ) → AreBatches batches → AreBatches others → Opens (map lines batches) image (gate ∷ rest)
    → Opens (map lines others) image (door ∷ more) → IsUnfollowed rest → IsUnfollowed more → length rest ≡ length more
same_rest [] [] image rest more gate door are too opens doors none nor = let e : gate ∷ rest ≡ door ∷ more = sym opens ∙ doors in let r : rest ≡ more = cc in ap length r
same_rest [] (o ∷ others) image rest more gate door are too opens doors none nor =
    let e : gate ∷ rest ≡ doors.0 ∷ (framed (lines o) ++ doors.1) = sym opens ∙ doors.3 in
    let r : rest ≡ framed (lines o) ++ doors.1 = cc in
    absurd (none o doors.1 (record { batch = too.0; frame = r; gate = omega (arith, opens_shorter (map lines others) doors.1 (door ∷ more) doors.4) }))
same_rest (b ∷ batches) [] image rest more gate door are too opens doors none nor =
    let e : door ∷ more ≡ opens.0 ∷ (framed (lines b) ++ opens.1) = sym doors ∙ opens.3 in
    let r : more ≡ framed (lines b) ++ opens.1 = cc in
    absurd (nor b opens.1 (record { batch = are.0; frame = r; gate = omega (arith, opens_shorter (map lines batches) opens.1 (gate ∷ rest) opens.4) }))
same_rest (b ∷ batches) (o ∷ others) image rest more gate door are too opens doors none nor =
    let e : opens.0 ∷ (framed (lines b) ++ opens.1) ≡ doors.0 ∷ (framed (lines o) ++ doors.1) = sym opens.3 ∙ doors.3 in
    let r : framed (lines b) ++ opens.1 ≡ framed (lines o) ++ doors.1 = cc in
    let same : opens.1 ≡ doors.1 = frame_behind (lines b) (lines o) opens.1 doors.1 (text_of_batch b are.0) (text_of_batch o too.0) r in
    same_rest batches others opens.1 rest more gate door are.1 too.1 opens.4 (subst (λ (l : List ℕ). Opens (map lines others) l (door ∷ more)) (sym same) doors.4) none nor

pub damaged_once : (image : List ℕ) (at other : ℕ) → IsDamaged image at → IsDamaged image other → at ≡ other
damaged_once image at other a b =
    omega (arith, a.place, b.place, same_rest a.batches b.batches image a.rest b.rest a.gate b.gate a.batches_are b.batches_are a.opens b.opens a.unfollowed b.unfollowed)

are_first : (n : ℕ) (batches : List (List Fact)) → AreBatches batches → AreBatches (take n batches)
are_first zero batches are = tt
are_first (suc n) [] are = tt
are_first (suc n) (b ∷ batches) are = (are.0, are_first n batches are.1)

-- what holds the first texts spells the first batches
pub spells_prefix : (batches : List (List Fact)) (least : ℕ) (image : List ℕ) → AreBatches batches → HoldsPrefix (map lines batches) least image → SpellsPrefix batches least image
spells_prefix batches least image are p = record {
  count = p.count;
  at_least = p.at_least;
  at_most = omega (arith, p.at_most, length-map batches lines);
  spells = record {
    batches_are = are_first p.count batches are;
    texts = subst (λ ts. Holds ts image) (take-map lines p.count batches) p.holds;
  };
}

-- each batch has entries
pub entries_of : (batches : List (List Fact)) (k : ℕ) (d : List Fact) → k < length batches → AreBatches batches → list_all is_entry (get_or batches k d) ≡ true
entries_of [] k d inside are = absurd (omega (arith, inside))
entries_of (b ∷ batches) zero d inside are = are.0.entries
entries_of (b ∷ batches) (suc k) d inside are = entries_of batches k d (omega (arith, inside)) are.1
