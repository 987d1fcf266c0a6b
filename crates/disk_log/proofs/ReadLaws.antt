-- Bytes that are read ahead, and what they tell of the disk.
use Rattle.std.proofs.Common.{◌≡◌, ◌⊎◌, inl, inr, ℕ, ◌+◌, ◌-◌, ◌<◌, ◌≤◌, ◌^◌, Bool, true, List, [], ◌∷◌, ◌++◌, length, take, drop, min, get_or, refl, sym, ◌∙◌, ap, subst, arith, length-append, append_assoc, take-append-drop, length-take-le}
use Rattle.std.specs.Prelude.{IsTrue, Result, Ok, Err, IfOk}
use Rattle.std.specs.Int.{w32, to_be_bytes, from_be_bytes}
use Rattle.std.specs.List.{list_all}
use Rattle.std.proofs.lemmas.Bool.{cases_lt}
use Rattle.std.proofs.lemmas.Nat.{be_bytes_4, from_be_bytes-to_be_bytes_4}
use Rattle.std.proofs.lemmas.List.{length-take, length-drop, take_at, drop_at, drop-drop, drop-append-le, take-append-le, append-nil, get_or-take, get_or-drop, get_or_past}
use Rattle.std.proofs.Math.Seq.{take-append-add}
use Rattle.yard_model.specs.declared.fact.Fact.{Fact}
use Rattle.yard_model.specs.Text.{fact_line, fact_words, words}
use Rattle.fact_lines.specs.Entry.{is_entry}
use Rattle.fact_lines.specs.Entries.{IsNoEntry, IsOther, Took, TookSo}
use Rattle.fact_lines.proofs.TextLaws.{other_text, took_more}
use Rattle.disk_log.specs.Images.{Images}
use Rattle.disk_log.specs.Frames.{framed}
use Rattle.disk_log.specs.Headed.{IsTextless}
use Rattle.disk_log.specs.Spelled.{lines, IsUnfollowed}
use Rattle.disk_log.specs.Window.{Ahead, IsAhead, IsUntouched, Came, Filled, TookFront, Passed, ReadFacts, IsSize, ReadBatch}
use Rattle.disk_log.proofs.LineLaws.{no_entry_more}
use Rattle.disk_log.proofs.SpellLaws.{frame_size, frame_tail, text_of_batch, length-frame}

-- what an answer says says something else
pub on_ok : {X E : Type 0} {P Q : X → Type 0} (r : Result X E) → ((x : X) → P x → Q x) → IfOk r P → IfOk r Q
on_ok (Ok x) f h = f x h
on_ok (Err e) f h = tt

pub untouched_same : (content : List ℕ) (images : Images) → IsUntouched content content images images
untouched_same content images = record {
  bytes = refl;
  now = λ d. (λ x. x, λ x. x);
  time = record { later = omega arith; nothing_else = λ t c le left. inl left; keeps = λ t c le left. left };
}

pub untouched_then : (a b c : List ℕ) (old mid new : Images) → IsUntouched a b old mid → IsUntouched b c mid new → IsUntouched a c old new
untouched_then a b c old mid new f g = record {
  bytes = g.bytes ∙ f.bytes;
  now = λ d. (λ x. (f.now d).0 ((g.now d).0 x), λ x. (g.now d).1 ((f.now d).1 x));
  time = record {
    later = omega (arith, f.time.later, g.time.later);
    nothing_else = λ t d le left. late t d le (g.time.nothing_else t d (omega (arith, le, f.time.later)) left);
    keeps = λ t d le left. g.time.keeps t d (omega (arith, le, f.time.later)) (f.time.keeps t d le left);
  };
}
  where
    early : (d : List ℕ) (P : Type 0) → P ⊎ mid.now d → P ⊎ new.now d
    early d P (inl x) = inl x
    early d P (inr n) = inr ((g.now d).1 n)

    late : (t : ℕ) (d : List ℕ) → t ≤ old.moment → mid.since t d ⊎ new.now d → old.since t d ⊎ new.now d
    late t d le (inl s) = early d (old.since t d) (f.time.nothing_else t d le s)
    late t d le (inr n) = inr n

-- what stands behind a front
pub behind_front : (xs a y : List ℕ) (k : ℕ) → xs ≡ a ++ y → length a ≡ k → xs ≡ a ++ drop k xs
behind_front xs a y k is long = is ∙ ap (λ (l : List ℕ). a ++ l) (sym (ap (drop k) is ∙ drop_at a y k long))

module _ (tells : Bool) (content : List ℕ) (w : Ahead) (ahead : IsAhead tells content w) where
  abbrev passed_by : ℕ → Ahead
  passed_by count = record { size = w.size; place = w.place + count; bytes = drop count w.bytes }

  pub pass_ahead : (count : ℕ) → count ≤ length w.bytes → IsAhead tells content (passed_by count)
  pass_ahead count le = record {
    within = omega (arith, ahead.within, le, length-drop count w.bytes);
    size = ahead.size;
    front = λ told. (
      (ahead.front told).0,
      sym (drop-drop count w.place content) ∙ (ap (drop count) (ahead.front told).1 ∙ drop-append-le count w.bytes (ahead.front told).0 le),
    );
  }

  -- what stands behind the bytes at hand
  behind_hand : (told : IsTrue tells) → drop (w.place + length w.bytes) content ≡ (ahead.front told).0
  behind_hand told = sym (drop-drop (length w.bytes) w.place content) ∙ (ap (drop (length w.bytes)) (ahead.front told).1 ∙ drop_at w.bytes (ahead.front told).0 (length w.bytes) refl)

  -- a read at the end of what is at hand
  pub came : (new : Ahead) (end come count : ℕ) (space : List ℕ) → end ≡ w.place + length w.bytes → end < w.size → come ≤ length space → (IsTrue tells → come ≤ length content - end)
      → (IsTrue tells → end < length content → 0 < length space → 0 < come) → 0 < length space → (IsTrue tells → take come space ≡ take come (drop end content))
      → count ≡ min come (w.size - end) → new.size ≡ w.size → new.place ≡ w.place → new.bytes ≡ w.bytes ++ take count space → Came tells content count w new
  came new end come count space end_is within fits there some room front count_is size place bytes = record {
    ahead = record {
      within = omega (arith, long, size, place, count_is, end_is, within);
      size = λ told. size ∙ ahead.size told;
      front = λ told. (drop come (ahead.front told).0, on told);
    };
    size = size;
    place = place;
    length_is = long;
    some = λ told. omega (arith, some told (omega (arith, ahead.size told, within)) room, count_is, within);
  }
    where
      long : length new.bytes ≡ length w.bytes + count
      long = ap length bytes ∙ (length-append w.bytes (take count space) ∙ omega (arith, length-take count space, count_is, fits))

      on : (told : IsTrue tells) → drop new.place content ≡ new.bytes ++ drop come (ahead.front told).0
      on told =
          let rest : List ℕ = (ahead.front told).0 in
          let all : count ≡ come = omega (arith, count_is, there told, ahead.size told) in
          let read : take count space ≡ take come rest = ap (λ k. take k space) all ∙ (front told ∙ ap (take come) (ap (λ k. drop k content) end_is ∙ behind_hand told)) in
          ap (λ k. drop k content) place ∙ ((ahead.front told).1 ∙ (ap (λ (l : List ℕ). w.bytes ++ l) (sym (take-append-drop come rest))
          ∙ (sym (append_assoc w.bytes (take come rest) (drop come rest)) ∙ ap (λ (l : List ℕ). l ++ drop come rest) (ap (λ (l : List ℕ). w.bytes ++ l) (sym read) ∙ sym bytes))))

-- bytes that are being read: so many at least came
pub record Filling (tells : Bool) (content : List ℕ) (far : ℕ) (old new : Ahead) : Type 0 where
  pub ahead : IsAhead tells content new
  pub size : new.size ≡ old.size
  pub place : new.place ≡ old.place
  pub reach : IsTrue tells → far ≤ length new.bytes

pub fills : (tells : Bool) (content : List ℕ) (old new : Ahead) → IsAhead tells content old → new ≡ old → Filling tells content 0 old new
fills tells content old new ahead same = record {
  ahead = subst (IsAhead tells content) (sym same) ahead;
  size = ap (λ (w : Ahead). w.size) same;
  place = ap (λ (w : Ahead). w.place) same;
  reach = λ told. omega arith;
}

module _ (tells : Bool) (content : List ℕ) (far : ℕ) (old mid : Ahead) (filling : Filling tells content far old mid) where
  pub fills_on : (other : List ℕ) (count : ℕ) (new : Ahead) → other ≡ content → Came tells other count mid new → Filling tells content (far + 1) old new
  fills_on other count new same more =
      let c : Came tells content count mid new = subst (λ xs. Came tells xs count mid new) same more in
      record {
        ahead = c.ahead;
        size = c.size ∙ filling.size;
        place = c.place ∙ filling.place;
        reach = λ told. omega (arith, filling.reach told, c.length_is, c.some told);
      }

  pub filled : (want : ℕ) → (IsTrue tells → (want ≤ length mid.bytes) ⊎ (mid.size ≤ mid.place + length mid.bytes)) → Filled tells content want old mid
  filled want enough = record { ahead = filling.ahead; size = filling.size; place = filling.place; enough = enough }

-- nothing came
pub none_came : (tells : Bool) (content : List ℕ) (far want count : ℕ) (old mid new : Ahead) → Filling tells content far old mid → (other : List ℕ) → other ≡ content → Came tells other count mid new → count ≡ 0 → Filled tells content want old new
none_came tells content far want count old mid new filling other same more none =
    let f = fills_on tells content far old mid filling other count new same more in
    filled tells content (far + 1) old new f want (λ told. absurd (omega (arith, more.some told, none)))

some_line : (f : Fact) → 0 < length (fact_line f)
some_line f = omega (arith, length-append (words (fact_words f)) (10 ∷ []))

pub took_less : (bytes : List ℕ) (old new : List Fact) (rest : List ℕ) → Took bytes old new rest → length rest ≤ length bytes
took_less bytes old new rest t = omega (arith, ap length t.line, length-append (fact_line t.fact) rest)

pub took_front : (bytes : List ℕ) (old new : List Fact) (rest : List ℕ) (used : ℕ) → Took bytes old new rest → used ≡ length bytes - length rest → TookFront bytes old new used
took_front bytes old new rest used t is = record { rest = rest; took = t; used_is = omega (arith, is, took_less bytes old new rest t) }

-- an entry, of what is at hand
module _ (tells : Bool) (content : List ℕ) (left have : ℕ) (old mid : Ahead) (filled : Filled tells content 1024 old mid) (have_is : have ≡ min left (length mid.bytes)) where
  pub passed : (used : ℕ) (new : Ahead) (facts more : List Fact) → TookFront (take have mid.bytes) facts more used
      → new ≡ record { size = mid.size; place = mid.place + used; bytes = drop used mid.bytes } → Passed tells content left used old new facts more
  passed used new facts more t is = record {
    fact = t.took.fact;
    entry = t.took.entry;
    facts_are = t.took.facts;
    used_is = used_is;
    some = omega (arith, used_is, some_line t.took.fact);
    fits = omega (arith, reach, have_is, t.used_is);
    ahead = subst (λ v. IsAhead tells content v) (sym is) (pass_ahead tells content mid filled.ahead used (omega (arith, reach, have_is, t.used_is)));
    size = ap (λ (v : Ahead). v.size) is ∙ filled.size;
    place = ap (λ (v : Ahead). v.place) is ∙ ap (λ k. k + used) filled.place;
    line = line;
  }
    where
      reach : length (take have mid.bytes) ≡ have
      reach = length-take have mid.bytes ∙ omega (arith, have_is)

      used_is : used ≡ length (fact_line t.took.fact)
      used_is = omega (arith, t.used_is, ap length t.took.line, length-append (fact_line t.took.fact) t.rest)

      line : IsTrue tells → drop old.place content ≡ fact_line t.took.fact ++ drop new.place content
      line told =
          let rest : List ℕ = (filled.ahead.front told).0 in
          let hand : mid.bytes ≡ (fact_line t.took.fact ++ t.rest) ++ drop have mid.bytes = sym (take-append-drop have mid.bytes) ∙ ap (λ (l : List ℕ). l ++ drop have mid.bytes) t.took.line in
          let whole : drop mid.place content ≡ fact_line t.took.fact ++ (t.rest ++ (drop have mid.bytes ++ rest)) =
          (filled.ahead.front told).1 ∙ (ap (λ (l : List ℕ). l ++ rest) hand ∙ (append_assoc (fact_line t.took.fact ++ t.rest) (drop have mid.bytes) rest ∙ append_assoc (fact_line t.took.fact) t.rest (drop have mid.bytes ++ rest))) in
          let same : drop old.place content ≡ drop mid.place content = ap (λ k. drop k content) (sym filled.place) in
          same ∙ (behind_front (drop mid.place content) (fact_line t.took.fact) (t.rest ++ (drop have mid.bytes ++ rest)) used whole (sym used_is)
          ∙ ap (λ (l : List ℕ). fact_line t.took.fact ++ l) (drop-drop used mid.place content ∙ ap (λ k. drop k content) (sym (ap (λ (v : Ahead). v.place) is))))

  pub no_entry : old.place + left < old.size → IsNoEntry (take have mid.bytes) → IsTrue tells → IsNoEntry (take left (drop old.place content))
  no_entry fits none told =
      let more = no_entry_more mid.bytes (drop mid.place content) (filled.ahead.front told).0 left have (filled.ahead.front told).1 (omega (arith, have_is)) (omega (arith, have_is)) enough none in
      subst (λ k. IsNoEntry (take left (drop k content))) filled.place more
    where
      reached : (1024 ≤ length mid.bytes) ⊎ (mid.size ≤ mid.place + length mid.bytes) → length mid.bytes < left → 1024 ≤ have
      reached (inl e) less = omega (arith, e, have_is, less)
      reached (inr e) less = omega (arith, e, less, fits, filled.size, filled.place)

      enough : (have ≡ left) ⊎ (1024 ≤ have)
      enough = elim (cases_lt (length mid.bytes) left) [
        | inl less ↦ inr (reached (filled.enough told) less)
        | inr all ↦ inl (omega (arith, have_is, all))
      ]

lines_end : (facts : List Fact) (rest : List ℕ) (left : ℕ) (text : List ℕ) (n : ℕ) → text ≡ lines facts ++ rest → n ≡ length (lines facts) + left → take n text ≡ lines facts ++ take left rest
lines_end facts rest left text n is count = ap (take n) is ∙ (ap (λ k. take k (lines facts ++ rest)) count ∙ take-append-add (lines facts) rest left)

-- entries of a text, so far
pub record SoFar (tells : Bool) (content : List ℕ) (n left : ℕ) (old new : Ahead) (facts : List Fact) : Type 0 where
  pub entries : list_all is_entry facts ≡ true
  pub count : n ≡ length (lines facts) + left
  pub ahead : IsAhead tells content new
  pub size : new.size ≡ old.size
  pub place : new.place + left ≡ old.place + n
  pub text : IsTrue tells → drop old.place content ≡ lines facts ++ drop new.place content

pub none_yet : (tells : Bool) (content : List ℕ) (n : ℕ) (old : Ahead) (facts : List Fact) → IsAhead tells content old → facts ≡ [] → SoFar tells content n n old old facts
none_yet tells content n old facts ahead none =
    subst (λ l. SoFar tells content n n old old l) (sym none) (record { entries = refl; count = omega arith; ahead = ahead; size = refl; place = refl; text = λ told. refl })

module _ (tells : Bool) (content : List ℕ) (n left : ℕ) (old mid : Ahead) (facts : List Fact) (so_far : SoFar tells content n left old mid facts) where
  pub one_more : (used : ℕ) (new : Ahead) (more : List Fact) → Passed tells content left used mid new facts more → SoFar tells content n (left - used) old new more
  one_more used new more p =
      let took : TookSo (lines facts ++ (fact_line p.fact ++ [])) more [] = took_more (lines facts ++ (fact_line p.fact ++ [])) facts more (fact_line p.fact ++ []) []
      (record { each = so_far.entries; lines = refl }) (record { fact = p.fact; entry = p.entry; facts = p.facts_are; line = refl }) in
      let grown : lines more ≡ lines facts ++ fact_line p.fact = sym (append-nil (lines more)) ∙ (sym took.lines ∙ ap (λ (l : List ℕ). lines facts ++ l) (append-nil (fact_line p.fact))) in
      record {
        entries = took.each;
        count = omega (arith, so_far.count, ap length grown, length-append (lines facts) (fact_line p.fact), p.used_is, p.fits);
        ahead = p.ahead;
        size = p.size ∙ so_far.size;
        place = omega (arith, so_far.place, p.place, p.fits);
        text = λ told. so_far.text told ∙ (ap (λ (l : List ℕ). lines facts ++ l) (p.line told) ∙ (sym (append_assoc (lines facts) (fact_line p.fact) (drop new.place content))
            ∙ ap (λ (l : List ℕ). l ++ drop new.place content) (sym grown)));
      }

  pub all_read : left ≡ 0 → ReadFacts tells content n old mid facts
  all_read none = record {
    entries = so_far.entries;
    text_size = omega (arith, so_far.count, none);
    ahead = so_far.ahead;
    size = so_far.size;
    place = omega (arith, so_far.place, none);
    text = so_far.text;
  }

  pub other_read : 0 < left → old.place + n < old.size → (IsTrue tells → IsNoEntry (take left (drop mid.place content))) → IsTrue tells → IsOther (take n (drop old.place content))
  other_read some fits none told =
      other_text (take n (drop old.place content)) facts (take left (drop mid.place content))
      (record { each = so_far.entries; lines = lines_end facts (drop mid.place content) left (drop old.place content) n (so_far.text told) so_far.count })
      (omega (arith, length-take left (drop mid.place content), length-drop mid.place content, so_far.ahead.size told, so_far.size, so_far.place, fits, some)) (none told)

five : (k : ℕ) → k + 1 + 4 ≡ k + 5
five k = omega arith

-- the gate's length
module _ (tells : Bool) (content : List ℕ) (old : Ahead) (ahead : IsAhead tells content old) (told : IsTrue tells) where
  abbrev tail : List ℕ
  tail = drop (old.place + 1) content

  tail_is : 1 ≤ length old.bytes → tail ≡ drop 1 old.bytes ++ (ahead.front told).0
  tail_is le = sym (drop-drop 1 old.place content) ∙ (ap (drop 1) (ahead.front told).1 ∙ drop-append-le 1 old.bytes (ahead.front told).0 le)

  four : 5 ≤ length old.bytes → take 4 tail ≡ take 4 (drop 1 old.bytes)
  four le = ap (take 4) (tail_is (omega (arith, le))) ∙ take-append-le 4 (drop 1 old.bytes) (ahead.front told).0 (omega (arith, le, length-drop 1 old.bytes))

  pub no_size : (5 ≤ length old.bytes) ⊎ (old.size ≤ old.place + length old.bytes) → 0 < length old.bytes → ((n : ℕ) → IsSize old.bytes (old.size - old.place) n → ⊥) → IsTextless tail
  no_size filled some none text behind fits gate frame =
      none (length text) (record {
        long = long;
        some = fits.some;
        fits = fits.fits;
        room = omega (arith, whole, gate);
        says = sym (four long) ∙ (ap (take 4) (frame ∙ append_assoc (to_be_bytes w32 (length text)) text behind) ∙ take_at (to_be_bytes w32 (length text)) (text ++ behind) 4 refl);
      })
    where
      whole : old.size - old.place ≡ 1 + (4 + length text + length behind)
      whole = omega (arith, ahead.size told, ahead.within, some, length-drop (old.place + 1) content, ap length frame, length-frame text behind)

      long_of : (5 ≤ length old.bytes) ⊎ (old.size ≤ old.place + length old.bytes) → 5 ≤ length old.bytes
      long_of (inl l) = l
      long_of (inr all) = omega (arith, all, whole)

      long : 5 ≤ length old.bytes
      long = long_of filled

  says_n : (n : ℕ) → IsSize old.bytes (old.size - old.place) n → tail ≡ to_be_bytes w32 n ++ drop (old.place + 5) content
  says_n n s =
      sym (take-append-drop 4 tail) ∙ (ap (λ (l : List ℕ). l ++ drop 4 tail) (four s.long ∙ s.says) ∙ ap (λ (l : List ℕ). to_be_bytes w32 n ++ l) (drop-drop 4 (old.place + 1) content ∙ ap (λ k. drop k content) (five old.place)))

  pub other_batch : (n : ℕ) → IsSize old.bytes (old.size - old.place) n → IsOther (take n (drop (old.place + 5) content)) → IsUnfollowed tail
  other_batch n s none facts behind f =
      none facts (record { each = f.batch.entries; lines = ap (λ k. take k (drop (old.place + 5) content)) same ∙ (ap (take (length (lines facts))) rest ∙ take_at (lines facts) behind (length (lines facts)) refl) })
    where
      same : n ≡ length (lines facts)
      same =
          let here : from_be_bytes w32 (take 4 tail) ≡ n = ap (from_be_bytes w32) (four s.long ∙ s.says) ∙ from_be_bytes-to_be_bytes_4 n s.fits in
          sym here ∙ frame_size tail (lines facts) behind (text_of_batch facts f.batch) f.frame

      rest : drop (old.place + 5) content ≡ lines facts ++ behind
      rest = ap (λ k. drop k content) (sym (five old.place)) ∙ (sym (drop-drop 4 (old.place + 1) content) ∙ frame_tail tail (lines facts) behind f.frame)

  pub text_frame : (n : ℕ) (text later : List ℕ) → IsSize old.bytes (old.size - old.place) n → length text ≡ n → drop (old.place + 5) content ≡ text ++ later → tail ≡ framed text ++ later
  text_frame n text later s count is =
      says_n n s ∙ (ap (λ (l : List ℕ). to_be_bytes w32 n ++ l) is ∙ (ap (λ k. to_be_bytes w32 k ++ (text ++ later)) (sym count) ∙ sym (append_assoc (to_be_bytes w32 (length text)) text later)))

-- the batch behind a gate was read
pub batch_read : (tells : Bool) (content : List ℕ) (n : ℕ) (old mid new : Ahead) (facts : List Fact) → IsAhead tells content old → IsSize old.bytes (old.size - old.place) n → mid.size ≡ old.size → mid.place ≡ old.place + 5
    → ReadFacts tells content n mid new facts → ReadBatch tells content old new facts
batch_read tells content n old mid new facts ahead s size place r = record {
  batch = record { entries = r.entries; some = omega (arith, r.text_size, s.some); fits = omega (arith, r.text_size, s.fits) };
  ahead = r.ahead;
  size = r.size ∙ size;
  place = omega (arith, r.place, place, r.text_size);
  within = omega (arith, r.place, place, r.size, size, s.room);
  frame = λ told. text_frame tells content old ahead told n (lines facts) (drop new.place content) s r.text_size (ap (λ k. drop k content) (sym place) ∙ r.text told);
}

-- a length that is said
pub size_said : (bytes : List ℕ) (left n : ℕ) → ((i : ℕ) → get_or bytes i 0 < 256) → 5 ≤ length bytes → n ≡ from_be_bytes w32 (take 4 (drop 1 bytes)) → 0 < n → n < 2 ^ 32 → n + 5 < left → IsSize bytes left n
size_said bytes left n small long is some fits room = record {
  long = long;
  some = some;
  fits = fits;
  room = room;
  says = sym (be_bytes_4 (take 4 (drop 1 bytes)) n four_long (λ i. take_small i) is);
}
  where
    four_long : length (take 4 (drop 1 bytes)) ≡ 4
    four_long = length-take-le 4 (drop 1 bytes) (omega (arith, long, length-drop 1 bytes))

    take_small : (i : ℕ) → get_or (take 4 (drop 1 bytes)) i 0 < 256
    take_small i = elim (cases_lt i 4) [
      | inl inside ↦ rw get_or-take (rw get_or-drop (small (1 + i)))
      | inr past ↦ omega (arith, get_or_past (take 4 (drop 1 bytes)) i 0 (omega (arith, past, four_long)))
    ]

pub size_is : (bytes : List ℕ) (left n said : ℕ) → IsSize bytes left n → said ≡ from_be_bytes w32 (take 4 (drop 1 bytes)) → said ≡ n
size_is bytes left n said s is = is ∙ (ap (from_be_bytes w32) s.says ∙ from_be_bytes-to_be_bytes_4 n s.fits)
