-- The lines of facts that can be read: they tell the loud ones.
use Rattle.std.proofs.Common.{◌≡◌, ℕ, sym, ap, ◌∙◌, refl, true≢false, inl, inr}
use Rattle.std.specs.Prelude.{Bool, true, false, not, cond, List, [], ◌∷◌, ◌++◌, map, if◌then◌else◌}
use Rattle.std.specs.List.{flat_map, list_all}
use Rattle.std.proofs.lemmas.List.{append_assoc}
use Rattle.plain_laws.proofs.Booleans.{and_both, of_not, same_number}
use Rattle.yard_model.specs.declared.fact.Fact.{Fact}
use Rattle.yard_model.specs.declared.fact.Fact.TheVariants as fact
use Rattle.yard_model.specs.Text.{fact_line, fact_words, words}
use Rattle.judge_laws.specs.Broken.{is_loud, loud}
use Rattle.verdict_laws.specs.Lines.{before_first, is_lf, is_quiet, lines_of}
use Rattle.state_lines.specs.Told.{AreTold, IsTold}
use Rattle.verdict_laws.specs.Meaning.{Tell}
use Rattle.judged_replays.specs.Replayed.{AreHeard, IsHeard}
use Rattle.judged_replays.proofs.PlainLaws.{AreOfReplay, is_of_replay}
use Rattle.judged_replays.proofs.SizeLaws.{is_one, is_short, line_small}

-- a line, whatever stands behind it
line_first : (w rest : List ℕ) → is_one w ≡ true → lines_of (w ++ (10 ∷ rest)) ≡ (w ++ 10 ∷ []) ∷ lines_of rest
line_first [] rest h = refl
line_first (b ∷ bs) rest h =
    let m = and_both (not (is_lf b)) (is_one bs) h in
    ap (λ d. if d then (b ∷ []) ∷ lines_of (bs ++ (10 ∷ rest)) else before_first b (lines_of (bs ++ (10 ∷ rest)))) (of_not (is_lf b) m.0) ∙ ap (before_first b) (line_first bs rest m.1)

pub lines_split : (facts : List Fact) (rest : List ℕ) → AreHeard facts → lines_of (flat_map fact_line facts ++ rest) ≡ map fact_line facts ++ lines_of rest
lines_split [] rest h = refl
lines_split (f ∷ fs) rest h =
    ap lines_of (append_assoc (fact_line f) (flat_map fact_line fs) rest ∙ append_assoc (words (fact_words f)) (10 ∷ []) (flat_map fact_line fs ++ rest))
    ∙ (line_first (words (fact_words f)) (flat_map fact_line fs ++ rest) (line_small f h.0).0 ∙ ap (λ ls. fact_line f ∷ ls) (lines_split fs rest h.1))

-- what a world tells is passed over where safety says nothing of it
quiet_passed : (f : Fact) → is_of_replay f ≡ true → is_loud f ≡ false → is_quiet (fact_line f) ≡ true
quiet_passed (fact.At n) r q = refl
quiet_passed fact.Nothing r q = refl
quiet_passed fact.WireFull r q = refl
quiet_passed fact.Settled r q = refl
quiet_passed (fact.Up x) r q = refl
quiet_passed (fact.View x v) r q = refl
quiet_passed (fact.Sent k p) r q = refl
quiet_passed (fact.Got k) r q = refl
quiet_passed (fact.Held s x n) r q = refl
quiet_passed (fact.Moving s st) r q = refl
quiet_passed (fact.Home x s h) r q = refl
quiet_passed (fact.Forget x s) r q = refl
quiet_passed (fact.Kept x m) r q = refl
quiet_passed (fact.Dropped x m) r q = refl
quiet_passed (fact.Stashed x m) r q = refl
quiet_passed (fact.Armed e k) r q = refl
quiet_passed (fact.Waits p e k) r q = refl
quiet_passed (fact.Reshard n k) r q = absurd (true≢false (sym r))
quiet_passed (fact.Resharded s n k) r q = absurd (true≢false (sym r))
quiet_passed (fact.SentAsk k x) r q = absurd (true≢false (sym r))
quiet_passed (fact.SentJob k x e) r q = absurd (true≢false (sym r))
quiet_passed (fact.SentDone k x e) r q = absurd (true≢false (sym r))
quiet_passed (fact.Given e x) r q = absurd (true≢false (sym r))
quiet_passed (fact.Did x e) r q = absurd (true≢false (sym r))
quiet_passed f r q = absurd (true≢false q)

pub lines_tell : (facts : List Fact) → AreHeard facts → AreOfReplay facts → Tell (map fact_line facts) (loud facts)
lines_tell [] h r = refl
lines_tell (f ∷ fs) h r =
    let m : (is_of_replay f ≡ true) × AreOfReplay fs = and_both (is_of_replay f) (list_all is_of_replay fs) r in
    by m.0 (lines_tell fs h.1 m.1) (is_loud f) refl
  where
    by : is_of_replay f ≡ true → Tell (map fact_line fs) (loud fs) → (b : Bool) → is_loud f ≡ b → Tell (map fact_line (f ∷ fs)) (cond b (f ∷ loud fs) (loud fs))
    by r rest true e = inr (f, loud fs, refl, record { line = refl; short = is_short f h.0 }, rest)
    by r rest false e = inl (record { quiet = quiet_passed f r e; short = is_short f h.0 }, rest)

-- what safety says something of may be told
heard_told : (f : Fact) → IsHeard f → is_of_replay f ≡ true → is_loud f ≡ true → IsTold f
heard_told (fact.At n) h r l = absurd (true≢false (sym l))
heard_told fact.Nothing h r l = absurd (true≢false (sym l))
heard_told fact.WireFull h r l = absurd (true≢false (sym l))
heard_told fact.Settled h r l = absurd (true≢false (sym l))
heard_told (fact.Up x) h r l = absurd (true≢false (sym l))
heard_told (fact.View x v) h r l = absurd (true≢false (sym l))
heard_told (fact.Sent k p) h r l = absurd (true≢false (sym l))
heard_told (fact.Got k) h r l = absurd (true≢false (sym l))
heard_told (fact.Held s x n) h r l = absurd (true≢false (sym l))
heard_told (fact.Moving s st) h r l = absurd (true≢false (sym l))
heard_told (fact.Home x s y) h r l = absurd (true≢false (sym l))
heard_told (fact.Forget x s) h r l = absurd (true≢false (sym l))
heard_told (fact.Kept x m) h r l = absurd (true≢false (sym l))
heard_told (fact.Dropped x m) h r l = absurd (true≢false (sym l))
heard_told (fact.Stashed x m) h r l = absurd (true≢false (sym l))
heard_told (fact.Armed e k) h r l = absurd (true≢false (sym l))
heard_told (fact.Waits p e k) h r l = absurd (true≢false (sym l))
heard_told (fact.Upgrade v) h r l = same_number v 2 r
heard_told f h r l = h

pub all_told : (facts : List Fact) → AreHeard facts → AreOfReplay facts → AreTold (loud facts)
all_told [] h r = tt
all_told (f ∷ fs) h r =
    let m : (is_of_replay f ≡ true) × AreOfReplay fs = and_both (is_of_replay f) (list_all is_of_replay fs) r in
    by m.0 (all_told fs h.1 m.1) (is_loud f) refl
  where
    by : is_of_replay f ≡ true → AreTold (loud fs) → (b : Bool) → is_loud f ≡ b → AreTold (cond b (f ∷ loud fs) (loud fs))
    by k rest true e = (heard_told f h.0 k e, rest)
    by k rest false e = rest
