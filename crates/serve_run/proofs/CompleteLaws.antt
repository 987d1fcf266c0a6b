-- A log that a run left is gone on with: it isn't damaged, and no frame of it is foreign.
use Rattle.std.proofs.Common.{◌≡◌, ◌⊎◌, ◌<◌, ◌≤◌, ℕ, ◌+◌, inl, inr, sym, ap, refl, subst, arith, length-append}
use Rattle.std.specs.Prelude.{Bool, true, false, List, [], ◌∷◌, ◌++◌, length, map, codes, decimal, nat_le, Option, Some, None, IsTrue}
use Rattle.std.proofs.lemmas.Fmt.{length-decimal-le}
use Rattle.plain_laws.proofs.Booleans.{and_both, at_most}
use Rattle.yard_model.specs.declared.charter.Config.{Config}
use Rattle.yard_model.specs.declared.event.Kind.{Kind}
use Rattle.yard_model.specs.declared.event.Kind.TheVariants as kind
use Rattle.yard_model.specs.declared.fact.Fact.{Fact}
use Rattle.yard_model.specs.Behaviour.{is_in}
use Rattle.yard_model.specs.Script.{Script, is_config}
use Rattle.yard_model.specs.Text.{Bytes, line, words}
use Rattle.disk_log.specs.Frames.{AreTexts, Holds, Says, framed}
use Rattle.disk_log.specs.Headed.{IsHead, IsHeadDamaged, IsHeaded, IsLongHead, headed_texts}
use Rattle.disk_log.specs.Spelled.{AreBatches, lines}
use Rattle.disk_log.proofs.FrameLaws.{holds_of}
use Rattle.log_resume.specs.Restored.{IsForeign, are_taken, entries}
use Rattle.log_resume.proofs.BatchLaws.{not_whole}
use Rattle.serve_laws.specs.Hearings.{IsHeard}
use Rattle.serve_laws.specs.Restarts.{FoundIsDesk, HoldsDesk, OneDesk}
use Rattle.serve_laws.specs.Served.{Desk, config_words, head_of, kind_text, switch_text}
use Rattle.serve_laws.specs.Servings.{IsDesk, IsDone, IsLogOf}
use Rattle.serve_run.specs.Ends.{EndsAs, IsComplete, Rose, Sides}
use Rattle.serve_service.specs.Openings.{IsForeignBehind, IsForeignFrame, head_line, script_of}
use Rattle.serve_run.specs.declared.status.Status.{Status}
use Rattle.serve_run.specs.declared.status.Status.TheVariants as status

-- what logs and desks say of an image
pub record Readings : Type 0 where
  pub damaged : (image : Bytes) (head : Option Bytes) (batches : List (List Fact)) (at : ℕ) → IsHeaded head batches → Holds (headed_texts head batches) image → IsHeadDamaged image at → ⊥
  pub long_head : (image : Bytes) (head : Option Bytes) (batches : List (List Fact)) → IsHeaded head batches → Holds (headed_texts head batches) image → IsLongHead image → ⊥
  pub texts : (image : Bytes) (texts others : List Bytes) → AreTexts texts → AreTexts others → Holds texts image → Holds others image → texts ≡ others
  pub batches : (batches others : List (List Fact)) → AreBatches batches → AreBatches others → map lines batches ≡ map lines others → batches ≡ others
  pub lines : (batches : List (List Fact)) → AreBatches batches → AreTexts (map lines batches)
  pub found : FoundIsDesk
  pub one : OneDesk

-- The settings' line is a head.

-- room for words with a space behind each
abbrev room : List Bytes → ℕ
room [] = 0
room (w ∷ ws) = length w + (1 + room ws)

words_fit : (ws : List Bytes) → length (words ws) ≤ room ws
words_fit [] = omega arith
words_fit (w ∷ []) = omega arith
words_fit (w ∷ v ∷ ws) = omega (arith, length-append w (32 ∷ words (v ∷ ws)), words_fit (v ∷ ws))

number_fits : (name : Bytes) (low high n : ℕ) → length name ≤ 10 → high ≤ 10000 → is_in low high n ≡ true → length (name ++ decimal n) ≤ 30
number_fits name low high n short few is =
    let most : n ≤ high = at_most n high (and_both (nat_le low n) (nat_le n high) is).1 in
    omega (arith, length-append name (decimal n), short, length-decimal-le 18 n (omega arith) (omega (arith, most, few)) (omega (arith, most, few)))

switch_fits : (b : Bool) → length (codes "remember=" ++ switch_text b) ≤ 30
switch_fits true = omega arith
switch_fits false = omega arith

kind_fits : (k : Kind) → length (codes "kind=" ++ kind_text k) ≤ 30
kind_fits kind.Counter = omega arith
kind_fits kind.Account = omega arith
kind_fits kind.Cart = omega arith

ten_words : (a b c d e f g h i j : Bytes) → length a ≤ 30 → length b ≤ 30 → length c ≤ 30 → length d ≤ 30 → length e ≤ 30 → length f ≤ 30 → length g ≤ 30 → length h ≤ 30 → length i ≤ 30 → length j ≤ 30
    → length (words (a ∷ b ∷ c ∷ d ∷ e ∷ f ∷ g ∷ h ∷ i ∷ j ∷ [])) ≤ 310
ten_words a b c d e f g h i j ka kb kc kd ke kf kg kh ki kj = omega (arith, words_fit (a ∷ b ∷ c ∷ d ∷ e ∷ f ∷ g ∷ h ∷ i ∷ j ∷ []), ka, kb, kc, kd, ke, kf, kg, kh, ki, kj)

line_fits : (c : Config) → is_config c ≡ true → length (line (config_words c)) ≤ 311
line_fits c is =
    let k7 = and_both _ _ is in
    let k6 = and_both _ _ k7.0 in
    let k5 = and_both _ _ k6.0 in
    let k4 = and_both _ _ k5.0 in
    let k3 = and_both _ _ k4.0 in
    let k2 = and_both _ _ k3.0 in
    let all : length (words (config_words c)) ≤ 310 =
    ten_words (codes "config") (codes "nodes=" ++ decimal c.nodes) (codes "shards=" ++ decimal c.shards) (codes "producers=" ++ decimal c.producers) (codes "buffer=" ++ decimal c.buffer)
    (codes "window=" ++ decimal c.window) (codes "snapshot=" ++ decimal c.snapshot) (codes "keep=" ++ decimal c.keep) (codes "remember=" ++ switch_text c.remember) (codes "kind=" ++ kind_text c.kind) (omega arith)
    (number_fits (codes "nodes=") 1 16 c.nodes (omega arith) (omega arith) k2.0)
    (number_fits (codes "shards=") 1 128 c.shards (omega arith) (omega arith) k2.1)
    (number_fits (codes "producers=") 1 32 c.producers (omega arith) (omega arith) k3.1)
    (number_fits (codes "buffer=") 1 1000 c.buffer (omega arith) (omega arith) k4.1)
    (number_fits (codes "window=") 1 64 c.window (omega arith) (omega arith) k5.1)
    (number_fits (codes "snapshot=") 1 10000 c.snapshot (omega arith) (omega arith) k6.1)
    (number_fits (codes "keep=") 1 10 c.keep (omega arith) (omega arith) k7.1)
    (switch_fits c.remember)
    (kind_fits c.kind) in
    omega (arith, length-append (words (config_words c)) (10 ∷ []), all)

pub head_fits : (c : Config) → is_config c ≡ true → IsHead (head_line c)
head_fits c is =
    let some : 0 < length (head_line c) = omega (arith, length-append (words (config_words c)) (10 ∷ [])) in
    let few : length (head_line c) ≤ 311 = line_fits c is in
    record { text = record { some = some; fits = omega (arith, few) }; few = omega (arith, few) }

-- One line of settings, one log.

-- a desk of these settings, with nothing accepted
abbrev bare : Config → Desk
bare c = record { so_far = Some (record { config = c; orders = [] }); log = [] }

bare_is : (c : Config) → is_config c ≡ true → IsDesk (bare c)
bare_is c is = (record { script = record { config = is; orders = refl; names = omega arith; pairs = omega arith; fits = omega arith }; sends = refl; few = omega arith }, refl)

-- an image of this line alone
abbrev image_of : Bytes → Bytes
image_of text = 1 ∷ (framed text ++ 0 ∷ [])

image_holds : (text : Bytes) → Holds (text ∷ []) (image_of text)
image_holds text = let says : Says (text ∷ []) (image_of text) = (1, 0 ∷ [], omega arith, refl, ([], refl)) in holds_of (text ∷ []) (image_of text) says

abbrev config_in : Config → Option Script → Config
config_in other None = other
config_in other (Some c) = c.config

same_config : OneDesk → (a b : Config) → is_config a ≡ true → is_config b ≡ true → head_line b ≡ head_line a → a ≡ b
same_config one a b ka kb same =
    let there : HoldsDesk (bare a) (image_of (head_line a)) = record { texts = image_holds (head_line a); batches = tt } in
    let here : HoldsDesk (bare b) (image_of (head_line a)) = record { texts = subst (λ (t : Bytes). Holds (t ∷ []) (image_of (head_line a))) (sym same) (image_holds (head_line a)); batches = tt } in
    ap (λ (d : Desk). config_in a d.so_far) (one (bare a) (bare b) (image_of (head_line a)) (bare_is a ka) (bare_is b kb) there here)

-- No such log is refused.

none_damaged : Readings → (so : Option Script) (log : List (List Fact)) (content : Bytes) (at : ℕ) → IsLogOf so log → AreBatches log → Holds (head_of so ++ map lines log) content → IsHeadDamaged content at → ⊥
none_damaged r None log content at desk are holds damaged = r.damaged content None log at desk holds damaged
none_damaged r (Some c) log content at desk are holds damaged = r.damaged content (Some (head_line c.config)) log at (head_fits c.config desk.0.script.config, are) holds damaged

none_long : Readings → (so : Option Script) (log : List (List Fact)) (content : Bytes) → IsLogOf so log → AreBatches log → Holds (head_of so ++ map lines log) content → IsLongHead content → ⊥
none_long r None log content desk are holds long = r.long_head content None log desk holds long
none_long r (Some c) log content desk are holds long = r.long_head content (Some (head_line c.config)) log (head_fits c.config desk.0.script.config, are) holds long

head_same : (a b : Bytes) (xs ys : List Bytes) → a ∷ xs ≡ b ∷ ys → (a ≡ b) × (xs ≡ ys)
head_same a b xs ys e = (cc, cc)

-- of the desk that is found, behind the settings' line
none_behind : Readings → (c : Script) (log : List (List Fact)) (frame : ℕ) → IsLogOf (Some c) log → IsDone (Some c) log → IsForeignBehind (head_line c.config) log frame → ⊥
none_behind r c log frame desk done (inl (is, none)) = none c.config refl desk.0.script.config
none_behind r c log frame desk done (inr (config, same, is, k, at, why)) =
    let it : c.config ≡ config = same_config r.one c.config config desk.0.script.config is (sym same) in
    let there : IsHeard (script_of c.config (entries log)) × IsTrue (are_taken (script_of c.config (entries log)) (entries log)) = (r.found (record { so_far = Some c; log = log }) desk done).0 in
    by (script_of config (entries log)) (ap (λ (x : Config). script_of x (entries log)) it) there why
  where
    by : (d : Script) → script_of c.config (entries log) ≡ d → IsHeard (script_of c.config (entries log)) × IsTrue (are_taken (script_of c.config (entries log)) (entries log)) → (IsHeard d → ⊥) ⊎ IsForeign d log k → ⊥
    by d is there (inl none) = none (subst IsHeard is there.0)
    by d is there (inr foreign) = not_whole d log k foreign (subst (λ (s : Script). are_taken s (entries log) ≡ true) is there.1)

none_foreign : Readings → (so : Option Script) (log : List (List Fact)) (content head : Bytes) (batches : List (List Fact)) (frame : ℕ) → IsLogOf so log → IsDone so log → AreBatches log
    → Holds (head_of so ++ map lines log) content → IsHeaded (Some head) batches → Holds (head ∷ map lines batches) content → IsForeignBehind head batches frame → ⊥
none_foreign r None log content head batches frame desk done are holds headed too behind =
    let same : map lines log ≡ head ∷ map lines batches = r.texts content (map lines log) (head ∷ map lines batches) (r.lines log are) (headed.0.text, r.lines batches headed.1) holds too in
    let none : map lines log ≡ [] = ap (map lines) desk in
    cc
none_foreign r (Some c) log content head batches frame desk done are holds headed too behind =
    let fits : IsHead (head_line c.config) = head_fits c.config desk.0.script.config in
    let same = head_same (head_line c.config) head (map lines log) (map lines batches)
    (r.texts content (head_line c.config ∷ map lines log) (head ∷ map lines batches) (fits.text, r.lines log are) (headed.0.text, r.lines batches headed.1) holds too) in
    let logs : log ≡ batches = r.batches log batches are headed.1 same.1 in
    none_behind r c log frame desk done (subst (λ (h : Bytes). IsForeignBehind h log frame) (sym same.0) (subst (λ (l : List (List Fact)). IsForeignBehind head l frame) (sym logs) behind))

none_framed : Readings → (tells : Bool) → IsTrue tells → (d : Desk) (content : Bytes) (frame : ℕ) → IsDesk d → IsDone d.so_far d.log → HoldsDesk d content → IsForeignFrame tells content frame → ⊥
none_framed r tells told d content frame desk done holds (inl (is, long)) = none_long r d.so_far d.log content desk holds.batches holds.texts (long told)
none_framed r tells told d content frame desk done holds (inr (head, batches, texts, headed, behind)) =
    none_foreign r d.so_far d.log content head batches frame desk done holds.batches holds.texts headed (texts told) behind

-- Where no fault rose, there is no end but the input's, and want of memory.

rose_not : (a b : ℕ) → a < b → b ≡ a → ⊥
rose_not a b less same = omega (arith, less, same)

pub complete_of : Readings → (tells : Bool) → IsTrue tells → (old new : Sides) (s : Status) (source source' sink sink' disk disk' : ℕ) → EndsAs tells old new s → Rose s source source' sink sink' disk disk'
    → source' ≡ source → sink' ≡ sink → disk' ≡ disk → IsComplete old.content s
complete_of r tells told old new status.Served a a' b b' c c' ends rose x y z d desk done holds = inl refl
complete_of r tells told old new status.Usage a a' b b' c c' ends rose x y z d desk done holds = absurd ends
complete_of r tells told old new status.ReadFault a a' b b' c c' ends rose x y z d desk done holds = absurd (rose_not a a' rose x)
complete_of r tells told old new status.WriteFault a a' b b' c c' ends rose x y z d desk done holds = absurd (rose_not b b' rose y)
complete_of r tells told old new status.OutOfMemory a a' b b' c c' ends rose x y z d desk done holds = inr refl
complete_of r tells told old new status.DiskFault a a' b b' c c' ends rose x y z d desk done holds = absurd (rose_not c c' rose z)
complete_of r tells told old new (status.LogDamaged at) a a' b b' c c' ends rose x y z d desk done holds = absurd (none_damaged r d.so_far d.log old.content at desk holds.batches holds.texts (ends.0 told))
complete_of r tells told old new (status.LogForeign frame) a a' b b' c c' ends rose x y z d desk done holds = absurd (none_framed r tells told d old.content frame desk done holds ends.0)
