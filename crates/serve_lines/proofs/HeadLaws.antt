-- The line of settings, read back.
use Rattle.std.proofs.Common.{◌≡◌, ℕ, ◌+◌, ◌^◌, ◌<◌, ◌≤◌, Bool, true, false, not, List, [], ◌∷◌, ◌++◌, length, take, drop, suc, refl, sym, ap, ap₂, ◌∙◌, arith}
use Rattle.std.specs.Prelude.{◌&&◌, ◌||◌, ◌==◌, cond, nat_lt, nat_le, codes, decimal, filter, fold, if◌then◌else◌, IsTrue, Option, Some, None, Ok, Err}
use Rattle.std.specs.List.{join_with_byte, list_all, list_any, onto_first, position, position_or_len, slice_split}
use Rattle.std.proofs.lemmas.Bool.Decides.{nat_tests}
use Rattle.std.proofs.lemmas.Fmt.{decimal_nonempty, length-decimal-le, digits_decimal, digits_value-decimal}
use Rattle.std.proofs.lemmas.List.{append_assoc, length-append}
use Rattle.std.proofs.lemmas.List.Splits.{slice_split-cons_yes, slice_split-cons_no}
use Rattle.std.proofs.lemmas.Str.Parse.{FoldsDigits, IsDigitsTest, IsNumeralModel, numerals_by_fold}
use Rattle.plain_laws.proofs.Booleans.{and_both, at_most, both, of_not, within}
use Rattle.yard_model.specs.declared.charter.Config.{Config}
use Rattle.yard_model.specs.declared.event.Kind.{Kind}
use Rattle.yard_model.specs.declared.event.Kind.TheVariants as kind
use Rattle.yard_model.specs.Behaviour.{is_in}
use Rattle.yard_model.specs.Script.{is_config}
use Rattle.script_text.specs.declared.fault.Why.{Why}
use Rattle.script_text.specs.declared.fault.Why.TheVariants as why
use Rattle.script_text.specs.declared.settings.Setting.{Setting}
use Rattle.script_text.specs.declared.settings.Setting.TheVariants as setting
use Rattle.script_text.specs.Faults.{◌>>=◌, refuse}
use Rattle.script_text.specs.Orders.{number}
use Rattle.script_text.specs.Settings.{defaults, has_key, is_equals, is_reason, is_twice, key_text, kind_named, none_refused, setting_at, setting_named, setting_of, settings, switch_named, until, with_read, with_setting, with_value}
use Rattle.script_text.specs.Words.{is_digit, is_gap, is_number, is_some_word, is_text, value_of, with_digit, words}
use Rattle.serve_laws.specs.Hearing.{rest_of}
use Rattle.serve_laws.specs.Served.{config_words, kind_text, switch_text}
use Rattle.serve_lines.specs.Heads.{head_line, if_read, settings_behind}

-- Words.

abbrev is_word_byte : ℕ → Bool
is_word_byte b = not (is_gap b)

abbrev is_word : List ℕ → Bool
is_word w = is_some_word w && list_all is_word_byte w

split_word : (w rest : List ℕ) → list_all is_word_byte w ≡ true → slice_split is_gap (w ++ 32 ∷ rest) ≡ w ∷ slice_split is_gap rest
split_word [] rest h = slice_split-cons_yes is_gap 32 rest refl
split_word (b ∷ bs) rest h =
    let k = and_both (is_word_byte b) (list_all is_word_byte bs) h in
    slice_split-cons_no is_gap b (bs ++ 32 ∷ rest) (of_not (is_gap b) k.0) ∙ ap (onto_first b) (split_word bs rest k.1)

split_one : (w : List ℕ) → list_all is_word_byte w ≡ true → slice_split is_gap w ≡ w ∷ []
split_one [] h = refl
split_one (b ∷ bs) h =
    let k = and_both (is_word_byte b) (list_all is_word_byte bs) h in
    slice_split-cons_no is_gap b bs (of_not (is_gap b) k.0) ∙ ap (onto_first b) (split_one bs k.1)

one_kept : (w : List ℕ) (more : List (List ℕ)) → is_some_word w ≡ true → filter is_some_word (w ∷ more) ≡ w ∷ filter is_some_word more
one_kept w more h = ap (λ b. cond b (w ∷ filter is_some_word more) (filter is_some_word more)) h

-- words with a space between each two are read again
words_joined : (w : List ℕ) (ws : List (List ℕ)) → list_all is_word (w ∷ ws) ≡ true → words (join_with_byte 32 (w ∷ ws)) ≡ w ∷ ws
unfolding words
words_joined w [] h =
    let k = and_both (is_some_word w) (list_all is_word_byte w) (and_both (is_word w) true h).0 in
    ap (filter is_some_word) (split_one w k.1) ∙ one_kept w [] k.0
words_joined w (v ∷ vs) h =
    let m = and_both (is_word w) (list_all is_word (v ∷ vs)) h in
    let k = and_both (is_some_word w) (list_all is_word_byte w) m.0 in
    ap (filter is_some_word) (split_word w (join_with_byte 32 (v ∷ vs)) k.1) ∙ one_kept w (slice_split is_gap (join_with_byte 32 (v ∷ vs))) k.0 ∙ ap (λ xs. w ∷ xs) (words_joined v vs m.1)

-- Numbers.

abbrev AreDigits : List ℕ → Type 0
AreDigits ds = list_all is_digit ds ≡ true

digits_test : IsDigitsTest AreDigits
digits_test = record {
  empty = refl;
  parts = λ c cs e. let k = and_both (is_digit c) (list_all is_digit cs) e in let m = and_both (nat_le 48 c) (nat_le c 57) k.0 in ((at_most 48 c m.0, at_most c 57 m.1), k.1);
  more = λ c cs k d. both (is_digit c) (list_all is_digit cs) (both (nat_le 48 c) (nat_le c 57) (within 48 c k.0) (within c 57 k.1)) d;
}

folds_digits : FoldsDigits (λ n ds. fold with_digit n ds)
folds_digits = record { empty = λ n. refl; more = λ n c cs k. refl }

model : IsNumeralModel AreDigits (λ ds. fold with_digit 0 ds)
model = numerals_by_fold AreDigits digits_test (λ n ds. fold with_digit n ds) folds_digits

small_fits : (n : ℕ) → n ≤ 10000 → n < 2 ^ 64
small_fits n h = omega (arith, h)

digits_are : (n : ℕ) → n ≤ 10000 → list_all is_digit (decimal n) ≡ true
digits_are n h = digits_decimal model n (small_fits n h)

value_is : (n : ℕ) → n ≤ 10000 → value_of (decimal n) ≡ n
value_is n h = digits_value-decimal model n (small_fits n h)

number_is : (n : ℕ) → n ≤ 10000 → is_number (decimal n) ≡ true
number_is n h =
    let some : 0 < length (decimal n) = decimal_nonempty n (small_fits n h) in
    let fits : length (decimal n) ≤ 5 = length-decimal-le 5 n (omega arith) (omega (arith, h)) (small_fits n h) in
    let a : nat_lt 0 (length (decimal n)) ≡ true = grind (arith, nat_tests) in
    let b : nat_le (length (decimal n)) 18 ≡ true = within (length (decimal n)) 18 (omega (arith, fits)) in
    both (nat_lt 0 (length (decimal n)) && nat_le (length (decimal n)) 18) (list_all is_digit (decimal n)) (both (nat_lt 0 (length (decimal n))) (nat_le (length (decimal n)) 18) a b) (digits_are n h)

-- a number that is printed is read
number_read : (a b n : ℕ) → is_in a b n ≡ true → n ≤ 10000 → number a b (decimal n) ≡ Ok n
unfolding number
number_read a b n r h =
    ap₂ (λ (t : Bool) (v : ℕ). if t then (if is_in a b v then Ok v else Err why.OutOfRange) else Err why.BadNumber) (number_is n h) (value_is n h)
    ∙ ap (λ (t : Bool). if t then Ok n else Err why.OutOfRange) r

digit_in_word : (b : ℕ) → is_digit b ≡ true → is_word_byte b ≡ true
digit_in_word b e =
    let m = and_both (nat_le 48 b) (nat_le b 57) e in
    let low : 48 ≤ b = at_most 48 b m.0 in
    let space : (b == 32) ≡ false = grind (arith, nat_tests) in
    let tab : (b == 9) ≡ false = grind (arith, nat_tests) in
    rw (space, tab) refl

digits_in_word : (ds : List ℕ) → list_all is_digit ds ≡ true → list_all is_word_byte ds ≡ true
digits_in_word [] h = refl
digits_in_word (b ∷ bs) h = let k = and_both (is_digit b) (list_all is_digit bs) h in both (is_word_byte b) (list_all is_word_byte bs) (digit_in_word b k.0) (digits_in_word bs k.1)

-- Words KEY=VALUE.

abbrev is_key : List ℕ → Bool
is_key k = list_all (λ b. not (is_equals b)) k

key_ends : (k v : List ℕ) → is_key k ≡ true → position_or_len is_equals (k ++ 61 ∷ v) ≡ length k
key_ends [] v h = refl
key_ends (b ∷ bs) v h =
    let m = and_both (not (is_equals b)) (is_key bs) h in
    let next : 1 + length bs ≡ length (b ∷ bs) = omega arith in
    ap₂ (λ t n. cond t (1 + n) 0) m.0 (key_ends bs v m.1) ∙ next

equals_at : (k v : List ℕ) → is_key k ≡ true → position is_equals (k ++ 61 ∷ v) ≡ Some (length k)
equals_at k v h =
    let longer : length k < length (k ++ 61 ∷ v) = omega (arith, length-append k (61 ∷ v)) in
    let inside : nat_lt (length k) (length (k ++ 61 ∷ v)) ≡ true = grind (arith, nat_tests) in
    ap (λ n. cond (nat_lt n (length (k ++ 61 ∷ v))) (Some n) None) (key_ends k v h) ∙ ap (λ t. cond t (Some (length k)) None) inside

front_is : (k v : List ℕ) → take (length k) (k ++ 61 ∷ v) ≡ k
front_is [] v = refl
front_is (b ∷ bs) v = ap (λ xs. b ∷ xs) (front_is bs v)

back_is : (k v : List ℕ) → drop (length k + 1) (k ++ 61 ∷ v) ≡ v
back_is [] v = refl
back_is (b ∷ bs) v =
    let next : length (b ∷ bs) + 1 ≡ suc (length bs + 1) = omega arith in
    ap (λ n. drop n (b ∷ (bs ++ 61 ∷ v))) next ∙ back_is bs v

setting_read : (k v : List ℕ) → is_key k ≡ true → setting_of (k ++ 61 ∷ v) ≡ setting_named k v
unfolding setting_of
setting_read k v h = ap (setting_at (k ++ 61 ∷ v)) (equals_at k v h) ∙ ap₂ setting_named (front_is k v) (back_is k v)

key_read : (k v : List ℕ) → is_key k ≡ true → key_text (k ++ 61 ∷ v) ≡ k
unfolding key_text
key_read k v h = ap (until (k ++ 61 ∷ v)) (equals_at k v h) ∙ front_is k v

-- Settings, word by word.

abbrev AreRead : List (List ℕ) → List Setting → Type 0
AreRead [] [] = Unit {0}
AreRead (w ∷ ws) (s ∷ ss) = (setting_of w ≡ Ok s) × AreRead ws ss
AreRead [] (s ∷ ss) = ⊥
AreRead (w ∷ ws) [] = ⊥

abbrev AreKeyed : List (List ℕ) → List (List ℕ) → Type 0
AreKeyed [] [] = Unit {0}
AreKeyed (w ∷ ws) (k ∷ ks) = (key_text w ≡ k) × AreKeyed ws ks
AreKeyed [] (k ∷ ks) = ⊥
AreKeyed (w ∷ ws) [] = ⊥

abbrev AreWords : List (List ℕ) → Type 0
AreWords [] = Unit {0}
AreWords (w ∷ ws) = (is_word w ≡ true) × AreWords ws

-- a key stands twice
abbrev is_double : List (List ℕ) → Bool
is_double [] = false
is_double (k ∷ ks) = list_any (λ j. is_text j k) ks || is_double ks

all_words : (ws : List (List ℕ)) → AreWords ws → list_all is_word ws ≡ true
all_words [] a = refl
all_words (w ∷ ws) a = both (is_word w) (list_all is_word ws) a.0 (all_words ws a.1)

none_any : (y : Why) (ws : List (List ℕ)) (ss : List Setting) → AreRead ws ss → list_any (λ w. is_reason y (setting_of w)) ws ≡ false
none_any y [] [] a = refl
none_any y (w ∷ ws) (s ∷ ss) a = ap₂ (λ b d. b || d) (ap (is_reason y) a.0) (none_any y ws ss a.1)
none_any y [] (s ∷ ss) a = absurd a
none_any y (w ∷ ws) [] a = absurd a

none_is : (y : Why) (ws : List (List ℕ)) (ss : List Setting) → AreRead ws ss → none_refused y ws ≡ Ok tt
unfolding none_refused
none_is y ws ss a = ap (λ b. refuse b y) (none_any y ws ss a)

same_keys : (k : List ℕ) (ws ks : List (List ℕ)) → AreKeyed ws ks → list_any (has_key k) ws ≡ list_any (λ j. is_text j k) ks
same_keys k [] [] a = refl
same_keys k (w ∷ ws) (j ∷ ks) a = ap₂ (λ b d. b || d) (ap (λ x. is_text x k) a.0) (same_keys k ws ks a.1)
same_keys k [] (j ∷ ks) a = absurd a
same_keys k (w ∷ ws) [] a = absurd a

twice_is : (ws ks : List (List ℕ)) → AreKeyed ws ks → is_twice ws ≡ is_double ks
twice_is [] [] a = refl
twice_is (w ∷ ws) (k ∷ ks) a = ap₂ (λ b d. b || d) (ap (λ x. list_any (has_key x) ws) a.0 ∙ same_keys k ws ks a.1) (twice_is ws ks a.1)
twice_is [] (k ∷ ks) a = absurd a
twice_is (w ∷ ws) [] a = absurd a

fold_is : (c : Config) (ws : List (List ℕ)) (ss : List Setting) → AreRead ws ss → fold with_setting c ws ≡ fold with_value c ss
fold_is c [] [] a = refl
fold_is c (w ∷ ws) (s ∷ ss) a = ap (λ r. fold with_setting (with_read c r) ws) a.0 ∙ fold_is (with_value c s) ws ss a.1
fold_is c [] (s ∷ ss) a = absurd a
fold_is c (w ∷ ws) [] a = absurd a

settings_are : (ws ks : List (List ℕ)) (ss : List Setting) → AreRead ws ss → AreKeyed ws ks → is_double ks ≡ false → settings ws ≡ Ok (fold with_value defaults ss)
unfolding settings
settings_are ws ks ss a b d =
    let known : none_refused why.UnknownWord ws ≡ Ok tt = none_is why.UnknownWord ws ss a in
    let once : is_twice ws ≡ false = twice_is ws ks b ∙ d in
    let numbers : none_refused why.BadNumber ws ≡ Ok tt = none_is why.BadNumber ws ss a in
    let ranges : none_refused why.OutOfRange ws ≡ Ok tt = none_is why.OutOfRange ws ss a in
    rw (known, once, numbers, ranges) (ap Ok (fold_is defaults ws ss a))

-- The nine settings.

in_reach : (b n : ℕ) → is_in 1 b n ≡ true → b ≤ 10000 → n ≤ 10000
in_reach b n r h = let m = and_both (nat_le 1 n) (nat_le n b) r in let top : n ≤ b = at_most n b m.1 in omega (arith, top, h)

one_read : (b n : ℕ) → is_in 1 b n ≡ true → b ≤ 10000 → number 1 b (decimal n) ≡ Ok n
one_read b n r h = number_read 1 b n r (in_reach b n r h)

all_joined : (k v : List ℕ) → list_all is_word_byte k ≡ true → list_all is_word_byte v ≡ true → list_all is_word_byte (k ++ v) ≡ true
all_joined [] v h g = g
all_joined (b ∷ bs) v h g = let m = and_both (is_word_byte b) (list_all is_word_byte bs) h in both (is_word_byte b) (list_all is_word_byte (bs ++ v)) m.0 (all_joined bs v m.1 g)

word_is : (k v : List ℕ) → list_all is_word_byte k ≡ true → list_all is_word_byte v ≡ true → is_word (k ++ 61 ∷ v) ≡ true
word_is k v h g =
    let longer : 0 < length (k ++ 61 ∷ v) = omega (arith, length-append k (61 ∷ v)) in
    let some : nat_lt 0 (length (k ++ 61 ∷ v)) ≡ true = grind (arith, nat_tests) in
    both (is_some_word (k ++ 61 ∷ v)) (list_all is_word_byte (k ++ 61 ∷ v)) some (all_joined k (61 ∷ v) h g)

number_word : (k : List ℕ) (b n : ℕ) → list_all is_word_byte k ≡ true → is_in 1 b n ≡ true → b ≤ 10000 → is_word (k ++ 61 ∷ decimal n) ≡ true
number_word k b n h r m = word_is k (decimal n) h (digits_in_word (decimal n) (digits_are n (in_reach b n r m)))

-- what a script's settings are in range
record Ranges (c : Config) : Type 0 where
  nodes : is_in 1 16 c.nodes ≡ true
  shards : is_in 1 128 c.shards ≡ true
  producers : is_in 1 32 c.producers ≡ true
  buffer : is_in 1 1000 c.buffer ≡ true
  window : is_in 1 64 c.window ≡ true
  snapshot : is_in 1 10000 c.snapshot ≡ true
  keep : is_in 1 10 c.keep ≡ true

ranges_of : (c : Config) → IsTrue (is_config c) → Ranges c
ranges_of c h =
    let n = is_in 1 16 c.nodes in
    let s = is_in 1 128 c.shards in
    let p = is_in 1 32 c.producers in
    let b = is_in 1 1000 c.buffer in
    let w = is_in 1 64 c.window in
    let m = is_in 1 10000 c.snapshot in
    let k = is_in 1 10 c.keep in
    let first = and_both (n && s && p && b && w && m) k h in
    let second = and_both (n && s && p && b && w) m first.0 in
    let third = and_both (n && s && p && b) w second.0 in
    let fourth = and_both (n && s && p) b third.0 in
    let fifth = and_both (n && s) p fourth.0 in
    let sixth = and_both n s fifth.0 in
    record { nodes = sixth.0; shards = sixth.1; producers = fifth.1; buffer = fourth.1; window = third.1; snapshot = second.1; keep = first.1 }

abbrev setting_list : Config → List Setting
setting_list c =
    setting.Nodes c.nodes ∷ setting.Shards c.shards ∷ setting.Producers c.producers ∷ setting.Buffer c.buffer ∷ setting.Window c.window ∷ setting.Snapshot c.snapshot
    ∷ setting.Keep c.keep ∷ setting.Remember c.remember ∷ setting.OfKind c.kind ∷ []

abbrev keys : List (List ℕ)
keys =
    codes "nodes" ∷ codes "shards" ∷ codes "producers" ∷ codes "buffer" ∷ codes "window" ∷ codes "snapshot" ∷ codes "keep" ∷ codes "remember" ∷ codes "kind" ∷ []

switch_read : (b : Bool) → switch_named (switch_text b) ≡ Ok b
unfolding switch_named
switch_read true = refl
switch_read false = refl

switch_word : (b : Bool) → list_all is_word_byte (switch_text b) ≡ true
switch_word true = refl
switch_word false = refl

kind_read : (k : Kind) → kind_named (kind_text k) ≡ Ok k
unfolding kind_named
kind_read kind.Counter = refl
kind_read kind.Account = refl
kind_read kind.Cart = refl

kind_word : (k : Kind) → list_all is_word_byte (kind_text k) ≡ true
kind_word kind.Counter = refl
kind_word kind.Account = refl
kind_word kind.Cart = refl

are_read : (c : Config) → Ranges c → AreRead (rest_of (config_words c)) (setting_list c)
unfolding setting_named
are_read c r = (
  setting_read (codes "nodes") (decimal c.nodes) refl ∙ ap (λ x. x >>= λ n. Ok (setting.Nodes n)) (one_read 16 c.nodes r.nodes (omega arith)),
  (
    setting_read (codes "shards") (decimal c.shards) refl ∙ ap (λ x. x >>= λ n. Ok (setting.Shards n)) (one_read 128 c.shards r.shards (omega arith)),
    (
      setting_read (codes "producers") (decimal c.producers) refl ∙ ap (λ x. x >>= λ n. Ok (setting.Producers n)) (one_read 32 c.producers r.producers (omega arith)),
      (
        setting_read (codes "buffer") (decimal c.buffer) refl ∙ ap (λ x. x >>= λ n. Ok (setting.Buffer n)) (one_read 1000 c.buffer r.buffer (omega arith)),
        (
          setting_read (codes "window") (decimal c.window) refl ∙ ap (λ x. x >>= λ n. Ok (setting.Window n)) (one_read 64 c.window r.window (omega arith)),
          (
            setting_read (codes "snapshot") (decimal c.snapshot) refl ∙ ap (λ x. x >>= λ n. Ok (setting.Snapshot n)) (one_read 10000 c.snapshot r.snapshot (omega arith)),
            (
              setting_read (codes "keep") (decimal c.keep) refl ∙ ap (λ x. x >>= λ n. Ok (setting.Keep n)) (one_read 10 c.keep r.keep (omega arith)),
              (
                setting_read (codes "remember") (switch_text c.remember) refl ∙ ap (λ x. x >>= λ b. Ok (setting.Remember b)) (switch_read c.remember),
                (setting_read (codes "kind") (kind_text c.kind) refl ∙ ap (λ x. x >>= λ k. Ok (setting.OfKind k)) (kind_read c.kind), tt),
              ),
            ),
          ),
        ),
      ),
    ),
  ),
)

are_keyed : (c : Config) → AreKeyed (rest_of (config_words c)) keys
are_keyed c = (
  key_read (codes "nodes") (decimal c.nodes) refl,
  (
    key_read (codes "shards") (decimal c.shards) refl,
    (
      key_read (codes "producers") (decimal c.producers) refl,
      (
        key_read (codes "buffer") (decimal c.buffer) refl,
        (
          key_read (codes "window") (decimal c.window) refl,
          (
            key_read (codes "snapshot") (decimal c.snapshot) refl,
            (
              key_read (codes "keep") (decimal c.keep) refl,
              (
                key_read (codes "remember") (switch_text c.remember) refl,
                (key_read (codes "kind") (kind_text c.kind) refl, tt),
              ),
            ),
          ),
        ),
      ),
    ),
  ),
)

are_words : (c : Config) → Ranges c → AreWords (config_words c)
are_words c r = (
  refl,
  (
    number_word (codes "nodes") 16 c.nodes refl r.nodes (omega arith),
    (
      number_word (codes "shards") 128 c.shards refl r.shards (omega arith),
      (
        number_word (codes "producers") 32 c.producers refl r.producers (omega arith),
        (
          number_word (codes "buffer") 1000 c.buffer refl r.buffer (omega arith),
          (
            number_word (codes "window") 64 c.window refl r.window (omega arith),
            (
              number_word (codes "snapshot") 10000 c.snapshot refl r.snapshot (omega arith),
              (
                number_word (codes "keep") 10 c.keep refl r.keep (omega arith),
                (
                  word_is (codes "remember") (switch_text c.remember) refl (switch_word c.remember),
                  (word_is (codes "kind") (kind_text c.kind) refl (kind_word c.kind), tt),
                ),
              ),
            ),
          ),
        ),
      ),
    ),
  ),
)

settings_read : (c : Config) → IsTrue (is_config c) → settings (rest_of (config_words c)) ≡ Ok c
settings_read c h = settings_are (rest_of (config_words c)) keys (setting_list c) (are_read c (ranges_of c h)) (are_keyed c) refl

words_read : (c : Config) → IsTrue (is_config c) → words (join_with_byte 32 (config_words c)) ≡ config_words c
words_read c h = words_joined (codes "config") (rest_of (config_words c)) (all_words (config_words c) (are_words c (ranges_of c h)))

-- the words of the line of settings say them
head_read : (c : Config) → IsTrue (is_config c) → settings_behind (words (join_with_byte 32 (config_words c))) ≡ Some c
head_read c h = ap settings_behind (words_read c h) ∙ ap if_read (settings_read c h)

-- Pushed in turn.

pub three_pushed : (t x y z a b c d e f : List ℕ) → x ≡ t ++ (a ++ b) → y ≡ x ++ (c ++ d) → z ≡ y ++ (e ++ f) → z ≡ t ++ (a ++ (b ++ (c ++ (d ++ (e ++ f)))))
three_pushed t x y z a b c d e f h g k =
    k ∙ ap (λ l. l ++ (e ++ f)) (g ∙ ap (λ l. l ++ (c ++ d)) h) ∙ append_assoc (t ++ (a ++ b)) (c ++ d) (e ++ f) ∙ append_assoc t (a ++ b) ((c ++ d) ++ (e ++ f))
    ∙ ap (λ l. t ++ l) (append_assoc a b ((c ++ d) ++ (e ++ f)) ∙ ap (λ l. a ++ (b ++ l)) (append_assoc c d (e ++ f)))

abbrev six : List ℕ → List ℕ → List ℕ → List ℕ → List ℕ → List ℕ → List ℕ
six a b c d e f = a ++ (b ++ (c ++ (d ++ (e ++ f))))

six_behind : (a b c d e f m : List ℕ) → six a b c d e f ++ m ≡ six a b c d e (f ++ m)
six_behind a b c d e f m =
    append_assoc a (b ++ (c ++ (d ++ (e ++ f)))) m
    ∙ ap (λ l. a ++ l) (append_assoc b (c ++ (d ++ (e ++ f))) m
    ∙ ap (λ l. b ++ l) (append_assoc c (d ++ (e ++ f)) m ∙ ap (λ l. c ++ l) (append_assoc d (e ++ f) m ∙ ap (λ l. d ++ l) (append_assoc e f m))))

-- the parts of the line of settings, with what is behind them
abbrev sizes : Config → List ℕ → List ℕ
sizes c m = six (codes "config nodes=") (decimal c.nodes) (codes " shards=") (decimal c.shards) (codes " producers=") (decimal c.producers ++ m)

abbrev limits : Config → List ℕ → List ℕ
limits c m = six (codes " buffer=") (decimal c.buffer) (codes " window=") (decimal c.window) (codes " snapshot=") (decimal c.snapshot ++ m)

abbrev ways : Config → List ℕ
ways c = six (codes " keep=") (decimal c.keep) (codes " remember=") (switch_text c.remember) (codes " kind=") (kind_text c.kind)

words_are : (c : Config) → join_with_byte 32 (config_words c) ≡ sizes c (limits c (ways c))
words_are c = refl

pub settings_pushed : (c : Config) (t x y z last : List ℕ)
    → x ≡ t ++ six (codes "config nodes=") (decimal c.nodes) (codes " shards=") (decimal c.shards) (codes " producers=") (decimal c.producers)
    → y ≡ x ++ six (codes " buffer=") (decimal c.buffer) (codes " window=") (decimal c.window) (codes " snapshot=") (decimal c.snapshot)
    → z ≡ y ++ ways c → last ≡ z ++ 10 ∷ [] → last ≡ t ++ head_line c
settings_pushed c t x y z last h g k l =
    let s : List ℕ = six (codes "config nodes=") (decimal c.nodes) (codes " shards=") (decimal c.shards) (codes " producers=") (decimal c.producers) in
    let m : List ℕ = six (codes " buffer=") (decimal c.buffer) (codes " window=") (decimal c.window) (codes " snapshot=") (decimal c.snapshot) in
    let all : z ≡ t ++ (s ++ (m ++ ways c)) = k ∙ ap (λ v. v ++ ways c) (g ∙ ap (λ v. v ++ m) h) ∙ append_assoc (t ++ s) m (ways c) ∙ append_assoc t s (m ++ ways c) in
    let spelled : s ++ (m ++ ways c) ≡ join_with_byte 32 (config_words c) =
    six_behind (codes "config nodes=") (decimal c.nodes) (codes " shards=") (decimal c.shards) (codes " producers=") (decimal c.producers) (m ++ ways c)
    ∙ ap (sizes c) (six_behind (codes " buffer=") (decimal c.buffer) (codes " window=") (decimal c.window) (codes " snapshot=") (decimal c.snapshot) (ways c)) ∙ sym (words_are c) in
    l ∙ ap (λ v. v ++ 10 ∷ []) (all ∙ ap (λ v. t ++ v) spelled) ∙ append_assoc t (join_with_byte 32 (config_words c)) (10 ∷ [])

-- Read back.

pub read_back : (c : Config) (cut : List ℕ) (found : Option Config) → IsTrue (is_config c) → cut ≡ join_with_byte 32 (config_words c) → found ≡ settings_behind (words cut) → found ≡ Some c
read_back c cut found h e v = v ∙ ap (λ l. settings_behind (words l)) e ∙ head_read c h

pub same_found : (a b : Config) → Some a ≡ Some b → a ≡ b
same_found a b e = cc
