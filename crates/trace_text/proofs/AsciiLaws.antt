-- What is printed of values is plain: ASCII of which no byte is escaped between quotes. So it is a text, and is quoted as it is.
use Rattle.std.proofs.Common.{◌≡◌, ℕ, zero, suc, ◌<◌, ◌/◌, ◌%◌, ◌+◌, List, [], ◌∷◌, ◌++◌, refl, arith}
use Rattle.std.specs.Prelude.{Bool, true, false, ◌==◌, nat_lt, ◌&&◌, ◌||◌, cond, IsTrue, codes, decimal, map}
use Rattle.std.specs.List.{list_all, join_with_byte}
use Rattle.std.specs.Str.{IsAscii, IsUtf8}
use Rattle.std.specs.Fmt.{digits, digits_onto, digit_glyph}
use Rattle.std.proofs.lemmas.Bool.Decides.{nat_tests}
use Rattle.std.proofs.lemmas.Str.{IsUtf8-from_ascii}
use Rattle.std.proofs.lemmas.Str.Ascii.{IsAscii-nil, IsAscii-cons}
use Rattle.yard_model.specs.declared.event.Command.{Command}
use Rattle.yard_model.specs.declared.event.Command.TheVariants as command
use Rattle.yard_model.specs.declared.event.Event.{Event}
use Rattle.yard_model.specs.declared.event.Event.TheVariants as event
use Rattle.yard_model.specs.declared.event.Reply.{Reply}
use Rattle.yard_model.specs.declared.event.Reply.TheVariants as reply
use Rattle.yard_model.specs.declared.state.State.{State}
use Rattle.yard_model.specs.declared.state.State.TheVariants as state
use Rattle.yard_model.specs.declared.state.CartItem.{CartItem}
use Rattle.yard_model.specs.Name.{IsName, is_name_byte}
use Rattle.yard_model.specs.Text.{words, command_text, event_text, reply_text, state_text, item_text, items_text}
use Rattle.trace_text.proofs.RowLaws.{first_of, second_of}

abbrev pub is_plain : ℕ → Bool
is_plain b = (b == 32) || (nat_lt 34 b && nat_lt b 92) || (nat_lt 92 b && nat_lt b 128)

abbrev pub ArePlain : List ℕ → Type 0
ArePlain bs = IsTrue (list_all is_plain bs)

both : (a b : Bool) → IsTrue a → IsTrue b → IsTrue (a && b)
both true b h k = k
both false b h k = h

plain_cons : (b : ℕ) (bs : List ℕ) → IsTrue (is_plain b) → ArePlain bs → ArePlain (b ∷ bs)
plain_cons b bs h k = both (is_plain b) (list_all is_plain bs) h k

plain_append : (xs ys : List ℕ) → ArePlain xs → ArePlain ys → ArePlain (xs ++ ys)
plain_append [] ys h k = k
plain_append (x ∷ xs) ys h k = both (is_plain x) _ (first_of (is_plain x) _ h) (plain_append xs ys (second_of (is_plain x) _ h) k)

between : (b : ℕ) → 34 < b → b < 92 → IsTrue (is_plain b)
between b h k = grind (arith, nat_tests)

glyph : (d : ℕ) → d < 10 → IsTrue (is_plain (digit_glyph false d))
glyph d h = one (nat_lt d 10) refl
  where
    one : (b : Bool) → nat_lt d 10 ≡ b → IsTrue (is_plain (cond b (48 + d) (87 + d)))
    one true e = between (48 + d) (omega arith) (omega arith)
    one false e = absurd (not_so e)
      where
        not_so : nat_lt d 10 ≡ false → ⊥
        not_so e = grind (arith, nat_tests)

-- a digit before what is ASCII
digit : (n : ℕ) (acc : List ℕ) → ArePlain acc → ArePlain (digit_glyph false (n % 10) ∷ acc)
digit n acc h = plain_cons (digit_glyph false (n % 10)) acc (glyph (n % 10) (omega arith)) h

either : (b : Bool) (xs ys : List ℕ) → ArePlain xs → ArePlain ys → ArePlain (cond b xs ys)
either true xs ys h k = h
either false xs ys h k = k

onto : (k n : ℕ) (acc : List ℕ) → ArePlain acc → ArePlain (digits_onto k 10 false n acc)
onto zero n acc h = h
onto (suc k) n acc h =
    let more = digit n acc h in
    either (n / 10 == 0) (digit_glyph false (n % 10) ∷ acc) (digits_onto k 10 false (n / 10) (digit_glyph false (n % 10) ∷ acc)) more (onto k (n / 10) (digit_glyph false (n % 10) ∷ acc) more)

number : (n : ℕ) → ArePlain (decimal n)
unfolding digits
number n = onto 64 n [] refl

joined : (c : ℕ) (a b : List ℕ) → IsTrue (is_plain c) → ArePlain a → ArePlain b → ArePlain (a ++ c ∷ b)
joined c a b h k l = plain_append a (c ∷ b) k (plain_cons c b h l)

two : (a b : List ℕ) → ArePlain a → ArePlain b → ArePlain (words (a ∷ b ∷ []))
two a b h k = joined 32 a b refl h k

three : (a b c : List ℕ) → ArePlain a → ArePlain b → ArePlain c → ArePlain (words (a ∷ b ∷ c ∷ []))
three a b c h k l = joined 32 a (words (b ∷ c ∷ [])) refl h (two b c k l)

with_number : (a : List ℕ) (n : ℕ) → ArePlain a → ArePlain (words (a ∷ decimal n ∷ []))
with_number a n h = two a (decimal n) h (number n)

with_numbers : (a : List ℕ) (n m : ℕ) → ArePlain a → ArePlain (words (a ∷ decimal n ∷ decimal m ∷ []))
with_numbers a n m h = three a (decimal n) (decimal m) h (number n) (number m)

with_memo : (a : List ℕ) (n m : ℕ) → ArePlain a → ArePlain (words (a ∷ decimal n ∷ codes "memo" ∷ decimal m ∷ []))
with_memo a n m h = joined 32 a (words (decimal n ∷ codes "memo" ∷ decimal m ∷ [])) refl h (three (decimal n) (codes "memo") (decimal m) (number n) refl (number m))

pub command_plain : (c : Command) → ArePlain (command_text c)
command_plain (command.Add k) = with_number (codes "add") k refl
command_plain command.Read = refl
command_plain command.Create = refl
command_plain (command.Deposit k) = with_number (codes "deposit") k refl
command_plain (command.Withdraw k) = with_number (codes "withdraw") k refl
command_plain (command.DepositWithMemo m k) = with_numbers (codes "deposit") k m refl
command_plain (command.WithdrawWithMemo m k) = with_numbers (codes "withdraw") k m refl
command_plain command.Balance = refl
command_plain command.Close = refl
command_plain (command.AddItem x) = with_numbers (codes "add") x.item x.quantity refl
command_plain (command.RemoveItem i) = with_number (codes "remove") i refl
command_plain (command.AdjustItem x) = with_numbers (codes "adjust") x.item x.quantity refl
command_plain command.Checkout = refl

pub event_plain : (e : Event) → ArePlain (event_text e)
event_plain (event.Added k) = with_number (codes "added") k refl
event_plain event.Created = refl
event_plain (event.Deposited k) = with_number (codes "deposited") k refl
event_plain (event.Withdrawn k) = with_number (codes "withdrawn") k refl
event_plain (event.DepositedWithMemo m k) = with_memo (codes "deposited") k m refl
event_plain (event.WithdrawnWithMemo m k) = with_memo (codes "withdrawn") k m refl
event_plain event.AccountClosed = refl
event_plain (event.ItemAdded x) = with_numbers (codes "added") x.item x.quantity refl
event_plain (event.ItemRemoved i) = with_number (codes "removed") i refl
event_plain (event.ItemAdjusted x) = with_numbers (codes "adjusted") x.item x.quantity refl
event_plain event.CheckedOut = refl

pub reply_plain : (r : Reply) → ArePlain (reply_text r)
reply_plain (reply.Value v) = with_number (codes "ok") v refl
reply_plain (reply.Rejected r) = with_number (codes "no") r refl

item_plain : (x : CartItem) → ArePlain (item_text x)
item_plain x = joined 58 (decimal x.item) (decimal x.quantity) refl (number x.item) (number x.quantity)

items_plain : (xs : List CartItem) → ArePlain (items_text xs)
items_plain [] = refl
items_plain (x ∷ []) = item_plain x
items_plain (x ∷ y ∷ ys) = joined 44 (item_text x) (join_with_byte 44 (map item_text (y ∷ ys))) refl (item_plain x) (items_plain (y ∷ ys))

open_plain : (b m : ℕ) (is_none : Bool) → ArePlain (words (codes "open" ∷ decimal b ∷ cond is_none [] (codes "memo" ∷ decimal m ∷ [])))
open_plain b m true = with_number (codes "open") b refl
open_plain b m false = with_memo (codes "open") b m refl

cart_plain : (out : Bool) (xs : List CartItem) → ArePlain (words (cond out (codes "out") (codes "open") ∷ items_text xs ∷ []))
cart_plain true xs = two (codes "out") (items_text xs) refl (items_plain xs)
cart_plain false xs = two (codes "open") (items_text xs) refl (items_plain xs)

pub state_plain : (s : State) → ArePlain (state_text s)
state_plain (state.Counter n) = number n
state_plain state.NoAccount = refl
state_plain (state.Open b m) = open_plain b m (m == 0)
state_plain state.Closed = refl
state_plain (state.Cart out xs) = cart_plain out xs

name_byte : (b : ℕ) → IsTrue (is_name_byte b) → IsTrue (is_plain b)
name_byte b h = grind (arith, nat_tests)

pub name_bytes : (bs : List ℕ) → IsTrue (list_all is_name_byte bs) → ArePlain bs
name_bytes [] h = refl
name_bytes (b ∷ bs) h = plain_cons b bs (name_byte b (first_of (is_name_byte b) _ h)) (name_bytes bs (second_of (is_name_byte b) _ h))

ascii : (bs : List ℕ) → ArePlain bs → IsAscii bs
ascii [] h = IsAscii-nil
ascii (b ∷ bs) h = IsAscii-cons b bs (under b (first_of (is_plain b) _ h)) (ascii bs (second_of (is_plain b) _ h))
  where
    under : (c : ℕ) → IsTrue (is_plain c) → c < 128
    under c h = grind (arith, nat_tests)

pub command_utf8 : (c : Command) → IsUtf8 (command_text c)
command_utf8 c = IsUtf8-from_ascii (command_text c) (ascii (command_text c) (command_plain c))

pub event_utf8 : (e : Event) → IsUtf8 (event_text e)
event_utf8 e = IsUtf8-from_ascii (event_text e) (ascii (event_text e) (event_plain e))

pub reply_utf8 : (r : Reply) → IsUtf8 (reply_text r)
reply_utf8 r = IsUtf8-from_ascii (reply_text r) (ascii (reply_text r) (reply_plain r))

pub state_utf8 : (s : State) → IsUtf8 (state_text s)
state_utf8 s = IsUtf8-from_ascii (state_text s) (ascii (state_text s) (state_plain s))

pub name_utf8 : (e : List ℕ) → IsName e → IsUtf8 e
name_utf8 e h = IsUtf8-from_ascii e (ascii e (name_bytes e h.each))
