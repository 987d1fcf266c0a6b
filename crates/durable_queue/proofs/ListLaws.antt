-- A queue's list with one entry more: it is lawful, and what is read off it.
use Rattle.std.proofs.Common.{◌≡◌, ◌<◌, ◌≤◌, ℕ, ◌+◌, sym, ap, ◌∙◌, refl, arith, take}
use Rattle.std.specs.Prelude.{Bool, true, false, ◌&&◌, ◌==◌, not, nat_lt, nat_le, List, [], ◌∷◌, ◌++◌, Some, None, is_some, slice_get, if◌then◌else◌}
use Rattle.std.specs.Option.{option_map_or}
use Rattle.std.proofs.lemmas.Bool.Decides.{Decides-eqb, nat_tests}
use Rattle.std.proofs.lemmas.List.Sums.{fold-append}
use Rattle.std.proofs.lemmas.Option.{slice_get_within, get_or_from_slice_get}
use Rattle.yard_model.specs.declared.charter.Sending.{Sending}
use Rattle.yard_model.specs.declared.fact.Fact.{Fact}
use Rattle.yard_model.specs.declared.fact.Fact.TheVariants as fact
use Rattle.yard_model.specs.declared.incarnation.Cause.{Cause}
use Rattle.yard_model.specs.declared.incarnation.Incarnation.{Incarnation}
use Rattle.yard_model.specs.declared.incarnation.Slot.TheVariants as slot
use Rattle.yard_model.specs.Equal.{is_slot, is_sending}
use Rattle.yard_model.specs.Genuine.{is_node}
use Rattle.yard_model.specs.Lawful.{is_held}
use Rattle.yard_model.specs.Script.{Script, is_name, sends}
use Rattle.yard_model.specs.SlotReads as reads
use Rattle.yard_model.proofs.FollowLaws.{own_more}
use Rattle.durable_queue.specs.Kept.{commands_to, IsList, AreSums}
use Rattle.durable_queue.proofs.SendsLaws.{commands_next}

both : (a b : Bool) → a ≡ true → b ≡ true → (a && b) ≡ true
both a b p q = ap (λ v. v && b) p ∙ q

equal : (a b : ℕ) → a ≡ b → (a == b) ≡ true
equal a b e = (Decides-eqb a b).1 e

below : (a b : ℕ) → a < b → nat_lt a b ≡ true
below a b h = grind (arith, nat_tests)

at_most : (a b : ℕ) → a ≤ b → nat_le a b ≡ true
at_most a b h = grind (arith, nat_tests)

-- One entry more, of each kind.

pub list_granted : (c : Script) (p n : ℕ) (xs : List Fact) (x : Incarnation) → is_held xs ≡ false → n ≡ reads.epoch xs + 1 → is_node c x ≡ true → IsList c p xs
    → IsList c p (xs ++ fact.Granted (slot.Queue p) n x ∷ [])
list_granted c p n xs x free next node l =
    let f : Fact = fact.Granted (slot.Queue p) n x in record {
      lawful = own_more c (slot.Queue p) xs f l.lawful
          (both (not (is_held xs) && (n == reads.epoch xs + 1)) (is_slot (slot.Queue p) (slot.Queue p) && is_node c x)
          (both (not (is_held xs)) (n == reads.epoch xs + 1) (ap not free) (equal n (reads.epoch xs + 1) next))
          (both (is_slot (slot.Queue p) (slot.Queue p)) (is_node c x) (equal p p refl) node));
      first = record { each = λ e. fold-append (reads.commands_step e) [] xs (f ∷ []) ∙ (l.first.each e ∙ ap (λ i. commands_to e (take i (sends c p))) (sym (fold-append reads.queued_in_all_step 0 xs (f ∷ [])))) };
    }

pub list_freed : (c : Script) (p n : ℕ) (xs : List Fact) (why : Cause) → is_held xs ≡ true → n ≡ reads.epoch xs → IsList c p xs
    → IsList c p (xs ++ fact.Freed (slot.Queue p) n why ∷ [])
list_freed c p n xs why held last l =
    let f : Fact = fact.Freed (slot.Queue p) n why in record {
      lawful = own_more c (slot.Queue p) xs f l.lawful
          (both (is_held xs && (n == reads.epoch xs)) (is_slot (slot.Queue p) (slot.Queue p)) (both (is_held xs) (n == reads.epoch xs) held (equal n (reads.epoch xs) last)) (equal p p refl));
      first = record { each = λ e. fold-append (reads.commands_step e) [] xs (f ∷ []) ∙ (l.first.each e ∙ ap (λ i. commands_to e (take i (sends c p))) (sym (fold-append reads.queued_in_all_step 0 xs (f ∷ [])))) };
    }

pub list_confirmed : (c : Script) (p n : ℕ) (xs : List Fact) (e : List ℕ) → is_held xs ≡ true → reads.confirmed e xs < n → n ≤ reads.queued e xs → IsList c p xs
    → IsList c p (xs ++ fact.Confirmed p e n ∷ [])
list_confirmed c p n xs e held above there l =
    let f : Fact = fact.Confirmed p e n in record {
      lawful = own_more c (slot.Queue p) xs f l.lawful
          (both (is_held xs) ((p == p) && nat_lt (reads.confirmed e xs) n && nat_le n (reads.queued e xs)) held
          (both ((p == p) && nat_lt (reads.confirmed e xs) n) (nat_le n (reads.queued e xs))
          (both (p == p) (nat_lt (reads.confirmed e xs) n) (equal p p refl) (below (reads.confirmed e xs) n above))
          (at_most n (reads.queued e xs) there)));
      first = record { each = λ q. fold-append (reads.commands_step q) [] xs (f ∷ []) ∙ (l.first.each q ∙ ap (λ i. commands_to q (take i (sends c p))) (sym (fold-append reads.queued_in_all_step 0 xs (f ∷ [])))) };
    }

pub list_queued : (c : Script) (p : ℕ) (xs : List Fact) (x : Sending) → is_sending x x ≡ true → is_held xs ≡ true → slice_get (sends c p) (reads.queued_in_all xs) ≡ Some x → IsList c p xs
    → IsList c p (xs ++ fact.Queued p x.entity x.number x.command ∷ [])
list_queued c p xs x same held next l =
    let f : Fact = fact.Queued p x.entity x.number x.command in
    let i : ℕ = reads.queued_in_all xs in
    let all : List Sending = sends c p in record {
      lawful = own_more c (slot.Queue p) xs f l.lawful
          (both (is_held xs) ((p == p) && option_map_or (is_sending x) (slice_get all i) false) held
          (both (p == p) (option_map_or (is_sending x) (slice_get all i) false) (equal p p refl) (ap (λ o. option_map_or (is_sending x) o false) next ∙ same)));
      first = record {
        each = λ e. fold-append (reads.commands_step e) [] xs (f ∷ [])
            ∙ (ap (λ v. if is_name x.entity e then v ++ x.command ∷ [] else v) (l.first.each e)
            ∙ (sym (commands_next e all i x (slice_get_within all i x next) (sym (get_or_from_slice_get all i x x next)))
            ∙ ap (λ n. commands_to e (take n all)) (sym (fold-append reads.queued_in_all_step 0 xs (f ∷ [])))));
      };
    }

-- The numbers of the whole list.

pub sums_granted : (sum last n : ℕ) (held : Bool) (xs : List Fact) (p : ℕ) (x : Incarnation) → AreSums sum last held xs → AreSums sum n true (xs ++ fact.Granted (slot.Queue p) n x ∷ [])
sums_granted sum last n held xs p x s =
    let f : Fact = fact.Granted (slot.Queue p) n x in record {
      total = s.total ∙ sym (fold-append reads.queued_in_all_step 0 xs (f ∷ []));
      epoch = sym (fold-append reads.epoch_step 0 xs (f ∷ []));
      leased = sym (ap is_some (fold-append reads.holder_step None xs (f ∷ [])));
    }

pub sums_freed : (sum last n : ℕ) (held : Bool) (xs : List Fact) (p : ℕ) (why : Cause) → AreSums sum last held xs → AreSums sum last false (xs ++ fact.Freed (slot.Queue p) n why ∷ [])
sums_freed sum last n held xs p why s =
    let f : Fact = fact.Freed (slot.Queue p) n why in record {
      total = s.total ∙ sym (fold-append reads.queued_in_all_step 0 xs (f ∷ []));
      epoch = s.epoch ∙ sym (fold-append reads.epoch_step 0 xs (f ∷ []));
      leased = sym (ap is_some (fold-append reads.holder_step None xs (f ∷ [])));
    }

pub sums_confirmed : (sum last n : ℕ) (held : Bool) (xs : List Fact) (p : ℕ) (e : List ℕ) → AreSums sum last held xs → AreSums sum last held (xs ++ fact.Confirmed p e n ∷ [])
sums_confirmed sum last n held xs p e s =
    let f : Fact = fact.Confirmed p e n in record {
      total = s.total ∙ sym (fold-append reads.queued_in_all_step 0 xs (f ∷ []));
      epoch = s.epoch ∙ sym (fold-append reads.epoch_step 0 xs (f ∷ []));
      leased = s.leased ∙ sym (ap is_some (fold-append reads.holder_step None xs (f ∷ [])));
    }

pub sums_queued : (sum last : ℕ) (held : Bool) (xs : List Fact) (p : ℕ) (x : Sending) → AreSums sum last held xs → AreSums (sum + 1) last held (xs ++ fact.Queued p x.entity x.number x.command ∷ [])
sums_queued sum last held xs p x s =
    let f : Fact = fact.Queued p x.entity x.number x.command in record {
      total = ap (λ n. n + 1) s.total ∙ sym (fold-append reads.queued_in_all_step 0 xs (f ∷ []));
      epoch = s.epoch ∙ sym (fold-append reads.epoch_step 0 xs (f ∷ []));
      leased = s.leased ∙ sym (ap is_some (fold-append reads.holder_step None xs (f ∷ [])));
    }
