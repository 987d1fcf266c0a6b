-- What is recorded in a guarded trace stays so.
use Rattle.std.proofs.Common.{◌≡◌, ℕ, ◌≤◌, ◌+◌, List, [], ◌∷◌, ◌++◌, length, sym, subst, refl, true, false, arith}
use Rattle.std.specs.Prelude.{Bool, ◌==◌, nat_le, count_by, Option, Some, None, if◌then◌else◌, true, false, nat_lt, slice_set, slice_index_or}
use Rattle.std.proofs.lemmas.Bool.Decides.{nat_tests}
use Rattle.std.proofs.lemmas.List.{append-nil, append_assoc, get_or-set_same, get_or-set_other, set_past}
use Rattle.std.proofs.lemmas.List.Sums.{fold-append}
use Rattle.yard_model.specs.declared.fact.Fact.{Fact}
use Rattle.yard_model.specs.declared.fact.Fact.TheVariants as fact
use Rattle.yard_model.specs.declared.packet.Record.{Record}
use Rattle.yard_model.specs.declared.incarnation.Slot.{Slot}
use Rattle.yard_model.specs.declared.incarnation.Slot.TheVariants as slot
use Rattle.yard_model.specs.Safe.{shard_list_of}
use Rattle.yard_model.specs.Script.{Script, is_name, setting}
use Rattle.yard_model.specs.Setting.{shard_of}
use Rattle.yard_model.specs.SlotLists.{SlotLists, shard_list}
use Rattle.yard_model.specs.SlotReads.{journal, journal_step, position}
use Rattle.yard_model.specs.Trace.{slot_of, with_entry, lists_of}
use Rattle.plain_laws.proofs.Booleans.{below, not_below}
use Rattle.plain_laws.proofs.Lists.{by_place}
use Rattle.node_laws.specs.Traces.{RecordedStays}
use Rattle.node_laws.proofs.TraceOthers.{longer}

-- A record more.

more_of : (q : Record → Bool) (xs : List Record) (x : Record) → count_by q xs ≤ count_by q (xs ++ x ∷ [])
more_of q xs x = let same : count_by q (xs ++ x ∷ []) ≡ count_by q xs + (if q x then 1 else 0) = fold-append (λ a y. a + (if q y then 1 else 0)) 0 xs (x ∷ []) in omega (arith, same)

pub same_at_most : (a : ℕ) → a ≤ a
same_at_most a = omega (arith)

step_rises : (p : ℕ) (e : List ℕ) (old : List Record) (f : Fact) → position p old ≤ position p (journal_step e old f)
step_rises p e old (fact.Wrote x r) = by (is_name x e)
  where
    by : (b : Bool) → position p old ≤ position p (if b then old ++ r ∷ [] else old)
    by true = more_of (λ (y : Record). y.producer == p) old r
    by false = same_at_most (position p old)
step_rises p e old f = same_at_most (position p old)

pub entry_rises : (p : ℕ) (e : List ℕ) (list : List Fact) (f : Fact) → position p (journal e list) ≤ position p (journal e (list ++ f ∷ []))
entry_rises p e list f = subst (λ l. position p (journal e list) ≤ position p l) (sym (fold-append (journal_step e) [] list (f ∷ []))) (step_rises p e (journal e list) f)

-- A fact more.

one_rises : (lists : SlotLists) (f : Fact) (p : ℕ) (e : List ℕ) (s : ℕ) (o : Option Slot) → position p (journal e (shard_list lists s)) ≤ position p (journal e (shard_list (with_entry f lists o) s))
one_rises lists f p e s None = same_at_most (position p (journal e (shard_list lists s)))
one_rises lists f p e s (Some (slot.Shard t)) = by_place (position p (journal e (shard_list lists s)) ≤ position p (journal e (shard_list (with_entry f lists (Some (slot.Shard t))) s))) s t
    (λ same. subst (λ n. position p (journal e (shard_list lists n)) ≤ position p (journal e (shard_list (with_entry f lists (Some (slot.Shard t))) n))) (sym same) (here (nat_lt t (length lists.shards)) refl))
    (λ ne. subst (λ l. position p (journal e (shard_list lists s)) ≤ position p (journal e l)) (sym (get_or-set_other lists.shards t s (shard_list lists t ++ f ∷ []) [] ne)) (same_at_most (position p (journal e (shard_list lists s)))))
  where
    now : List (List Fact)
    now = slice_set lists.shards t (shard_list lists t ++ f ∷ [])

    here : (b : Bool) → nat_lt t (length lists.shards) ≡ b → position p (journal e (shard_list lists t)) ≤ position p (journal e (slice_index_or now t []))
    here true inside = subst (λ l. position p (journal e (shard_list lists t)) ≤ position p (journal e l)) (sym (get_or-set_same lists.shards t (shard_list lists t ++ f ∷ []) [] (below t (length lists.shards) inside))) (entry_rises p e (shard_list lists t) f)
    here false past = subst (λ l. position p (journal e (shard_list lists t)) ≤ position p (journal e (slice_index_or l t []))) (sym (set_past lists.shards t (shard_list lists t ++ f ∷ []) (not_below t (length lists.shards) past))) (same_at_most (position p (journal e (shard_list lists t))))
one_rises lists f p e s (Some slot.Coordinator) = same_at_most (position p (journal e (shard_list lists s)))
one_rises lists f p e s (Some (slot.Queue q)) = same_at_most (position p (journal e (shard_list lists s)))

fact_rises : (c : Script) (trace : List Fact) (f : Fact) (p : ℕ) (e : List ℕ) → position p (journal e (shard_list_of c e trace)) ≤ position p (journal e (shard_list_of c e (trace ++ f ∷ [])))
fact_rises c trace f p e =
    subst (λ (l : SlotLists). position p (journal e (shard_list_of c e trace)) ≤ position p (journal e (shard_list l (shard_of (setting c) e)))) (sym (longer c trace f))
    (one_rises (lists_of (setting c) trace) f p e (shard_of (setting c) e) (slot_of (setting c) f))

all_rise : (c : Script) (trace more : List Fact) (p : ℕ) (e : List ℕ) → position p (journal e (shard_list_of c e trace)) ≤ position p (journal e (shard_list_of c e (trace ++ more)))
all_rise c trace [] p e = subst (λ t. position p (journal e (shard_list_of c e trace)) ≤ position p (journal e (shard_list_of c e t))) (sym (append-nil trace)) (same_at_most (position p (journal e (shard_list_of c e trace))))
all_rise c trace (f ∷ fs) p e =
    let one : position p (journal e (shard_list_of c e trace)) ≤ position p (journal e (shard_list_of c e (trace ++ f ∷ []))) = fact_rises c trace f p e in
    let rest : position p (journal e (shard_list_of c e (trace ++ f ∷ []))) ≤ position p (journal e (shard_list_of c e (trace ++ (f ∷ fs)))) = subst (λ t. position p (journal e (shard_list_of c e (trace ++ f ∷ []))) ≤ position p (journal e (shard_list_of c e t))) (append_assoc trace (f ∷ []) fs) (all_rise c (trace ++ f ∷ []) fs p e) in
    omega (arith, one, rest)

pub at_most_more : (n a b : ℕ) → a ≤ b → nat_le n a ≡ true → nat_le n b ≡ true
at_most_more n a b rise e = grind (arith, nat_tests)

pub recorded_stays : RecordedStays
recorded_stays c trace more g e p n h = at_most_more n (position p (journal e (shard_list_of c e trace))) (position p (journal e (shard_list_of c e (trace ++ more)))) (all_rise c trace more p e) h
