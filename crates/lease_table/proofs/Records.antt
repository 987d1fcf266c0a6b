-- A record that was seen stays in every longer list; the shard of a name is one of the script's.
use Rattle.std.proofs.Common.{◌≡◌, ℕ, ◌<◌, ◌≤◌, List, [], ◌∷◌, ◌++◌, refl, sym, ap, ◌∙◌, subst, arith}
use Rattle.std.specs.Prelude.{Bool, true, false, ◌%◌, ◌&&◌, ◌||◌, nat_le, fold, if◌then◌else◌}
use Rattle.std.proofs.lemmas.Bool.Decides.{nat_tests}
use Rattle.std.proofs.lemmas.List.Sums.{fold-append}
use Rattle.std.proofs.lemmas.List.Folds.{list_any-append}
use Rattle.plain_laws.proofs.Booleans.{and_both, at_most}
use Rattle.yard_laws.proofs.Places.{position_more}
use Rattle.yard_model.specs.declared.fact.Fact.{Fact}
use Rattle.yard_model.specs.declared.fact.Fact.TheVariants as fact
use Rattle.yard_model.specs.declared.packet.Record.{Record}
use Rattle.yard_model.specs.Behaviour.{is_in}
use Rattle.yard_model.specs.Script.{Script, IsScript, is_name}
use Rattle.yard_model.specs.Shard.{absolute, java_hash}
use Rattle.yard_model.specs.SlotReads.{journal, journal_step, position}
use Rattle.shard_lease.specs.Meaning.{Begins, confirms, is_confirmed}
use Rattle.lease_table.specs.Fits.{slot_count, recorded, home_of}

step_rises : (p : ℕ) (e : List ℕ) (old : List Record) (f : Fact) → position p old ≤ position p (journal_step e old f)
step_rises p e old (fact.Wrote x r) = by (is_name x e)
  where
    by : (b : Bool) → position p old ≤ position p (if b then old ++ r ∷ [] else old)
    by true = let h = position_more p old r in omega arith
    by false = omega arith
step_rises p e old f = omega arith

all_rise : (p : ℕ) (e : List ℕ) (old : List Record) (fs : List Fact) → position p old ≤ position p (fold (journal_step e) old fs)
all_rise p e old [] = omega arith
all_rise p e old (f ∷ fs) = let a = step_rises p e old f in let b = all_rise p e (journal_step e old f) fs in omega arith

at_most_more : (n a b : ℕ) → a ≤ b → nat_le n a ≡ true → nat_le n b ≡ true
at_most_more n a b h e = let k : n ≤ a = at_most n a e in grind (arith, nat_tests)

pub recorded_begins : (e : List ℕ) (p n : ℕ) (xs ys : List Fact) → Begins xs ys → recorded e p n xs ≡ true → recorded e p n ys ≡ true
recorded_begins e p n xs ys b h = at_most_more n (position p (journal e xs)) (position p (journal e ys))
    (subst (λ (l : List Record). position p (journal e xs) ≤ position p l) (sym (ap (journal e) b.is ∙ fold-append (journal_step e) [] xs b.rest)) (all_rise p e (journal e xs) b.rest)) h

-- what a list confirms with an entry more that confirms nothing
pub confirms_before : (e : List ℕ) (p n : ℕ) (list : List Fact) (f : Fact) → is_confirmed e p n f ≡ false → confirms e p n (list ++ f ∷ []) ≡ true → confirms e p n list ≡ true
confirms_before e p n list f nothing h = no_more (confirms e p n list) (is_confirmed e p n f) nothing (sym (list_any-append (is_confirmed e p n) list (f ∷ [])) ∙ h)
  where
    no_more : (a b : Bool) → b ≡ false → (a || (b || false)) ≡ true → a ≡ true
    no_more true b e k = refl
    no_more false true e k = sym e
    no_more false false e k = k

rest_of : (a b : ℕ) → 1 ≤ b → a % b < b
rest_of a b h = omega arith

second_of : (a b c d e f g : Bool) → (a && b && c && d && e && f && g) ≡ true → b ≡ true
second_of true true c d e f g h = refl
second_of true false c d e f g h = cc
second_of false b c d e f g h = cc

first_of : (a b c d e f g : Bool) → (a && b && c && d && e && f && g) ≡ true → a ≡ true
first_of true b c d e f g h = refl
first_of false b c d e f g h = cc

pub some_nodes : (c : Script) → IsScript c → 1 ≤ c.config.nodes
some_nodes c is = at_most 1 c.config.nodes (and_both (nat_le 1 c.config.nodes) (nat_le c.config.nodes 16) (first_of (is_in 1 16 c.config.nodes) (is_in 1 128 c.config.shards) (is_in 1 32 c.config.producers) (is_in 1 1000 c.config.buffer) (is_in 1 64 c.config.window) (is_in 1 10000 c.config.snapshot) (is_in 1 10 c.config.keep) is.config)).0

pub few_nodes : (c : Script) → IsScript c → c.config.nodes ≤ 16
few_nodes c is = at_most c.config.nodes 16 (and_both (nat_le 1 c.config.nodes) (nat_le c.config.nodes 16) (first_of (is_in 1 16 c.config.nodes) (is_in 1 128 c.config.shards) (is_in 1 32 c.config.producers) (is_in 1 1000 c.config.buffer) (is_in 1 64 c.config.window) (is_in 1 10000 c.config.snapshot) (is_in 1 10 c.config.keep) is.config)).1

some_shards : (c : Script) → IsScript c → 1 ≤ c.config.shards
some_shards c is = at_most 1 c.config.shards (and_both (nat_le 1 c.config.shards) (nat_le c.config.shards 128) (second_of (is_in 1 16 c.config.nodes) (is_in 1 128 c.config.shards) (is_in 1 32 c.config.producers) (is_in 1 1000 c.config.buffer) (is_in 1 64 c.config.window) (is_in 1 10000 c.config.snapshot) (is_in 1 10 c.config.keep) is.config)).0

pub home_within : (c : Script) (e : List ℕ) → IsScript c → home_of c e < c.config.shards
home_within c e is = rest_of (absolute (java_hash e)) c.config.shards (some_shards c is)

pub home_inside : (c : Script) (e : List ℕ) → IsScript c → home_of c e < slot_count c
home_inside c e is = let h = home_within c e is in omega arith
