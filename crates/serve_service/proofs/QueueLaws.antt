-- What a log's entries queue, up to any of them.
use Rattle.std.proofs.Common.{◌≡◌, ◌≤◌, ◌<◌, ℕ, ◌+◌, List, [], ◌∷◌, ◌++◌, length, take, drop, get_or, fold, refl, sym, ◌∙◌, ap, subst, arith, length-append, append_assoc}
use Rattle.std.specs.Prelude.{Bool, true, false, Option, Some, None, if◌then◌else◌}
use Rattle.std.specs.List.{flat_map, list_all, list_any}
use Rattle.std.specs.declared.cmp.Ordering.{Ordering}
use Rattle.std.specs.declared.cmp.Ordering.TheVariants.{Less, Equal, Greater}
use Rattle.std.specs.Ordering.{nat_cmp, match_ordering}
use Rattle.std.specs.Cmp.Lexicographic.{slice_cmp}
use Rattle.std.specs.BTreeSet.{insert_key}
use Rattle.std.proofs.lemmas.List.{append-nil, take_more, take-append-drop}
use Rattle.std.proofs.lemmas.List.Folds.{list_all-append}
use Rattle.std.proofs.lemmas.List.Sums.{fold-append}
use Rattle.plain_laws.proofs.Booleans.{and_both}
use Rattle.yard_model.specs.declared.charter.Config.{Config}
use Rattle.yard_model.specs.declared.charter.Line.{Line}
use Rattle.yard_model.specs.declared.charter.Order.{Order}
use Rattle.yard_model.specs.declared.charter.Order.TheVariants as order
use Rattle.yard_model.specs.declared.fact.Fact.{Fact}
use Rattle.yard_model.specs.Script.{Pair, Script, brought, is_order, is_pair, names_in, pairs_in, with_brought, with_name_of, with_pair}
use Rattle.yard_model.specs.Text.{Bytes}
use Rattle.script_text.specs.Fit.{is_send}
use Rattle.log_resume.specs.Restored.{entries}
use Rattle.log_resume.proofs.BatchLaws.{entries_more}
use Rattle.serve_laws.specs.Hearings.{IsHeard}
use Rattle.serve_laws.specs.Queues.{sends_of}
use Rattle.serve_service.specs.Openings.{script_of, with_queued}

-- Names and pairs are no fewer with more orders.

one_name : (names : List Bytes) (e : Bytes) → length names ≤ length (insert_key (slice_cmp nat_cmp) names e)
one_name [] e = omega arith
one_name (x ∷ xs) e = by (slice_cmp nat_cmp e x) (one_name xs e)
  where
    by : (o : Ordering) → length xs ≤ length (insert_key (slice_cmp nat_cmp) xs e) → length (x ∷ xs) ≤ length (match_ordering o (e ∷ x ∷ xs) (x ∷ xs) (x ∷ insert_key (slice_cmp nat_cmp) xs e))
    by Less le = omega arith
    by Equal le = omega arith
    by Greater le = omega (arith, le)

names_on : (names : List Bytes) (ls : List Line) → length names ≤ length (fold with_name_of names ls)
names_on names [] = omega arith
names_on names (l ∷ ls) = omega (arith, by (brought l.order), names_on (with_name_of names l) ls)
  where
    by : (o : Option Bytes) → length names ≤ length (with_brought names o)
    by None = omega arith
    by (Some e) = one_name names e

abbrev with_pair_of : List Pair → Line → List Pair
with_pair_of pairs l = with_pair pairs l.order

pairs_on : (pairs : List Pair) (ls : List Line) → length pairs ≤ length (fold with_pair_of pairs ls)
pairs_on pairs [] = omega arith
pairs_on pairs (l ∷ ls) = omega (arith, by l.order, pairs_on (with_pair_of pairs l) ls)
  where
    or_one : (p : ℕ) (e : Bytes) (b : Bool) → length pairs ≤ length (if b then pairs else pairs ++ record { producer = p; entity = e } ∷ [])
    or_one p e true = omega arith
    or_one p e false = omega (arith, length-append pairs (record { producer = p; entity = e } ∷ []))

    by : (o : Order) → length pairs ≤ length (with_pair pairs o)
    by (order.Send p e c) = or_one p e (list_any (is_pair p e) pairs)
    by o = omega arith

-- A front of what was heard was heard.
pub front_heard : (c : Script) (more : List Line) → IsHeard (record { config = c.config; orders = c.orders ++ more }) → IsHeard c
front_heard c more h = record {
  script = record {
    config = h.script.config;
    orders = (and_both (list_all (λ (l : Line). is_order c.config l.order) c.orders) _ (sym (list_all-append (λ (l : Line). is_order c.config l.order) c.orders more) ∙ h.script.orders)).0;
    names = omega (arith, names_on (names_in c.orders) more, ap length (fold-append with_name_of [] c.orders more), h.script.names);
    pairs = omega (arith, pairs_on (pairs_in c.orders) more, ap length (fold-append with_pair_of [] c.orders more), h.script.pairs);
    fits = omega (arith, length-append c.orders more, h.script.fits);
  };
  sends = (and_both (list_all (λ (l : Line). is_send l.order) c.orders) _ (sym (list_all-append (λ (l : Line). is_send l.order) c.orders more) ∙ h.sends)).0;
  few = omega (arith, length-append c.orders more, h.few);
}

-- Entries, one after the other.

flat_both : (xs ys : List Fact) → flat_map sends_of (xs ++ ys) ≡ flat_map sends_of xs ++ flat_map sends_of ys
flat_both [] ys = refl
flat_both (x ∷ xs) ys = ap (λ l. sends_of x ++ l) (flat_both xs ys) ∙ sym (append_assoc (sends_of x) (flat_map sends_of xs) (flat_map sends_of ys))

pub queued_both : (c : Script) (xs ys : List Fact) → with_queued c (xs ++ ys) ≡ with_queued (with_queued c xs) ys
queued_both c xs ys = ap (λ l. record { config = c.config; orders = l }) (ap (λ l. c.orders ++ l) (flat_both xs ys) ∙ sym (append_assoc c.orders (flat_map sends_of xs) (flat_map sends_of ys)))

pub front_queued : (c : Script) (xs ys : List Fact) → IsHeard (with_queued c (xs ++ ys)) → IsHeard (with_queued c xs)
front_queued c xs ys h = front_heard (with_queued c xs) (flat_map sends_of ys) (subst IsHeard (queued_both c xs ys) h)

pub queued_none : (c : Script) → c ≡ with_queued c []
queued_none c = ap (λ l. record { config = c.config; orders = l }) (sym (append-nil c.orders))

-- one entry more
module _ (c : Script) (facts : List Fact) (i : ℕ) (f : Fact) (inside : i < length facts) (is : f ≡ get_or facts i f) where
  pub queued_more : with_queued (with_queued c (take i facts)) (f ∷ []) ≡ with_queued c (take (i + 1) facts)
  queued_more =
      let longer : take (i + 1) facts ≡ take i facts ++ f ∷ [] = take_more facts i f inside ∙ ap (λ x. take i facts ++ x ∷ []) (sym is) in
      sym (queued_both c (take i facts) (f ∷ [])) ∙ ap (with_queued c) (sym longer)

  pub queued_not : (IsHeard (with_queued (with_queued c (take i facts)) (f ∷ [])) → ⊥) → IsHeard (with_queued c facts) → ⊥
  queued_not refused h =
      refused (subst IsHeard (sym queued_more) (front_queued c (take (i + 1) facts) (drop (i + 1) facts) (subst (λ l. IsHeard (with_queued c l)) (sym (take-append-drop (i + 1) facts)) h)))

-- one batch more

all_both : (xs ys : List (List Fact)) → entries (xs ++ ys) ≡ entries xs ++ entries ys
all_both [] ys = refl
all_both (x ∷ xs) ys = ap (λ l. x ++ l) (all_both xs ys) ∙ sym (append_assoc x (entries xs) (entries ys))

module _ (config : Config) (batches : List (List Fact)) (k : ℕ) (facts : List Fact) (inside : k < length batches) (is : facts ≡ get_or batches k []) where
  pub script_more : with_queued (script_of config (entries (take k batches))) facts ≡ script_of config (entries (take (k + 1) batches))
  script_more =
      let together : entries (take (k + 1) batches) ≡ entries (take k batches) ++ facts = entries_more batches k inside ∙ ap (λ l. entries (take k batches) ++ l) (sym is) in
      ap (λ l. record { config = config; orders = l }) (sym (flat_both (entries (take k batches)) facts)) ∙ ap (script_of config) (sym together)

  pub script_not : (IsHeard (with_queued (script_of config (entries (take k batches))) facts) → ⊥) → IsHeard (script_of config (entries batches)) → ⊥
  script_not refused h =
      let front : List Fact = entries (take (k + 1) batches) in
      let rest : List Fact = entries (drop (k + 1) batches) in
      let cut : entries batches ≡ front ++ rest = sym (ap entries (take-append-drop (k + 1) batches)) ∙ all_both (take (k + 1) batches) (drop (k + 1) batches) in
      let whole : script_of config (entries batches) ≡ with_queued (script_of config front) rest = ap (script_of config) cut ∙ ap (λ l. record { config = config; orders = l }) (flat_both front rest) in
      refused (subst IsHeard (sym script_more) (front_heard (script_of config front) (flat_map sends_of rest) (subst IsHeard whole h)))
