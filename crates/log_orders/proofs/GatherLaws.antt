-- The batch of an order, fact by fact.
use Rattle.std.proofs.Common.{◌≡◌, ◌<◌, ◌≤◌, inl, inr, ℕ, ◌+◌, ◌^◌, sym, ap, ◌∙◌, refl, subst, arith, length-append}
use Rattle.std.specs.Prelude.{Bool, true, false, ◌&&◌, cond, List, [], ◌∷◌, ◌++◌, length, map, take, filter, IsTrue}
use Rattle.std.specs.List.{flat_map, list_all}
use Rattle.std.proofs.lemmas.List.{append-nil, append_assoc, map_push, take_at, take_all}
use Rattle.std.proofs.lemmas.List.Folds.{list_all-append}
use Rattle.plain_laws.proofs.Booleans.{both}
use Rattle.yard_model.specs.declared.fact.Fact.{Fact}
use Rattle.yard_model.specs.Text.{fact_line, fact_words, words}
use Rattle.fact_lines.specs.Entry.{is_entry}
use Rattle.disk_log.specs.Frames.{Holds}
use Rattle.disk_log.specs.Images.{Images, IsTimed, LeavesOnly}
use Rattle.disk_log.specs.Rest.{IsBeforeOrAfter, Rests}
use Rattle.disk_log.specs.Spelled.{AreBatches, IsBatch, SpellsPrefix, lines}
use Rattle.disk_log.proofs.CommitLaws.{rests_hold}
use Rattle.disk_log.proofs.SpellLaws.{are_more}
use Rattle.log_orders.specs.Orders.{batch_of, belongs, if_any, listed}
use Rattle.log_orders.specs.Gathered.{Gathers, GathersOne, RestsOn}

pub listed_both : (xs ys : List Fact) → listed (xs ++ ys) ≡ listed xs ++ listed ys
listed_both [] ys = refl
listed_both (x ∷ xs) ys = by (belongs x) (listed_both xs ys)
  where
    by : (b : Bool) → listed (xs ++ ys) ≡ listed xs ++ listed ys → cond b (x ∷ listed (xs ++ ys)) (listed (xs ++ ys)) ≡ cond b (x ∷ listed xs) (listed xs) ++ listed ys
    by true e = ap (λ l. x ∷ l) e
    by false e = e

pub lines_both : (xs ys : List Fact) → lines (xs ++ ys) ≡ lines xs ++ lines ys
lines_both [] ys = refl
lines_both (x ∷ xs) ys = ap (λ l. fact_line x ++ l) (lines_both xs ys) ∙ sym (append_assoc (fact_line x) (lines xs) (lines ys))

-- a fact that belongs to no list, and one that is an entry
pub one_other : (text : List ℕ) (f : Fact) → belongs f ≡ false → GathersOne text f text
one_other text f other = record {
  text_is = sym (append-nil text) ∙ ap (λ l. text ++ lines l) (sym none);
  entry = ap (list_all is_entry) none;
}
  where
    none : listed (f ∷ []) ≡ []
    none = ap (λ b. cond b (f ∷ []) []) other

pub one_entry : (text new : List ℕ) (f : Fact) → belongs f ≡ true → is_entry f ≡ true → new ≡ text ++ fact_line f → GathersOne text f new
one_entry text new f listed_is entry is = record {
  text_is = is ∙ (ap (λ l. text ++ l) (sym (append-nil (fact_line f))) ∙ ap (λ l. text ++ lines l) (sym one));
  entry = ap (list_all is_entry) one ∙ both (is_entry f) true entry refl;
}
  where
    one : listed (f ∷ []) ≡ f ∷ []
    one = ap (λ b. cond b (f ∷ []) []) listed_is

pub gathers_none : (text : List ℕ) → text ≡ [] → Gathers [] text
gathers_none text is = record { text_is = is; entries = refl }

pub gathers_more : (facts : List Fact) (f : Fact) (text new : List ℕ) → Gathers facts text → GathersOne text f new → Gathers (facts ++ f ∷ []) new
gathers_more facts f text new g one = record {
  text_is = one.text_is ∙ (ap (λ l. l ++ lines (listed (f ∷ []))) g.text_is ∙ (sym (lines_both (listed facts) (listed (f ∷ []))) ∙ ap lines (sym (listed_both facts (f ∷ [])))));
  entries = ap (list_all is_entry) (listed_both facts (f ∷ [])) ∙ (list_all-append is_entry (listed facts) (listed (f ∷ []))
      ∙ both (list_all is_entry (listed facts)) (list_all is_entry (listed (f ∷ []))) g.entries one.entry);
}

some_line : (f : Fact) → 0 < length (fact_line f)
some_line f = omega (arith, length-append (words (fact_words f)) (10 ∷ []))

-- no text, no batch
pub none_listed : (facts : List Fact) → lines (listed facts) ≡ [] → batch_of facts ≡ []
none_listed facts is = by (listed facts) is
  where
    by : (l : List Fact) → lines l ≡ [] → if_any l ≡ []
    by [] e = refl
    by (f ∷ l) e = absurd (omega (arith, ap length e, length-append (fact_line f) (lines l), some_line f))

pub some_listed : (facts : List Fact) → (lines (listed facts) ≡ [] → ⊥) → batch_of facts ≡ listed facts ∷ []
some_listed facts some = by (listed facts) some
  where
    by : (l : List Fact) → (lines l ≡ [] → ⊥) → if_any l ≡ l ∷ []
    by [] n = absurd (n refl)
    by (f ∷ l) n = refl

pub batch_is : (facts : List Fact) (text : List ℕ) → Gathers facts text → 0 < length text → length text ≤ 2 ^ 31 → IsBatch (listed facts)
batch_is facts text g some fits = record {
  entries = g.entries;
  some = omega (arith, ap length g.text_is, some);
  fits = omega (arith, ap length g.text_is, fits);
}

-- the batches before, or those and one more, are first batches
pub before_prefix : (done more : List (List Fact)) (c : List ℕ) → AreBatches done → Holds (map lines done) c → SpellsPrefix (done ++ more) (length done) c
before_prefix done more c are holds = record {
  count = length done;
  at_least = omega arith;
  at_most = omega (arith, length-append done more);
  spells = record {
    batches_are = subst AreBatches (sym (take_at done more (length done) refl)) are;
    texts = subst (λ l. Holds (map lines l) c) (sym (take_at done more (length done) refl)) holds;
  };
}

either_prefix : (done : List (List Fact)) (facts : List Fact) (c : List ℕ) → AreBatches done → IsBatch facts → IsBeforeOrAfter (map lines done) (lines facts) c → SpellsPrefix (done ++ facts ∷ []) (length done) c
either_prefix done facts c are batch (inl before) = before_prefix done (facts ∷ []) c are before
either_prefix done facts c are batch (inr behind) =
    let whole : take (length (done ++ facts ∷ [])) (done ++ facts ∷ []) ≡ done ++ facts ∷ [] = take_all (length (done ++ facts ∷ [])) (done ++ facts ∷ []) (omega arith) in
    record {
      count = length (done ++ facts ∷ []);
      at_least = omega (arith, length-append done (facts ∷ []));
      at_most = omega arith;
      spells = record {
        batches_are = subst AreBatches (sym whole) (are_more done facts are batch);
        texts = subst (λ l. Holds (map lines l) c) (sym whole) (subst (λ l. Holds l c) (sym (map_push lines done facts)) behind);
      };
    }

-- nothing was done
pub leaves_none : {P : List ℕ → Type 0} (images : Images) → IsTimed images → ((c : List ℕ) → images.now c → P c) → LeavesOnly images images P
leaves_none images timed here = record { later = omega arith; each = λ c left. here c (timed.only_now c left); before = λ t c le left. inl left }

-- what a log at rest leaves
pub rest_prefix : (tells : Bool) (end : ℕ) (content : List ℕ) (images : Images) (done more : List (List Fact)) → AreBatches done → Rests tells end content images (map lines done) → IsTrue tells
    → (c : List ℕ) → images.now c → SpellsPrefix (done ++ more) (length done) c
rest_prefix tells end content images done more are rests told c now = before_prefix done more c are (rests_hold tells end content images (map lines done) rests told c now)

pub long_of : (text : List ℕ) → (text ≡ [] → ⊥) → 0 < length text
long_of [] some = absurd (some refl)
long_of (b ∷ text) some = omega arith

-- the log with the order's batch
module _ (facts : List Fact) (text : List ℕ) (g : Gathers facts text) (done : List (List Fact)) (are : AreBatches done) where
  pub rests_none : (tells : Bool) (end : ℕ) (content : List ℕ) (images : Images) → text ≡ [] → Rests tells end content images (map lines done) → RestsOn tells end content images (done ++ batch_of facts)
  rests_none tells end content images none rests =
      subst (λ b. RestsOn tells end content images (done ++ b)) (sym (none_listed facts (sym g.text_is ∙ none)))
      (subst (RestsOn tells end content images) (sym (append-nil done)) (record { are = are; rests = rests }))

  pub rests_more : (tells : Bool) (end : ℕ) (content : List ℕ) (images : Images) → (text ≡ [] → ⊥) → 0 < length text → length text ≤ 2 ^ 31
      → Rests tells end content images (map lines done ++ text ∷ []) → RestsOn tells end content images (done ++ batch_of facts)
  rests_more tells end content images some long fits rests =
      subst (λ b. RestsOn tells end content images (done ++ b)) (sym (some_listed facts (λ e. some (g.text_is ∙ e)))) (record {
        are = are_more done (listed facts) are (batch_is facts text g long fits);
        rests = subst (Rests tells end content images) (sym (map_push lines done (listed facts) ∙ ap (λ t. map lines done ++ t ∷ []) (sym g.text_is))) rests;
      })

  pub leaves_both : (text ≡ [] → ⊥) → 0 < length text → length text ≤ 2 ^ 31 → (c : List ℕ) → IsBeforeOrAfter (map lines done) text c → SpellsPrefix (done ++ batch_of facts) (length done) c
  leaves_both some long fits c p =
      subst (λ b. SpellsPrefix (done ++ b) (length done) c) (sym (some_listed facts (λ e. some (g.text_is ∙ e)))) (either_prefix done (listed facts) c are (batch_is facts text g long fits)
      (subst (λ t. IsBeforeOrAfter (map lines done) t c) g.text_is p))
