-- What was begun, and what is logged.
use Rattle.std.proofs.Common.{◌≡◌, ℕ, zero, suc, ◌+◌, ◌-◌, ◌<◌, ◌≤◌, List, [], ◌∷◌, ◌++◌, length, take, drop, get_or, Bool, refl, sym, ◌∙◌, ap, subst, arith, length-append, append_assoc, take-append-drop}
use Rattle.std.specs.Prelude.{map, Option, Some, None, IsTrue}
use Rattle.std.specs.List.{flat_map}
use Rattle.std.proofs.lemmas.List.{append-nil, take-append-le, take_at, take_more}
use Rattle.std.proofs.Math.Seq.{take-append-add}
use Rattle.yard_io.specs.Told.{followed_by}
use Rattle.yard_model.specs.declared.fact.Fact.{Fact}
use Rattle.disk_log.specs.Images.{Images, IsTimed, LeavesOnly}
use Rattle.disk_log.specs.Rest.{Rests}
use Rattle.disk_log.specs.Spelled.{AreBatches, Spells, SpellsPrefix, lines}
use Rattle.disk_log.proofs.Moments.{leaves_then, leaves_weaker}
use Rattle.log_orders.specs.Orders.{Ends, batch_of, batches, begun, text_of}
use Rattle.log_orders.specs.Gathered.{RestsOn}
use Rattle.log_orders.proofs.GatherLaws.{rest_prefix}

flat_map_both : {X A : Type 0} (f : X → List A) (xs ys : List X) → flat_map f (xs ++ ys) ≡ flat_map f xs ++ flat_map f ys
flat_map_both f [] ys = refl
flat_map_both f (x ∷ xs) ys = ap (λ l. f x ++ l) (flat_map_both f xs ys) ∙ sym (append_assoc (f x) (flat_map f xs) (flat_map f ys))

-- what is begun within the text of the first orders is among their batches
pub begun_le : (k n : ℕ) (orders : List (List Fact)) → k ≤ length (text_of (take n orders)) → begun k orders ≤ length (batches (take n orders))
begun_le zero n orders le = omega arith
begun_le (suc k) zero orders le = absurd (omega (arith, le))
begun_le (suc k) (suc n) [] le = omega arith
begun_le (suc k) (suc n) (facts ∷ orders) le =
    let long = length-append (lines facts) (text_of (take n orders)) in
    let rest = begun_le (suc k - length (lines facts)) n orders (omega (arith, le, long)) in
    omega (arith, rest, length-append (batch_of facts) (batches (take n orders)))

module _ (orders : List (List Fact)) (i : ℕ) (facts : List Fact) (inside : i < length orders) (is : facts ≡ get_or orders i facts) where
  front_more : take (i + 1) orders ≡ take i orders ++ facts ∷ []
  front_more = take_more orders i facts inside ∙ ap (λ x. take i orders ++ x ∷ []) (sym is)

  pub batches_more : batches (take (i + 1) orders) ≡ batches (take i orders) ++ batch_of facts
  batches_more = ap batches front_more ∙ (flat_map_both batch_of (take i orders) (facts ∷ []) ∙ ap (λ l. batches (take i orders) ++ l) (append-nil (batch_of facts)))

  pub text_more : text_of (take (i + 1) orders) ≡ text_of (take i orders) ++ lines facts
  text_more = ap text_of front_more ∙ (flat_map_both lines (take i orders) (facts ∷ []) ∙ ap (λ l. text_of (take i orders) ++ l) (append-nil (lines facts)))

batches_front : (n : ℕ) (orders : List (List Fact)) → batches orders ≡ batches (take n orders) ++ batches (drop n orders)
batches_front n orders = ap batches (sym (take-append-drop n orders)) ∙ flat_map_both batch_of (take n orders) (drop n orders)

text_front : (n : ℕ) (orders : List (List Fact)) → text_of orders ≡ text_of (take n orders) ++ text_of (drop n orders)
text_front n orders = ap text_of (sym (take-append-drop n orders)) ∙ flat_map_both lines (take n orders) (drop n orders)

-- first batches of a front are first batches, and so are at least fewer
pub prefix_longer : (some more all : List (List Fact)) (n least : ℕ) (c : List ℕ) → all ≡ some ++ more → least ≤ n → SpellsPrefix some n c → SpellsPrefix all least c
prefix_longer some more all n least c is le p = record {
  count = p.count;
  at_least = omega (arith, p.at_least, le);
  at_most = omega (arith, p.at_most, ap length is, length-append some more);
  spells = subst (λ l. Spells c l) (sym (ap (take p.count) is ∙ take-append-le p.count some more p.at_most)) p.spells;
}

-- now is one of the moments since
pub now_of : {P : List ℕ → Type 0} (old new : Images) → IsTimed new → LeavesOnly old new P → (c : List ℕ) → new.now c → P c
now_of old new timed leaves c now = leaves.each c (timed.counts_now old.moment c leaves.later now)

-- the text of the first orders, and a part of the next one's
text_take : (i : ℕ) (orders : List (List Fact)) → take (length (text_of (take i orders))) (text_of orders) ≡ text_of (take i orders)
text_take i orders = ap (take (length (text_of (take i orders)))) (text_front i orders) ∙ take_at (text_of (take i orders)) (text_of (drop i orders)) (length (text_of (take i orders))) refl

followed_both : (told : Option (List ℕ)) (xs ys : List ℕ) → followed_by (followed_by told xs) ys ≡ followed_by told (xs ++ ys)
followed_both None xs ys = refl
followed_both (Some zs) xs ys = ap Some (append_assoc zs xs ys)

-- the end of a run within an order
ends_at : (orders : List (List Fact)) (i n : ℕ) (tells : Bool) (before behind : Option (List ℕ)) (images : Images) (some : List (List Fact)) (least : ℕ)
    → n ≤ length (text_of (take i orders)) → some ≡ batches (take i orders) → behind ≡ followed_by before (take n (text_of orders))
    → begun n orders ≤ least → (IsTrue tells → (c : List ℕ) → images.now c → SpellsPrefix some least c) → Ends orders tells before behind images
ends_at orders i n tells before behind images some least within is taken le crash = record {
  count = n;
  within = omega (arith, within, ap length (text_front i orders), length-append (text_of (take i orders)) (text_of (drop i orders)));
  taken = taken;
  crash = λ told c now. prefix_longer some (batches (drop i orders)) (batches orders) least (begun n orders) c (batches_front i orders ∙ ap (λ l. l ++ batches (drop i orders)) (sym is)) le (crash told c now);
}

module _ (orders : List (List Fact)) (i : ℕ) (facts : List Fact) (inside : i < length orders) (is : facts ≡ get_or orders i facts) where
  batches_split : batches orders ≡ (batches (take i orders) ++ batch_of facts) ++ batches (drop (i + 1) orders)
  batches_split = batches_front (i + 1) orders ∙ ap (λ l. l ++ batches (drop (i + 1) orders)) (batches_more orders i facts inside is)

  text_part : (n : ℕ) → n ≤ length (lines facts) → take (length (text_of (take i orders)) + n) (text_of orders) ≡ text_of (take i orders) ++ take n (lines facts)
  text_part n le =
      let a = text_of (take i orders) in
      let rest = text_of (drop (i + 1) orders) in
      let whole : text_of orders ≡ a ++ (lines facts ++ rest) = text_front (i + 1) orders ∙ (ap (λ l. l ++ rest) (text_more orders i facts inside is) ∙ append_assoc a (lines facts) rest) in
      ap (take (length a + n)) whole ∙ (take-append-add a (lines facts ++ rest) n ∙ ap (λ l. a ++ l) (take-append-le n (lines facts) rest le))

  -- one order's step, seen from the whole run
  pub step_leaves : (old mid new : Images) → LeavesOnly old mid (SpellsPrefix (batches orders) 0)
      → LeavesOnly mid new (SpellsPrefix (batches (take i orders) ++ batch_of facts) (length (batches (take i orders)))) → LeavesOnly old new (SpellsPrefix (batches orders) 0)
  step_leaves old mid new so_far step =
      leaves_then old mid new so_far (leaves_weaker mid new (λ c p. prefix_longer (batches (take i orders) ++ batch_of facts) (batches (drop (i + 1) orders)) (batches orders)
      (length (batches (take i orders))) 0 c batches_split (omega arith) p) step)

  -- a commit failed
  pub ends_unlogged : (tells : Bool) (before behind : Option (List ℕ)) (images : Images) → behind ≡ followed_by before (text_of (take i orders))
      → (IsTrue tells → (c : List ℕ) → images.now c → SpellsPrefix (batches (take i orders) ++ batch_of facts) (length (batches (take i orders))) c) → Ends orders tells before behind images
  ends_unlogged tells before behind images taken crash =
      let n = length (text_of (take i orders)) in
      ends_at orders (i + 1) n tells before behind images (batches (take i orders) ++ batch_of facts) (length (batches (take i orders)))
      (omega (arith, ap length (text_more orders i facts inside is), length-append (text_of (take i orders)) (lines facts)))
      (sym (batches_more orders i facts inside is)) (taken ∙ ap (followed_by before) (sym (text_take i orders))) (begun_le n i orders (omega arith)) crash

  -- a write failed, or none did
  pub ends_logged : (n : ℕ) (tells : Bool) (before mid behind : Option (List ℕ)) (images : Images) → mid ≡ followed_by before (text_of (take i orders)) → n ≤ length (lines facts)
      → behind ≡ followed_by mid (take n (lines facts))
      → (IsTrue tells → (c : List ℕ) → images.now c → SpellsPrefix (batches (take i orders) ++ batch_of facts) (length (batches (take i orders) ++ batch_of facts)) c) → Ends orders tells before behind images
  ends_logged n tells before mid behind images taken within more crash =
      let a = text_of (take i orders) in
      let long : length (text_of (take (i + 1) orders)) ≡ length a + length (lines facts) = ap length (text_more orders i facts inside is) ∙ length-append a (lines facts) in
      ends_at orders (i + 1) (length a + n) tells before behind images (batches (take i orders) ++ batch_of facts) (length (batches (take i orders) ++ batch_of facts))
      (omega (arith, long, within)) (sym (batches_more orders i facts inside is))
      (more ∙ (ap (λ t. followed_by t (take n (lines facts))) taken ∙ (followed_both before a (take n (lines facts)) ∙ ap (followed_by before) (sym (text_part n within)))))
      (omega (arith, begun_le (length a + n) (i + 1) orders (omega (arith, long, within)), ap length (batches_more orders i facts inside is))) crash

-- all is told
pub ends_all : (orders : List (List Fact)) (i : ℕ) (tells : Bool) (before behind : Option (List ℕ)) (images : Images) (end : ℕ) (content : List ℕ)
    → behind ≡ followed_by before (text_of (take i orders)) → RestsOn tells end content images (batches (take i orders)) → Ends orders tells before behind images
ends_all orders i tells before behind images end content taken rests =
    let n = length (text_of (take i orders)) in
    ends_at orders i n tells before behind images (batches (take i orders)) (length (batches (take i orders))) (omega arith) refl
    (taken ∙ ap (followed_by before) (sym (text_take i orders))) (begun_le n i orders (omega arith))
    (λ told c now. subst (λ l. SpellsPrefix l (length (batches (take i orders))) c) (append-nil (batches (take i orders))) (rest_prefix tells end content images (batches (take i orders)) [] rests.are rests.rests told c now))
