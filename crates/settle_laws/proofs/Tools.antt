-- Tables, cells, lists of packets; acts one after the other.
use Rattle.std.proofs.Common.{true≢false, ◌≡◌, ◌<◌, ◌≤◌, ◌⊎◌, inl, inr, ℕ, ◌+◌, List, [], ◌∷◌, ◌++◌, length, map, drop, sym, ap, subst, ◌∙◌, refl, true, false, arith}
use Rattle.std.specs.Prelude.{Some, None, not, is_none, Bool, ◌||◌, fold, Option, slice_index_or, slice_set, if◌then◌else◌}
use Rattle.std.specs.List.{list_any}
use Rattle.std.proofs.lemmas.List.{get_or-set_same, get_or-set_other, map-append}
use Rattle.std.proofs.lemmas.List.Sums.{fold-append, passes_at_first}
use Rattle.yard_model.specs.declared.packet.Body.{Body}
use Rattle.yard_model.specs.declared.packet.Body.TheVariants as body
use Rattle.yard_model.specs.declared.packet.Packet.{Packet}
use Rattle.yard_model.specs.Entities.{Cell, Hosted, cell_in, new_cell}
use Rattle.yard_model.specs.Node.{Act, Rule, after}
use Rattle.yard_model.specs.Producer.{Producer}
use Rattle.yard_model.specs.Script.{is_name}
use Rattle.yard_model.specs.Setting.{place}
use Rattle.yard_model.specs.Turns.{in_turn}
use Rattle.plain_laws.proofs.Booleans.{same_name, left_of}
use Rattle.plain_laws.proofs.Lists.{by_place}
use Rattle.actor_laws.proofs.EntitiesMoves.{any_more}
use Rattle.std.specs.List.{list_all}
use Rattle.yard_model.specs.declared.out.Item.TheVariants as item
use Rattle.yard_model.specs.declared.incarnation.Slot.{Slot}
use Rattle.yard_model.specs.declared.incarnation.Slot.TheVariants as slot
use Rattle.yard_model.specs.Trace.{slot_of}
use Rattle.yard_model.specs.Move.{Move, made}
use Rattle.yard_model.specs.Node.{move_of}
use Rattle.yard_model.specs.Words.{at}
use Rattle.plain_laws.proofs.Booleans.{all_map}
use Rattle.plain_laws.proofs.Lists.{all_join}
use Rattle.settle_laws.specs.Alone.{is_of_hosted, is_entered_by, is_entered, Base, Alone, node_with, wire_after, recorded, confirmed_by, sent_by, producer_at, IsThere, is_active, Each, IsPosted, IsOwn, is_requesting, is_acking, IsCalm, IsFast, Stands, load, More, Goes}

-- Lists.

pub each_map : {A : Type 0} (P Q : A → Type 0) (xs : List A) → ((x : A) → P x → Q x) → Each P xs → Each Q xs
each_map P Q [] f h = tt
each_map P Q (x ∷ xs) f h = (f x h.0, each_map P Q xs f h.1)

pub each_last : {A : Type 0} (P : A → Type 0) (xs : List A) (y : A) → Each P xs → P y → Each P (xs ++ y ∷ [])
each_last P [] y h k = (k, tt)
each_last P (x ∷ xs) y h k = (h.0, each_last P xs y h.1 k)

pub each_drop : {A : Type 0} (P : A → Type 0) (xs : List A) → Each P xs → Each P (drop 1 xs)
each_drop P [] h = h
each_drop P (x ∷ xs) h = h.1

pub any_kept : {A : Type 0} (q : A → Bool) (xs : List A) (y : A) → list_any q xs ≡ true → list_any q (xs ++ y ∷ []) ≡ true
any_kept q xs y h = any_more q xs y ∙ left_of (list_any q xs) (q y) h

pub any_last : {A : Type 0} (q : A → Bool) (xs : List A) (y : A) → q y ≡ true → list_any q (xs ++ y ∷ []) ≡ true
any_last q xs y h = any_more q xs y ∙ by (list_any q xs) (q y) h
  where
    by : (a b : Bool) → b ≡ true → (a || b) ≡ true
    by true b h = refl
    by false b h = h

pub none_last : {A : Type 0} (q : A → Bool) (xs : List A) (y : A) → list_any q xs ≡ false → q y ≡ false → list_any q (xs ++ y ∷ []) ≡ false
none_last q xs y h k = any_more q xs y ∙ by (list_any q xs) (q y) h k
  where
    by : (a b : Bool) → a ≡ false → b ≡ false → (a || b) ≡ false
    by true b h k = h
    by false b h k = k

-- Tables.

pub table_all : {A : Type 0} (Q : ℕ → A → Type 0) (xs : List A) (i : ℕ) (v d : A) → i < length xs → Q i v → ((j : ℕ) → Q j (slice_index_or xs j d)) → (j : ℕ) → Q j (slice_index_or (slice_set xs i v) j d)
table_all Q xs i v d less new old j = by_place (Q j (slice_index_or (slice_set xs i v) j d)) j i
    (λ same. subst (λ n. Q n (slice_index_or (slice_set xs i v) n d)) (sym same) (subst (Q i) (sym (get_or-set_same xs i v d less)) new))
    (λ other. subst (Q j) (sym (get_or-set_other xs i j v d other)) (old j))

-- a name of the script is at its own place
pub same_place : (b : Base) (e f : List ℕ) → IsThere b e → place b.set f ≡ place b.set e → f ≡ e
same_place b e f there same =
    let name : List ℕ = slice_index_or b.set.names (place b.set e) [] in
    let of_e : is_name e name ≡ true = passes_at_first (is_name e) b.set.names [] there in
    let of_f : is_name f name ≡ true = ap (λ n. is_name f (slice_index_or b.set.names n [])) (sym same) ∙ passes_at_first (is_name f) b.set.names [] (subst (λ n. n < length b.set.names) (sym same) there) in
    same_name f name of_f ∙ sym (same_name e name of_e)

pub cell_all : (b : Base) (Q : List ℕ → Cell → Type 0) (cells : List Cell) (e : List ℕ) (c : Cell) → length cells ≡ length b.set.names → IsThere b e → Q e c → ((f : List ℕ) → Q f (cell_in b.set cells f))
    → (f : List ℕ) → Q f (cell_in b.set (slice_set cells (place b.set e) c) f)
cell_all b Q cells e c full there new old f = by_place (Q f (cell_in b.set (slice_set cells (place b.set e) c) f)) (place b.set f) (place b.set e)
    (λ same. subst (λ n. Q f (slice_index_or (slice_set cells (place b.set e) c) n (new_cell b.set))) (sym same)
    (subst (Q f) (sym (get_or-set_same cells (place b.set e) c (new_cell b.set) (subst (λ n. place b.set e < n) (sym full) there))) (subst (λ g. Q g c) (sym (same_place b e f there same)) new)))
    (λ other. subst (Q f) (sym (get_or-set_other cells (place b.set e) (place b.set f) c (new_cell b.set) other)) (old f))

pub own_cell : (b : Base) (cells : List Cell) (e : List ℕ) (c : Cell) → length cells ≡ length b.set.names → IsThere b e → cell_in b.set (slice_set cells (place b.set e) c) e ≡ c
own_cell b cells e c full there = get_or-set_same cells (place b.set e) c (new_cell b.set) (subst (λ n. place b.set e < n) (sym full) there)

-- where the cell of e goes on, each cell does
pub cells_more : (b : Base) (q : Cell → Bool) (cells : List Cell) (e : List ℕ) (c : Cell) → length cells ≡ length b.set.names → IsThere b e → (q (cell_in b.set cells e) ≡ true → q c ≡ true)
    → (f : List ℕ) → q (cell_in b.set cells f) ≡ true → q (cell_in b.set (slice_set cells (place b.set e) c) f) ≡ true
cells_more b q cells e c full there new = cell_all b (λ f x. q (cell_in b.set cells f) ≡ true → q x ≡ true) cells e c full there new (λ f h. h)

-- Packets.

pub body_more : (b : Base) (hosted hosted' : List (Option Hosted)) (cells cells' : List Cell) (x : Body) → ((e : List ℕ) → is_active b cells e ≡ true → is_active b cells' e ≡ true) → ((p : ℕ) (e : List ℕ) → recorded b hosted p e ≤ recorded b hosted' p e)
    → IsPosted b hosted cells x → IsPosted b hosted' cells' x
body_more b hosted hosted' cells cells' (body.Ack p e n) f g h = (h.0, h.1, f e h.2, le_trans n (recorded b hosted p e) (recorded b hosted' p e) h.3 (g p e))
  where
    le_trans : (a b c : ℕ) → a ≤ b → b ≤ c → a ≤ c
    le_trans a b c h k = omega (arith, h, k)
body_more b hosted hosted' cells cells' (body.Request p e n u) f g h = (h.0, h.1, f e h.2, le_trans n (recorded b hosted p e) (recorded b hosted' p e) h.3 (g p e))
  where
    le_trans : (a b c : ℕ) → a ≤ b → b ≤ c → a ≤ c
    le_trans a b c h k = omega (arith, h, k)
body_more b hosted hosted' cells cells' x f g h = h

pub posted_more : (b : Base) (hosted hosted' : List (Option Hosted)) (cells cells' : List Cell) (wire : List Packet) → ((e : List ℕ) → is_active b cells e ≡ true → is_active b cells' e ≡ true) → ((p : ℕ) (e : List ℕ) → recorded b hosted p e ≤ recorded b hosted' p e)
    → Each (IsOwn b hosted cells) wire → Each (IsOwn b hosted' cells') wire
posted_more b hosted hosted' cells cells' wire f g = each_map (IsOwn b hosted cells) (IsOwn b hosted' cells') wire (λ (p : Packet) h. (h.0, h.1, body_more b hosted hosted' cells cells' p.body f g h.2))

-- Pairs.

abbrev pub IsPaced : Base → Type 0 → List (Option Hosted) → List Cell → List (Option Producer) → List Packet → ℕ → List ℕ → Type 0
IsPaced b later hosted cells producers wire p e = IsCalm b producers wire p e ⊎ IsFast b later hosted cells producers p e

pub fast_more : (b : Base) (later : Type 0) (hosted hosted' : List (Option Hosted)) (cells cells' : List Cell) (producers : List (Option Producer)) (p : ℕ) (e : List ℕ)
    → (is_active b cells e ≡ true → is_active b cells' e ≡ true) → recorded b hosted p e ≤ recorded b hosted' p e
    → IsFast b later hosted cells producers p e → IsFast b later hosted' cells' producers p e
fast_more b later hosted hosted' cells cells' producers p e f g h = (f h.0, by h.1)
  where
    le_trans : (x y z : ℕ) → x ≤ y → y ≤ z → x ≤ z
    le_trans x y z h k = omega (arith, h, k)

    by : (sent_by e (producer_at producers p) ≤ recorded b hosted p e) ⊎ later → (sent_by e (producer_at producers p) ≤ recorded b hosted' p e) ⊎ later
    by (inl k) = inl (le_trans (sent_by e (producer_at producers p)) (recorded b hosted p e) (recorded b hosted' p e) k g)
    by (inr k) = inr k

pub paced_more : (b : Base) (later : Type 0) (hosted hosted' : List (Option Hosted)) (cells cells' : List Cell) (producers : List (Option Producer)) (wire wire' : List Packet) (p : ℕ) (e : List ℕ)
    → (is_active b cells e ≡ true → is_active b cells' e ≡ true) → recorded b hosted p e ≤ recorded b hosted' p e
    → (list_any (is_requesting p e) wire ≡ false → list_any (is_requesting p e) wire' ≡ false)
    → IsPaced b later hosted cells producers wire p e → IsPaced b later hosted' cells' producers wire' p e
paced_more b later hosted hosted' cells cells' producers wire wire' p e f g w (inl h) = inl (h.0, h.1, w h.2)
paced_more b later hosted hosted' cells cells' producers wire wire' p e f g w (inr h) = inr (fast_more b later hosted hosted' cells cells' producers p e f g h)

-- Acts one after the other.

pub more_none : (b : Base) (z : Alone) → More b z z
more_none b z = record { homes_on = λ s h. h; live_on = λ e h. h; active_on = λ e h. h; recorded_on = λ p e. le_itself (recorded b z.hosted p e); confirmed_on = λ p e. le_itself (confirmed_by e (producer_at z.producers p)); queued_on = λ p e. refl; holds_on = λ p h. h; posted_on = λ q h. h; hosts_on = λ t h. h; answered = λ p e. inl refl }
  where
    le_itself : (n : ℕ) → n ≤ n
    le_itself n = omega arith

pub more_both : (b : Base) (x y z : Alone) → More b x y → More b y z → More b x z
more_both b x y z f g = record {
  homes_on = λ s h. g.homes_on s (f.homes_on s h);
  live_on = λ e h. g.live_on e (f.live_on e h);
  active_on = λ e h. g.active_on e (f.active_on e h);
  recorded_on = λ p e. le_trans (recorded b x.hosted p e) (recorded b y.hosted p e) (recorded b z.hosted p e) (f.recorded_on p e) (g.recorded_on p e);
  confirmed_on = λ p e. le_trans (confirmed_by e (producer_at x.producers p)) (confirmed_by e (producer_at y.producers p)) (confirmed_by e (producer_at z.producers p)) (f.confirmed_on p e) (g.confirmed_on p e);
  queued_on = λ p e. g.queued_on p e ∙ f.queued_on p e;
  holds_on = λ p h. g.holds_on p (f.holds_on p h);
  posted_on = λ q h. g.posted_on q (f.posted_on q h);
  hosts_on = λ t h. g.hosts_on t (f.hosts_on t h);
  answered = λ p e. by p e (g.answered p e) (f.answered p e);
}
  where
    by : (p : ℕ) (e : List ℕ) → (recorded b z.hosted p e ≡ recorded b y.hosted p e) ⊎ (list_any (is_acking p e (recorded b z.hosted p e)) z.wire ≡ true)
        → (recorded b y.hosted p e ≡ recorded b x.hosted p e) ⊎ (list_any (is_acking p e (recorded b y.hosted p e)) y.wire ≡ true)
        → (recorded b z.hosted p e ≡ recorded b x.hosted p e) ⊎ (list_any (is_acking p e (recorded b z.hosted p e)) z.wire ≡ true)
    by p e (inr h) k = inr h
    by p e (inl h) (inl k) = inl (h ∙ k)
    by p e (inl h) (inr k) = inr (ap (λ n. list_any (is_acking p e n) z.wire) h ∙ g.posted_on (is_acking p e (recorded b y.hosted p e)) k)

    le_trans : (x y z : ℕ) → x ≤ y → y ≤ z → x ≤ z
    le_trans x y z h k = omega (arith, h, k)

-- what is entered stays so, as more is hosted
pub entered_more : (b : Base) (hosted hosted' : List (Option Hosted)) (a : Act) → ((s : ℕ) → is_none (at hosted s) ≡ false → is_none (at hosted' s) ≡ false) → is_entered b hosted a ≡ true → is_entered b hosted' a ≡ true
entered_more b hosted hosted' a on = by_move (move_of a)
  where
    of_none : (t : Bool) → not t ≡ true → t ≡ false
    of_none true h = absurd (true≢false (sym h))
    of_none false h = refl

    by_slot : (o : Option Slot) → is_of_hosted hosted o ≡ true → is_of_hosted hosted' o ≡ true
    by_slot None h = h
    by_slot (Some (slot.Shard s)) h = ap not (on s (of_none (is_none (at hosted s)) h))
    by_slot (Some slot.Coordinator) h = h
    by_slot (Some (slot.Queue p)) h = h

    by_move : (m : Move) → is_entered_by b hosted m ≡ true → is_entered_by b hosted' m ≡ true
    by_move (made (item.Fact f)) h = by_slot (slot_of b.set f) h
    by_move m h = h

pub entered_both : (b : Base) (hosted hosted' : List (Option Hosted)) (xs ys : List Act) → ((s : ℕ) → is_none (at hosted s) ≡ false → is_none (at hosted' s) ≡ false) → list_all (is_entered b hosted) xs ≡ true → list_all (is_entered b hosted') ys ≡ true → list_all (is_entered b hosted') (xs ++ ys) ≡ true
entered_both b hosted hosted' xs ys on f g = all_join (is_entered b hosted') xs ys (all_map (is_entered b hosted) (is_entered b hosted') (λ a h. entered_more b hosted hosted' a on h) xs f) g

pub goes_none : (b : Base) (later : ℕ → List ℕ → Type 0) (also : Alone → Type 0) (z : Alone) → Stands b later z → also z → Goes b later 0 also z []
goes_none b later also z s a = record { to = z; node_is = refl; wire_is = refl; stands = s; costs = none (load b z); entered = refl; more = more_none b z; also_is = a }
  where
    none : (n : ℕ) → n ≤ n + 0
    none n = omega arith

pub goes_both : (b : Base) (later1 later2 : ℕ → List ℕ → Type 0) (m n : ℕ) (also1 also2 : Alone → Type 0) (z : Alone) (xs ys : List Act) (g : Goes b later1 m also1 z xs) → Goes b later2 n also2 g.to ys → Goes b later2 (m + n) also2 z (xs ++ ys)
goes_both b later1 later2 m n also1 also2 z xs ys g h = record {
  to = h.to;
  node_is = fold-append after (node_with b z) xs ys ∙ (ap (λ st. fold after st ys) g.node_is ∙ h.node_is);
  wire_is = fold-append wire_after z.wire xs ys ∙ (ap (λ w. fold wire_after w ys) g.wire_is ∙ h.wire_is);
  stands = h.stands;
  costs = sums (load b z) (load b g.to) (load b h.to) m n g.costs h.costs;
  entered = entered_both b g.to.hosted h.to.hosted xs ys h.more.hosts_on g.entered h.entered;
  more = more_both b z g.to h.to g.more h.more;
  also_is = h.also_is;
}
  where
    sums : (x y w m n : ℕ) → y ≤ x + m → w ≤ y + n → w ≤ x + (m + n)
    sums x y w m n h k = omega (arith, h, k)

pub goes_also : (b : Base) (later : ℕ → List ℕ → Type 0) (m n : ℕ) (also1 also2 : Alone → Type 0) (z : Alone) (xs : List Act) → m ≤ n → ((to : Alone) → Stands b later to → More b z to → also1 to → also2 to) → Goes b later m also1 z xs → Goes b later n also2 z xs
goes_also b later m n also1 also2 z xs less f g = record { to = g.to; node_is = g.node_is; wire_is = g.wire_is; stands = g.stands; costs = sums (load b z) (load b g.to) m n g.costs less; entered = g.entered; more = g.more; also_is = f g.to g.stands g.more g.also_is }
  where
    sums : (x y m n : ℕ) → y ≤ x + m → m ≤ n → y ≤ x + n
    sums x y m n h k = omega (arith, h, k)

-- a rule, and then another
pub goes_turn : (b : Base) (later1 later2 : ℕ → List ℕ → Type 0) (m n : ℕ) (also1 also2 : Alone → Type 0) (z : Alone) (p q : Rule) → Goes b later1 m also1 z (p (node_with b z))
    → ((to : Alone) → Stands b later1 to → More b z to → also1 to → Goes b later2 n also2 to (q (node_with b to))) → Goes b later2 (m + n) also2 z (in_turn after p q (node_with b z))
goes_turn b later1 later2 m n also1 also2 z p q g h =
    subst (λ st. Goes b later2 (m + n) also2 z (p (node_with b z) ++ q st)) (sym g.node_is)
    (goes_both b later1 later2 m n also1 also2 z (p (node_with b z)) (q (node_with b g.to)) g (h g.to g.stands g.more g.also_is))

pub goes_if : (b : Base) (later : ℕ → List ℕ → Type 0) (n : ℕ) (also : Alone → Type 0) (z : Alone) (test : Bool) (xs ys : List Act) → (test ≡ true → Goes b later n also z xs) → (test ≡ false → Goes b later n also z ys) → Goes b later n also z (if test then xs else ys)
goes_if b later n also z true xs ys f g = f refl
goes_if b later n also z false xs ys f g = g refl

pub goes_if_map : {M : Type 0} (b : Base) (later : ℕ → List ℕ → Type 0) (n : ℕ) (also : Alone → Type 0) (z : Alone) (a : M → Act) (test : Bool) (xs ys : List M) → (test ≡ true → Goes b later n also z (map a xs)) → (test ≡ false → Goes b later n also z (map a ys)) → Goes b later n also z (map a (if test then xs else ys))
goes_if_map b later n also z a true xs ys f g = f refl
goes_if_map b later n also z a false xs ys f g = g refl

pub goes_map_both : {M : Type 0} (b : Base) (later1 later2 : ℕ → List ℕ → Type 0) (m n : ℕ) (also1 also2 : Alone → Type 0) (z : Alone) (a : M → Act) (xs ys : List M) (g : Goes b later1 m also1 z (map a xs)) → Goes b later2 n also2 g.to (map a ys) → Goes b later2 (m + n) also2 z (map a (xs ++ ys))
goes_map_both b later1 later2 m n also1 also2 z a xs ys g h = subst (Goes b later2 (m + n) also2 z) (sym (map-append a xs ys)) (goes_both b later1 later2 m n also1 also2 z (map a xs) (map a ys) g h)
