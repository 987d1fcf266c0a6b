-- Tables, and the cells of entities after moves of one entity.
use Rattle.std.proofs.Common.{◌≡◌, ℕ, zero, suc, ◌<◌, List, [], ◌∷◌, ◌++◌, length, sym, ap, subst, ◌∙◌, refl, true, false, true≢false}
use Rattle.std.specs.Prelude.{Bool, ◌||◌, not, drop, fold, Option, Some, None, is_none, slice_index_or, slice_set, if◌then◌else◌}
use Rattle.std.specs.List.{list_all}
use Rattle.std.proofs.lemmas.List.{get_or-set_same}
use Rattle.std.specs.Option.{option_map}
use Rattle.yard_model.specs.declared.fact.Fact.{Fact}
use Rattle.yard_model.specs.declared.fact.Fact.TheVariants as fact
use Rattle.yard_model.specs.declared.out.Item.TheVariants as item
use Rattle.yard_model.specs.declared.input.Phase.{Phase}
use Rattle.yard_model.specs.declared.input.Phase.TheVariants as phase
use Rattle.yard_model.specs.declared.incarnation.Slot.TheVariants as slot
use Rattle.yard_model.specs.declared.packet.Body.{Body}
use Rattle.yard_model.specs.declared.packet.Body.TheVariants as body
use Rattle.yard_model.specs.declared.incarnation.Incarnation.{Incarnation}
use Rattle.yard_model.specs.declared.packet.Message.{Message}
use Rattle.yard_model.specs.Entities.{Cell, Entities, Hosted, new_cell, cell_after, cell_in, cell, cells_by, entity_of, entities_after, stash_step, phase_by_post, hosted_step, hosted_by_fact, is_running, is_running_in}
use Rattle.yard_model.specs.Move.{Move, made, took, handed_off}
use Rattle.yard_model.specs.Script.{Setting}
use Rattle.yard_model.specs.Setting.{place, shard_of}
use Rattle.yard_model.specs.Words.{at}
use Rattle.yard_model.specs.Region.{Region, home, is_home}
use Rattle.plain_laws.proofs.Booleans.{and_both}
use Rattle.plain_laws.proofs.Lists.{of_write}
use Rattle.query_laws.specs.Shown.{IsCalm, AreCalm, IsRouted, is_calm}
use Rattle.actor_laws.proofs.EntitiesMoves.{set_stays}

-- Tables.

-- what stands at a place, put there again
pub set_itself : {A : Type 0} (xs : List A) (i : ℕ) (d : A) → slice_set xs i (slice_index_or xs i d) ≡ xs
set_itself [] i d = refl
set_itself (x ∷ xs) zero d = refl
set_itself (x ∷ xs) (suc i) d = ap (λ ys. x ∷ ys) (set_itself xs i d)

-- the second of two at one place stays
pub set_again : {A : Type 0} (xs : List A) (i : ℕ) (v w : A) → slice_set (slice_set xs i v) i w ≡ slice_set xs i w
set_again [] i v w = refl
set_again (x ∷ xs) zero v w = refl
set_again (x ∷ xs) (suc i) v w = ap (λ ys. x ∷ ys) (set_again xs i v w)

-- also where the second is made of the first
pub set_made : {A : Type 0} (f : A → A) (xs : List A) (i : ℕ) (v d : A) → slice_set (slice_set xs i v) i (f (slice_index_or (slice_set xs i v) i d)) ≡ slice_set xs i (f v)
set_made f [] i v d = refl
set_made f (x ∷ xs) zero v d = refl
set_made f (x ∷ xs) (suc i) v d = ap (λ ys. x ∷ ys) (set_made f xs i v d)

-- what is made of what stood there
pub set_reads : {A : Type 0} (f : A → A) (xs : List A) (i : ℕ) (d : A) → f d ≡ d → slice_index_or (slice_set xs i (f (slice_index_or xs i d))) i d ≡ f (slice_index_or xs i d)
set_reads f [] i d e = sym e
set_reads f (x ∷ xs) zero d e = refl
set_reads f (x ∷ xs) (suc i) d e = set_reads f xs i d e

-- Cells.

-- of this entity, or of none
abbrev pub IsBy : List ℕ → Option (List ℕ) → Type 0
IsBy e None = Unit {0}
IsBy e (Some x) = x ≡ e

abbrev pub AreOf : List ℕ → List Move → Type 0
AreOf e [] = Unit {0}
AreOf e (m ∷ ms) = IsBy e (entity_of m) × AreOf e ms

pub of_both : (e : List ℕ) (xs ys : List Move) → AreOf e xs → AreOf e ys → AreOf e (xs ++ ys)
of_both e [] ys f g = g
of_both e (x ∷ xs) ys f g = (f.0, of_both e xs ys f.1 g)

pub of_if : (e : List ℕ) (b : Bool) (xs ys : List Move) → AreOf e xs → AreOf e ys → AreOf e (if b then xs else ys)
of_if e true xs ys f g = f
of_if e false xs ys f g = g

-- a cell after a move of its entity, or of none
abbrev pub cell_by : Option (List ℕ) → Cell → Move → Cell
cell_by None x m = x
cell_by (Some e) x m = cell_after x m

abbrev pub cell_on : Cell → Move → Cell
cell_on x m = cell_by (entity_of m) x m

one_cell : (set : Setting) (cells : List Cell) (m : Move) (e : List ℕ) (o : Option (List ℕ)) (f : Cell → Cell) → IsBy e o
    → slice_set (cells_by set cells m o) (place set e) (f (cell_in set (cells_by set cells m o) e)) ≡ slice_set cells (place set e) (f (cell_by o (cell_in set cells e) m))
one_cell set cells m e None f h = refl
one_cell set cells m e (Some x) f h =
    subst (λ y. slice_set (slice_set cells (place set y) (cell_after (cell_in set cells y) m)) (place set e) (f (slice_index_or (slice_set cells (place set y) (cell_after (cell_in set cells y) m)) (place set e) (new_cell set))) ≡ slice_set cells (place set e) (f (cell_after (cell_in set cells e) m))) (sym h)
    (set_made f cells (place set e) (cell_after (cell_in set cells e) m) (new_cell set))

-- moves of one entity change its cell alone
pub cells_of : (st : Entities) (e : List ℕ) (ms : List Move) → AreOf e ms → (fold entities_after st ms).cells ≡ slice_set st.cells (place st.set e) (fold cell_on (cell st e) ms)
cells_of st e [] h = sym (set_itself st.cells (place st.set e) (new_cell st.set))
cells_of st e (m ∷ ms) h = cells_of (entities_after st m) e ms h.1 ∙ one_cell st.set st.cells m e (entity_of m) (λ x. fold cell_on x ms) h.0

-- where the entity's own cell is calm after moves of it, all are
pub calm_of : (st : Entities) (e : List ℕ) (ms : List Move) → AreOf e ms → AreCalm st → IsCalm (fold cell_on (cell st e) ms) → AreCalm (fold entities_after st ms)
calm_of st e ms of calm own x =
    subst (λ set. IsCalm (cell_in set (fold entities_after st ms).cells x)) (sym (set_stays st ms))
    (subst (λ cells. IsCalm (cell_in st.set cells x)) (sym (cells_of st e ms of))
    (of_write IsCalm st.cells (place st.set e) (place st.set x) (fold cell_on (cell st e) ms) (new_cell st.set) (λ same. own) (calm x)))

-- Which shards are Running.

-- it takes no shard
abbrev pub is_untaking : Move → Bool
is_untaking (took s list) = false
is_untaking m = true

running_set : (old : List (Option Hosted)) (t s : ℕ) (v : Option Hosted) → (s ≡ t → is_running_in v ≡ true → is_running_in (at old s) ≡ true) → is_running_in (at (slice_set old t v) s) ≡ true → is_running_in (at old s) ≡ true
running_set old t s v f = of_write (λ o. is_running_in o ≡ true → is_running_in (at old s) ≡ true) old t s v None f (λ h. h)

-- one entry more
running_entered : (f : Fact) (old : List (Option Hosted)) (t s : ℕ) → s ≡ t → is_running_in (option_map (λ (h : Hosted). record { entries = h.entries ++ f ∷ []; stopping = h.stopping }) (at old t)) ≡ true → is_running_in (at old s) ≡ true
running_entered f old t s same h = subst (λ n. is_running_in (at old n) ≡ true) (sym same) (by (at old t) h)
  where
    by : (o : Option Hosted) → is_running_in (option_map (λ (h : Hosted). record { entries = h.entries ++ f ∷ []; stopping = h.stopping }) o) ≡ true → is_running_in o ≡ true
    by None k = k
    by (Some x) k = k

running_fact : (set : Setting) (old : List (Option Hosted)) (s : ℕ) (f : Fact) → is_running_in (at (hosted_by_fact set old f) s) ≡ true → is_running_in (at old s) ≡ true
running_fact set old s (fact.Freed (slot.Shard t) n why) = running_set old t s None (λ same h. absurd (true≢false (sym h)))
running_fact set old s (fact.Wrote e r) = running_set old (shard_of set e) s (option_map (λ (x : Hosted). record { entries = x.entries ++ fact.Wrote e r ∷ []; stopping = x.stopping }) (at old (shard_of set e))) (running_entered (fact.Wrote e r) old (shard_of set e) s)
running_fact set old s (fact.Snapshot e n) = running_set old (shard_of set e) s (option_map (λ (x : Hosted). record { entries = x.entries ++ fact.Snapshot e n ∷ []; stopping = x.stopping }) (at old (shard_of set e))) (running_entered (fact.Snapshot e n) old (shard_of set e) s)
running_fact set old s (fact.Remembered e) = running_set old (shard_of set e) s (option_map (λ (x : Hosted). record { entries = x.entries ++ fact.Remembered e ∷ []; stopping = x.stopping }) (at old (shard_of set e))) (running_entered (fact.Remembered e) old (shard_of set e) s)
running_fact set old s (fact.Forgotten e) = running_set old (shard_of set e) s (option_map (λ (x : Hosted). record { entries = x.entries ++ fact.Forgotten e ∷ []; stopping = x.stopping }) (at old (shard_of set e))) (running_entered (fact.Forgotten e) old (shard_of set e) s)
running_fact set old s f = λ h. h

running_one : (set : Setting) (old : List (Option Hosted)) (s : ℕ) (m : Move) → is_untaking m ≡ true → is_running_in (at (hosted_step set old m) s) ≡ true → is_running_in (at old s) ≡ true
running_one set old s (took t list) h = absurd (true≢false (sym h))
running_one set old s (made (item.Fact f)) h = running_fact set old s f
running_one set old s (handed_off t stamp to) h = running_set old t s (option_map (λ (x : Hosted). record { entries = x.entries; stopping = Some (record { stamp = stamp; to = to }) }) (at old t)) (λ same. stopped (at old t))
  where
    stopped : (o : Option Hosted) → is_running_in (option_map (λ (x : Hosted). record { entries = x.entries; stopping = Some (record { stamp = stamp; to = to }) }) o) ≡ true → is_running_in (at old s) ≡ true
    stopped None k = absurd (true≢false (sym k))
    stopped (Some x) k = absurd (true≢false (sym k))
running_one set old s m h = λ k. k

pub runs_less : (st : Entities) (ms : List Move) (s : ℕ) → list_all is_untaking ms ≡ true → is_running (fold entities_after st ms) s ≡ true → is_running st s ≡ true
runs_less st [] s h r = r
runs_less st (m ∷ ms) s h r =
    let n : (is_untaking m ≡ true) × (list_all is_untaking ms ≡ true) = and_both (is_untaking m) (list_all is_untaking ms) h in
    running_one st.set st.hosted s m n.0 (runs_less (entities_after st m) ms s n.1 r)

routable_less : (none at_home a b : Bool) → (a ≡ true → b ≡ true) → (if none then false else not at_home || a) ≡ true → (if none then false else not at_home || b) ≡ true
routable_less true at_home a b f h = absurd (true≢false (sym h))
routable_less false false a b f h = refl
routable_less false true a b f h = f h

-- moves that take no shard make none routable
pub routed_by_entities : (r : Region) (st : Entities) (ms : List Move) → list_all is_untaking ms ≡ true → IsRouted r st → IsRouted r (fold entities_after st ms)
routed_by_entities r st ms h routed s e =
    routed s (routable_less (is_none (home r s)) (is_home r s) (is_running (fold entities_after st ms) s) (is_running st s) (runs_less st ms s h) e)

-- Moves that stash nothing.

abbrev pub is_unstashing : Move → Bool
is_unstashing (made (item.Fact (fact.Stashed x m))) = false
is_unstashing m = true

stash_stays : (p : Phase) (m : Move) → is_unstashing m ≡ true → stash_step p [] m ≡ []
stash_stays p (made (item.Fact (fact.Stashed x m))) h = absurd (true≢false (sym h))
stash_stays phase.Absent (made (item.Fact (fact.Dropped x m))) h = refl
stash_stays p m h = refl

stash_by : (x : Cell) (m : Move) (o : Option (List ℕ)) → is_unstashing m ≡ true → x.stash ≡ [] → (cell_by o x m).stash ≡ []
stash_by x m None h e = e
stash_by x m (Some y) h e = ap (λ s. stash_step x.phase s m) e ∙ stash_stays x.phase m h

-- an empty stash stays so
pub empty_stash : (x : Cell) (ms : List Move) → list_all is_unstashing ms ≡ true → x.stash ≡ [] → (fold cell_on x ms).stash ≡ []
empty_stash x [] h e = e
empty_stash x (m ∷ ms) h e =
    let n : (is_unstashing m ≡ true) × (list_all is_unstashing ms ≡ true) = and_both (is_unstashing m) (list_all is_unstashing ms) h in
    empty_stash (cell_on x m) ms n.1 (stash_by x m (entity_of m) n.0 e)

-- Moves that leave a calm entity so.

abbrev pub is_calming : Move → Bool
is_calming (made (item.Fact (fact.Stashed x m))) = false
is_calming (made (item.Fact (fact.Stop x e))) = false
is_calming (made (item.Fact (fact.WriteFailed x e))) = false
is_calming m = true

calm_post : (p : Phase) (b : Body) → is_calm (phase_by_post p b) ≡ true → is_calm p ≡ true
calm_post phase.Absent b h = refl
calm_post phase.Active b h = refl
calm_post phase.Loading (body.StopEntity e) h = absurd (true≢false (sym h))
calm_post phase.Stopping (body.StopEntity e) h = absurd (true≢false (sym h))
calm_post phase.Loading b h = absurd (true≢false (sym h))
calm_post phase.Stopping b h = absurd (true≢false (sym h))

calm_drop : (p : Phase) (s : List Message) (x : Incarnation) (m : Message) → (is_calm p ≡ true → s ≡ []) → is_calm p ≡ true → stash_step p s (made (item.Fact (fact.Dropped x m))) ≡ []
calm_drop phase.Absent s x m calm h = ap (drop 1) (calm h)
calm_drop phase.Loading s x m calm h = calm h
calm_drop phase.Active s x m calm h = calm h
calm_drop phase.Stopping s x m calm h = calm h

calm_after : (x : Cell) (m : Move) → is_calming m ≡ true → IsCalm x → IsCalm (cell_after x m)
calm_after x (made (item.Fact (fact.Stashed w m))) k calm h = absurd (true≢false (sym k))
calm_after x (made (item.Fact (fact.Stop w e))) k calm h = absurd (true≢false (sym k))
calm_after x (made (item.Fact (fact.WriteFailed w e))) k calm h = absurd (true≢false (sym k))
calm_after x (made (item.Fact (fact.Start w e))) k calm h = absurd (true≢false (sym h))
calm_after x (made (item.Fact (fact.Active w e n s))) k calm h = refl
calm_after x (made (item.Fact (fact.Dropped w m))) k calm h = calm_drop x.phase x.stash w m calm h
calm_after x (made (item.Post p)) k calm h = calm (calm_post x.phase p.body h)
calm_after x m k calm h = calm h

pub calm_one : (st : Entities) (m : Move) → is_calming m ≡ true → AreCalm st → AreCalm (entities_after st m)
calm_one st m k calm x = by (entity_of m)
  where
    by : (o : Option (List ℕ)) → IsCalm (cell_in st.set (cells_by st.set st.cells m o) x)
    by None = calm x
    by (Some e) = of_write IsCalm st.cells (place st.set e) (place st.set x) (cell_after (cell st e) m) (new_cell st.set) (λ same. calm_after (cell st e) m k (calm e)) (calm x)

pub calm_all : (st : Entities) (ms : List Move) → list_all is_calming ms ≡ true → AreCalm st → AreCalm (fold entities_after st ms)
calm_all st [] h calm = calm
calm_all st (m ∷ ms) h calm =
    let n : (is_calming m ≡ true) × (list_all is_calming ms ≡ true) = and_both (is_calming m) (list_all is_calming ms) h in
    calm_all (entities_after st m) ms n.1 (calm_one st m n.0 calm)

-- the cell of an entity that has one, after moves of it
pub cell_now : (st : Entities) (e : List ℕ) (ms : List Move) → place st.set e < length st.cells → AreOf e ms → cell (fold entities_after st ms) e ≡ fold cell_on (cell st e) ms
cell_now st e ms there of =
    ap (λ set. cell_in set (fold entities_after st ms).cells e) (set_stays st ms)
    ∙ (ap (λ cells. cell_in st.set cells e) (cells_of st e ms of) ∙ get_or-set_same st.cells (place st.set e) (fold cell_on (cell st e) ms) (new_cell st.set) there)

-- Moves that leave which shards are Running.

abbrev stays_by_fact : Fact → Bool
stays_by_fact (fact.Freed s n why) = false
stays_by_fact f = true

abbrev pub is_staying : Move → Bool
is_staying (took s list) = false
is_staying (handed_off s stamp to) = false
is_staying (made (item.Fact f)) = stays_by_fact f
is_staying m = true

same_entered : (f : Fact) (old : List (Option Hosted)) (t s : ℕ) → is_running_in (at (slice_set old t (option_map (λ (h : Hosted). record { entries = h.entries ++ f ∷ []; stopping = h.stopping }) (at old t))) s) ≡ is_running_in (at old s)
same_entered f old t s = of_write (λ o. is_running_in o ≡ is_running_in (at old s)) old t s (option_map (λ (h : Hosted). record { entries = h.entries ++ f ∷ []; stopping = h.stopping }) (at old t)) None
    (λ same. by (at old t) ∙ ap (λ n. is_running_in (at old n)) (sym same)) refl
  where
    by : (o : Option Hosted) → is_running_in (option_map (λ (h : Hosted). record { entries = h.entries ++ f ∷ []; stopping = h.stopping }) o) ≡ is_running_in o
    by None = refl
    by (Some x) = refl

same_fact : (set : Setting) (old : List (Option Hosted)) (s : ℕ) (f : Fact) → stays_by_fact f ≡ true → is_running_in (at (hosted_by_fact set old f) s) ≡ is_running_in (at old s)
same_fact set old s (fact.Freed t n why) h = absurd (true≢false (sym h))
same_fact set old s (fact.Wrote e r) h = same_entered (fact.Wrote e r) old (shard_of set e) s
same_fact set old s (fact.Snapshot e n) h = same_entered (fact.Snapshot e n) old (shard_of set e) s
same_fact set old s (fact.Remembered e) h = same_entered (fact.Remembered e) old (shard_of set e) s
same_fact set old s (fact.Forgotten e) h = same_entered (fact.Forgotten e) old (shard_of set e) s
same_fact set old s f h = refl

same_one : (set : Setting) (old : List (Option Hosted)) (s : ℕ) (m : Move) → is_staying m ≡ true → is_running_in (at (hosted_step set old m) s) ≡ is_running_in (at old s)
same_one set old s (took t list) h = absurd (true≢false (sym h))
same_one set old s (handed_off t stamp to) h = absurd (true≢false (sym h))
same_one set old s (made (item.Fact f)) h = same_fact set old s f h
same_one set old s m h = refl

pub runs_same : (st : Entities) (ms : List Move) (s : ℕ) → list_all is_staying ms ≡ true → is_running (fold entities_after st ms) s ≡ is_running st s
runs_same st [] s h = refl
runs_same st (m ∷ ms) s h =
    let n : (is_staying m ≡ true) × (list_all is_staying ms ≡ true) = and_both (is_staying m) (list_all is_staying ms) h in
    runs_same (entities_after st m) ms s n.1 ∙ same_one st.set st.hosted s m n.0
