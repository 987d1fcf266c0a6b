-- One group, and then others: what a run does from one moment to the next it does from the first to the last.
use Rattle.std.proofs.Common.{◌≡◌, ◌≤◌, ℕ, inl, inr, refl, sym, ap, ◌∙◌, subst, arith, length-append, append_assoc}
use Rattle.std.specs.Prelude.{Bool, List, [], ◌∷◌, ◌++◌, length, map, take, Option, Some, None, IsTrue}
use Rattle.std.specs.List.{list_all}
use Rattle.std.specs.Str.Lines.{lines}
use Rattle.std.proofs.lemmas.Grind.{flat_map-append}
use Rattle.std.proofs.lemmas.List.{append-nil, map-append, take-append-le}
use Rattle.std.proofs.Math.Seq.{take-length}
use Rattle.std.proofs.lemmas.List.Folds.{list_all-append}
use Rattle.plain_laws.proofs.Booleans.{both}
use Rattle.yard_io.specs.Told.{count_of, followed_by}
use Rattle.yard_model.specs.declared.charter.Config.{Config}
use Rattle.yard_model.specs.declared.fact.Fact.{Fact}
use Rattle.yard_model.specs.Script.{Script}
use Rattle.yard_model.specs.Text.{Bytes, line}
use Rattle.disk_log.specs.Frames.{Holds}
use Rattle.disk_log.specs.Images.{Images, IsTimed, LeavesOnly}
use Rattle.disk_log.specs.Rest.{HoldsPrefix, Rests}
use Rattle.disk_log.specs.Spelled as spelled
use Rattle.disk_log.proofs.CommitLaws.{rests_hold}
use Rattle.disk_log.proofs.Moments.{leaves_then, leaves_weaker}
use Rattle.apply_laws.specs.Applied.{applied}
use Rattle.serve_laws.specs.Hearing.{after_all}
use Rattle.serve_laws.specs.Hearings.{AllGoOn, GoOn}
use Rattle.serve_laws.specs.Served.{Desk, answers, answers_in, config_words, frames, grouped, head_of, log_of, served}
use Rattle.serve_laws.specs.Servings.{IsDesk, IsLogOf}
use Rattle.serve_run.specs.Scenes.{Goes, Hears, IsBehind, IsBehindSettings, IsTold, Scene, Stopped, ahead, desk_behind, ends_line, joined, lines_in}

-- Lists of groups.

pub served_both : (d : Desk) (xs ys : List (List Bytes)) → served d (xs ++ ys) ≡ served (served d xs) ys
served_both d [] ys = refl
served_both d (x ∷ xs) ys = served_both (grouped d x) xs ys

pub answers_both : (d : Desk) (xs ys : List (List Bytes)) → answers_in d (xs ++ ys) ≡ answers_in d xs ++ answers_in (served d xs) ys
answers_both d [] ys = refl
answers_both d (x ∷ xs) ys =
    ap (λ t. answers d x ++ t) (answers_both (grouped d x) xs ys) ∙ sym (append_assoc (answers d x) (answers_in (grouped d x) xs) (answers_in (served (grouped d x) xs) ys))

pub lines_both : (xs ys : List Bytes) → lines_in (xs ++ ys) ≡ lines_in xs ++ lines_in ys
lines_both xs ys = map-append lines xs ys

pub joined_both : (xs ys : List Bytes) → joined (xs ++ ys) ≡ joined xs ++ joined ys
joined_both xs ys = flat_map-append (λ g. g) xs ys

pub whole_both : (xs ys : List Bytes) → IsTrue (list_all ends_line xs) → IsTrue (list_all ends_line ys) → IsTrue (list_all ends_line (xs ++ ys))
whole_both xs ys first second = list_all-append ends_line xs ys ∙ both (list_all ends_line xs) (list_all ends_line ys) first second

pub ahead_none : (told : Option Bytes) → told ≡ ahead [] told
ahead_none None = refl
ahead_none (Some xs) = refl

pub ahead_both : (xs ys : Bytes) (told : Option Bytes) → ahead xs (ahead ys told) ≡ ahead (xs ++ ys) told
ahead_both xs ys None = refl
ahead_both xs ys (Some zs) = ap Some (sym (append_assoc xs ys zs))

pub followed_none : (told : Option Bytes) → told ≡ followed_by told []
followed_none None = refl
followed_none (Some xs) = ap Some (sym (append-nil xs))

pub followed_both : (told : Option Bytes) (xs ys : Bytes) → followed_by (followed_by told xs) ys ≡ followed_by told (xs ++ ys)
followed_both None xs ys = refl
followed_both (Some zs) xs ys = ap Some (append_assoc zs xs ys)

-- two cuts of what came, one behind the other
pub cut_both : (window x y gs hs middle last : Bytes) → window ++ x ≡ gs ++ middle → middle ++ y ≡ hs ++ last → window ++ (x ++ y) ≡ (gs ++ hs) ++ last
cut_both window x y gs hs middle last first second =
    sym (append_assoc window x y) ∙ (ap (λ t. t ++ y) first ∙ (append_assoc gs middle y ∙ (ap (λ t. gs ++ t) second ∙ sym (append_assoc gs hs last))))

-- Frames.

-- these begin with those
abbrev pub AreMore : List Bytes → List Bytes → Type 0
AreMore some all = (more : List Bytes) × (all ≡ some ++ more)

more_none : (xs : List Bytes) → AreMore xs xs
more_none xs = ([], sym (append-nil xs))

more_both : (xs ys zs : List Bytes) → AreMore xs ys → AreMore ys zs → AreMore xs zs
more_both xs ys zs first second = (first.0 ++ second.0, second.1 ∙ (ap (λ t. t ++ second.0) first.1 ∙ append_assoc xs first.0 second.0))

texts_on : (a b : Config) (log more : List (List Fact)) → b ≡ a → AreMore (line (config_words a) ∷ map spelled.lines log) (line (config_words b) ∷ map spelled.lines (log ++ more))
texts_on a b log more same = (map spelled.lines more, ap (λ (c : Config). line (config_words c) ∷ map spelled.lines (log ++ more)) same ∙ ap (λ t. line (config_words a) ∷ t) (map-append spelled.lines log more))

frames_next : AllGoOn → (d : Desk) (ls : List Bytes) → IsBehindSettings d → AreMore (frames d) (frames (grouped d ls))
frames_next on d ls behind = by d.so_far d.log behind
  where
    go : (c : Script) (log : List (List Fact)) (so : Option Script) → GoOn (Some c) so → AreMore (head_of (Some c) ++ map spelled.lines log) (head_of so ++ map spelled.lines (log_of so log))
    go c log None g = absurd g
    go c log (Some e) g = texts_on c.config e.config log (applied e log) g.0

    by : (so : Option Script) (log : List (List Fact)) → IsBehind so log → AreMore (head_of so ++ map spelled.lines log) (head_of (after_all so ls) ++ map spelled.lines (log_of (after_all so ls) log))
    by None log none =
        let all : List Bytes = head_of (after_all None ls) ++ map spelled.lines (log_of (after_all None ls) log) in
        (all, ap (λ (l : List (List Fact)). map spelled.lines l ++ all) (sym none))
    by (Some c) log some = go c log (after_all (Some c) ls) (on (Some c) ls)

behind_next : AllGoOn → (d : Desk) (ls : List Bytes) → IsBehindSettings d → IsBehindSettings (grouped d ls)
behind_next on d ls behind = by d.so_far d.log behind
  where
    first : (so : Option Script) (log : List (List Fact)) → log ≡ [] → IsBehind so (log_of so log)
    first None log none = none
    first (Some c) log none = tt

    go : (c : Script) (log : List (List Fact)) (so : Option Script) → GoOn (Some c) so → IsBehind so (log_of so log)
    go c log None g = absurd g
    go c log (Some e) g = tt

    by : (so : Option Script) (log : List (List Fact)) → IsBehind so log → IsBehind (after_all so ls) (log_of (after_all so ls) log)
    by None log none = first (after_all None ls) log none
    by (Some c) log some = go c log (after_all (Some c) ls) (on (Some c) ls)

pub frames_on : AllGoOn → (d : Desk) (groups : List (List Bytes)) → IsBehindSettings d → AreMore (frames d) (frames (served d groups))
frames_on on d [] behind = more_none (frames d)
frames_on on d (ls ∷ groups) behind =
    more_both (frames d) (frames (grouped d ls)) (frames (served (grouped d ls) groups)) (frames_next on d ls behind) (frames_on on (grouped d ls) groups (behind_next on d ls behind))

pub behind_on : AllGoOn → (d : Desk) (groups : List (List Bytes)) → IsBehindSettings d → IsBehindSettings (served d groups)
behind_on on d [] behind = behind
behind_on on d (ls ∷ groups) behind = behind_on on (grouped d ls) groups (behind_next on d ls behind)

pub behind_of : (d : Desk) → IsDesk d → IsBehindSettings d
behind_of d desk = by d.so_far d.log desk
  where
    by : (so : Option Script) (log : List (List Fact)) → IsLogOf so log → IsBehind so log
    by None log none = none
    by (Some c) log some = tt

pub more_long : (some all : List Bytes) → AreMore some all → length some ≤ length all
more_long some all more = omega (arith, ap length more.1, length-append some more.0)

-- the first texts of fewer are the first of more
pub prefix_more : (some all : List Bytes) (n : ℕ) (image : Bytes) → AreMore some all → HoldsPrefix some n image → HoldsPrefix all n image
prefix_more some all n image more p = record {
  count = p.count;
  at_least = p.at_least;
  at_most = omega (arith, p.at_most, more_long some all more);
  holds = subst (λ (texts : List Bytes). Holds texts image) (sym (ap (take p.count) more.1 ∙ take-append-le p.count some more.0 p.at_most)) p.holds;
}

pub prefix_fewer : (texts : List Bytes) (n m : ℕ) (image : Bytes) → m ≤ n → HoldsPrefix texts n image → HoldsPrefix texts m image
prefix_fewer texts n m image le p = record { count = p.count; at_least = omega (arith, p.at_least, le); at_most = p.at_most; holds = p.holds }

pub prefix_whole : (texts : List Bytes) (image : Bytes) → Holds texts image → HoldsPrefix texts (length texts) image
prefix_whole texts image holds = record { count = length texts; at_least = omega arith; at_most = omega arith; holds = subst (λ (t : List Bytes). Holds t image) (sym (take-length texts)) holds }

-- Moments.

-- nothing was done
pub leaves_none : {P : List ℕ → Type 0} (images : Images) → IsTimed images → ((c : List ℕ) → images.now c → P c) → LeavesOnly images images P
leaves_none images timed here = record { later = omega arith; each = λ c left. here c (timed.only_now c left); before = λ t c le left. inl left }

-- now is one of the moments since
pub now_of : {P : List ℕ → Type 0} (old new : Images) → IsTimed new → LeavesOnly old new P → (c : List ℕ) → new.now c → P c
now_of old new timed leaves c now = leaves.each c (timed.counts_now old.moment c leaves.later now)

-- a log at rest
pub rest_prefix : (tells : Bool) (end : ℕ) (content : Bytes) (images : Images) (texts : List Bytes) → Rests tells end content images texts → IsTrue tells → (c : List ℕ) → images.now c → HoldsPrefix texts (length texts) c
rest_prefix tells end content images texts rests told c now = prefix_whole texts c (rests_hold tells end content images texts rests told c now)

-- what these lead to leaves, from fewer frames on
pub leaves_on : AllGoOn → (old mid new : Images) (a b c : Desk) (xs ys : List (List Bytes)) (n : ℕ) → IsBehindSettings a → b ≡ served a xs → c ≡ served b ys → n ≤ length (frames a)
    → LeavesOnly old mid (HoldsPrefix (frames b) n) → LeavesOnly mid new (HoldsPrefix (frames c) (length (frames b))) → LeavesOnly old new (HoldsPrefix (frames c) n)
leaves_on on old mid new a b c xs ys n behind bs cs le first second =
    let rise : AreMore (frames a) (frames b) = subst (λ (d : Desk). AreMore (frames a) (frames d)) (sym bs) (frames_on on a xs behind) in
    let there : IsBehindSettings b = subst IsBehindSettings (sym bs) (behind_on on a xs behind) in
    let grow : AreMore (frames b) (frames c) = subst (λ (d : Desk). AreMore (frames b) (frames d)) (sym cs) (frames_on on b ys there) in
    leaves_then old mid new
    (leaves_weaker old mid (λ image p. prefix_more (frames b) (frames c) n image grow p) first)
    (leaves_weaker mid new (λ image p. prefix_fewer (frames c) (length (frames b)) n image (omega (arith, le, more_long (frames a) (frames b) rise)) p) second)

-- Scenes.

-- nothing was read or heard
pub hears_none : (a : Scene) → Hears a a
hears_none a = record {
  groups = [];
  bytes = [];
  told = ahead_none a.left;
  cut = append-nil a.window;
  whole = refl;
  desk = refl;
  taken = followed_none a.taken;
  flushed = inl (refl, refl);
}

told_both : (x y z : Option Bytes) (i j k : Option ℕ) → IsTold x y i j → IsTold y z j k → IsTold x z i k
told_both x y z i j k (inl a) (inl b) = inl (b.0 ∙ a.0, b.1 ∙ a.1)
told_both x y z i j k (inr a) (inl b) = inr (b.1 ∙ (a ∙ ap count_of (sym b.0)))
told_both x y z i j k first (inr b) = inr b

pub hears_then : (a b c : Scene) → Hears a b → Hears b c → Hears a c
hears_then a b c first second =
    let xs : List (List Bytes) = lines_in first.groups in
    let ys : List (List Bytes) = lines_in second.groups in
    let all : lines_in (first.groups ++ second.groups) ≡ xs ++ ys = lines_both first.groups second.groups in
    record {
      groups = first.groups ++ second.groups;
      bytes = first.bytes ++ second.bytes;
      told = first.told ∙ (ap (ahead first.bytes) second.told ∙ ahead_both first.bytes second.bytes c.left);
      cut = cut_both a.window first.bytes second.bytes (joined first.groups) (joined second.groups) b.window c.window first.cut second.cut ∙ ap (λ t. t ++ c.window) (sym (joined_both first.groups second.groups));
      whole = whole_both first.groups second.groups first.whole second.whole;
      desk = second.desk ∙ (ap (λ (d : Desk). served d ys) first.desk ∙ (sym (served_both a.desk xs ys) ∙ ap (served a.desk) (sym all)));
      taken =
          second.taken ∙ (ap (λ t. followed_by t (answers_in b.desk ys)) first.taken ∙ (followed_both a.taken (answers_in a.desk xs) (answers_in b.desk ys)
          ∙ ap (followed_by a.taken) (ap (λ (d : Desk). answers_in a.desk xs ++ answers_in d ys) first.desk ∙ (sym (answers_both a.desk xs ys) ∙ ap (answers_in a.desk) (sym all)))));
      flushed = told_both a.taken b.taken c.taken a.flushed b.flushed c.flushed first.flushed second.flushed;
    }

-- the desk of a later moment
pub behind_then : AllGoOn → (a b : Scene) → IsBehindSettings a.desk → Hears a b → IsBehindSettings b.desk
behind_then on a b behind hears = subst IsBehindSettings (sym hears.desk) (behind_on on a.desk (lines_in hears.groups) behind)

pub goes_none : (tells : Bool) (images : Images) (a : Scene) → (IsTrue tells → (image : Bytes) → images.now image → HoldsPrefix (frames a.desk) (length (frames a.desk)) image) → IsTimed images → Goes tells images images a a
goes_none tells images a here timed = record { hears = hears_none a; moment = λ told. leaves_none images timed (here told) }

pub goes_then : AllGoOn → (tells : Bool) (old mid new : Images) (a b c : Scene) → IsBehindSettings a.desk → Goes tells old mid a b → Goes tells mid new b c → Goes tells old new a c
goes_then on tells old mid new a b c behind first second = record {
  hears = hears_then a b c first.hears second.hears;
  moment = λ told.
      leaves_on on old mid new a.desk b.desk c.desk (lines_in first.hears.groups) (lines_in second.hears.groups) (length (frames a.desk)) behind first.hears.desk second.hears.desk (omega arith) (first.moment told)
      (second.moment told);
}

pub stopped_then : AllGoOn → (tells : Bool) (old mid new : Images) (a b : Scene) (left taken : Option Bytes) → IsBehindSettings a.desk → Goes tells old mid a b → Stopped tells mid new b left taken → Stopped tells old new a left taken
stopped_then on tells old mid new a b left taken behind first stopped =
    let before : Scene = stopped.before in
    let last : Desk = desk_behind before.desk stopped.halts.groups in
    let ys : List (List Bytes) = lines_in stopped.hears.groups ++ lines_in stopped.halts.groups in
    let is : last ≡ served b.desk ys =
    ap (λ (d : Desk). desk_behind d stopped.halts.groups) stopped.hears.desk ∙ sym (served_both b.desk (lines_in stopped.hears.groups) (lines_in stopped.halts.groups)) in
    record {
      before = before;
      hears = hears_then a b before first.hears stopped.hears;
      halts = stopped.halts;
      moment = λ told.
          leaves_on on old mid new a.desk b.desk last (lines_in first.hears.groups) ys (length (frames a.desk)) behind first.hears.desk is (omega arith) (first.moment told) (stopped.moment told);
    }

-- it stopped with nothing in work, and these bytes were read
pub stopped_none : (tells : Bool) (images : Images) (a : Scene) (left : Option Bytes) (bytes : Bytes) → a.left ≡ ahead bytes left
    → (IsTrue tells → (image : Bytes) → images.now image → HoldsPrefix (frames a.desk) (length (frames a.desk)) image) → IsTimed images → Stopped tells images images a left a.taken
stopped_none tells images a left bytes told here timed = record {
  before = a;
  hears = hears_none a;
  halts = record {
    groups = [];
    rest = a.window ++ bytes;
    bytes = bytes;
    few = omega arith;
    told = told;
    cut = refl;
    whole = refl;
    count = 0;
    within = omega arith;
    taken_is = followed_none a.taken;
    at_exit = λ tell. inl (refl, here tell);
  };
  moment = λ tell. leaves_none images timed (here tell);
}
