-- What it gives that a shard starts and what is kept of it is released: once its home is learnt, and at the tick.
use Rattle.std.proofs.Common.{◌≡◌, ℕ, ◌+◌, ◌*◌, ◌≤◌, List, [], ◌∷◌, ◌++◌, length, sym, ap, subst, ◌∙◌, refl, true, false, true≢false, append-nil, arith}
use Rattle.std.specs.Prelude.{Bool, ◌&&◌, ◌==◌, not, fold, map, None, sum_by, if◌then◌else◌}
use Rattle.std.specs.Option.{option_map}
use Rattle.yard_model.specs.declared.incarnation.Incarnation.{Incarnation}
use Rattle.yard_model.specs.declared.incarnation.Slot.TheVariants as slot
use Rattle.yard_model.specs.declared.incarnation.Stamp.{Stamp}
use Rattle.yard_model.specs.declared.out.Item.{Item}
use Rattle.yard_model.specs.declared.packet.Body.{Body}
use Rattle.yard_model.specs.declared.packet.Body.TheVariants as body
use Rattle.yard_model.specs.declared.packet.Packet.{Packet}
use Rattle.yard_model.specs.Entities.{Hosted, hosted, is_hosted}
use Rattle.yard_model.specs.Genuine.{is_node, is_shard, is_genuine_body, is_genuine_packet}
use Rattle.yard_model.specs.Move.{post}
use Rattle.yard_model.specs.Node as rules
use Rattle.yard_model.specs.Node.{Node, Act, by_region, after, all_in_turn, of_region, start, release}
use Rattle.yard_model.specs.Region.{Region, is_home, kept_of, learn, takes_home, takes_host}
use Rattle.yard_model.specs.Script.{Script, IsScript, setting}
use Rattle.yard_model.specs.Setting.{names_of}
use Rattle.yard_model.specs.SlotLists.{SlotLists}
use Rattle.yard_model.specs.Spared.{Spared}
use Rattle.plain_laws.proofs.Booleans.{and_both, other_number, same_number}
use Rattle.yard_laws.proofs.FreeLaws.{region_is_free}
use Rattle.actor_laws.specs.Hands.{held_list}
use Rattle.actor_laws.specs.RegionStands.{RegionKeeps}
use Rattle.actor_laws.specs.ShardStart.{ShardStarts}
use Rattle.node_laws.specs.NodeStands.{IsSoundNode}
use Rattle.node_laws.proofs.NodeRoutes.{answer_node}
use Rattle.node_laws.proofs.NodeStarts.{learn_node, not_hosted, starts_node}
use Rattle.region_actor.specs.Handled.{handled}
use Rattle.shard_lease.specs.Meaning.{Meaning}
use Rattle.node_core.specs.Found.{none, asks}
use Rattle.node_core.specs.Gave.{Moment, moment, Gave}
use Rattle.node_core.specs.Leased.{Rests}
use Rattle.node_core.specs.Releasing.{HasReleaseRoom, LeavesRoom, kept_all}
use Rattle.node_core.specs.Standing.{Standing, IsReady}
use Rattle.node_core.specs.Started.{asks_start, asks_again, start_home, take_shard, StartLeaves, AgainLeaves}
use Rattle.node_core.specs.Went.{Went}
use Rattle.node_core.proofs.BesideLaws.{gave_keeps}
use Rattle.node_core.proofs.FoundLaws.{alike_itself}
use Rattle.node_core.proofs.GaveLaws.{gave_asked, gave_first, gave_nothing, gave_same, gave_then}
use Rattle.node_core.proofs.GiveLaws.{region_gave}
use Rattle.node_core.proofs.PacketLaws.{frees_nothing}
use Rattle.node_core.proofs.ReleaseLaws.{region_rooms_stay}
use Rattle.room_laws.proofs.Limits.{few_names_in}
use Rattle.room_laws.proofs.Gives.{filter_few}
use Rattle.room_laws.proofs.RegionRoom.{kept_within}
use Rattle.node_core.proofs.StartLaws.{away_room, fewer_room, ready_room}

-- Choices.

if_so : (b : Bool) (xs ys : List Act) → b ≡ true → xs ≡ (if b then xs else ys)
if_so true xs ys e = refl
if_so false xs ys e = absurd (true≢false (sym e))

if_not : (b : Bool) (xs ys : List Act) → b ≡ false → ys ≡ (if b then xs else ys)
if_not false xs ys e = refl
if_not true xs ys e = absurd (true≢false e)

-- The node stands in between.

pub started_sound : (c : Script) (s : ℕ) (old new : Moment) → ShardStarts → is_shard c s ≡ true → IsSoundNode c old.node → Gave c (asks_start s old.node) (λ lists. start lists s old.node) old new → IsSoundNode c new.node
started_sound c s old new law shard sound g = by (is_hosted old.node.entities s) refl
  where
    told_is : start g.found.lists s old.node ≡ g.told
    told_is = g.found.same g.found.lists (alike_itself c (asks_start s old.node) old.node g.found.lists)

    goes : fold after old.node (start g.found.lists s old.node) ≡ new.node
    goes = ap (fold after old.node) told_is ∙ sym g.node_is

    by : (b : Bool) → is_hosted old.node.entities s ≡ b → IsSoundNode c new.node
    by true e = subst (IsSoundNode c) (ap (fold after old.node) (ap (λ b. if b then [] else take_shard g.found.lists s old.node) (sym e)) ∙ goes) sound
    by false e =
        let free : held_list (slot.Shard s) old.node ≡ None = ap (option_map (λ (h : Hosted). h.entries)) (not_hosted (hosted old.node.entities s) e) in
        subst (IsSoundNode c) goes (starts_node c old.meaning.vouches g.found.lists s old.node law sound (g.found.else_are (slot.Shard s) shard free) shard).stands

pub home_sound : (c : Script) (s : ℕ) (old new : Moment) → ShardStarts → is_shard c s ≡ true → IsSoundNode c old.node → Gave c (asks_again s old.node) (λ lists. start_home lists s old.node) old new → IsSoundNode c new.node
home_sound c s old new law shard sound g = by (is_home old.node.region s) refl
  where
    by : (b : Bool) → is_home old.node.region s ≡ b → IsSoundNode c new.node
    by true e = started_sound c s old new law shard sound
        (gave_asked c (asks_again s old.node) (asks_start s old.node) (λ lists. start lists s old.node) old new (λ t. ap (λ b. b && not (is_hosted old.node.entities s) && asks (slot.Shard s) t) e)
        (gave_same c (asks_again s old.node) (λ lists. start_home lists s old.node) (λ lists. start lists s old.node) old new (λ lists. ap (λ b. if b then start lists s old.node else []) e) g))
    by false e =
        let told_is : [] ≡ g.told = ap (λ b. if b then start g.found.lists s old.node else []) (sym e) ∙ g.found.same g.found.lists (alike_itself c (asks_again s old.node) old.node g.found.lists) in
        subst (IsSoundNode c) (ap (fold after old.node) told_is ∙ sym g.node_is) sound

-- Start, where the home is here.

pub start_home_gave : (c : Script) (s : ℕ) (old new : Moment) → is_home old.node.region s ≡ true → Gave c (asks_start s old.node) (λ lists. start lists s old.node) old new → Gave c (asks_again s old.node) (λ lists. start_home lists s old.node) old new
start_home_gave c s old new e g =
    gave_asked c (asks_start s old.node) (asks_again s old.node) (λ lists. start_home lists s old.node) old new (λ t. ap (λ b. b && not (is_hosted old.node.entities s) && asks (slot.Shard s) t) (sym e))
    (gave_same c (asks_start s old.node) (λ lists. start lists s old.node) (λ lists. start_home lists s old.node) old new (λ lists. ap (λ b. if b then start lists s old.node else []) (sym e)) g)

pub start_home_not : (c : Script) (s : ℕ) (now : Moment) → is_home now.node.region s ≡ false → Rests now.meaning c now.node → Gave c (asks_again s now.node) (λ lists. start_home lists s now.node) now now
start_home_not c s now e rests =
    gave_asked c none (asks_again s now.node) (λ lists. start_home lists s now.node) now now (λ t. ap (λ b. b && not (is_hosted now.node.entities s) && asks (slot.Shard s) t) (sym e))
    (gave_same c none (λ lists. []) (λ lists. start_home lists s now.node) now now (λ lists. ap (λ b. if b then start lists s now.node else []) (sym e)) (gave_nothing c now rests))

-- The region learns of a home.

handled_home : (from : Incarnation) (s : ℕ) (h : Incarnation) (stamp : Stamp) (r : Region) → takes_home s h stamp r ≡ true → handled from (body.ShardHome s h stamp) r ≡ learn s h stamp r
handled_home from s h stamp r e = ap (λ b. if b then learn s h stamp r else []) e

handled_host : (from : Incarnation) (s : ℕ) (stamp : Stamp) (r : Region) → takes_host s stamp r ≡ true → handled from (body.HostShard s stamp) r ≡ learn s r.who stamp r
handled_host from s stamp r e = ap (λ b. if b then learn s r.who stamp r else []) e

learnt_home : {v w : Standing} {before late : Spared Item} (from : Incarnation) (b : Body) (s : ℕ) (h : Incarnation) (stamp : Stamp) → b ≡ body.ShardHome s h stamp → takes_home s h stamp v.state.region ≡ true
    → Went v w before late (of_region (handled from b) v.state) → Went v w before late (of_region (learn s h stamp) v.state)
learnt_home {v} {w} {before} {late} from b s h stamp is e went =
    subst (λ ms. Went v w before late (map by_region ms)) (ap (λ x. handled from x v.state.region) is ∙ handled_home from s h stamp v.state.region e) went

learnt_host : {v w : Standing} {before late : Spared Item} (from : Incarnation) (b : Body) (s : ℕ) (stamp : Stamp) → b ≡ body.HostShard s stamp → v.state.region.who ≡ v.state.who → takes_host s stamp v.state.region ≡ true
    → Went v w before late (of_region (handled from b) v.state) → Went v w before late (of_region (learn s v.state.who stamp) v.state)
learnt_host {v} {w} {before} {late} from b s stamp is who e went =
    subst (λ ms. Went v w before late (map by_region ms)) (ap (λ x. handled from x v.state.region) is ∙ (handled_host from s stamp v.state.region e ∙ ap (λ x. learn s x stamp v.state.region) who)) went

-- what stands then, and what it gave
pub record IsLearnt (m : Meaning) (s : ℕ) (h : Incarnation) (stamp : Stamp) (v w : Standing) (before late : Spared Item) : Type 0 where
  pub gave : Gave v.script none (λ lists. of_region (learn s h stamp) v.state) (moment m v.state before.items) (moment m w.state late.items)
  pub sound : IsSoundNode w.script w.state
  pub rests : Rests m w.script w.state
  pub rooms : (t n : ℕ) → HasReleaseRoom n v t → HasReleaseRoom n w t

learnt : (m : Meaning) {v w : Standing} {before late : Spared Item} (s : ℕ) (h : Incarnation) (stamp : Stamp) → RegionKeeps → IsScript v.script → IsSoundNode v.script v.state → is_shard v.script s ≡ true → is_node v.script h ≡ true → Rests m v.script v.state
    → Went v w before late (of_region (learn s h stamp) v.state) → IsLearnt m s h stamp v w before late
learnt m {v} {w} {before} {late} s h stamp law script sound shard node rests went = record {
  gave = gave;
  sound = subst (λ c. IsSoundNode c w.state) (sym went.script_is) (subst (IsSoundNode v.script) (sym went.node_is) (learn_node v.script m.vouches v.state s h stamp law script sound shard node).stands);
  rests = subst (λ c. Rests m c w.state) (sym went.script_is) gave.rests;
  rooms = region_rooms_stay (learn s h stamp v.state.region) went;
}
  where
    gave : Gave v.script none (λ lists. of_region (learn s h stamp) v.state) (moment m v.state before.items) (moment m w.state late.items)
    gave = region_gave m v w (learn s h stamp v.state.region) before late sound.entities.set_is ((region_is_free v.state.region).learnt s h stamp) rests went

home_genuine : (c : Script) (s : ℕ) (h : Incarnation) (stamp : Stamp) (p : Packet) → p.body ≡ body.ShardHome s h stamp → is_genuine_packet c p ≡ true → (is_shard c s ≡ true) × (is_node c h ≡ true)
home_genuine c s h stamp p is good = and_both (is_shard c s) (is_node c h) (and_both (is_node c p.from && is_node c p.to) (is_shard c s && is_node c h) (ap (λ b. is_node c p.from && is_node c p.to && is_genuine_body c b) (sym is) ∙ good)).1

pub host_genuine : (c : Script) (s : ℕ) (stamp : Stamp) (p : Packet) → p.body ≡ body.HostShard s stamp → is_genuine_packet c p ≡ true → (is_shard c s ≡ true) × (is_node c p.from ≡ true)
host_genuine c s stamp p is good =
    let all : ((is_node c p.from && is_node c p.to) ≡ true) × (is_shard c s ≡ true) = and_both (is_node c p.from && is_node c p.to) (is_shard c s) (ap (λ b. is_node c p.from && is_node c p.to && is_genuine_body c b) (sym is) ∙ good) in
    (all.1, (and_both (is_node c p.from) (is_node c p.to) all.0).0)

pub home_shard : (c : Script) (s : ℕ) (h : Incarnation) (stamp : Stamp) (p : Packet) → p.body ≡ body.ShardHome s h stamp → is_genuine_packet c p ≡ true → is_shard c s ≡ true
home_shard c s h stamp p is good = (home_genuine c s h stamp p is good).0

pub home_learnt : (m : Meaning) {v w : Standing} {before late : Spared Item} (p : Packet) (s : ℕ) (h : Incarnation) (stamp : Stamp) → RegionKeeps → IsScript v.script → p.body ≡ body.ShardHome s h stamp → is_genuine_packet v.script p ≡ true → takes_home s h stamp v.state.region ≡ true
    → IsSoundNode v.script v.state → Rests m v.script v.state → Went v w before late (of_region (handled p.from p.body) v.state) → IsLearnt m s h stamp v w before late
home_learnt m {v} p s h stamp law script is good taken sound rests went =
    let its : (is_shard v.script s ≡ true) × (is_node v.script h ≡ true) = home_genuine v.script s h stamp p is good in
    learnt m s h stamp law script sound its.0 its.1 rests (learnt_home p.from p.body s h stamp is taken went)

pub host_learnt : (m : Meaning) {v w : Standing} {before late : Spared Item} (p : Packet) (s : ℕ) (stamp : Stamp) → RegionKeeps → IsScript v.script → p.body ≡ body.HostShard s stamp → is_genuine_packet v.script p ≡ true → takes_host s stamp v.state.region ≡ true
    → IsSoundNode v.script v.state → Rests m v.script v.state → Went v w before late (of_region (handled p.from p.body) v.state) → IsLearnt m s v.state.who stamp v w before late
host_learnt m {v} p s stamp law script is good taken sound rests went =
    learnt m s v.state.who stamp law script sound (host_genuine v.script s stamp p is good).0 sound.who_is rests (learnt_host p.from p.body s stamp is sound.region_who taken went)

-- Room.

names_within : (c : Script) (v : Standing) (s : ℕ) → IsScript c → v.state.set ≡ setting c → length (names_of v.state.set s) ≤ 1000
names_within c v s script set =
    let few : length v.state.set.names ≤ 1000 = few_names_in c v.state.set script set in
    let fewer : length (names_of v.state.set s) ≤ length v.state.set.names = filter_few _ v.state.set.names in
    omega (arith, few, fewer)

pub start_has_room : {v : Standing} (w : Standing) {spare late : ℕ} (s : ℕ) → IsScript w.script → IsSoundNode w.script w.state → IsReady v spare → spare ≤ late + 130 → 1 + 2 * length (names_of w.state.set s) ≤ late
start_has_room {v} w {spare} {late} s script sound ready less =
    let all = ready.room in
    let few = names_within w.script w s script sound.set_is in
    omega (arith, all, less, few)

-- what is left for Release, after the region has learnt and the shard has started
pub release_room_left : {v one two : Standing} {spare : ℕ} {heard late : Spared Item} (s : ℕ) → IsScript one.script → IsSoundNode one.script one.state → IsReady v spare → spare ≤ heard.spare + 130 → StartLeaves s one two heard late
    → 4 * v.script.config.buffer + 1 ≤ late.spare
release_room_left {v} {one} {two} {spare} {heard} {late} s script sound ready less leaves =
    let all = ready.room in
    let names = names_within one.script one s script sound.set_is in
    let spent = leaves.room in
    omega (arith, all, less, names, spent)

pub release_has_room : {v w : Standing} {spare : ℕ} (s left : ℕ) → IsSoundNode v.script v.state → IsReady v spare → ((t n : ℕ) → HasReleaseRoom n v t → HasReleaseRoom n w t) → kept_all w ≤ v.script.config.buffer → 4 * v.script.config.buffer ≤ left
    → HasReleaseRoom (2 + 2 * length (kept_of w.state.region.kept s)) w s × (4 * length (kept_of w.state.region.kept s) ≤ left)
release_has_room {v} {w} s left sound ready rooms few room =
    let fewer : length (kept_of w.state.region.kept s) ≤ kept_all w = kept_within w.state.region.kept s in (
      fewer_room (2 + 2 * v.script.config.buffer) (2 + 2 * length (kept_of w.state.region.kept s)) (omega (arith, few, fewer)) (rooms s (2 + 2 * v.script.config.buffer) (ready_room s sound ready)),
      omega (arith, few, fewer, room),
    )

-- ShardHome.

-- and at the end it is released
last_gave : (c : Script) (s : ℕ) (old new : Moment) → Gave c none (λ lists. release s old.node) old new → Gave c none (λ lists. all_in_turn (release s ∷ []) old.node) old new
last_gave c s old new g = gave_same c none (λ lists. release s old.node) (λ lists. all_in_turn (release s ∷ []) old.node) old new (λ lists. sym (append-nil (release s old.node))) g

pub home_gave : (c : Script) (s : ℕ) (h : Incarnation) (stamp : Stamp) (old heard started new : Moment) → takes_home s h stamp old.node.region ≡ true
    → Gave c none (λ lists. of_region (learn s h stamp) old.node) old heard
    → Gave c (asks_again s heard.node) (λ lists. start_home lists s heard.node) heard started
    → Gave c none (λ lists. release s started.node) started new
    → Gave c (asks_again s heard.node) (λ lists. rules.shard_home lists s h stamp old.node) old new
home_gave c s h stamp old heard started new e first second last =
    gave_same c (asks_again s heard.node) (λ lists. of_region (learn s h stamp) old.node ++ rest lists (fold after old.node (of_region (learn s h stamp) old.node))) (λ lists. rules.shard_home lists s h stamp old.node) old new
    (λ lists. if_so (takes_home s h stamp old.node.region) (of_region (learn s h stamp) old.node ++ rest lists (fold after old.node (of_region (learn s h stamp) old.node))) [] e)
    (gave_first c (asks_again s heard.node) (λ lists. of_region (learn s h stamp) old.node) rest old heard new
    (gave_keeps c none (asks_again s heard.node) (λ lists. of_region (learn s h stamp) old.node) old heard first (λ lists t a. frees_nothing t (learn s h stamp old.node.region))) first
    (gave_then c (asks_again s heard.node) (λ lists. start_home lists s heard.node) (λ lists. all_in_turn (release s ∷ [])) heard started new second (last_gave c s started new last)))
  where
    rest : SlotLists → Node → List Act
    rest lists = all_in_turn (start_home lists s ∷ release s ∷ [])

pub home_refused : (c : Script) (s : ℕ) (h : Incarnation) (stamp : Stamp) (now : Moment) → takes_home s h stamp now.node.region ≡ false → Rests now.meaning c now.node → Gave c none (λ lists. rules.shard_home lists s h stamp now.node) now now
home_refused c s h stamp now e rests = gave_same c none (λ lists. []) (λ lists. rules.shard_home lists s h stamp now.node) now now
    (λ lists. if_not (takes_home s h stamp now.node.region) (all_in_turn (of_region (learn s h stamp) ∷ start_home lists s ∷ release s ∷ []) now.node) [] e) (gave_nothing c now rests)

-- HostShard.

abbrev pub posts_started : ℕ → Incarnation → Node → List Act
posts_started s from st = by_region (post st.who from (body.ShardStarted s)) ∷ []

pub posted_rooms : {v w : Standing} {before late : Spared Item} (s : ℕ) (from : Incarnation) → Went v w before late (posts_started s from v.state) → (t n : ℕ) → HasReleaseRoom n v t → HasReleaseRoom n w t
posted_rooms {v} s from went = region_rooms_stay (post v.state.who from (body.ShardStarted s) ∷ []) went

-- what stands once it is told, and what that gave
pub record IsAnswered (m : Meaning) (s : ℕ) (from : Incarnation) (v w : Standing) (before late : Spared Item) : Type 0 where
  pub gave : Gave v.script none (λ lists. posts_started s from v.state) (moment m v.state before.items) (moment m w.state late.items)
  pub sound : IsSoundNode w.script w.state
  pub rests : Rests m w.script w.state

pub answered : (m : Meaning) {v w : Standing} {before late : Spared Item} (s : ℕ) (from : Incarnation) → RegionKeeps → IsScript v.script → IsSoundNode v.script v.state → is_shard v.script s ≡ true → is_node v.script from ≡ true → Rests m v.script v.state
    → Went v w before late (posts_started s from v.state) → IsAnswered m s from v w before late
answered m {v} {w} {before} {late} s from law script sound shard node rests went = record {
  gave = gave;
  sound = subst (λ c. IsSoundNode c w.state) (sym went.script_is) (subst (IsSoundNode v.script) (sym went.node_is) (answer_node v.script m.vouches v.state from (body.ShardStarted s) law script sound node shard).stands);
  rests = subst (λ c. Rests m c w.state) (sym went.script_is) gave.rests;
}
  where
    gave : Gave v.script none (λ lists. posts_started s from v.state) (moment m v.state before.items) (moment m w.state late.items)
    gave = region_gave m v w (post v.state.who from (body.ShardStarted s) ∷ []) before late sound.entities.set_is refl rests went

pub host_gave : (c : Script) (s : ℕ) (stamp : Stamp) (from : Incarnation) (old heard started told new : Moment) → started.node.region.who ≡ started.node.who → takes_host s stamp old.node.region ≡ true
    → Gave c none (λ lists. of_region (learn s old.node.who stamp) old.node) old heard
    → Gave c (asks_start s heard.node) (λ lists. start lists s heard.node) heard started
    → Gave c none (λ lists. posts_started s from started.node) started told
    → Gave c none (λ lists. release s told.node) told new
    → Gave c (asks_start s heard.node) (λ lists. rules.host_shard lists s stamp from old.node) old new
host_gave c s stamp from old heard started told new who e first second third last =
    gave_same c (asks_start s heard.node) (λ lists. learns ++ rest lists (fold after old.node learns)) (λ lists. rules.host_shard lists s stamp from old.node) old new
    (λ lists. if_so (takes_host s stamp old.node.region) (learns ++ rest lists (fold after old.node learns)) [] e)
    (gave_first c (asks_start s heard.node) (λ lists. learns) rest old heard new
    (gave_keeps c none (asks_start s heard.node) (λ lists. learns) old heard first (λ lists t a. frees_nothing t (learn s old.node.who stamp old.node.region))) first
    (gave_then c (asks_start s heard.node) (λ lists. start lists s heard.node) (λ lists. all_in_turn (tells ∷ release s ∷ [])) heard started new second
    (gave_then c none (λ lists. tells started.node) (λ lists. all_in_turn (release s ∷ [])) started told new tells_gave (last_gave c s told new last))))
  where
    learns : List Act
    learns = of_region (learn s old.node.who stamp) old.node

    tells : Node → List Act
    tells = of_region (λ (r : Region). post r.who from (body.ShardStarted s) ∷ [])

    rest : SlotLists → Node → List Act
    rest lists = all_in_turn (start lists s ∷ tells ∷ release s ∷ [])

    tells_gave : Gave c none (λ lists. tells started.node) started told
    tells_gave = gave_same c none (λ lists. posts_started s from started.node) (λ lists. tells started.node) started told (λ lists. ap (λ x. by_region (post x from (body.ShardStarted s)) ∷ []) (sym who)) third

pub host_refused : (c : Script) (s : ℕ) (stamp : Stamp) (from : Incarnation) (now : Moment) → takes_host s stamp now.node.region ≡ false → Rests now.meaning c now.node → Gave c none (λ lists. rules.host_shard lists s stamp from now.node) now now
host_refused c s stamp from now e rests = gave_same c none (λ lists. []) (λ lists. rules.host_shard lists s stamp from now.node) now now
    (λ lists. if_not (takes_host s stamp now.node.region) (all_in_turn (of_region (learn s now.node.who stamp) ∷ start lists s ∷ of_region (λ (r : Region). post r.who from (body.ShardStarted s) ∷ []) ∷ release s ∷ []) now.node) [] e) (gave_nothing c now rests)

-- The tick's part of a shard.

pub start_released : (c : Script) (s : ℕ) (old mid new : Moment) → Gave c (asks_start s old.node) (λ lists. start lists s old.node) old mid → Gave c none (λ lists. release s mid.node) mid new
    → Gave c (asks_start s old.node) (λ lists. all_in_turn (start lists s ∷ release s ∷ []) old.node) old new
start_released c s old mid new first last = gave_then c (asks_start s old.node) (λ lists. start lists s old.node) (λ lists. all_in_turn (release s ∷ [])) old mid new first (last_gave c s mid new last)

pub again_gave : (c : Script) (s : ℕ) (old new : Moment) → is_home old.node.region s ≡ true → is_hosted old.node.entities s ≡ false → Gave c (asks_start s old.node) (λ lists. all_in_turn (start lists s ∷ release s ∷ []) old.node) old new
    → Gave c (asks_again s old.node) (λ lists. rules.start_again lists s old.node) old new
again_gave c s old new home away g =
    gave_asked c (asks_start s old.node) (asks_again s old.node) (λ lists. rules.start_again lists s old.node) old new (λ t. ap (λ b. b && not (is_hosted old.node.entities s) && asks (slot.Shard s) t) (sym home))
    (gave_same c (asks_start s old.node) (λ lists. all_in_turn (start lists s ∷ release s ∷ []) old.node) (λ lists. rules.start_again lists s old.node) old new
    (λ lists. if_so (is_home old.node.region s && not (is_hosted old.node.entities s)) (all_in_turn (start lists s ∷ release s ∷ []) old.node) [] (ap (λ b. b && not (is_hosted old.node.entities s)) home ∙ ap not away)) g)

pub again_nothing : (c : Script) (s : ℕ) (now : Moment) → (is_home now.node.region s && not (is_hosted now.node.entities s)) ≡ false → Rests now.meaning c now.node → Gave c (asks_again s now.node) (λ lists. rules.start_again lists s now.node) now now
again_nothing c s now e rests =
    gave_asked c none (asks_again s now.node) (λ lists. rules.start_again lists s now.node) now now (λ t. ap (λ b. b && asks (slot.Shard s) t) (sym e))
    (gave_same c none (λ lists. []) (λ lists. rules.start_again lists s now.node) now now (λ lists. if_not (is_home now.node.region s && not (is_hosted now.node.entities s)) (all_in_turn (start lists s ∷ release s ∷ []) now.node) [] e) (gave_nothing c now rests))

pub again_has_room : {v w : Standing} {before late : Spared Item} (s : ℕ) → IsSoundNode v.script v.state → hosted v.state.entities s ≡ None → 1 + 2 * length (names_of v.state.set s) + 4 * kept_all v ≤ before.spare → StartLeaves s v w before late
    → HasReleaseRoom (2 + 2 * length (kept_of w.state.region.kept s)) w s × (4 * length (kept_of w.state.region.kept s) ≤ late.spare)
again_has_room {v} {w} {before} {late} s sound away room leaves =
    let fewer : length (kept_of w.state.region.kept s) ≤ kept_all w = kept_within w.state.region.kept s in
    let same : kept_all w ≡ kept_all v = ap (λ (r : Region). sum_by length r.kept) leaves.region_is in
    let spent = leaves.room in
    (leaves.rooms s (2 + 2 * length (kept_of w.state.region.kept s)) (away_room s (2 + 2 * length (kept_of w.state.region.kept s)) sound away), omega (arith, room, fewer, same, spent))

-- what it leaves
pub again_leaves : {v w x : Standing} {before mid late : Spared Item} (s k : ℕ) → IsSoundNode v.script v.state → hosted v.state.entities s ≡ None → StartLeaves s v w before mid → LeavesRoom s k w x → mid.spare + 4 * kept_all x ≤ late.spare + 4 * kept_all w → AgainLeaves s v x before late
again_leaves {v} {w} {x} {before} {mid} {late} s k sound away leaves last spent = record {
  rooms = λ t n room. by t n room (t == s) refl;
  room =
      let same : kept_all w ≡ kept_all v = ap (λ (r : Region). sum_by length r.kept) leaves.region_is in
      let first = leaves.room in
      omega (arith, spent, same, first);
}
  where
    by : (t n : ℕ) → HasReleaseRoom n v t → (b : Bool) → (t == s) ≡ b → HasReleaseRoom n x t
    by t n room true e =
        subst (HasReleaseRoom n x) (sym (same_number t s e))
        (fewer_room (2 + n) n (omega arith) (last.here n (leaves.rooms s (2 + (n + 2 * k)) (away_room s (2 + (n + 2 * k)) sound away))))
    by t n room false e = last.others t n (other_number t s e) (leaves.rooms t n room)

pub again_same : {v : Standing} {before : Spared Item} (s : ℕ) → AgainLeaves s v v before before
again_same s = record { rooms = λ t n room. room; room = omega arith }
