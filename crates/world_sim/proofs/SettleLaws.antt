-- The settling: its steps, one after the other.
use Rattle.std.proofs.Common.{◌≡◌, ℕ, zero, suc, ◌+◌, ◌-◌, ◌≤◌, true, false, List, [], ◌∷◌, ◌++◌, length, refl, ap, sym, ◌∙◌, subst, arith}
use Rattle.std.specs.Prelude.{Bool, map, Option, Some, None, is_none, Result, OnOk, OnErr}
use Rattle.std.specs.List.{list_any}
use Rattle.yard_model.specs.declared.fact.Fact.{Fact}
use Rattle.yard_model.specs.declared.fact.Fact.TheVariants as fact
use Rattle.yard_model.specs.declared.input.Input.TheVariants as input
use Rattle.yard_model.specs.Behaviour.{is_in}
use Rattle.yard_model.specs.Node.{Node}
use Rattle.yard_model.specs.Script.{Script, IsScript, Setting}
use Rattle.yard_model.specs.Setting.{producers}
use Rattle.yard_model.specs.Words.{numbers, at}
use Rattle.yard_model.specs.World as world
use Rattle.yard_model.specs.World.{World, Made, Step, tell, then_step, in_order, go_down, produce, node_at, is_left}
use Rattle.node_laws.specs.Cluster.{IsMember}
use Rattle.plain_laws.proofs.Booleans.{true_is_not_false}
use Rattle.plain_laws.proofs.Lists.{none_of}
use Rattle.play_laws.proofs.Orders.{downs_empty, first_node}
use Rattle.world_sim.specs.Keeps.{Keeps}
use Rattle.world_sim.specs.Stepped.{IsWhole, Stepped}
use Rattle.world_sim.specs.Steps.{given, ticked, all_down, settled_by, ended}
use Rattle.world_sim.specs.Yard.{Yard, IsSeen, IsSound, IsSoundTo, IsBacked, ComesUp, SettlesBy, Settles, MayGive, Goes, state_in}
use Rattle.node_core.specs.Standing.{Standing}
use Rattle.world_sim.proofs.EndLaws.{go_down_full, none_kept}
use Rattle.world_sim.proofs.LoopLaws.{KeepsOf, IsNextOf, order_one, sound_after}
use Rattle.world_sim.proofs.RestsLaws.{member}
use Rattle.world_sim.proofs.StepLaws.{goes_still, counts_same, step_as, step_then, step_told, if_true, if_false}
use Rattle.world_sim.proofs.UpLaws.{node_kept, node_within}

-- Every node goes down.

abbrev pub downs : List ℕ → Step
downs ns = in_order (map go_down ns)

-- a node that goes down fills no wire
pub down_going : (y z : Yard) (n : ℕ) (before after : List Fact) → IsWhole IsSound 1 (go_down n) y z before after → (w : World) × IsSound y w → z.mail.full ≡ false
down_going y z n before after s r = (s.goes r.0 r.1).seen_is.full_is ∙ (go_down_full r.0 n ∙ r.1.going_is)

pub downs_next : (y : Yard) (i n left rest : ℕ) → n ≡ i + 1 → left ≡ suc rest → IsNextOf IsSound downs y (go_down n) (numbers (i + 1) left) (numbers (i + 1 + 1) rest)
downs_next y i n left rest e f = λ w s. ap (λ k. then_step (go_down k w) (downs (numbers (i + 1 + 1) rest))) e ∙ ap (λ k. downs (numbers (i + 1) k) w) (sym f)

pub downs_done : (i left : ℕ) (w : World) → left ≡ 0 → tell [] w ≡ downs (numbers (i + 1) left) w
downs_done i left w e = ap (λ k. downs (numbers (i + 1) k) w) (sym e)

downs_full : (ns : List ℕ) (w : World) → (downs ns w).world.full ≡ w.full
downs_full [] w = refl
downs_full (n ∷ ns) w = by (go_down n w).world.full (downs_full ns (go_down n w).world)
  where
    m : Made
    m = go_down n w

    by : (b : Bool) → (downs ns m.world).world.full ≡ m.world.full → (elim b as (λ b. Made) [ true ↦ m | false ↦ let x : Made = downs ns m.world in record { facts = m.facts ++ x.facts; world = x.world } ]).world.full ≡ w.full
    by true rest = go_down_full w n
    by false rest = rest ∙ go_down_full w n

-- after it no node is up, and the world is sound
pub all_down_sound : Keeps → (y z : Yard) (before after : List Fact) → IsWhole IsSound 16 (all_down y.script) y z before after → (w : World) → IsSound y w → Goes before after z (all_down y.script w) → ((all_down y.script w).world.full ≡ false) × IsSound z (all_down y.script w).world
all_down_sound keeps y z before after s w k g =
    let going : (all_down y.script w).world.full ≡ false = downs_full (numbers 1 y.script.config.nodes) w ∙ k.going_is in
    sound_after y z (all_down y.script) w before after s.script_is (keeps.downs y.script w k.stands_is) (g.seen_is.full_is ∙ going) g

-- so node 1 may come up
pub all_down_to : Keeps → (from bound : ℕ) (y z : Yard) (before after : List Fact) → IsWhole IsSound 16 (all_down y.script) y z before after → (w : World) → IsSoundTo (SettlesBy from bound) y w → Goes before after z (all_down y.script w)
    → ((all_down y.script w).world.full ≡ false) × IsSoundTo (ComesUp from bound) z (all_down y.script w).world
all_down_to keeps from bound y z before after s w k g =
    let on : ((all_down y.script w).world.full ≡ false) × IsSound z (all_down y.script w).world = all_down_sound keeps y z before after s w k.sound g in
    (on.0, record { sound = on.1; may = subst (λ c. ComesUp from bound c (all_down y.script w).world) (sym s.script_is) k.may })

some_node : (c : Script) → IsScript c → 1 ≤ c.config.nodes
some_node c script = (node_within 1 c.config.nodes (first_node c script)).1

state_none : (o : Option Standing) → state_in o ≡ None → o ≡ None
state_none None e = refl
state_none (Some v) e = absurd (true_is_not_false (sym (ap is_none e)))

pub first_down : (y z : Yard) (w : World) (before after : List Fact) → IsSound y w → Goes before after z (all_down y.script w) → at z.nodes 0 ≡ None
first_down y z w before after k g =
    let placed : (j : ℕ) (st : Node) → at w.nodes j ≡ Some st → st.who.node ≡ j + 1 = λ j st e. let u : IsMember y.script k.stands_is.trace j st = member y.script w j st k.stands_is e in u.node_is in
    state_none (at z.nodes 0) (sym (node_kept z (all_down y.script w).world 0 g.seen_is) ∙ downs_empty y.script.config.nodes w (some_node y.script k.stands_is.sound.script_is) placed)

-- Node 1 comes up.

pub come_keeps : Keeps → (y : Yard) → at y.nodes 0 ≡ None → KeepsOf y (world.come_up 1)
come_keeps keeps y down = λ w s. keeps.comes_up y.script w 1 (first_node y.script s.stands_is.sound.script_is) (node_kept y w 0 s.seen_is ∙ ap state_in down) s.stands_is

pub first_in : (y : Yard) → (w : World) × IsSound y w → is_in 1 y.script.config.nodes 1 ≡ true
first_in y r = first_node y.script r.1.stands_is.sound.script_is

-- It takes the queues.

abbrev pub takes : List ℕ → Step
takes ps = in_order (map (λ p. produce p 1) ps)

pub takes_next : (y : Yard) (i p left rest : ℕ) → p ≡ i + 1 → left ≡ suc rest → IsNextOf IsSound takes y (produce p 1) (numbers (i + 1) left) (numbers (i + 1 + 1) rest)
takes_next y i p left rest e f = λ w s. ap (λ k. then_step (produce k 1 w) (takes (numbers (i + 1 + 1) rest))) e ∙ ap (λ k. takes (numbers (i + 1) k) w) (sym f)

pub takes_done : (i left : ℕ) (w : World) → left ≡ 0 → tell [] w ≡ takes (numbers (i + 1) left) w
takes_done i left w e = ap (λ k. takes (numbers (i + 1) k) w) (sym e)

-- Ticks.

pub may_tick : (y : Yard) (w : World) (n : ℕ) → 1 ≤ n → is_none (at y.nodes (n - 1)) ≡ false → IsSound y w → MayGive input.Tick n y w
may_tick y w n some up s = record { stands_at = record { sound = s; some = some; up = up }; offered = λ st e. record { addressed = tt; may = tt } }

pub tick_given : {E : Type 0} (y new : Yard) (n : ℕ) (r : Result (Unit {0}) E) (before after : List Fact) → n ≡ 1 → is_none (at y.nodes (n - 1)) ≡ false → Stepped (MayGive input.Tick n) 0 (given n input.Tick) r y new before after → Stepped IsSound 0 (given 1 input.Tick) r y new before after
tick_given y new n r before after e up s = step_as (MayGive input.Tick n) IsSound 0 0 (given n input.Tick) (given 1 input.Tick) r y new before after (omega arith) (λ w k. (may_tick y w n (omega (arith, e)) up k, ap (λ j. given j input.Tick w) e)) s

pub tick_none : (y : Yard) (n : ℕ) (before : List Fact) → n ≡ 1 → is_none (at y.nodes (n - 1)) ≡ true → IsWhole IsSound 0 (given 1 input.Tick) y y before before
tick_none y n before e down = record {
  script_is = refl;
  counts = counts_same y y 0 refl refl;
  goes = λ w s.
      let none : node_at w 1 ≡ None = ap (λ j. node_at w j) (sym e) ∙ none_of (node_at w n) (none_kept y w n true s.seen_is down) in
      subst (λ o. Goes before before y (world.give input.Tick o w)) (sym none) (goes_still y w before s.seen_is);
}

pub ticks_next : (y : Yard) (from bound left rest : ℕ) → left ≡ suc rest → ((w : World) → IsBacked y w → list_any (is_left w) (producers w.set) ≡ true) → IsNextOf IsBacked (world.tick_while_left from bound) y (ticked from bound) left rest
ticks_next y from bound left rest e h = λ w s.
    ap (λ b. elim b as (λ b. Made) [ false ↦ tell [] w | true ↦ then_step (then_step (world.give input.Tick (node_at w 1) w) (world.drain from bound)) (world.tick_while_left from bound rest) ]) (sym (h w s))
    ∙ ap (λ k. world.tick_while_left from bound k w) (sym e)

-- where nothing is left, or no tick
pub ticks_done : (from bound left : ℕ) (w : World) → list_any (is_left w) (producers w.set) ≡ false → tell [] w ≡ world.tick_while_left from bound left w
ticks_done from bound zero w h = refl
ticks_done from bound (suc n) w h =
    ap (λ b. elim b as (λ b. Made) [ false ↦ tell [] w | true ↦ then_step (then_step (world.give input.Tick (node_at w 1) w) (world.drain from bound)) (world.tick_while_left from bound n) ]) (sym h)

pub ticks_none : (from bound left : ℕ) (w : World) → left ≡ 0 → tell [] w ≡ world.tick_while_left from bound left w
ticks_none from bound left w e = ap (λ k. world.tick_while_left from bound k w) (sym e)

-- The end.

pub not_settled : (y : Yard) (from : ℕ) (before : List Fact) → ((w : World) → IsSound y w → world.is_unsettled from w ≡ true) → IsWhole IsSound 1 (world.settle_end from) y y before before
not_settled y from before h = record {
  script_is = refl;
  counts = counts_same y y 1 refl refl;
  goes = λ w s. subst (Goes before before y) (if_true (world.is_unsettled from w) (tell [] w) (ended w) (h w s)) (goes_still y w before s.seen_is);
}

pub is_settled : {E : Type 0} (y new : Yard) (from : ℕ) (r : Result (Unit {0}) E) (before after : List Fact) → ((w : World) → IsSound y w → world.is_unsettled from w ≡ false) → Stepped IsSound 1 ended r y new before after → Stepped IsSound 1 (world.settle_end from) r y new before after
is_settled y new from r before after h s = step_as IsSound IsSound 1 1 ended (world.settle_end from) r y new before after (omega arith) (λ w k. (k, if_false (world.is_unsettled from w) (tell [] w) (ended w) (h w k))) s

abbrev told_settled : Step
told_settled = in_order (tell (fact.Settled ∷ []) ∷ [])

pub ended_stepped : {E : Type 0} (y z : Yard) (n : ℕ) (r : Result (Unit {0}) E) (before between after : List Fact) → n ≡ 1 → IsWhole IsSound 1 (go_down n) y z before between → OnOk r (after ≡ between ++ fact.Settled ∷ []) → OnErr r (after ≡ between) → Stepped IsSound 1 ended r y z before after
ended_stepped y z n r before between after e s ok err =
    step_then IsSound IsSeen 1 0 (go_down 1) told_settled r y z z before between after (subst (λ k. IsWhole IsSound 1 (go_down k) y z before between) e s)
    (λ w k g. (go_down_full w 1 ∙ k.going_is, g.seen_is))
    (step_told IsSeen 0 told_settled r z between after fact.Settled ok err (λ w k. subst (Goes between (between ++ fact.Settled ∷ []) z) (order_one (tell (fact.Settled ∷ [])) w) (record { seen_is = k; facts_are = refl })))

-- The whole, from what was posted and the budget.

settle_is : (y : Yard) (w : World) (from bound : ℕ) → from ≡ length y.mail.packets → bound ≡ world.settle_bound w → IsSound y w → settled_by y.script from bound w ≡ world.settle w
settle_is y w from bound e f s =
    ap (λ k. settled_by y.script k bound w) (e ∙ ap length s.seen_is.wire_is)
    ∙ (ap (λ k. settled_by y.script (length w.wire) k w) f
    ∙ ap (λ (set : Setting). by_setting set (length w.wire) (world.settle_bound w) w) (sym s.seen_is.set_is))
  where
    by_setting : Setting → ℕ → ℕ → Step
    by_setting set from bound = in_order (
        in_order (map go_down (numbers 1 set.config.nodes))
        ∷ world.come_up 1
        ∷ world.drain from bound
        ∷ in_order (map (λ p. produce p 1) (producers set))
        ∷ world.drain from bound
        ∷ world.tick_while_left from bound bound
        ∷ world.settle_end from
        ∷ [])

-- the numbers are those of the world
pub settles_by : (y : Yard) (w : World) (from bound : ℕ) → from ≡ length y.mail.packets → bound ≡ world.settle_bound w → IsSoundTo Settles y w → IsSoundTo (SettlesBy from bound) y w
settles_by y w from bound e f s = record {
  sound = s.sound;
  may = subst (λ k. SettlesBy k bound y.script w) (sym (e ∙ ap length s.sound.seen_is.wire_is)) (subst (λ k. SettlesBy (length w.wire) k y.script w) (sym f) s.may);
}

pub settle_stepped : {E : Type 0} (y new : Yard) (from bound : ℕ) (r : Result (Unit {0}) E) (before after : List Fact) → from ≡ length y.mail.packets → ((w : World) → IsSound y w → bound ≡ world.settle_bound w)
    → Stepped (IsSoundTo (SettlesBy from bound)) 18 (settled_by y.script from bound) r y new before after → Stepped (IsSoundTo Settles) 18 world.settle r y new before after
settle_stepped y new from bound r before after e f s =
    step_as (IsSoundTo (SettlesBy from bound)) (IsSoundTo Settles) 18 18 (settled_by y.script from bound) world.settle r y new before after (omega arith) (λ w k. (settles_by y w from bound e (f w k.sound) k, settle_is y w from bound e (f w k.sound) k.sound)) s
