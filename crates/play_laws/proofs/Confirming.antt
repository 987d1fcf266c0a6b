-- Where all that is recorded is queued, a settling may hand over each of its packets.
use Rattle.std.proofs.Common.{◌≡◌, ℕ, zero, suc, List, [], ◌∷◌, ◌++◌, length, map, filter, nat_lt, sym, subst}
use Rattle.std.specs.Prelude.{nat_le, None}
use Rattle.yard_model.specs.declared.fact.Fact.{Fact}
use Rattle.yard_model.specs.Script.{Script, Setting, setting}
use Rattle.yard_model.specs.Setting.{producers}
use Rattle.yard_model.specs.Words.{numbers, at}
use Rattle.yard_model.specs.World as world
use Rattle.yard_model.specs.World.{World, Made, Step, in_order, settle_bound}
use Rattle.plain_laws.proofs.Booleans.{and_both, at_most}
use Rattle.node_laws.specs.Cluster.{IsMember}
use Rattle.play_laws.specs.Confirming.{MayNext, MayDrain, MayTakeAll, MayBegin, MaySettle}
use Rattle.play_laws.specs.Played.{SettleStands}
use Rattle.play_laws.specs.Sound.{SoundIf, Sound, AreQueued}
use Rattle.play_laws.proofs.Handled.{Laws}
use Rattle.play_laws.proofs.Orders.{AllLead, all_lead, deliver_leads, downs_empty, downs_lead, downs_lead_if, drain_leads, drain_leads_if, end_leads, first_node, may_deliver, producers_are, produces_lead, produces_lead_if, ticks_lead}
use Rattle.play_laws.proofs.Steps.{LeadsIf, then_leads, come_up_leads}

-- the same with another premise for what is queued
pub sound_if : {S T : Type 0} → (c : Script) (trace : List Fact) (w : World) → (T → AreQueued c w.lists) → SoundIf S c trace w → SoundIf T c trace w
sound_if c trace w q s = record {
  script_is = s.script_is;
  set_is = s.set_is;
  behaviour_is = s.behaviour_is;
  admitted = s.admitted;
  sends_are = s.sends_are;
  nodes_there = s.nodes_there;
  ups_there = s.ups_there;
  lists_are = s.lists_are;
  cluster = s.cluster;
  members_are = s.members_are;
  members_different = s.members_different;
  are_members = s.are_members;
  given_are = s.given_are;
  numbered_are = s.numbered_are;
  queued_are = q;
  carries = s.carries;
  wire_is = s.wire_is;
}

pub sound_drains : Laws → (c : Script) (from n : ℕ) (trace : List Fact) (w : World) → Sound c trace w → MayDrain c from n w
sound_drains laws c from zero trace w s = tt
sound_drains laws c from (suc n) trace w s = by (filter (nat_lt from) w.fresh) (sound_drains laws c from n)
  where
    by : (ks : List ℕ) → ((trace : List Fact) (w : World) → Sound c trace w → MayDrain c from n w) → MayNext c w (MayDrain c from n) ks
    by [] rest = tt
    by (k ∷ ks) rest = (may_deliver c w k (s.queued_are tt), λ full. rest (trace ++ (world.deliver k w).facts) (world.deliver k w).world (deliver_leads laws c w k trace s))

sound_takes : Laws → (c : Script) (trace : List Fact) (w : World) → Sound c trace w → MayTakeAll c w
sound_takes laws c trace w s full =
    let v : Sound c (trace ++ (in_order (map (λ p. world.produce p 1) (producers (setting c))) w).facts) (in_order (map (λ p. world.produce p 1) (producers (setting c))) w).world =
    all_lead c (map (λ p. world.produce p 1) (producers (setting c))) w (produces_lead laws c 1 (producers (setting c)) (producers_are c)) trace s in
    v.queued_are tt

sound_begins : Laws → (c : Script) (from bound : ℕ) (trace : List Fact) (w : World) → Sound c trace w → MayBegin c from bound w
sound_begins laws c from bound trace w s = (sound_drains laws c from bound trace w s, λ full. sound_takes laws c (trace ++ (world.drain from bound w).facts) (world.drain from bound w).world (drain_leads laws c from bound w trace s))

pub sound_settles : Laws → (c : Script) (from bound : ℕ) (trace : List Fact) (w : World) → Sound c trace w → MaySettle c from bound w
sound_settles laws c from bound trace w s full =
    let m : Made = in_order (map world.go_down (numbers 1 c.config.nodes)) w in
    let v : Sound c (trace ++ m.facts) m.world = all_lead c (map world.go_down (numbers 1 c.config.nodes)) w (downs_lead laws c (numbers 1 c.config.nodes)) trace s in
    let none : at m.world.nodes 0 ≡ None = downs_empty c.config.nodes w (at_most 1 c.config.nodes (and_both (nat_le 1 1) (nat_le 1 c.config.nodes) (first_node c s.script_is)).1)
    (λ k st e. let me : IsMember c trace k st = s.cluster.members k st e in me.node_is) in
    sound_begins laws c from bound ((trace ++ m.facts) ++ (world.come_up 1 m.world).facts) (world.come_up 1 m.world).world (come_up_leads laws c m.world 1 (first_node c s.script_is) none (trace ++ m.facts) v)

-- A settle of which that is so, too.

-- the steps of a settle for these settings
abbrev pub settle_of : Setting → ℕ → ℕ → Step
settle_of set from bound = in_order (
    in_order (map world.go_down (numbers 1 set.config.nodes))
    ∷ world.come_up 1
    ∷ world.drain from bound
    ∷ in_order (map (λ p. world.produce p 1) (producers set))
    ∷ world.drain from bound
    ∷ world.tick_while_left from bound bound
    ∷ world.settle_end from
    ∷ [])

-- from where every queue is taken, all that is recorded is queued
backed_lead : Laws → (c : Script) (from bound : ℕ) (w : World) → AreQueued c w.lists → LeadsIf ⊥ c w (in_order (world.drain from bound ∷ world.tick_while_left from bound bound ∷ world.settle_end from ∷ []) w)
backed_lead laws c from bound w q trace s =
    let qs : List Step = world.drain from bound ∷ world.tick_while_left from bound bound ∷ world.settle_end from ∷ [] in
    let all : AllLead c qs = (drain_leads laws c from bound, (ticks_lead laws c from bound bound, (end_leads laws c from, tt))) in
    sound_if c (trace ++ (in_order qs w).facts) (in_order qs w).world (λ t. absurd t) (all_lead c qs w all trace (sound_if c trace w (λ t. q) s))

settle_of_leads : Laws → (c : Script) (from bound : ℕ) (w : World) → MaySettle c from bound w → LeadsIf ⊥ c w (settle_of (setting c) from bound w)
settle_of_leads laws c from bound w may trace s =
    then_leads c w m (in_order (world.come_up 1 ∷ rest1)) (all_lead c (map world.go_down (numbers 1 c.config.nodes)) w (downs_lead_if ⊥ laws c (numbers 1 c.config.nodes)))
    (λ e. then_leads c m.world u (in_order rest1) (come_up_leads laws c m.world 1 (first_node c s.script_is) none)
    (λ f. then_leads c u.world (world.drain from bound u.world) (in_order rest2) (drain_leads_if laws c from bound u.world (may f).0)
    (λ g. then_leads c x (in_order takes x) (in_order rest3) (all_lead c takes x (produces_lead_if ⊥ laws c 1 (producers (setting c)) (producers_are c)))
    (λ h. backed_lead laws c from bound (in_order takes x).world ((may f).1 g h))))) trace s
  where
    m : Made
    m = in_order (map world.go_down (numbers 1 c.config.nodes)) w

    u : Made
    u = world.come_up 1 m.world

    x : World
    x = (world.drain from bound u.world).world

    takes : List Step
    takes = map (λ p. world.produce p 1) (producers (setting c))

    rest3 : List Step
    rest3 = world.drain from bound ∷ world.tick_while_left from bound bound ∷ world.settle_end from ∷ []

    rest2 : List Step
    rest2 = in_order takes ∷ rest3

    rest1 : List Step
    rest1 = world.drain from bound ∷ rest2

    none : at m.world.nodes 0 ≡ None
    none = downs_empty c.config.nodes w (at_most 1 c.config.nodes (and_both (nat_le 1 1) (nat_le 1 c.config.nodes) (first_node c s.script_is)).1)
        (λ k st e. let me : IsMember c trace k st = s.cluster.members k st e in me.node_is)

pub settle_leads_if : Laws → (c : Script) (w : World) → MaySettle c (length w.wire) (settle_bound w) w → LeadsIf ⊥ c w (world.settle w)
settle_leads_if laws c w may trace s =
    subst (λ set. SoundIf ⊥ c (trace ++ (settle_of set (length w.wire) (settle_bound w) w).facts) (settle_of set (length w.wire) (settle_bound w) w).world) (sym s.set_is) (settle_of_leads laws c (length w.wire) (settle_bound w) w may trace s)

pub settle_stands : Laws → SettleStands
settle_stands laws c trace w may s = settle_leads_if laws c w may trace s
