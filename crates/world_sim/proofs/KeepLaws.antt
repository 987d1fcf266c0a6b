-- Steps of the world keep what stands.
use Rattle.std.proofs.Common.{◌≡◌, ℕ, [], ◌∷◌, ◌++◌, refl, ap, sym, ◌∙◌, subst}
use Rattle.std.specs.Prelude.{true, false, ◌==◌, ◌&&◌, ◌||◌, Some, List, fold, map}
use Rattle.yard_model.specs.declared.fact.Fact.{Fact}
use Rattle.yard_model.specs.declared.fact.Fact.TheVariants as fact
use Rattle.yard_model.specs.declared.charter.Line.{Line}
use Rattle.yard_model.specs.declared.charter.Order.{Order}
use Rattle.yard_model.specs.declared.charter.Order.TheVariants as order
use Rattle.yard_model.specs.declared.input.Input.TheVariants as input
use Rattle.yard_model.specs.Behaviour.{is_in}
use Rattle.yard_model.specs.Era.{Era, era_step, era_of, first_era, opening_of}
use Rattle.yard_model.specs.Script.{Script, IsScript, Setting, setting, with_shards}
use Rattle.yard_model.specs.Setting.{producers}
use Rattle.yard_model.specs.Words.{numbers}
use Rattle.yard_model.specs.World as world
use Rattle.yard_model.specs.World.{World, Made, with_order, node_at, wire_limit}
use Rattle.play_laws.specs.Played.{PlayedIsSound, is_played}
use Rattle.play_laws.specs.Sound.{Sound, AreQueued, LeadsOn}
use Rattle.play_laws.proofs.Handled.{Laws}
use Rattle.plain_laws.proofs.Booleans.{both}
use Rattle.play_laws.proofs.Confirming.{sound_if, sound_drains, sound_settles, settle_leads_if}
use Rattle.play_laws.proofs.Lines as lines
use Rattle.play_laws.proofs.Lines.{line_on}
use Rattle.play_laws.proofs.Orders.{all_lead, at_place, deliver_leads_if, downs_lead_if, drain_leads, drain_leads_if, give_leads, produce_leads, producers_are, produces_lead_if, ticks_lead}
use Rattle.play_laws.proofs.Steps.{LeadsIf, Leads, then_leads, heard, come_up_leads, go_down_leads, ordered_sound}
use Rattle.world_sim.specs.Keeps.{Keeps}
use Rattle.world_sim.specs.Played.{made_of}
use Rattle.world_sim.specs.Stands.{Stands}
use Rattle.world_sim.proofs.StepLaws.{if_false}
use Rattle.world_sim.specs.Steps.{given, marked, ticked, all_down, all_taken, resharded}

stands_by : (c : Script) (w : World) (m : Made) → LeadsIf ⊥ c w m → Stands c w → Stands c m.world
stands_by c w m leads s = record { trace = s.trace ++ m.facts; sound = leads s.trace s.sound }

-- where all that is recorded is queued, it is sound
sound_of : (c : Script) (w : World) (s : Stands c w) → AreQueued c w.lists → Sound c s.trace w
sound_of c w s q = sound_if c s.trace w (λ t. q) s.sound

of_sound : (c : Script) (trace : List Fact) (w : World) → Sound c trace w → Stands c w
of_sound c trace w s = record { trace = trace; sound = sound_if c trace w (λ t. absurd t) s }

-- so is what such a step leads to
backed_by : (c : Script) (w : World) (m : Made) → Leads c w m → Stands c w → AreQueued c w.lists → Stands c m.world × AreQueued c m.world.lists
backed_by c w m leads s q =
    let k : Sound c (s.trace ++ m.facts) m.world = leads s.trace (sound_of c w s q) in
    (of_sound c (s.trace ++ m.facts) m.world k, k.queued_are tt)

-- once its order is noted
pub stands_noted : (c : Script) (o : Order) (w : World) → Stands c w → Stands c (with_order (Some o) w)
stands_noted c o w s = record { trace = s.trace; sound = ordered_sound c s.trace (Some o) w s.sound }

-- the script of an era is the first one's with another number of shards
era_script : (c : Script) (fs : List Fact) (era : Era) → era.script ≡ with_shards era.script.config.shards c → (fold era_step era fs).script ≡ with_shards (fold era_step era fs).script.config.shards c
era_script c [] era e = e
era_script c (f ∷ fs) era e = era_script c fs (era_step era f) (one f)
  where
    one : (f : Fact) → (era_step era f).script ≡ with_shards (era_step era f).script.config.shards c
    one (fact.Reshard n k) = ap (with_shards n) e
    one f = e

-- so it is the one with the setting in force
played_in : PlayedIsSound → (c d : Script) (n : ℕ) → IsScript c → d ≡ with_shards d.config.shards c → (made_of c n).world.set ≡ setting d → Sound d (era_of c (made_of c n).facts).trace (made_of c n).world
played_in played c d n script e set =
    let k : LeadsOn (first_era c) (made_of c n) = played c wire_limit n script in
    let end : Era = fold era_step (first_era c) (made_of c n).facts in
    let shards : end.script.config.shards ≡ d.config.shards = ap (λ (x : Setting). x.config.shards) (sym k.sound.set_is ∙ set) in
    let same : end.script ≡ d = era_script c (made_of c n).facts (first_era c) refl ∙ (ap (λ m. with_shards m c) shards ∙ sym e) in
    subst (λ x. Sound x end.trace (made_of c n).world) same k.sound

-- after another number of shards
reshard_stands : Laws → (c : Script) (w : World) (n : ℕ) → is_in 1 128 n ≡ true → world.is_any_up w ≡ false → (n == w.set.config.shards) ≡ false → w.full ≡ false → Stands c w → AreQueued c w.lists → Stands (with_shards n c) (resharded n w).world
reshard_stands laws c w n fits quiet other going s q =
    let o : Order = order.Reshard n in
    let l : Line = record { number = 0; order = o } in
    let era : Era = record { script = c; trace = s.trace } in
    let m : Made = world.tell (fact.At 0 ∷ []) w in
    let is : Made = record { facts = fact.At 0 ∷ fact.Reshard n (world.greatest_epoch w.lists) ∷ []; world = (resharded n w).world } in
    let played : is_played c o ≡ true = both (is_in 1 128 n && true) true (both (is_in 1 128 n) true fits refl) refl in
    let same : world.play_line l w ≡ is =
    ap (λ b. elim b as (λ b. Made) [ true ↦ m | false ↦ let x : Made = world.play o m.world in record { facts = m.facts ++ x.facts; world = x.world } ]) going
    ∙ ap (λ (x : Made). record { facts = fact.At 0 ∷ x.facts; world = x.world }) (sym (if_false (world.is_any_up w || (n == w.set.config.shards)) (world.nothing w) (resharded n w) (ap (λ b. b || (n == w.set.config.shards)) quiet ∙ other))) in
    let k : LeadsOn era is = subst (LeadsOn era) same (line_on laws l w era played (sound_of c w s q)) in
    of_sound (with_shards n c) (fold era_step era is.facts).trace (resharded n w).world k.sound

tick_leads : {T : Type 0} → Laws → (c : Script) (w : World) (n : ℕ) → LeadsIf T c w (given n input.Tick w)
tick_leads laws c w n = give_leads laws c w input.Tick (node_at w n) (at_place w n) (λ trace s st j e. tt) tt

ticked_leads : Laws → (c : Script) (w : World) (from bound : ℕ) → Leads c w (ticked from bound w)
ticked_leads laws c w from bound = then_leads c w (given 1 input.Tick w) (world.drain from bound) (tick_leads laws c w 1) (λ e. drain_leads laws c from bound (given 1 input.Tick w).world)

pub keeps : Laws → PlayedIsSound → Keeps
keeps laws played = record {
  plays = λ c d n script e set. of_sound d (era_of c (made_of c n).facts).trace (made_of c n).world (played_in played c d n script e set);
  plays_queued = λ c d n script e set. (played_in played c d n script e set).queued_are tt;
  gives = λ c version lists script g. record { trace = opening_of version lists; sound = lines.given_stands laws c version lists script g.admitted g.lawful_is g.unheld };
  settles = λ c w may s. record { trace = s.trace ++ (world.settle w).facts; sound = settle_leads_if laws c w may s.trace s.sound };
  reshards = reshard_stands laws;
  marks = λ c w k. stands_by c w (marked k w) (heard laws c w (fact.Got k) refl refl);
  delivers = λ c w k may. stands_by c w (world.deliver k w) (deliver_leads_if laws c w k may);
  drains = λ c w from n may. stands_by c w (world.drain from n w) (drain_leads_if laws c from n w may);
  produces = λ c w p n producer. stands_by c w (given n (input.Produce p) w) (give_leads laws c w (input.Produce p) (node_at w n) (at_place w n) (λ trace s st j e. producer) tt);
  sends = λ c w p n producer. stands_by c w (given n (input.Send p) w) (give_leads laws c w (input.Send p) (node_at w n) (at_place w n) (λ trace s st j e. producer) tt);
  takes = λ c w p n producer. stands_by c w (world.produce p n w) (produce_leads laws c p n w producer);
  ticks = λ c w n. stands_by c w (given n input.Tick w) (tick_leads laws c w n);
  ticks_one = λ c w from bound q s. (backed_by c w (ticked from bound w) (ticked_leads laws c w from bound) s q).0;
  goes_down = λ c w n. stands_by c w (world.go_down n w) (go_down_leads laws c w n);
  comes_up = λ c w n node down. stands_by c w (world.come_up n w) (come_up_leads laws c w n node down);
  downs = λ c w. stands_by c w (all_down c w) (all_lead c (map world.go_down (numbers 1 c.config.nodes)) w (downs_lead_if ⊥ laws c (numbers 1 c.config.nodes)));
  takes_all = λ c w. stands_by c w (all_taken c w) (all_lead c (map (λ p. world.produce p 1) (producers (setting c))) w (produces_lead_if ⊥ laws c 1 (producers (setting c)) (producers_are c)));
  ticks_on = λ c w from bound n q s. (backed_by c w (world.tick_while_left from bound n w) (ticks_lead laws c from bound n w) s q).0;
  lets_drain = λ c w from n s q. sound_drains laws c from n s.trace w (sound_of c w s q);
  lets_settle = λ c w from bound s q. sound_settles laws c from bound s.trace w (sound_of c w s q);
  backs_drain = λ c w from n s q. (backed_by c w (world.drain from n w) (drain_leads laws c from n w) s q).1;
  backs_tick = λ c w n s q. (backed_by c w (given n input.Tick w) (tick_leads laws c w n) s q).1;
  backs_ticked = λ c w from bound s q. (backed_by c w (ticked from bound w) (ticked_leads laws c w from bound) s q).1;
}
