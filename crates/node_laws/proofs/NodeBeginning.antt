-- A node that comes up.
use Rattle.std.proofs.Common.{◌-◌, length, sym, ap, ◌∙◌, refl, true≢false}
use Rattle.std.specs.Prelude.{not, None, is_none}
use Rattle.std.proofs.lemmas.List.{length-replicate}
use Rattle.yard_model.specs.declared.input.Phase.TheVariants as phase
use Rattle.yard_model.specs.Entities.{Cell, new_cell, is_phase}
use Rattle.yard_model.specs.Script.{names_in, setting}
use Rattle.yard_model.specs.Setting.{place}
use Rattle.actor_laws.specs.Owes.{has_name}
use Rattle.actor_laws.specs.EntitiesStand.{NewEntitiesStand}
use Rattle.actor_laws.specs.RegionStands.{RegionBegins}
use Rattle.node_laws.specs.NodeTurns.{NodeBegins}
use Rattle.actor_laws.proofs.EntitiesNew.{same_at}

pub node_begins : RegionBegins → NewEntitiesStand → NodeBegins
node_begins region entities c version who here admitted = record {
  stands = record {
    who_is = here;
    set_is = refl;
    region = region c who here;
    region_who = refl;
    different = refl;
    entities = entities c version who here admitted;
    entities_who = refl;
    producers_full = length-replicate c.config.producers None;
    producers = λ p k above e. absurd (true≢false (ap is_none (sym (same_at None c.config.producers (p - 1)) ∙ e)));
    coordinator = tt;
  };
  viewed = tt;
  in_hand = λ h shards queues none same. record {
    entities = record {
      there = shards;
      lists_are = λ s x e. absurd (true≢false (ap is_none (sym (same_at None c.config.shards s) ∙ e)));
      version_is = same;
      live_are = λ e brought. ap (has_name e) none ∙ sym (ap (λ (x : Cell). not (is_phase phase.Absent x.phase)) (same_at (new_cell (setting c)) (length (names_in c.orders)) (place (setting c) e)));
    };
    queues_there = queues;
    producers = λ p k above e. absurd (true≢false (ap is_none (sym (same_at None c.config.producers (p - 1)) ∙ e)));
    coordinator = tt;
  };
}
