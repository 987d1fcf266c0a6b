-- A world before its first order.
use Rattle.std.proofs.Common.{◌≡◌, ℕ, zero, suc, false, [], ◌∷◌, length, refl, ap, sym, ◌∙◌, subst, arith}
use Rattle.std.specs.Prelude.{map, replicate, slice_index_or, None, IfSome}
use Rattle.std.proofs.lemmas.List.{length-replicate}
use Rattle.yard_model.specs.Script.{Script, IsScript, setting, with_shards}
use Rattle.yard_model.specs.Trace.{no_lists}
use Rattle.yard_model.specs.Words.{at}
use Rattle.yard_model.specs.World.{new_world, wire_limit}
use Rattle.shard_lease.specs.Book.{meaning_of}
use Rattle.node_core.specs.Leased.{Tells}
use Rattle.node_core.specs.Standing.{Standing}
use Rattle.world_sim.specs.Keeps.{Keeps}
use Rattle.plain_laws.proofs.Booleans.{get_replicate}
use Rattle.world_sim.specs.World.{IsPlaying}
use Rattle.world_sim.specs.Yard.{Yard, IsSeen, state_in}

-- the parts of a world in which no node is up
pub record IsNew (y : Yard) (c : Script) : Type 0 where
  pub script_is : y.script ≡ c
  pub members_none : y.members ≡ []
  pub version_none : y.version ≡ 0
  pub kind_is : y.force.kind ≡ c.config.kind
  pub behaviour_is : y.force.version ≡ 1
  pub past_none : y.force.past ≡ 0
  pub ups_none : y.ups ≡ replicate c.config.nodes 0
  pub ordered_none : y.ordered ≡ replicate c.config.producers 0
  pub packets_none : y.mail.packets ≡ []
  pub fresh_none : y.mail.fresh ≡ []
  pub items_none : y.mail.items ≡ []
  pub full_not : y.mail.full ≡ false
  pub nodes_none : y.nodes ≡ replicate c.config.nodes None
  pub book_is : y.book.script ≡ c
  pub tells_is : Tells (meaning_of y.book) c (no_lists (setting c))

map_none : (n : ℕ) → map state_in (replicate n None) ≡ replicate n None
map_none zero = refl
map_none (suc n) = ap (λ os. None ∷ os) (map_none n)

pub seen_new : (y : Yard) (c : Script) → IsNew y c → IsSeen y (new_world c wire_limit)
seen_new y c k = record {
  set_is = ap setting (sym k.script_is);
  kind_is = k.kind_is ∙ ap (λ (x : Script). x.config.kind) (sym k.script_is);
  behaviour_is = k.behaviour_is;
  past_is = k.past_none;
  limit_is = refl;
  members_are = k.members_none;
  version_is = k.version_none;
  ups_are = k.ups_none;
  ordered_are = k.ordered_none;
  ordered_there = ap length k.ordered_none ∙ (length-replicate c.config.producers 0 ∙ ap (λ (x : Script). x.config.producers) (sym k.script_is));
  wire_is = k.packets_none;
  fresh_is = k.fresh_none;
  full_is = k.full_not;
  told_all = k.items_none;
  nodes_are = ap (map state_in) k.nodes_none ∙ map_none c.config.nodes;
  scripts_are = λ j. subst (λ o. IfSome o (λ (v : Standing). v.script ≡ y.script)) (sym (ap (λ ns. at ns j) k.nodes_none ∙ get_replicate c.config.nodes j None)) tt;
  book_is = k.book_is ∙ sym k.script_is;
  tells_is = subst (λ s. Tells (meaning_of y.book) s (no_lists (setting c))) (sym k.script_is) k.tells_is;
}

pub world_new : Keeps → (y : Yard) (c : Script) → IsScript c → y.script ≡ c → y.version ≡ 0 → y.ups ≡ replicate c.config.nodes 0 → y.ordered ≡ replicate c.config.producers 0 → IsSeen y (new_world c wire_limit) → IsPlaying c y 0 None
world_new keeps y c script e version ups ordered seen =
    let era : y.script ≡ with_shards y.script.config.shards c = e ∙ ap (λ (x : Script). with_shards x.config.shards c) (sym e) in
    record {
      script_is = script;
      few = omega arith;
      kept = (
        record { era_is = era; seen_is = seen; stands_is = keeps.plays c y.script 0 script era seen.set_is; full_is = refl },
        record {
          version_is = omega (arith, version);
          ups_are = λ k. let none : slice_index_or y.ups k 0 ≡ 0 = ap (λ us. slice_index_or us k 0) ups ∙ get_replicate c.config.nodes k 0 in omega (arith, none);
          ordered_are = λ k. let none : slice_index_or y.ordered k 0 ≡ 0 = ap (λ os. slice_index_or os k 0) ordered ∙ get_replicate c.config.producers k 0 in omega (arith, none);
        },
      );
    }
