-- The entities of a node that comes up.
use Rattle.std.proofs.Common.{◌≡◌, ℕ, zero, suc, length, sym, ap, ◌∙◌, refl, true≢false}
use Rattle.std.specs.Prelude.{replicate, None, is_none, slice_index_or}
use Rattle.std.specs.List.{list_all}
use Rattle.std.proofs.lemmas.List.{length-replicate}
use Rattle.yard_model.specs.declared.input.Phase.TheVariants as phase
use Rattle.yard_model.specs.Entities.{Cell, new_cell, is_phase}
use Rattle.yard_model.specs.Script.{names_in, setting}
use Rattle.yard_model.specs.Setting.{place}
use Rattle.actor_laws.specs.EntitiesStand.{is_for, NewEntitiesStand}

pub same_at : {A : Type 0} (a : A) (n i : ℕ) → slice_index_or (replicate n a) i a ≡ a
same_at a zero i = refl
same_at a (suc n) zero = refl
same_at a (suc n) (suc i) = same_at a n i

pub new_entities_stand : NewEntitiesStand
new_entities_stand c version who here admitted = record {
  who_is = here;
  set_is = refl;
  version_is = admitted;
  shards_there = length-replicate c.config.shards None;
  cells_there = length-replicate (length (names_in c.orders)) (new_cell (setting c));
  hosted_are = λ s h e. absurd (true≢false (ap is_none (sym (same_at None c.config.shards s) ∙ e)));
  at_home = λ e b k. absurd (true≢false (sym (ap (λ (x : Cell). is_phase phase.Absent x.phase) (same_at (new_cell (setting c)) (length (names_in c.orders)) (place (setting c) e))) ∙ k));
  stashed = λ e b. ap (λ (x : Cell). list_all (is_for c e) x.stash) (same_at (new_cell (setting c)) (length (names_in c.orders)) (place (setting c) e));
}
