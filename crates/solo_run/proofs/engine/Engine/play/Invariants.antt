use Rattle.std.proofs.Common.{◌≡◌, ◌≤◌, ℕ, length, drop}
use Rattle.std.specs.Prelude.{List, [], fold, slice_index_or, IsTrue}
use Rattle.std.specs.List.{list_all}
use Rattle.yard_model.specs.declared.charter.Line.{Line}
use Rattle.yard_model.specs.Script.{is_order}
use Rattle.yard_model.specs.Shard.{shard}
use Rattle.yard_model.specs.SlotReads.{journal}
use Rattle.yard_model.specs.Solo.{after_line, start}
use Rattle.solo_run.specs.Knowledge.{KnowsAll}
use Rattle.solo_run.specs.Facts.{facts_of, state_of, bare}
use Rattle.solo_run.proofs.engine.Engine.play.Given as goal

abbrev pub invariant-loop-line : goal.invariant-loop-line
invariant-loop-line g l = record {
  knows : KnowsAll l.self.config l.self.posted (facts_of l.self.lists.items) l.self.entities;
  config : l.self.config ≡ l.initial.self.config;
  state : fold (after_line (bare l.initial.self.config)) (state_of l.initial.self.config l.self.posted (facts_of l.self.lists.items)) (drop l.line-index l.lines)
      ≡ fold (after_line (bare l.initial.self.config)) (start (bare l.initial.self.config)) l.lines;
  orders : IsTrue (list_all (λ (x : Line). is_order l.initial.self.config x.order) (drop l.line-index l.lines));
  posts : length l.self.posted ≤ l.line-index;
  room : (e : List ℕ) → length (journal e (slice_index_or (facts_of l.self.lists.items) (shard l.initial.self.config.shards e) [])) ≤ l.line-index;
}
