use Rattle.std.proofs.Common.{◌≡◌, ◌<◌, ◌≤◌, ℕ, ◌+◌, List, [], ◌∷◌, length, drop, refl, ap, sym, ◌∙◌, subst, arith}
use Rattle.std.specs.Prelude.{fold, IsTrue}
use Rattle.std.specs.List.{list_all}
use Rattle.std.proofs.lemmas.List.{drop_more}
use Rattle.yard_model.specs.declared.charter.Config.{Config}
use Rattle.yard_model.specs.declared.charter.Line.{Line}
use Rattle.yard_model.specs.declared.fact.Fact.{Fact}
use Rattle.yard_model.specs.declared.packet.Message.{Message}
use Rattle.yard_model.specs.Script.{is_order}
use Rattle.yard_model.specs.Shard.{shard}
use Rattle.yard_model.specs.Solo.{Solo, after_line, after_order}
use Rattle.yard_model.specs.Words.{numbers}
use Rattle.solo_run.specs.Facts.{facts_of, state_of, bare}
use Rattle.solo_run.proofs.FactsLaws.{no_records}
use Rattle.solo_run.proofs.KnownLaws.{and_both, shard_inside}
use Rattle.solo_run.proofs.PlayLaws.{records_in, order_posts, order_room}
use Rattle.solo_run.proofs.engine.Engine.play.Goals as goal

pub loop-line-init : goal.loop-line-init
loop-line-init g c =
    let cfg : Config = c.args.self.now.config in
    let posted : List Message = c.args.self.now.posted in
    let lists : List (List Fact) = facts_of c.args.self.now.lists.items in
    let none : length posted ≡ 0 = ap length c.requires.posted in
    record {
      knows = c.requires.knows;
      config = refl;
      state = ap (λ (s : Solo). fold (after_line (bare cfg)) s c.args.lines.now) (ap (λ p. state_of cfg p lists) c.requires.posted ∙ ap (state_of cfg []) c.requires.lists);
      orders = c.requires.orders;
      posts = omega arith;
      room = λ e. let zero_of : records_in cfg.shards e lists ≡ 0 = ap (records_in cfg.shards e) c.requires.lists ∙ ap length (no_records e (numbers 0 cfg.shards) (shard cfg.shards e)) in omega arith;
    }

pub loop-line-preserved : goal.loop-line-preserved
loop-line-preserved g c =
    let cfg : Config = c.args.self.now.config in
    let i : ℕ = c.loop-line.line-index in
    let line : Line = c.line-item.result in
    let posted : List Message = c.loop-line.self.posted in
    let lists : List (List Fact) = facts_of c.loop-line.self.lists.items in
    let posted' : List Message = c.order.new.self.posted in
    let lists' : List (List Fact) = facts_of c.order.new.self.lists.items in
    let same : c.loop-line.self.config ≡ cfg = c.loop-line.invariant.config in
    let cut : drop i c.args.lines.now ≡ line ∷ drop (i + 1) c.args.lines.now = drop_more c.args.lines.now i line c.loop-line-test.true ∙ ap (λ (x : Line). x ∷ drop (i + 1) c.args.lines.now) (sym c.line-item.is) in
    let step : state_of cfg posted' lists' ≡ after_order (bare cfg) (state_of cfg posted lists) line.order =
    subst (λ (k : Config). state_of k posted' lists' ≡ after_order (bare k) (state_of k posted lists) line.order) same c.in_ok-order.ensures.state in
    let inside : (e : List ℕ) → shard cfg.shards e < length lists = λ e. subst (λ (k : Config). shard k.shards e < length lists) same (shard_inside c.loop-line.self.config posted lists c.loop-line.self.entities c.loop-line.invariant.knows e) in
    let more : length posted' ≤ length posted + 1 = subst (λ (s : Solo). length s.posted ≤ length posted + 1) (sym step) (order_posts cfg posted lists line.order) in
    let rest : IsTrue (list_all (λ (x : Line). is_order cfg x.order) (line ∷ drop (i + 1) c.args.lines.now)) = subst (λ (l : List Line). IsTrue (list_all (λ (x : Line). is_order cfg x.order) l)) cut c.loop-line.invariant.orders in
    record {
      knows = c.in_ok-order.ensures.knows;
      config = c.order.ensures.config ∙ same;
      state = ap (λ (s : Solo). fold (after_line (bare cfg)) s (drop (i + 1) c.args.lines.now)) step
          ∙ (ap (fold (after_line (bare cfg)) (state_of cfg posted lists)) (sym cut) ∙ c.loop-line.invariant.state);
      orders = (and_both (is_order cfg line.order) (list_all (λ (x : Line). is_order cfg x.order) (drop (i + 1) c.args.lines.now)) rest).1;
      posts = omega arith;
      room = λ e.
          let one : records_in cfg.shards e lists' ≤ records_in cfg.shards e lists + 1 = subst (λ (s : Solo). records_in cfg.shards e s.lists.shards ≤ records_in cfg.shards e lists + 1) (sym step) (order_room cfg posted lists line.order inside e) in
          let was : records_in cfg.shards e lists ≤ i = c.loop-line.invariant.room e in
          omega arith;
    }
