use Rattle.std.proofs.Common.{◌≡◌, ◌++◌, [], List, length, fold, sym, ap, ◌∙◌, append-nil, arith}
use Rattle.std.specs.List.{flat_map}
use Rattle.yard_model.specs.Move.{Move, item_of}
use Rattle.yard_model.specs.Region.{region_after, ask_again}
use Rattle.yard_model.specs.Setting.{shards}
use Rattle.region_actor.proofs.EachLaws.{none_kept}
use Rattle.region_actor.proofs.region.Region.ask_all_again.Goals as goal

pub returns-then-keeps_none-clause-items : goal.returns-then-keeps_none-clause-items
returns-then-keeps_none-clause-items c =
    let none : flat_map (ask_again c.args.self.now.state) (shards c.args.self.now.state.set) ≡ [] = none_kept c.args.self.now.state (c.keeps_none.ensures c.if-keeps_none.true) in
    sym (append-nil c.args.out.now.items) ∙ ap (λ (ms : List Move). c.args.out.now.items ++ flat_map item_of ms) (sym none)

pub returns-then-keeps_none-clause-state : goal.returns-then-keeps_none-clause-state
returns-then-keeps_none-clause-state c =
    let none : flat_map (ask_again c.args.self.now.state) (shards c.args.self.now.state.set) ≡ [] = none_kept c.args.self.now.state (c.keeps_none.ensures c.if-keeps_none.true) in
    ap (λ (ms : List Move). fold region_after c.args.self.now.state ms) (sym none)

pub returns-then-keeps_none-clause-spare : goal.returns-then-keeps_none-clause-spare
returns-then-keeps_none-clause-spare c =
    let none : flat_map (ask_again c.args.self.now.state) (shards c.args.self.now.state.set) ≡ [] = none_kept c.args.self.now.state (c.keeps_none.ensures c.if-keeps_none.true) in
    let long : length (flat_map item_of (flat_map (ask_again c.args.self.now.state) (shards c.args.self.now.state.set))) ≡ 0 = ap (λ (ms : List Move). length (flat_map item_of ms)) none in
    omega (arith, long)
