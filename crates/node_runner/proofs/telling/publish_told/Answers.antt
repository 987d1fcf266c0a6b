use Rattle.std.proofs.Common.{◌≡◌, true, [], ◌∷◌, List, sym, ap, ◌∙◌, subst}
use Rattle.std.specs.Prelude.{drop}
use Rattle.yard_model.specs.declared.out.Item.{Item}
use Rattle.lease_table.specs.Belongs.{id_of, charter_of}
use Rattle.node_core.proofs.GaveLaws.{stays_both, stays_same}
use Rattle.node_runner.specs.Posts.{AreGenuine, ArePackets}
use Rattle.node_runner.specs.Rested.{means}
use Rattle.node_runner.proofs.Mailing.{first_genuine, rest_genuine}
use Rattle.node_runner.proofs.ToldLaws.{but_next, but_none}
use Rattle.node_runner.proofs.telling.publish_told.Goals as goal

pub loop-item-init : goal.loop-item-init
loop-item-init g c = record { rested = c.requires.rested; shown = c.requires.shown; sees = stays_same (means c.args.me c.args.pass.now); posts = λ all before. (all, before) }

pub loop-item-preserved : goal.loop-item-preserved
loop-item-preserved g c =
    let items : List Item = c.loop-item.out.items in
    let x : Item = c.in-Some.item.now in
    let rest : List Item = c.drop_first.new.self.items in
    let is : items ≡ x ∷ rest = c.in-Some.ensures ∙ ap (λ (l : List Item). x ∷ l) (sym c.drop_first.ensures.items) in
    record {
      rested = c.in_ok-publish_item.ensures.rested;
      shown = but_next (charter_of c.args.table.now) c.loop-item.pass c.publish_item.new.pass c.args.node.now.state items rest x c.loop-item.invariant.shown is c.in_ok-publish_item.ensures.stay c.in_ok-publish_item.ensures.told;
      sees = stays_both (means c.args.me c.args.pass.now) (means c.args.me c.loop-item.pass) (means c.args.me c.publish_item.new.pass) c.loop-item.invariant.sees c.in_ok-publish_item.ensures.sees;
      posts = λ all before.
          let so = c.loop-item.invariant.posts all before in
          (rest_genuine (charter_of c.args.table.now) items rest x so.0 is, c.in_ok-publish_item.ensures.posts (first_genuine (charter_of c.args.table.now) items rest x so.0 is) so.1);
    }

pub returns-clause-published : goal.returns-clause-published
returns-clause-published g c = but_none (charter_of c.args.table.now) c.loop-item.pass c.args.node.now.state c.loop-item.out.items c.loop-item.invariant.shown c.in_default.ensures

pub returns-clause-posts : goal.returns-clause-posts
returns-clause-posts g c = λ all before. (c.loop-item.invariant.posts all before).1
