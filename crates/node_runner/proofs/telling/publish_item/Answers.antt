use Rattle.std.proofs.Common.{◌≡◌, true, [], ◌∷◌, sym, ap, ◌∙◌, subst, refl}
use Rattle.yard_model.specs.declared.out.Item.{Item}
use Rattle.yard_model.specs.Genuine.{is_genuine_packet}
use Rattle.lease_table.specs.Belongs.{charter_of}
use Rattle.plain_laws.proofs.Lists.{all_join}
use Rattle.plain_laws.proofs.Booleans.{both}
use Rattle.node_runner.specs.Posts.{is_genuine_item, ArePackets}
use Rattle.node_runner.specs.Told.{AreToldShown}
use Rattle.node_runner.proofs.ToldLaws.{told_post}
use Rattle.node_runner.proofs.telling.publish_item.Goals as goal

pub returns-in-Fact-clause-told : goal.returns-in-Fact-clause-told
returns-in-Fact-clause-told g c = subst (λ (x : Item). AreToldShown (charter_of c.args.table.now) c.publish_fact.new.pass c.args.node.now.state (x ∷ [])) (sym c.in-Fact.is) c.publish_fact.ensures.told

pub returns-in_ok-push_copy-in-Post-clause-told : goal.returns-in_ok-push_copy-in-Post-clause-told
returns-in_ok-push_copy-in-Post-clause-told g c = told_post (charter_of c.args.table.now) c.args.pass.now c.args.node.now.state c.args.item.now c.in-Post.packet c.in-Post.is

pub returns-in_ok-push_copy-in-Post-clause-posts : goal.returns-in_ok-push_copy-in-Post-clause-posts
returns-in_ok-push_copy-in-Post-clause-posts g c = λ one all.
    let genuine : is_genuine_packet (charter_of c.args.table.now) c.in-Post.packet ≡ true = ap (is_genuine_item (charter_of c.args.table.now)) (sym c.in-Post.is) ∙ one in
    subst (ArePackets (charter_of c.args.table.now)) (sym c.in_ok-push_copy-in-Post.ensures) (all_join (is_genuine_packet (charter_of c.args.table.now)) c.args.posts.now.items (c.in-Post.packet ∷ []) all (both (is_genuine_packet (charter_of c.args.table.now) c.in-Post.packet) true genuine refl))
