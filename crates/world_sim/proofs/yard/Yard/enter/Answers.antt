use Rattle.std.proofs.Common.{◌≡◌, ◌-◌, ◌≤◌, ◌∷◌, [], ◌++◌, length, ap, sym, ◌∙◌, subst, refl, arith}
use Rattle.std.specs.Prelude.{None, slice_set}
use Rattle.yard_model.specs.declared.fact.Fact.TheVariants as fact
use Rattle.yard_model.specs.Behaviour.{is_in}
use Rattle.yard_model.specs.Node.{new_node}
use Rattle.yard_model.specs.Script.{setting}
use Rattle.yard_model.specs.Words.{at}
use Rattle.world_sim.specs.Steps.{entered}
use Rattle.world_sim.specs.Yard.{IsSound}
use Rattle.world_sim.proofs.UpLaws.{none_of_down, room_for, entered_whole, yard_is, came_is, node_within, firm_of, nodes_count, ups_count, admitted}
use Rattle.world_sim.proofs.StepLaws.{cut_none, whole_as}
use Rattle.world_sim.proofs.yard.Yard.enter.Goals as goal

pub node-requires-clause-version : goal.node-requires-clause-version
node-requires-clause-version g c =
    let r = c.requires.world in
    admitted _ r.0 (subst (λ v. IsSound v r.0) (sym c.self.view_is) r.1)

pub node-requires-clause-kind : goal.node-requires-clause-kind
node-requires-clause-kind g c =
    let r = c.requires.world in
    (subst (λ v. IsSound v r.0) (sym c.self.view_is) r.1).seen_is.kind_is

pub join-requires-clause-other : goal.join-requires-clause-other
join-requires-clause-other g c =
    let r = c.requires.world in
    none_of_down _ r.0 c.args.n (subst (λ v. IsSound v r.0) (sym c.self.view_is) r.1) (subst (λ v. at v.nodes (c.args.n - 1) ≡ None) (sym c.self.view_is) c.requires.down)

pub join-requires-clause-room : goal.join-requires-clause-room
join-requires-clause-room g c =
    let r = c.requires.world in
    let s = subst (λ v. IsSound v r.0) (sym c.self.view_is) r.1 in
    room_for _ r.0 (record { node = c.args.n; number = c.next_number-number.result }) s (ap (λ v. is_in 1 v.script.config.nodes c.args.n) c.self.view_is ∙ c.requires.node)
    (none_of_down _ r.0 c.args.n s (subst (λ v. at v.nodes (c.args.n - 1) ≡ None) (sym c.self.view_is) c.requires.down))

pub set_number-requires : goal.set_number-requires
set_number-requires g c =
    let r = c.requires.world in
    let s = subst (λ v. IsSound v r.0) (sym c.self.view_is) r.1 in
    let l : length c.self.inside.ups.items ≡ c.self.inside.scene.config.nodes = ups_count _ r.0 s in
    let h : c.args.n ≤ c.self.inside.scene.config.nodes = (node_within c.args.n _ (ap (λ v. is_in 1 v.script.config.nodes c.args.n) c.self.view_is ∙ c.requires.node)).1 in
    omega (arith, l, h)

pub put_node-requires : goal.put_node-requires
put_node-requires g c =
    let r = c.requires.world in
    let s = subst (λ v. IsSound v r.0) (sym c.self.view_is) r.1 in
    let l : length c.self.inside.nodes.items ≡ c.self.inside.scene.config.nodes = nodes_count _ r.0 (firm_of _ r.0 s) in
    let h : c.args.n ≤ c.self.inside.scene.config.nodes = (node_within c.args.n _ (ap (λ v. is_in 1 v.script.config.nodes c.args.n) c.self.view_is ∙ c.requires.node)).1 in
    omega (arith, l, h)

pub returns : goal.returns
returns g c =
    let who = came_is c.self.inside.ups.items c.args.n c.next_number-number.result c.next_number-number.ensures in
    whole_as IsSound 1 (entered c.args.n) _ c.args.self.now _ _ _ c.self.view_is
    (entered_whole _ _ c.args.n c.in-Ok.node c.args.facts.now c.push.new.self
    (yard_is _ _ refl refl refl c.put_node.ensures (c.join.ensures ∙ ap (λ x. c.self.inside.members ++ x ∷ []) who) refl
    (c.set_number.ensures ∙ ap (λ k. slice_set c.self.inside.ups.items (c.args.n - 1) k) c.next_number-number.ensures) refl refl)
    (ap (λ v. is_in 1 v.script.config.nodes c.args.n) c.self.view_is ∙ c.requires.node)
    c.in-Ok.ensures.script
    (c.in-Ok.ensures.state ∙ ap (λ x. new_node (setting c.self.inside.scene) (g.B.Behaviour.version_of c.self.inside.behaviour) x) who)
    (c.in-Ok-push.ensures.ok ∙ ap (λ x. c.args.facts.now ++ fact.Up x ∷ []) who))

pub returns-in-Err : goal.returns-in-Err
returns-in-Err g c = cut_none IsSound (entered c.args.n) _ _ _ _ refl refl

pub returns-in-Err-push : goal.returns-in-Err-push
returns-in-Err-push g c = cut_none IsSound (entered c.args.n) _ _ _ _ refl c.in-Err-push.ensures.err

pub next_number-number-requires-clause-within : goal.next_number-number-requires-clause-within
next_number-number-requires-clause-within g c =
    let r = c.requires.world in
    let s = subst (λ v. IsSound v r.0) (sym c.self.view_is) r.1 in
    let l : length c.self.inside.ups.items ≡ c.self.inside.scene.config.nodes = ups_count _ r.0 s in
    let h : c.args.n ≤ c.self.inside.scene.config.nodes = (node_within c.args.n _ (ap (λ v. is_in 1 v.script.config.nodes c.args.n) c.self.view_is ∙ c.requires.node)).1 in
    omega (arith, l, h)
