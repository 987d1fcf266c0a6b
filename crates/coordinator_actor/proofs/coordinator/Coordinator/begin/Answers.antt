use Rattle.std.proofs.Common.{◌≡◌, ◌≤◌, ◌+◌, ◌++◌, append-nil, arith, ap, sym, subst, ◌∙◌, length}
use Rattle.std.specs.Prelude.{List, fold}
use Rattle.std.specs.List.{flat_map}
use Rattle.yard_model.specs.Coordinator.{Coordinator, begin, coordinator_after}
use Rattle.yard_model.specs.Move.{Move, item_of}
use Rattle.coordinator_actor.specs.Parts.{shards_in}
use Rattle.coordinator_actor.proofs.RoundLaws.{begin_is, nothing_begins, opened_is}
use Rattle.coordinator_actor.proofs.coordinator.Coordinator.begin.Goals as goal

pub tell_each-requires : goal.tell_each-requires
tell_each-requires c =
    record { room = subst (λ (ms : List Move). length (flat_map item_of ms) ≤ c.args.out.now.spare) (begin_is c.args.shards.now c.next_stamp-next.result c.args.self.now.state c.next_stamp-next.ensures) c.requires.room }

pub returns-clause-items : goal.returns-clause-items
returns-clause-items c =
    c.tell_each.ensures.items ∙ ap (λ (ms : List Move). c.args.out.now.items ++ flat_map item_of ms) (sym (begin_is c.args.shards.now c.next_stamp-next.result c.args.self.now.state c.next_stamp-next.ensures))

pub returns-clause-state : goal.returns-clause-state
returns-clause-state c =
    let st : Coordinator = c.args.self.now.state in
    c.open.ensures.state ∙ sym (opened_is st (shards_in c.args.shards.now st) (sym c.has_none_of.ensures ∙ c.if-has_none_of.false))

pub returns-clause-quitting : goal.returns-clause-quitting
returns-clause-quitting c = ap (λ (k : Coordinator). k.quitting) c.open.ensures.state

pub returns-clause-kept : goal.returns-clause-kept
returns-clause-kept c = ap (λ (k : Coordinator). k.entries) c.open.ensures.state

pub returns-clause-spare : goal.returns-clause-spare
returns-clause-spare c =
    ap (λ (ms : List Move). c.tell_each.new.out.spare + length (flat_map item_of ms)) (begin_is c.args.shards.now c.next_stamp-next.result c.args.self.now.state c.next_stamp-next.ensures) ∙ c.tell_each.ensures.spare

pub returns-then-has_none_of-clause-items : goal.returns-then-has_none_of-clause-items
returns-then-has_none_of-clause-items c =
    let st : Coordinator = c.args.self.now.state in
    sym (append-nil c.args.out.now.items) ∙ ap (λ (ms : List Move). c.args.out.now.items ++ flat_map item_of ms) (sym (nothing_begins st (shards_in c.args.shards.now st) (sym c.has_none_of.ensures ∙ c.if-has_none_of.true)))

pub returns-then-has_none_of-clause-state : goal.returns-then-has_none_of-clause-state
returns-then-has_none_of-clause-state c =
    let st : Coordinator = c.args.self.now.state in
    ap (λ (ms : List Move). fold coordinator_after st ms) (sym (nothing_begins st (shards_in c.args.shards.now st) (sym c.has_none_of.ensures ∙ c.if-has_none_of.true)))

pub returns-then-has_none_of-clause-spare : goal.returns-then-has_none_of-clause-spare
returns-then-has_none_of-clause-spare c =
    let st : Coordinator = c.args.self.now.state in
    let none : length (flat_map item_of (begin (shards_in c.args.shards.now st) st)) ≡ 0 = ap (λ (ms : List Move). length (flat_map item_of ms)) (nothing_begins st (shards_in c.args.shards.now st) (sym c.has_none_of.ensures ∙ c.if-has_none_of.true)) in
    omega (arith, none)
