use Rattle.std.proofs.Common.{◌≡◌, ◌-◌, sym, ap, ◌∙◌, subst}
use Rattle.std.specs.Prelude.{Some, None, IsSomeAnd}
use Rattle.yard_model.specs.declared.incarnation.Slot.TheVariants as slot
use Rattle.yard_model.specs.Words.{at}
use Rattle.actor_laws.specs.Hands.{held_list}
use Rattle.shard_store.specs.Stores.{entries_at, place_of}
use Rattle.node_core.specs.Standing.{Standing}
use Rattle.world_sim.specs.declared.seek.Sought.TheVariants as sought
use Rattle.world_sim.specs.Yard.{Yard, IsSound}
use Rattle.world_sim.proofs.LeftLaws.{queue_held, queue_script, book_free, book_queue}
use Rattle.world_sim.proofs.SeekLaws.{IsFoundIn, nodes_few, may_seek_any}
use Rattle.world_sim.proofs.yard.Yard.queue.Goals as goal

pub seek-requires-clause-few : goal.seek-requires-clause-few
seek-requires-clause-few g c = let r = c.requires.world in nodes_few _ r.0 (subst (λ v. IsSound v r.0) (sym c.self.view_is) r.1)

pub seek-requires-clause-may : goal.seek-requires-clause-may
seek-requires-clause-may g c = let r = c.requires.world in may_seek_any _ r.0 (sought.Queue c.args.p) (λ k. tt) (subst (λ v. IsSound v r.0) (sym c.self.view_is) r.1)

pub queue_in_book-requires-clause-free : goal.queue_in_book-requires-clause-free
queue_in_book-requires-clause-free g c =
    let r = c.requires.world in
    let found = subst (IsFoundIn (sought.Queue c.args.p) c.args.self.now) c.in-None.is (subst (λ v. IsFoundIn (sought.Queue c.args.p) v c.seek.result) c.self.view_is c.seek.ensures) in
    subst (λ (v : Yard). at v.book.holders (place_of v.book.script.config (slot.Queue c.args.p)) ≡ None) (sym c.self.view_is) (book_free c.args.self.now r.0 c.args.p r.1 c.requires.producer found)

pub returns-in-Some-clause-list : goal.returns-in-Some-clause-list
returns-in-Some-clause-list g c = λ w s.
    queue_held c.args.self.now w c.args.p c.in-Some.n c.queue_at.result.now.entries s c.requires.producer
    (subst (λ (v : Yard). IsSomeAnd (at v.nodes (c.in-Some.n - 1)) (λ (x : Standing). held_list (slot.Queue c.args.p) x.state ≡ Some c.queue_at.result.now.entries)) c.self.view_is c.queue_at.ensures.list)

pub returns-in-None-clause-list : goal.returns-in-None-clause-list
returns-in-None-clause-list g c = λ w s.
    let found = subst (IsFoundIn (sought.Queue c.args.p) c.args.self.now) c.in-None.is (subst (λ v. IsFoundIn (sought.Queue c.args.p) v c.seek.result) c.self.view_is c.seek.ensures) in
    c.queue_in_book.ensures.entries ∙ (ap (λ (v : Yard). entries_at v.book.places (place_of v.book.script.config (slot.Queue c.args.p))) c.self.view_is ∙ book_queue c.args.self.now w c.args.p s c.requires.producer found)

-- each is of the yard's script
pub returns-in-Some-clause-script : goal.returns-in-Some-clause-script
returns-in-Some-clause-script g c =
    let r = c.requires.world in
    queue_script c.args.self.now r.0 c.in-Some.n c.queue_at.result.now.script r.1
    (subst (λ (v : Yard). IsSomeAnd (at v.nodes (c.in-Some.n - 1)) (λ (x : Standing). c.queue_at.result.now.script ≡ x.script)) c.self.view_is c.queue_at.ensures.script)

pub returns-in-None-clause-script : goal.returns-in-None-clause-script
returns-in-None-clause-script g c = c.queue_in_book.ensures.script ∙ (ap (λ (v : Yard). v.book.script) c.self.view_is ∙ c.requires.world.1.seen_is.book_is)
