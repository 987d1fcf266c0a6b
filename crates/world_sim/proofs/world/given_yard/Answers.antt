use Rattle.std.proofs.Common.{◌≡◌, ◌+◌, ◌<◌, length, ap, sym, ◌∙◌, subst}
use Rattle.std.specs.Prelude.{None, replicate, slice_set}
use Rattle.yard_model.specs.Script.{Script}
use Rattle.shard_lease.specs.Book.{Book}
use Rattle.shard_store.specs.Stores.{lists_at}
use Rattle.world_sim.proofs.GivenLaws.{none_leased_at, seen_given}
use Rattle.world_sim.proofs.world.given_yard.Goals as goal

pub book_of-requires : goal.book_of-requires
book_of-requires g c k h = none_leased_at c.args.charter c.args.stores.places k c.requires.given.unheld (subst (λ (s : Script). k < s.config.shards + s.config.producers + 1) c.requires.script h)

pub returns-clause-seen : goal.returns-clause-seen
returns-clause-seen g c =
    let b = c.in_ok-yard.ensures.begins in
    let k = c.in_ok-book.ensures in
    let version = g.B.Behaviour.version_of c.args.behaviour in
    seen_given _ c.args.charter version (lists_at c.args.charter.config c.args.stores.places) c.requires.given.unheld (record {
      script_is = b.script_is;
      members_none = b.members_none;
      version_none = b.version_none;
      kind_is = c.in_ok-yard.ensures.kind ∙ c.requires.kind;
      behaviour_is = c.in_ok-yard.ensures.version;
      past_none = b.past_none;
      ups_are = b.ups_are ∙ (c.in_ok-numbers.ensures.ups ∙ ap (λ n. slice_set (replicate c.args.charter.config.nodes 0) 0 n) (c.requires.number version));
      ordered_are = b.ordered_are ∙ c.in_ok-numbers.ensures.ordered;
      packets_none = b.packets_none;
      fresh_none = b.fresh_none;
      items_none = b.items_none;
      full_not = b.full_not;
      nodes_none = b.nodes_none;
      book_is = ap (λ (x : Book). x.script) b.book_is ∙ (k.script ∙ c.requires.script);
      holders_none = subst (λ (x : Book). x.holders ≡ replicate (length x.places) None) (sym b.book_is) k.holders;
      lists_are = ap (λ (x : Book). lists_at c.args.charter.config x.places) b.book_is ∙ ap (lists_at c.args.charter.config) k.places;
    })

pub returns-clause-script : goal.returns-clause-script
returns-clause-script g c = c.in_ok-yard.ensures.begins.script_is

pub returns-clause-version : goal.returns-clause-version
returns-clause-version g c = c.in_ok-yard.ensures.begins.version_none
