use Rattle.std.proofs.Common.{ap, sym, ◌∙◌, subst, refl}
use Rattle.yard_model.specs.Script.{setting}
use Rattle.yard_model.specs.Trace.{no_lists}
use Rattle.shard_lease.specs.Book.{Book, meaning_of}
use Rattle.node_core.specs.Leased.{Tells}
use Rattle.world_sim.proofs.NewLaws.{seen_new}
use Rattle.world_sim.proofs.RestsLaws.{tells_new}
use Rattle.world_sim.proofs.world.new_yard.Goals as goal

pub returns-clause-seen : goal.returns-clause-seen
returns-clause-seen g c =
    let b = c.in_ok-yard.ensures.begins in
    let k = c.in_ok-book.ensures in
    seen_new _ c.args.charter (record {
      script_is = b.script_is;
      members_none = b.members_none;
      version_none = b.version_none;
      ups_none = b.ups_are ∙ c.in_ok-numbers.ensures.ups;
      kind_is = c.in_ok-yard.ensures.kind ∙ (c.at_version-behaviour.ensures.kind ∙ c.requires);
      behaviour_is = c.in_ok-yard.ensures.version ∙ c.at_version-behaviour.ensures.version;
      past_none = b.past_none;
      ordered_none = b.ordered_are ∙ c.in_ok-numbers.ensures.ordered;
      packets_none = b.packets_none;
      fresh_none = b.fresh_none;
      items_none = b.items_none;
      full_not = b.full_not;
      nodes_none = b.nodes_none;
      book_is = ap (λ (x : Book). x.script) b.book_is ∙ k.script;
      tells_is = subst (λ (x : Book). Tells (meaning_of x) c.args.charter (no_lists (setting c.args.charter))) (sym b.book_is) (tells_new c.in_ok-book.book c.args.charter c.in_ok-book.book.places k.script refl k.holders k.none);
    })

pub returns-clause-script : goal.returns-clause-script
returns-clause-script g c = c.in_ok-yard.ensures.begins.script_is

pub returns-clause-version : goal.returns-clause-version
returns-clause-version g c = c.in_ok-yard.ensures.begins.version_none

pub returns-clause-ups : goal.returns-clause-ups
returns-clause-ups g c = c.in_ok-yard.ensures.begins.ups_are ∙ c.in_ok-numbers.ensures.ups

pub returns-clause-ordered : goal.returns-clause-ordered
returns-clause-ordered g c = c.in_ok-yard.ensures.begins.ordered_are ∙ c.in_ok-numbers.ensures.ordered
