-- What a turn posts is genuine.
use Rattle.std.proofs.Common.{◌≡◌, true, List, ◌++◌, map, refl, sym, ap, ◌∙◌, subst, [], ◌∷◌}
use Rattle.std.specs.Prelude.{◌&&◌}
use Rattle.std.specs.List.{list_all}
use Rattle.plain_laws.proofs.Booleans.{and_both, all_map}
use Rattle.plain_laws.proofs.Lists.{all_join}
use Rattle.yard_model.specs.declared.fact.Fact.{Fact}
use Rattle.yard_model.specs.declared.incarnation.Incarnation.{Incarnation}
use Rattle.yard_model.specs.declared.out.Item.{Item}
use Rattle.yard_model.specs.declared.out.Item.TheVariants as item
use Rattle.yard_model.specs.Genuine.{is_genuine_packet}
use Rattle.yard_model.specs.Node.{Act, items_of, crash}
use Rattle.yard_model.specs.Script.{Script}
use Rattle.yard_model.specs.SlotLists.{SlotLists}
use Rattle.yard_model.specs.Words.{is_same}
use Rattle.actor_laws.specs.Owes.{is_own_post}
use Rattle.node_core.specs.Gave.{Moment}
use Rattle.node_core.specs.Turned.{Turned, Ended}
use Rattle.shard_lease.specs.Meaning.{Meaning}
use Rattle.node_runner.specs.Posts.{is_genuine_item, AreGenuine, StayGenuine}

own_genuine : (c : Script) (who : Incarnation) (x : Item) → is_own_post c who x ≡ true → is_genuine_item c x ≡ true
own_genuine c who (item.Fact f) h = refl
own_genuine c who (item.Post p) h = (and_both (is_same p.from who) (is_genuine_packet c p) h).1

facts_genuine : (c : Script) (fs : List Fact) → list_all (is_genuine_item c) (map item.Fact fs) ≡ true
facts_genuine c [] = refl
facts_genuine c (f ∷ fs) = facts_genuine c fs

joined : (c : Script) (old more new : List Item) → new ≡ old ++ more → list_all (is_genuine_item c) more ≡ true → StayGenuine c old new
joined c old more new e h = λ before. subst (λ xs. list_all (is_genuine_item c) xs ≡ true) (sym e) (all_join (is_genuine_item c) old more before h)

pub turned_posts : (c : Script) (acts : SlotLists → List Act) (old new : Moment) → Turned c acts old new → StayGenuine c old.items new.items
turned_posts c acts old new t = joined c old.items (items_of t.told) new.items t.items_are (all_map (is_own_post c old.node.who) (is_genuine_item c) (own_genuine c old.node.who) (items_of t.told) (t.keeps t.lists t.found.lawful t.found_acts).posts_are)

pub ended_posts : (c : Script) (old : Moment) (m : Meaning) (items : List Item) → Ended c old m items → StayGenuine c old.items items
ended_posts c old m items e = joined c old.items (map item.Fact (crash old.node)) items e.items_are (facts_genuine c (crash old.node))
