-- A turn of a node with the leases of a trace.
use Rattle.std.proofs.Common.{◌≡◌, List, ap, true}
use Rattle.yard_model.specs.declared.fact.Fact.{Fact}
use Rattle.yard_model.specs.Node.{Act, items_of, turn}
use Rattle.yard_model.specs.Guards.{guarded}
use Rattle.yard_model.specs.Script.{Script, setting}
use Rattle.yard_model.specs.SlotLists.{SlotLists, shard_list, queue_list}
use Rattle.yard_model.specs.Trace.{lists_of}
use Rattle.yard_model.specs.World.{all_sends}
use Rattle.yard_laws.specs.Guarded.{Owns, GuardedIsOwn}
use Rattle.actor_laws.specs.Owes.{facts_in}
use Rattle.node_laws.specs.NodeFound.{NodeKeepsIf, Finds, AreLawful}
use Rattle.node_laws.specs.NodeTurns.{TurnStands, TurnViewed}
use Rattle.node_laws.specs.Traces.{HandIsGuarded, TurnIsGuarded}
use Rattle.node_laws.proofs.NodeProducers.{above_zero}

-- the lists of a guarded trace are lawful
lawful_lists : GuardedIsOwn → (c : Script) (trace : List Fact) → guarded c trace ≡ true → AreLawful c (lists_of (setting c) trace)
lawful_lists owns c trace g =
    let o : Owns c (lists_of (setting c) trace) = owns c trace g in
    record { coordinator = o.coordinator; shards = λ s k. o.shard s; queues = λ p k. o.queue p (above_zero p c.config.producers k).0 }

pub turn_is_guarded : GuardedIsOwn → TurnStands → TurnViewed → HandIsGuarded → TurnIsGuarded
turn_is_guarded owns stands views guards c trace vouches h st i script is viewed may g v of holds =
    let lists : SlotLists = lists_of (setting c) trace in
    let acts : List Act = turn (all_sends c) lists i st in
    let k : NodeKeepsIf (Finds lists st) c vouches st acts = stands c vouches lists st i script is viewed (lawful_lists owns c trace g) may in
    let finds : Finds lists st h = record {
      office = λ none. ap (λ (l : SlotLists). l.coordinator) of.lists_are;
      shards = λ s none. ap (λ l. shard_list l s) of.lists_are;
      queues = λ p none. ap (λ l. queue_list l p) of.lists_are;
    } in
    record {
      stands = k.stands;
      viewed = views (all_sends c) lists st i viewed;
      goes_on = guards c trace st.who vouches h (facts_in (items_of acts)) g v of (k.guarded_are h holds finds) k.own_are;
      holds = k.goes_along h holds finds;
      in_hand = k.guarded_are h holds finds;
      own_are = k.own_are;
      held_are = k.held_are h holds finds;
      posts_are = k.posts_are;
    }
