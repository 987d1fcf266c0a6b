-- Every input as a whole: what its items show of the node is what the turn does to it.
use Rattle.std.proofs.Common.{◌≡◌, ℕ, ◌+◌, List, sym, ap, true, true≢false}
use Rattle.std.specs.Prelude.{Bool, ◌&&◌, ◌==◌, fold, None}
use Rattle.yard_model.specs.declared.input.Input.TheVariants as input
use Rattle.yard_model.specs.declared.packet.Body.{Body}
use Rattle.yard_model.specs.declared.packet.Body.TheVariants as body
use Rattle.yard_model.specs.declared.charter.Sending.{Sending}
use Rattle.yard_model.specs.declared.incarnation.Incarnation.{Incarnation}
use Rattle.yard_model.specs.Genuine.{is_producer, is_brought}
use Rattle.yard_model.specs.Node.{Node, Act, after, items_of, lead, packet, turn}
use Rattle.yard_model.specs.Queries.{Known}
use Rattle.yard_model.specs.Script.{Script, setting}
use Rattle.yard_model.specs.SlotLists.{SlotLists}
use Rattle.yard_model.specs.World.{all_sends}
use Rattle.plain_laws.proofs.Booleans.{and_both}
use Rattle.yard_laws.proofs.Owns.{producer_above}
use Rattle.node_laws.specs.NodeStands.{IsSoundNode}
use Rattle.node_laws.specs.NodeTurns.{IsPromised}
use Rattle.query_laws.specs.Shown.{IsTidy, IsShown, TurnShown}
use Rattle.query_laws.proofs.ShowApart.{producers_stay}
use Rattle.query_laws.proofs.ShowBase.{known_on}
use Rattle.query_laws.proofs.ShowInputs.{packet_for, is_elsewhere, packet_whole, front_apart, tick_whole, leave_whole, armed_whole, asks_passivate_whole}
use Rattle.query_laws.proofs.ShowOffice.{lead_shown, view_lead_shown, tick_coordinator_shown, register_whole, get_home_whole, shard_started_whole, quit_whole, acknowledge_whole, shard_stopped_whole, rebalance_whole}
use Rattle.query_laws.proofs.ShowQueues.{IsReady, sound_ready, queues_shown, request_whole, ack_whole, resend_whole, produce_whole, rest_whole, send_whole}
use Rattle.query_laws.proofs.ShowRegion.{same_sets}
use Rattle.query_laws.proofs.ShowTick.{front}
use Rattle.node_laws.proofs.NodeParts.{set_stays, who_stays}

-- The packets of the coordinator and of the producers.
pub elsewhere_shown : (c : Script) (vouches : List ℕ → ℕ → ℕ → Bool) (k : Known) (lists : SlotLists) (st : Node) (from to : Incarnation) (b : Body) → IsSoundNode c st → IsTidy st → IsPromised c vouches st from b → is_elsewhere b ≡ true
    → IsShown k (input.Packet (packet_for from to b)) st (packet lists from b st)
elsewhere_shown c vouches k lists st from to body.Register is tidy may h = register_whole k lists st from to tidy
elsewhere_shown c vouches k lists st from to (body.GetShardHome s) is tidy may h = get_home_whole k lists st from to s tidy
elsewhere_shown c vouches k lists st from to (body.ShardStarted s) is tidy may h = shard_started_whole k lists st from to s tidy
elsewhere_shown c vouches k lists st from to body.GracefulShutdownReq is tidy may h = quit_whole k lists st from to tidy
elsewhere_shown c vouches k lists st from to (body.BeginHandOffAck s stamp) is tidy may h = acknowledge_whole k lists st from to s stamp tidy
elsewhere_shown c vouches k lists st from to (body.ShardStopped s stamp) is tidy may h = shard_stopped_whole k lists st from to s stamp tidy
elsewhere_shown c vouches k lists st from to (body.Request p e n u) is tidy may h =
    let both_are : ((is_producer c p && is_brought c e) ≡ true) × ((u == n + c.config.window) ≡ true) = and_both (is_producer c p && is_brought c e) (u == n + c.config.window) may.genuine in
    request_whole c k lists st from to p e n u is tidy (producer_above c p (and_both (is_producer c p) (is_brought c e) both_are.0).0)
elsewhere_shown c vouches k lists st from to (body.Ack p e n) is tidy may h = ack_whole c k lists st from to p e n is tidy (producer_above c p (and_both (is_producer c p) (is_brought c e) may.genuine).0)
elsewhere_shown c vouches k lists st from to (body.Resend p e f) is tidy may h = resend_whole c k lists st from to p e f is tidy
elsewhere_shown c vouches k lists st from to b is tidy may h = absurd (true≢false (sym h))

-- The tick.
pub tick_shown : (c : Script) (k : Known) (sends : List (List Sending)) (lists : SlotLists) (st : Node) → IsSoundNode c st → IsTidy st → k.world.set ≡ setting c → k.world.lists ≡ lists → k.packet ≡ None → IsShown k input.Tick st (turn sends lists input.Tick st)
tick_shown c k sends lists st is tidy set known got =
    let acts : List Act = front lists st in
    let ready : IsReady st = sound_ready c st is tidy in
    let led : Node = fold after st (lead lists st) in
    tick_whole c k lists st is tidy set known got (lead_shown k lists st (ap (λ (l : SlotLists). l.coordinator) known)) (tick_coordinator_shown (known_on k (items_of (lead lists st))) led)
    (λ tidy_now. queues_shown (known_on k (items_of acts)) st (fold after st acts) (record { tidy = tidy_now; set_is = same_sets st acts ready.set_is }) (set_stays st acts) (who_stays st acts) (producers_stay st acts (front_apart lists st)))

-- Any input.
pub each_turn_shown : TurnShown
each_turn_shown c vouches k st (input.Packet p) h script is viewed tidy hand may set known got views =
    packet_whole c vouches k h.lists st p.from p.to p.body is tidy may known got views (λ v xs e. view_lead_shown c k h.lists st v xs set known) (elsewhere_shown c vouches k h.lists st p.from p.to p.body is tidy may)
each_turn_shown c vouches k st input.Tick h script is viewed tidy hand may set known got views = tick_shown c k (all_sends c) h.lists st is tidy set known got
each_turn_shown c vouches k st input.Leave h script is viewed tidy hand may set known got views = leave_whole k (all_sends c) h.lists st tidy
each_turn_shown c vouches k st (input.Rebalance n) h script is viewed tidy hand may set known got views = rebalance_whole k (all_sends c) h.lists st n tidy
each_turn_shown c vouches k st (input.Produce p) h script is viewed tidy hand may set known got views = produce_whole k (all_sends c) h.lists st p tidy known
each_turn_shown c vouches k st (input.Rest p) h script is viewed tidy hand may set known got views = rest_whole c k (all_sends c) h.lists st p is tidy (producer_above c p may)
each_turn_shown c vouches k st (input.Send p) h script is viewed tidy hand may set known got views = send_whole c k (all_sends c) h.lists st p is tidy (producer_above c p may)
each_turn_shown c vouches k st (input.Passivate e) h script is viewed tidy hand may set known got views = asks_passivate_whole k (all_sends c) h.lists st e tidy
each_turn_shown c vouches k st (input.FailWrite e a) h script is viewed tidy hand may set known got views = armed_whole k (all_sends c) h.lists st e a tidy
