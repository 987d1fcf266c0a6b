use Rattle.actor_laws.proofs.EntitiesRules.{deliver_keeps, recovered_keeps, ask_to_passivate_keeps, arm_keeps, passivate_keeps}
use Rattle.actor_laws.proofs.EntitiesStops.{hand_off_keeps, stop_rule_keeps, tick_keeps}
use Rattle.actor_laws.proofs.entities.entities_stand.Goals as goal

pub returns : goal.returns
returns g = λ c st is. record {
  delivers = λ m good there. deliver_keeps c st m g.next_message_follows.ensures is good there;
  recovers = λ e brought. recovered_keeps c st e g.next_message_follows.ensures g.entities_follow.ensures is brought;
  passivates = λ e brought. passivate_keeps c st e is brought;
  asks_to_passivate = λ e brought. ask_to_passivate_keeps c st e is brought;
  arms = λ e k brought. arm_keeps c st e k is brought;
  hands_off = λ s stamp from there node. hand_off_keeps c st s stamp from is there node;
  stops = λ e brought. stop_rule_keeps c st e g.entities_follow.ensures is brought;
  ticks = tick_keeps c st is;
}
