use Rattle.producer_ctl.proofs.NodeLaws.{ack_calls, request_calls, send_calls, resend_calls, repeat_calls}
use Rattle.producer_ctl.proofs.laws.rules_are_calls.Goals as goal

pub returns : goal.returns
returns c = record { acks = ack_calls; requests = request_calls; sends = send_calls; resends = resend_calls; repeats = repeat_calls }
