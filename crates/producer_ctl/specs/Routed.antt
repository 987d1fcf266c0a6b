-- A call, as a rule of the node: the moves of the producer, and then each number routed.
use Rattle.std.specs.Prelude.{ℕ, ◌-◌, List, ◌++◌, map, fold, Option}
use Rattle.yard_model.specs.Node.{Node, Act, Rule, by_producer, after, route}
use Rattle.yard_model.specs.Producer.{Producer, producer_after, message_of}
use Rattle.yard_model.specs.Turns.{for_each, where_some}
use Rattle.yard_model.specs.Words.{at}
use Rattle.producer_ctl.specs.Produced.{Gives}

abbrev pub given_by : ℕ → Gives → Producer → Rule
given_by p g k st = map (by_producer p) g.moves ++ for_each after (λ n. route (message_of g.entity (fold producer_after k g.moves) n)) g.numbers (fold after st (map (by_producer p) g.moves))

abbrev pub calls_of : ℕ → (Producer → Gives) → Node → Option Producer → List Act
calls_of p f st o = where_some (λ k. given_by p (f k) k st) o

-- what f gives, where the queue is held
abbrev pub calls : ℕ → (Producer → Gives) → Rule
calls p f st = calls_of p f st (at st.producers (p - 1))
