-- What is written of an answer.
use Rattle.std.specs.Prelude.{[], ◌∷◌, ◌++◌, codes, decimal}
use Rattle.yard_model.specs.Text.{Bytes}
use Rattle.judge_laws.specs.declared.breach.Breach.{Breach}
use Rattle.judge_laws.specs.declared.breach.Breach.TheVariants as breach
use Rattle.verdict_laws.specs.declared.answer.Answer.{Answer}
use Rattle.verdict_laws.specs.declared.answer.Answer.TheVariants as answer

-- a breach in words
abbrev pub sentence_in : Breach → Bytes
sentence_in breach.NoName = codes "the script brings no such name"
sentence_in breach.NoProducer = codes "the script has no such producer"
sentence_in breach.NoSlot = codes "the script has no such slot"
sentence_in breach.NoShard = codes "the script has no such shard"
sentence_in breach.NoNode = codes "the script has no such node"
sentence_in breach.TwoLive = codes "two live incarnations"
sentence_in breach.NoLease = codes "live without its shard's lease"
sentence_in breach.OtherState = codes "a state that isn't its journal's"
sentence_in breach.GrantedHeld = codes "a lease that is granted while it is held"
sentence_in breach.NotNextEpoch = codes "an epoch that isn't the next"
sentence_in breach.Unheld = codes "an entry of a slot that nobody holds"
sentence_in breach.NotItsGrant = codes "an epoch that isn't the grant's"
sentence_in breach.FreedLive = codes "a lease that is freed while an entity of its shard is live"
sentence_in breach.NotLive = codes "a record of an entity that isn't live"
sentence_in breach.OtherEpoch = codes "a record of another epoch"
sentence_in breach.NotNextRecord = codes "a record that isn't the next"
sentence_in breach.NotNextCommand = codes "a record that isn't of its producer's next command"
sentence_in breach.NotDecided = codes "a record that isn't decided so"
sentence_in breach.NotRising = codes "a confirmation that doesn't rise, or of what isn't queued"
sentence_in breach.NotRecorded = codes "a confirmation of what isn't recorded"
sentence_in breach.OutOfOrder = codes "a queue entry out of order"
sentence_in breach.NotToRegister = codes "a region that is registered, or one too many"
sentence_in breach.NotRegistered = codes "a region that isn't registered"
sentence_in breach.NotToAllocate = codes "a shard that has a home, or a home that isn't registered"
sentence_in breach.NoHome = codes "a shard without a home"
sentence_in breach.NotASnapshot = codes "a snapshot that isn't of the journal"
sentence_in breach.IsRemembered = codes "a name that is remembered"
sentence_in breach.IsNotRemembered = codes "a name that isn't remembered"
sentence_in breach.NotJudged = codes "reshard isn't judged"

-- `safe FACTS ENTRIES RECORDS`, `line N: SENTENCE` or `line N: no fact`
abbrev pub answer_words : Answer → Bytes
answer_words (answer.Safe n) = codes "safe " ++ decimal n.facts ++ codes " " ++ decimal n.entries ++ codes " " ++ decimal n.records
answer_words (answer.Broken n why q) = codes "line " ++ decimal n ++ codes ": " ++ sentence_in why
answer_words (answer.NoFact n q) = codes "line " ++ decimal n ++ codes ": no fact"

-- as one line
abbrev pub answer_line : Answer → Bytes
answer_line a = answer_words a ++ 10 ∷ []

-- behind it what is shown of the trace's line, indented
abbrev pub shown_line : Answer → Bytes
shown_line (answer.Safe n) = []
shown_line (answer.Broken n why q) = codes "  " ++ (q ++ 10 ∷ [])
shown_line (answer.NoFact n q) = codes "  " ++ (q ++ 10 ∷ [])

abbrev pub answer_text : Answer → Bytes
answer_text a = answer_line a ++ shown_line a
