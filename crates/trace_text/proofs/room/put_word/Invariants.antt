use Rattle.std.proofs.Common.{◌≡◌, ◌+◌, ◌++◌, take}
use Rattle.trace_text.proofs.room.put_word.Given as goal

abbrev pub invariant-loop-byte : goal.invariant-loop-byte
invariant-loop-byte g l =
    (take l.end l.cells ≡ take l.fn.at l.fn.cells ++ take l.byte-index l.word) × (l.end ≡ l.fn.at + l.byte-index)
