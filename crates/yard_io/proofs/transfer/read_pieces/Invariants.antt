use Rattle.std.proofs.Common.{◌≡◌, ◌≤◌, take, vec_len}
use Rattle.std.specs.Prelude.{IfSome}
use Rattle.yard_io.specs.Told.{without_first}
use Rattle.yard_io.proofs.transfer.read_pieces.Given as goal

-- the bytes that have come are gone from the source, at least one for each read
abbrev pub invariant-loop : goal.invariant-loop
invariant-loop g l = record {
  bytes : IfSome (g.S.Source.left l.initial.source) (λ xs. l.bytes.items ≡ take (vec_len l.bytes) xs);
  rest : g.S.Source.left l.source ≡ without_first (vec_len l.bytes) (g.S.Source.left l.initial.source);
  within : vec_len l.bytes ≤ l.limit;
  far : l.counter ≤ vec_len l.bytes;
  faults : g.S.Source.faults l.initial.source ≤ g.S.Source.faults l.source;
}
