use Rattle.std.proofs.Common.{◌≡◌, ◌∙◌, List, ℕ, take, drop, ap, arith}
use Rattle.std.specs.Int.{w32, from_be_bytes}
use Rattle.std.proofs.lemmas.List.{take_rest}
use Rattle.disk_log.proofs.ReadLaws.{size_said}
use Rattle.disk_log.proofs.reading.text_size.Goals as goal

pub returns-clause-some : goal.returns-clause-some
returns-clause-some c =
    let bytes = c.args.bytes.now in
    let said : c.length_at-size.result ≡ from_be_bytes w32 (take 4 (drop 1 bytes)) = c.length_at-size.ensures ∙ ap (λ (l : List ℕ). from_be_bytes w32 (take 4 l)) (take_rest bytes 1) in
    size_said bytes c.args.left c.length_at-size.result (λ i. omega (arith, c.type_inv.bytes i)) c.if-bytes-lt-HEAD.false said (omega (arith, c.if-size-eq0.false)) c.length_at-size.type_inv
    (omega (arith, c.if-from-left.false, c.from.ensures))
