use Rattle.std.proofs.Common.{◌≡◌, sym, subst, ◌∙◌, true}
use Rattle.std.specs.Prelude.{slice_index}
use Rattle.std.specs.Int.{bit_at}
use Rattle.std.proofs.lemmas.Nat.Bits.{bit_at_or}
use Rattle.script_text.specs.Words.{is_printable}
use Rattle.script_text.proofs.Lanes.{none_set, some_set}
use Rattle.script_text.proofs.cut.stops_of.Goals as goal

pub returns-clause-before : goal.returns-clause-before
returns-clause-before c k near unset =
    let either = bit_at_or c.below_space.result c.above_tilde.result k in
    subst (λ b. is_printable b ≡ true) (c.chunk_at-chunk.ensures k near)
    (none_set k (slice_index c.chunk_at-chunk.result k) (bit_at c.below_space.result k) (bit_at c.above_tilde.result k) near (c.below_space.ensures k) (c.above_tilde.ensures k) (sym either ∙ unset))

pub returns-clause-within : goal.returns-clause-within
returns-clause-within c k set =
    let either = bit_at_or c.below_space.result c.above_tilde.result k in
    some_set k (slice_index c.chunk_at-chunk.result k) (bit_at c.below_space.result k) (bit_at c.above_tilde.result k) (c.below_space.ensures k) (c.above_tilde.ensures k) (sym either ∙ set)
