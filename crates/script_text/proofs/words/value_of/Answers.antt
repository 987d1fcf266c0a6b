use Rattle.std.proofs.Common.{◌≡◌, ◌<◌, ◌≤◌, ◌+◌, ◌*◌, ◌^◌, sym, ◌∙◌, arith}
use Rattle.std.specs.Prelude.{slice_index_or}
use Rattle.script_text.proofs.Names.{digit_within, power_more, power_within}
use Rattle.script_text.proofs.words.value_of.Goals as goal

pub overflow_mul-value : goal.overflow_mul-value
overflow_mul-value c =
    let within : 10 ^ c.loop-b.b-index ≤ 10 ^ 18 = power_within c.loop-b.b-index (omega arith) in
    let small : c.loop-b.value < 10 ^ c.loop-b.b-index = c.loop-b.invariant.small in
    let more : 10 ^ (c.loop-b.b-index + 1) ≡ 10 ^ c.loop-b.b-index * 10 = power_more c.loop-b.b-index in
    let next : 10 ^ (c.loop-b.b-index + 1) ≤ 10 ^ 18 = power_within (c.loop-b.b-index + 1) (omega arith) in
    omega arith

pub overflow_add-value : goal.overflow_add-value
overflow_add-value c =
    let top : slice_index_or c.args.word.now c.loop-b.b-index 0 ≤ 57 = (digit_within (slice_index_or c.args.word.now c.loop-b.b-index 0) (sym c.is_digit.ensures ∙ c.if-not-is_digit.false)).1 in
    let small : c.loop-b.value < 10 ^ c.loop-b.b-index = c.loop-b.invariant.small in
    let more : 10 ^ (c.loop-b.b-index + 1) ≡ 10 ^ c.loop-b.b-index * 10 = power_more c.loop-b.b-index in
    let next : 10 ^ (c.loop-b.b-index + 1) ≤ 10 ^ 18 = power_within (c.loop-b.b-index + 1) (omega arith) in
    omega arith
