use Rattle.std.proofs.lemmas.Simd.{get_or-chunk}
use Rattle.script_text.proofs.cut.chunk_at.Goals as goal

pub returns : goal.returns
returns c k l = get_or-chunk c.args.at 16 c.args.bytes.now k 0 l
