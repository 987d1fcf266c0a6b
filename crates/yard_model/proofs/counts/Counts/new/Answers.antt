use Rattle.std.proofs.Common.{ap, ◌∙◌}
use Rattle.std.specs.Prelude.{slice_index}
use Rattle.std.specs.Ordering.{nat_cmp}
use Rattle.std.specs.Cmp.Lexicographic.{slice_cmp}
use Rattle.std.specs.BTreeMap.{is_at}
use Rattle.std.specs.Map.{keys_of, lookup}
use Rattle.yard_model.specs.Counts.{row_in}
use Rattle.yard_model.proofs.CountsLaws.{zeros}
use Rattle.yard_model.proofs.counts.Counts.new.Goals as goal

pub returns : goal.returns
returns c = record {
  names = ap keys_of c.new.ensures.empty;
  each = λ q f. ap (λ es. slice_index (row_in c.new-2.result.items (lookup (is_at (slice_cmp nat_cmp f)) es)).counts q) c.new.ensures.empty ∙ zeros 33 q;
}
