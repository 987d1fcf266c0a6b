use Rattle.std.proofs.Common.{arith}
use Rattle.plain_laws.proofs.plain.limits_fit.Goals as goal

pub returns : goal.returns
returns c = record {
  orders = omega arith;
  numbers = omega arith;
  settle = omega arith;
  fits = omega arith;
}
