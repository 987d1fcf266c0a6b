use Rattle.std.proofs.Common.{◌∙◌, ◌+◌, sym, ap, true}
use Rattle.std.specs.List.{position}
use Rattle.yard_io.proofs.ToldLemmas.{rest_is}
use Rattle.serve_run.specs.Windows.{is_lf}
use Rattle.serve_run.proofs.WindowLaws.{first_group, first_past, none_past}
use Rattle.serve_run.proofs.window.first_end.Goals as goal

pub returns-in-Some-clause-some : goal.returns-in-Some-clause-some
returns-in-Some-clause-some c =
    first_group c.args.bytes.now (c.args.plain + c.in-Some.place) true
    (first_past c.args.bytes.now c.args.plain c.in-Some.place c.requires (ap (position is_lf) (sym (rest_is c.args.plain c.args.bytes.now)) ∙ sym c.in-Some.ensures.place))

pub returns-in-None-clause-none : goal.returns-in-None-clause-none
returns-in-None-clause-none c = none_past c.args.bytes.now c.args.plain c.requires (ap (position is_lf) (sym (rest_is c.args.plain c.args.bytes.now)) ∙ sym c.in-None.ensures.place)
