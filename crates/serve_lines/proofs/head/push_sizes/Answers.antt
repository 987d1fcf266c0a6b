use Rattle.std.proofs.Common.{◌++◌, ap, ◌∙◌}
use Rattle.std.specs.Prelude.{codes, decimal}
use Rattle.std.proofs.lemmas.Result.{on_ok_weaker}
use Rattle.serve_lines.proofs.HeadLaws.{three_pushed}
use Rattle.serve_lines.proofs.head.push_sizes.Goals as goal

pub returns : goal.returns
returns c =
    on_ok_weaker c.push_counted-3.result
    (λ last. three_pushed c.args.text.now.items c.push_counted.new.text.items c.push_counted-2.new.text.items c.push_counted-3.new.text.items
    (codes "config nodes=") (decimal c.args.config.now.nodes) (codes " shards=") (decimal c.args.config.now.shards) (codes " producers=") (decimal c.args.config.now.producers)
    (c.in_ok-push_counted.ensures ∙ ap (λ n. c.args.text.now.items ++ (codes "config nodes=" ++ decimal n)) c.from.ensures)
    (c.in_ok-push_counted-2.ensures ∙ ap (λ n. c.push_counted.new.text.items ++ (codes " shards=" ++ decimal n)) c.from-2.ensures)
    (last ∙ ap (λ n. c.push_counted-2.new.text.items ++ (codes " producers=" ++ decimal n)) c.from-3.ensures)) c.push_counted-3.ensures
