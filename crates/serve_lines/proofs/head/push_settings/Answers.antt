use Rattle.std.proofs.lemmas.Result.{on_ok_weaker}
use Rattle.serve_lines.proofs.HeadLaws.{settings_pushed}
use Rattle.serve_lines.proofs.head.push_settings.Goals as goal

pub returns : goal.returns
returns c =
    on_ok_weaker c.push.result (settings_pushed c.args.config.now c.args.text.now.items c.push_sizes.new.text.items c.push_limits.new.text.items c.push_ways.new.text.items c.push.new.text.items
    c.in_ok-push_sizes.ensures c.in_ok-push_limits.ensures c.in_ok-push_ways.ensures) c.push.ensures
