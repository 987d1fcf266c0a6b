use Rattle.bulk_gen.proofs.DrawLaws.{draw_value, draw_rest}
use Rattle.bulk_gen.proofs.draws.draw.Goals as goal

pub returns-clause-value : goal.returns-clause-value
returns-clause-value c = draw_value c.args.k c.next_word.result c.args.rng.now c.next_word.new.self c.next_word.ensures

pub returns-clause-rest : goal.returns-clause-rest
returns-clause-rest c = draw_rest c.args.k c.next_word.result c.args.rng.now c.next_word.new.self c.next_word.ensures
