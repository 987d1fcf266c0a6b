use Rattle.std.proofs.Common.{[], get_or, map, ap, ◌∙◌, Vec, Global}
use Rattle.std.proofs.lemmas.List.{map-set, get_or-set_other}
use Rattle.yard_model.specs.declared.event.Command.{Command}
use Rattle.durable_queue.proofs.moved.taken_at.Goals as goal

pub returns-clause-others : goal.returns-clause-others
returns-clause-others c = λ k ne.
    let seen = λ (v : Vec Command Global). v.items in
    ap (λ l. get_or l k []) (map-set seen c.args.plans.now.items c.args.place c.replace.new.dest) ∙ get_or-set_other (map seen c.args.plans.now.items) c.args.place k (seen c.replace.new.dest) [] ne
