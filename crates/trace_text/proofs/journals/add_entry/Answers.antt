use Rattle.std.proofs.Common.{◌≡◌, ◌++◌, ◌∷◌, [], sym, subst}
use Rattle.std.specs.Prelude.{map}
use Rattle.yard_model.specs.declared.entry.ShardEntry.{ShardEntry}
use Rattle.yard_model.specs.Entry.{shard_fact}
use Rattle.trace_text.specs.Places.{journals_of, lent_all}
use Rattle.trace_text.proofs.PlaceLaws.{found_at, not_there}
use Rattle.trace_text.proofs.JournalLaws.{journals_put, journals_pass}
use Rattle.trace_text.proofs.journals.add_entry.Goals as goal

pub returns-in_ok-add_record-clause-journals : goal.returns-in_ok-add_record-clause-journals
returns-in_ok-add_record-clause-journals c = λ s list was.
    subst (λ (x : ShardEntry). map lent_all c.add_record.new.journals.items ≡ journals_of c.args.names.now (list ++ shard_fact s x ∷ [])) (sym c.in-Wrote.is)
    (journals_put c.args.names.now c.in-Wrote.name c.in-Wrote.written list c.in-Some.place _ _ c.requires.sorted c.in-Some.ensures.0
    (found_at c.args.names.now c.in-Wrote.name c.in-Some.place c.in-Some.ensures.0 c.in-Some.ensures.1) c.in_ok-add_record.ensures.journals was)

pub returns-in_default-find-clause-journals : goal.returns-in_default-find-clause-journals
returns-in_default-find-clause-journals c = λ s list was.
    subst (λ (x : ShardEntry). map lent_all c.args.journals.now.items ≡ journals_of c.args.names.now (list ++ shard_fact s x ∷ [])) (sym c.in-Wrote.is)
    (journals_pass c.args.names.now c.in-Wrote.name c.in-Wrote.written list _ (not_there c.args.names.now c.in-Wrote.name c.in_default-find.ensures) was)
