use Rattle.std.proofs.Common.{◌∷◌, ◌++◌, [], sym, ap, ◌∙◌}
use Rattle.yard_model.specs.declared.packet.Record.{Record}
use Rattle.plain_laws.proofs.Booleans.{true_is_not_false}
use Rattle.shard_store.proofs.WrittenLaws.{record_wrote, wrote_any}
use Rattle.shard_store.proofs.reshape.add_record.Goals as goal

pub record_in-requires : goal.record_in-requires
record_in-requires c = record_wrote c.args.name.now c.args.entry.now (sym c.has_record_of.ensures ∙ c.if-has_record_of.true)

pub append-requires-clause-spare : goal.append-requires-clause-spare
append-requires-clause-spare c = (c.requires c.record_in.result.now (sym c.has_record_of.ensures ∙ c.if-has_record_of.true)).room

pub append-requires-clause-number : goal.append-requires-clause-number
append-requires-clause-number c = ap (λ (r : Record). r.number) c.record_in.ensures ∙ (c.requires c.record_in.result.now (sym c.has_record_of.ensures ∙ c.if-has_record_of.true)).number

pub returns-then-has_record_of-clause-more : goal.returns-then-has_record_of-clause-more
returns-then-has_record_of-clause-more c = λ d own. record {
  items = c.append.ensures.items ∙ ap (λ r. c.args.journal.now.items ++ r ∷ []) (c.record_in.ensures ∙ wrote_any c.args.entry.now c.record_in.result.now d (record_wrote c.args.name.now c.args.entry.now own));
  places = c.append.ensures.places;
  spare = c.append.ensures.spare;
}

pub returns-then-has_record_of-clause-none : goal.returns-then-has_record_of-clause-none
returns-then-has_record_of-clause-none c = λ other. absurd (true_is_not_false (sym c.if-has_record_of.true ∙ (c.has_record_of.ensures ∙ other)))

pub returns-else-has_record_of-clause-more : goal.returns-else-has_record_of-clause-more
returns-else-has_record_of-clause-more c = λ d own. absurd (true_is_not_false (sym own ∙ (sym c.has_record_of.ensures ∙ c.if-has_record_of.false)))
