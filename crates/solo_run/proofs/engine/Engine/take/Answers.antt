use Rattle.std.proofs.Common.{◌≡◌, ◌<◌, ◌≤◌, ◌+◌, [], ℕ, List, length, sym, ◌∙◌, subst, arith}
use Rattle.std.specs.Prelude.{◌==◌, slice_index_or}
use Rattle.yard_model.specs.declared.charter.Config.{Config}
use Rattle.yard_model.specs.declared.fact.Fact.{Fact}
use Rattle.yard_model.specs.declared.fact.Fact.TheVariants as fact
use Rattle.yard_model.specs.declared.packet.Message.{Message}
use Rattle.yard_model.specs.declared.packet.Record.{Record}
use Rattle.yard_model.specs.Shard.{shard}
use Rattle.yard_model.specs.SlotReads.{journal, position}
use Rattle.yard_model.specs.Solo.{next_record}
use Rattle.solo_run.specs.declared.entities.Entities.{Entities}
use Rattle.solo_run.specs.Knowledge.{Knows, KnowsAll, known_at}
use Rattle.solo_run.specs.Known.{Known}
use Rattle.solo_run.specs.Facts.{facts_of, with_fact}
use Rattle.solo_run.proofs.FactsLaws.{length_facts}
use Rattle.solo_run.proofs.KnownLaws.{knows_recorded, knows_unrecorded, taken_next, with_taken_some, with_taken_none, position_within, on_ok_of, on_ok_same}
use Rattle.solo_run.proofs.PlaceLaws.{known_here, changed, put_at}
use Rattle.solo_run.proofs.engine.Engine.take.Goals as goal

pub take-taken-requires-clause-place : goal.take-taken-requires-clause-place
take-taken-requires-clause-place g c some most =
    let config : Config = c.args.self.now.config in
    let lists : List (List Fact) = facts_of c.args.self.now.lists.items in
    let m : Message = c.args.message.now in
    let es : Entities = c.place.new.self in
    let i : ℕ = c.in_ok-place.place in
    let known : Known = c.index_mut-known.result.now in
    let is : known ≡ known_at config.kind c.args.self.now.entities m.entity =
    known_here config.kind es m.entity i known c.in_ok-place.ensures.kept c.in_ok-place.ensures.place c.index_mut-known.ensures.value ∙ c.in_ok-place.ensures.known m.entity in
    let records : List Record = journal m.entity (slice_index_or lists (shard config.shards m.entity) []) in
    let it : Knows config.kind m.entity c.args.self.now.posted records known = subst (Knows config.kind m.entity c.args.self.now.posted records) (sym is) (c.requires.knows.each m.entity) in
    let within : position m.producer records ≤ length records = position_within m.producer records in
    let room : length records < 4294967295 = c.requires.room m.entity in
    subst (λ n. n < 4294967295) (sym (it.taken_is m.producer some most)) (omega arith)

pub push_record-requires-clause-wide : goal.push_record-requires-clause-wide
push_record-requires-clause-wide g c = sym (length_facts 0 c.args.self.now.lists.items) ∙ c.requires.knows.wide

pub returns-in-Some-clause-knows : goal.returns-in-Some-clause-knows
returns-in-Some-clause-knows g c =
    let config : Config = c.args.self.now.config in
    let lists : List (List Fact) = facts_of c.args.self.now.lists.items in
    let m : Message = c.args.message.now in
    let es : Entities = c.place.new.self in
    let i : ℕ = c.in_ok-place.place in
    let known : Known = c.index_mut-known.result.now in
    let is : known ≡ known_at config.kind c.args.self.now.entities m.entity =
    known_here config.kind es m.entity i known c.in_ok-place.ensures.kept c.in_ok-place.ensures.place c.index_mut-known.ensures.value ∙ c.in_ok-place.ensures.known m.entity in
    let now : Known = c.take-taken.new.self in
    on_ok_of _ _ (λ (l : List (List Fact)). KnowsAll config c.args.self.now.posted l (put_at es i now)) c.push_record.result c.push_record.ensures
    (knows_recorded config c.args.self.now.posted lists c.args.self.now.entities (put_at es i now) m c.in-Some.entry known now c.requires.knows is
    c.take-taken.ensures.producer.0 c.take-taken.ensures.producer.1 c.in-Some.ensures.record_is c.in-Some.ensures.entity
    (changed config.kind c.args.self.now.entities es m.entity i now c.in_ok-place.ensures.known c.in_ok-place.ensures.kept c.in_ok-place.ensures.place))

pub returns-in-Some-clause-lists : goal.returns-in-Some-clause-lists
returns-in-Some-clause-lists g c =
    let config : Config = c.args.self.now.config in
    let lists : List (List Fact) = facts_of c.args.self.now.lists.items in
    let m : Message = c.args.message.now in
    let es : Entities = c.place.new.self in
    let i : ℕ = c.in_ok-place.place in
    let known : Known = c.index_mut-known.result.now in
    let is : known ≡ known_at config.kind c.args.self.now.entities m.entity =
    known_here config.kind es m.entity i known c.in_ok-place.ensures.kept c.in_ok-place.ensures.place c.index_mut-known.ensures.value ∙ c.in_ok-place.ensures.known m.entity in
    let records : List Record = journal m.entity (slice_index_or lists (shard config.shards m.entity) []) in
    let it : Knows config.kind m.entity c.args.self.now.posted records known = subst (Knows config.kind m.entity c.args.self.now.posted records) (sym is) (c.requires.knows.each m.entity) in
    on_ok_same _ (with_fact (shard config.shards m.entity) (fact.Wrote m.entity c.in-Some.entry) lists) _ c.push_record.result c.push_record.ensures
    (with_taken_some (shard config.shards m.entity) m.entity lists (m.number == position m.producer records + 1) (next_record config.kind records m) c.in-Some.entry
    (c.in-Some.ensures.record_is ∙ taken_next config.kind m.entity c.args.self.now.posted records m known it c.take-taken.ensures.producer.0 c.take-taken.ensures.producer.1))

pub returns-in-None-clause-knows : goal.returns-in-None-clause-knows
returns-in-None-clause-knows g c =
    let config : Config = c.args.self.now.config in
    let lists : List (List Fact) = facts_of c.args.self.now.lists.items in
    let m : Message = c.args.message.now in
    let es : Entities = c.place.new.self in
    let i : ℕ = c.in_ok-place.place in
    let known : Known = c.index_mut-known.result.now in
    let is : known ≡ known_at config.kind c.args.self.now.entities m.entity =
    known_here config.kind es m.entity i known c.in_ok-place.ensures.kept c.in_ok-place.ensures.place c.index_mut-known.ensures.value ∙ c.in_ok-place.ensures.known m.entity in
    let now : Known = c.take-taken.new.self in
    knows_unrecorded config c.args.self.now.posted lists c.args.self.now.entities (put_at es i now) m.entity known now c.requires.knows is c.in-None.ensures.entity
    (changed config.kind c.args.self.now.entities es m.entity i now c.in_ok-place.ensures.known c.in_ok-place.ensures.kept c.in_ok-place.ensures.place)

pub returns-in-None-clause-lists : goal.returns-in-None-clause-lists
returns-in-None-clause-lists g c =
    let config : Config = c.args.self.now.config in
    let lists : List (List Fact) = facts_of c.args.self.now.lists.items in
    let m : Message = c.args.message.now in
    let es : Entities = c.place.new.self in
    let i : ℕ = c.in_ok-place.place in
    let known : Known = c.index_mut-known.result.now in
    let is : known ≡ known_at config.kind c.args.self.now.entities m.entity =
    known_here config.kind es m.entity i known c.in_ok-place.ensures.kept c.in_ok-place.ensures.place c.index_mut-known.ensures.value ∙ c.in_ok-place.ensures.known m.entity in
    let records : List Record = journal m.entity (slice_index_or lists (shard config.shards m.entity) []) in
    let it : Knows config.kind m.entity c.args.self.now.posted records known = subst (Knows config.kind m.entity c.args.self.now.posted records) (sym is) (c.requires.knows.each m.entity) in
    with_taken_none (shard config.shards m.entity) m.entity lists (m.number == position m.producer records + 1) (next_record config.kind records m)
    (c.in-None.ensures.record_is ∙ taken_next config.kind m.entity c.args.self.now.posted records m known it c.take-taken.ensures.producer.0 c.take-taken.ensures.producer.1)
