use Rattle.std.proofs.Common.{◌≡◌, ◌∷◌, ◌++◌, ap, sym, ◌∙◌}
use Rattle.std.specs.Prelude.{codes, decimal, filter}
use Rattle.std.proofs.lemmas.Result.{on_ok_weaker}
use Rattle.yard_model.specs.Script.{setting}
use Rattle.yard_model.specs.Setting.{shard_of}
use Rattle.yard_model.specs.SlotLists.{shard_list}
use Rattle.yard_model.specs.SlotReads.{journal}
use Rattle.yard_model.specs.Text.{line}
use Rattle.shard_store.specs.Stores.{lists_at}
use Rattle.serve_laws.specs.Served.{is_record_of, reply_at, reply_words}
use Rattle.serve_answers.specs.Records.{records_in}
use Rattle.serve_answers.proofs.ShownLaws.{listed}
use Rattle.serve_answers.proofs.answers.push_reply.Goals as goal

pub reply_of-reply-requires : goal.reply_of-reply-requires
reply_of-reply-requires c =
    let same : journal c.args.entity.now (shard_list (lists_at c.args.charter.now.config c.args.stores.now.places) (shard_of (setting c.args.charter.now) c.args.entity.now)) ≡ records_in c.args.entity.now c.shard.result.now =
    listed c.args.charter.now c.args.stores.now.script c.config.result.now c.args.stores.now.places c.shard_of-shard.result c.args.entity.now c.shard.result.now c.requires.script c.config.ensures.value c.shard_of-shard.ensures c.shard.ensures in
    (c.requires.recorded.0, ap (filter (is_record_of c.args.producer c.args.number)) (sym same) ∙ c.requires.recorded.1)

pub returns : goal.returns
returns c =
    let same : journal c.args.entity.now (shard_list (lists_at c.args.charter.now.config c.args.stores.now.places) (shard_of (setting c.args.charter.now) c.args.entity.now)) ≡ records_in c.args.entity.now c.shard.result.now =
    listed c.args.charter.now c.args.stores.now.script c.config.result.now c.args.stores.now.places c.shard_of-shard.result c.args.entity.now c.shard.result.now c.requires.script c.config.ensures.value c.shard_of-shard.ensures c.shard.ensures in
    on_ok_weaker c.push_done.result
    (λ pushed. pushed ∙ ap (λ o. c.args.text.now.items ++ line (codes "done" ∷ decimal c.args.producer ∷ c.args.entity.now ∷ decimal c.args.number ∷ reply_words o))
    (sym (ap (reply_at c.args.producer c.args.number) same ∙ c.reply_of-reply.ensures)))
    c.push_done.ensures
