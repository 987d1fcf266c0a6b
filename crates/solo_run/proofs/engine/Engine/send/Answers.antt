use Rattle.std.proofs.Common.{◌≡◌, ◌++◌, ◌∷◌, [], ℕ, List, ◌∙◌}
use Rattle.yard_model.specs.declared.packet.Message.{Message}
use Rattle.yard_model.specs.Solo.{alone}
use Rattle.solo_run.specs.declared.entities.Entities.{Entities}
use Rattle.solo_run.specs.Knowledge.{KnowsAll, known_at}
use Rattle.solo_run.specs.Known.{Known}
use Rattle.solo_run.specs.Facts.{facts_of}
use Rattle.solo_run.proofs.KnownLaws.{knows_sent, on_ok_of}
use Rattle.solo_run.proofs.PlaceLaws.{known_here, changed, put_at}
use Rattle.solo_run.proofs.engine.Engine.send.Goals as goal

pub returns-clause-knows : goal.returns-clause-knows
returns-clause-knows c =
    let m : Message = record { producer = c.args.producer; entity = c.args.entity.now; number = c.send-number.result; command = c.args.command.now; origin = alone } in
    let es : Entities = c.place.new.self in
    let i : ℕ = c.in_ok-place.place in
    let known : Known = c.index_mut-known.result.now in
    let now : Known = c.send-number.new.self in
    let is : known ≡ known_at c.args.self.now.config.kind c.args.self.now.entities c.args.entity.now =
    known_here c.args.self.now.config.kind es c.args.entity.now i known c.in_ok-place.ensures.kept c.in_ok-place.ensures.place c.index_mut-known.ensures.value ∙ c.in_ok-place.ensures.known c.args.entity.now in
    on_ok_of c.post.new.self (c.args.self.now.posted ++ m ∷ []) (λ (l : List Message). KnowsAll c.args.self.now.config l (facts_of c.args.self.now.lists.items) (put_at es i now)) c.post.result c.post.ensures.ok
    (knows_sent c.args.self.now.config c.args.self.now.posted (facts_of c.args.self.now.lists.items) c.args.self.now.entities (put_at es i now) m known now c.requires.knows is
    c.send-number.ensures.count c.send-number.ensures.others c.send-number.ensures.kind c.send-number.ensures.taken c.send-number.ensures.records c.send-number.ensures.state
    (changed c.args.self.now.config.kind c.args.self.now.entities es c.args.entity.now i now c.in_ok-place.ensures.known c.in_ok-place.ensures.kept c.in_ok-place.ensures.place) c.requires.command)
