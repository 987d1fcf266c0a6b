use Rattle.std.proofs.Common.{◌≡◌, ap, sym, ◌∙◌, refl}
use Rattle.std.specs.Prelude.{fold}
use Rattle.shard_store.specs.Stores.{lists_at}
use Rattle.yard_model.specs.Lawful.{lawful}
use Rattle.yard_model.specs.Script.{Script}
use Rattle.log_resume.specs.Restored.{freed, slots}
use Rattle.log_resume.proofs.FreedLaws.{goes_on}
use Rattle.log_resume.proofs.stores.freed_stores.Goals as goal

pub free_all-requires-clause-lawful : goal.free_all-requires-clause-lawful
free_all-requires-clause-lawful c = ap (λ s. lawful s c.args.store.lists) c.requires.script ∙ c.requires.stands.1.lawful_is

pub returns-clause-freed : goal.returns-clause-freed
returns-clause-freed c =
    ap (λ (d : Script). lists_at d.config c.into_stores.result.places) (sym (c.free_all.ensures.script ∙ c.requires.script))
    ∙ (c.into_stores.ensures.lists ∙ (c.in_ok-free_all.ensures.freed ∙ ap (λ (d : Script). fold freed c.args.store.lists (slots d)) c.requires.script))

pub returns-clause-go_on : goal.returns-clause-go_on
returns-clause-go_on c =
    let lists : lists_at c.args.charter.now.config c.into_stores.result.places ≡ fold freed c.args.store.lists (slots c.args.charter.now) =
    ap (λ (d : Script). lists_at d.config c.into_stores.result.places) (sym (c.free_all.ensures.script ∙ c.requires.script))
    ∙ (c.into_stores.ensures.lists ∙ (c.in_ok-free_all.ensures.freed ∙ ap (λ (d : Script). fold freed c.args.store.lists (slots d)) c.requires.script)) in
    goes_on (λ x. (c.slot_law.ensures x x).1 refl) c.args.charter.now c.requires.stands.0 c.args.store.lists (lists_at c.args.charter.now.config c.into_stores.result.places) c.requires.stands.1 lists
