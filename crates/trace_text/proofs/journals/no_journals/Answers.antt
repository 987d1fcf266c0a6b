use Rattle.std.proofs.Common.{◌++◌, ◌∷◌, [], ◌∙◌, Global, List, Vec, ap, arith, refl}
use Rattle.std.specs.Prelude.{map}
use Rattle.std.specs.Borrow.{Bor}
use Rattle.std.proofs.lemmas.List.{map-append}
use Rattle.yard_model.specs.declared.packet.Record.{Record}
use Rattle.yard_model.specs.SlotReads.{journal}
use Rattle.trace_text.specs.Places.{lent, lent_all}
use Rattle.trace_text.proofs.RowLaws.{map_done, map_next}
use Rattle.trace_text.proofs.journals.no_journals.Goals as goal

pub loop-preserved : goal.loop-preserved
loop-preserved c =
    let old = c.loop.journals.items in
    map_next (λ e. journal e []) c.args.names.now c.loop.index [] [] (map lent_all old) (map lent_all c.push.new.self.items) _ (omega arith)
    (ap (λ (l : List (Vec (Bor Record) Global)). map lent_all l) c.in_ok-push.ensures.items
    ∙ (map-append lent_all old (c.new.result ∷ []) ∙ ap (λ (l : List (Bor Record)). map lent_all old ++ lent l ∷ []) c.new.ensures.items)) refl c.loop.invariant

pub returns : goal.returns
returns c = map_done (λ e. journal e []) c.args.names.now c.loop.index (map lent_all c.loop.journals.items) _ (omega arith) c.loop.invariant
