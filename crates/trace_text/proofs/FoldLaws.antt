-- Events and records that are applicable one after the other.
use Rattle.std.proofs.Common.{◌≡◌, ℕ, ◌<◌, ◌+◌, List, ◌∷◌, refl, length, drop, sym, ap, ◌∙◌, subst}
use Rattle.std.proofs.lemmas.List.{drop_more}
use Rattle.std.specs.Prelude.{Bool, true, false, ◌&&◌, IsTrue, fold, slice_index_or}
use Rattle.yard_model.specs.declared.event.Event.{Event}
use Rattle.yard_model.specs.declared.packet.Record.{Record}
use Rattle.yard_model.specs.declared.state.State.{State}
use Rattle.yard_model.specs.Behaviour.{apply, is_applicable, are_applicable, after_record}
use Rattle.trace_text.specs.Foldable.{are_foldable}

first_of : (a b : Bool) → IsTrue (a && b) → IsTrue a
first_of true b h = refl
first_of false b h = h

second_of : (a b : Bool) → IsTrue (a && b) → IsTrue b
second_of true b h = h
second_of false b h = cc

pub applicable_first : (st : State) (e : Event) (es : List Event) → IsTrue (are_applicable st (e ∷ es)) → IsTrue (is_applicable st e)
applicable_first st e es h = first_of (is_applicable st e) (are_applicable (apply st e) es) h

pub applicable_next : (st : State) (e : Event) (es : List Event) → IsTrue (are_applicable st (e ∷ es)) → IsTrue (are_applicable (apply st e) es)
applicable_next st e es h = second_of (is_applicable st e) (are_applicable (apply st e) es) h

pub foldable_first : (st : State) (r : Record) (rs : List Record) → IsTrue (are_foldable st (r ∷ rs)) → IsTrue (are_applicable st r.events)
foldable_first st r rs h = first_of (are_applicable st r.events) (are_foldable (after_record st r) rs) h

pub foldable_next : (st : State) (r : Record) (rs : List Record) → IsTrue (are_foldable st (r ∷ rs)) → IsTrue (are_foldable (after_record st r) rs)
foldable_next st r rs h = second_of (are_applicable st r.events) (are_foldable (after_record st r) rs) h

-- one event more is applied
pub events_step : (st new start : State) (events : List Event) (i : ℕ) (d : Event) → i < length events → IsTrue (are_applicable st (drop i events))
    → fold apply st (drop i events) ≡ fold apply start events → new ≡ apply st (slice_index_or events i d)
    → IsTrue (are_applicable new (drop (i + 1) events)) × (fold apply new (drop (i + 1) events) ≡ fold apply start events)
events_step st new start events i d h a v e =
    let more : drop i events ≡ slice_index_or events i d ∷ drop (i + 1) events = drop_more events i d h in (
      subst (λ s. IsTrue (are_applicable s (drop (i + 1) events))) (sym e) (applicable_next st (slice_index_or events i d) (drop (i + 1) events) (subst (λ l. IsTrue (are_applicable st l)) more a)),
      ap (λ s. fold apply s (drop (i + 1) events)) e ∙ (sym (ap (λ l. fold apply st l) more) ∙ v),
    )

-- one record more is folded
pub records_step : (st new start : State) (records : List Record) (i : ℕ) (d : Record) → i < length records → IsTrue (are_foldable st (drop i records))
    → fold after_record st (drop i records) ≡ fold after_record start records → new ≡ fold apply st (slice_index_or records i d).events
    → IsTrue (are_foldable new (drop (i + 1) records)) × (fold after_record new (drop (i + 1) records) ≡ fold after_record start records)
records_step st new start records i d h a v e =
    let more : drop i records ≡ slice_index_or records i d ∷ drop (i + 1) records = drop_more records i d h in (
      subst (λ s. IsTrue (are_foldable s (drop (i + 1) records))) (sym e) (foldable_next st (slice_index_or records i d) (drop (i + 1) records) (subst (λ l. IsTrue (are_foldable st l)) more a)),
      ap (λ s. fold after_record s (drop (i + 1) records)) e ∙ (sym (ap (λ l. fold after_record st l) more) ∙ v),
    )
