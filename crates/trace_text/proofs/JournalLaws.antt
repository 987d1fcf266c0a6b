-- The journals of names after one entry more.
use Rattle.std.proofs.Common.{◌≡◌, ◌≢◌, ℕ, ◌<◌, List, [], ◌∷◌, ◌++◌, ◌+◌, take, length, sym, ap, ◌∙◌, refl}
use Rattle.std.specs.Prelude.{false, map, slice_index_or, slice_set, if◌then◌else◌}
use Rattle.std.specs.Ordering.{nat_cmp}
use Rattle.std.specs.Cmp.Lexicographic.{slice_cmp, nat_list_eq_equiv}
use Rattle.std.specs.List.{HoldsAt}
use Rattle.std.specs.List.Sorted.{IsStrictlySortedBy}
use Rattle.std.proofs.lemmas.List.Sums.{fold-append}
use Rattle.std.proofs.lemmas.List.{get_or-map, take_more, map-append}
use Rattle.yard_model.specs.declared.entry.ShardEntry.{ShardEntry}
use Rattle.yard_model.specs.Entry.{shard_fact}
use Rattle.yard_model.specs.declared.fact.Fact.{Fact}
use Rattle.yard_model.specs.declared.fact.Fact.TheVariants as fact
use Rattle.yard_model.specs.declared.packet.Record.{Record}
use Rattle.yard_model.specs.Script.{is_name}
use Rattle.yard_model.specs.SlotReads.{journal, journal_step}
use Rattle.trace_text.specs.Places.{journals_of}
use Rattle.trace_text.proofs.PlaceLaws.{put_at, put_nowhere}

journal_more : (n : List ℕ) (list : List Fact) (f : Fact) → journal n (list ++ f ∷ []) ≡ journal_step n (journal n list) f
journal_more n list f = fold-append (journal_step n) [] list (f ∷ [])

-- a record of another name
elsewhere : (e : List ℕ) (r : Record) (list : List Fact) (n : List ℕ) → is_name e n ≡ false → journal n (list ++ fact.Wrote e r ∷ []) ≡ journal n list
elsewhere e r list n o = journal_more n list (fact.Wrote e r) ∙ ap (λ b. if b then journal n list ++ r ∷ [] else journal n list) o

here : (e : List ℕ) (r : Record) (list : List Fact) → journal e (list ++ fact.Wrote e r ∷ []) ≡ journal e list ++ r ∷ []
here e r list = journal_more e list (fact.Wrote e r) ∙ ap (λ b. if b then journal e list ++ r ∷ [] else journal e list) (nat_list_eq_equiv.refl e)

-- a record of the name at a place
pub journals_put : (names : List (List ℕ)) (e : List ℕ) (r : Record) (list : List Fact) (p : ℕ) (old new : List (List Record)) → IsStrictlySortedBy (slice_cmp nat_cmp) names → p < length names
    → HoldsAt (λ y. y ≡ e) names p → new ≡ slice_set old p (slice_index_or old p [] ++ r ∷ []) → old ≡ journals_of names list → new ≡ journals_of names (list ++ fact.Wrote e r ∷ [])
journals_put names e r list p old new s h is set was =
    set ∙ (ap (λ rows. slice_set rows p (slice_index_or rows p [] ++ r ∷ [])) was
    ∙ (ap (λ l. slice_set (journals_of names list) p (l ++ r ∷ [])) (get_or-map (λ n. journal n list) names p e [] h ∙ ap (λ n. journal n list) (is e))
    ∙ (ap (λ l. slice_set (journals_of names list) p l) (sym (here e r list))
    ∙ sym (put_at (λ n. journal n list) (λ n. journal n (list ++ fact.Wrote e r ∷ [])) e names p s h is (elsewhere e r list)))))

-- a record of a name that is not among them
pub journals_pass : (names : List (List ℕ)) (e : List ℕ) (r : Record) (list : List Fact) (old : List (List Record)) → ((k : ℕ) → k < length names → slice_index_or names k e ≢ e)
    → old ≡ journals_of names list → old ≡ journals_of names (list ++ fact.Wrote e r ∷ [])
journals_pass names e r list old none was = was ∙ sym (put_nowhere (λ n. journal n list) (λ n. journal n (list ++ fact.Wrote e r ∷ [])) e names none (elsewhere e r list))

pub other_entry : (names : List (List ℕ)) (f : Fact) (list : List Fact) (old : List (List Record)) → ((n : List ℕ) (l : List Record) → journal_step n l f ≡ l)
    → old ≡ journals_of names list → old ≡ journals_of names (list ++ f ∷ [])
other_entry names f list old same was = was ∙ each names
  where
    each : (ns : List (List ℕ)) → journals_of ns list ≡ journals_of ns (list ++ f ∷ [])
    each [] = refl
    each (n ∷ ns) = ap (λ l. l ∷ journals_of ns list) (sym (journal_more n list f ∙ same n (journal n list))) ∙ ap (λ ls. journal n (list ++ f ∷ []) ∷ ls) (each ns)

-- one entry more is taken
pub facts_more : (s : ℕ) (list : List ShardEntry) (i : ℕ) (x : ShardEntry) → i < length list → x ≡ slice_index_or list i x
    → map (shard_fact s) (take i list) ++ shard_fact s x ∷ [] ≡ map (shard_fact s) (take (i + 1) list)
facts_more s list i x h is = sym (ap (map (shard_fact s)) (take_more list i x h) ∙ (map-append (shard_fact s) (take i list) (slice_index_or list i x ∷ []) ∙ ap (λ y. map (shard_fact s) (take i list) ++ shard_fact s y ∷ []) (sym is)))
