-- The frames of a desk, one more at a time.
use Rattle.std.proofs.Common.{◌≡◌, List, [], ◌∷◌, ◌++◌, length, map, inl, inr, sym, ◌∙◌, ap, subst, arith, append_assoc}
use Rattle.std.specs.Prelude.{Option, Some, None}
use Rattle.std.proofs.lemmas.List.{map-append, map_push}
use Rattle.yard_model.specs.declared.fact.Fact.{Fact}
use Rattle.yard_model.specs.Script.{Script}
use Rattle.yard_model.specs.Text.{Bytes, line}
use Rattle.disk_log.specs.Spelled.{lines}
use Rattle.serve_laws.specs.Hearing.{after_all}
use Rattle.serve_laws.specs.Hearings.{AllGoOn, GoOn}
use Rattle.serve_laws.specs.Served.{Desk, config_words, frames, grouped, head_of}
use Rattle.serve_laws.specs.Servings.{LogStays}
use Rattle.serve_books.specs.Books.{Adds}
use Rattle.serve_service.specs.Services.{with_text}
use Rattle.serve_service.proofs.TextLaws.{text_none, text_some}

-- a batch more, or none
pub frames_with : (d e : Desk) (text : Bytes) → head_of e.so_far ≡ head_of d.so_far → Adds d.log e.log text → with_text (frames d) text ≡ frames e
frames_with d e text head (inl (none, same)) =
    text_none (frames d) text none ∙ (ap (λ h. h ++ map lines d.log) (sym head) ∙ ap (λ l. head_of e.so_far ++ map lines l) (sym same))
frames_with d e text head (inr (facts, is, t, batch)) =
    let some : text ≡ [] → ⊥ = λ none. omega (arith, batch.some, ap length (t ∙ none)) in
    text_some (frames d) text some
    ∙ (append_assoc (head_of d.so_far) (map lines d.log) (text ∷ [])
    ∙ (ap (λ h. h ++ (map lines d.log ++ text ∷ [])) (sym head)
    ∙ ap (λ l. head_of e.so_far ++ l) (ap (λ x. map lines d.log ++ x ∷ []) (sym t) ∙ (sym (map_push lines d.log facts) ∙ ap (map lines) (sym is)))))

-- more batches
pub frames_grow : (d e : Desk) (more : List (List Fact)) → head_of e.so_far ≡ head_of d.so_far → e.log ≡ d.log ++ more → frames e ≡ frames d ++ map lines more
frames_grow d e more head log =
    ap (λ h. h ++ map lines e.log) head
    ∙ (ap (λ l. head_of d.so_far ++ map lines l) log
    ∙ (ap (λ l. head_of d.so_far ++ l) (map-append lines d.log more) ∙ sym (append_assoc (head_of d.so_far) (map lines d.log) (map lines more))))

-- settings that are in force stay so
pub head_stays : AllGoOn → (d : Desk) (c : Script) (ls : List Bytes) → d.so_far ≡ Some c → head_of (grouped d ls).so_far ≡ head_of d.so_far
head_stays go d c ls is = by (after_all d.so_far ls) (subst (λ so. GoOn so (after_all d.so_far ls)) is (go d.so_far ls)) ∙ ap head_of (sym is)
  where
    by : (so : Option Script) → GoOn (Some c) so → head_of so ≡ head_of (Some c)
    by None g = absurd g
    by (Some e) g = ap (λ config. line (config_words config) ∷ []) g.0

-- a group
pub frames_after : AllGoOn → (d e : Desk) (c : Script) (ls : List Bytes) (text : Bytes) → d.so_far ≡ Some c → e ≡ grouped d ls → Adds d.log e.log text → with_text (frames d) text ≡ frames e
frames_after go d e c ls text some is adds = frames_with d e text (ap (λ (x : Desk). head_of x.so_far) is ∙ head_stays go d c ls some) adds

pub frames_longer : AllGoOn → LogStays → (d : Desk) (c : Script) (ls : List Bytes) → d.so_far ≡ Some c → (rest : List Bytes) × (frames (grouped d ls) ≡ frames d ++ rest)
frames_longer go stays d c ls some = let m = stays d (ls ∷ []) in (map lines m.0, frames_grow d (grouped d ls) m.0 (head_stays go d c ls some) m.1)
