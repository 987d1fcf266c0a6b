-- A line is heard as what it asks.
use Rattle.std.proofs.Common.{◌≡◌, ℕ, List, refl, sym, ap, ◌∙◌}
use Rattle.std.specs.Prelude.{Option, Some, None, Result, Ok, Err}
use Rattle.yard_model.specs.declared.charter.Config.{Config}
use Rattle.yard_model.specs.declared.event.Command.{Command}
use Rattle.yard_model.specs.Script.{Script}
use Rattle.script_text.specs.declared.fault.Why.{Why}
use Rattle.script_text.specs.Faults.{◌>>=◌, ◌&◌}
use Rattle.script_text.specs.Orders.{command_of, first, name, number}
use Rattle.serve_laws.specs.Hearing.{Ask, OfEntity, OfReport, ToDo, answered, ask, asked}
use Rattle.serve_laws.specs.Hearing.{Request as Numbered, request as numbered}
use Rattle.serve_lines.specs.declared.requests.Request.{Request}
use Rattle.serve_lines.specs.declared.requests.Request.TheVariants as request
use Rattle.serve_lines.specs.Asking.{heard_as, of_ask, of_parts, of_request, of_words, read_as, settings_in}

answered_as : (c : Script) (x : Result Ask Why) → answered c x ≡ heard_as (Some c) (of_words x)
answered_as c (Err w) = refl
answered_as c (Ok OfReport) = refl
answered_as c (Ok (OfEntity e)) = refl
answered_as c (Ok (ToDo r)) = refl

same_settings : (a b : Config) → Some a ≡ Some b → a ≡ b
same_settings a b e = cc

no_settings : (a : Config) → Some a ≡ None → ⊥
no_settings a e = cc

-- A request, word by word.

abbrev Parts : Type 0
Parts = ((ℕ × List ℕ) × ℕ) × Command

abbrev numbered_of : Parts → Result Numbered Why
numbered_of x = Ok (record { producer = x.0.0.0; entity = x.0.0.1; number = x.0.1; command = x.1 })

abbrev Word : Type 0
Word = List ℕ × List (List ℕ)

abbrev parts_of : Config → List ℕ → List ℕ → List ℕ → Word → Result Parts Why
parts_of c p e n k = number 1 c.producers p & name e & number 1 4294967295 n & command_of c.kind k.0 k.1

abbrev after_number : Config → List ℕ → List ℕ → Word → Result Numbered Why
after_number c p e n = first n.1 >>= λ k. parts_of c p e n.0 k >>= numbered_of

abbrev after_name : Config → List ℕ → Word → Result Numbered Why
after_name c p e = first e.1 >>= after_number c p e.0

abbrev after_producer : Config → Word → Result Numbered Why
after_producer c p = first p.1 >>= after_name c p.0

same_parts : (x : Result Parts Why) → read_as of_parts x ≡ read_as of_request (x >>= numbered_of)
same_parts (Ok x) = refl
same_parts (Err w) = refl

pub words_joined : (c : Config) (ws : List (List ℕ)) (p e n k : Word) → first ws ≡ Ok p → first p.1 ≡ Ok e → first e.1 ≡ Ok n → first n.1 ≡ Ok k
    → read_as of_parts (parts_of c p.0 e.0 n.0 k) ≡ read_as of_request (numbered c ws)
words_joined c ws p e n k f g h i =
    same_parts (parts_of c p.0 e.0 n.0 k)
    ∙ sym (ap (λ x. read_as of_request (x >>= after_producer c)) f ∙ ap (λ x. read_as of_request (x >>= after_name c p.0)) g
    ∙ ap (λ x. read_as of_request (x >>= after_number c p.0 e.0)) h ∙ ap (λ x. read_as of_request (x >>= λ k. parts_of c p.0 e.0 n.0 k >>= numbered_of)) i)

-- What is refused.

abbrev refusal : Why → Result Request Why
refusal w = Err w

abbrev taken : Request → Result Request Why
taken r = Ok r

same_reason : (v w : Why) → refusal v ≡ refusal w → v ≡ w
same_reason v w e = cc

not_taken : (r : Request) (w : Why) → taken r ≡ refusal w → ⊥
not_taken r w e = cc

pub words_refused : (x : Result Ask Why) (w : Why) → read_as of_ask x ≡ Err w → request.Refused w ≡ of_words x
words_refused (Ok a) w e = absurd (not_taken (of_ask a) w e)
words_refused (Err v) w e = ap request.Refused (sym (same_reason v w e))

-- where settings are in force, and where none are
pub known_asked : (so : Option Script) (config : Config) (ws : List (List ℕ)) (r : Request) → settings_in so ≡ Some config → r ≡ of_words (ask config ws) → asked so ws ≡ heard_as so r
known_asked None config ws r e h = absurd (no_settings config (sym e))
known_asked (Some c) config ws r e h =
    ap (λ (k : Config). answered c (ask k ws)) (same_settings c.config config e) ∙ answered_as c (ask config ws) ∙ ap (heard_as (Some c)) (sym h)
