-- Settings that begin: their line, and what is committed behind it.
use Rattle.std.proofs.Common.{◌≡◌, List, [], ◌∷◌, ◌++◌, length, sym, ◌∙◌, ap, subst, arith, length-append}
use Rattle.yard_model.specs.declared.charter.Config.{Config}
use Rattle.yard_model.specs.Text.{Bytes, line, words}
use Rattle.disk_log.specs.Images.{Images, LeavesOnly}
use Rattle.disk_log.specs.Rest.{HoldsPrefix}
use Rattle.disk_log.proofs.Moments.{leaves_then, leaves_weaker}
use Rattle.serve_laws.specs.Served.{Desk, config_words, frames, head_of}
use Rattle.serve_answers.specs.Told.{begun, desk_at}
use Rattle.serve_books.specs.Books.{Adds}
use Rattle.serve_service.specs.Openings.{head_line}
use Rattle.serve_service.specs.Services.{with_text}
use Rattle.serve_service.proofs.FrameLaws.{frames_with}
use Rattle.serve_service.proofs.TextLaws.{lowered, of_more, text_some, with_text_grows}

line_some : (ws : List Bytes) → line ws ≡ [] → ⊥
line_some ws none = omega (arith, ap length none, length-append (words ws) (10 ∷ []))

-- the first frame
pub with_head : (config : Config) (text : Bytes) → text ≡ head_line config → with_text [] text ≡ head_line config ∷ []
with_head config text is = text_some [] text (λ none. line_some (config_words config) (sym is ∙ none)) ∙ ap (λ x. x ∷ []) is

module _ (config : Config) (d : Desk) (text : Bytes) (is : d ≡ begun config) (adds : Adds [] d.log text) where
  -- and what is behind it
  pub begun_frames : with_text (head_line config ∷ []) text ≡ frames d
  begun_frames = frames_with (desk_at (record { config = config; orders = [] }) []) d text (ap (λ (x : Desk). head_of x.so_far) is) adds

  pub leaves_first : (old new : Images) (head : Bytes) → head ≡ head_line config → LeavesOnly old new (HoldsPrefix (with_text [] head) 0) → LeavesOnly old new (HoldsPrefix (frames (begun config)) 0)
  leaves_first old new head head_is leaves =
      let g = with_text_grows (head_line config ∷ []) text in
      let more : frames (begun config) ≡ (head_line config ∷ []) ++ g.0 = ap frames (sym is) ∙ (sym begun_frames ∙ g.1) in
      leaves_weaker old new (λ c p. of_more (head_line config ∷ []) (frames (begun config)) g.0 0 c more (subst (λ l. HoldsPrefix l 0 c) (with_head config head head_is) p)) leaves

  pub leaves_both : (old mid new : Images) (head : Bytes) → head ≡ head_line config → LeavesOnly old mid (HoldsPrefix (with_text [] head) 0)
      → LeavesOnly mid new (HoldsPrefix (with_text (head_line config ∷ []) text) (length (head_line config ∷ []))) → LeavesOnly old new (HoldsPrefix (frames (begun config)) 0)
  leaves_both old mid new head head_is first second =
      let whole : with_text (head_line config ∷ []) text ≡ frames (begun config) = begun_frames ∙ ap frames is in
      leaves_then old mid new (leaves_first old mid head head_is first)
      (leaves_weaker mid new (λ c p. lowered (frames (begun config)) (length (head_line config ∷ [])) 0 c (omega arith) (subst (λ l. HoldsPrefix l (length (head_line config ∷ [])) c) whole p)) second)
