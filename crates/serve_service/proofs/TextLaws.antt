-- The texts of a log, one more at a time, and what a crash leaves of them.
use Rattle.std.proofs.Common.{◌≡◌, ◌≤◌, ℕ, List, [], ◌∷◌, ◌++◌, length, inl, inr, refl, sym, subst, arith, length-append}
use Rattle.std.specs.Prelude.{Bool, IsTrue}
use Rattle.std.proofs.lemmas.List.{append-nil, take_all, take_at, take-append-le}
use Rattle.yard_model.specs.Text.{Bytes}
use Rattle.disk_log.specs.Frames.{Holds}
use Rattle.disk_log.specs.Images.{Images}
use Rattle.disk_log.specs.Rest.{HoldsPrefix, IsBeforeOrAfter, Rests}
use Rattle.disk_log.proofs.CommitLaws.{rests_hold}
use Rattle.serve_service.specs.Services.{with_text}

pub text_none : (texts : List Bytes) (t : Bytes) → t ≡ [] → with_text texts t ≡ texts
text_none texts [] e = refl
text_none texts (b ∷ t) e = cc

pub text_some : (texts : List Bytes) (t : Bytes) → (t ≡ [] → ⊥) → with_text texts t ≡ texts ++ t ∷ []
text_some texts [] some = absurd (some refl)
text_some texts (b ∷ t) some = refl

-- the texts before are a front
pub front_holds : (texts more : List Bytes) (c : Bytes) → Holds texts c → HoldsPrefix (texts ++ more) (length texts) c
front_holds texts more c holds = record {
  count = length texts;
  at_least = omega arith;
  at_most = omega (arith, length-append texts more);
  holds = subst (λ l. Holds l c) (sym (take_at texts more (length texts) refl)) holds;
}

-- all of them are
pub all_hold : (texts : List Bytes) (n : ℕ) (c : Bytes) → n ≤ length texts → Holds texts c → HoldsPrefix texts n c
all_hold texts n c le holds = record {
  count = length texts;
  at_least = le;
  at_most = omega arith;
  holds = subst (λ l. Holds l c) (sym (take_all (length texts) texts (omega arith))) holds;
}

-- those that are there are there of more
pub lifted : (texts more : List Bytes) (n : ℕ) (c : Bytes) → HoldsPrefix texts n c → HoldsPrefix (texts ++ more) n c
lifted texts more n c p = record {
  count = p.count;
  at_least = p.at_least;
  at_most = omega (arith, p.at_most, length-append texts more);
  holds = subst (λ l. Holds l c) (sym (take-append-le p.count texts more p.at_most)) p.holds;
}

pub of_more : (texts longer more : List Bytes) (n : ℕ) (c : Bytes) → longer ≡ texts ++ more → HoldsPrefix texts n c → HoldsPrefix longer n c
of_more texts longer more n c is p = subst (λ l. HoldsPrefix l n c) (sym is) (lifted texts more n c p)

-- some of none or more
pub none_held : (texts more : List Bytes) (c : Bytes) → texts ≡ [] → Holds texts c → HoldsPrefix more 0 c
none_held texts more c none holds = record { count = 0; at_least = omega arith; at_most = omega arith; holds = subst (λ l. Holds l c) none holds }

pub lowered : (texts : List Bytes) (m n : ℕ) (c : Bytes) → n ≤ m → HoldsPrefix texts m c → HoldsPrefix texts n c
lowered texts m n c le p = record { count = p.count; at_least = omega (arith, le, p.at_least); at_most = p.at_most; holds = p.holds }

pub either_holds : (texts : List Bytes) (t : Bytes) (c : Bytes) → IsBeforeOrAfter texts t c → HoldsPrefix (texts ++ t ∷ []) (length texts) c
either_holds texts t c (inl before) = front_holds texts (t ∷ []) c before
either_holds texts t c (inr after) = all_hold (texts ++ t ∷ []) (length texts) c (omega (arith, length-append texts (t ∷ []))) after

-- what a log at rest leaves
pub rest_holds : (tells : Bool) (end : ℕ) (content : Bytes) (images : Images) (texts more : List Bytes) → Rests tells end content images texts → IsTrue tells → (c : Bytes) → images.now c → HoldsPrefix (texts ++ more) (length texts) c
rest_holds tells end content images texts more rests told c now = front_holds texts more c (rests_hold tells end content images texts rests told c now)

-- a text more, or none, is a front of it
pub with_text_grows : (texts : List Bytes) (t : Bytes) → (more : List Bytes) × (with_text texts t ≡ texts ++ more)
with_text_grows texts [] = ([], sym (append-nil texts))
with_text_grows texts (b ∷ t) = ((b ∷ t) ∷ [], refl)

pub with_holds : (texts : List Bytes) (t : Bytes) (c : Bytes) → Holds texts c → HoldsPrefix (with_text texts t) (length texts) c
with_holds texts t c holds = let g = with_text_grows texts t in subst (λ l. HoldsPrefix l (length texts) c) (sym g.1) (front_holds texts g.0 c holds)
