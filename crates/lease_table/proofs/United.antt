-- What a pass keeps where seats are joined.
use Rattle.std.proofs.Common.{◌≡◌, ℕ, zero, suc, ◌<◌, inl, List, [], ◌∷◌, length, map, refl, sym, ap, ◌∙◌, subst, arith}
use Rattle.std.proofs.lemmas.List.{get_or-set_same, length-set}
use Rattle.std.specs.Prelude.{Option, None, Some}
use Rattle.yard_model.specs.Script.{Script}
use Rattle.yard_model.specs.declared.fact.Fact.{Fact}
use Rattle.shard_lease.specs.Meaning.{Begins}
use Rattle.lease_table.specs.declared.View.{View}
use Rattle.lease_table.specs.Lists.{seen_at, Has}
use Rattle.yard_model.specs.Words.{at}
use Rattle.std.specs.Prelude.{slice_index_or}
use Rattle.lease_table.specs.Tells.{SeatState, gathered, rest_of, united, tied, longest}
use Rattle.lease_table.specs.Leasing.{empty, counted, IsPass, Met}
use Rattle.lease_table.proofs.Places.{has_right}

pub length-gathered : (os : List (List (List Fact))) (ss : List (List Fact)) (ps : List (List (List Fact))) → length (gathered os ss ps) ≡ length os
length-gathered [] ss ps = refl
length-gathered (o ∷ os) ss ps = ap suc (length-gathered os (rest_of ss) (rest_of ps))

at_rest' : {A : Type 0} (d : A) (l : List A) (j : ℕ) → slice_index_or (rest_of l) j d ≡ slice_index_or l (suc j) d
at_rest' d [] j = refl
at_rest' d (x ∷ xs) j = refl

-- what the other has seen is among the old lists
pub gathered_there : (os : List (List (List Fact))) (ss : List (List Fact)) (ps : List (List (List Fact))) (j : ℕ) → j < length os → Has (seen_at ss j) (seen_at (gathered os ss ps) j)
gathered_there [] ss ps j h = absurd (omega arith)
gathered_there (o ∷ os) ss ps zero h = has_right (seen_at ss 0) o (seen_at ss 0 ∷ seen_at ps 0) (inl refl)
gathered_there (o ∷ os) ss ps (suc j) h = subst (λ (l : List Fact). Has l (seen_at (gathered os (rest_of ss) (rest_of ps)) j)) (at_rest' [] ss j) (gathered_there os (rest_of ss) (rest_of ps) j (omega arith))

pub counted_none : (l : List (Option (List Fact))) → ((k : ℕ) → at l k ≡ None) → counted l ≡ 0
counted_none [] h = refl
counted_none (None ∷ xs) h = counted_none xs (λ k. h (suc k))
counted_none (Some x ∷ xs) h = let e = h 0 in cc

no_length : (xs : List ℕ) → length xs ≡ 0 → map empty xs ≡ []
no_length [] e = refl
no_length (x ∷ xs) e = absurd (omega arith)

pub nothing_out : (c : Script) (m : SeatState) (order : List ℕ) (room : ℕ) → IsPass c m order room → ((k : ℕ) → at m.0.held k ≡ None) → m.1 ≡ []
nothing_out c m order room ok h = ok.carried ∙ no_length order (ok.count ∙ counted_none m.0.held h)

pub united_ok : (c : Script) (m n : SeatState) (w : View) (order : List ℕ) (room : ℕ) → IsPass c m order room → n ≡ (united m.0 w, m.1) → IsPass c n order room
united_ok c m n w order room ok is = subst (λ (y : SeatState). IsPass c y order room) (sym is) record {
  carried = ok.carried;
  charter = ok.charter;
  live = ok.live;
  helds = ok.helds;
  seens = ok.seens;
  oldss = length-gathered m.0.olds w.seen w.olds ∙ ok.oldss;
  listed = ok.listed;
  count = ok.count;
  room = ok.room;
}

pub tied_ok : (c : Script) (m n : SeatState) (k : ℕ) (order : List ℕ) (room : ℕ) → IsPass c m order room → n ≡ (tied m.0 k, m.1) → IsPass c n order room
tied_ok c m n k order room ok is = subst (λ (y : SeatState). IsPass c y order room) (sym is) record {
  carried = ok.carried;
  charter = ok.charter;
  live = ok.live;
  helds = ok.helds;
  seens = length-set m.0.seen k (longest (seen_at m.0.seen k) (seen_at m.0.olds k)) ∙ ok.seens;
  oldss = length-set m.0.olds k [] ∙ ok.oldss;
  listed = ok.listed;
  count = ok.count;
  room = ok.room;
}

-- m is the pass's state, w the note's view, n the state after the join and u that after the tie
pub met : (m n u : SeatState) (v w : View) (k : ℕ) → m.0 ≡ v → n.0 ≡ united m.0 w → k < length m.0.seen → k < length m.0.olds → u ≡ (tied n.0 k, n.1) → Begins (seen_at n.0.seen k) (longest (seen_at n.0.seen k) (seen_at n.0.olds k))
    → ((y : List Fact) → Has y (seen_at n.0.olds k) → Begins y (longest (seen_at n.0.seen k) (seen_at n.0.olds k))) → Met v w k u.0
met m n u v w k mv nv inside inside' is first each = subst (λ (x : View). Met x w k u.0) mv
    (let j : View = united m.0 w in let best : List Fact = longest (seen_at j.seen k) (seen_at j.olds k) in let at_u : u.0 ≡ tied j k = ap (λ (x : SeatState). x.0) is ∙ ap (λ (x : View). tied x k) nv in
    let seen_u : best ≡ seen_at u.0.seen k = sym (ap (λ (x : View). seen_at x.seen k) at_u ∙ get_or-set_same m.0.seen k best [] inside) in record {
      now = at_u;
      mine = subst (λ (l : List Fact). Begins (seen_at m.0.seen k) l) seen_u (subst (λ (x : View). Begins (seen_at x.seen k) (longest (seen_at x.seen k) (seen_at x.olds k))) nv first);
      theirs = subst (λ (l : List Fact). Begins (seen_at w.seen k) l) seen_u
          (subst (λ (x : View). (y : List Fact) → Has y (seen_at x.olds k) → Begins y (longest (seen_at x.seen k) (seen_at x.olds k))) nv each (seen_at w.seen k) (gathered_there m.0.olds w.seen w.olds k inside'));
    })
