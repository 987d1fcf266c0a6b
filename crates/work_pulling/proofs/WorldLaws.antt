-- One line more of the script.
use Rattle.std.proofs.Common.{◌≡◌, ℕ, zero, suc, ◌+◌, ◌<◌, ◌≤◌, length, sym, ap, ◌∙◌, refl, subst, arith}
use Rattle.std.specs.Prelude.{Bool, true, false, List, [], ◌∷◌, ◌++◌, take, slice_get, Option, Some, None, if◌then◌else◌}
use Rattle.plain_laws.proofs.Booleans.{true_is_not_false}
use Rattle.plain_laws.proofs.Lists.{none_is_not_some, some_is}
use Rattle.yard_model.specs.declared.charter.Line.{Line}
use Rattle.yard_model.specs.declared.fact.Fact.{Fact}
use Rattle.yard_model.specs.Script.{Script}
use Rattle.yard_model.specs.World.{wire_limit}
use Rattle.pull_laws.specs.Next.{IsNextOrder, LineIsNext}
use Rattle.pull_laws.specs.Pulling.{Pulling, play_line, play_lines, nothing_told, pulled}
use Rattle.pull_laws.specs.PullSafe.{IsPulled}
use Rattle.pull_cluster.specs.Cluster.{Cluster, Leads}
use Rattle.work_pulling.specs.Orders.{IsNext}
use Rattle.work_pulling.specs.Played.{Went, IsPlayed, is_wire_full}
use Rattle.work_pulling.specs.declared.fault.PullFault.{PullFault}

-- a line behind others
lines_more : (ls : List Line) (l : Line) (s : Pulling) → s.full ≡ false → (play_lines ls s).full ≡ false → play_lines (ls ++ l ∷ []) s ≡ play_line l (play_lines ls s)
lines_more [] l s e going = by (play_line l s) (play_line l s).full
  where
    by : (t : Pulling) (b : Bool) → (if b then t else t) ≡ t
    by t true = refl
    by t false = refl
lines_more (k ∷ ls) l s e going = by (play_line k s) (play_line k s).full refl (lines_more ls l (play_line k s)) going
  where
    by : (t : Pulling) (b : Bool) → t.full ≡ b → (t.full ≡ false → (play_lines ls t).full ≡ false → play_lines (ls ++ l ∷ []) t ≡ play_line l (play_lines ls t))
        → (if b then t else play_lines ls t).full ≡ false → (if b then t else play_lines (ls ++ l ∷ []) t) ≡ play_line l (if b then t else play_lines ls t)
    by t true is rest going = absurd (true_is_not_false (sym is ∙ going))
    by t false is rest going = rest is going

take_got : (ls : List Line) (n : ℕ) (l : Line) → slice_get ls n ≡ Some l → take (suc n) ls ≡ take n ls ++ l ∷ []
take_got [] n l e = absurd (none_is_not_some l e)
take_got (k ∷ ls) zero l e = ap (λ j. j ∷ []) (some_is k l e)
take_got (k ∷ ls) (suc n) l e = ap (λ js. k ∷ js) (take_got ls n l e)

pub pulled_more : (c : Script) (limit n : ℕ) (l : Line) → slice_get c.orders n ≡ Some l → (pulled c limit n).full ≡ false → pulled c limit (n + 1) ≡ play_line l (pulled c limit n)
pulled_more c limit n l here going =
    let one : n + 1 ≡ suc n = omega arith in
    ap (λ k. pulled c limit k) one ∙ (ap (λ ls. play_lines ls (nothing_told c limit)) (take_got c.orders n l here) ∙ lines_more (take n c.orders) l (nothing_told c limit) refl going)

-- what is played is the next of the script
pub next_is : LineIsNext → (c : Script) (k : Cluster) (n : ℕ) (l : Line) → IsPlayed c k n None → slice_get c.orders n ≡ Some l → IsNext k l.order
next_is law c k n l p here =
    let told : k.pulling ≡ pulled c wire_limit n = p.told_is tt in
    let script : k.script ≡ c = p.script_is tt in
    let there : IsNextOrder c (pulled c wire_limit n).told l.order = law c wire_limit n l p.pulled_is (p.full_is tt) here in
    subst (λ d. IsNextOrder d k.pulling.told l.order) (sym script) (subst (λ s. IsNextOrder c s.told l.order) (sym told) there)

-- one line more was played
pub went : (c : Script) (k new : Cluster) (n : ℕ) (l : Line) (x y : List Fact) (f : Option PullFault) → IsPlayed c k n None → slice_get c.orders n ≡ Some l → Leads (play_line l) k new x y
    → Went (record { script = c; count = n; fault = None }) (record { script = c; count = n + 1; fault = f }) x y new.pulling.full
went c k new n l x y f p here m =
    let told : k.pulling ≡ pulled c wire_limit n = p.told_is tt in
    let next : pulled c wire_limit (n + 1) ≡ play_line l k.pulling = pulled_more c wire_limit n l here (p.full_is tt) ∙ ap (play_line l) (sym told) in
    record {
      fresh_is = refl;
      script_is = refl;
      count_is = refl;
      facts = m.facts;
      told_is = ap (λ s. s.told) next ∙ (m.told_is ∙ ap (λ s. s.told ++ m.facts) told);
      out_is = m.out_is;
      full_is = ap (λ s. s.full) next ∙ sym (ap (λ w. w.pulling.full) m.new_is);
    }

pub played_next : (c : Script) (k new : Cluster) (n : ℕ) (l : Line) (x y : List Fact) (f : Option PullFault) → IsPlayed c k n None → slice_get c.orders n ≡ Some l → Leads (play_line l) k new x y → new.pulling.full ≡ is_wire_full f → IsPlayed c new (n + 1) f
played_next c k new n l x y f p here m full =
    let told : k.pulling ≡ pulled c wire_limit n = p.told_is tt in
    let next : pulled c wire_limit (n + 1) ≡ play_line l k.pulling = pulled_more c wire_limit n l here (p.full_is tt) ∙ ap (play_line l) (sym told) in
    let is : new.pulling ≡ play_line l k.pulling = ap (λ w. w.pulling) m.new_is in
    record {
      pulled_is = p.pulled_is;
      script_is = λ u. ap (λ w. w.script) m.new_is ∙ p.script_is tt;
      told_is = λ u. is ∙ sym next;
      full_is = λ u. ap (λ s. s.full) (next ∙ sym is) ∙ full;
    }

there_below : (ls : List Line) (n : ℕ) (l : Line) → slice_get ls n ≡ Some l → n < length ls
there_below [] n l e = absurd (none_is_not_some l e)
there_below (k ∷ ls) zero l e = positive_length (length ls)
  where
    positive_length : (n : ℕ) → 0 < suc n
    positive_length n = omega arith
there_below (k ∷ ls) (suc n) l e = more n (length ls) (there_below ls n l e)
  where
    more : (n m : ℕ) → n < m → suc n < suc m
    more n m h = omega (arith, h)

-- one line more is counted
pub one_counts : (c : Script) (n : ℕ) (l : Line) → IsPulled c → slice_get c.orders n ≡ Some l → n + 1 < 4294967296
one_counts c n l p here = few n (length c.orders) (there_below c.orders n l here) p.script.fits
  where
    few : (n m : ℕ) → n < m → m ≤ 3000000 → n + 1 < 4294967296
    few n m h k = omega (arith, h, k)
