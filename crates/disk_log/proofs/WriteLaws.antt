-- A write and a sync, as far as a crash is concerned.
use Rattle.std.proofs.Common.{◌≡◌, inl, inr, ⊎_elim, ℕ, List, sym, subst, arith}
use Rattle.disk_log.specs.Images.{Images, Follows, Elapses, IsTimed, LeavesOnly, Only, Torn}
use Rattle.disk_log.proofs.MediaLaws.{torn_same}
use Rattle.disk_log.proofs.Moments.{leaves_then}

-- a call after which a crash leaves what a step leads to
followed_leaves : {P : List ℕ → Type 0} (step : List ℕ → List ℕ → Type 0) (old new : Images) → IsTimed old → Follows step old new → Elapses old new → ((d : List ℕ) → old.now d → P d)
    → ((d c : List ℕ) → old.now d → step d c → P c) → LeavesOnly old new P
followed_leaves step old new timed follows time here to = record {
  later = time.later;
  each = λ c left. ⊎_elim (λ past. here c (timed.only_now c past)) (λ now. let f = follows c now in to f.0 c f.1 f.2) (time.nothing_else old.moment c (omega arith) left);
  before = λ t c le left. ⊎_elim (λ past. inl past) (λ now. let f = follows c now in inr (to f.0 c f.1 f.2)) (time.nothing_else t c le left);
}

-- a write, as far as it came about
pub torn_leaves : (at n : ℕ) (xs : List ℕ) (old new : Images) → IsTimed old → Follows (Torn at n) old new → Elapses old new → Only xs old → LeavesOnly old new (Torn at n xs)
torn_leaves at n xs old new timed follows time only =
    followed_leaves {P = Torn at n xs} (Torn at n) old new timed follows time (λ d now. torn_same at n xs d (only d now)) (λ d c now torn. subst (λ (l : List ℕ). Torn at n l c) (only d now) torn)

-- and a sync behind it
pub synced_too : {P : List ℕ → Type 0} (old mid new : Images) → IsTimed mid → LeavesOnly old mid P → Follows (λ d c. c ≡ d) mid new → Elapses mid new → LeavesOnly old new P
synced_too {P = P} old mid new timed first follows time =
    leaves_then old mid new first (followed_leaves {P = P} (λ d c. c ≡ d) mid new timed follows time here (λ d c now is. subst P (sym is) (here d now)))
  where
    here : (d : List ℕ) → mid.now d → P d
    here d now = first.each d (timed.counts_now old.moment d first.later now)
