-- A node by itself is settled.
use Rattle.std.proofs.Common.{◌≡◌, ◌<◌, ◌≤◌, ◌⊎◌, inl, inr, ℕ, ◌-◌, List, [], ◌∷◌, sym, ap, subst, ◌∙◌, refl, true, false, true≢false, arith}
use Rattle.std.specs.Prelude.{Bool, ◌||◌, ◌&&◌, is_none, nat_lt}
use Rattle.std.specs.List.{list_any}
use Rattle.yard_model.specs.declared.packet.Packet.{Packet}
use Rattle.yard_model.specs.declared.input.Phase.{Phase}
use Rattle.yard_model.specs.declared.input.Phase.TheVariants as phase
use Rattle.yard_model.specs.Entities.{cell_in, is_phase}
use Rattle.yard_model.specs.Node.{Act}
use Rattle.yard_model.specs.Setting.{shard_of, producers}
use Rattle.settle_laws.specs.Alone.{Base, Alone, node_with, is_home_at, confirmed_by, queued_by, producer_at, is_live, is_active, is_settled_by, Each, is_asking, is_recovering, recorded, AreBounded, Stands, none_later, IsFirst, IsSecond, IsThird, More}
use Rattle.settle_laws.specs.Steps.{Onward, AllQueued, Taken, Ticked, Repeats, out_by, outs_at, all_outs, is_left_at, IsSettledPair}
use Rattle.plain_laws.proofs.Booleans.{not_below}
use Rattle.settle_laws.proofs.Again.{sum_same, numbers_above}
use Rattle.settle_laws.proofs.Records.{le_itself, le_then}
use Rattle.settle_laws.proofs.Tools.{each_map}

-- What is kept along deliveries.

pub onward_none : (b : Base) (z : Alone) → Onward b z z
onward_none b z = record { queued_on = λ p e. refl; holds_on = λ p h. h; confirmed_on = λ p e. le_itself (confirmed_by e (producer_at z.producers p)); first_on = λ e h. h; second_on = λ e h. h; third_on = λ p e k h. h }

pub onward_both : (b : Base) (x y z : Alone) → Onward b x y → Onward b y z → Onward b x z
onward_both b x y z f g = record {
  queued_on = λ p e. g.queued_on p e ∙ f.queued_on p e;
  holds_on = λ p h. g.holds_on p (f.holds_on p h);
  confirmed_on = λ p e. le_then (confirmed_by e (producer_at x.producers p)) (confirmed_by e (producer_at y.producers p)) (confirmed_by e (producer_at z.producers p)) (f.confirmed_on p e) (g.confirmed_on p e);
  first_on = λ e h. g.first_on e (f.first_on e h);
  second_on = λ e h. g.second_on e (f.second_on e h);
  third_on = λ p e k h. g.third_on p e k (f.third_on p e k h);
}

pub taken_onward : (b : Base) (z : Alone) (p : Packet) (w : List Packet) (acts : List Act) (t : Taken b z p w acts) → Onward b z t.to
taken_onward b z p w acts t = record { queued_on = t.more.queued_on; holds_on = t.more.holds_on; confirmed_on = t.more.confirmed_on; first_on = λ e h. by e h; second_on = t.more.live_on; third_on = t.third_on }
  where
    by : (e : List ℕ) → IsFirst b z e → IsFirst b t.to e
    by e (inl h) = inl (t.more.homes_on (shard_of b.set e) h)
    by e (inr h) = t.asked_on (shard_of b.set e) h

pub queued_onward : (b : Base) (z to : Alone) → Onward b z to → AllQueued b z → AllQueued b to
queued_onward b z to o all p e above = o.queued_on p e ∙ all p e above

-- How far all pairs are, where nothing is on the wire.

-- each pair is confirmed, or is so far
abbrev pub AllAre : Base → Alone → (ℕ → List ℕ → Type 0) → Type 0
AllAre b z P = Each (λ p. (0 < p) × Each (λ e. (queued_by e (producer_at z.producers p) ≤ confirmed_by e (producer_at z.producers p)) ⊎ P p e) b.set.names) (producers b.set)

pub done_on : (b : Base) (z to : Alone) (p : ℕ) (e : List ℕ) → Onward b z to → queued_by e (producer_at z.producers p) ≤ confirmed_by e (producer_at z.producers p) → queued_by e (producer_at to.producers p) ≤ confirmed_by e (producer_at to.producers p)
done_on b z to p e o h = subst (λ n. n ≤ confirmed_by e (producer_at to.producers p)) (sym (o.queued_on p e)) (le_then (queued_by e (producer_at z.producers p)) (confirmed_by e (producer_at z.producers p)) (confirmed_by e (producer_at to.producers p)) h (o.confirmed_on p e))

abbrev pub AtHome : Base → Alone → ℕ → List ℕ → Type 0
AtHome b z p e = is_home_at b z.homes (shard_of b.set e) ≡ true

abbrev pub AreActive : Base → Alone → ℕ → List ℕ → Type 0
AreActive b z p e = is_active b z.cells e ≡ true

abbrev pub Never : ℕ → List ℕ → Type 0
Never p e = ⊥

-- with nothing on the wire each stage is the next word
pub first_ends : (b : Base) (z : Alone) (e : List ℕ) → Stands b none_later z → z.wire ≡ [] → IsFirst b z e → is_home_at b z.homes (shard_of b.set e) ≡ true
first_ends b z e s empty (inl h) = h
first_ends b z e s empty (inr h) = by (s.asking (shard_of b.set e) h)
  where
    by : (is_home_at b z.homes (shard_of b.set e) ≡ true) ⊎ (list_any (is_asking (shard_of b.set e)) z.wire ≡ true) → is_home_at b z.homes (shard_of b.set e) ≡ true
    by (inl k) = k
    by (inr k) = absurd (true≢false (sym k ∙ ap (list_any (is_asking (shard_of b.set e))) empty))

pub second_ends : (b : Base) (z : Alone) (e : List ℕ) → Stands b none_later z → z.wire ≡ [] → IsSecond b z e → is_active b z.cells e ≡ true
second_ends b z e s empty h = by (cell_in b.set z.cells e).phase refl
  where
    by : (p : Phase) → (cell_in b.set z.cells e).phase ≡ p → is_active b z.cells e ≡ true
    by phase.Absent k = absurd (true≢false (sym h ∙ ap is_live k))
    by phase.Loading k = absurd (true≢false (sym (s.loading e (ap (is_phase phase.Loading) k)) ∙ ap (list_any (is_recovering e)) empty))
    by phase.Active k = ap (is_phase phase.Active) k
    by phase.Stopping k = absurd (true≢false (sym (s.settled e) ∙ ap (λ p. is_settled_by p (cell_in b.set z.cells e).stash && is_none (cell_in b.set z.cells e).armed) k))

pub third_ends : (b : Base) (z : Alone) (p : ℕ) (e : List ℕ) → z.wire ≡ [] → IsThird b z p e → queued_by e (producer_at z.producers p) ≤ confirmed_by e (producer_at z.producers p)
third_ends b z p e empty (inl h) = h
third_ends b z p e empty (inr h) = absurd (true≢false (sym h.1 ∙ ap (list_any _) empty))

-- A tick and its drain.

pub record Levels (b : Base) (z to : Alone) : Type 0 where
  pub outs_fall : all_outs b to (producers b.set) ≤ all_outs b z (producers b.set)
  pub to_home : AllAre b to (AtHome b to)
  pub to_active : AllAre b z (AtHome b z) → AllAre b to (AreActive b to)
  pub to_end : AllAre b z (AreActive b z) → AllAre b to Never

pub levels : (b : Base) (z mid to : Alone) → More b z mid → Ticked b z mid → Stands b none_later to → to.wire ≡ [] → Onward b mid to → Levels b z to
levels b z mid to more ticked stands empty onward = record {
  outs_fall = sum_same (λ p. outs_at z p b.set.names) (λ p. outs_at to p b.set.names) (producers b.set) (λ p. sum_same (λ e. out_by e (producer_at z.producers p)) (λ e. out_by e (producer_at to.producers p)) b.set.names (λ e. fewer p e));
  to_home = repeated (AtHome b to) (λ p e above r. home_of p e r.first);
  to_active = λ h. both_repeated (AtHome b z) (AreActive b to) h (λ p e above r k. active_of p e (r.second k));
  to_end = λ h. both_repeated (AreActive b z) Never h (λ p e above r k. inl (third_ends b to p e empty (onward.third_on p e above (r.third k))));
}
  where
    fewer : (p : ℕ) (e : List ℕ) → out_by e (producer_at to.producers p) ≤ out_by e (producer_at z.producers p)
    fewer p e = less_out (queued_by e (producer_at to.producers p)) (confirmed_by e (producer_at to.producers p)) (queued_by e (producer_at z.producers p)) (confirmed_by e (producer_at z.producers p))
        (onward.queued_on p e ∙ more.queued_on p e) (le_then (confirmed_by e (producer_at z.producers p)) (confirmed_by e (producer_at mid.producers p)) (confirmed_by e (producer_at to.producers p)) (more.confirmed_on p e) (onward.confirmed_on p e))
      where
        less_out : (q c r d : ℕ) → q ≡ r → d ≤ c → q - c ≤ r - d
        less_out q c r d e h = omega (arith, e, h)

    -- what was confirmed before the tick is so after it
    done : (p : ℕ) (e : List ℕ) → queued_by e (producer_at z.producers p) ≤ confirmed_by e (producer_at z.producers p) → queued_by e (producer_at to.producers p) ≤ confirmed_by e (producer_at to.producers p)
    done p e h = done_on b mid to p e onward (subst (λ q. q ≤ confirmed_by e (producer_at mid.producers p)) (sym (more.queued_on p e)) (le_then (queued_by e (producer_at z.producers p)) (confirmed_by e (producer_at z.producers p)) (confirmed_by e (producer_at mid.producers p)) h (more.confirmed_on p e)))

    home_of : (p : ℕ) (e : List ℕ) → (queued_by e (producer_at z.producers p) ≤ confirmed_by e (producer_at z.producers p)) ⊎ IsFirst b mid e → (queued_by e (producer_at to.producers p) ≤ confirmed_by e (producer_at to.producers p)) ⊎ AtHome b to p e
    home_of p e (inl h) = inl (done p e h)
    home_of p e (inr h) = inr (first_ends b to e stands empty (onward.first_on e h))

    active_of : (p : ℕ) (e : List ℕ) → (queued_by e (producer_at z.producers p) ≤ confirmed_by e (producer_at z.producers p)) ⊎ IsSecond b mid e → (queued_by e (producer_at to.producers p) ≤ confirmed_by e (producer_at to.producers p)) ⊎ AreActive b to p e
    active_of p e (inl h) = inl (done p e h)
    active_of p e (inr h) = inr (second_ends b to e stands empty (onward.second_on e h))

    repeated : (Q : ℕ → List ℕ → Type 0) → ((p : ℕ) (e : List ℕ) → 0 < p → Repeats b z p e mid → (queued_by e (producer_at to.producers p) ≤ confirmed_by e (producer_at to.producers p)) ⊎ Q p e) → AllAre b to Q
    repeated Q f = with_above (producers b.set) (numbers_above b.set.config.producers 1 (omega arith)) ticked.repeats
      where
        with_above : (ps : List ℕ) → Each (λ p. 0 < p) ps → Each (λ p. Each (λ e. Repeats b z p e mid) b.set.names) ps → Each (λ p. (0 < p) × Each (λ e. (queued_by e (producer_at to.producers p) ≤ confirmed_by e (producer_at to.producers p)) ⊎ Q p e) b.set.names) ps
        with_above [] a h = tt
        with_above (p ∷ ps) a h = ((a.0, each_map _ _ b.set.names (λ e r. f p e a.0 r) h.0), with_above ps a.1 h.1)

    both_repeated : (P Q : ℕ → List ℕ → Type 0) → AllAre b z P → ((p : ℕ) (e : List ℕ) → 0 < p → Repeats b z p e mid → P p e → (queued_by e (producer_at to.producers p) ≤ confirmed_by e (producer_at to.producers p)) ⊎ Q p e) → AllAre b to Q
    both_repeated P Q h f = along (producers b.set) h ticked.repeats
      where
        of : (p : ℕ) (e : List ℕ) → 0 < p → Repeats b z p e mid → (queued_by e (producer_at z.producers p) ≤ confirmed_by e (producer_at z.producers p)) ⊎ P p e → (queued_by e (producer_at to.producers p) ≤ confirmed_by e (producer_at to.producers p)) ⊎ Q p e
        of p e a r (inl k) = inl (done p e k)
        of p e a r (inr k) = f p e a r k

        names : (p : ℕ) (es : List (List ℕ)) → 0 < p → Each (λ e. (queued_by e (producer_at z.producers p) ≤ confirmed_by e (producer_at z.producers p)) ⊎ P p e) es → Each (λ e. Repeats b z p e mid) es → Each (λ e. (queued_by e (producer_at to.producers p) ≤ confirmed_by e (producer_at to.producers p)) ⊎ Q p e) es
        names p [] a k r = tt
        names p (e ∷ es) a k r = (of p e a r.0 k.0, names p es a k.1 r.1)

        along : (ps : List ℕ) → Each (λ p. (0 < p) × Each (λ e. (queued_by e (producer_at z.producers p) ≤ confirmed_by e (producer_at z.producers p)) ⊎ P p e) b.set.names) ps → Each (λ p. Each (λ e. Repeats b z p e mid) b.set.names) ps
            → Each (λ p. (0 < p) × Each (λ e. (queued_by e (producer_at to.producers p) ≤ confirmed_by e (producer_at to.producers p)) ⊎ Q p e) b.set.names) ps
        along [] k r = tt
        along (p ∷ ps) k r = ((k.0.0, names p b.set.names k.0.0 k.0.1 r.0), along ps k.1 r.1)

-- Nothing is left.

pub any_none : {A : Type 0} (q : A → Bool) (xs : List A) → Each (λ x. q x ≡ false) xs → list_any q xs ≡ false
any_none q [] h = refl
any_none q (x ∷ xs) h = ap (λ t. t || list_any q xs) h.0 ∙ any_none q xs h.1

pub never_left : (b : Base) (z : Alone) → AllAre b z Never → is_left_at (node_with b z) ≡ false
never_left b z h = any_none _ (producers b.set) (each_map _ _ (producers b.set) (λ p k. any_none _ b.set.names (each_map _ _ b.set.names (λ e l. one p e l) k.1)) h)
  where
    not_less : (c q : ℕ) → q ≤ c → nat_lt c q ≡ false
    not_less c q h = grind (arith, h)

    one : (p : ℕ) (e : List ℕ) → (queued_by e (producer_at z.producers p) ≤ confirmed_by e (producer_at z.producers p)) ⊎ ⊥ → nat_lt (confirmed_by e (producer_at z.producers p)) (queued_by e (producer_at z.producers p)) ≡ false
    one p e (inl l) = not_less (confirmed_by e (producer_at z.producers p)) (queued_by e (producer_at z.producers p)) l
    one p e (inr l) = absurd l

pub any_else : {A : Type 0} (q : A → Bool) (xs : List A) → list_any q xs ≡ false → Each (λ x. q x ≡ false) xs
any_else q [] h = tt
any_else q (x ∷ xs) h = (first (q x) (list_any q xs) h, any_else q xs (second (q x) (list_any q xs) h))
  where
    first : (a b : Bool) → (a || b) ≡ false → a ≡ false
    first true b h = h
    first false b h = refl

    second : (a b : Bool) → (a || b) ≡ false → b ≡ false
    second true b h = absurd (true≢false h)
    second false b h = h

-- where nothing is left and all is queued, each pair is settled
pub settled_pairs : (b : Base) (z : Alone) → Stands b none_later z → AllQueued b z → is_left_at (node_with b z) ≡ false → Each (λ p. Each (IsSettledPair b z p) b.set.names) (producers b.set)
settled_pairs b z s all left = along (producers b.set) (numbers_above b.set.config.producers 1 (omega arith)) (any_else _ (producers b.set) left)
  where
    one : (p : ℕ) (e : List ℕ) → 0 < p → nat_lt (confirmed_by e (producer_at z.producers p)) (queued_by e (producer_at z.producers p)) ≡ false → IsSettledPair b z p e
    one p e above h =
        let o : AreBounded b z.hosted z.producers p e = s.bounded p e above in
        let q : queued_by e (producer_at z.producers p) ≡ b.made p e = all p e above in
        let l : queued_by e (producer_at z.producers p) ≤ confirmed_by e (producer_at z.producers p) = not_below (confirmed_by e (producer_at z.producers p)) (queued_by e (producer_at z.producers p)) h in
        (q, same_recorded (confirmed_by e (producer_at z.producers p)) (queued_by e (producer_at z.producers p)) (recorded b z.hosted p e) (b.made p e) o.0 o.3 q l, same_confirmed (confirmed_by e (producer_at z.producers p)) (queued_by e (producer_at z.producers p)) (b.made p e) o.1 q l)
      where
        same_recorded : (c q r m : ℕ) → c ≤ r → r ≤ m → q ≡ m → q ≤ c → r ≡ m
        same_recorded c q r m f g e h = omega (arith, f, g, e, h)

        same_confirmed : (c q m : ℕ) → c ≤ q → q ≡ m → q ≤ c → c ≡ m
        same_confirmed c q m f e h = omega (arith, f, e, h)

    names : (p : ℕ) (es : List (List ℕ)) → 0 < p → Each (λ e. nat_lt (confirmed_by e (producer_at z.producers p)) (queued_by e (producer_at z.producers p)) ≡ false) es → Each (IsSettledPair b z p) es
    names p [] above h = tt
    names p (e ∷ es) above h = (one p e above h.0, names p es above h.1)

    along : (ps : List ℕ) → Each (λ p. 0 < p) ps → Each (λ p. list_any (λ e. nat_lt (confirmed_by e (producer_at z.producers p)) (queued_by e (producer_at z.producers p))) b.set.names ≡ false) ps → Each (λ p. Each (IsSettledPair b z p) b.set.names) ps
    along [] a h = tt
    along (p ∷ ps) a h = (names p b.set.names a.0 (any_else _ b.set.names h.0), along ps a.1 h.1)
