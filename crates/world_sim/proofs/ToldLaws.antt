-- What items tell, item by item.
use Rattle.std.proofs.Common.{◌≡◌, ℕ, ◌+◌, ◌<◌, ◌≤◌, Bool, true, false, ◌||◌, List, [], ◌∷◌, ◌++◌, drop, length, refl, ap, sym, ◌∙◌, subst, arith, zero, suc, nat_lt, cond, fold, append_assoc}
use Rattle.std.specs.List.{list_all}
use Rattle.std.proofs.lemmas.Bool.{and_parts}
use Rattle.std.proofs.lemmas.Bool.Decides.{nat_tests}
use Rattle.std.proofs.lemmas.List.{append-nil, length-append}
use Rattle.std.proofs.lemmas.List.Sums.{fold-append}
use Rattle.yard_model.specs.declared.fact.Fact.{Fact}
use Rattle.yard_model.specs.declared.fact.Fact.TheVariants as fact
use Rattle.yard_model.specs.declared.out.Item.{Item}
use Rattle.yard_model.specs.declared.out.Item.TheVariants as item
use Rattle.yard_model.specs.declared.packet.Packet.{Packet}
use Rattle.yard_model.specs.Words.{numbers}
use Rattle.yard_model.specs.World.{numbered, count_posts, wire_step, fresh_step, full_step}
use Rattle.yard_model.specs.Spared.{Spared}
use Rattle.world_sim.specs.Lending.{with_items}
use Rattle.world_sim.specs.Mail.{Mails, ToldSome, fresh_of, is_past, posts_of, with_posts}
use Rattle.world_sim.specs.Told.{FactsLaw, ToldLaw, ToldTo, all_told, is_own, is_own_item}
use Rattle.world_sim.proofs.FreshLaws.{fresh_more, lt_true, lt_false}

-- Past the limit nothing is posted.

pub past_all : (limit k j : ℕ) (is : List Item) → limit ≤ k → limit ≤ j → numbered limit k is ≡ numbered limit j is
past_all limit k j [] h g = refl
past_all limit k j (item.Fact f ∷ is) h g = ap (λ (l : List Fact). f ∷ l) (past_all limit k j is h g)
past_all limit k j (item.Post p ∷ is) h g =
    let a : nat_lt k limit ≡ false = lt_false k limit h in
    let b : nat_lt j limit ≡ false = lt_false j limit g in
    rw (a, b) (past_all limit (k + 1) (j + 1) is (omega arith) (omega arith))

pub past_posts : (limit k : ℕ) (is : List Item) → limit ≤ k → posts_of limit k is ≡ []
past_posts limit k [] h = refl
past_posts limit k (item.Fact f ∷ is) h = past_posts limit k is h
past_posts limit k (item.Post p ∷ is) h = let a : nat_lt k limit ≡ false = lt_false k limit h in rw a (past_posts limit (k + 1) is (omega arith))

-- posts are only counted up
counted : (k : ℕ) (is : List Item) → k ≤ fold count_posts k is
counted k [] = omega arith
counted k (item.Fact f ∷ is) = counted k is
counted k (item.Post p ∷ is) = let h : k + 1 ≤ fold count_posts (k + 1) is = counted (k + 1) is in omega arith

pub numbers_more : (a j k b : ℕ) → b ≡ a + j → numbers a (j + k) ≡ numbers a j ++ numbers b k
numbers_more a zero k b e =
    let s : b ≡ a = omega arith in
    let n : 0 + k ≡ k = omega arith in
    rw (s, n) refl
numbers_more a (suc j) k b e =
    let n : suc j + k ≡ suc (j + k) = omega arith in
    rw n (ap (λ (l : List ℕ). a ∷ l) (numbers_more (a + 1) j k b (omega arith)))

-- The first item, and then the others.

pub record Steps (limit n m : ℕ) (i : Item) (is : List Item) : Type 0 where
  pub facts_are : numbered limit n (i ∷ is) ≡ numbered limit n (i ∷ []) ++ numbered limit m is
  pub posts_are : posts_of limit n (i ∷ is) ≡ posts_of limit n (i ∷ []) ++ posts_of limit m is
  pub past_is : is_past limit n (i ∷ is) ≡ (is_past limit n (i ∷ []) || is_past limit m is)

steps_post : (b : Bool) (limit n m : ℕ) (p : Packet) (is : List Item) → nat_lt n limit ≡ b → n ≤ limit → m ≡ n + length (posts_of limit n (item.Post p ∷ [])) → Steps limit n m (item.Post p) is
steps_post true limit n m p is e h s =
    let under : n < limit = grind (arith, nat_tests) in
    let at : m ≡ n + 1 = rw e at s in
    let none : nat_lt limit (n + 1) ≡ false = lt_false limit (n + 1) (omega arith) in
    record {
      facts_are = rw (e, at) refl;
      posts_are = rw (e, at) refl;
      past_is = rw (none, at) refl;
    }
steps_post false limit n m p is e h s =
    let over : limit ≤ n = grind (arith, nat_tests) in
    let at : m ≡ n + 0 = rw e at s in
    let same : m ≡ n = omega arith in
    let some : nat_lt limit (n + 1) ≡ true = lt_true limit (n + 1) (omega arith) in
    let up : n + 1 ≤ fold count_posts (n + 1) is = counted (n + 1) is in
    let all : nat_lt limit (fold count_posts (n + 1) is) ≡ true = lt_true limit (fold count_posts (n + 1) is) (omega arith) in
    record {
      facts_are = rw (e, same) (past_all limit (n + 1) n is (omega arith) over);
      posts_are = rw (e, same) (past_posts limit (n + 1) is (omega arith) ∙ sym (past_posts limit n is over));
      past_is = rw (all, some) refl;
    }

pub steps : (limit n m : ℕ) (i : Item) (is : List Item) → n ≤ limit → m ≡ n + length (posts_of limit n (i ∷ [])) → Steps limit n m i is
steps limit n m (item.Fact f) is h s =
    let same : m ≡ n = omega arith in
    let none : nat_lt limit n ≡ false = lt_false limit n h in
    record {
      facts_are = rw same refl;
      posts_are = rw same refl;
      past_is = rw (none, same) refl;
    }
steps limit n m (item.Post p) is h s = steps_post (nat_lt n limit) limit n m p is refl h s

-- The mail, item by item.

abbrev pub mails : List Packet → List ℕ → List Item → ℕ → Bool → Mails
mails packets fresh is spare full = record { packets = packets; fresh = fresh; items = is; spare = spare; full = full }

same_mails : (p q : List Packet) (f g : List ℕ) (is : List Item) (s : ℕ) (b : Bool) → p ≡ q → f ≡ g → mails p f is s b ≡ mails q g is s b
same_mails p q f g is s b e h = ap (λ x. mails x f is s b) e ∙ ap (λ x. mails q x is s b) h

abbrev pub first : Item → Mails → Mails
first i m = record m { items = i ∷ m.items }

pub all_next : (limit : ℕ) (m : Mails) (i : Item) → length m.packets ≤ limit → all_told limit (with_posts m (posts_of limit (length m.packets) (i ∷ []))) ≡ all_told limit (first i m)
all_next limit m i h =
    let n : ℕ = length m.packets in
    let one : List Packet = posts_of limit n (i ∷ []) in
    let far : length (m.packets ++ one) ≡ n + length one = length-append m.packets one in
    let others : List Packet = posts_of limit (length (m.packets ++ one)) m.items in
    let step : Steps limit n (length (m.packets ++ one)) i m.items = steps limit n (length (m.packets ++ one)) i m.items h far in
    let packets : (m.packets ++ one) ++ others ≡ m.packets ++ posts_of limit n (i ∷ m.items) = append_assoc m.packets one others ∙ ap (λ x. m.packets ++ x) (sym step.posts_are) in
    let count : length (posts_of limit n (i ∷ m.items)) ≡ length one + length others = ap length step.posts_are ∙ length-append one others in
    let more : numbers (n + 1) (length one + length others) ≡ numbers (n + 1) (length one) ++ numbers (length (m.packets ++ one) + 1) (length others) = numbers_more (n + 1) (length one) (length others) (length (m.packets ++ one) + 1) (omega arith) in
    let fresh : (m.fresh ++ numbers (n + 1) (length one)) ++ numbers (length (m.packets ++ one) + 1) (length others) ≡ m.fresh ++ numbers (n + 1) (length (posts_of limit n (i ∷ m.items))) = append_assoc m.fresh (numbers (n + 1) (length one)) (numbers (length (m.packets ++ one) + 1) (length others)) ∙ ap (λ x. m.fresh ++ x) (sym more ∙ ap (numbers (n + 1)) (sym count)) in
    same_mails ((m.packets ++ one) ++ others) (m.packets ++ posts_of limit n (i ∷ m.items)) ((m.fresh ++ numbers (n + 1) (length one)) ++ numbers (length (m.packets ++ one) + 1) (length others)) (m.fresh ++ numbers (n + 1) (length (posts_of limit n (i ∷ m.items)))) [] m.spare m.full packets fresh

pub past_next : (limit : ℕ) (m : Mails) (i : Item) (before : Bool) → length m.packets ≤ limit → ((before || is_past limit (length m.packets) (i ∷ [])) || is_past limit (length (m.packets ++ posts_of limit (length m.packets) (i ∷ []))) m.items) ≡ (before || is_past limit (length m.packets) (i ∷ m.items))
past_next limit m i true h = refl
past_next limit m i false h = sym (steps limit (length m.packets) (length (m.packets ++ posts_of limit (length m.packets) (i ∷ []))) i m.items h (length-append m.packets (posts_of limit (length m.packets) (i ∷ [])))).past_is

pub told_next : (limit : ℕ) (m : Mails) (i : Item) (old new whole : List Fact) → length m.packets ≤ limit → ToldTo old new whole (numbered limit (length m.packets) (i ∷ m.items)) → ToldTo old (new ++ numbered limit (length m.packets) (i ∷ [])) whole (numbered limit (length (m.packets ++ posts_of limit (length m.packets) (i ∷ []))) m.items)
told_next limit m i old new whole h t =
    let one : List Fact = numbered limit (length m.packets) (i ∷ []) in
    let far : ℕ = length (m.packets ++ posts_of limit (length m.packets) (i ∷ [])) in
    let step : Steps limit (length m.packets) far i m.items = steps limit (length m.packets) far i m.items h (length-append m.packets (posts_of limit (length m.packets) (i ∷ []))) in
    record {
      said = t.said ++ one;
      new_is = ap (λ x. x ++ one) t.new_is ∙ append_assoc old t.said one;
      whole_is = t.whole_is ∙ ap (λ x. t.said ++ x) step.facts_are ∙ sym (append_assoc t.said one (numbered limit far m.items));
    }

-- One turn of the loop: `before` it, then `m` where an item is taken out, and `after` it is told.

pub told_kept : (limit : ℕ) (before m after : Mails) (i : Item) (old facts more whole : List Fact) → before ≡ first i m → length m.packets ≤ limit → more ≡ facts ++ numbered limit (length m.packets) (i ∷ []) → after ≡ with_posts m (posts_of limit (length m.packets) (i ∷ [])) → ToldTo old facts whole (numbered limit (length before.packets) before.items) → ToldTo old more whole (numbered limit (length after.packets) after.items)
told_kept limit before m after i old facts more whole b h f a t =
    let start : ToldTo old facts whole (numbered limit (length m.packets) (i ∷ m.items)) = subst (λ (x : Mails). ToldTo old facts whole (numbered limit (length x.packets) x.items)) b t in
    rw (f, a) (told_next limit m i old facts whole h start)

pub rest_kept : (limit : ℕ) (start before m after : Mails) (i : Item) → before ≡ first i m → length m.packets ≤ limit → after ≡ with_posts m (posts_of limit (length m.packets) (i ∷ [])) → all_told limit before ≡ all_told limit start → all_told limit after ≡ all_told limit start
rest_kept limit start before m after i b h a r = ap (all_told limit) a ∙ all_next limit m i h ∙ sym (ap (all_told limit) b) ∙ r

pub past_kept : (limit : ℕ) (whole : Bool) (before m after : Mails) (i : Item) (past over : Bool) → before ≡ first i m → length m.packets ≤ limit → over ≡ is_past limit (length m.packets) (i ∷ []) → after ≡ with_posts m (posts_of limit (length m.packets) (i ∷ [])) → (past || is_past limit (length before.packets) before.items) ≡ whole → ((past || over) || is_past limit (length after.packets) after.items) ≡ whole
past_kept limit whole before m after i past over b h o a r =
    let start : (past || is_past limit (length m.packets) (i ∷ m.items)) ≡ whole = subst (λ (x : Mails). (past || is_past limit (length x.packets) x.items) ≡ whole) b r in
    rw (o, a) (past_next limit m i past h ∙ start)

-- the oldest item of a list, where it stands
pub first_of : (m : Mails) (old rest : Spared Item) (i : Item) → old.items ≡ i ∷ drop 1 old.items → rest.items ≡ drop 1 old.items → rest.spare ≡ old.spare → with_items m old ≡ first i (with_items m rest)
first_of m old rest i is left same =
    let items : old.items ≡ i ∷ rest.items = is ∙ ap (λ l. i ∷ l) (sym left) in
    ap (λ (l : List Item). with_items m (record { items = l; spare = old.spare })) items ∙ ap (λ (n : ℕ). with_items m (record { items = i ∷ rest.items; spare = n })) (sym same)

pub posts_with : (limit : ℕ) (m after : Mails) (o : Spared Item) (i : Item) → after ≡ with_posts m (posts_of limit (length m.packets) (i ∷ [])) → with_items after o ≡ with_posts (with_items m o) (posts_of limit (length m.packets) (i ∷ []))
posts_with limit m after o i e = ap (λ (x : Mails). with_items x o) e

-- A packet posted on the wire.

pub posted_one : (limit : ℕ) (packets : List Packet) (marks : List Bool) (is : List Item) (spare : ℕ) (full : Bool) (p : Packet) → length marks ≡ length packets → length packets < limit → mails (packets ++ p ∷ []) (fresh_of (marks ++ false ∷ [])) is spare full ≡ with_posts (mails packets (fresh_of marks) is spare full) (posts_of limit (length packets) (item.Post p ∷ []))
posted_one limit packets marks is spare full p same h =
    let under : nat_lt (length packets) limit ≡ true = lt_true (length packets) limit h in
    let number : 1 + length marks ≡ length packets + 1 = omega arith in
    let fresh : fresh_of (marks ++ false ∷ []) ≡ fresh_of marks ++ (length packets + 1) ∷ [] = fresh_more 1 marks ∙ ap (λ (k : ℕ). fresh_of marks ++ k ∷ []) number in
    rw under (same_mails (packets ++ p ∷ []) (packets ++ p ∷ []) (fresh_of (marks ++ false ∷ [])) (fresh_of marks ++ (length packets + 1) ∷ []) is spare full refl fresh)

-- The end.

pub all_end : (limit : ℕ) (m : Mails) → m.items ≡ [] → all_told limit m ≡ m
all_end limit m e =
    let none : posts_of limit (length m.packets) m.items ≡ [] = ap (posts_of limit (length m.packets)) e in
    let packets : m.packets ++ posts_of limit (length m.packets) m.items ≡ m.packets = rw none (append-nil m.packets) in
    let fresh : m.fresh ++ numbers (length m.packets + 1) (length (posts_of limit (length m.packets) m.items)) ≡ m.fresh = rw none (append-nil m.fresh) in
    same_mails (m.packets ++ posts_of limit (length m.packets) m.items) m.packets (m.fresh ++ numbers (length m.packets + 1) (length (posts_of limit (length m.packets) m.items))) m.fresh [] m.spare m.full packets fresh ∙ ap (λ x. mails m.packets m.fresh x m.spare m.full) (sym e)

pub past_end : (limit n : ℕ) (is : List Item) (before : Bool) → is ≡ [] → n ≤ limit → (before || is_past limit n is) ≡ before
past_end limit n is true e h = refl
past_end limit n is false e h = rw e (lt_false limit n h)

pub told_end : (old new whole left : List Fact) → left ≡ [] → ToldTo old new whole left → new ≡ old ++ whole
told_end old new whole left e t = t.new_is ∙ ap (λ x. old ++ x) (sym (t.whole_is ∙ rw e (append-nil t.said)))

pub told_some : (old new whole left : List Fact) → ToldTo old new whole left → ToldSome old new whole
told_some old new whole left t = record { said = t.said; left = left; new_is = t.new_is; whole_is = t.whole_is }

-- What is told, to the words of the world.

off_wire : (f : Fact) (packets : List Packet) → is_own f ≡ true → wire_step packets f ≡ packets
off_wire (fact.Sent k p) packets h = cc
off_wire f packets h = refl

off_fresh : (f : Fact) (fresh : List ℕ) → is_own f ≡ true → fresh_step fresh f ≡ fresh
off_fresh (fact.Sent k p) fresh h = cc
off_fresh (fact.Got k) fresh h = cc
off_fresh f fresh h = refl

off_full : (f : Fact) (full : Bool) → is_own f ≡ true → full_step full f ≡ full
off_full fact.WireFull full h = cc
off_full f full h = refl

packets_told_post : (b : Bool) (limit k : ℕ) (packets : List Packet) (p : Packet) (is : List Item) → nat_lt k limit ≡ b → ((xs : List Packet) → fold wire_step xs (numbered limit (k + 1) is) ≡ xs ++ posts_of limit (k + 1) is) → fold wire_step packets (numbered limit k (item.Post p ∷ is)) ≡ packets ++ posts_of limit k (item.Post p ∷ is)
packets_told_post true limit k packets p is e others = rw e (others (packets ++ p ∷ []) ∙ append_assoc packets (p ∷ []) (posts_of limit (k + 1) is))
packets_told_post false limit k packets p is e others = rw e (others packets)

packets_told : (limit k : ℕ) (is : List Item) → list_all is_own_item is ≡ true → (packets : List Packet) → fold wire_step packets (numbered limit k is) ≡ packets ++ posts_of limit k is
packets_told limit k [] h packets = sym (append-nil packets)
packets_told limit k (item.Fact f ∷ is) h packets =
    let parts = and_parts (is_own f) (list_all is_own_item is) h in
    let same : wire_step packets f ≡ packets = off_wire f packets parts.0 in
    ap (λ x. fold wire_step x (numbered limit k is)) same ∙ packets_told limit k is parts.1 packets
packets_told limit k (item.Post p ∷ is) h packets = packets_told_post (nat_lt k limit) limit k packets p is refl (packets_told limit (k + 1) is h)

fresh_told_post : (b : Bool) (limit k : ℕ) (fresh : List ℕ) (p : Packet) (is : List Item) → nat_lt k limit ≡ b → ((xs : List ℕ) → fold fresh_step xs (numbered limit (k + 1) is) ≡ xs ++ numbers (k + 1 + 1) (length (posts_of limit (k + 1) is))) → fold fresh_step fresh (numbered limit k (item.Post p ∷ is)) ≡ fresh ++ numbers (k + 1) (length (posts_of limit k (item.Post p ∷ is)))
fresh_told_post true limit k fresh p is e others = rw e (others (fresh ++ (k + 1) ∷ []) ∙ append_assoc fresh ((k + 1) ∷ []) (numbers (k + 1 + 1) (length (posts_of limit (k + 1) is))))
fresh_told_post false limit k fresh p is e others =
    let over : limit ≤ k = grind (arith, nat_tests) in
    let none : posts_of limit (k + 1) is ≡ [] = past_posts limit (k + 1) is (omega arith) in
    let told : fold fresh_step fresh (numbered limit (k + 1) is) ≡ fresh ++ [] = rw none at (others fresh) in
    rw (e, none) told

fresh_told : (limit k : ℕ) (is : List Item) → list_all is_own_item is ≡ true → (fresh : List ℕ) → fold fresh_step fresh (numbered limit k is) ≡ fresh ++ numbers (k + 1) (length (posts_of limit k is))
fresh_told limit k [] h fresh = sym (append-nil fresh)
fresh_told limit k (item.Fact f ∷ is) h fresh =
    let parts = and_parts (is_own f) (list_all is_own_item is) h in
    let same : fresh_step fresh f ≡ fresh = off_fresh f fresh parts.0 in
    ap (λ x. fold fresh_step x (numbered limit k is)) same ∙ fresh_told limit k is parts.1 fresh
fresh_told limit k (item.Post p ∷ is) h fresh = fresh_told_post (nat_lt k limit) limit k fresh p is refl (fresh_told limit (k + 1) is h)

full_told_post : (b : Bool) (limit k : ℕ) (full : Bool) (p : Packet) (is : List Item) → nat_lt k limit ≡ b → fold full_step full (numbered limit (k + 1) is) ≡ full → fold full_step full (numbered limit k (item.Post p ∷ is)) ≡ full
full_told_post true limit k full p is e others = rw e others
full_told_post false limit k full p is e others = rw e others

full_told : (limit k : ℕ) (is : List Item) → list_all is_own_item is ≡ true → (full : Bool) → fold full_step full (numbered limit k is) ≡ full
full_told limit k [] h full = refl
full_told limit k (item.Fact f ∷ is) h full =
    let parts = and_parts (is_own f) (list_all is_own_item is) h in
    let same : full_step full f ≡ full = off_full f full parts.0 in
    ap (λ x. fold full_step x (numbered limit k is)) same ∙ full_told limit k is parts.1 full
full_told limit k (item.Post p ∷ is) h full = full_told_post (nat_lt k limit) limit k full p is refl (full_told limit (k + 1) is h full)

abbrev ending : Bool → List Fact
ending b = cond b (fact.WireFull ∷ []) []

end_packets : (b : Bool) (packets : List Packet) → fold wire_step packets (ending b) ≡ packets
end_packets true packets = refl
end_packets false packets = refl

end_fresh : (b : Bool) (fresh : List ℕ) → fold fresh_step fresh (ending b) ≡ fresh
end_fresh true fresh = refl
end_fresh false fresh = refl

end_full : (b full : Bool) → fold full_step full (ending b) ≡ (full || b)
end_full true true = refl
end_full true false = refl
end_full false true = refl
end_full false false = refl

pub told : ToldLaw
told limit packets fresh full is h =
    let k : ℕ = length packets in
    let b : Bool = is_past limit k is in
    record {
      packets_is = fold-append wire_step packets (numbered limit k is) (ending b) ∙ end_packets b (fold wire_step packets (numbered limit k is)) ∙ packets_told limit k is h packets;
      fresh_is = fold-append fresh_step fresh (numbered limit k is) (ending b) ∙ end_fresh b (fold fresh_step fresh (numbered limit k is)) ∙ fresh_told limit k is h fresh;
      full_is = fold-append full_step full (numbered limit k is) (ending b) ∙ end_full b (fold full_step full (numbered limit k is)) ∙ ap (λ x. x || b) (full_told limit k is h full);
    }

pub facts_are : FactsLaw
facts_are w is = refl
