-- What code keeps after a step stands for the world that the step makes.
use Rattle.std.proofs.Common.{◌≡◌, ℕ, ◌+◌, true, ◌||◌, List, [], ◌∷◌, ◌++◌, length, fold, refl, ap, sym, ◌∙◌, subst}
use Rattle.std.specs.Prelude.{map, Option, IfSome, Result, Ok, Err, OnOk}
use Rattle.std.specs.List.{list_all}
use Rattle.yard_model.specs.declared.fact.Fact.{Fact}
use Rattle.yard_model.specs.declared.incarnation.Incarnation.{Incarnation}
use Rattle.yard_model.specs.declared.out.Item.{Item}
use Rattle.yard_model.specs.declared.out.Item.TheVariants as item
use Rattle.yard_model.specs.declared.packet.Body.TheVariants as body
use Rattle.yard_model.specs.Script.{Script, setting}
use Rattle.yard_model.specs.Trace.{lists_step}
use Rattle.yard_model.specs.Words.{at, numbers}
use Rattle.yard_model.specs.Node.{Node}
use Rattle.yard_model.specs.World.{World, world_after, members_step, version_step, ups_step, wire_step, fresh_step, full_step, nodes_step, input_facts, wire_limit, views}
use Rattle.shard_lease.specs.Book.{meaning_of}
use Rattle.actor_laws.specs.Owes.{facts_in}
use Rattle.node_core.specs.Leased.{Tells}
use Rattle.node_core.specs.Standing.{Standing}
use Rattle.world_sim.specs.Mail.{Mails, ToldSome, facts_of, posts_of, is_past}
use Rattle.world_sim.specs.Told.{AreTold, is_own_item}
use Rattle.world_sim.specs.Yard.{Yard, Force, IsSeen, Goes, state_in}
use Rattle.world_sim.proofs.TellLaws.{words_after, input_within, input_lists, input_members, input_version, input_ups, input_nodes}
use Rattle.world_sim.proofs.ToldLaws.{told, facts_are}

-- The mail once items are told.

pub record IsMailed (old new : Mails) (is : List Item) : Type 0 where
  pub packets_are : new.packets ≡ old.packets ++ posts_of wire_limit (length old.packets) is
  pub fresh_are : new.fresh ≡ old.fresh ++ numbers (length old.packets + 1) (length (posts_of wire_limit (length old.packets) is))
  pub full_is : new.full ≡ (old.full || is_past wire_limit (length old.packets) is)
  pub none_left : new.items ≡ []

-- the same, where the items stand in a mail with the same packets
pub mailed_from : (old mid new : Mails) (is : List Item) → mid.packets ≡ old.packets → mid.fresh ≡ old.fresh → mid.full ≡ old.full → mid.items ≡ is → IsMailed mid new mid.items → IsMailed old new is
mailed_from old mid new is e f g h k = record {
  packets_are = k.packets_are ∙ (ap (λ p. p ++ posts_of wire_limit (length p) mid.items) e ∙ ap (λ i. old.packets ++ posts_of wire_limit (length old.packets) i) h);
  fresh_are = k.fresh_are ∙ (ap (λ x. x ++ numbers (length mid.packets + 1) (length (posts_of wire_limit (length mid.packets) mid.items))) f
      ∙ (ap (λ p. old.fresh ++ numbers (length p + 1) (length (posts_of wire_limit (length p) mid.items))) e ∙ ap (λ i. old.fresh ++ numbers (length old.packets + 1) (length (posts_of wire_limit (length old.packets) i))) h));
  full_is = k.full_is ∙ (ap (λ b. b || is_past wire_limit (length mid.packets) mid.items) g ∙ (ap (λ p. old.full || is_past wire_limit (length p) mid.items) e ∙ ap (λ i. old.full || is_past wire_limit (length old.packets) i) h));
  none_left = k.none_left;
}

-- all items are told, and these are the facts
pub record IsAllTold (old new : Mails) (before after : List Fact) : Type 0 where
  pub mail_is : IsMailed old new old.items
  pub facts_are : after ≡ before ++ facts_of wire_limit (length old.packets) old.items

pub all_told_is : {T E : Type 0} (r : Result T E) (old new : Mails) (before after : List Fact) → OnOk r (after ≡ before ++ facts_of wire_limit (length old.packets) old.items)
    → OnOk r (new.packets ≡ old.packets ++ posts_of wire_limit (length old.packets) old.items)
    → OnOk r (new.fresh ≡ old.fresh ++ numbers (length old.packets + 1) (length (posts_of wire_limit (length old.packets) old.items)))
    → OnOk r (new.full ≡ (old.full || is_past wire_limit (length old.packets) old.items))
    → OnOk r (new.items ≡ []) → OnOk r (IsAllTold old new before after)
all_told_is (Ok x) old new before after f p q b n = record { mail_is = record { packets_are = p; fresh_are = q; full_is = b; none_left = n }; facts_are = f }
all_told_is (Err e) old new before after f p q b n = tt

told_by : (w : World) (is : List Item) → list_all is_own_item is ≡ true → AreTold w.limit w.wire w.fresh w.full is
told_by w is own = told w.limit w.wire w.fresh w.full is own

wire_told : (y : Yard) (w : World) (new : Mails) (is : List Item) → IsSeen y w → list_all is_own_item is ≡ true → IsMailed y.mail new is → new.packets ≡ fold wire_step w.wire (input_facts w is)
wire_told y w new is s own m =
    m.packets_are ∙ (ap (λ p. p ++ posts_of wire_limit (length p) is) s.wire_is ∙ (ap (λ l. w.wire ++ posts_of l (length w.wire) is) (sym s.limit_is)
    ∙ (sym (told_by w is own).packets_is ∙ ap (fold wire_step w.wire) (sym (facts_are w is)))))

fresh_told : (y : Yard) (w : World) (new : Mails) (is : List Item) → IsSeen y w → list_all is_own_item is ≡ true → IsMailed y.mail new is → new.fresh ≡ fold fresh_step w.fresh (input_facts w is)
fresh_told y w new is s own m =
    m.fresh_are ∙ (ap (λ x. x ++ numbers (length y.mail.packets + 1) (length (posts_of wire_limit (length y.mail.packets) is))) s.fresh_is
    ∙ (ap (λ p. w.fresh ++ numbers (length p + 1) (length (posts_of wire_limit (length p) is))) s.wire_is
    ∙ (ap (λ l. w.fresh ++ numbers (length w.wire + 1) (length (posts_of l (length w.wire) is))) (sym s.limit_is)
    ∙ (sym (told_by w is own).fresh_is ∙ ap (fold fresh_step w.fresh) (sym (facts_are w is))))))

full_told : (y : Yard) (w : World) (new : Mails) (is : List Item) → IsSeen y w → list_all is_own_item is ≡ true → IsMailed y.mail new is → new.full ≡ fold full_step w.full (input_facts w is)
full_told y w new is s own m =
    m.full_is ∙ (ap (λ b. b || is_past wire_limit (length y.mail.packets) is) s.full_is
    ∙ (ap (λ p. w.full || is_past wire_limit (length p) is) s.wire_is
    ∙ (ap (λ l. w.full || is_past l (length w.wire) is) (sym s.limit_is)
    ∙ (sym (told_by w is own).full_is ∙ ap (fold full_step w.full) (sym (facts_are w is))))))

-- the facts are the world's
pub facts_told : (y : Yard) (w : World) (is : List Item) (before after : List Fact) → IsSeen y w → after ≡ before ++ facts_of wire_limit (length y.mail.packets) is → after ≡ before ++ input_facts w is
facts_told y w is before after s e =
    e ∙ (ap (λ p. before ++ facts_of wire_limit (length p) is) s.wire_is ∙ (ap (λ l. before ++ facts_of l (length w.wire) is) (sym s.limit_is) ∙ ap (λ fs. before ++ fs) (sym (facts_are w is))))

-- the facts of the items of a mail are the world's
pub items_told : (y : Yard) (w : World) (mid : Mails) (is : List Item) → IsSeen y w → mid.packets ≡ y.mail.packets → mid.items ≡ is → facts_of wire_limit (length mid.packets) mid.items ≡ input_facts w is
items_told y w mid is s e h =
    ap (λ p. facts_of wire_limit (length p) mid.items) (e ∙ s.wire_is)
    ∙ (ap (λ i. facts_of wire_limit (length w.wire) i) h
    ∙ (ap (λ l. facts_of l (length w.wire) is) (sym s.limit_is) ∙ sym (facts_are w is)))

-- what the step doesn't touch
pub record IsKept (y z : Yard) : Type 0 where
  pub script_is : z.script ≡ y.script
  pub members_are : z.members ≡ y.members
  pub version_is : z.version ≡ y.version
  pub ups_are : z.ups ≡ y.ups
  pub force_is : z.force ≡ y.force
  pub ordered_are : z.ordered ≡ y.ordered

-- the nodes and leases after it
pub record IsLed (y : Yard) (nodes : List (Option Node)) (w : World) (is : List Item) : Type 0 where
  pub nodes_are : map state_in y.nodes ≡ nodes
  pub scripts_are : (k : ℕ) → IfSome (at y.nodes k) (λ (v : Standing). v.script ≡ y.script)
  pub book_is : y.book.script ≡ y.script
  pub tells_is : Tells (meaning_of y.book) y.script (fold (lists_step (setting y.script)) w.lists (facts_in is))

-- the world that the facts of one input lead to, with these nodes
abbrev pub led_to : World → List Item → List (Option Node) → World
led_to w is nodes = record (fold world_after w (input_facts w is)) { nodes = nodes }

pub seen_told : (y z : Yard) (w : World) (is : List Item) (nodes : List (Option Node)) → IsSeen y w → list_all is_own_item is ≡ true → IsKept y z → IsMailed y.mail z.mail is → IsLed z nodes w is → IsSeen z (led_to w is nodes)
seen_told y z w is nodes s own k m l =
    let fs : List Fact = input_facts w is in
    let e : fold world_after w fs ≡ record w {
      members = fold members_step w.members fs;
      version = fold version_step w.version fs;
      ups = fold ups_step w.ups fs;
      wire = fold wire_step w.wire fs;
      fresh = fold fresh_step w.fresh fs;
      lists = fold (lists_step w.set) w.lists fs;
      full = fold full_step w.full fs;
      nodes = fold (nodes_step w.set w.behaviour) w.nodes fs;
    } = words_after w fs (input_within w is own) in
    let lists : fold (lists_step (setting z.script)) w.lists (facts_in is) ≡ (fold world_after w fs).lists =
    sym (input_lists (setting z.script) w is w.lists) ∙ (ap (λ set. fold (lists_step set) w.lists fs) (ap setting k.script_is ∙ sym s.set_is) ∙ sym (ap (λ (v : World). v.lists) e)) in
    record {
      set_is = ap (λ (v : World). v.set) e ∙ (s.set_is ∙ ap setting (sym k.script_is));
      kind_is = ap (λ (f : Force). f.kind) k.force_is ∙ (s.kind_is ∙ ap (λ (c : Script). c.config.kind) (sym k.script_is));
      behaviour_is = ap (λ (f : Force). f.version) k.force_is ∙ (s.behaviour_is ∙ sym (ap (λ (v : World). v.behaviour) e));
      past_is = ap (λ (f : Force). f.past) k.force_is ∙ (s.past_is ∙ sym (ap (λ (v : World). v.past) e));
      limit_is = ap (λ (v : World). v.limit) e ∙ s.limit_is;
      members_are = k.members_are ∙ (s.members_are ∙ (sym (input_members w is w.members own) ∙ sym (ap (λ (v : World). v.members) e)));
      version_is = k.version_is ∙ (s.version_is ∙ (sym (input_version w is w.version own) ∙ sym (ap (λ (v : World). v.version) e)));
      ups_are = k.ups_are ∙ (s.ups_are ∙ (sym (input_ups w is w.ups own) ∙ sym (ap (λ (v : World). v.ups) e)));
      ordered_are = k.ordered_are ∙ (s.ordered_are ∙ sym (ap (λ (v : World). v.ordered) e));
      ordered_there = ap length k.ordered_are ∙ (s.ordered_there ∙ ap (λ (c : Script). c.config.producers) (sym k.script_is));
      wire_is = wire_told y w z.mail is s own m ∙ sym (ap (λ (v : World). v.wire) e);
      fresh_is = fresh_told y w z.mail is s own m ∙ sym (ap (λ (v : World). v.fresh) e);
      full_is = full_told y w z.mail is s own m ∙ sym (ap (λ (v : World). v.full) e);
      told_all = m.none_left;
      nodes_are = l.nodes_are;
      scripts_are = l.scripts_are;
      book_is = l.book_is;
      tells_is = subst (λ x. Tells (meaning_of z.book) z.script x) lists l.tells_is;
    }

-- Views.

abbrev pub view_items : ℕ → List Incarnation → List Incarnation → List Item
view_items version members xs = map (λ x. item.Post (record { from = x; to = x; body = body.View version members })) xs

pub views_own : (version : ℕ) (members xs : List Incarnation) → list_all is_own_item (view_items version members xs) ≡ true
views_own version members [] = refl
views_own version members (x ∷ xs) = views_own version members xs

pub views_none : (version : ℕ) (members xs : List Incarnation) → facts_in (view_items version members xs) ≡ []
views_none version members [] = refl
views_none version members (x ∷ xs) = views_none version members xs

pub views_seen : (y : Yard) (mid new : Mails) (w : World) (before after : List Fact) → IsSeen y w → mid.packets ≡ y.mail.packets → mid.fresh ≡ y.mail.fresh → mid.full ≡ y.mail.full
    → mid.items ≡ view_items y.version y.members y.members → IsAllTold mid new before after → Goes before after (record y { mail = new }) (views w)
views_seen y mid new w before after s e f g h t =
    let is : List Item = view_items w.version w.members w.members in
    let own : list_all is_own_item is ≡ true = views_own w.version w.members w.members in
    let items : mid.items ≡ is = h ∙ (ap (λ v. view_items v y.members y.members) s.version_is ∙ ap (λ m. view_items w.version m m) s.members_are) in
    let fs : List Fact = input_facts w is in
    let nodes : (fold world_after w fs).nodes ≡ w.nodes = ap (λ (v : World). v.nodes) (words_after w fs (input_within w is own)) ∙ input_nodes w.set w.behaviour w is w.nodes own in
    record {
      seen_is = seen_told y (record y { mail = new }) w is (fold world_after w fs).nodes s own (record { script_is = refl; members_are = refl; version_is = refl; ups_are = refl; force_is = refl; ordered_are = refl })
          (mailed_from y.mail mid new is e f g items t.mail_is)
          (record {
            nodes_are = s.nodes_are ∙ sym nodes;
            scripts_are = s.scripts_are;
            book_is = s.book_is;
            tells_is = subst (λ facts. Tells (meaning_of y.book) y.script (fold (lists_step (setting y.script)) w.lists facts)) (sym (views_none w.version w.members w.members)) s.tells_is;
          });
      facts_are = facts_told y w is before after s (t.facts_are ∙ (ap (λ p. before ++ facts_of wire_limit (length p) mid.items) e ∙ ap (λ i. before ++ facts_of wire_limit (length y.mail.packets) i) items));
    }

pub cut_views : (y : Yard) (mid : Mails) (w : World) (before after : List Fact) → IsSeen y w → mid.packets ≡ y.mail.packets → mid.items ≡ view_items y.version y.members y.members
    → ToldSome before after (facts_of wire_limit (length mid.packets) mid.items) → ToldSome before after (views w).facts
cut_views y mid w before after s e h t =
    let is : List Item = view_items w.version w.members w.members in
    let items : mid.items ≡ is = h ∙ (ap (λ v. view_items v y.members y.members) s.version_is ∙ ap (λ m. view_items w.version m m) s.members_are) in
    subst (ToldSome before after) (items_told y w mid is s e items) t
