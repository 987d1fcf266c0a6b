-- A world of given stores.
use Rattle.std.proofs.Common.{◌≡◌, ◌<◌, ◌≤◌, ℕ, zero, suc, ◌+◌, ◌-◌, ◌*◌, true, List, [], ◌∷◌, ◌++◌, length, refl, ap, sym, ◌∙◌, subst, arith}
use Rattle.std.specs.Prelude.{Bool, false, max, ◌==◌, ◌&&◌, nat_lt, nat_le, map, fold, replicate, Option, Some, None, IfSome, IsSome, slice_index_or, slice_set, if◌then◌else◌}
use Rattle.std.specs.List.{list_all}
use Rattle.std.proofs.lemmas.Bool.Decides.{nat_tests}
use Rattle.std.proofs.lemmas.List.Folds.{list_all-append}
use Rattle.yard_model.specs.declared.fact.Fact.{Fact}
use Rattle.yard_model.specs.declared.fact.Fact.TheVariants as fact
use Rattle.yard_model.specs.declared.incarnation.Incarnation.{Incarnation}
use Rattle.yard_model.specs.declared.incarnation.Slot.{Slot}
use Rattle.yard_model.specs.declared.incarnation.Slot.TheVariants as slot
use Rattle.yard_model.specs.Era.{opening_of}
use Rattle.yard_model.specs.Genuine.{is_slot_of}
use Rattle.yard_model.specs.Lawful.{is_held}
use Rattle.yard_model.specs.Script.{Script, IsScript, setting, sends}
use Rattle.yard_model.specs.SlotLists.{SlotLists}
use Rattle.yard_model.specs.Words.{at, numbers}
use Rattle.yard_model.specs.World.{World, all_sends, given_world, number_step, is_any_up, settle, settled_from}
use Rattle.plain_laws.proofs.Booleans.{true_is_not_false, and_both, both, below, not_below, same_number, at_most, get_replicate}
use Rattle.shard_lease.specs.Book.{Book, meaning_of}
use Rattle.shard_store.specs.declared.store.Store.{Store}
use Rattle.shard_store.specs.Stores.{Shelves, entries_at, lists_at, place_of}
use Rattle.node_core.specs.Leased.{Tells}
use Rattle.node_core.specs.Standing.{Standing}
use Rattle.settle_laws.specs.Settles.{IsUnheld, StoresEnd, StoresSettle, GivenMaySettle}
use Rattle.world_sim.specs.declared.fault.StepFault.{StepFault}
use Rattle.world_sim.specs.declared.fault.StepFault.TheVariants as fault
use Rattle.world_sim.specs.Given.{Given, IsGiven, is_numbered}
use Rattle.world_sim.specs.Keeps.{Keeps}
use Rattle.world_sim.specs.Played.{Played, WasSettled, WasCut, AreSettled, made_at}
use Rattle.world_sim.specs.Stands.{Stands}
use Rattle.world_sim.specs.Stepped.{IsWhole, IsCut}
use Rattle.world_sim.specs.declared.world.Origin.{Origin}
use Rattle.world_sim.specs.World.{IsWorld, IsOf, IsHeld, IsFromStores, given_in}
use Rattle.world_sim.specs.Yard.{Yard, IsSeen, IsSoundTo, Settles, state_in}
use Rattle.world_sim.proofs.NumberLaws.{joined}
use Rattle.world_sim.proofs.ReshardLaws.{entries_are, tells_free}
use Rattle.world_sim.proofs.SentLaws.{sent_few}
use Rattle.world_sim.proofs.WorldLaws.{seen}

-- The numbers of node 1.

one_number : (m : ℕ) (f : Fact) → m ≤ 4000000000 → is_numbered f ≡ true → number_step m f ≤ 4000000000
one_number m (fact.Granted s n x) few h = by (x.node == 1) (at_most x.number 4000000000 h)
  where
    by : (b : Bool) → x.number ≤ 4000000000 → (if b then max m x.number else m) ≤ 4000000000
    by true k = omega (arith, few, k)
    by false k = few
one_number m (fact.Registered x) few h = by (x.node == 1) (at_most x.number 4000000000 h)
  where
    by : (b : Bool) → x.number ≤ 4000000000 → (if b then max m x.number else m) ≤ 4000000000
    by true k = omega (arith, few, k)
    by false k = few
one_number m f few h = few

all_numbers : (m : ℕ) (fs : List Fact) → m ≤ 4000000000 → list_all is_numbered fs ≡ true → fold number_step m fs ≤ 4000000000
all_numbers m [] few h = few
all_numbers m (f ∷ fs) few h =
    let p : (is_numbered f ≡ true) × (list_all is_numbered fs ≡ true) = and_both (is_numbered f) (list_all is_numbered fs) h in
    all_numbers (number_step m f) fs (one_number m f few p.0) p.1

join_numbered : (xs ys : List Fact) → list_all is_numbered xs ≡ true → list_all is_numbered ys ≡ true → list_all is_numbered (xs ++ ys) ≡ true
join_numbered xs ys e f = list_all-append is_numbered xs ys ∙ both (list_all is_numbered xs) (list_all is_numbered ys) e f

-- of lists, each by its place
each_numbered : (ls : List (List Fact)) → ((i : ℕ) → i < length ls → list_all is_numbered (slice_index_or ls i []) ≡ true) → list_all is_numbered (joined ls) ≡ true
each_numbered [] h = refl
each_numbered (l ∷ ls) h = join_numbered l (joined ls) (h 0 (some (length ls))) (each_numbered ls (λ i less. h (suc i) (more i (length ls) less)))
  where
    some : (n : ℕ) → 0 < suc n
    some n = omega arith

    more : (i n : ℕ) → i < n → suc i < suc n
    more i n h = omega (arith, h)

lengths_there : (a b d e f g : Bool) → (a && b && d && e && f && g) ≡ true → (a ≡ true) × (b ≡ true)
lengths_there a b d e f g h = and_both a b (and_both (a && b) d (and_both (a && b && d) e (and_both (a && b && d && e) f (and_both (a && b && d && e && f) g h).0).0).0).0

-- none in the given lists is above the limit
pub number_fits : (c : Script) (version : ℕ) (lists : SlotLists) → IsGiven c version lists → fold number_step 0 (opening_of version lists) ≤ 4000000000
number_fits c version lists g = all_numbers 0 (opening_of version lists) (omega arith)
    (join_numbered ((joined lists.shards ++ lists.coordinator) ++ joined lists.queues) (fact.Upgrade version ∷ [])
    (join_numbered (joined lists.shards ++ lists.coordinator) (joined lists.queues)
    (join_numbered (joined lists.shards) lists.coordinator
    (each_numbered lists.shards (λ i less. g.numbered (slot.Shard i) (is_shard i (subst (λ n. i < n) long.0 less)))) (g.numbered slot.Coordinator refl))
    (each_numbered lists.queues (λ i less. by_queue i (subst (λ n. i < n) long.1 less)))) refl)
  where
    there : ((length lists.shards == c.config.shards) ≡ true) × ((length lists.queues == c.config.producers) ≡ true)
    there = lengths_there (length lists.shards == c.config.shards) (length lists.queues == c.config.producers) _ _ _ _ g.lawful_is

    long : (length lists.shards ≡ c.config.shards) × (length lists.queues ≡ c.config.producers)
    long = (same_number (length lists.shards) c.config.shards there.0, same_number (length lists.queues) c.config.producers there.1)

    is_shard : (i : ℕ) → i < c.config.shards → nat_lt i c.config.shards ≡ true
    is_shard i h = grind (arith, nat_tests, h)

    is_least : (a m : ℕ) → a ≤ m → nat_le a m ≡ true
    is_least a m h = grind (arith, nat_tests, h)

    by_queue : (i : ℕ) → i < c.config.producers → list_all is_numbered (slice_index_or lists.queues i []) ≡ true
    by_queue i less =
        let one : 1 ≤ i + 1 = omega arith in
        let within : i + 1 ≤ c.config.producers = omega (arith, less) in
        let back : i + 1 - 1 ≡ i = omega arith in
        ap (λ k. list_all is_numbered (slice_index_or lists.queues k [])) (sym back) ∙ g.numbered (slot.Queue (i + 1)) (both (nat_le 1 (i + 1)) (nat_le (i + 1) c.config.producers) (is_least 1 (i + 1) one) (is_least (i + 1) c.config.producers within))

-- The parts.

-- the parts of a world of given lists
pub record IsNewOf (y : Yard) (c : Script) (version : ℕ) (lists : SlotLists) : Type 0 where
  pub script_is : y.script ≡ c
  pub members_none : y.members ≡ []
  pub version_none : y.version ≡ 0
  pub kind_is : y.force.kind ≡ c.config.kind
  pub behaviour_is : y.force.version ≡ version
  pub past_none : y.force.past ≡ 0
  pub ups_are : y.ups ≡ slice_set (replicate c.config.nodes 0) 0 (fold number_step 0 (opening_of version lists))
  pub ordered_are : y.ordered ≡ map length (all_sends c)
  pub packets_none : y.mail.packets ≡ []
  pub fresh_none : y.mail.fresh ≡ []
  pub items_none : y.mail.items ≡ []
  pub full_not : y.mail.full ≡ false
  pub nodes_none : y.nodes ≡ replicate c.config.nodes None
  pub book_is : y.book.script ≡ c
  pub holders_none : y.book.holders ≡ replicate (length y.book.places) None
  pub lists_are : lists_at c.config y.book.places ≡ lists

map_none : (n : ℕ) → map state_in (replicate n None) ≡ replicate n None
map_none zero = refl
map_none (suc n) = ap (λ os. None ∷ os) (map_none n)

sent_there : (c : Script) (a n : ℕ) → length (map length (map (sends c) (numbers a n))) ≡ n
sent_there c a zero = refl
sent_there c a (suc n) = ap suc (sent_there c (a + 1) n)

pub seen_given : (y : Yard) (c : Script) (version : ℕ) (lists : SlotLists) → IsUnheld c lists → IsNewOf y c version lists → IsSeen y (given_world c version lists)
seen_given y c version lists free k = record {
  set_is = ap setting (sym k.script_is);
  kind_is = k.kind_is ∙ ap (λ (x : Script). x.config.kind) (sym k.script_is);
  behaviour_is = k.behaviour_is;
  past_is = k.past_none;
  limit_is = refl;
  members_are = k.members_none;
  version_is = k.version_none;
  ups_are = k.ups_are;
  ordered_are = k.ordered_are;
  ordered_there = ap length k.ordered_are ∙ (sent_there c 1 c.config.producers ∙ ap (λ (x : Script). x.config.producers) (sym k.script_is));
  wire_is = k.packets_none;
  fresh_is = k.fresh_none;
  full_is = k.full_not;
  told_all = k.items_none;
  nodes_are = ap (map state_in) k.nodes_none ∙ map_none c.config.nodes;
  scripts_are = λ j. subst (λ o. IfSome o (λ (v : Standing). v.script ≡ y.script)) (sym (ap (λ ns. at ns j) k.nodes_none ∙ get_replicate c.config.nodes j None)) tt;
  book_is = k.book_is ∙ sym k.script_is;
  tells_is = subst (λ s. Tells (meaning_of y.book) s lists) (sym k.script_is) (tells_free c y.book lists (length y.book.places) k.book_is k.holders_none k.lists_are free);
}

-- no store is leased
pub none_leased_at : (c : Script) (places : List (Option Store)) (k : ℕ) → IsUnheld c (lists_at c.config places) → k < c.config.shards + c.config.producers + 1 → is_held (entries_at places k) ≡ false
none_leased_at c places k free less = by_shard (nat_lt k c.config.shards) refl
  where
    b : Book
    b = record { script = c; places = places; holders = [] }

    unheld : (s : Slot) → is_slot_of c s ≡ true → place_of c.config s ≡ k → is_held (entries_at places k) ≡ false
    unheld s i e = ap (λ j. is_held (entries_at places j)) (sym e) ∙ (ap is_held (entries_are c b s i) ∙ ap is_some_holder (free s i))
      where
        is_some_holder : Option Incarnation → Bool
        is_some_holder None = false
        is_some_holder (Some x) = true

    is_least : (a m : ℕ) → a ≤ m → nat_le a m ≡ true
    is_least a m h = grind (arith, nat_tests, h)

    by_queue : (v : Bool) → nat_lt c.config.shards k ≡ v → c.config.shards ≤ k → is_held (entries_at places k) ≡ false
    by_queue true f above =
        let past : c.config.shards < k = below c.config.shards k f in
        let p : ℕ = k - c.config.shards in
        let some : 1 ≤ k - c.config.shards = omega (arith, past) in
        let most : k - c.config.shards ≤ c.config.producers = omega (arith, past, less) in
        let back : c.config.shards + (k - c.config.shards) ≡ k = omega (arith, past) in
        unheld (slot.Queue (k - c.config.shards)) (both (nat_le 1 (k - c.config.shards)) (nat_le (k - c.config.shards) c.config.producers) (is_least 1 (k - c.config.shards) some) (is_least (k - c.config.shards) c.config.producers most)) back
    by_queue false f above =
        let under : k ≤ c.config.shards = not_below c.config.shards k f in
        let same : c.config.shards ≡ k = omega (arith, above, under) in
        unheld slot.Coordinator refl same

    by_shard : (v : Bool) → nat_lt k c.config.shards ≡ v → is_held (entries_at places k) ≡ false
    by_shard true f = unheld (slot.Shard k) f refl
    by_shard false f = by_queue (nat_lt c.config.shards k) refl (not_below k c.config.shards f)

-- The type's invariant.

pub world_given : Keeps → (y : Yard) (c : Script) (version : ℕ) (lists : SlotLists) → IsScript c → IsGiven c version lists → y.script ≡ c → y.version ≡ 0 → IsSeen y (given_world c version lists) → IsWorld c (Some (record { version = version; lists = lists })) y 0 None
world_given keeps y c version lists script g e none seen = record {
  script_is = script;
  given_is = g;
  few = omega arith;
  kept = record { script_is = e; seen_is = seen; stands_is = keeps.gives c version lists script g; version_is = omega (arith, none) };
}

-- The settle.

-- it may be settled
pub settles_given : GivenMaySettle → (c : Script) (g : Given) (y : Yard) → IsScript c → IsGiven c g.version g.lists → IsOf c g y 0 → IsSoundTo Settles y (given_world c g.version g.lists)
settles_given law c g y script given k = record {
  sound = record { seen_is = k.seen_is; stands_is = subst (λ x. Stands x (given_world c g.version g.lists)) (sym k.script_is) k.stands_is; going_is = refl };
  may = subst (λ x. Settles x (given_world c g.version g.lists)) (sym k.script_is) (law c g.version g.lists script given.admitted given.lawful_is given.unheld);
}

set_within : (n k m : ℕ) → m ≤ 4000000000 → slice_index_or (slice_set (replicate n 0) 0 m) k 0 ≤ 4000000000
set_within zero k m few = subst (λ j. j ≤ 4000000000) (sym (none k)) (least 4000000000)
  where
    none : (k : ℕ) → slice_index_or (slice_set (replicate 0 0) 0 m) k 0 ≡ 0
    none zero = refl
    none (suc k) = refl

    least : (n : ℕ) → 0 ≤ n
    least n = omega arith
set_within (suc n) zero m few = few
set_within (suc n) (suc k) m few = subst (λ j. j ≤ 4000000000) (sym (get_replicate n k 0)) (least 4000000000)
  where
    least : (n : ℕ) → 0 ≤ n
    least n = omega arith

pub ups_within : (c : Script) (g : Given) (y : Yard) → IsGiven c g.version g.lists → IsOf c g y 0 → (k : ℕ) → slice_index_or y.ups k 0 ≤ 4000000000
ups_within c g y given of k = subst (λ us. slice_index_or us k 0 ≤ 4000000000) (sym of.seen_is.ups_are) (set_within c.config.nodes k (fold number_step 0 (opening_of g.version g.lists)) (number_fits c g.version g.lists given))

sent_within : (c : Script) (ps : List ℕ) (k : ℕ) → length c.orders ≤ 3000000 → slice_index_or (map length (map (sends c) ps)) k 0 ≤ 3000000
sent_within c [] zero few = omega arith
sent_within c [] (suc k) few = omega arith
sent_within c (p ∷ ps) zero few = let sent : length (sends c p) ≤ length c.orders = sent_few c p in omega (arith, sent, few)
sent_within c (p ∷ ps) (suc k) few = sent_within c ps k few

pub ordered_within : (c : Script) (g : Given) (y : Yard) → IsScript c → IsOf c g y 0 → (k : ℕ) → slice_index_or y.ordered k 0 ≤ 3000000
ordered_within c g y script of k = subst (λ os. slice_index_or os k 0 ≤ 3000000) (sym of.seen_is.ordered_are) (sent_within c (numbers 1 c.config.producers) k script.fits)

-- a world of given stores that isn't spent
pub given_of : (c : Script) (g : Given) (y : Yard) (n : ℕ) (f : Option StepFault) → IsFromStores c g y n f → n ≡ 0 → f ≡ None → IsOf c g y 0
given_of c g y n f w first going = subst (λ k. IsOf c g y k) first (subst (IsHeld c g y n) going w.kept)

-- after its settle
pub world_settled : Keeps → GivenMaySettle → (c : Script) (o : Option Given) (y z : Yard) (n : ℕ) (f : Option StepFault) (before after : List Fact) → IsWorld c o y n f → IsSome o → n ≡ 0 → f ≡ None → IsWhole (IsSoundTo Settles) 18 settle y z before after → IsWorld c o z 1 f
world_settled keeps law c None y z n f before after w some first going s = absurd (true_is_not_false (sym some))
world_settled keeps law c (Some g) y z n f before after w some first going s =
    let k : IsOf c g y 0 = given_of c g y n f w first going in
    let world : World = given_world c g.version g.lists in
    let may : IsSoundTo Settles y world = settles_given law c g y w.script_is w.given_is k in
    let none : y.version ≤ 20 * 0 = k.version_is in
    let counted : z.version ≤ y.version + 18 = s.counts.version_is in
    record {
      script_is = w.script_is;
      given_is = w.given_is;
      few = omega arith;
      kept = subst (IsHeld c g z 1) (sym going) (record {
        script_is = s.script_is ∙ k.script_is;
        seen_is = (s.goes world may).seen_is;
        stands_is = keeps.settles c world (law c g.version g.lists w.script_is w.given_is.admitted w.given_is.lawful_is w.given_is.unheld) k.stands_is;
        version_is = omega (arith, none, counted);
      });
    }

pub world_cut : (c : Script) (o : Option Given) (y z : Yard) (n : ℕ) (f : Option StepFault) → IsWorld c o y n f → IsSome o → IsWorld c o z n (Some fault.OutOfMemory)
world_cut c None y z n f w some = absurd (true_is_not_false (sym some))
world_cut c (Some g) y z n f w some = record { script_is = w.script_is; given_is = w.given_is; few = w.few; kept = tt }

-- What it answers.

pub settle_told : StoresSettle → GivenMaySettle → (c : Script) (o : Option Given) (y z : Yard) (n : ℕ) (f : Option StepFault) (before after : List Fact) → IsWorld c o y n f → n ≡ 0 → f ≡ None → IsWhole (IsSoundTo Settles) 18 settle y z before after
    → IfSome o (λ g. WasSettled (seen c o n f) g before (seen c o 1 f) after)
settle_told ends law c None y z n f before after w first going s = tt
settle_told ends law c (Some g) y z n f before after w first going s =
    let may : IsSoundTo Settles y (given_world c g.version g.lists) = settles_given law c g y w.script_is w.given_is (given_of c g y n f w first going) in
    record {
      ends = ends c g.version g.lists w.script_is w.given_is.admitted w.given_is.lawful_is w.given_is.unheld w.given_is.fits;
      facts_are = (s.goes (given_world c g.version g.lists) may).facts_are;
      new_is = λ i. record { script = c; given = Some g; count = 1; fault = going i };
    }

pub settle_short : GivenMaySettle → (c : Script) (o : Option Given) (y z : Yard) (n : ℕ) (f : Option StepFault) (before after : List Fact) → IsWorld c o y n f → n ≡ 0 → f ≡ None → IsCut (IsSoundTo Settles) settle y z before after
    → IfSome o (λ g. WasCut (seen c o n f) g before (seen c o n (Some fault.OutOfMemory)) after)
settle_short law c None y z n f before after w first going s = tt
settle_short law c (Some g) y z n f before after w first going s = record {
  told_some = s.told (given_world c g.version g.lists) (settles_given law c g y w.script_is w.given_is (given_of c g y n f w first going));
  new_is = refl;
}

-- what the yard's settle asks for
pub ready : GivenMaySettle → (c : Script) (o : Option Given) (y : Yard) (n : ℕ) (f : Option StepFault) → IsWorld c o y n f → IsSome o → n ≡ 0 → f ≡ None → (w : World) × IsSoundTo Settles y w
ready law c None y n f w some first going = absurd (true_is_not_false (sym some))
ready law c (Some g) y n f w some first going = (given_world c g.version g.lists, settles_given law c g y w.script_is w.given_is (given_of c g y n f w first going))

pub ready_version : (c : Script) (o : Option Given) (y : Yard) (n : ℕ) (f : Option StepFault) → IsWorld c o y n f → IsSome o → n ≡ 0 → f ≡ None → y.version < 3000000000
ready_version c None y n f w some first going = absurd (true_is_not_false (sym some))
ready_version c (Some g) y n f w some first going = let none : y.version ≤ 20 * 0 = (given_of c g y n f w first going).version_is in omega (arith, none)

pub ready_ups : (c : Script) (o : Option Given) (y : Yard) (n : ℕ) (f : Option StepFault) → IsWorld c o y n f → IsSome o → n ≡ 0 → f ≡ None → (k : ℕ) → slice_index_or y.ups k 0 ≤ 4000000000
ready_ups c None y n f w some first going = absurd (true_is_not_false (sym some))
ready_ups c (Some g) y n f w some first going = ups_within c g y w.given_is (given_of c g y n f w first going)

pub ready_ordered : (c : Script) (o : Option Given) (y : Yard) (n : ℕ) (f : Option StepFault) → IsWorld c o y n f → IsSome o → n ≡ 0 → f ≡ None → (k : ℕ) → slice_index_or y.ordered k 0 ≤ 3000000
ready_ordered c None y n f w some first going = absurd (true_is_not_false (sym some))
ready_ordered c (Some g) y n f w some first going = ordered_within c g y w.script_is (given_of c g y n f w first going)

-- the lists that the settle of given ones left
pub settled_lists : (c : Script) (version : ℕ) (given lists : SlotLists) → StoresEnd c version given → lists ≡ (settled_from c version given).world.lists → AreSettled c given lists
settled_lists c version given lists e same = subst (AreSettled c given) (sym same) (record { settled_is = e.all_settled; lawful_is = e.ends.lawful_is; unheld = e.ends.unheld; longer = e.ends.longer })

-- The type of a world that begins so.

given_is : (o : Origin) (c : Script) (version : ℕ) (x : Shelves) → o.stores.value ≡ x → x.script ≡ c → o.version ≡ version → given_in (Some o) ≡ Some (record { version = version; lists = lists_at c.config x.places })
given_is o c version x stores script is =
    ap (λ l. Some (record { version = o.version; lists = l })) (ap (λ (y : Shelves). lists_at y.script.config y.places) stores ∙ ap (λ (s : Script). lists_at s.config x.places) script)
    ∙ ap (λ v. Some (record { version = v; lists = lists_at c.config x.places })) is

pub world_from : Keeps → (y : Yard) (c s : Script) (o : Origin) (version : ℕ) (x : Shelves) → s ≡ c → o.stores.value ≡ x → x.script ≡ c → o.version ≡ version → IsScript c → IsGiven c version (lists_at c.config x.places) → y.script ≡ c → y.version ≡ 0
    → IsSeen y (given_world c version (lists_at c.config x.places)) → IsWorld s (given_in (Some o)) y 0 None
world_from keeps y c s o version x same stores script is known given e none seen =
    subst (λ k. IsWorld k (given_in (Some o)) y 0 None) (sym same) (subst (λ k. IsWorld c k y 0 None) (sym (given_is o c version x stores script is)) (world_given keeps y c version (lists_at c.config x.places) known given e none seen))

pub view_from : (c s : Script) (o : Origin) (version : ℕ) (x : Shelves) → s ≡ c → o.stores.value ≡ x → x.script ≡ c → o.version ≡ version
    → seen s (given_in (Some o)) 0 None ≡ seen c (Some (record { version = version; lists = lists_at c.config x.places })) 0 None
view_from c s o version x same stores script is = ap (λ k. seen k (given_in (Some o)) 0 None) same ∙ ap (λ k. seen c k 0 None) (given_is o c version x stores script is)

-- Made, settled and taken apart.

pub stores_settled : (c : Script) (version : ℕ) (given : SlotLists) (w v : Played) (before after : List Fact) (d : Script) (places : List (Option Store)) → w ≡ seen c (Some (record { version = version; lists = given })) 0 None
    → IfSome w.given (λ g. WasSettled w g before v after) → (is_any_up (made_at v).world ≡ false → lists_at d.config places ≡ (made_at v).world.lists) → (IsSome v.given → d ≡ v.script) → AreSettled c given (lists_at c.config places)
stores_settled c version given w v before after d places is told same script = settled_lists c version given (lists_at c.config places) s.ends (ap (λ (x : Script). lists_at x.config places) (sym its) ∙ here s.ends.ends.none_up)
  where
    g : Given
    g = record { version = version; lists = given }

    s : WasSettled (seen c (Some g) 0 None) g before v after
    s = subst (λ (x : Played). IfSome x.given (λ o. WasSettled x o before v after)) is told

    its : d ≡ c
    its = subst (λ (x : Played). IsSome x.given → d ≡ x.script) s.new_is script refl

    here : is_any_up (settled_from c version given).world ≡ false → lists_at d.config places ≡ (settled_from c version given).world.lists
    here = subst (λ (x : Played). is_any_up (made_at x).world ≡ false → lists_at d.config places ≡ (made_at x).world.lists) s.new_is same
