-- An order that is due to the worker of a node may be given to it.
use Rattle.std.proofs.Common.{◌≡◌, ℕ, zero, suc, ◌&&◌, true, false, List, [], ◌∷◌, map, refl, sym, ap, ◌∙◌, subst}
use Rattle.std.specs.Prelude.{Bool, ◌==◌, ◌||◌, Option, None, Some, slice_get}
use Rattle.std.specs.List.{list_all, list_any}
use Rattle.std.specs.Option.{option_map_or}
use Rattle.plain_laws.proofs.Booleans.{and_both, both, left_of, right_of, same_number, number_itself}
use Rattle.plain_laws.proofs.Lists.{none_is_not_some, some_is, all_got}
use Rattle.yard_model.specs.declared.charter.Line.{Line}
use Rattle.yard_model.specs.declared.charter.Order.{Order}
use Rattle.yard_model.specs.declared.charter.Order.TheVariants as order
use Rattle.yard_model.specs.declared.incarnation.Slot.TheVariants as slot
use Rattle.yard_model.specs.declared.input.Input.{Input}
use Rattle.yard_model.specs.declared.input.Input.TheVariants as input
use Rattle.yard_model.specs.Behaviour.{is_in, is_of_kind}
use Rattle.yard_model.specs.Genuine.{is_producer}
use Rattle.yard_model.specs.Node.{Node}
use Rattle.yard_model.specs.Script.{Script, IsScript, is_name, is_order, brought, names_in}
use Rattle.yard_model.specs.Workers.{orders}
use Rattle.node_laws.specs.NodeTurns.{MayTake}
use Rattle.play_laws.proofs.Orders.{names_are}
use Rattle.shard_lease.specs.Meaning.{Meaning}
use Rattle.lease_table.specs.Fits.{admits, is_let, is_produce}
use Rattle.worker_orders.specs.Waiting.{IsDue}
use Rattle.node_runner.specs.Ordered.{input_of, IsGiven, DuesAreGiven}

-- the line of an order
pub record HasLine (ls : List Line) (o : Order) : Type 0 where
  pub place : ℕ
  pub line : Line
  pub there : slice_get ls place ≡ Some line
  pub order_is : line.order ≡ o

line_at : (ls : List Line) (k : ℕ) (o : Order) → slice_get (map (λ (l : Line). l.order) ls) k ≡ Some o → HasLine ls o
line_at [] k o e = absurd (none_is_not_some o e)
line_at (l ∷ ls) zero o e = record { place = 0; line = l; there = refl; order_is = some_is l.order o e }
line_at (l ∷ ls) (suc k) o e = let h : HasLine ls o = line_at ls k o e in record { place = suc h.place; line = h.line; there = h.there; order_is = h.order_is }

-- what holds of each line holds of its order
of_lines : (q : Order → Bool) (ls : List Line) (o : Order) → list_all (λ (l : Line). q l.order) ls ≡ true → HasLine ls o → q o ≡ true
of_lines q ls o all h = sym (ap q h.order_is) ∙ all_got (λ (l : Line). q l.order) ls h.place h.line all h.there

-- where some line's order passes
some_line : (q : Order → Bool) (ls : List Line) (k : ℕ) (l : Line) → slice_get ls k ≡ Some l → q l.order ≡ true → list_any (λ (x : Line). q x.order) ls ≡ true
some_line q [] k l e h = absurd (none_is_not_some l e)
some_line q (x ∷ xs) zero l e h = left_of (q x.order) (list_any (λ (x : Line). q x.order) xs) (ap (λ (y : Line). q y.order) (some_is x l e) ∙ h)
some_line q (x ∷ xs) (suc k) l e h = right_of (q x.order) (list_any (λ (x : Line). q x.order) xs) (some_line q xs k l e h)

abbrev is_named_in : List (List ℕ) → Order → Bool
is_named_in all o = option_map_or (λ e. list_any (is_name e) all) (brought o) true

module _ (c : Script) (n : ℕ) (m : Meaning) (st : Node) (script : IsScript c) (node : is_in 1 c.config.nodes n ≡ true) where
  ordered : (o : Order) → IsDue c n o → is_order c.config o ≡ true
  ordered o due = of_lines (is_order c.config) c.orders o script.orders (line_at c.orders due.place o due.line)

  given : (o : Order) (i : Input) → IsDue c n o → input_of o ≡ Some i → IsGiven c n m st i
  given (order.Leave k) i due e = subst (IsGiven c n m st) (some_is input.Leave i e) (record { addressed = tt; may = tt; produces = tt })
  given (order.Tick k) i due e = subst (IsGiven c n m st) (some_is input.Tick i e) (record { addressed = tt; may = tt; produces = tt })
  given (order.Produce p k) i due e =
      let producer : is_producer c p ≡ true = (and_both (is_in 1 c.config.producers p) (is_in 1 c.config.nodes k) (ordered (order.Produce p k) due)).0 in
      let h : HasLine c.orders (order.Produce p k) = line_at c.orders due.place (order.Produce p k) due.line in
      let it : is_produce p n h.line.order ≡ true = ap (is_produce p n) h.order_is ∙ both (p == p) (k == n) (number_itself p p refl) due.named in
      let there : is_let c n (slot.Queue p) ≡ true = some_line (is_produce p n) c.orders h.place h.line h.there it in
      subst (IsGiven c n m st) (some_is (input.Produce p) i e) (record { addressed = tt; may = producer; produces = both (is_in 1 c.config.nodes n && is_producer c p) (is_let c n (slot.Queue p)) (both (is_in 1 c.config.nodes n) (is_producer c p) node producer) there })
  given (order.Rest p) i due e = subst (IsGiven c n m st) (some_is (input.Rest p) i e) (record { addressed = tt; may = ordered (order.Rest p) due; produces = tt })
  given (order.Send p x k) i due e =
      subst (IsGiven c n m st) (some_is (input.Send p) i e) (record { addressed = tt; may = (and_both (is_in 1 c.config.producers p) (is_of_kind c.config.kind k) (ordered (order.Send p x k) due)).0; produces = tt })
  given (order.Passivate x) i due e =
      let all : list_all (λ (l : Line). is_named_in (names_in c.orders) l.order) c.orders ≡ true = names_are (names_in c.orders) c.orders [] refl in
      subst (IsGiven c n m st) (some_is (input.Passivate x) i e) (record { addressed = tt; may = of_lines (is_named_in (names_in c.orders)) c.orders (order.Passivate x) all (line_at c.orders due.place (order.Passivate x) due.line); produces = tt })
  given (order.Rebalance l) i due e = subst (IsGiven c n m st) (some_is (input.Rebalance l) i e) (record { addressed = tt; may = tt; produces = tt })
  given (order.Up k) i due e = absurd (none_is_not_some i e)
  given (order.Crash k) i due e = absurd (none_is_not_some i e)
  given (order.FailWrite x k) i due e = absurd (none_is_not_some i e)
  given (order.Deliver k) i due e = absurd (none_is_not_some i e)
  given (order.Pump k) i due e = absurd (none_is_not_some i e)
  given order.Settle i due e = absurd (none_is_not_some i e)
  given (order.Reshard k) i due e = absurd (none_is_not_some i e)
  given order.Upgrade i due e = absurd (none_is_not_some i e)
  given (order.Ping p) i due e = absurd (none_is_not_some i e)

pub dues_are_given : DuesAreGiven
dues_are_given c n m st o i script node due e = given c n m st script node o i due e
