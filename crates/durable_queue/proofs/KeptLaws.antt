-- What is kept at hand, with one entry more.
use Rattle.std.proofs.Common.{◌≡◌, ◌<◌, ◌≤◌, ◌^◌, ℕ, ◌+◌, ◌-◌, sym, subst, ap, ◌∙◌, refl, arith, length-append}
use Rattle.std.specs.Prelude.{Bool, true, false, List, [], ◌∷◌, ◌++◌, length, map, replicate, slice_set, if◌then◌else◌}
use Rattle.std.specs.List.{list_any}
use Rattle.std.proofs.lemmas.List.{map-append, length-set, length-replicate}
use Rattle.std.proofs.lemmas.List.Sums.{fold-append}
use Rattle.yard_model.specs.declared.charter.Sending.{Sending}
use Rattle.yard_model.specs.declared.entry.QueueEntry.{QueueEntry}
use Rattle.yard_model.specs.declared.event.Command.{Command}
use Rattle.yard_model.specs.declared.fact.Fact.{Fact}
use Rattle.yard_model.specs.declared.fact.Fact.TheVariants as fact
use Rattle.yard_model.specs.declared.incarnation.Cause.{Cause}
use Rattle.yard_model.specs.declared.incarnation.Incarnation.{Incarnation}
use Rattle.yard_model.specs.declared.incarnation.Slot.{Slot}
use Rattle.yard_model.specs.Entry.{queue_fact}
use Rattle.yard_model.specs.Script.{Script, is_name, names_in, sends, with_shards}
use Rattle.yard_model.specs.SlotReads as reads
use Rattle.durable_queue.specs.Kept.{counted, place_of, AreNamed, AreOrdered, AreSized, ArePlans, CountsQueued, CountsConfirmed, IsList, AreSums, IsKept}
use Rattle.plain_laws.proofs.Booleans.{get_replicate}
use Rattle.yard_model.specs.Genuine.{is_producer}
use Rattle.durable_queue.proofs.PlaceLaws.{kept_put}
use Rattle.durable_queue.proofs.SendsLaws.{same_name}

-- The count of each name.

-- a name's count is written over
pub record IsPut (names : List (List ℕ)) (old new : List ℕ) (e : List ℕ) (n : ℕ) : Type 0 where
  pub sized : length old ≡ length names
  pub named : list_any (is_name e) names ≡ true
  pub is : new ≡ slice_set old (place_of names e) n

-- the counts after a write, by the name
counted_put : (names : List (List ℕ)) (old new : List ℕ) (e : List ℕ) (n : ℕ) → IsPut names old new e n → (q : List ℕ) → counted names new q ≡ (if is_name e q then n else counted names old q)
counted_put names old new e n u q = ap (λ l. counted names l q) u.is ∙ kept_put names old 0 n e q u.sized u.named

-- there are as many
pub size_put : (names : List (List ℕ)) (old new : List ℕ) (e : List ℕ) (n : ℕ) → IsPut names old new e n → length new ≡ length names
size_put names old new e n u = ap length u.is ∙ (length-set old (place_of names e) n ∙ u.sized)

pub queued_granted : (names : List (List ℕ)) (sent : List ℕ) (xs : List Fact) (s : Slot) (n : ℕ) (x : Incarnation) → CountsQueued names sent xs → CountsQueued names sent (xs ++ fact.Granted s n x ∷ [])
queued_granted names sent xs s n x c = record { each = λ e. c.each e ∙ sym (ap length (fold-append (reads.commands_step e) [] xs (fact.Granted s n x ∷ []))) }

pub queued_freed : (names : List (List ℕ)) (sent : List ℕ) (xs : List Fact) (s : Slot) (n : ℕ) (why : Cause) → CountsQueued names sent xs → CountsQueued names sent (xs ++ fact.Freed s n why ∷ [])
queued_freed names sent xs s n why c = record { each = λ e. c.each e ∙ sym (ap length (fold-append (reads.commands_step e) [] xs (fact.Freed s n why ∷ []))) }

pub queued_confirmed : (names : List (List ℕ)) (sent : List ℕ) (xs : List Fact) (p : ℕ) (x : List ℕ) (n : ℕ) → CountsQueued names sent xs → CountsQueued names sent (xs ++ fact.Confirmed p x n ∷ [])
queued_confirmed names sent xs p x n c = record { each = λ e. c.each e ∙ sym (ap length (fold-append (reads.commands_step e) [] xs (fact.Confirmed p x n ∷ []))) }

pub queued_queued : (names : List (List ℕ)) (old new : List ℕ) (xs : List Fact) (p : ℕ) (x : Sending) (n : ℕ) → n ≡ counted names old x.entity + 1 → IsPut names old new x.entity n → CountsQueued names old xs
    → CountsQueued names new (xs ++ fact.Queued p x.entity x.number x.command ∷ [])
queued_queued names old new xs p x n next u c = record {
  each = λ e. counted_put names old new x.entity n u e ∙ (found e (is_name x.entity e) refl ∙ sym (ap length (fold-append (reads.commands_step e) [] xs (fact.Queued p x.entity x.number x.command ∷ []))));
}
  where
    found : (e : List ℕ) (b : Bool) → is_name x.entity e ≡ b → (if b then n else counted names old e) ≡ length (if b then reads.commands e xs ++ x.command ∷ [] else reads.commands e xs)
    found e true t = next ∙ (ap (λ k. counted names old k + 1) (same_name x.entity e t) ∙ (ap (λ k. k + 1) (c.each e) ∙ sym (length-append (reads.commands e xs) (x.command ∷ []))))
    found e false t = c.each e

pub confirmed_granted : (names : List (List ℕ)) (seen : List ℕ) (xs : List Fact) (s : Slot) (n : ℕ) (x : Incarnation) → CountsConfirmed names seen xs → CountsConfirmed names seen (xs ++ fact.Granted s n x ∷ [])
confirmed_granted names seen xs s n x c = record { each = λ e. c.each e ∙ sym (fold-append (reads.confirmed_step e) 0 xs (fact.Granted s n x ∷ [])) }

pub confirmed_freed : (names : List (List ℕ)) (seen : List ℕ) (xs : List Fact) (s : Slot) (n : ℕ) (why : Cause) → CountsConfirmed names seen xs → CountsConfirmed names seen (xs ++ fact.Freed s n why ∷ [])
confirmed_freed names seen xs s n why c = record { each = λ e. c.each e ∙ sym (fold-append (reads.confirmed_step e) 0 xs (fact.Freed s n why ∷ [])) }

pub confirmed_queued : (names : List (List ℕ)) (seen : List ℕ) (xs : List Fact) (p : ℕ) (x : Sending) → CountsConfirmed names seen xs → CountsConfirmed names seen (xs ++ fact.Queued p x.entity x.number x.command ∷ [])
confirmed_queued names seen xs p x c = record { each = λ e. c.each e ∙ sym (fold-append (reads.confirmed_step e) 0 xs (fact.Queued p x.entity x.number x.command ∷ [])) }

pub confirmed_confirmed : (names : List (List ℕ)) (old new : List ℕ) (xs : List Fact) (p : ℕ) (x : List ℕ) (n : ℕ) → IsPut names old new x n → CountsConfirmed names old xs → CountsConfirmed names new (xs ++ fact.Confirmed p x n ∷ [])
confirmed_confirmed names old new xs p x n u c = record {
  each = λ e. counted_put names old new x n u e ∙ (ap (λ k. if is_name x e then n else k) (c.each e) ∙ sym (fold-append (reads.confirmed_step e) 0 xs (fact.Confirmed p x n ∷ [])));
}

-- What is kept, with one entry more.
pub kept_more : (c : Script) (p : ℕ) (items new : List QueueEntry) (entry : QueueEntry) (names : List (List ℕ)) (commands : List (List Command)) (sent seen sent' seen' : List ℕ) (sum last sum' last' : ℕ) (held held' : Bool) (free capacity capacity' : ℕ) →
    IsKept c p items names commands sent seen sum last held free capacity → new ≡ items ++ entry ∷ [] → 0 < free → capacity ≤ capacity' → sum' ≤ sum + 1 → last' ≤ last + 1 →
    AreSized names commands sent' seen' →
    IsList c p (map (queue_fact p) items ++ queue_fact p entry ∷ []) →
    CountsQueued names sent' (map (queue_fact p) items ++ queue_fact p entry ∷ []) →
    CountsConfirmed names seen' (map (queue_fact p) items ++ queue_fact p entry ∷ []) →
    AreSums sum' last' held' (map (queue_fact p) items ++ queue_fact p entry ∷ []) →
    IsKept c p new names commands sent' seen' sum' last' held' (free - 1) capacity'
kept_more c p items new entry names commands sent seen sent' seen' sum last sum' last' held held' free capacity capacity' k pushed some room few less sized list queued confirmed sums =
    let facts : map (queue_fact p) items ++ queue_fact p entry ∷ [] ≡ map (queue_fact p) new = sym (ap (map (queue_fact p)) pushed ∙ map-append (queue_fact p) items (entry ∷ [])) in
    let size : length new ≡ length items + 1 = ap length pushed ∙ length-append items (entry ∷ []) in
    let total : sum ≤ length items = k.small.total in
    let epoch : last ≤ length items = k.small.epoch in
    let fits : length items + free ≤ capacity = k.room in
    let short : length items + free < 2 ^ 32 = k.few in record {
      list = subst (IsList c p) facts list;
      producer = k.producer;
      ordered = k.ordered;
      named = k.named;
      sized = sized;
      plans = k.plans;
      queued = subst (CountsQueued names sent') facts queued;
      confirmed = subst (CountsConfirmed names seen') facts confirmed;
      sums = subst (AreSums sum' last' held') facts sums;
      small = record { total = omega arith; epoch = omega arith };
      room = omega arith;
      few = omega arith;
    }

-- What is kept of no entries.
pub kept_none : (c : Script) (p : ℕ) (items : List QueueEntry) (names : List (List ℕ)) (commands : List (List Command)) (sent seen : List ℕ) (capacity : ℕ) → items ≡ [] → is_producer c p ≡ true → AreOrdered c names → AreNamed names (sends c p) →
    length commands ≡ length names → ArePlans names commands (sends c p) → sent ≡ replicate (length names) 0 → seen ≡ replicate (length names) 0 → IsKept c p items names commands sent seen 0 0 false 0 capacity
kept_none c p items names commands sent seen capacity none producer ordered named sized plans sent_is seen_is = subst (λ l. IsKept c p l names commands sent seen 0 0 false 0 capacity) (sym none) (record {
  list = record { lawful = refl; first = record { each = λ e. refl } };
  producer = producer;
  ordered = ordered;
  named = named;
  sized = record { plans = sized; queued = ap length sent_is ∙ length-replicate (length names) 0; confirmed = ap length seen_is ∙ length-replicate (length names) 0 };
  plans = plans;
  queued = record { each = λ e. ap (λ l. counted names l e) sent_is ∙ get_replicate (length names) (place_of names e) 0 };
  confirmed = record { each = λ e. ap (λ l. counted names l e) seen_is ∙ get_replicate (length names) (place_of names e) 0 };
  sums = record { total = refl; epoch = refl; leased = refl };
  small = record { total = omega arith; epoch = omega arith };
  room = omega arith;
  few = omega arith;
})

-- What is kept of the same entries under another number of shards, with no spare.
pub kept_again : (c d : Script) (p : ℕ) (items new : List QueueEntry) (names names' : List (List ℕ)) (commands commands' : List (List Command)) (sent sent' seen seen' : List ℕ) (sum last : ℕ) (held : Bool) (free capacity capacity' : ℕ) →
    IsKept c p items names commands sent seen sum last held free capacity → d ≡ with_shards d.config.shards c → new ≡ items → sent' ≡ sent → seen' ≡ seen → length new ≤ capacity' →
    AreOrdered d names' → AreNamed names' (sends d p) → length commands' ≡ length names' → ArePlans names' commands' (sends d p) → IsKept d p new names' commands' sent' seen' sum last held 0 capacity'
kept_again c d p items new names names' commands commands' sent sent' seen seen' sum last held free capacity capacity' k same new_is sent_is seen_is fits ordered named sized plans =
    let names_are : names' ≡ names = ordered.are ∙ (ap (λ (s : Script). names_in s.orders) same ∙ sym k.ordered.are) in
    let list : IsList d p (map (queue_fact p) items) = subst (λ s. IsList s p (map (queue_fact p) items)) (sym same) (record { lawful = k.list.lawful; first = record { each = k.list.first.each } }) in
    let small : length new ≡ length items = ap length new_is in record {
      list = subst (λ l. IsList d p (map (queue_fact p) l)) (sym new_is) list;
      producer = subst (λ s. is_producer s p ≡ true) (sym same) k.producer;
      ordered = ordered;
      named = named;
      sized = record { plans = sized; queued = ap length sent_is ∙ (k.sized.queued ∙ ap length (sym names_are)); confirmed = ap length seen_is ∙ (k.sized.confirmed ∙ ap length (sym names_are)) };
      plans = plans;
      queued = subst (λ l. CountsQueued names' sent' (map (queue_fact p) l)) (sym new_is) (subst (λ n. CountsQueued n sent' (map (queue_fact p) items)) (sym names_are) (subst (λ n. CountsQueued names n (map (queue_fact p) items)) (sym sent_is) k.queued));
      confirmed = subst (λ l. CountsConfirmed names' seen' (map (queue_fact p) l)) (sym new_is) (subst (λ n. CountsConfirmed n seen' (map (queue_fact p) items)) (sym names_are) (subst (λ n. CountsConfirmed names n (map (queue_fact p) items)) (sym seen_is) k.confirmed));
      sums = subst (λ l. AreSums sum last held (map (queue_fact p) l)) (sym new_is) k.sums;
      small = record { total = omega (arith, k.small.total, small); epoch = omega (arith, k.small.epoch, small) };
      room = omega (arith, fits);
      few = omega (arith, k.few, small);
    }
