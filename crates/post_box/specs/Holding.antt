-- What contracts see of the boxes, and of the pass of a node.
use Rattle.std.specs.Prelude.{◌≡◌, ℕ, ◌+◌, ◌-◌, ◌<◌, ◌≤◌, List, [], ◌∷◌, ◌++◌, length, map, replicate, slice_set, slice_index_or, refl, Option}
use Rattle.std.specs.Coded.{Coded, code_by, coded×, coded_list, coded_ℕ}
use mathlib.Core.Option as maybe
use lib.ListN.{get_elem?}
use Rattle.atomic_table.specs.Seated.{TableId, table_id_coded}
use Rattle.yard_model.specs.Words.{numbers}
use Rattle.crossbeam_queue.specs.Fifo.{Held}
use Rattle.crossbeam_queue.specs.Passes.{Pass, view, ruled_capacity}
use Rattle.crossbeam_queue.specs.declared.array_queue.Doing.{Doing}
use Rattle.crossbeam_queue.specs.declared.array_queue.Slotted.{Slotted}
use Rattle.post_box.specs.declared.queue.Envelope.{Envelope}
use Rattle.post_box.specs.declared.queue.View.{View}
use Rattle.post_box.specs.Rule.{taker, sender, envelope, Stands}

-- which boxes they are, and how many parcels each has room for
pub record Boxes : Type 0 where
  pub tables : List TableId
  pub capacity : ℕ

abbrev pub boxes_at : List TableId → ℕ → Boxes
boxes_at tables capacity = record { tables = tables; capacity = capacity }

-- of a node: which boxes it posts to, what it posted to each, and what it took from its own
pub record Holder (P : Type 0) : Type 0 where
  pub tables : List TableId
  pub node : ℕ
  pub posted : List (List P)
  pub taken : List (Envelope P)

abbrev pub QueuePass : Type 0 → Type 0
QueuePass P = Pass (Envelope P) (View P)

-- what a pass of a queue knows, and the slots that are out with it
abbrev pub QueueState : Type 0 → Type 0
QueueState P = View P × List (ℕ × Option (Envelope P))

module _ {P : Type 0} where
  abbrev pub holder : List TableId → ℕ → List (List P) → List (Envelope P) → Holder P
  holder tables node posted taken = record { tables = tables; node = node; posted = posted; taken = taken }

  abbrev pub envelope_code : Coded P → Coded (Envelope P)
  envelope_code c = code_by (ℕ × P) (coded× coded_ℕ c) (λ x. (x.from, x.parcel)) (λ x. envelope x.0 x.1) (λ _. refl)

  abbrev pub holder_code : Coded P → Coded (Holder P)
  holder_code c = code_by (List TableId × (ℕ × (List (List P) × List (Envelope P)))) (coded× (coded_list table_id_coded) (coded× coded_ℕ (coded× (coded_list (coded_list c)) (coded_list (envelope_code c)))))
      (λ h. (h.tables, (h.node, (h.posted, h.taken)))) (λ x. holder x.0 x.1.0 x.1.1.0 x.1.1.1) (λ _. refl)

  -- what the node posted to a node's box
  abbrev pub posted_to : Holder P → ℕ → List P
  posted_to h to = slice_index_or h.posted (to - 1) []

  -- the node after a post, and after a take
  abbrev pub with_posted : Holder P → ℕ → P → Holder P
  with_posted h to parcel = holder h.tables h.node (slice_set h.posted (to - 1) (posted_to h to ++ parcel ∷ [])) h.taken

  abbrev pub with_taken : Holder P → Envelope P → Holder P
  with_taken h x = holder h.tables h.node h.posted (h.taken ++ x ∷ [])

  -- at a step of the call so many parcels lay in the node's box
  abbrev pub WasHolding : ℕ → Holder P → ℕ → Type 0
  WasHolding n h to = Held n (Stands (sender h.node (posted_to h to)))

  -- at a step of the call no parcel lay in the node's own box
  abbrev pub WasEmpty : Holder P → Type 0
  WasEmpty h = Held 0 (Stands (taker (length h.tables + 1) h.taken))

  -- the first pass of a node
  abbrev pub new_holder : List TableId → ℕ → Holder P
  new_holder tables node = holder tables node (replicate (length tables) []) []

  -- the first passes of the nodes, by rising node
  abbrev pub dealt : List TableId → List (Holder P)
  dealt tables = map (new_holder tables) (numbers 1 (length tables))

  abbrev pub table_of : QueuePass P → TableId
  table_of s = s.table_id

  abbrev pub posted_by : QueuePass P → List P
  posted_by s = (view s).posted

  abbrev pub taken_by : QueuePass P → List (Envelope P)
  taken_by s = (view s).taken

  -- what a pass knows, and the slots that are out with it
  abbrev pub state : QueuePass P → QueueState P
  state s = (view s, s.me.1)

  -- a pass that posts for the node, with no slot out
  abbrev pub posting : ℕ → QueuePass P → QueueState P
  posting node s = (sender node (posted_by s), [])

  -- a pass that takes, of so many boxes, with no slot out
  abbrev pub taking : ℕ → QueuePass P → QueueState P
  taking n s = (taker (n + 1) (taken_by s), [])

  -- of a node's passes: one posts to each box, and one takes from the node's own
  pub record IsHolder (node : ℕ) (senders : List (QueuePass P)) (reader : QueuePass P) : Type 0 where
    pub some : 0 < node
    pub within : node ≤ length senders
    pub posts : map state senders ≡ map (posting node) senders
    pub takes : state reader ≡ taking (length senders) reader
    pub own : get_elem? (map table_of senders) (node - 1) ≡ maybe.some (table_of reader)

  -- the pass at a place made a step, and no other
  pub record At (before now : List (QueuePass P)) (place : ℕ) (Step : QueuePass P → QueuePass P → Type 0) : Type 0 where
    pub old : QueuePass P
    pub new : QueuePass P
    pub there : get_elem? before place ≡ maybe.some old
    pub is : now ≡ slice_set before place new
    pub table : table_of new ≡ table_of old
    pub step : Step old new
