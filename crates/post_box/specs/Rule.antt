-- The rule of a box: of each sender, what it posted is what was taken of it, and then what lies in the box of it.
use Rattle.std.specs.Prelude.{◌≡◌, ℕ, ◌<◌, ◌≤◌, true, false, List, [], ◌∷◌, ◌++◌, ◌==◌, if◌then◌else◌}
use mathlib.Core.Option as maybe
use lib.ListN.{get_elem?}
use Rattle.post_box.specs.declared.queue.Envelope.{Envelope}
use Rattle.post_box.specs.declared.queue.View.{View}

module _ {P : Type 0} where
  abbrev pub envelope : ℕ → P → Envelope P
  envelope from parcel = record { from = from; parcel = parcel }

  -- it takes, and makes the senders
  abbrev pub taker : ℕ → List (Envelope P) → View P
  taker n taken = record { posts = false; from = 0; posted = []; takes = true; next = n; taken = taken }

  -- it posts for the node p
  abbrev pub sender : ℕ → List P → View P
  sender p posted = record { posts = true; from = p; posted = posted; takes = false; next = 0; taken = [] }

  -- what a taker and a sender know together
  abbrev pub paired : View P → View P → View P
  paired v w = record { posts = w.posts; from = w.from; posted = w.posted; takes = v.takes; next = v.next; taken = v.taken }

  -- it was joined to another
  abbrev pub spent : View P
  spent = record { posts = false; from = 0; posted = []; takes = false; next = 0; taken = [] }

  -- the parcels of one sender, in order
  abbrev pub parcels_of : ℕ → List (Envelope P) → List P
  parcels_of p [] = []
  parcels_of p (x ∷ xs) = (if x.from == p then x.parcel ∷ [] else []) ++ parcels_of p xs

  -- what a pass knows is so: where it posts, it alone posts for its node; where it takes, it alone takes
  pub record Knows (pass_of : ℕ → ℕ) (sent : ℕ → List P) (reader next : ℕ) (got : List (Envelope P)) (id : ℕ) (v : View P) : Type 0 where
    pub posting : v.posts ≡ true → (pass_of v.from ≡ id) × (v.posted ≡ sent v.from) × (v.from < next)
    pub taking : v.takes ≡ true → (id ≡ reader) × (v.taken ≡ got) × (v.next ≡ next)

  -- of what lies in the box, oldest first, and of what each pass knows
  pub record IsOrdered (items : List (Envelope P)) (views : List (View P)) : Type 0 where
    pub pass_of : ℕ → ℕ
    pub sent : ℕ → List P
    pub reader : ℕ
    pub next : ℕ
    pub got : List (Envelope P)
    pub all : (p : ℕ) → sent p ≡ parcels_of p (got ++ items)
    pub later : (p : ℕ) → next ≤ p → sent p ≡ []
    pub each : (id : ℕ) (v : View P) → get_elem? views id ≡ maybe.some v → Knows pass_of sent reader next got id v

  -- at a step at which this lay in the box, a pass knew this
  pub record Stands (v : View P) (items : List (Envelope P)) : Type 0 where
    pub views : List (View P)
    pub id : ℕ
    pub rule : IsOrdered items views
    pub known : get_elem? views id ≡ maybe.some v
