-- The batch of an order, as it is gathered, and a log behind it.
use Rattle.std.specs.Prelude.{◌≡◌, ℕ, Bool, true, List, [], ◌∷◌, ◌++◌, map}
use Rattle.std.specs.List.{list_all}
use Rattle.yard_model.specs.declared.fact.Fact.{Fact}
use Rattle.fact_lines.specs.Entry.{is_entry}
use Rattle.disk_log.specs.Images.{Images}
use Rattle.disk_log.specs.Rest.{Rests}
use Rattle.disk_log.specs.Spelled.{AreBatches, lines}
use Rattle.log_orders.specs.Orders.{listed}

-- the text is that of these facts, as far as they belong to a list, and each that does is an entry
pub record Gathers (facts : List Fact) (text : List ℕ) : Type 0 where
  pub text_is : text ≡ lines (listed facts)
  pub entries : list_all is_entry (listed facts) ≡ true

-- one fact more
pub record GathersOne (old : List ℕ) (f : Fact) (new : List ℕ) : Type 0 where
  pub text_is : new ≡ old ++ lines (listed (f ∷ []))
  pub entry : list_all is_entry (listed (f ∷ [])) ≡ true

-- the log has these batches, for good
pub record RestsOn (tells : Bool) (end : ℕ) (content : List ℕ) (images : Images) (batches : List (List Fact)) : Type 0 where
  pub are : AreBatches batches
  pub rests : Rests tells end content images (map lines batches)
