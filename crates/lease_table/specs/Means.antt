-- What a pass means to those who only see leases.
use Rattle.std.specs.Prelude.{ℕ, ◌&&◌, ◌==◌, List, [], ◌∷◌, Option, None, Some, is_some, if◌then◌else◌}
use Rattle.atomic_table.specs.Seated.{TableId}
use Rattle.yard_model.specs.declared.fact.Fact.{Fact}
use Rattle.yard_model.specs.Genuine.{is_slot_of}
use Rattle.shard_lease.specs.Meaning.{Meaning}
use Rattle.shard_store.specs.Stores.{place_of}
use Rattle.lease_table.specs.Fits.{is_within, admits, recorded, home_of}
use Rattle.lease_table.specs.declared.View.{View}
use Rattle.lease_table.specs.Lists.{seen_at}
use Rattle.yard_model.specs.Words.{at}

abbrev pub told_list : Option (List Fact) → List Fact
told_list None = []
told_list (Some x) = x

abbrev pub name_of : TableId → List ℕ
name_of z = z.words ∷ z.slots ∷ z.views_name ∷ z.atom ∷ z.block ∷ z.offset ∷ z.slot_names

-- a pass whose one number is n
abbrev pub meaning_of : TableId → View → ℕ → Meaning
meaning_of z v n = record {
  name = name_of z;
  script = v.charter;
  within = is_within;
  serves = λ x. x.node == n;
  admits = admits v.charter;
  holds = λ m s. (m == n) && (is_slot_of v.charter s && is_some (at v.held (place_of v.charter.config s)));
  told = λ s. if is_slot_of v.charter s then told_list (at v.held (place_of v.charter.config s)) else [];
  seen = λ s. if is_slot_of v.charter s then seen_at v.seen (place_of v.charter.config s) else [];
  vouches = λ e p i. recorded e p i (seen_at v.seen (home_of v.charter e));
  tells = λ s. None;
  claims = v.claims;
  found = v.found;
}
