-- What a run comes to: counts over its facts, and the lines that say them.
use Rattle.std.specs.Prelude.{ℕ, ◌+◌, Bool, true, false, ◌==◌, ◌&&◌, List, [], ◌∷◌, ◌++◌, length, count_by, fold, codes, decimal, if◌then◌else◌}
use Rattle.std.specs.List.{list_any, flat_map}
use Rattle.yard_model.specs.declared.fact.Fact.{Fact}
use Rattle.yard_model.specs.declared.fact.Fact.TheVariants as fact
use Rattle.yard_model.specs.declared.incarnation.Stamp.{Stamp}
use Rattle.yard_model.specs.Script.{is_name}
use Rattle.yard_model.specs.Text.{Bytes, line}
use Rattle.yard_model.specs.Words.{is_stamp}
use Rattle.bulk_gen.specs.Bulk.{bulk_script}

-- a packet is posted
abbrev pub is_sent : Fact → Bool
is_sent (fact.Sent k p) = true
is_sent f = false

-- a record is written
abbrev pub is_wrote : Fact → Bool
is_wrote (fact.Wrote e r) = true
is_wrote f = false

-- a pair, and the number that it is confirmed up to
pub record Confirmation : Type 0 where
  pub producer : ℕ
  pub entity : List ℕ
  pub number : ℕ

-- what a fact confirms
abbrev pub confirmed_in : Fact → List Confirmation
confirmed_in (fact.Confirmed p e n) = record { producer = p; entity = e; number = n } ∷ []
confirmed_in f = []

-- of the same pair
abbrev pub is_of_pair : Confirmation → Confirmation → Bool
is_of_pair x y = (x.producer == y.producer) && is_name x.entity y.entity

-- of each pair the last number, in sum
abbrev pub sum_of_last : List Confirmation → ℕ
sum_of_last [] = 0
sum_of_last (x ∷ xs) = (if list_any (is_of_pair x) xs then 0 else x.number) + sum_of_last xs

abbrev pub confirmed_in_all : List Fact → ℕ
confirmed_in_all facts = sum_of_last (flat_map confirmed_in facts)

-- a stamp among stamps, once
abbrev pub with_stamp : List Stamp → Fact → List Stamp
with_stamp old (fact.Moving s stamp) = if list_any (is_stamp stamp) old then old else old ++ stamp ∷ []
with_stamp old f = old

-- the different stamps of the shards that moved
abbrev pub stamps : List Fact → List Stamp
stamps facts = fold with_stamp [] facts

-- a word and a count
abbrev pub counted : Bytes → ℕ → Bytes
counted word n = line (word ∷ decimal n ∷ [])

-- the summary of these facts, for the script of number n
abbrev pub summary : ℕ → List Fact → Bytes
summary n facts =
    counted (codes "bulk") n
    ++ counted (codes "orders") (length (bulk_script n).orders)
    ++ counted (codes "facts") (length facts)
    ++ counted (codes "packets") (count_by is_sent facts)
    ++ counted (codes "records") (count_by is_wrote facts)
    ++ counted (codes "confirmed") (confirmed_in_all facts)
    ++ counted (codes "rounds") (length (stamps facts))
