use Rattle.yard_laws.proofs.LocalLaws.{list_grows, other_lists_stay}
use Rattle.yard_laws.proofs.facts.entry_in_its_list.Goals as goal

pub returns-clause-grows : goal.returns-clause-grows
returns-clause-grows c = list_grows

pub returns-clause-stay : goal.returns-clause-stay
returns-clause-stay c = other_lists_stay
