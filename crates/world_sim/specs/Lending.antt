-- The items of a mail are lent: what is left behind the reference stays in it.
use Rattle.std.specs.Borrow.{Lends, MutBor, Fml}
use Rattle.yard_model.specs.declared.out.Item.{Item}
use Rattle.yard_model.specs.Spared.{Spared}
use Rattle.yard_model.specs.contracts.out.Out.{the_row as out_row}
use Rattle.world_sim.specs.Mail.{Mails}
use Rattle.world_sim.specs.contracts.mail.Mail.{the_row}

-- the mail with these items
abbrev pub with_items : Mails → Spared Item → Mails
with_items m o = record m { items = o.items; spare = o.spare }

abbrev pub LendsOut : MutBor Mails → MutBor (Spared Item) → Fml
LendsOut m o = Lends the_row out_row m o (with_items m.now)
