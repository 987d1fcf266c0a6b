use Rattle.std.proofs.Common.{◌≡◌, length, arith, refl}
use Rattle.entity_cells.proofs.MadeLaws.{made_few, grown, grown_seen, grown_slot}
use Rattle.entity_cells.proofs.cells.make.Goals as goal

pub push_within-requires : goal.push_within-requires
push_within-requires c = omega (arith, made_few c.requires.made c.requires.there c.requires.none, c.requires.made.room_is)

pub overflow_cast-slot : goal.overflow_cast-slot
overflow_cast-slot c = omega (arith, made_few c.requires.made c.requires.there c.requires.none, c.requires.few, c.len-slot.ensures, c.args.made.now.ok.0)

pub returns-clause-made : goal.returns-clause-made
returns-clause-made c =
    let count : c.len-slot.result ≡ length c.args.made.now.items = omega (arith, c.len-slot.ensures, c.args.made.now.ok.0) in
    grown c.another-cell.result c.requires.made c.requires.there c.requires.none count c.push_within.ensures.items refl c.push_within.ensures.room

pub returns-clause-seen : goal.returns-clause-seen
returns-clause-seen c =
    let count : c.len-slot.result ≡ length c.args.made.now.items = omega (arith, c.len-slot.ensures, c.args.made.now.ok.0) in
    grown_seen c.requires.made c.requires.there c.requires.none count c.index.ensures c.another-cell.ensures c.push_within.ensures.items refl

pub returns-clause-slot : goal.returns-clause-slot
returns-clause-slot c =
    let count : c.len-slot.result ≡ length c.args.made.now.items = omega (arith, c.len-slot.ensures, c.args.made.now.ok.0) in
    grown_slot c.another-cell.result c.requires.made c.requires.there count c.push_within.ensures.items refl
