use Rattle.std.proofs.Common.{map, ap, sym, ◌∙◌, subst}
use Rattle.post_box.specs.Holding.{table_of, posted_by, taken_by, IsHolder, holder}
use Rattle.post_box.proofs.Dealt.{new_is, new_stands}
use Rattle.post_box.proofs.make.pass_of.Goals as goal

pub invariant_of-result : goal.invariant_of-result
invariant_of-result g c =
    let r = c.requires in
    subst (λ n. IsHolder n c.args.senders.items c.args.taker) (sym c.in-Some.ensures.value) (new_stands c.args.node c.args.senders.items c.args.taker r.node.0 r.node.2 r.senders r.taker r.own)

pub returns : goal.returns
returns g c = record {
  pass =
      ap (λ n. holder (map table_of c.args.senders.items) n (map posted_by c.args.senders.items) (taken_by c.args.taker)) c.in-Some.ensures.value
      ∙ new_is c.args.node c.args.senders.items c.args.taker c.requires.senders c.requires.taker;
}
