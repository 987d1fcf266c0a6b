use Rattle.std.proofs.Common.{◌≡◌, ◌+◌, ◌++◌, ◌∙◌, sym, subst}
use Rattle.std.proofs.lemmas.List.{length-append}
use Rattle.bulk_gen.specs.Counted.{AreConfirmed, IsPlace, Sums}
use Rattle.bulk_gen.proofs.ConfirmedLaws.{confirmed_more}
use Rattle.bulk_gen.proofs.confirmed.Confirmed.write.Goals as goal

pub returns : goal.returns
returns c xs k =
    confirmed_more (c.self.inside.names ++ c.self.inside.others.items) c.self.inside.rows.items c.args.place c.index.result.now c.index_mut.result.now c.set.new.self
    (record { producer = c.args.producer; entity = c.args.entity.now; number = c.args.number }) c.self.inside.sum c.args.more c.from.result c.saturating_sub-self-inside.result xs
    (subst (λ (v : Sums). AreConfirmed v xs) (sym c.self.view_is) k) (c.self.invariant.sized ∙ sym (length-append c.self.inside.names c.self.inside.others.items))
    (subst (λ (v : Sums). IsPlace v.names c.args.entity.now c.args.place) (sym c.self.view_is) c.requires.place) c.index.ensures c.index_mut.ensures.value c.set.ensures.set c.set.ensures.there
    (c.from.ensures ∙ c.of-before.ensures) (subst (λ (v : Sums). c.args.more ≡ v.sum + c.args.number) (sym c.self.view_is) c.requires.more) c.saturating_sub-self-inside.ensures
