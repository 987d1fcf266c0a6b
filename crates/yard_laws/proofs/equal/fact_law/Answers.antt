-- The same variant with the same parts is the same fact.
use Rattle.std.proofs.Common.{◌≡◌, ◌∙◌, refl, ap, subst, sym}
use Rattle.std.specs.Prelude.{IsTrue}
use Rattle.std.proofs.lemmas.Bool.{eqb-true, eq-eqb, and_parts}
use Rattle.plain_laws.proofs.Booleans.{true_is_not_false, both}
use Rattle.yard_model.specs.declared.fact.Fact.{Fact}
use Rattle.yard_model.specs.declared.fact.Fact.TheVariants as fact
use Rattle.yard_model.specs.contracts.fact.FactPartialEq.TheImpl as impl
use Rattle.yard_laws.proofs.equal.fact_law.Goals as goal

to : goal.After-state_law → (a b : Fact) → IsTrue (impl.ghosts.eq a b) → a ≡ b
to c (fact.At a0) (fact.At b0) h = ap (λ x. fact.At x) (eqb-true a0 b0 h)
to c fact.Nothing fact.Nothing h = refl
to c fact.WireFull fact.WireFull h = refl
to c fact.Settled fact.Settled h = refl
to c (fact.Up a0) (fact.Up b0) h = ap (λ x. fact.Up x) ((c.incarnation_law.ensures a0 b0).0 h)
to c (fact.Gone a0) (fact.Gone b0) h = ap (λ x. fact.Gone x) ((c.incarnation_law.ensures a0 b0).0 h)
to c (fact.View a0 a1) (fact.View b0 b1) h = let p0 = and_parts _ _ h in ap (λ x. fact.View x a1) ((c.incarnation_law.ensures a0 b0).0 p0.0) ∙ ap (λ x. fact.View b0 x) (eqb-true a1 b1 p0.1)
to c (fact.Sent a0 a1) (fact.Sent b0 b1) h = let p0 = and_parts _ _ h in ap (λ x. fact.Sent x a1) (eqb-true a0 b0 p0.0) ∙ ap (λ x. fact.Sent b0 x) ((c.packet_law.ensures a1 b1).0 p0.1)
to c (fact.Got a0) (fact.Got b0) h = ap (λ x. fact.Got x) (eqb-true a0 b0 h)
to c (fact.Granted a0 a1 a2) (fact.Granted b0 b1 b2) h = let p0 = and_parts _ _ h in let p1 = and_parts _ _ p0.1 in ap (λ x. fact.Granted x a1 a2) ((c.slot_law.ensures a0 b0).0 p0.0) ∙ ap (λ x. fact.Granted b0 x a2) (eqb-true a1 b1 p1.0) ∙ ap (λ x. fact.Granted b0 b1 x) ((c.incarnation_law.ensures a2 b2).0 p1.1)
to c (fact.Freed a0 a1 a2) (fact.Freed b0 b1 b2) h = let p0 = and_parts _ _ h in let p1 = and_parts _ _ p0.1 in ap (λ x. fact.Freed x a1 a2) ((c.slot_law.ensures a0 b0).0 p0.0) ∙ ap (λ x. fact.Freed b0 x a2) (eqb-true a1 b1 p1.0) ∙ ap (λ x. fact.Freed b0 b1 x) ((c.cause_law.ensures a2 b2).0 p1.1)
to c (fact.Held a0 a1 a2) (fact.Held b0 b1 b2) h = let p0 = and_parts _ _ h in let p1 = and_parts _ _ p0.1 in ap (λ x. fact.Held x a1 a2) ((c.slot_law.ensures a0 b0).0 p0.0) ∙ ap (λ x. fact.Held b0 x a2) ((c.incarnation_law.ensures a1 b1).0 p1.0) ∙ ap (λ x. fact.Held b0 b1 x) (eqb-true a2 b2 p1.1)
to c (fact.Registered a0) (fact.Registered b0) h = ap (λ x. fact.Registered x) ((c.incarnation_law.ensures a0 b0).0 h)
to c (fact.Terminated a0) (fact.Terminated b0) h = ap (λ x. fact.Terminated x) ((c.incarnation_law.ensures a0 b0).0 h)
to c (fact.Allocated a0 a1) (fact.Allocated b0 b1) h = let p0 = and_parts _ _ h in ap (λ x. fact.Allocated x a1) (eqb-true a0 b0 p0.0) ∙ ap (λ x. fact.Allocated b0 x) ((c.incarnation_law.ensures a1 b1).0 p0.1)
to c (fact.Deallocated a0) (fact.Deallocated b0) h = ap (λ x. fact.Deallocated x) (eqb-true a0 b0 h)
to c (fact.Moving a0 a1) (fact.Moving b0 b1) h = let p0 = and_parts _ _ h in ap (λ x. fact.Moving x a1) (eqb-true a0 b0 p0.0) ∙ ap (λ x. fact.Moving b0 x) ((c.stamp_law.ensures a1 b1).0 p0.1)
to c (fact.Home a0 a1 a2) (fact.Home b0 b1 b2) h = let p0 = and_parts _ _ h in let p1 = and_parts _ _ p0.1 in ap (λ x. fact.Home x a1 a2) ((c.incarnation_law.ensures a0 b0).0 p0.0) ∙ ap (λ x. fact.Home b0 x a2) (eqb-true a1 b1 p1.0) ∙ ap (λ x. fact.Home b0 b1 x) ((c.incarnation_law.ensures a2 b2).0 p1.1)
to c (fact.Forget a0 a1) (fact.Forget b0 b1) h = let p0 = and_parts _ _ h in ap (λ x. fact.Forget x a1) ((c.incarnation_law.ensures a0 b0).0 p0.0) ∙ ap (λ x. fact.Forget b0 x) (eqb-true a1 b1 p0.1)
to c (fact.Kept a0 a1) (fact.Kept b0 b1) h = let p0 = and_parts _ _ h in ap (λ x. fact.Kept x a1) ((c.incarnation_law.ensures a0 b0).0 p0.0) ∙ ap (λ x. fact.Kept b0 x) ((c.message_law.ensures a1 b1).0 p0.1)
to c (fact.Dropped a0 a1) (fact.Dropped b0 b1) h = let p0 = and_parts _ _ h in ap (λ x. fact.Dropped x a1) ((c.incarnation_law.ensures a0 b0).0 p0.0) ∙ ap (λ x. fact.Dropped b0 x) ((c.message_law.ensures a1 b1).0 p0.1)
to c (fact.Stashed a0 a1) (fact.Stashed b0 b1) h = let p0 = and_parts _ _ h in ap (λ x. fact.Stashed x a1) ((c.incarnation_law.ensures a0 b0).0 p0.0) ∙ ap (λ x. fact.Stashed b0 x) ((c.message_law.ensures a1 b1).0 p0.1)
to c (fact.Start a0 a1) (fact.Start b0 b1) h = let p0 = and_parts _ _ h in ap (λ x. fact.Start x a1) ((c.incarnation_law.ensures a0 b0).0 p0.0) ∙ ap (λ x. fact.Start b0 x) ((c.name_law.ensures a1 b1).0 p0.1)
to c (fact.Active a0 a1 a2 a3) (fact.Active b0 b1 b2 b3) h = let p0 = and_parts _ _ h in let p1 = and_parts _ _ p0.1 in let p2 = and_parts _ _ p1.1 in ap (λ x. fact.Active x a1 a2 a3) ((c.incarnation_law.ensures a0 b0).0 p0.0) ∙ ap (λ x. fact.Active b0 x a2 a3) ((c.name_law.ensures a1 b1).0 p1.0) ∙ ap (λ x. fact.Active b0 b1 x a3) (eqb-true a2 b2 p2.0) ∙ ap (λ x. fact.Active b0 b1 b2 x) ((c.state_law.ensures a3 b3).0 p2.1)
to c (fact.Stop a0 a1) (fact.Stop b0 b1) h = let p0 = and_parts _ _ h in ap (λ x. fact.Stop x a1) ((c.incarnation_law.ensures a0 b0).0 p0.0) ∙ ap (λ x. fact.Stop b0 x) ((c.name_law.ensures a1 b1).0 p0.1)
to c (fact.WriteFailed a0 a1) (fact.WriteFailed b0 b1) h = let p0 = and_parts _ _ h in ap (λ x. fact.WriteFailed x a1) ((c.incarnation_law.ensures a0 b0).0 p0.0) ∙ ap (λ x. fact.WriteFailed b0 x) ((c.name_law.ensures a1 b1).0 p0.1)
to c (fact.Armed a0 a1) (fact.Armed b0 b1) h = let p0 = and_parts _ _ h in ap (λ x. fact.Armed x a1) ((c.name_law.ensures a0 b0).0 p0.0) ∙ ap (λ x. fact.Armed b0 x) ((c.keep_law.ensures a1 b1).0 p0.1)
to c (fact.Wrote a0 a1) (fact.Wrote b0 b1) h = let p0 = and_parts _ _ h in ap (λ x. fact.Wrote x a1) ((c.name_law.ensures a0 b0).0 p0.0) ∙ ap (λ x. fact.Wrote b0 x) ((c.record_law.ensures a1 b1).0 p0.1)
to c (fact.Snapshot a0 a1) (fact.Snapshot b0 b1) h = let p0 = and_parts _ _ h in ap (λ x. fact.Snapshot x a1) ((c.name_law.ensures a0 b0).0 p0.0) ∙ ap (λ x. fact.Snapshot b0 x) (eqb-true a1 b1 p0.1)
to c (fact.Remembered a0) (fact.Remembered b0) h = ap (λ x. fact.Remembered x) ((c.name_law.ensures a0 b0).0 h)
to c (fact.Forgotten a0) (fact.Forgotten b0) h = ap (λ x. fact.Forgotten x) ((c.name_law.ensures a0 b0).0 h)
to c (fact.Waits a0 a1 a2) (fact.Waits b0 b1 b2) h = let p0 = and_parts _ _ h in let p1 = and_parts _ _ p0.1 in ap (λ x. fact.Waits x a1 a2) (eqb-true a0 b0 p0.0) ∙ ap (λ x. fact.Waits b0 x a2) ((c.name_law.ensures a1 b1).0 p1.0) ∙ ap (λ x. fact.Waits b0 b1 x) ((c.command_law.ensures a2 b2).0 p1.1)
to c (fact.Queued a0 a1 a2 a3) (fact.Queued b0 b1 b2 b3) h = let p0 = and_parts _ _ h in let p1 = and_parts _ _ p0.1 in let p2 = and_parts _ _ p1.1 in ap (λ x. fact.Queued x a1 a2 a3) (eqb-true a0 b0 p0.0) ∙ ap (λ x. fact.Queued b0 x a2 a3) ((c.name_law.ensures a1 b1).0 p1.0) ∙ ap (λ x. fact.Queued b0 b1 x a3) (eqb-true a2 b2 p2.0) ∙ ap (λ x. fact.Queued b0 b1 b2 x) ((c.command_law.ensures a3 b3).0 p2.1)
to c (fact.Confirmed a0 a1 a2) (fact.Confirmed b0 b1 b2) h = let p0 = and_parts _ _ h in let p1 = and_parts _ _ p0.1 in ap (λ x. fact.Confirmed x a1 a2) (eqb-true a0 b0 p0.0) ∙ ap (λ x. fact.Confirmed b0 x a2) ((c.name_law.ensures a1 b1).0 p1.0) ∙ ap (λ x. fact.Confirmed b0 b1 x) (eqb-true a2 b2 p1.1)
to c (fact.Reshard a0 a1) (fact.Reshard b0 b1) h = let p0 = and_parts _ _ h in ap (λ x. fact.Reshard x a1) (eqb-true a0 b0 p0.0) ∙ ap (λ x. fact.Reshard b0 x) (eqb-true a1 b1 p0.1)
to c (fact.Resharded a0 a1 a2) (fact.Resharded b0 b1 b2) h = let p0 = and_parts _ _ h in let p1 = and_parts _ _ p0.1 in ap (λ x. fact.Resharded x a1 a2) (eqb-true a0 b0 p0.0) ∙ ap (λ x. fact.Resharded b0 x a2) (eqb-true a1 b1 p1.0) ∙ ap (λ x. fact.Resharded b0 b1 x) (eqb-true a2 b2 p1.1)
to c (fact.Upgrade a0) (fact.Upgrade b0) h = ap (λ x. fact.Upgrade x) (eqb-true a0 b0 h)
to c (fact.SentAsk a0 a1) (fact.SentAsk b0 b1) h = let p0 = and_parts _ _ h in ap (λ x. fact.SentAsk x a1) (eqb-true a0 b0 p0.0) ∙ ap (λ x. fact.SentAsk b0 x) ((c.incarnation_law.ensures a1 b1).0 p0.1)
to c (fact.SentJob a0 a1 a2) (fact.SentJob b0 b1 b2) h = let p0 = and_parts _ _ h in let p1 = and_parts _ _ p0.1 in ap (λ x. fact.SentJob x a1 a2) (eqb-true a0 b0 p0.0) ∙ ap (λ x. fact.SentJob b0 x a2) ((c.incarnation_law.ensures a1 b1).0 p1.0) ∙ ap (λ x. fact.SentJob b0 b1 x) ((c.name_law.ensures a2 b2).0 p1.1)
to c (fact.SentDone a0 a1 a2) (fact.SentDone b0 b1 b2) h = let p0 = and_parts _ _ h in let p1 = and_parts _ _ p0.1 in ap (λ x. fact.SentDone x a1 a2) (eqb-true a0 b0 p0.0) ∙ ap (λ x. fact.SentDone b0 x a2) ((c.incarnation_law.ensures a1 b1).0 p1.0) ∙ ap (λ x. fact.SentDone b0 b1 x) ((c.name_law.ensures a2 b2).0 p1.1)
to c (fact.Given a0 a1) (fact.Given b0 b1) h = let p0 = and_parts _ _ h in ap (λ x. fact.Given x a1) ((c.name_law.ensures a0 b0).0 p0.0) ∙ ap (λ x. fact.Given b0 x) ((c.incarnation_law.ensures a1 b1).0 p0.1)
to c (fact.Did a0 a1) (fact.Did b0 b1) h = let p0 = and_parts _ _ h in ap (λ x. fact.Did x a1) ((c.incarnation_law.ensures a0 b0).0 p0.0) ∙ ap (λ x. fact.Did b0 x) ((c.name_law.ensures a1 b1).0 p0.1)
to c a b h = absurd (true_is_not_false (sym h))

itself : goal.After-state_law → (a : Fact) → IsTrue (impl.ghosts.eq a a)
itself c (fact.At a0) = eq-eqb a0 a0 refl
itself c fact.Nothing = refl
itself c fact.WireFull = refl
itself c fact.Settled = refl
itself c (fact.Up a0) = (c.incarnation_law.ensures a0 a0).1 refl
itself c (fact.Gone a0) = (c.incarnation_law.ensures a0 a0).1 refl
itself c (fact.View a0 a1) = both _ _ ((c.incarnation_law.ensures a0 a0).1 refl) (eq-eqb a1 a1 refl)
itself c (fact.Sent a0 a1) = both _ _ (eq-eqb a0 a0 refl) ((c.packet_law.ensures a1 a1).1 refl)
itself c (fact.Got a0) = eq-eqb a0 a0 refl
itself c (fact.Granted a0 a1 a2) = both _ _ ((c.slot_law.ensures a0 a0).1 refl) (both _ _ (eq-eqb a1 a1 refl) ((c.incarnation_law.ensures a2 a2).1 refl))
itself c (fact.Freed a0 a1 a2) = both _ _ ((c.slot_law.ensures a0 a0).1 refl) (both _ _ (eq-eqb a1 a1 refl) ((c.cause_law.ensures a2 a2).1 refl))
itself c (fact.Held a0 a1 a2) = both _ _ ((c.slot_law.ensures a0 a0).1 refl) (both _ _ ((c.incarnation_law.ensures a1 a1).1 refl) (eq-eqb a2 a2 refl))
itself c (fact.Registered a0) = (c.incarnation_law.ensures a0 a0).1 refl
itself c (fact.Terminated a0) = (c.incarnation_law.ensures a0 a0).1 refl
itself c (fact.Allocated a0 a1) = both _ _ (eq-eqb a0 a0 refl) ((c.incarnation_law.ensures a1 a1).1 refl)
itself c (fact.Deallocated a0) = eq-eqb a0 a0 refl
itself c (fact.Moving a0 a1) = both _ _ (eq-eqb a0 a0 refl) ((c.stamp_law.ensures a1 a1).1 refl)
itself c (fact.Home a0 a1 a2) = both _ _ ((c.incarnation_law.ensures a0 a0).1 refl) (both _ _ (eq-eqb a1 a1 refl) ((c.incarnation_law.ensures a2 a2).1 refl))
itself c (fact.Forget a0 a1) = both _ _ ((c.incarnation_law.ensures a0 a0).1 refl) (eq-eqb a1 a1 refl)
itself c (fact.Kept a0 a1) = both _ _ ((c.incarnation_law.ensures a0 a0).1 refl) ((c.message_law.ensures a1 a1).1 refl)
itself c (fact.Dropped a0 a1) = both _ _ ((c.incarnation_law.ensures a0 a0).1 refl) ((c.message_law.ensures a1 a1).1 refl)
itself c (fact.Stashed a0 a1) = both _ _ ((c.incarnation_law.ensures a0 a0).1 refl) ((c.message_law.ensures a1 a1).1 refl)
itself c (fact.Start a0 a1) = both _ _ ((c.incarnation_law.ensures a0 a0).1 refl) ((c.name_law.ensures a1 a1).1 refl)
itself c (fact.Active a0 a1 a2 a3) = both _ _ ((c.incarnation_law.ensures a0 a0).1 refl) (both _ _ ((c.name_law.ensures a1 a1).1 refl) (both _ _ (eq-eqb a2 a2 refl) ((c.state_law.ensures a3 a3).1 refl)))
itself c (fact.Stop a0 a1) = both _ _ ((c.incarnation_law.ensures a0 a0).1 refl) ((c.name_law.ensures a1 a1).1 refl)
itself c (fact.WriteFailed a0 a1) = both _ _ ((c.incarnation_law.ensures a0 a0).1 refl) ((c.name_law.ensures a1 a1).1 refl)
itself c (fact.Armed a0 a1) = both _ _ ((c.name_law.ensures a0 a0).1 refl) ((c.keep_law.ensures a1 a1).1 refl)
itself c (fact.Wrote a0 a1) = both _ _ ((c.name_law.ensures a0 a0).1 refl) ((c.record_law.ensures a1 a1).1 refl)
itself c (fact.Snapshot a0 a1) = both _ _ ((c.name_law.ensures a0 a0).1 refl) (eq-eqb a1 a1 refl)
itself c (fact.Remembered a0) = (c.name_law.ensures a0 a0).1 refl
itself c (fact.Forgotten a0) = (c.name_law.ensures a0 a0).1 refl
itself c (fact.Waits a0 a1 a2) = both _ _ (eq-eqb a0 a0 refl) (both _ _ ((c.name_law.ensures a1 a1).1 refl) ((c.command_law.ensures a2 a2).1 refl))
itself c (fact.Queued a0 a1 a2 a3) = both _ _ (eq-eqb a0 a0 refl) (both _ _ ((c.name_law.ensures a1 a1).1 refl) (both _ _ (eq-eqb a2 a2 refl) ((c.command_law.ensures a3 a3).1 refl)))
itself c (fact.Confirmed a0 a1 a2) = both _ _ (eq-eqb a0 a0 refl) (both _ _ ((c.name_law.ensures a1 a1).1 refl) (eq-eqb a2 a2 refl))
itself c (fact.Reshard a0 a1) = both _ _ (eq-eqb a0 a0 refl) (eq-eqb a1 a1 refl)
itself c (fact.Resharded a0 a1 a2) = both _ _ (eq-eqb a0 a0 refl) (both _ _ (eq-eqb a1 a1 refl) (eq-eqb a2 a2 refl))
itself c (fact.Upgrade a0) = eq-eqb a0 a0 refl
itself c (fact.SentAsk a0 a1) = both _ _ (eq-eqb a0 a0 refl) ((c.incarnation_law.ensures a1 a1).1 refl)
itself c (fact.SentJob a0 a1 a2) = both _ _ (eq-eqb a0 a0 refl) (both _ _ ((c.incarnation_law.ensures a1 a1).1 refl) ((c.name_law.ensures a2 a2).1 refl))
itself c (fact.SentDone a0 a1 a2) = both _ _ (eq-eqb a0 a0 refl) (both _ _ ((c.incarnation_law.ensures a1 a1).1 refl) ((c.name_law.ensures a2 a2).1 refl))
itself c (fact.Given a0 a1) = both _ _ ((c.name_law.ensures a0 a0).1 refl) ((c.incarnation_law.ensures a1 a1).1 refl)
itself c (fact.Did a0 a1) = both _ _ ((c.incarnation_law.ensures a0 a0).1 refl) ((c.name_law.ensures a1 a1).1 refl)

pub returns : goal.returns
returns c = λ a b. (to c a b, λ same. subst (λ x. IsTrue (impl.ghosts.eq a x)) same (itself c a))
