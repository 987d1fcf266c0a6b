-- The same variant with the same parts is the same.
use Rattle.std.proofs.Common.{◌≡◌, ◌∙◌, refl, ap, subst, sym, true, true≢false}
use Rattle.std.specs.Prelude.{Bool, IsTrue, ◌&&◌}
use Rattle.std.proofs.lemmas.Bool.{eqb-true, eq-eqb, and_parts}
use Rattle.yard_model.specs.declared.packet.Body.{Body}
use Rattle.yard_model.specs.declared.packet.Body.TheVariants as body
use Rattle.yard_model.specs.contracts.packet.BodyPartialEq.TheImpl as impl
use Rattle.yard_model.proofs.laws.body_law.Goals as goal

both : (a b : Bool) → a ≡ true → b ≡ true → (a && b) ≡ true
both a b e f = ap (λ x. x && b) e ∙ f

to : goal.After-message_law → (a b : Body) → IsTrue (impl.ghosts.eq a b) → a ≡ b
to c (body.View a0 a1) (body.View b0 b1) h = let p0 = and_parts _ _ h in ap (λ x. body.View x a1) (eqb-true a0 b0 p0.0) ∙ ap (λ x. body.View b0 x) ((c.members_law.ensures a1 b1).0 p0.1)
to c body.Register body.Register h = refl
to c body.RegisterAck body.RegisterAck h = refl
to c (body.GetShardHome a0) (body.GetShardHome b0) h = ap (λ x. body.GetShardHome x) (eqb-true a0 b0 h)
to c (body.ShardHome a0 a1 a2) (body.ShardHome b0 b1 b2) h = let p0 = and_parts _ _ h in let p1 = and_parts _ _ p0.1 in ap (λ x. body.ShardHome x a1 a2) (eqb-true a0 b0 p0.0) ∙ (ap (λ x. body.ShardHome b0 x a2) ((c.incarnation_law.ensures a1 b1).0 p1.0) ∙ ap (λ x. body.ShardHome b0 b1 x) ((c.stamp_law.ensures a2 b2).0 p1.1))
to c (body.HostShard a0 a1) (body.HostShard b0 b1) h = let p0 = and_parts _ _ h in ap (λ x. body.HostShard x a1) (eqb-true a0 b0 p0.0) ∙ ap (λ x. body.HostShard b0 x) ((c.stamp_law.ensures a1 b1).0 p0.1)
to c (body.ShardStarted a0) (body.ShardStarted b0) h = ap (λ x. body.ShardStarted x) (eqb-true a0 b0 h)
to c (body.BeginHandOff a0 a1) (body.BeginHandOff b0 b1) h = let p0 = and_parts _ _ h in ap (λ x. body.BeginHandOff x a1) (eqb-true a0 b0 p0.0) ∙ ap (λ x. body.BeginHandOff b0 x) ((c.stamp_law.ensures a1 b1).0 p0.1)
to c (body.BeginHandOffAck a0 a1) (body.BeginHandOffAck b0 b1) h = let p0 = and_parts _ _ h in ap (λ x. body.BeginHandOffAck x a1) (eqb-true a0 b0 p0.0) ∙ ap (λ x. body.BeginHandOffAck b0 x) ((c.stamp_law.ensures a1 b1).0 p0.1)
to c (body.HandOff a0 a1) (body.HandOff b0 b1) h = let p0 = and_parts _ _ h in ap (λ x. body.HandOff x a1) (eqb-true a0 b0 p0.0) ∙ ap (λ x. body.HandOff b0 x) ((c.stamp_law.ensures a1 b1).0 p0.1)
to c (body.ShardStopped a0 a1) (body.ShardStopped b0 b1) h = let p0 = and_parts _ _ h in ap (λ x. body.ShardStopped x a1) (eqb-true a0 b0 p0.0) ∙ ap (λ x. body.ShardStopped b0 x) ((c.stamp_law.ensures a1 b1).0 p0.1)
to c body.GracefulShutdownReq body.GracefulShutdownReq h = refl
to c (body.StopEntity a0) (body.StopEntity b0) h = ap (λ x. body.StopEntity x) ((c.name_law.ensures a0 b0).0 h)
to c (body.Recovered a0) (body.Recovered b0) h = ap (λ x. body.Recovered x) ((c.name_law.ensures a0 b0).0 h)
to c (body.Passivate a0) (body.Passivate b0) h = ap (λ x. body.Passivate x) ((c.name_law.ensures a0 b0).0 h)
to c (body.Sequenced a0) (body.Sequenced b0) h = ap (λ x. body.Sequenced x) ((c.message_law.ensures a0 b0).0 h)
to c (body.Request a0 a1 a2 a3) (body.Request b0 b1 b2 b3) h = let p0 = and_parts _ _ h in let p1 = and_parts _ _ p0.1 in let p2 = and_parts _ _ p1.1 in ap (λ x. body.Request x a1 a2 a3) (eqb-true a0 b0 p0.0) ∙ (ap (λ x. body.Request b0 x a2 a3) ((c.name_law.ensures a1 b1).0 p1.0) ∙ (ap (λ x. body.Request b0 b1 x a3) (eqb-true a2 b2 p2.0) ∙ ap (λ x. body.Request b0 b1 b2 x) (eqb-true a3 b3 p2.1)))
to c (body.Resend a0 a1 a2) (body.Resend b0 b1 b2) h = let p0 = and_parts _ _ h in let p1 = and_parts _ _ p0.1 in ap (λ x. body.Resend x a1 a2) (eqb-true a0 b0 p0.0) ∙ (ap (λ x. body.Resend b0 x a2) ((c.name_law.ensures a1 b1).0 p1.0) ∙ ap (λ x. body.Resend b0 b1 x) (eqb-true a2 b2 p1.1))
to c (body.Ack a0 a1 a2) (body.Ack b0 b1 b2) h = let p0 = and_parts _ _ h in let p1 = and_parts _ _ p0.1 in ap (λ x. body.Ack x a1 a2) (eqb-true a0 b0 p0.0) ∙ (ap (λ x. body.Ack b0 x a2) ((c.name_law.ensures a1 b1).0 p1.0) ∙ ap (λ x. body.Ack b0 b1 x) (eqb-true a2 b2 p1.1))
to c a b h = absurd (true≢false (sym h))

itself : goal.After-message_law → (a : Body) → IsTrue (impl.ghosts.eq a a)
itself c (body.View a0 a1) = both _ _ (eq-eqb a0 a0 refl) ((c.members_law.ensures a1 a1).1 refl)
itself c body.Register = refl
itself c body.RegisterAck = refl
itself c (body.GetShardHome a0) = eq-eqb a0 a0 refl
itself c (body.ShardHome a0 a1 a2) = both _ _ (eq-eqb a0 a0 refl) (both _ _ ((c.incarnation_law.ensures a1 a1).1 refl) ((c.stamp_law.ensures a2 a2).1 refl))
itself c (body.HostShard a0 a1) = both _ _ (eq-eqb a0 a0 refl) ((c.stamp_law.ensures a1 a1).1 refl)
itself c (body.ShardStarted a0) = eq-eqb a0 a0 refl
itself c (body.BeginHandOff a0 a1) = both _ _ (eq-eqb a0 a0 refl) ((c.stamp_law.ensures a1 a1).1 refl)
itself c (body.BeginHandOffAck a0 a1) = both _ _ (eq-eqb a0 a0 refl) ((c.stamp_law.ensures a1 a1).1 refl)
itself c (body.HandOff a0 a1) = both _ _ (eq-eqb a0 a0 refl) ((c.stamp_law.ensures a1 a1).1 refl)
itself c (body.ShardStopped a0 a1) = both _ _ (eq-eqb a0 a0 refl) ((c.stamp_law.ensures a1 a1).1 refl)
itself c body.GracefulShutdownReq = refl
itself c (body.StopEntity a0) = (c.name_law.ensures a0 a0).1 refl
itself c (body.Recovered a0) = (c.name_law.ensures a0 a0).1 refl
itself c (body.Passivate a0) = (c.name_law.ensures a0 a0).1 refl
itself c (body.Sequenced a0) = (c.message_law.ensures a0 a0).1 refl
itself c (body.Request a0 a1 a2 a3) = both _ _ (eq-eqb a0 a0 refl) (both _ _ ((c.name_law.ensures a1 a1).1 refl) (both _ _ (eq-eqb a2 a2 refl) (eq-eqb a3 a3 refl)))
itself c (body.Resend a0 a1 a2) = both _ _ (eq-eqb a0 a0 refl) (both _ _ ((c.name_law.ensures a1 a1).1 refl) (eq-eqb a2 a2 refl))
itself c (body.Ack a0 a1 a2) = both _ _ (eq-eqb a0 a0 refl) (both _ _ ((c.name_law.ensures a1 a1).1 refl) (eq-eqb a2 a2 refl))

pub returns : goal.returns
returns c = λ a b. (to c a b, λ same. subst (λ x. IsTrue (impl.ghosts.eq a x)) same (itself c a))
