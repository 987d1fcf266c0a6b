use Rattle.std.proofs.Common.{◌≡◌, ℕ, subst, ◌∙◌}
use Rattle.post_box.specs.Holding.{WasHolding}
use Rattle.node_runner.proofs.mail.Mail.hands_back.Goals as goal

pub returns-clause-full : goal.returns-clause-full
returns-clause-full g c = λ yes. subst (λ (n : ℕ). WasHolding n c.args.self.now.pass c.args.to) (c.is_all-is_full.ensures yes ∙ c.capacity.ensures) c.count-count.ensures.counted
