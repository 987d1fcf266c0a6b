use Rattle.std.proofs.Common.{◌≡◌, ◌≤◌, length, ap, arith}
use Rattle.yard_model.specs.Script.{sends}
use Rattle.world_sim.proofs.SentLaws.{sent_few}
use Rattle.world_sim.proofs.sent.sent.Goals as goal

pub overflow_cast-result : goal.overflow_cast-result
overflow_cast-result c =
    let few : length (sends c.args.charter.now c.args.p) ≤ length c.args.charter.now.orders = sent_few c.args.charter.now c.args.p in
    let most : length c.args.charter.now.orders ≤ 3000000 = c.config.ensures.script.fits in
    let same : length c.sends.result.now ≡ length (sends c.args.charter.now c.args.p) = ap length c.sends.ensures in
    omega (arith, few, most, same)
