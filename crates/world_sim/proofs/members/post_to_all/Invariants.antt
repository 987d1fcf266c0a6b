use Rattle.std.proofs.Common.{◌≡◌, ◌+◌, ◌≤◌, ◌++◌, length, map, take}
use Rattle.world_sim.specs.Steps.{view_item}
use Rattle.world_sim.proofs.members.post_to_all.Given as goal

abbrev pub invariant-loop-place : goal.invariant-loop-place
invariant-loop-place l =
    (l.mail.items ≡ l.initial.mail.items ++ map (view_item l.version l.members) (take l.place l.members))
    × (l.mail.packets ≡ l.initial.mail.packets) × (l.mail.fresh ≡ l.initial.mail.fresh) × (l.mail.full ≡ l.initial.mail.full)
    × (l.mail.spare + l.place ≡ l.initial.mail.spare) × (l.place ≤ length l.members)
