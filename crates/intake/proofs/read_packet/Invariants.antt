-- `read_packet` ends: each turn leaves less of the buffer to fill.
use Rattle.std.proofs.Common.{length, ◌-◌, ◌≤◌}
use Rattle.intake.proofs.read_packet.Given as goal

abbrev pub invariant-loop-count : goal.invariant-loop-count
invariant-loop-count g l = l.count ≤ length l.buf

abbrev pub decreases-loop-count : goal.decreases-loop-count
decreases-loop-count g l = length l.buf - l.count
