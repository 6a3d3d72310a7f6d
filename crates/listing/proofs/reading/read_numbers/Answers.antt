use Rattle.listing.specs.PacketLaws.{turns, got_behind}
use Prim.Native.Nat.{◌<◌, ◌≤◌}
use lib.ListN.{length, length-set}
use native.Mathlib.Omega.{arith}
use Rattle.std.proofs.Common.{ap}
use Rattle.listing.specs.Got.{got_in}
use Rattle.listing.proofs.reading.read_numbers.Goals as goal

-- behind the number that was got lies a place further on, within the packet
further : (c : goal.In_ok-step) → (c.loop-due.at < c.in_ok-step.step.behind) × (c.in_ok-step.step.behind ≤ length c.args.packet.now)
further c = got_behind _ _ _ _ _ _ _ (omega arith) c.get.ensures (ap got_in c.in_ok-step.was)

pub loop-due-preserved : goal.loop-due-preserved
loop-due-preserved c = (grind (arith, turns), omega (arith, further c), omega (arith, further c), simp length-set (omega arith))

pub bounds-numbers-count : goal.bounds-numbers-count
bounds-numbers-count c = omega (arith, further c)

pub loop-due-smaller : goal.loop-due-smaller
loop-due-smaller c = omega (arith, further c)
