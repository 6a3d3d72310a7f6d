-- The code answers the desk call by a `Result`: what it served, or why and where it refuses. Here are the service and the verdict that this means.
use Rattle.std.specs.Prelude.{ℕ, List, Result, Ok, Err, true}
use Rattle.refusals.specs.declared.Fault.{Fault}
use Rattle.refusals.specs.Refusals.{Verdict, number_of, verdict_of}
use Rattle.listing.specs.Packet.{numbers_in}
use Rattle.checker.specs.Checked.{Checked, Accepted, Refused, NoRoom}
use Rattle.checker.specs.Check.{check_of}
use Rattle.start.specs.Start.{passed, fault_of}
use Rattle.service.specs.declared.serving.Served.{Served}
use Rattle.service.specs.Numbers.{DOES_NOT_FIT}
use Rattle.service.specs.Desk.{Service, service_of, later_fault}

-- the answer, with the registers of the start
abbrev pub service_in : Result Served Fault → List ℕ → Service
service_in (Ok s) regs = service_of s.status 0 s.count s.regs
service_in (Err f) regs = service_of (number_of f.refusal) f.place 0 regs

-- the refusal; passed where it served
abbrev pub fault_in : Result Served Fault → Verdict
fault_in (Ok s) = passed
fault_in (Err f) = verdict_of (number_of f.refusal) f.place

-- the first refusal of the call, of a code buffer of so many words
unfoldable pub fault_by : Checked → List ℕ → ℕ → List ℕ → List ℕ → List ℕ → ℕ → Verdict
fault_by (Accepted n) ns code heap blocks regs budget = later_fault ns code true heap blocks regs budget
fault_by (Refused k place) ns code heap blocks regs budget = fault_of k place
fault_by NoRoom ns code heap blocks regs budget = fault_of DOES_NOT_FIT 0

unfoldable pub desk_fault : List ℕ → ℕ → List ℕ → List ℕ → List ℕ → ℕ → Verdict
desk_fault packet code heap blocks regs budget = fault_by (check_of packet) (numbers_in packet) code heap blocks regs budget
