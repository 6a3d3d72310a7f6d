-- From which starts the promise over any order of levels (proofs/Sound.antt) speaks of runs.
use Rattle.std.specs.Prelude.{ℕ, ◌+◌, ◌≡◌, List, length}
use Rattle.listing.specs.Limits.{TOP_PART}
use Rattle.listing.specs.Listing.{Listing}
use Rattle.start.specs.Start.{Row, listed_first}
use Rattle.start.specs.Meaning.{Passing}

-- sixteen registers and a heap that pass the start check of a listing and a block table
pub record Start (l : Listing) (rows : List Row) (regs heap : List ℕ) : Type 0 where
  pub sixteen : length regs ≡ TOP_PART + 1
  pub passing : Passing l.shapes (listed_first l.labels l.items) heap rows regs
