-- No accepted routine ever traps, and none tells: what is said of runs, and the laws that do not rest on Effects. What does, up to the promise, stands in proofs/: read proofs/Promise.antt first.
pub mod Contexts  -- the context before each item
pub mod Halting  -- the context in which a run halts, by its pc
pub mod Observer  -- what an observer sees, and when starts and ends agree for him
pub mod Items  -- a machine that steps over items
pub mod Setting  -- what a run over items goes over, and what holds of it at each spot
pub mod Agreement  -- what two runs have in common for an observer
pub mod Effects  -- what an item does, in four ways
pub mod RegisterLaws  -- what a write to a register changes, and what a label lists
pub mod WordLaws  -- block words, and what a store changes
pub mod AgreementLaws  -- agreement lasts where nothing that an observer sees changes
pub mod PlaceLaws  -- what stands at a place
pub mod Labels  -- the place behind a label
pub mod ContextLaws  -- a well typed listing is typed at each place
pub mod Addresses  -- the address of a place, and of a label's target
pub mod ErasedStep  -- a step over erased code is the move over a kept item
pub mod ErasedRun  -- a run over erased code follows the run over the items
pub mod ListingRun  -- the run of a well typed listing's code from its start
pub mod Steps  -- a run that never traps makes as many steps as it counts
pub mod Accepted  -- the listing of an accepted packet
pub mod Sound  -- from which starts the promise over any order of levels speaks of runs
pub mod Promise  -- what the promise of the desk call speaks of
pub mod K1  -- K1, and calls over it
