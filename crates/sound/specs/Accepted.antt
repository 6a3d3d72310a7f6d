-- A packet that is accepted: its listing is within the ranges and well typed.
use Rattle.std.specs.Prelude.{ℕ, ◌≡◌, List}
use Rattle.std.proofs.Common.{sym}
use Rattle.levels.specs.Sets.{below_of, join_of}
use Rattle.listing.specs.Listing.{Listing, Ranges}
use Rattle.listing.specs.Packet.{numbers_in, taken_of}
use Rattle.listing.specs.Parts.{listing_in}
use Rattle.listing.specs.Theorems.{taken_is_listed}
use Rattle.checker.specs.Checked.{Accepted}
use Rattle.checker.specs.Judgement.{WellTyped}
use Rattle.checker.specs.Check.{verdict_in, check_of}
use Rattle.checker.specs.CheckLaws.{accepted_taken, verdict_zero}
use Rattle.checker.specs.Theorems.{accepted_is_typed}

-- the listing of a packet
abbrev pub packet_listing : List ℕ → Listing
packet_listing bytes = listing_in (numbers_in bytes)

module _ (bytes : List ℕ) (n : ℕ) (e : check_of bytes ≡ Accepted n) where
  pub accepted_ranges : Ranges (packet_listing bytes)
  unfolding check_of
  accepted_ranges = (taken_is_listed bytes n (accepted_taken (verdict_in bytes) n (taken_of bytes) (sym e)).0).0

  pub accepted_typed : WellTyped below_of join_of (packet_listing bytes)
  unfolding check_of
  accepted_typed =
      accepted_is_typed below_of join_of (packet_listing bytes) accepted_ranges
      (verdict_zero (packet_listing bytes) (accepted_taken (verdict_in bytes) n (taken_of bytes) (sym e)).1)
