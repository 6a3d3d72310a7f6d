-- The checker's theorems, over any order of levels: ⊑ is its test and ⊔ its join. The walk accepts exactly the listings that document 000's rules type (Judgement); a refusal names the first place at which a premise fails, and there the first number of 01's table (Refusal).
use Rattle.std.specs.Prelude.{ℕ, ◌<◌, ◌≤◌, ◌≡◌, refl, Bool, List, length, get_or}
use Rattle.std.proofs.Common.{sym, ap, ◌∙◌}
use Rattle.std.proofs.Math.Path.{subst}
use Rattle.std.proofs.Math.Nat.{zero-add}
use Rattle.choice.specs.Pick.{is_equal}
use Rattle.refusals.specs.Refusals.{verdict_of}
use Rattle.levels.specs.Sets.{below_of, join_of}
use Rattle.listing.specs.Limits.{BYTES}
use Rattle.listing.specs.Listing.{Listing, Ranges, numbers_of}
use Rattle.listing.specs.Packet.{numbers_in, taken_of}
use Rattle.listing.specs.Parts.{listing_in}
use Rattle.listing.specs.Bytes.{packet_bytes}
use Rattle.listing.specs.Theorems.{listing_is_taken, packet_read, taken_is_listed, packet_is_listing}
use Rattle.checker.specs.Checked as checked
use Rattle.checker.specs.Walk.{accepted, walk_of}
use Rattle.checker.specs.Judgement.{WellTyped}
use Rattle.checker.specs.Check.{verdict_in, judged_of, checked_by, check_of}
use Rattle.checker.specs.CheckLaws.{accepted_taken, verdict_zero}
use Rattle.checker.specs.Refusal.{rank, NoneBelow, start, reached, row_at, FirstRefusal}
use Rattle.checker.specs.RefusalLaws.{in_table_order, failure_in_table, refused_first}
use Rattle.checker.specs.AcceptedLaws.{accepted_typed}

module _ (◌⊑◌ : ℕ → ℕ → Bool) (◌⊔◌ : ℕ → ℕ → ℕ) (l : Listing) where
  -- a listing that is accepted is well typed
  pub accepted_is_typed : Ranges l → walk_of ◌⊑◌ ◌⊔◌ l ≡ accepted → WellTyped ◌⊑◌ ◌⊔◌ l
  accepted_is_typed r = (accepted_typed ◌⊑◌ ◌⊔◌ l r).0

  -- a listing that is well typed is accepted
  pub typed_is_accepted : Ranges l → WellTyped ◌⊑◌ ◌⊔◌ l → walk_of ◌⊑◌ ◌⊔◌ l ≡ accepted
  typed_is_accepted r = (accepted_typed ◌⊑◌ ◌⊔◌ l r).1

  -- a refusal is the first: all premises of the items before its place hold, and of those that are due there the first that fails has its number
  pub refusal_is_first : (number place : ℕ) → 0 < number → walk_of ◌⊑◌ ◌⊔◌ l ≡ verdict_of number place → FirstRefusal ◌⊑◌ ◌⊔◌ l.shapes l.labels start l.items number place
  unfolding walk_of start
  refusal_is_first number place z e =
      let found = refused_first ◌⊑◌ ◌⊔◌ l.shapes l.labels l.items 0 start number place z e in
      subst (FirstRefusal ◌⊑◌ ◌⊔◌ l.shapes l.labels start l.items number) (sym (found.1 ∙ zero-add found.0)) found.2

  -- no premise that fails there stands before that number in the table
  pub number_is_first_in_table : (number place : ℕ) (r : FirstRefusal ◌⊑◌ ◌⊔◌ l.shapes l.labels start l.items number place)
      → NoneBelow (rank number) (row_at ◌⊑◌ ◌⊔◌ l.shapes l.labels (reached ◌⊑◌ ◌⊔◌ l.shapes l.labels start r.passed) r.left)
  number_is_first_in_table number place r =
      failure_in_table _ number (in_table_order ◌⊑◌ ◌⊔◌ l.shapes l.labels (reached ◌⊑◌ ◌⊔◌ l.shapes l.labels start r.passed) r.left) r.fails

-- the same of packets, where levels are sets of compartments: what is accepted is the packet of a well typed listing
pub accepted_packet_is_typed : (bytes : List ℕ) → ((i : ℕ) → get_or bytes i 0 < 256) → (n : ℕ) → check_of bytes ≡ checked.Accepted n
    → (l : Listing) × Ranges l × (bytes ≡ packet_bytes l) × WellTyped below_of join_of l
unfolding check_of
accepted_packet_is_typed bytes below n e =
    let l = listing_in (numbers_in bytes) in
    let found = accepted_taken (verdict_in bytes) n (taken_of bytes) (sym e) in
    let r = (taken_is_listed bytes n found.0).0 in
    (l, r, packet_is_listing bytes below n found.0, accepted_is_typed below_of join_of l r (verdict_zero l found.1))

-- and the packet of a well typed listing, where it is not over the packet limit, is accepted
pub typed_packet_is_accepted : (l : Listing) → Ranges l → length (packet_bytes l) ≤ BYTES → WellTyped below_of join_of l → check_of (packet_bytes l) ≡ checked.Accepted (length (numbers_of l))
unfolding check_of checked_by judged_of
typed_packet_is_accepted l r h t =
    let verdict : verdict_in (packet_bytes l) ≡ accepted = ap (walk_of below_of join_of) (packet_read l r h) ∙ typed_is_accepted below_of join_of l r t in
    (λ i. checked_by ((listing_is_taken l r h).0 i) (verdict i)) ∙ sym (is_equal 0 0 _ _ _ refl refl)
