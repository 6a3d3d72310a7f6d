-- The reader's theorems, in the packet's own terms. A packet that is taken is the bytes of exactly one listing within 01's ranges, the one that `listing_in` reads off its numbers; the bytes of any such listing are taken and give it back, where they are not over the packet limit; a refusal names the first fault.
use Rattle.std.specs.Prelude.{ℕ, ◌<◌, ◌≤◌, ◌≡◌, List, length, get_or}
use Rattle.std.proofs.Common.{sym, ap, subst, ◌∙◌}
use Rattle.listing.specs.declared.grammar.Wanted.TheVariants.{Edition}
use Rattle.listing.specs.Due.{Next}
use Rattle.listing.specs.Taken as taken
use Rattle.listing.specs.Limits.{BYTES}
use Rattle.listing.specs.Listing.{Listing, numbers_of, Ranges}
use Rattle.listing.specs.Parts.{listing_in}
use Rattle.listing.specs.PartLaws.{listing_back}
use Rattle.listing.specs.ListingLaws.{listing_taken, taken_listing, numbers_injective}
use Rattle.listing.specs.RangeLaws.{numbers_fit}
use Rattle.listing.specs.Packet.{numbers_in, taken_of}
use Rattle.listing.specs.Bytes.{bytes_of, packet_bytes}
use Rattle.listing.specs.ByteLaws.{taken_ends, taken_bytes, bytes_taken}
use Rattle.listing.specs.FaultLaws.{FirstFault, fault_is_first}

-- the bytes of a listing within the ranges are taken, and their numbers are the listing's
pub listing_is_taken : (l : Listing) → Ranges l → length (packet_bytes l) ≤ BYTES → (taken_of (packet_bytes l) ≡ taken.Listing (length (numbers_of l))) × (numbers_in (packet_bytes l) ≡ numbers_of l)
unfolding packet_bytes
listing_is_taken l r h = bytes_taken (numbers_of l) (numbers_fit l r) (listing_taken l r) h

-- the parts of a listing's packet are the listing
pub packet_read : (l : Listing) → Ranges l → length (packet_bytes l) ≤ BYTES → listing_in (numbers_in (packet_bytes l)) ≡ l
packet_read l r h = ap listing_in (listing_is_taken l r h).1 ∙ listing_back l r

-- the parts of a packet that is taken are a listing within the ranges, with the packet's numbers
pub taken_is_listed : (bytes : List ℕ) (n : ℕ) → taken_of bytes ≡ taken.Listing n → Ranges (listing_in (numbers_in bytes)) × (numbers_of (listing_in (numbers_in bytes)) ≡ numbers_in bytes)
taken_is_listed bytes n e =
    let found : (l : Listing) × Ranges l × (numbers_of l ≡ numbers_in bytes) = taken_listing (numbers_in bytes) (taken_ends bytes n e) in
    let same : found.0 ≡ listing_in (numbers_in bytes) = sym (listing_back found.0 found.1) ∙ ap listing_in found.2 in
    subst (λ (l : Listing). Ranges l × (numbers_of l ≡ numbers_in bytes)) same (found.1, found.2)

-- a packet that is taken is the packet of its parts
pub packet_is_listing : (bytes : List ℕ) → ((i : ℕ) → get_or bytes i 0 < 256) → (n : ℕ) → taken_of bytes ≡ taken.Listing n → bytes ≡ packet_bytes (listing_in (numbers_in bytes))
unfolding packet_bytes
packet_is_listing bytes below n e = taken_bytes bytes below n e ∙ ap bytes_of (sym (taken_is_listed bytes n e).1)

-- so it is the packet of a listing within the ranges, whose numbers it has
pub taken_is_listing : (bytes : List ℕ) → ((i : ℕ) → get_or bytes i 0 < 256) → (n : ℕ) → taken_of bytes ≡ taken.Listing n
    → (l : Listing) × Ranges l × (bytes ≡ packet_bytes l) × (numbers_in bytes ≡ numbers_of l)
taken_is_listing bytes below n e =
    let listed : Ranges (listing_in (numbers_in bytes)) × (numbers_of (listing_in (numbers_in bytes)) ≡ numbers_in bytes) = taken_is_listed bytes n e in
    (listing_in (numbers_in bytes), listed.0, packet_is_listing bytes below n e, sym listed.1)

-- and of one listing only
pub listing_is_one : (l l' : Listing) → Ranges l → Ranges l' → length (packet_bytes l) ≤ BYTES → packet_bytes l ≡ packet_bytes l' → l ≡ l'
listing_is_one l l' r r' h e =
    let h' : length (packet_bytes l') ≤ BYTES = rw e at h in
    numbers_injective l l' r r' (sym (listing_is_taken l r h).1 ∙ ap numbers_in e ∙ (listing_is_taken l' r' h').1)

-- a fault of a packet that is not too long is its first: numbers that the grammar takes stand before it (`FirstFault` of FaultLaws says what is wrong there)
pub fault_comes_first : (bytes : List ℕ) → ((i : ℕ) → get_or bytes i 0 < 256) → (number place : ℕ) → length bytes ≤ BYTES → taken_of bytes ≡ taken.Fault number place
    → FirstFault bytes (Next Edition) 0 (numbers_in bytes) number place
fault_comes_first = fault_is_first
