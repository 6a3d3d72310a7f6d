-- The bytes of a row of numbers, one after the other, and the packet of a listing.
use Rattle.std.specs.Prelude.{ℕ, List, [], ◌∷◌, ◌++◌}
use Rattle.number.specs.Encode.{encode_of}
use Rattle.listing.specs.Listing.{Listing, numbers_of}

unfoldable pub bytes_of : List ℕ → List ℕ
bytes_of [] = []
bytes_of (n ∷ ns) = encode_of n ++ bytes_of ns

unfoldable pub packet_bytes : Listing → List ℕ
packet_bytes l = bytes_of (numbers_of l)
