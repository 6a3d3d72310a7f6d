-- 01, "The packet": every number is in groups of seven bits, lowest group first, top bit set on all but the last byte; shortest form, at most five bytes, below 2 ^ 32.
use Rattle.std.specs.Prelude.{ℕ, zero, suc, ◌+◌, ◌-◌, ◌*◌, ◌%◌, ◌^◌, List, length, get_or, ltb, eqb}
use Rattle.choice.specs.Pick.{pick}
use Rattle.number.specs.Found.{Found}
use Rattle.number.specs.Found.{Number, Ended, Malformed}

-- the most bytes of a number, and the least byte that is not a number's last
abbrev pub GROUPS : ℕ
GROUPS = 5

abbrev pub CONTINUES : ℕ
CONTINUES = 128

-- the refusal of a number that begins at `first` and whose rule breaks at the byte `at`: its place is the first byte
abbrev pub malformed_of : ℕ → ℕ → Found
malformed_of first at = Malformed first

-- a number by its last byte b at `at`: the groups before it make v, and b counts `scale`. A zero last group is not shortest, unless it is the only one
unfoldable pub last_of : ℕ → ℕ → ℕ → ℕ → ℕ → Found
last_of v scale b first at =
    pick (eqb b 0)
    (pick (eqb at first) (Number 0 (at + 1)) (malformed_of first at))
    (pick (ltb (v + b * scale) (2 ^ 32)) (Number (v + b * scale) (at + 1)) (malformed_of first at))

-- a number from its group at `at` on, with so many groups allowed; five bytes that continue are too long, also where the packet ends there
unfoldable pub groups_of : ℕ → List ℕ → ℕ → ℕ → ℕ → ℕ → Found
groups_of zero bytes first at v scale = malformed_of first (at - 1)
groups_of (suc left) bytes first at v scale =
    pick (ltb at (length bytes))
    (pick (ltb (get_or bytes at 0) CONTINUES)
    (last_of v scale (get_or bytes at 0) first at)
    (groups_of left bytes first (at + 1) (v + get_or bytes at 0 % 128 * scale) (scale * 128)))
    Ended

-- the number that begins at a place
abbrev pub read_of : List ℕ → ℕ → Found
read_of bytes first = groups_of GROUPS bytes first first 0 1

-- 01's refusals: 1 at the packet's length, 2 at its place; 0 where there is a number
abbrev pub refusal_of : List ℕ → Found → ℕ
refusal_of bytes (Number v next) = 0
refusal_of bytes Ended = 1
refusal_of bytes (Malformed place) = 2

abbrev pub place_of : List ℕ → Found → ℕ
place_of bytes (Number v next) = 0
place_of bytes Ended = length bytes
place_of bytes (Malformed place) = place
