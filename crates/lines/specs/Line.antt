-- 01: "The checking program .. prints the line `ACCEPTED` or `REFUSED n AT p`, in decimal, with a newline."
use Rattle.std.specs.Prelude.{ℕ, ◌≤◌, ◌≡◌, List, [], ◌++◌, length, take, drop}
use Rattle.checker.specs.Checked.{Checked, Accepted, Refused, NoRoom}
use Rattle.checker.specs.Check.{check_of}
use Rattle.lines.specs.Text.{bytes_of}
use Rattle.lines.specs.Decimal.{decimal_of}

-- the line of a refusal
unfoldable pub refusal_of : ℕ → ℕ → List ℕ
refusal_of n p = bytes_of "REFUSED " ++ decimal_of n ++ bytes_of " AT " ++ decimal_of p ++ bytes_of "\n"

-- the line of a verdict. A packet's verdict is never NoRoom (`packet_has_line` in Theorems), which has no line
unfoldable pub line_of : Checked → List ℕ
line_of (Accepted n) = bytes_of "ACCEPTED\n"
line_of (Refused n p) = refusal_of n p
line_of NoRoom = []

-- what a call that writes to a buffer leaves: the place behind what it wrote, and the buffer's bytes
pub record Written : Type 0 where
  pub end : ℕ
  pub out : List ℕ

abbrev pub written : ℕ → List ℕ → Written
written end out = record { end = end; out = out }

-- a text in front of a buffer, whose other bytes keep their values
abbrev pub in_front : List ℕ → List ℕ → Written
in_front text out = written (length text) (text ++ drop (length text) out)

-- the line of a packet, in front of a buffer
unfoldable pub line_in : List ℕ → List ℕ → Written
line_in packet out = in_front (line_of (check_of packet)) out

-- n bytes in front of a buffer. The second part follows from the first, and is what the part `[..n]` of a buffer asks for
abbrev pub Front : ℕ → List ℕ → Type 0
Front n out = (n ≤ length out) × (n ≡ length (take n out))

-- no line has more bytes: a number of three digits, a place of twenty
abbrev pub LONGEST : ℕ
LONGEST = 36
