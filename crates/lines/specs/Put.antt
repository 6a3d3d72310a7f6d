-- A text put into a buffer from a place on, byte by byte: what the functions below `line` do. A byte past the buffer's end is dropped.
use Rattle.std.specs.Prelude.{ℕ, ◌+◌, ◌^◌, List, length}
use Rattle.std.proofs.lemmas.List.Edits.{sets}
use Rattle.lines.specs.Line.{Written, written}

unfoldable pub put_of : List ℕ → ℕ → List ℕ → Written
put_of out at text = written (at + length text) (sets out at text)

-- no text reaches so far; a sum of such places fits
abbrev pub FAR : ℕ
FAR = 2 ^ 32
