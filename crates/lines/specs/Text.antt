-- A text's characters as bytes. All that is written here is ASCII, where a character is its byte.
use Rattle.std.specs.Prelude.{ℕ}
use Prim.Native.Char.{code}
use Prim.Native.String.{String, [], ◌∷◌}
use mathlib.Core.List as list

abbrev pub bytes_of : String → list.List ℕ
bytes_of [] = list.[]
bytes_of (c ∷ text) = list.◌∷◌ (code c) (bytes_of text)
