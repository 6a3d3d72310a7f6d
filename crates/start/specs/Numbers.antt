-- 01, "Refusal numbers": the start's refusals, each named once; the code names them by crate refusals.
use Rattle.std.specs.Prelude.{ℕ}

abbrev pub BAD_ROW : ℕ
BAD_ROW = 31

abbrev pub BAD_FIELD : ℕ
BAD_FIELD = 32

abbrev pub BAD_REGISTER : ℕ
BAD_REGISTER = 33
