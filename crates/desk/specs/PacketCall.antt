-- What a call on a packet leaves: its answer, and the bytes of the buffer that is lent to be written.
use Rattle.std.specs.Prelude.{ℕ, List}

pub record PacketCall : Type 0 where
  pub answer : ℕ
  pub out : List ℕ

abbrev pub packet_call : ℕ → List ℕ → PacketCall
packet_call answer out = record { answer = answer; out = out }
