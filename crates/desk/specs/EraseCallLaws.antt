-- Laws of vans_erase for the proofs of its code: one for each way through it.
use Rattle.std.specs.Prelude.{ℕ, ◌*◌, ◌/◌, ◌%◌, ◌^◌, ◌<◌, ◌≤◌, ◌≡◌, refl, length, take, drop, ltb}
use native.Mathlib.Omega.{arith}
use Rattle.std.proofs.Math.Path.{sym, ap}
use Rattle.std.proofs.Common.{◌∙◌, Fits}
use mathlib.Core.List.{List}
use Rattle.std.specs.Prelude.{replicate}
use Rattle.std.proofs.lemmas.List.{length-replicate}
use Rattle.choice.specs.Pick.{pick, is_less, not_less, is_equal, not_equal}
use Rattle.machine.specs.Numbers.{CODE_WORDS, BAD_SIZE}
use Rattle.listing.specs.Limits.{BYTES, ITEMS}
use Rattle.listing.specs.Parts.{items_in}
use Rattle.eraser.specs.Erase.{needed_of, erased_by, erase_of}
use Rattle.eraser.specs.Theorems.{needed_fits}
use Rattle.service.specs.Numbers.{DOES_NOT_FIT}
use Rattle.service.specs.Desk.{code_for}
use Rattle.service.specs.DeskLaws.{erased_count, erased_length, erased_front}
use Rattle.desk.specs.Answer.{answer_of}
use Rattle.desk.specs.PacketCall.{PacketCall, packet_call}
use Rattle.desk.specs.ReadCall.{handed_of}
use Rattle.desk.specs.EraseCall.{code_out, erased_out}

-- a code handed over: as words are, and 30 where it fits a ragged buffer
module _ (code out : List ℕ) where
  pub code_not : (c : PacketCall) → length out / 4 < length code → c ≡ handed_of code (length code) out → c ≡ code_out code out
  unfolding handed_of code_out
  code_not c h p = is_less (length out / 4) (length code) _ _ _ h (p ∙ sym (is_less (length out / 4) (length code) _ _ _ h refl))

  pub code_whole : (c : PacketCall) → length out % 4 ≡ 0 → c ≡ handed_of code (length code) out → c ≡ code_out code out
  unfolding handed_of code_out
  code_whole c r p =
      let too_few : PacketCall = packet_call (answer_of DOES_NOT_FIT (length code) 0) out in
      p ∙ ap (λ (w : PacketCall). pick (ltb (length out / 4) (length code)) too_few w) (is_equal (length out % 4) 0 _ _ _ r refl)

  pub code_ragged : (a : ℕ) → length code ≤ length out / 4 → (length out % 4 ≡ 0 → ⊥) → a ≡ answer_of BAD_SIZE 0 0 → packet_call a out ≡ code_out code out
  unfolding code_out
  code_ragged a h r p = not_less (length out / 4) (length code) _ _ _ h (not_equal (length out % 4) 0 _ _ _ r (ap (λ (x : ℕ). packet_call x out) p))

-- a code that a machine can hold is no more than a packet's numbers
pub code_few : (code : List ℕ) → length code ≤ CODE_WORDS → length code ≤ BYTES
unfolding CODE_WORDS
code_few code h = omega arith

pub ruleset handings = (refl, code_few, code_not, code_whole, code_ragged)

-- the code of a listing's numbers, erased into a room that is large enough
pub items_fit : ITEMS ≤ CODE_WORDS
unfolding CODE_WORDS
items_fit = omega arith

module _ (ns code code' : List ℕ) (n : ℕ) (whole : length code ≡ CODE_WORDS) (e : erased_by n code' ≡ erase_of ns code) where
  pub room_fits : needed_of (items_in ns) ≤ length code
  room_fits = omega (arith, needed_fits ns, items_fit)

  pub code_count : length code' ≡ length code → n ≤ length code'
  code_count = erased_count ns code code' n room_fits e

  pub code_is : length code' ≡ length code → n ≡ length (take n code')
  code_is = erased_length ns code code' n room_fits e

  pub code_within : length code' ≡ length code → length (take n code') ≤ CODE_WORDS
  code_within s = omega (arith, code_count s, code_is s)

  pub code_erased : (c : PacketCall) (out : List ℕ) → c ≡ code_out (take n code') out → c ≡ erased_out (items_in ns) out
  unfolding code_for
  code_erased c out p = p ∙ ap (λ (l : List ℕ). code_out l out) (erased_front ns code code' n room_fits e)

-- a room for the longest code
pub code_room : length (replicate {A = ℕ} 1024 0) ≡ CODE_WORDS
unfolding CODE_WORDS
code_room = length-replicate {A = ℕ} 1024 0

pub ruleset codes = (refl, code_room, code_count, code_is, code_within, code_erased)
