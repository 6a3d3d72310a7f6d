-- Any two results that meet the promise of `read` are equal: what it answers, and every word of the buffer. So are any two that meet that of `next`.
use Rattle.std.specs.Prelude.{ℕ, ◌≡◌, Option, Result, List}
use Rattle.std.proofs.Common.{sym, ap, ◌∙◌}
use Rattle.refusals.specs.declared.Refusal.{Refusal}
use Rattle.listing.specs.declared.grammar.Wanted.{Wanted}
use Rattle.listing.specs.declared.reading.ReadError.{ReadError}
use Rattle.listing.specs.Due.{due_in, due_unique}
use Rattle.listing.specs.Taken.{taken_in, taken_unique}
use Rattle.listing.specs.Grammar.{next_of}
use Rattle.listing.specs.Packet.{Reading, reading_of, packet_of}

pub read_unique : (packet numbers : List ℕ) (r r' : Result ℕ ReadError) (numbers₁ numbers₂ : List ℕ)
    → reading_of (taken_in r) numbers₁ ≡ packet_of packet numbers → reading_of (taken_in r') numbers₂ ≡ packet_of packet numbers → (r ≡ r') × (numbers₁ ≡ numbers₂)
read_unique packet numbers r r' numbers₁ numbers₂ p q =
    (taken_unique r r' (ap (λ (x : Reading). x.taken) (p ∙ sym q)), ap (λ (x : Reading). x.numbers) (p ∙ sym q))

pub next_unique : (wanted : Wanted) (n : ℕ) (r r' : Result (Option Wanted) Refusal) → due_in r ≡ next_of wanted n → due_in r' ≡ next_of wanted n → r ≡ r'
next_unique wanted n r r' p q = due_unique r r' (p ∙ sym q)
