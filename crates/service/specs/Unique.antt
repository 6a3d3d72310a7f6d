-- Any two results that meet the promise of `serve` are equal: the answer, and every word of code and heap.
use Rattle.std.specs.Prelude.{ℕ, ◌≡◌, List, Result, Ok, Err, length}
use Rattle.std.proofs.Common.{sym, ap, ◌∙◌}
use Rattle.refusals.specs.declared.Fault.{Fault}
use Rattle.refusals.specs.RefusalLaws.{verdict_unique}
use Rattle.service.specs.declared.serving.Served.{Served}
use Rattle.service.specs.Desk.{Service, DeskCall, desk_call, desk_of}
use Rattle.service.specs.Served.{service_in, fault_in, desk_fault}

pub desk_unique : (packet code heap blocks regs : List ℕ) (budget : ℕ) (r r' : Service) (code₁ code₂ heap₁ heap₂ : List ℕ)
    → desk_call r code₁ heap₁ ≡ desk_of packet code heap blocks regs budget → desk_call r' code₂ heap₂ ≡ desk_of packet code heap blocks regs budget
    → (r ≡ r') × (code₁ ≡ code₂) × (heap₁ ≡ heap₂)
desk_unique packet code heap blocks regs budget r r' code₁ code₂ heap₁ heap₂ p q =
    (ap (λ (c : DeskCall). c.answer) (p ∙ sym q), ap (λ (c : DeskCall). c.code) (p ∙ sym q), ap (λ (c : DeskCall). c.heap) (p ∙ sym q))

-- and so with the code's own answers, refusals with them
same_served : (s s' : Served) (regs : List ℕ) → service_in (Ok s) regs ≡ service_in (Ok s') regs → s ≡ s'
same_served s s' regs e i = record { status = (e i).number; count = (e i).count; regs = (e i).regs }

answer_unique : (r r' : Result Served Fault) (regs : List ℕ) → service_in r regs ≡ service_in r' regs → fault_in r ≡ fault_in r' → r ≡ r'
answer_unique (Ok s) (Ok s') regs e f = ap Ok (same_served s s' regs e)
answer_unique (Ok s) (Err x) regs e f = let z : Ok (tt {0}) ≡ Err x = verdict_unique (Ok tt) (Err x) f in cc
answer_unique (Err x) (Ok s) regs e f = let z : Err x ≡ Ok (tt {0}) = verdict_unique (Err x) (Ok tt) f in cc
answer_unique (Err x) (Err y) regs e f = let z : ◌≡◌ {A = Result (Unit {0}) Fault} (Err x) (Err y) = verdict_unique (Err x) (Err y) f in cc

pub serve_unique : (packet code heap blocks regs : List ℕ) (budget : ℕ) (r r' : Result Served Fault) (code₁ code₂ heap₁ heap₂ : List ℕ)
    → desk_call (service_in r regs) code₁ heap₁ ≡ desk_of packet code heap blocks regs budget → fault_in r ≡ desk_fault packet (length code) heap blocks regs budget
    → desk_call (service_in r' regs) code₂ heap₂ ≡ desk_of packet code heap blocks regs budget → fault_in r' ≡ desk_fault packet (length code) heap blocks regs budget
    → (r ≡ r') × (code₁ ≡ code₂) × (heap₁ ≡ heap₂)
serve_unique packet code heap blocks regs budget r r' code₁ code₂ heap₁ heap₂ p f q g =
    let same = desk_unique packet code heap blocks regs budget (service_in r regs) (service_in r' regs) code₁ code₂ heap₁ heap₂ p q in
    (answer_unique r r' regs same.0 (f ∙ sym g), same.1, same.2)
