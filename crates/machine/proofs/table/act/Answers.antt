-- The arms of `act` that the rule set on it leaves: an operation with an immediate, by its number.
use Rattle.std.proofs.Common.{◌≡◌, ℕ, ◌-◌, ◌<◌, ◌≤◌, List, length, get_or}
use borrow.Author.Rules.{rules}
use Rattle.machine.specs.Word.{opcode_of, compute_immediate_in}
use Rattle.machine.specs.WordLaws.{op_compute_immediate_at}
use Rattle.machine.specs.Step.{Machine, does_of, act_of}
use Rattle.machine.specs.TableLaws.{as_kind, acts}
use Rattle.machine.proofs.table.act.Goals as goal

immediate : (op k v pc : ℕ) (code regs heap : List ℕ) (r : Machine) → v ≡ opcode_of (get_or code pc 0) → v ≡ k → op ≡ k - 5 → 10 ≤ k → k < 15 → pc < length code
    → r ≡ does_of (compute_immediate_in op (get_or code pc 0)) regs pc heap → r ≡ act_of code regs pc heap
immediate op k v pc code regs heap r e z a g l h p = acts code regs pc heap r h (as_kind regs pc heap r _ _ (op_compute_immediate_at v _ (get_or code pc 0) e op k z a g l) p)

pub returns-in-11 : goal.returns-in-11
returns-in-11 c = search (immediate, c.compute_immediate-in-11.ensures, rules)

pub returns-in-12 : goal.returns-in-12
returns-in-12 c = search (immediate, c.compute_immediate-in-12.ensures, rules)

pub returns-in-13 : goal.returns-in-13
returns-in-13 c = search (immediate, c.compute_immediate-in-13.ensures, rules)
