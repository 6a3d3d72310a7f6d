-- How the code holds a context: a stack is the cells from its top on. How it holds a label's: by its place among a listing's numbers.
use Rattle.std.specs.Prelude.{List, ℕ, ◌^◌, drop}
use Rattle.listing.specs.Listing.{LabelContext}
use Rattle.listing.specs.Parts.{label_at}
use Rattle.rules.specs.declared.stacks.Stack.{Stack}
use Rattle.rules.specs.declared.labels.Label.{Label}
use Rattle.rules.specs.declared.contexts.Held.{Held}
use Rattle.rules.specs.Context.{Context, context_of}

abbrev pub stack_in : Stack → List ℕ
stack_in s = drop s.top s.cells

abbrev pub context_in : Held → Context
context_in h = context_of h.level (stack_in h.stack) h.registers

abbrev pub label_in : Label → LabelContext
label_in t = label_at t.numbers.now t.place

-- a place to which a few numbers can be added
abbrev pub NEAR : ℕ
NEAR = 2 ^ 33
