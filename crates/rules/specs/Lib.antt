-- The current context and the typing rules. To believe them, read Numbers, Context and Rules; the rest is for the proofs of the code.
pub mod Numbers  -- refusals, each named once
pub mod Context  -- the current context
pub mod Rules  -- for each item its premises in the table's order, and the context behind it
pub mod Held  -- how the code holds a context, and a label's
pub mod HeldLaws  -- for the proofs of its code
