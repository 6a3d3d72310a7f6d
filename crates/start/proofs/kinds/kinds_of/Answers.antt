use Rattle.start.specs.KindLaws.{ADDRESSES, entries}
use borrow.Author.Rules.{rules}
use Rattle.start.proofs.kinds.kinds_of.Goals as goal
use Rattle.start.proofs.kinds.kinds_of.Goals.{then-a-lt-ADDRESSES, else-a-lt-ADDRESSES}

pub overflow_add-kinds : goal.overflow_add-kinds
overflow_add-kinds c = search (entries, rules)

pub overflow_cast-kinds : goal.overflow_cast-kinds
overflow_cast-kinds c = search (entries, rules)

pub loop-base-preserved : goal.loop-base-preserved
unfolding ADDRESSES
loop-base-preserved c =
    elim c.if-a-lt-ADDRESSES.branch [ then-a-lt-ADDRESSES w ↦ rw w.kinds-is (search (entries, rules)) | else-a-lt-ADDRESSES w ↦ rw w.kinds-is (search (entries, rules)) ]

pub returns : goal.returns
returns c = search (entries, rules)
