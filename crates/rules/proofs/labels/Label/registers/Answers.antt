use Rattle.rules.specs.HeldLaws.{listed_turn, listed_all}
use borrow.Author.Rules.{rules}
use Rattle.rules.proofs.labels.Label.registers.Goals as goal

pub loop-i-preserved : goal.loop-i-preserved
loop-i-preserved c = listed_turn _ _ _ _ _ _ _ _ _ c.set_slot.ensures c.loop-i.invariant c.number_at-in-loop-i.ensures c.listed_slot.ensures (search rules)

pub returns : goal.returns
returns c = listed_all _ _ _ _ _ _ c.loop-i.invariant (search rules)
