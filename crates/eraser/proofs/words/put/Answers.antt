-- `put` goes by whether the item has a word: each way is a law.
use Rattle.eraser.specs.PassLaws.{has_room, word_counts, none_counts, puts, puts_not}
use borrow.Author.Rules.{rules}
use Rattle.eraser.proofs.words.put.Goals as goal

pub bounds-code-count : goal.bounds-code-count
bounds-code-count c = has_room c.args.addresses.now c.args.item c.args.count c.in-Some.w c.in-Some.ensures _ c.requires.room

pub returns-in-Some-clause-value : goal.returns-in-Some-clause-value
returns-in-Some-clause-value c = word_counts c.args.addresses.now c.args.item c.args.count c.in-Some.w c.in-Some.ensures

pub returns-in-Some-clause-written : goal.returns-in-Some-clause-written
returns-in-Some-clause-written c = search (puts, rules)

pub returns-in-None-clause-value : goal.returns-in-None-clause-value
returns-in-None-clause-value c = none_counts c.args.addresses.now c.args.item c.args.count c.in-None.ensures

pub returns-in-None-clause-written : goal.returns-in-None-clause-written
returns-in-None-clause-written c = search (puts_not, rules)
