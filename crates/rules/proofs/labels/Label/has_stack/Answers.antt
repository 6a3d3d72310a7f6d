-- `has_stack` compares each label with the number in its place.
use Rattle.std.proofs.Common.{◌∙◌, ◌+◌, rules}
use Rattle.std.specs.Prelude.{eqb}
use borrow.Author.Tests.{tests}
use Rattle.std.proofs.lemmas.Iterator.{YieldsList-from_slice}
use Rattle.std.proofs.lemmas.Iterator.Consumers.{YieldsList-from_enumerate}
use Rattle.std.proofs.lemmas.Iterator.Search.{all_from_yields_List}
use Rattle.listing.specs.Parts.{number_at}
use Rattle.rules.specs.HeldLaws.{same_each, same_stack}
use Rattle.rules.proofs.labels.Label.has_stack.Goals as goal

pub returns-then-labels-depth : goal.returns-then-labels-depth
returns-then-labels-depth c =
    all_from_yields_List (λ p. eqb p.1 (number_at c.args.self.numbers.now (c.args.self.place + 2 + p.0))) _ _ c.all.result c.all.ensures.ran
    (YieldsList-from_enumerate (YieldsList-from_slice c.args.labels.now (cc)) (cc))
    (λ x b q k. search (rules, tests))
    ∙ same_each c.args.labels.now c.args.self.numbers.now (c.args.self.place + 2) 0
    ∙ same_stack c.args.labels.now c.args.self.numbers.now c.args.self.place c.depth.result c.depth.ensures c.if-labels-depth.true
