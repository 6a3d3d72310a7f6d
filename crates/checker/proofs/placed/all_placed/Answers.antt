-- `all_placed` asks each of the first n labels.
use Rattle.std.proofs.Common.{◌∙◌, rules, arith}
use borrow.Author.Tests.{tests}
use lib.ListN.{take}
use Rattle.std.proofs.lemmas.Iterator.{YieldsList-from_slice}
use Rattle.std.proofs.lemmas.Iterator.Search.{all_from_yields_List}
use Rattle.checker.specs.WalkLaws.{placed_each}
use Rattle.checker.proofs.placed.all_placed.Goals as goal

pub returns : goal.returns
returns c =
    all_from_yields_List (λ p. p) _ _ c.all.result c.all.ensures.ran
    (YieldsList-from_slice (take c.args.n c.args.placed) (cc))
    (λ x b q k. search (rules, tests))
    ∙ placed_each c.args.placed 0 c.args.n (omega (arith, c.well_formed))
