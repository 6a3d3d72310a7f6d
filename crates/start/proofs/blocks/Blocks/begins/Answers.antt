-- `begins`: some row is the one that is looked for.
use Rattle.std.proofs.Common.{◌∙◌}
use Rattle.std.proofs.lemmas.Iterator.{YieldsList-from_slice}
use Rattle.std.proofs.lemmas.Iterator.Search.{any_from_yields_List}
use Rattle.start.specs.Start.{row_at, is_row}
use Rattle.start.specs.PairLaws.{any_row}
use Rattle.std.proofs.Common.{ℕ, List}
use borrow.Author.Tests.{tests}
use Rattle.choice.specs.Pick.{cases}
use borrow.Author.Rules.{rules}
use Rattle.start.proofs.blocks.Blocks.begins.Goals as goal

pub returns : goal.returns
unfolding is_row
returns c =
    any_from_yields_List (λ (p : List ℕ). is_row c.args.a c.args.s (row_at p 0)) _ _ _ c.any.ensures.ran (YieldsList-from_slice c.args.self.now.rows.now cc) (λ x b q k. search (cases, rules, tests))
    ∙ any_row (is_row c.args.a c.args.s) c.args.self.now.rows.now
