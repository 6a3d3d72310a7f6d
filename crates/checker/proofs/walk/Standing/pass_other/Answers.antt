-- `pass_other`: the block, the context and what is placed are those behind the item.
use Rattle.rules.specs.Held.{context_in}
use Rattle.listing.specs.Parts.{shapes_in, labels_in}
use Rattle.checker.specs.BlockLaws.{other_behind}
use Rattle.checker.proofs.walk.Standing.pass_other.Goals as goal

pub returns-clause-behind : goal.returns-clause-behind
returns-clause-behind c =
    let s = c.args.self.now in
    let ns = c.args.listing.now.numbers.now in
    other_behind (shapes_in ns) (labels_in ns) s.block (context_in s.held) s.placed c.args.item c.requires c.after-self.ensures c.go_past.ensures
