-- `is_met` asks each register that the label lists.
use Rattle.std.proofs.Common.{refl, ◌∙◌, ◌+◌, ◌*◌, rules, arith}
use borrow.Author.Tests.{tests}
use Rattle.std.proofs.lemmas.Iterator.{YieldsList-from_range}
use Rattle.std.proofs.lemmas.Iterator.Search.{all_from_yields_List}
use Rattle.listing.specs.Parts.{register_at}
use Rattle.rules.specs.Context.{meets}
use Rattle.rules.specs.HeldLaws.{met_each, met_whole}
use Rattle.rules.proofs.labels.Label.is_met.Goals as goal

pub returns : goal.returns
returns c =
    let place = c.registers_place-place.result in
    let n = c.at_most-n.result in
    all_from_yields_List (λ i. meets c.args.registers.now (register_at c.args.self.numbers.now (place + 1 + 3 * i))) _ _ c.all.result c.all.ensures.ran
    (YieldsList-from_range 0 _ n refl (omega arith))
    (λ x b q k. search (rules, tests))
    ∙ met_each c.args.registers.now c.args.self.numbers.now (place + 1) 0 n
    ∙ met_whole c.args.registers.now c.args.self.numbers.now c.args.self.place place n c.registers_place-place.ensures.value (cc)
