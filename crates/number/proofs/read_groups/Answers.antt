use Rattle.number.specs.Number.{GROUPS}
use Rattle.number.specs.NumberLaws.{groups, goes_on, at_last, scale_next, scale_fits, group_below}
use Rattle.std.proofs.Common.{◌+◌, ◌-◌, ◌<◌, ◌≤◌, ◌≡◌, arith}
use lib.ListN.{length, get_or}
use Rattle.std.proofs.lemmas.Grind.{common_steps}
use Rattle.std.proofs.lemmas.Option.{gets}
use borrow.Author.Rules.{rules}
use Rattle.number.proofs.read_groups.Goals as goal

pub loop-init : goal.loop-init
loop-init c = search (groups, rules)

pub last-requires-clause-scale_bound : goal.last-requires-clause-scale_bound
last-requires-clause-scale_bound c = search (scale_fits, rules)

pub with_group-value-requires-clause-scale_bound : goal.with_group-value-requires-clause-scale_bound
with_group-value-requires-clause-scale_bound c = search (scale_fits, rules)

pub overflow_mul-scale : goal.overflow_mul-scale
overflow_mul-scale c = search (groups, rules)

pub loop-preserved : goal.loop-preserved
loop-preserved c =
    let one_less : GROUPS - c.loop.counter ≡ GROUPS - (c.loop.counter + 1) + 1 = omega arith in
    let here : c.loop.at < length c.args.bytes.now = grind (arith, common_steps, gets) in
    let byte : c.in-Some.field-0.now ≡ get_or c.args.bytes.now c.loop.at 0 = grind (arith, common_steps, gets) in
    (grind (arith, goes_on), omega arith, search (scale_next, rules), search (group_below, rules))

pub returns-then-b-lt-CONTINUES : goal.returns-then-b-lt-CONTINUES
returns-then-b-lt-CONTINUES c =
    let one_more : 0 < GROUPS - c.loop.counter = omega arith in
    let here : c.loop.at < length c.args.bytes.now = grind (arith, common_steps, gets) in
    let byte : c.in-Some.field-0.now ≡ get_or c.args.bytes.now c.loop.at 0 = grind (arith, common_steps, gets) in
    grind (arith, at_last)

pub returns-in_default : goal.returns-in_default
returns-in_default c =
    let one_more : 0 < GROUPS - c.loop.counter = omega arith in
    let past : length c.args.bytes.now ≤ c.loop.at = grind (arith, common_steps, gets) in
    search (groups, rules)

pub returns : goal.returns
returns c = let none_more : GROUPS - c.loop.counter ≤ 0 = omega arith in search (groups, rules)
