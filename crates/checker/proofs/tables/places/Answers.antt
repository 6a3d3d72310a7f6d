use Rattle.std.proofs.Common.{refl, arith, rules}
use Rattle.checker.specs.Tables.{table_turn, table_end}
use Rattle.checker.proofs.tables.places.Goals as goal

pub loop-k-preserved : goal.loop-k-preserved
loop-k-preserved g c = (
  table_turn _ c.loop-k.table (g.P.Part.next c.args.numbers.now) c.loop-k.at c.loop-k.k c.args.n c.loop-k.invariant.0 _ c.behind-at.result
      c.loop-k-test.true refl c.behind-at.ensures.value,
  omega arith,
  search rules,
)

pub returns : goal.returns
returns g c = table_end _ c.loop-k.table (g.P.Part.next c.args.numbers.now) c.loop-k.at c.loop-k.k c.args.n c.loop-k.invariant.0 c.loop-k-test.false
