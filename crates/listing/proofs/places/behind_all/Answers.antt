use Rattle.std.proofs.Common.{◌*◌, ◌≤◌, mul-le-mul, le_refl, arith}
use borrow.Author.Rules.{rules}
use Rattle.listing.specs.Parts.{behind}
use Rattle.listing.specs.PlaceLaws.{behind_more}
use Rattle.listing.proofs.places.behind_all.Goals as goal

pub loop-init : goal.loop-init
unfolding behind
loop-init g c = search rules

pub behind-at-requires : goal.behind-at-requires
behind-at-requires g c = let below : g.P.Part.most * c.loop.counter ≤ g.P.Part.most * c.args.n = mul-le-mul (le_refl _) (omega arith) in omega arith

pub loop-preserved : goal.loop-preserved
loop-preserved g c = (cc (behind_more (g.P.Part.next c.args.numbers.now) c.args.first c.loop.counter), omega arith)
