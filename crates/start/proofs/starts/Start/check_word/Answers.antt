use Rattle.std.proofs.Common.{◌∙◌}
use Rattle.start.specs.Start.{word_fault}
use Rattle.start.specs.SearchLaws.{required}
use Rattle.start.proofs.starts.Start.check_word.Goals as goal

pub returns : goal.returns
unfolding word_fault
returns c = required _ _ _ c.require.ensures ∙ cc
