use Rattle.std.proofs.Common.{◌∙◌}
use Rattle.start.specs.Start.{register_fault}
use Rattle.start.specs.SearchLaws.{required}
use Rattle.start.proofs.starts.Start.check_register.Goals as goal

pub returns : goal.returns
unfolding register_fault
returns c = required _ _ _ c.require.ensures ∙ cc
