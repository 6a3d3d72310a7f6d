-- `over_rooms`: the rooms hold the words of the buffers.
use Rattle.desk.specs.ByteLaws.{front_words}
use Rattle.desk.specs.WorkLaws.{both_fit}
use Rattle.desk.proofs.buffers.over_rooms.Goals as goal

pub over_words-requires-clause-table : goal.over_words-requires-clause-table
over_words-requires-clause-table g c = front_words _ _ _ c.fill.ensures

pub over_words-requires-clause-heap : goal.over_words-requires-clause-heap
over_words-requires-clause-heap g c = front_words _ _ _ c.fill-2.ensures

pub over_words-requires-clause-fitting : goal.over_words-requires-clause-fitting
over_words-requires-clause-fitting g c = both_fit _ _ _ _ _ _ _ c.requires.whole c.fill.ensures c.fill-2.ensures
