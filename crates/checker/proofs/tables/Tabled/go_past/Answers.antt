-- `go_past`: a push that is not refused has room.
use Rattle.checker.specs.RowLaws.{push_room}
use Rattle.checker.proofs.tables.Tabled.go_past.Goals as goal

pub push-requires : goal.push-requires
push-requires c = push_room _ _ _ _ _ c.in-Cpush.is c.requires
