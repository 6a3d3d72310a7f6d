-- `read_in` goes by what the packet is.
use Rattle.std.proofs.Common.{refl}
use Rattle.std.proofs.lemmas.Result.{err_from_is_err_and}
use Rattle.desk.specs.DoneLaws.{unread_answer, unread_near}
use Rattle.desk.specs.ReadCallLaws.{count_in_room, error_near, reads_unread}
use Rattle.desk.proofs.packet_calls.read_in.Goals as goal

pub slice_bounds-hand_over-end : goal.slice_bounds-hand_over-end
slice_bounds-hand_over-end c = count_in_room _ _ _ _ c.in_ok-n.ensures c.requires.packet_len_bound c.requires.packet_in_bounds _ refl c.read.auto.numbers

pub returns-in_err-n-clause-handed : goal.returns-in_err-n-clause-handed
returns-in_err-n-clause-handed c =
    let p = err_from_is_err_and c.from_residual.result c.from_residual.ensures.1 in
    rw (p.1, p.2) (reads_unread _ _ _ _ _ _ c.in_err-n.ensures c.requires.packet_len_bound c.requires.packet_in_bounds _ _ refl (unread_answer c.in_err-n.field-0.0 _ refl) refl)

pub returns-in_err-n-clause-near : goal.returns-in_err-n-clause-near
returns-in_err-n-clause-near c =
    let p = err_from_is_err_and c.from_residual.result c.from_residual.ensures.1 in
    rw (p.1, p.2) (unread_near c.in_err-n.field-0.0 _ refl (error_near _ _ _ _ c.in_err-n.ensures c.requires.packet_len_bound c.requires.packet_in_bounds _ refl))
