-- `serve` goes by what the checker says: each way is a law.
use Rattle.std.proofs.Common.{◌≡◌, ℕ, List, length, arith, ap, refl, ◌∙◌}
use Rattle.std.proofs.Math.ListN.{replicate}
use Rattle.std.proofs.lemmas.List.{length-replicate}
use Rattle.std.proofs.lemmas.Result.{err_from_is_err_and}
use Rattle.listing.specs.Limits.{BYTES}
use Rattle.service.specs.DeskLaws.{desk_too_long, desk_accepted, desk_unread, room_front, room_front_is}
use Rattle.service.proofs.serving.serve.Goals as goal

-- the room has a word for each byte of a packet
whole : (room : List ℕ) → room ≡ replicate BYTES 0 → length room ≡ BYTES
whole room e = ap length e ∙ length-replicate {A = ℕ} BYTES 0

pub returns-then-packet-gt-BYTES : goal.returns-then-packet-gt-BYTES
returns-then-packet-gt-BYTES c = let a = desk_too_long _ _ _ _ _ _ c.if-packet-gt-BYTES.true in record { served = a.0; refused = a.1 }

pub slice_bounds-room-end : goal.slice_bounds-room-end
slice_bounds-room-end c = room_front _ c.args.code.now c.args.heap.now c.args.blocks.now c.args.regs c.args.budget _ _ _ c.in_ok-n.ensures (omega arith) (whole _ c.longest_room-room.ensures) _ refl c.check.auto.room

pub slice_bounds-serve_numbers-end : goal.slice_bounds-serve_numbers-end
slice_bounds-serve_numbers-end c = room_front_is _ c.args.code.now c.args.heap.now c.args.blocks.now c.args.regs c.args.budget _ _ _ c.in_ok-n.ensures (omega arith) (whole _ c.longest_room-room.ensures) _ refl c.check.auto.room

pub returns-in_err-n : goal.returns-in_err-n
returns-in_err-n c =
    let p = err_from_is_err_and c.from_residual.result c.from_residual.ensures.1 in
    let a = desk_unread _ c.args.code.now c.args.heap.now c.args.blocks.now c.args.regs c.args.budget _ _ _ c.in_err-n.ensures (omega arith) (whole _ c.longest_room-room.ensures) c.in_err-n.field-0.0 refl in
    rw (p.1, p.2) (record { served = a.0; refused = a.1 })

pub returns : goal.returns
returns c =
    let a = desk_accepted _ c.args.code.now c.args.heap.now c.args.blocks.now c.args.regs c.args.budget _ _ _ c.in_ok-n.ensures (omega arith) (whole _ c.longest_room-room.ensures) _ _ _ refl c.serve_numbers.ensures.served c.serve_numbers.ensures.refused in
    record { served = a.0; refused = a.1 }
