-- `registers` copies the whole buffer.
use Rattle.std.specs.Prelude.{◌≡◌, length, take}
use native.Mathlib.Omega.{arith}
use Rattle.std.proofs.Common.{sym, ap, ◌∙◌, take_all, append-nil}
use Rattle.desk.proofs.run_call.registers.Goals as goal

pub slice_bounds-fill-end : goal.slice_bounds-fill-end
slice_bounds-fill-end c = sym (ap length (take_all 64 c.args.regs.now (omega (arith, c.requires))) ∙ c.requires)

pub returns : goal.returns
returns c =
    let whole : take 64 c.args.regs.now ≡ c.args.regs.now = take_all 64 c.args.regs.now (omega (arith, c.requires)) in
    c.fill.ensures ∙ rw (whole, c.requires) (append-nil _)
