use Rattle.std.proofs.Common.{◌-◌, ◌^◌, ◌<◌, length, arith}
use Rattle.port_files.proofs.ByteLemmas.{fits_below}
use Rattle.port_files.proofs.coding.little_endian.Goals as goal

pub overflow_mul-number : goal.overflow_mul-number
overflow_mul-number c =
    let small : c.loop-done.number < 256 ^ 7 =
    fits_below c.loop-done.number c.loop-done.done 7 c.loop-done.invariant.fits (omega arith) in
    omega arith

pub overflow_add-number : goal.overflow_add-number
overflow_add-number c =
    let small : c.loop-done.number < 256 ^ 7 =
    fits_below c.loop-done.number c.loop-done.done 7 c.loop-done.invariant.fits (omega arith) in
    omega (arith, c.type_inv.bytes (length c.args.bytes.now - 1 - c.loop-done.done))

pub returns-clause-fits : goal.returns-clause-fits
returns-clause-fits c =
    fits_below c.loop-done.number c.loop-done.done 8 c.loop-done.invariant.fits (omega arith)
