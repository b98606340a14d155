use Rattle.std.proofs.Common.{rules, arith}
use Rattle.code_ir.specs.Code.{code_of}
use Rattle.code_ir.proofs.Tables.{unfit-here, fit-more, fit-all}
use Rattle.code_ir.proofs.lines.first_unfit.Goals as goal

pub loop-p-init : goal.loop-p-init
loop-p-init c = λ p i h g. absurd (omega arith)

pub loop-p-preserved : goal.loop-p-preserved
loop-p-preserved c = fit-more (code_of c.args.code.now) c.loop-p.p c.fits_alone.result c.loop-p.invariant c.fits_alone.ensures (search rules)

pub returns-then-not-fits_alone : goal.returns-then-not-fits_alone
returns-then-not-fits_alone c =
    unfit-here (code_of c.args.code.now) c.loop-p.p c.fits_alone.result (omega arith) c.fits_alone.ensures (search rules)

pub returns : goal.returns
returns c = fit-all (code_of c.args.code.now) _ c.loop-p.invariant (omega arith)
