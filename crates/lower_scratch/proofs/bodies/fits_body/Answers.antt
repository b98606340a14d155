use Rattle.lower_scratch.proofs.bodies.fits_body.Goals as goal

pub returns : goal.returns
returns c = λ done. record { some = c.if-body.false; each = c.all_fit.ensures done }
