use Rattle.lower_scratch.proofs.bodies.instr_fits.Goals as goal

pub returns : goal.returns
returns c = λ done. record {
  may = c.may_stand.ensures c.if-not-may_stand.false;
  reads = c.reads_fit.ensures c.if-not-reads_fit.false;
  next = c.next_fits.ensures c.if-not-next_fits.false;
  jump = c.jump_fits.ensures c.if-not-jump_fits.false;
  calls = c.call_fits.ensures done;
}
