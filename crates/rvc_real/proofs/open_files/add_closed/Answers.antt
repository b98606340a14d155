use Rattle.rvc_real.proofs.open_files.add_closed.Goals as goal

pub returns-in_err-push-clause-same_open : goal.returns-in_err-push-clause-same_open
returns-in_err-push-clause-same_open g c = λ other. rw c.in_err-push.ensures.items (c.loop-number.invariant.same other)
