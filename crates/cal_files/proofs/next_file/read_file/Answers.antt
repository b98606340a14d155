use Rattle.cal_files.proofs.next_file.read_file.Goals as goal

pub returns-in-Err-clause-stopped : goal.returns-in-Err-clause-stopped
returns-in-Err-clause-stopped g c = c.in-Err.ensures.stopped c.args.loading.now.bytes
