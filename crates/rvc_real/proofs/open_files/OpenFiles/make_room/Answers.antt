use Rattle.rvc_real.proofs.open_files.OpenFiles.make_room.Goals as goal

pub returns-clause-same_open : goal.returns-clause-same_open
returns-clause-same_open g c = λ other. rw (← c.self.view_is) (c.add_closed.ensures.same_open other)
