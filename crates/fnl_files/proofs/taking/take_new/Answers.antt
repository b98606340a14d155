use Rattle.std.proofs.Common.{subst, true}
use Rattle.cal_files.specs.Views.{file_names}
use Rattle.fnl_files.specs.SoFar.{IsTried, state_of, trial_of}
use Rattle.fnl_files.proofs.Known.{of_kind}
use Rattle.fnl_files.proofs.Taken.{new_added, new_halts, new_other, new_stops}
use Rattle.fnl_files.proofs.taking.take_new.Goals as goal

pub returns-in-Ok-true-clause-taken : goal.returns-in-Ok-true-clause-taken
returns-in-Ok-true-clause-taken g c =
    new_added (g.L.Library.file c.args.library.now) c.args.class.now c.args.missing _ (file_names c.args.names.now) (file_names c.try_file.new.names)
    (state_of c.args.loading.now) (state_of c.try_file.new.loading) c.requires.unread c.requires.untried
    (subst (λ b. IsTried (trial_of (g.L.Library.file c.args.library.now) (of_kind c.args.class.now true) (file_names c.args.names.now))
    (record { old = g.L.Library.misses c.args.library.now; new = g.L.Library.misses c.try_file.new.library }) (file_names c.try_file.new.names) (state_of c.args.loading.now) (state_of c.try_file.new.loading) b)
    c.in-Ok-true.field-0-test c.in-Ok-true.ensures.tried)

pub returns-in-Ok-false-clause-taken : goal.returns-in-Ok-false-clause-taken
returns-in-Ok-false-clause-taken g c =
    let missed = subst (λ b. IsTried (trial_of (g.L.Library.file c.args.library.now) (of_kind c.args.class.now true) (file_names c.args.names.now))
    (record { old = g.L.Library.misses c.args.library.now; new = g.L.Library.misses c.try_file.new.library }) (file_names c.try_file.new.names) (state_of c.args.loading.now) (state_of c.try_file.new.loading) b)
    c.in-Ok-false.field-0-test c.in-Ok-false.ensures.tried in
    new_other c.take_actor.result (g.L.Library.file c.args.library.now) (g.L.Library.file c.try_file.new.library) c.args.class.now c.args.missing
    (g.L.Library.misses c.args.library.now) (g.L.Library.misses c.try_file.new.library) (g.L.Library.misses c.take_actor.new.library)
    (file_names c.args.names.now) (file_names c.try_file.new.names) (file_names c.take_actor.new.names)
    (state_of c.args.loading.now) (state_of c.try_file.new.loading) (state_of c.take_actor.new.loading) c.requires.unread c.take_actor.ensures.misses_stay
    missed c.try_file.ensures.same_files c.take_actor.ensures.taken

pub returns-in-Ok-false-clause-halted : goal.returns-in-Ok-false-clause-halted
returns-in-Ok-false-clause-halted g c =
    let missed = subst (λ b. IsTried (trial_of (g.L.Library.file c.args.library.now) (of_kind c.args.class.now true) (file_names c.args.names.now))
    (record { old = g.L.Library.misses c.args.library.now; new = g.L.Library.misses c.try_file.new.library }) (file_names c.try_file.new.names) (state_of c.args.loading.now) (state_of c.try_file.new.loading) b)
    c.in-Ok-false.field-0-test c.in-Ok-false.ensures.tried in
    new_halts c.take_actor.result (g.L.Library.file c.args.library.now) (g.L.Library.file c.try_file.new.library) c.args.class.now c.args.missing
    (g.L.Library.misses c.args.library.now) (g.L.Library.misses c.try_file.new.library) (g.L.Library.misses c.take_actor.new.library)
    (g.L.Library.faults c.args.library.now) (g.L.Library.faults c.try_file.new.library) (g.L.Library.faults c.take_actor.new.library)
    (file_names c.args.names.now) (file_names c.try_file.new.names) (file_names c.take_actor.new.names)
    (state_of c.args.loading.now) (state_of c.try_file.new.loading) c.requires.unread c.take_actor.ensures.misses_stay
    missed c.try_file.ensures.same_files c.try_file.ensures.misses_stay c.try_file.ensures.faults_stay c.take_actor.ensures.held

pub returns-in-Err-clause-halted : goal.returns-in-Err-clause-halted
returns-in-Err-clause-halted g c =
    new_stops (g.L.Library.file c.args.library.now) c.args.class.now c.args.missing _ _ (file_names c.args.names.now) (file_names c.try_file.new.names)
    (state_of c.args.loading.now) c.in-Err.fault c.requires.unread c.requires.untried c.in-Err.ensures.stopped
