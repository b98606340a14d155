use Rattle.std.proofs.Common.{sym, subst, ◌∙◌}
use Rattle.cal_files.specs.Views.{file_names}
use Rattle.fnl_files.specs.SoFar.{IsTried, Trial, state_of, trial_of}
use Rattle.fnl_files.proofs.Known.{of_kind}
use Rattle.fnl_files.proofs.Taken.{missed_held, stops_held}
use Rattle.fnl_files.proofs.taking.take_file.Goals as goal

pub returns-in-Ok-false-clause-held : goal.returns-in-Ok-false-clause-held
returns-in-Ok-false-clause-held g c =
    let t : Trial = trial_of (g.L.Library.file c.args.library.now) (of_kind c.args.class.now c.args.network) (file_names c.args.names.now) in
    missed_held t c.args.missing (state_of c.args.loading.now) (state_of c.try_file.new.loading) _ (record { old = 0; new = 0 }) (file_names c.try_file.new.names)
    (sym c.has.ensures ∙ c.if-has.false)
    (subst (λ b. IsTried t (record { old = g.L.Library.misses c.args.library.now; new = g.L.Library.misses c.try_file.new.library })
    (file_names c.try_file.new.names) (state_of c.args.loading.now) (state_of c.try_file.new.loading) b) c.in-Ok-false.field-0-test c.in-Ok-false.ensures.tried)

pub returns-in-Err-clause-held : goal.returns-in-Err-clause-held
returns-in-Err-clause-held g c =
    stops_held (trial_of (g.L.Library.file c.args.library.now) (of_kind c.args.class.now c.args.network) (file_names c.args.names.now)) c.args.missing
    (state_of c.args.loading.now) _ _ (file_names c.try_file.new.names) c.in-Err.fault (sym c.has.ensures ∙ c.if-has.false) c.in-Err.ensures.stopped
