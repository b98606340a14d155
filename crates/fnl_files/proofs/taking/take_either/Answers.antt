use Rattle.std.proofs.Common.{false, sym, ◌∙◌}
use Rattle.cal_files.specs.Loading.{Counts}
use Rattle.cal_files.specs.Views.{file_names}
use Rattle.fnl_files.specs.SoFar.{means_missed, state_of}
use Rattle.fnl_files.proofs.Known.{of_kind}
use Rattle.fnl_files.proofs.Taken.{either_known, either_of, halts_one, takes_one}
use Rattle.fnl_files.proofs.taking.take_either.Goals as goal

pub returns-then-has-clause-taken : goal.returns-then-has-clause-taken
returns-then-has-clause-taken g c =
    let misses : Counts = record { old = g.L.Library.misses c.args.library.now; new = g.L.Library.misses c.take_file.new.library } in
    takes_one c.take_file.result (g.L.Library.file c.args.library.now) (either_of c.args.class.now c.args.missing) misses (of_kind c.args.class.now false) (state_of c.args.loading.now)
    (file_names c.args.names.now) (file_names c.take_file.new.names) (state_of c.args.loading.now) (state_of c.take_file.new.loading)
    (means_missed c.args.class.now (sym c.has.ensures ∙ c.if-has.true)) c.take_file.ensures.taken

pub returns-then-has-clause-halted : goal.returns-then-has-clause-halted
returns-then-has-clause-halted g c =
    halts_one c.take_file.result (g.L.Library.file c.args.library.now) (either_of c.args.class.now c.args.missing) (of_kind c.args.class.now false) _ _
    (file_names c.args.names.now) (file_names c.take_file.new.names) (state_of c.args.loading.now) (state_of c.args.loading.now)
    (means_missed c.args.class.now (sym c.has.ensures ∙ c.if-has.true)) c.take_file.ensures.held

pub returns-then-has-2-clause-taken : goal.returns-then-has-2-clause-taken
returns-then-has-2-clause-taken g c =
    either_known (g.L.Library.file c.args.library.now) c.args.class.now c.args.missing _ (file_names c.args.names.now) (state_of c.args.loading.now)
    (sym c.has.ensures ∙ c.if-has.false) (sym c.has-else-has.ensures ∙ c.if-has-2.true)
