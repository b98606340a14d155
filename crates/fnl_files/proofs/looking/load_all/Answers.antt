use Rattle.std.proofs.Common.{length, subst}
use Rattle.std.specs.Prelude.{Ok}
use Rattle.cal_files.specs.Views.{file_names}
use Rattle.fnl_files.specs.SoFar.{IsNext, seen, state_of}
use Rattle.fnl_files.specs.Views.{asked_of}
use Rattle.fnl_files.proofs.Steps.{few_names, loads, shrinks, starts}
use Rattle.fnl_files.proofs.looking.load_all.Goals as goal

pub files-init : goal.files-init
files-init g c = starts (g.L.Library.file c.args.library.now) (g.L.Library.faults c.args.library.now) (g.L.Library.misses c.args.library.now) (file_names c.args.names.now) (asked_of c.args.top.now c.args.kind) (state_of c.in_ok-loading.loading) c.requires c.in_ok-loading.ensures.begun

pub files-preserved : goal.files-preserved
files-preserved g c = (subst (λ more. IsNext (seen (g.L.Library.file c.files.library) (g.L.Library.faults c.files.library) (g.L.Library.misses c.files.library) (file_names c.files.names) (state_of c.files.loading)) (seen (g.L.Library.file c.read_next.new.library) (g.L.Library.faults c.read_next.new.library) (g.L.Library.misses c.read_next.new.library) (file_names c.read_next.new.names) (state_of c.read_next.new.loading)) (Ok more)) c.in-Ok-true.field-0-test c.in-Ok-true.ensures.next).0 (g.L.Library.file c.args.library.now) (g.L.Library.faults c.args.library.now) (g.L.Library.misses c.args.library.now) (asked_of c.args.top.now c.args.kind) c.files.invariant

pub files-smaller : goal.files-smaller
files-smaller g c =
    shrinks (length (file_names c.files.names)) (length (file_names c.read_next.new.names)) (subst (λ more. IsNext (seen (g.L.Library.file c.files.library) (g.L.Library.faults c.files.library) (g.L.Library.misses c.files.library) (file_names c.files.names) (state_of c.files.loading)) (seen (g.L.Library.file c.read_next.new.library) (g.L.Library.faults c.read_next.new.library) (g.L.Library.misses c.read_next.new.library) (file_names c.read_next.new.names) (state_of c.read_next.new.loading)) (Ok more)) c.in-Ok-true.field-0-test c.in-Ok-true.ensures.next).1
    (few_names (g.L.Library.file c.args.library.now) (g.L.Library.faults c.args.library.now) (g.L.Library.misses c.args.library.now) (asked_of c.args.top.now c.args.kind) (seen (g.L.Library.file c.read_next.new.library) (g.L.Library.faults c.read_next.new.library) (g.L.Library.misses c.read_next.new.library) (file_names c.read_next.new.names) (state_of c.read_next.new.loading)) (files-preserved g c))

pub returns-in-Ok-false-clause-loaded : goal.returns-in-Ok-false-clause-loaded
returns-in-Ok-false-clause-loaded g c =
    let next = subst (λ more. IsNext (seen (g.L.Library.file c.files.library) (g.L.Library.faults c.files.library) (g.L.Library.misses c.files.library) (file_names c.files.names) (state_of c.files.loading)) (seen (g.L.Library.file c.read_next.new.library) (g.L.Library.faults c.read_next.new.library) (g.L.Library.misses c.read_next.new.library) (file_names c.read_next.new.names) (state_of c.read_next.new.loading)) (Ok more)) c.in-Ok-false.field-0-test c.in-Ok-false.ensures.next in
    loads (g.L.Library.file c.args.library.now) (g.L.Library.faults c.args.library.now) (g.L.Library.misses c.args.library.now) (asked_of c.args.top.now c.args.kind) (seen (g.L.Library.file c.read_next.new.library) (g.L.Library.faults c.read_next.new.library) (g.L.Library.misses c.read_next.new.library) (file_names c.read_next.new.names) (state_of c.read_next.new.loading)) (next.0 (g.L.Library.file c.args.library.now) (g.L.Library.faults c.args.library.now) (g.L.Library.misses c.args.library.now) (asked_of c.args.top.now c.args.kind) c.files.invariant) next.1

pub returns-in-Err-clause-fault : goal.returns-in-Err-clause-fault
returns-in-Err-clause-fault g c = c.in-Err.ensures.next (g.L.Library.file c.args.library.now) (g.L.Library.faults c.args.library.now) (g.L.Library.misses c.args.library.now) (asked_of c.args.top.now c.args.kind) c.files.invariant
