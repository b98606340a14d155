use Rattle.cal_files.specs.Views.{file_names}
use Rattle.fnl_files.specs.Views.{asked_of, files_in}
use Rattle.network_check.proofs.Ended.{broken_fault, held_of}
use Rattle.network_check.proofs.Ready.{class_is, ready}
use Rattle.network_check.proofs.loading.held_of_class.Goals as goal

pub check_files-requires : goal.check_files-requires
check_files-requires g c =
    ready (g.L.Library.file c.args.library.now) c.args.class.now c.args.kind _ (files_in c.in-Ok.files) (file_names c.load_network.new.names)
    c.network_files_are_spelled.ensures.spelled c.in-Ok.ensures.has_top c.in-Ok.ensures.loaded

pub returns-in-Err-check_files-clause-fault : goal.returns-in-Err-check_files-clause-fault
returns-in-Err-check_files-clause-fault g c =
    broken_fault (g.L.Library.file c.args.library.now) (asked_of c.args.class.now c.args.kind) c.args.class.now _ _ (files_in c.in-Ok.files) (file_names c.load_network.new.names)
    c.in-Err-check_files.front c.of_front.result (class_is c.args.class.now c.args.kind) c.of_front.ensures c.in-Ok.ensures.loaded c.in-Err-check_files.ensures.refused

pub returns-in-Ok-check_files-clause-held : goal.returns-in-Ok-check_files-clause-held
returns-in-Ok-check_files-clause-held g c =
    held_of c.leaves_have_files.ensures.tried (g.L.Library.file c.args.library.now) (asked_of c.args.class.now c.args.kind) c.args.class.now _ (file_names c.load_network.new.names)
    (record { files = c.in-Ok.files; checked = c.in-Ok-check_files.checked }) (class_is c.args.class.now c.args.kind) c.in-Ok.ensures.has_top c.in-Ok.ensures.loaded c.in-Ok-check_files.ensures.checked
