use Rattle.cal_files.specs.Views.{file_names}
use Rattle.fnl_files.specs.Views.{asked_of, files_in}
use Rattle.fnl_files.proofs.Served.{top_there}
use Rattle.fnl_files.proofs.Steps.{loads_all, loads_none}
use Rattle.fnl_files.proofs.looking.load_network.Goals as goal

pub returns-clause-has_top : goal.returns-clause-has_top
returns-clause-has_top g c = top_there files_in c.load_all.result (g.L.Library.file c.args.library.now) (asked_of c.args.top.now c.args.kind) _ (file_names c.load_all.new.names) c.load_all.ensures.loaded

pub returns-clause-complete : goal.returns-clause-complete
returns-clause-complete g c = λ reads tells is. loads_all files_in c.load_all.result (g.L.Library.file c.args.library.now) (asked_of c.args.top.now c.args.kind) _ _ (file_names c.load_all.new.names) reads c.one_library_network.ensures.files c.one_outcome.ensures tells is c.load_all.ensures.loaded c.load_all.ensures.fault

pub returns-clause-incomplete : goal.returns-clause-incomplete
returns-clause-incomplete g c = λ misses refusal found tells is. loads_none files_in c.load_all.result (g.L.Library.file c.args.library.now) (asked_of c.args.top.now c.args.kind) _ (file_names c.load_all.new.names) misses refusal found c.one_outcome.ensures tells is c.load_all.ensures.loaded
