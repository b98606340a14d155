use Rattle.cal_imports.specs.View.{sources}
use Rattle.cal_files.specs.Views.{file_names}
use Rattle.cal_files.proofs.Ends.{loads_all, loads_none, top_loaded}
use Rattle.cal_files.proofs.loading.load.Goals as goal

pub returns-clause-has_top : goal.returns-clause-has_top
returns-clause-has_top g c = top_loaded sources c.load_all.result (g.L.Library.file c.args.library.now) c.args.class.now (file_names c.load_all.new.names) c.load_all.ensures.loaded

pub returns-clause-complete : goal.returns-clause-complete
returns-clause-complete g c = λ reads tells is. loads_all sources c.load_all.result (g.L.Library.file c.args.library.now) c.args.class.now _ _ (file_names c.load_all.new.names) reads c.one_loading.ensures c.one_outcome.ensures tells is c.load_all.ensures.loaded c.load_all.ensures.fault

pub returns-clause-incomplete : goal.returns-clause-incomplete
returns-clause-incomplete g c = λ misses refusal found tells is. loads_none sources c.load_all.result (g.L.Library.file c.args.library.now) c.args.class.now (file_names c.load_all.new.names) misses refusal found c.one_outcome.ensures tells is c.load_all.ensures.loaded
