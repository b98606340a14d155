use Rattle.cal_imports.specs.View.{sources}
use Rattle.cal_files.specs.Views.{file_names}
use Rattle.cal_files.proofs.Actors.{judged_all, judged_fault, judged_none, judged_ok, loading_fault}
use Rattle.cal_files.proofs.top_actor.read_actor.Goals as goal

pub returns-in-Ok-clause-read : goal.returns-in-Ok-clause-read
returns-in-Ok-clause-read g c = judged_ok c.actor_in.result (g.L.Library.file c.args.library.now) c.args.class.now (file_names c.load.new.names) (sources c.in-Ok.set) c.in-Ok.ensures.loaded c.actor_in.ensures

pub returns-in-Ok-clause-fault : goal.returns-in-Ok-clause-fault
returns-in-Ok-clause-fault g c = judged_fault c.actor_in.result (g.L.Library.file c.args.library.now) c.args.class.now _ _ (file_names c.load.new.names) (sources c.in-Ok.set) c.in-Ok.ensures.loaded c.actor_in.ensures

pub returns-in-Ok-clause-complete : goal.returns-in-Ok-clause-complete
returns-in-Ok-clause-complete g c = λ scope found tells is.
    judged_all c.actor_in.result c.args.class.now (file_names c.load.new.names) (sources c.in-Ok.set) is.reads scope (c.in-Ok.ensures.complete is.reads tells is.is_loaded) is.is_resolved c.actor_in.ensures

pub returns-in-Err-clause-fault : goal.returns-in-Err-clause-fault
returns-in-Err-clause-fault g c = loading_fault c.in-Err.fault (g.L.Library.file c.args.library.now) c.args.class.now _ _ (file_names c.load.new.names) c.in-Err.ensures.fault

pub returns-in-Err-clause-complete : goal.returns-in-Err-clause-complete
returns-in-Err-clause-complete g c = λ scope found tells is. c.in-Err.ensures.complete is.reads tells is.is_loaded

pub returns-in-Ok-clause-incomplete : goal.returns-in-Ok-clause-incomplete
returns-in-Ok-clause-incomplete g c = λ misses refusal found tells is.
    judged_none c.actor_in.result (g.L.Library.file c.args.library.now) c.args.class.now misses (file_names c.load.new.names) found refusal c.one_loading.ensures c.one_outcome.ensures tells is (returns-in-Ok-clause-read g c)
