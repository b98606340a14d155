use Rattle.std.specs.Prelude.{Ok, Err}
use Rattle.cal_files.specs.Loading.{Counts}
use Rattle.cal_files.specs.Views.{file_names}
use Rattle.network_check.specs.Top.{top_asked}
use Rattle.network_check.proofs.Ended.{completes, held_checked, refuses}
use Rattle.network_check.proofs.network.check_network.Goals as goal

pub returns-in-Ok-clause-complete : goal.returns-in-Ok-clause-complete
returns-in-Ok-clause-complete g c = λ net tells is.
    let none : Counts = record { old = 0; new = 0 } in
    completes (Ok c.in-Ok.field-0.checked) (g.L.Library.file c.args.library.now) (top_asked c.args.top.now) none none (file_names c.held_of_top.new.names) net
    c.one_library_network.ensures.network c.networks_are_not_refused.ensures.library tells is
    (held_checked (g.L.Library.file c.args.library.now) (top_asked c.args.top.now) _ (file_names c.held_of_top.new.names) c.in-Ok.field-0 c.in-Ok.ensures.held) tt

pub returns-in-Ok-clause-incomplete : goal.returns-in-Ok-clause-incomplete
returns-in-Ok-clause-incomplete g c = λ misses refusal found tells is.
    refuses (Ok c.in-Ok.field-0.checked) (g.L.Library.file c.args.library.now) (top_asked c.args.top.now) misses (file_names c.held_of_top.new.names) found refusal
    c.networks_are_not_refused.ensures.library tells is
    (held_checked (g.L.Library.file c.args.library.now) (top_asked c.args.top.now) _ (file_names c.held_of_top.new.names) c.in-Ok.field-0 c.in-Ok.ensures.held)

pub returns-in-Err-clause-complete : goal.returns-in-Err-clause-complete
returns-in-Err-clause-complete g c = λ net tells is.
    completes (Err c.in-Err.fault) (g.L.Library.file c.args.library.now) (top_asked c.args.top.now) _ _ (file_names c.held_of_top.new.names) net
    c.one_library_network.ensures.network c.networks_are_not_refused.ensures.library tells is tt c.in-Err.ensures.fault
