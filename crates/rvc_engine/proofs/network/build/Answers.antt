use Rattle.std.specs.Prelude.{Err}
use Rattle.cal_files.specs.Views.{file_names}
use Rattle.fnl_source.specs.Files.{class_asked}
use Rattle.network_check.specs.Top.{top_asked}
use Rattle.rvc_engine.proofs.Imaged.{built_missed, built_of, completes_image, no_image, none_checked, refuses_image}
use Rattle.rvc_engine.proofs.network.build.Goals as goal

pub returns-in-Ok-clause-built : goal.returns-in-Ok-clause-built
returns-in-Ok-clause-built g c =
    built_of c.image_of.result (g.L.Library.file c.args.library.now) (top_asked c.args.top.now) _ (file_names c.held_of_top.new.names)
    c.in-Ok.field-0 c.in-Ok.ensures.held (c.image_of.ensures.image (class_asked (top_asked c.args.top.now)) c.in-Ok.ensures.held.source)

pub returns-in-Ok-clause-missed : goal.returns-in-Ok-clause-missed
returns-in-Ok-clause-missed g c =
    built_missed c.image_of.result (g.L.Library.file c.args.library.now) (top_asked c.args.top.now) _ (file_names c.held_of_top.new.names)
    c.in-Ok.field-0 c.in-Ok.ensures.held c.image_of.ensures.flat

pub returns-in-Ok-clause-fault : goal.returns-in-Ok-clause-fault
returns-in-Ok-clause-fault g c =
    no_image c.image_of.result (g.L.Library.file c.args.library.now) (top_asked c.args.top.now) _ _ (file_names c.held_of_top.new.names) c.image_of.ensures.memory

pub returns-in-Ok-clause-complete : goal.returns-in-Ok-clause-complete
returns-in-Ok-clause-complete g c = λ net tells is.
    completes_image c.image_of.result (g.L.Library.file c.args.library.now) (top_asked c.args.top.now) _ _ (file_names c.held_of_top.new.names) net
    c.one_library_network.ensures.network c.networks_are_not_refused.ensures.library tells is (returns-in-Ok-clause-built g c) (returns-in-Ok-clause-fault g c)

pub returns-in-Ok-clause-incomplete : goal.returns-in-Ok-clause-incomplete
returns-in-Ok-clause-incomplete g c = λ misses refusal found tells is.
    refuses_image c.image_of.result (g.L.Library.file c.args.library.now) (top_asked c.args.top.now) misses (file_names c.held_of_top.new.names) found refusal
    c.networks_are_not_refused.ensures.library tells is (returns-in-Ok-clause-built g c)

pub returns-in-Err-clause-complete : goal.returns-in-Err-clause-complete
returns-in-Err-clause-complete g c = λ net tells is.
    completes_image (Err c.in-Err.fault) (g.L.Library.file c.args.library.now) (top_asked c.args.top.now) _ _ (file_names c.held_of_top.new.names) net
    c.one_library_network.ensures.network c.networks_are_not_refused.ensures.library tells is tt
    (none_checked (g.L.Library.file c.args.library.now) (top_asked c.args.top.now) _ _ (file_names c.held_of_top.new.names) c.in-Err.fault c.in-Err.ensures.fault)
