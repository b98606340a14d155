use Rattle.std.proofs.Common.{true, false, sym, ap, subst, ◌∙◌}
use Rattle.std.specs.Prelude.{string_bytes}
use Rattle.cal_files.specs.Loading.{Counts}
use Rattle.cal_files.specs.Views.{file_names}
use Rattle.fnl_source.specs.Files.{a_network, an_actor}
use Rattle.fnl_files.specs.SoFar.{Means, means_actor, means_network, request_of, state_of}
use Rattle.fnl_files.specs.Views.{asked_of}
use Rattle.fnl_files.proofs.Known.{of_kind}
use Rattle.fnl_files.proofs.Taken.{halts_one, takes_one}
use Rattle.fnl_files.proofs.taking.take.Goals as goal

pub returns-in-Network-clause-taken : goal.returns-in-Network-clause-taken
returns-in-Network-clause-taken g c =
    let misses : Counts = record { old = g.L.Library.misses c.args.library.now; new = g.L.Library.misses c.take_file.new.library } in
    let means = subst (λ asked. Means (g.L.Library.file c.args.library.now) misses (state_of c.args.loading.now) asked (of_kind c.as_str-class.result.now true) (state_of c.args.loading.now))
    (ap a_network c.as_str-class.ensures.value ∙ sym (ap (asked_of (string_bytes c.args.request.now.class)) c.in-Network.is)) (means_network c.as_str-class.result.now) in
    takes_one c.take_file.result (g.L.Library.file c.args.library.now) (request_of c.args.request.now) misses (of_kind c.as_str-class.result.now true) (state_of c.args.loading.now)
    (file_names c.args.names.now) (file_names c.take_file.new.names) (state_of c.args.loading.now) (state_of c.take_file.new.loading) means c.take_file.ensures.taken

pub returns-in-Network-clause-halted : goal.returns-in-Network-clause-halted
returns-in-Network-clause-halted g c =
    let misses : Counts = record { old = g.L.Library.misses c.args.library.now; new = g.L.Library.misses c.take_file.new.library } in
    let means = subst (λ asked. Means (g.L.Library.file c.args.library.now) misses (state_of c.args.loading.now) asked (of_kind c.as_str-class.result.now true) (state_of c.args.loading.now))
    (ap a_network c.as_str-class.ensures.value ∙ sym (ap (asked_of (string_bytes c.args.request.now.class)) c.in-Network.is)) (means_network c.as_str-class.result.now) in
    halts_one c.take_file.result (g.L.Library.file c.args.library.now) (request_of c.args.request.now) (of_kind c.as_str-class.result.now true) misses _
    (file_names c.args.names.now) (file_names c.take_file.new.names) (state_of c.args.loading.now) (state_of c.args.loading.now) means c.take_file.ensures.held

pub returns-in-Actor-clause-taken : goal.returns-in-Actor-clause-taken
returns-in-Actor-clause-taken g c =
    let misses : Counts = record { old = g.L.Library.misses c.args.library.now; new = g.L.Library.misses c.take_file-in-Actor.new.library } in
    let means = subst (λ asked. Means (g.L.Library.file c.args.library.now) misses (state_of c.args.loading.now) asked (of_kind c.as_str-class.result.now false) (state_of c.args.loading.now))
    (ap an_actor c.as_str-class.ensures.value ∙ sym (ap (asked_of (string_bytes c.args.request.now.class)) c.in-Actor.is)) (means_actor c.as_str-class.result.now) in
    takes_one c.take_file-in-Actor.result (g.L.Library.file c.args.library.now) (request_of c.args.request.now) misses (of_kind c.as_str-class.result.now false) (state_of c.args.loading.now)
    (file_names c.args.names.now) (file_names c.take_file-in-Actor.new.names) (state_of c.args.loading.now) (state_of c.take_file-in-Actor.new.loading) means c.take_file-in-Actor.ensures.taken

pub returns-in-Actor-clause-halted : goal.returns-in-Actor-clause-halted
returns-in-Actor-clause-halted g c =
    let misses : Counts = record { old = g.L.Library.misses c.args.library.now; new = g.L.Library.misses c.take_file-in-Actor.new.library } in
    let means = subst (λ asked. Means (g.L.Library.file c.args.library.now) misses (state_of c.args.loading.now) asked (of_kind c.as_str-class.result.now false) (state_of c.args.loading.now))
    (ap an_actor c.as_str-class.ensures.value ∙ sym (ap (asked_of (string_bytes c.args.request.now.class)) c.in-Actor.is)) (means_actor c.as_str-class.result.now) in
    halts_one c.take_file-in-Actor.result (g.L.Library.file c.args.library.now) (request_of c.args.request.now) (of_kind c.as_str-class.result.now false) misses _
    (file_names c.args.names.now) (file_names c.take_file-in-Actor.new.names) (state_of c.args.loading.now) (state_of c.args.loading.now) means c.take_file-in-Actor.ensures.held
