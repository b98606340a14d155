use Rattle.std.proofs.Common.{◌≡◌, [], suc, length, sym, ap, refl, rules}
use Rattle.std.proofs.lemmas.List.{length-map}
use Rattle.std.specs.Prelude.{string_bytes}
use Rattle.cal_imports.specs.View.{sources}
use Rattle.cal_files.specs.SoFar.{past_read, request_of, state_of, waiting_of}
use Rattle.cal_files.specs.Views.{file_names}
use Rattle.cal_files.proofs.Ends.{loading_begun, loading_ends, loading_more, loading_stopped}
use Rattle.cal_files.proofs.loading.load_all.Goals as goal

pub files-init : goal.files-init
files-init g c = loading_begun (g.L.Library.file c.args.library.now) (g.L.Library.faults c.args.library.now) (g.L.Library.misses c.args.library.now) c.args.class.now (file_names c.args.names.now) _ c.requires c.in_ok-new.ensures refl c.in_ok-first_requests.ensures

pub returns-in-Err-clause-fault : goal.returns-in-Err-clause-fault
returns-in-Err-clause-fault g c = loading_stopped (g.L.Library.file c.args.library.now) (g.L.Library.file c.files.library)
    (g.L.Library.faults c.args.library.now) (g.L.Library.faults c.files.library) (g.L.Library.faults c.read_file.new.library)
    (g.L.Library.misses c.args.library.now) (g.L.Library.misses c.files.library) (g.L.Library.misses c.read_file.new.library)
    c.args.class.now (file_names c.files.names) (file_names c.read_file.new.names) (state_of c.files.loading)
    (request_of c.in-Some.request) (waiting_of c.next_unread.new.waiting) (suc (length c.files.names.files.items)) c.files.loading.bytes c.in-Err.fault
    c.files.invariant c.in-Some.ensures.next c.in-Some.ensures.unread (ap suc (sym (length-map c.files.names.files.items string_bytes))) refl c.in-Err.ensures.stopped

pub files-preserved : goal.files-preserved
files-preserved g c = loading_more (g.L.Library.file c.args.library.now) (g.L.Library.file c.files.library) (g.L.Library.file c.read_file.new.library)
    (g.L.Library.faults c.args.library.now) (g.L.Library.faults c.files.library) (g.L.Library.faults c.read_file.new.library)
    (g.L.Library.misses c.args.library.now) (g.L.Library.misses c.files.library) (g.L.Library.misses c.read_file.new.library)
    c.args.class.now (file_names c.files.names) (file_names c.read_file.new.names) (state_of c.files.loading)
    (state_of (record { set = c.files.loading.set; bytes = c.files.loading.bytes; waiting = c.next_unread.new.waiting })) (state_of c.read_file.new.loading)
    (request_of c.in-Some.request) (waiting_of c.next_unread.new.waiting)
    c.files.invariant c.in-Some.ensures.next c.in-Some.ensures.unread refl refl refl
    c.in-Ok.ensures.read c.in-Ok.ensures.named c.read_file.ensures.same_files c.read_file.ensures.faults_stay c.read_file.ensures.misses_stay

pub returns-clause-loaded : goal.returns-clause-loaded
returns-clause-loaded g c =
    let past : past_read (sources c.files.loading.set) (waiting_of c.files.loading.waiting) ≡ [] = search rules in
    loading_ends (g.L.Library.file c.args.library.now) (g.L.Library.file c.files.library)
    (g.L.Library.faults c.args.library.now) (g.L.Library.faults c.files.library) (g.L.Library.misses c.args.library.now) (g.L.Library.misses c.files.library)
    c.args.class.now (file_names c.files.names) (state_of c.files.loading) c.files.invariant past
