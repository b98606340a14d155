use Rattle.std.proofs.Common.{◌≡◌, ◌≤◌, [], length, map, sym, ap, subst, ◌∙◌, rules}
use Rattle.std.proofs.lemmas.List.{length-map}
use Rattle.std.specs.Prelude.{string_bytes}
use Rattle.cal_files.specs.Loading.{max_bytes, max_files}
use Rattle.cal_files.specs.Views.{file_names}
use Rattle.fnl_files.specs.SoFar.{GoesOn, Seen, Takes, request_of, seen, state_of, waiting_of}
use Rattle.fnl_files.proofs.Known.{means_keeps}
use Rattle.fnl_files.proofs.Progress.{behind}
use Rattle.fnl_files.proofs.Steps.{at_least, halts, passes, reads, reads_one}
use Rattle.fnl_files.proofs.looking.read_next.Goals as goal

pub returns-in-Ok-true-clause-next : goal.returns-in-Ok-true-clause-next
returns-in-Ok-true-clause-next g c =
    let a : Seen = (seen (g.L.Library.file c.args.library.now) (g.L.Library.faults c.args.library.now) (g.L.Library.misses c.args.library.now) (file_names c.args.names.now) (state_of c.args.loading.now)) in
    let b : Seen = (seen (g.L.Library.file c.requests.library) (g.L.Library.faults c.requests.library) (g.L.Library.misses c.requests.library) (file_names c.requests.names) (state_of c.requests.loading)) in
    let d : Seen = (seen (g.L.Library.file c.take.new.library) (g.L.Library.faults c.take.new.library) (g.L.Library.misses c.take.new.library) (file_names c.take.new.names) (state_of c.take.new.loading)) in
    let takes = subst (λ b. Takes (g.L.Library.file c.requests.library) (request_of c.in-Some.request)
    (record { old = g.L.Library.misses c.requests.library; new = g.L.Library.misses c.take.new.library }) (file_names c.requests.names) (file_names c.take.new.names)
    (behind (state_of c.requests.loading) (waiting_of c.pop_front.new.self)) (state_of c.take.new.loading) b) c.in-Ok-true.field-0-test c.in-Ok-true.ensures.taken in (
      reads a b d (request_of c.in-Some.request) (waiting_of c.pop_front.new.self) c.requests.invariant.3 (ap (map request_of) c.in-Some.ensures.items) takes c.take.ensures.same_files c.take.ensures.faults_stay c.take.ensures.misses_stay,
      reads_one a b d (request_of c.in-Some.request) (waiting_of c.pop_front.new.self) c.requests.invariant.2 takes,
    )

pub returns-in-Err-clause-next : goal.returns-in-Err-clause-next
returns-in-Err-clause-next g c =
    halts (seen (g.L.Library.file c.args.library.now) (g.L.Library.faults c.args.library.now) (g.L.Library.misses c.args.library.now) (file_names c.args.names.now) (state_of c.args.loading.now)) (seen (g.L.Library.file c.requests.library) (g.L.Library.faults c.requests.library) (g.L.Library.misses c.requests.library) (file_names c.requests.names) (state_of c.requests.loading)) (seen (g.L.Library.file c.take.new.library) (g.L.Library.faults c.take.new.library) (g.L.Library.misses c.take.new.library) (file_names c.take.new.names) (state_of c.take.new.loading)) (request_of c.in-Some.request) (waiting_of c.pop_front.new.self) c.in-Err.fault c.requests.invariant.3 (ap (map request_of) c.in-Some.ensures.items) c.take.ensures.misses_stay c.in-Err.ensures.halted

pub requests-preserved : goal.requests-preserved
requests-preserved g c =
    let a : Seen = (seen (g.L.Library.file c.args.library.now) (g.L.Library.faults c.args.library.now) (g.L.Library.misses c.args.library.now) (file_names c.args.names.now) (state_of c.args.loading.now)) in
    let b : Seen = (seen (g.L.Library.file c.requests.library) (g.L.Library.faults c.requests.library) (g.L.Library.misses c.requests.library) (file_names c.requests.names) (state_of c.requests.loading)) in
    let d : Seen = (seen (g.L.Library.file c.take.new.library) (g.L.Library.faults c.take.new.library) (g.L.Library.misses c.take.new.library) (file_names c.take.new.names) (state_of c.take.new.loading)) in
    let takes = subst (λ b. Takes (g.L.Library.file c.requests.library) (request_of c.in-Some.request)
    (record { old = g.L.Library.misses c.requests.library; new = g.L.Library.misses c.take.new.library }) (file_names c.requests.names) (file_names c.take.new.names)
    (behind (state_of c.requests.loading) (waiting_of c.pop_front.new.self)) (state_of c.take.new.loading) b) c.in-Ok-false.field-0-test c.in-Ok-false.ensures.taken in
    let bytes : (state_of c.take.new.loading).bytes ≡ c.requests.loading.bytes =
    ap (λ s. s.bytes) takes.taken.same
    ∙ (means_keeps (g.L.Library.file c.requests.library) _ (behind (state_of c.requests.loading) (waiting_of c.pop_front.new.self)) takes.known (request_of c.in-Some.request).asked takes.want takes.means).bytes in
    let count : length c.take.new.names.files.items ≡ length c.requests.names.files.items =
    sym (length-map c.take.new.names.files.items string_bytes) ∙ ap length takes.taken.names_are ∙ length-map c.requests.names.files.items string_bytes in (
      subst (λ n. n ≤ max_files) (sym count) c.requests.invariant.0,
      subst (λ n. n ≤ max_bytes) (sym bytes) c.requests.invariant.1,
      takes.taken.names_are ∙ c.requests.invariant.2,
      passes a b d (request_of c.in-Some.request) (waiting_of c.pop_front.new.self) c.requests.invariant.3 (ap (map request_of) c.in-Some.ensures.items) takes c.take.ensures.same_files c.take.ensures.faults_stay c.take.ensures.misses_stay,
      (λ other. c.take.ensures.same_files other ∙ c.requests.invariant.4 other),
      at_least c.requests.invariant.5 c.take.ensures.faults_stay,
      at_least c.requests.invariant.6 c.take.ensures.misses_stay,
    )

pub returns-clause-next : goal.returns-clause-next
returns-clause-next g c =
    let none : c.requests.loading.waiting.items ≡ [] = search rules in
    let same : waiting_of c.requests.loading.waiting ≡ waiting_of c.pop_front.new.self = ap (map request_of) c.in_default.ensures.items in (
      subst (λ waiting. GoesOn (seen (g.L.Library.file c.args.library.now) (g.L.Library.faults c.args.library.now) (g.L.Library.misses c.args.library.now) (file_names c.args.names.now) (state_of c.args.loading.now)) (seen (g.L.Library.file c.requests.library) (g.L.Library.faults c.requests.library) (g.L.Library.misses c.requests.library)
          (file_names c.requests.names) (behind (state_of c.requests.loading) waiting))) same c.requests.invariant.3,
      sym same ∙ ap (map request_of) none,
    )
