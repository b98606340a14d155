use Rattle.std.proofs.Common.{◌≡◌, suc, sym, ap, subst, ◌∙◌}
use Rattle.std.proofs.lemmas.List.{length-map}
use Rattle.std.specs.Prelude.{option_map, string_bytes}
use Rattle.cal_files.specs.FileText.{IsText}
use Rattle.cal_files.specs.Views.{file_names}
use Rattle.fnl_files.specs.SoFar.{IsFound, Trial, number_of, trial_of}
use Rattle.fnl_files.proofs.Known.{of_kind}
use Rattle.fnl_files.proofs.Taken.{broken_stops}
use Rattle.fnl_files.proofs.taking.try_file.Goals as goal

pub returns-in-Ok-Some-clause-stopped : goal.returns-in-Ok-Some-clause-stopped
returns-in-Ok-Some-clause-stopped g c =
    let t : Trial = trial_of (g.L.Library.file c.args.library.now) (of_kind c.args.class.now c.args.network) (file_names c.args.names.now) in
    let found = subst (λ text. IsFound t (record { old = g.L.Library.misses c.args.library.now; new = g.L.Library.misses c.read_text.new.library })
    (file_names c.read_text.new.names) (option_map (λ x. x.items) text)) c.in-Ok-Some.field-0-is c.in-Ok-Some.ensures.found in
    let is : IsText t.told c.as_slice.result.now = subst (λ text. IsText t.told text) (sym c.as_slice.ensures.value) found.0 in
    let numbered : c.next_number-number.result ≡ number_of t = c.next_number-number.ensures ∙ ap suc (sym (length-map c.args.names.now.files.items string_bytes)) in
    broken_stops t c.as_slice.result.now c.args.loading.now.bytes c.next_number-number.result _ (file_names c.read_text.new.names) c.in-Err-add_text.fault
    is found.1 numbered c.in-Err-add_text.ensures.broken

pub returns-clause-stopped : goal.returns-clause-stopped
returns-clause-stopped g c = c.in-Err.ensures.stopped c.args.loading.now.bytes
