use Rattle.std.proofs.Common.{◌≡◌, suc, [], ◌∷◌, ◌++◌, map, sym, ap, ◌∙◌, rules}
use Rattle.std.proofs.lemmas.List.{length-map, map-append}
use Rattle.std.specs.Prelude.{string_bytes}
use Rattle.rvc_io.specs.Library.{IsTooLong}
use Rattle.rvc_io.specs.Told.{IsTold}
use Rattle.cal_files.specs.Views.{file_names}
use Rattle.fnl_source.specs.Files.{name_of}
use Rattle.fnl_files.specs.SoFar.{trial_of, with_name}
use Rattle.fnl_files.proofs.Broken.{long_stops, told_stops}
use Rattle.fnl_files.proofs.reading.read_text.Goals as goal

pub returns-in_ok-push-in-Found-clause-stopped : goal.returns-in_ok-push-in-Found-clause-stopped
returns-in_ok-push-in-Found-clause-stopped g c = λ bytes.
    let tried = trial_of (g.L.Library.file c.args.library.now) (record { class = c.args.class.now; network = c.args.network }) (file_names c.args.names.now) in
    let named : file_names (record { files = c.push.new.self }) ≡ with_name tried =
    ap (map string_bytes) c.in_ok-push-in-Found.ensures.items
    ∙ map-append string_bytes c.args.names.now.files.items (c.in_ok-name.name ∷ [])
    ∙ ap (λ n. file_names c.args.names.now ++ n ∷ []) c.in_ok-name.ensures in
    let told : IsTold (g.L.Library.file c.args.library.now (name_of (record { class = c.args.class.now; network = c.args.network }))) c.read.new.out.items = search rules in
    long_stops c.found_text.result tried c.read.new.out.items _ bytes _ _ told named (c.next_number-number.ensures ∙ ap suc (sym (length-map c.args.names.now.files.items string_bytes))) c.found_text.ensures.long c.found_text.ensures.refused

pub returns-in_ok-push-in-TooLong-clause-stopped : goal.returns-in_ok-push-in-TooLong-clause-stopped
returns-in_ok-push-in-TooLong-clause-stopped g c = λ bytes.
    let tried = trial_of (g.L.Library.file c.args.library.now) (record { class = c.args.class.now; network = c.args.network }) (file_names c.args.names.now) in
    let named : file_names (record { files = c.push-in-TooLong.new.self }) ≡ with_name tried =
    ap (map string_bytes) c.in_ok-push-in-TooLong.ensures.items
    ∙ map-append string_bytes c.args.names.now.files.items (c.in_ok-name.name ∷ [])
    ∙ ap (λ n. file_names c.args.names.now ++ n ∷ []) c.in_ok-name.ensures in
    let long : IsTooLong (g.L.Library.file c.args.library.now (name_of (record { class = c.args.class.now; network = c.args.network }))) = search rules in
    told_stops tried c.too_long.result _ bytes _ _ long named (c.next_number-number.ensures ∙ ap suc (sym (length-map c.args.names.now.files.items string_bytes))) c.too_long.ensures
