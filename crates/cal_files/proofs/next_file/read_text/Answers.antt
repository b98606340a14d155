use Rattle.std.proofs.Common.{◌≡◌, [], ◌∷◌, ◌++◌, map, ap, subst, ◌∙◌, rules}
use Rattle.std.proofs.lemmas.List.{map-append}
use Rattle.std.specs.Prelude.{IfErr, string_bytes}
use Rattle.rvc_base.specs.Rules.{file_too_long}
use Rattle.rvc_io.specs.Library.{IsTooLong, max_file_bytes}
use Rattle.rvc_io.specs.Told.{IsTold}
use Rattle.cal_files.specs.FileNames.{file_of}
use Rattle.cal_files.specs.Loading.{is_missing, with_name}
use Rattle.cal_files.specs.Reads.{refusal_at}
use Rattle.cal_files.specs.Views.{file_names}
use Rattle.cal_files.specs.declared.fault.LoadFault.TheVariants.{Refused}
use Rattle.cal_files.proofs.Stops.{stopped_long, stopped_too_long}
use Rattle.cal_files.proofs.next_file.read_text.Goals as goal

pub returns-in_ok-push-in-Found-clause-stopped : goal.returns-in_ok-push-in-Found-clause-stopped
returns-in_ok-push-in-Found-clause-stopped g c = λ bytes.
    let named : file_names (record { files = c.push.new.self }) ≡ with_name (string_bytes c.args.request.now.class) (file_names c.args.names.now) =
    ap (map string_bytes) c.in_ok-push-in-Found.ensures.items
    ∙ map-append string_bytes c.args.names.now.files.items (c.in_ok-name.name ∷ [])
    ∙ ap (λ n. file_names c.args.names.now ++ n ∷ []) (c.in_ok-name.ensures ∙ ap file_of c.as_str.ensures.value) in
    let told : IsTold (g.L.Library.file c.args.library.now (file_of (string_bytes c.args.request.now.class))) c.read.new.out.items = search rules in
    stopped_long c.short_text.result _ c.read.new.out.items _ _ _ told named c.short_text.ensures.long
    (subst (λ n. IfErr c.short_text.result (λ fault. fault ≡ Refused (refusal_at file_too_long n max_file_bytes))) c.next_number-number.ensures c.short_text.ensures.refused)

pub returns-in-Missing-clause-stopped : goal.returns-in-Missing-clause-stopped
returns-in-Missing-clause-stopped g c = λ bytes. is_missing (search rules) (search rules)

pub returns-in_ok-push-in-TooLong-clause-stopped : goal.returns-in_ok-push-in-TooLong-clause-stopped
returns-in_ok-push-in-TooLong-clause-stopped g c = λ bytes.
    let named : file_names (record { files = c.push-in-TooLong.new.self }) ≡ with_name (string_bytes c.args.request.now.class) (file_names c.args.names.now) =
    ap (map string_bytes) c.in_ok-push-in-TooLong.ensures.items
    ∙ map-append string_bytes c.args.names.now.files.items (c.in_ok-name.name ∷ [])
    ∙ ap (λ n. file_names c.args.names.now ++ n ∷ []) (c.in_ok-name.ensures ∙ ap file_of c.as_str.ensures.value) in
    let long : IsTooLong (g.L.Library.file c.args.library.now (file_of (string_bytes c.args.request.now.class))) = search rules in
    stopped_too_long _ c.too_long.result _ _ _ named long
    (subst (λ n. c.too_long.result ≡ Refused (refusal_at file_too_long n max_file_bytes)) c.next_number-number.ensures c.too_long.ensures)
