use Rattle.std.proofs.Common.{◌≡◌, ◌<◌, ◌==◌, ◌∷◌, [], ◌++◌, length, sym, ap, ◌∙◌, append_assoc, IsUtf8, rules}
use Rattle.std.specs.Prelude.{string_bytes}
use Rattle.std.specs.List.{after_first, before_first, position_or_len}
use Rattle.cal_files.specs.FileNames.{replaced}
use Rattle.cal_files.proofs.Cuts.{replaced_cut, replaced_none}
use Rattle.cal_files.proofs.file_names.push_replaced.Goals as goal

pub parts-preserved : goal.parts-preserved
parts-preserved c =
    let before_is : c.in-Some.before.now ≡ before_first (λ b. b == c.args.mark) c.parts.rest.now = search rules in
    let after_is : c.in-Some.after.now ≡ after_first (λ b. b == c.args.mark) c.parts.rest.now = search rules in
    let low : position_or_len (λ b. b == c.args.mark) c.parts.rest.now < length c.parts.rest.now = search rules in
    let utf8 : IsUtf8 c.in-Some.after.now = search rules in
    let pushed : string_bytes c.push.new.self ≡ (string_bytes c.parts.text ++ c.in-Some.before.now) ++ c.args.other ∷ [] = search rules in
    let cut : replaced c.args.mark c.args.other c.parts.rest.now ≡ c.in-Some.before.now ++ c.args.other ∷ replaced c.args.mark c.args.other c.in-Some.after.now =
    replaced_cut c.args.mark c.args.other c.parts.rest.now low
    ∙ ap (λ b. b ++ c.args.other ∷ replaced c.args.mark c.args.other (after_first (λ x. x == c.args.mark) c.parts.rest.now)) (sym before_is)
    ∙ ap (λ a. c.in-Some.before.now ++ c.args.other ∷ replaced c.args.mark c.args.other a) (sym after_is) in (
      utf8,
      ap (λ t. t ++ replaced c.args.mark c.args.other c.in-Some.after.now) pushed
          ∙ append_assoc (string_bytes c.parts.text ++ c.in-Some.before.now) (c.args.other ∷ []) (replaced c.args.mark c.args.other c.in-Some.after.now)
          ∙ append_assoc (string_bytes c.parts.text) c.in-Some.before.now (c.args.other ∷ replaced c.args.mark c.args.other c.in-Some.after.now)
          ∙ ap (λ r. string_bytes c.parts.text ++ r) (sym cut)
          ∙ c.parts.invariant.1,
    )

pub returns : goal.returns
returns c =
    let whole : position_or_len (λ b. b == c.args.mark) c.parts.rest.now ≡ length c.parts.rest.now = search rules in
    let pushed : string_bytes c.push_str-2.new.self ≡ string_bytes c.parts.text ++ c.parts.rest.now = search rules in
    pushed ∙ ap (λ r. string_bytes c.parts.text ++ r) (sym (replaced_none c.args.mark c.args.other c.parts.rest.now whole)) ∙ c.parts.invariant.1
