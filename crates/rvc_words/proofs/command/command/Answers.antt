use Rattle.std.proofs.Common.{ap, ◌∙◌, true}
use Rattle.std.proofs.lemmas.Result.{IfOk-weaker}
use Rattle.clap.specs.Simple.{app_of, app_of_fields, with_rule}
use Rattle.clap.specs.declared.builder.command.Command.TheViews.{out-Command}
use Rattle.rvc_words.proofs.Matching.{bare, whole}
use Rattle.rvc_words.proofs.command.command.Goals as goal

pub returns : goal.returns
returns c =
    let first = ap app_of_fields c.disable_version_flag-bare.ensures ∙ ap (λ f. app_of_fields (record f { disable_version_flag = true })) c.disable_help_flag.ensures ∙ bare (out-Command c.new.result) c.new.ensures.app in
    IfOk-weaker c.arg-9.result _ _ (λ last h.
    whole (app_of c.disable_version_flag-bare.result) (app_of c.in_ok-with_verb.with_verb) (app_of c.in_ok-with_top.with_top) (app_of c.in_ok-with_places.with_places) (app_of c.in_ok-with_trace.with_trace) (app_of c.in_ok-with_workers.with_workers) (app_of c.in_ok-with_round.with_round) (app_of c.in_ok-with_burst.with_burst) (app_of c.in_ok-with_budget.with_budget) (app_of last) first
    (c.in_ok-with_verb.ensures.shape c.place.ensures.local ∙ ap (with_rule _) c.place.ensures.rule)
    (c.in_ok-with_top.ensures.shape c.place-2.ensures.local ∙ ap (with_rule _) c.place-2.ensures.rule)
    (c.in_ok-with_places.ensures.shape c.last_place.ensures.local ∙ ap (with_rule _) c.last_place.ensures.rule)
    (c.in_ok-with_trace.ensures.shape c.option.ensures.local ∙ ap (with_rule _) c.option.ensures.rule)
    (c.in_ok-with_workers.ensures.shape c.option-2.ensures.local ∙ ap (with_rule _) c.option-2.ensures.rule)
    (c.in_ok-with_round.ensures.shape c.option-3.ensures.local ∙ ap (with_rule _) c.option-3.ensures.rule)
    (c.in_ok-with_burst.ensures.shape c.option-4.ensures.local ∙ ap (with_rule _) c.option-4.ensures.rule)
    (c.in_ok-with_budget.ensures.shape c.option-5.ensures.local ∙ ap (with_rule _) c.option-5.ensures.rule)
    (h.shape c.option-6.ensures.local ∙ ap (with_rule _) c.option-6.ensures.rule)) c.arg-9.ensures
