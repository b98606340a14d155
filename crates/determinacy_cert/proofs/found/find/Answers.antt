use Rattle.std.proofs.Common.{◌≡◌, None, Some, map, ap, ◌∙◌, option_map}
use Rattle.cal_model.specs.Actor.{Actor}
use Rattle.cal_model.specs.Certified.{ranged, ranged_vars, shape_of_tokens}
use Rattle.cal_model.specs.Selection.{kind_of_port}
use Rattle.cal_model.specs.View.{actor_of, pattern_view, port_view, value_view, var_view}
use Rattle.determinacy_cert.specs.Deciding.{named_in}
use Rattle.determinacy_cert.specs.Viewing.{found_view, named_view, typed_view, unnamed}
use Rattle.determinacy_cert.proofs.Places.{found_token, found_else, token_is, token_of, shape_in}
use Rattle.determinacy_cert.proofs.found.find.Goals as goal

pub returns-in-Some : goal.returns-in-Some
returns-in-Some c =
    let actor : Actor = actor_of c.args.names.actor.now in
    let found : Some (named_view c.in-Some.named) ≡ named_in c.args.name.now (map pattern_view c.args.names.action.now.patterns.items) =
    c.in-Some.ensures ∙ ap (λ ps. named_in c.args.name.now (map pattern_view ps)) c.deref.ensures.value in
    let typed : found_view c.token.result ≡ token_of (shape_in actor (pattern_view c.in-Some.named.pattern.now)) =
    token_is (shape_in actor (pattern_view c.in-Some.named.pattern.now)) (typed_view c.token.result.of) (option_map (λ v. value_view v.now) c.token.result.value)
    (c.token.ensures.of ∙ ap (λ ins. shape_of_tokens (kind_of_port (map port_view ins) c.in-Some.named.pattern.now.port) c.in-Some.named.pattern.now.repeat) c.deref-in-Some.ensures.value)
    (ap (option_map (λ v. value_view v.now)) c.token.ensures.value) in
    found_token actor c.args.name.now (map pattern_view c.args.names.action.now.patterns.items) (ranged_vars actor.vars) (named_view c.in-Some.named) (found_view c.token.result) found typed

pub returns-in-None : goal.returns-in-None
returns-in-None c =
    let actor : Actor = actor_of c.args.names.actor.now in
    let none : None ≡ named_in c.args.name.now (map pattern_view c.args.names.action.now.patterns.items) =
    c.in-None.ensures ∙ ap (λ ps. named_in c.args.name.now (map pattern_view ps)) c.deref.ensures.value in
    found_else actor c.args.name.now (map pattern_view c.args.names.action.now.patterns.items) (ranged_vars actor.vars) (option_map found_view c.variable.result) none
    (c.variable.ensures ∙ ap (λ vs. option_map unnamed (ranged c.args.name.now (ranged_vars (map var_view vs)))) c.deref-in-None.ensures.value)
