use Rattle.std.proofs.Common.{None, Some, List, map, ap, ◌∙◌}
use Rattle.std.specs.Str.{bytes_eq}
use Rattle.cal_model.specs.Actor.{Pattern}
use Rattle.cal_model.specs.View.{pattern_view}
use Rattle.determinacy_cert.specs.Viewing.{key_of, named_view}
use Rattle.determinacy_cert.proofs.Keys.{key_is, names_by}
use Rattle.determinacy_cert.proofs.Places.{key_at}
use Rattle.determinacy_cert.proofs.key.same_names.Goals as goal

pub returns-in-None-two : goal.returns-in-None-two
returns-in-None-two c =
    let qs : List Pattern = map pattern_view c.args.patterns.now in
    let rs : List Pattern = map pattern_view c.args.others.now in
    c.eq.ensures ∙ names_by c.args.name.now c.args.other.now qs rs None None c.in-None.ensures c.in-None-two.ensures

pub returns-in-Some-two : goal.returns-in-Some-two
returns-in-Some-two c =
    let qs : List Pattern = map pattern_view c.args.patterns.now in
    let rs : List Pattern = map pattern_view c.args.others.now in
    names_by c.args.name.now c.args.other.now qs rs None (Some (named_view c.in-Some-two.field-0)) c.in-None.ensures c.in-Some-two.ensures

pub returns-in-None-two-2 : goal.returns-in-None-two-2
returns-in-None-two-2 c =
    let qs : List Pattern = map pattern_view c.args.patterns.now in
    let rs : List Pattern = map pattern_view c.args.others.now in
    names_by c.args.name.now c.args.other.now qs rs (Some (named_view c.in-Some.one)) None c.in-Some.ensures c.in-None-two-2.ensures

pub returns-in-Some-two-2 : goal.returns-in-Some-two-2
returns-in-Some-two-2 c =
    let qs : List Pattern = map pattern_view c.args.patterns.now in
    let rs : List Pattern = map pattern_view c.args.others.now in
    c.same_tokens.ensures
    ∙ ap (λ k. bytes_eq k (key_of c.in-Some-two-2.two)) (key_is c.in-Some.one) ∙ ap (bytes_eq (key_at (named_view c.in-Some.one))) (key_is c.in-Some-two-2.two)
    ∙ names_by c.args.name.now c.args.other.now qs rs (Some (named_view c.in-Some.one)) (Some (named_view c.in-Some-two-2.two)) c.in-Some.ensures c.in-Some-two-2.ensures
