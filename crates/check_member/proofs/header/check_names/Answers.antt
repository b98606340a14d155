use Rattle.std.proofs.Common.{◌≡◌, ◌++◌, [], Err, sym, ap, subst, ◌∙◌, rules}
use Rattle.std.proofs.lemmas.List.{append-nil}
use Rattle.std.specs.Str.{bytes_eq}
use Rattle.rvc_base.specs.Rules.{port_named_twice}
use Rattle.cal_check.specs.Ports.{keyed_ports}
use Rattle.cal_check.specs.Violations.{twice}
use Rattle.check_member.specs.Judging.{Checks, Refuses}
use Rattle.check_member.specs.Parts.{ports_tree}
use Rattle.check_member.proofs.header.check_names.Goals as goal

pub returns-in_err-name_once : goal.returns-in_err-name_once
returns-in_err-name_once c =
    let same : c.from_residual.result ≡ Err c.in_err-name_once.field-0.0 = search rules in
    let keys = keyed_ports (ports_tree c.args.ins.now) ++ keyed_ports (ports_tree c.args.outs.now) in
    subst (λ r. Checks r (twice bytes_eq port_named_twice [] keys)) (sym same)
    (subst (λ met. Refuses c.in_err-name_once.field-0.0 (twice bytes_eq port_named_twice met keys)) c.new-names.ensures
    (c.in_err-name_once.ensures.broken (keyed_ports (ports_tree c.args.outs.now))))

pub returns-in_err-name_once-2 : goal.returns-in_err-name_once-2
returns-in_err-name_once-2 c =
    let f = c.in_err-name_once-2.field-0.0 in
    let same : c.from_residual-in_err-name_once-2.result ≡ Err f = search rules in
    let outs = keyed_ports (ports_tree c.args.outs.now) in
    let keys = keyed_ports (ports_tree c.args.ins.now) ++ outs in
    subst (λ r. Checks r (twice bytes_eq port_named_twice [] keys)) (sym same)
    (subst (λ vs. Refuses f vs)
    (ap (λ ks. twice bytes_eq port_named_twice c.name_once.new.names ks) (append-nil outs)
    ∙ sym (c.in_ok-name_once.ensures.fine outs)
    ∙ ap (λ met. twice bytes_eq port_named_twice met keys) c.new-names.ensures)
    (c.in_err-name_once-2.ensures.broken []))

pub returns : goal.returns
returns c =
    let outs = keyed_ports (ports_tree c.args.outs.now) in
    let keys = keyed_ports (ports_tree c.args.ins.now) ++ outs in
    ap (λ met. twice bytes_eq port_named_twice met keys) (sym c.new-names.ensures)
    ∙ c.in_ok-name_once.ensures.fine outs
    ∙ ap (λ ks. twice bytes_eq port_named_twice c.name_once.new.names ks) (sym (append-nil outs))
    ∙ c.in_ok-name_once-2.ensures.fine []
