use Rattle.std.proofs.Common.{map, sym, ap, subst, ◌∙◌}
use Rattle.std.specs.Prelude.{string_bytes}
use Rattle.cal_check.specs.Variables.{found_in}
use Rattle.rvc_base.specs.declared.refusal.Front.TheVariants as front
use Rattle.fnl_bind.specs.Scopes.{scope_broken}
use Rattle.fnl_frames.specs.Views.{net_of}
use Rattle.fnl_values.proofs.Faults.{found_of}
use Rattle.check_given.specs.Causes.{IsCause}
use Rattle.fnl_scopes.specs.Tested as tested
use Rattle.fnl_scopes.specs.declared.fault.ScopeFault.TheVariants as scopes
use Rattle.fnl_walk.proofs.Circles.{scope_reversed}
use Rattle.fnl_walk.proofs.open.scopes_hold.Goals as goal

pub returns-in-Ok : goal.returns-in-Ok
returns-in-Ok c = ap (found_in c.args.file) (scope_reversed (net_of c.args.net.now) c.args.class.now (map string_bytes c.args.above.now) ∙ c.in-Ok.ensures)

pub returns-in-Err-Broken : goal.returns-in-Err-Broken
returns-in-Err-Broken c =
    let cause : tested.IsCause (scope_broken (net_of c.args.net.now) c.args.class.now (map string_bytes c.args.above.now)) (scopes.Broken c.in-Err-Broken.rule c.in-Err-Broken.at) =
    subst (tested.IsCause (scope_broken (net_of c.args.net.now) c.args.class.now (map string_bytes c.args.above.now))) c.in-Err-Broken.field-0-is c.in-Err-Broken.ensures in
    subst (λ vs. IsCause (front.Refused (record { rule = c.in-Err-Broken.rule; place = record { file = c.args.file; offset = c.in-Err-Broken.at } })) (found_in c.args.file vs))
    (sym (scope_reversed (net_of c.args.net.now) c.args.class.now (map string_bytes c.args.above.now)))
    (found_of c.args.file (scope_broken (net_of c.args.net.now) c.args.class.now (map string_bytes c.args.above.now)) (record { rule = c.in-Err-Broken.rule; at = c.in-Err-Broken.at }) cause)
