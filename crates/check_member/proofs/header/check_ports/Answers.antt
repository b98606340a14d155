use Rattle.std.proofs.Common.{◌≡◌, Err, rules}
use Rattle.check_member.proofs.Broken.{checks-behind, checks-left}
use Rattle.check_member.proofs.header.check_ports.Goals as goal

pub returns-in_err-check_few : goal.returns-in_err-check_few
returns-in_err-check_few c =
    let f = c.in_err-check_few.field-0.0 in
    let same : c.from_residual-in_err-check_few.result ≡ Err f = search rules in
    checks-behind c.from_residual-in_err-check_few.result _ _ c.in_ok-check_names.ensures (checks-left c.from_residual-in_err-check_few.result f _ _ same c.in_err-check_few.ensures)

pub returns : goal.returns
returns c = checks-behind c.check_few-2.result _ _ c.in_ok-check_names.ensures (checks-behind c.check_few-2.result _ _ c.in_ok-check_few.ensures c.check_few-2.ensures)

pub returns-in_err-check_names : goal.returns-in_err-check_names
returns-in_err-check_names c =
    let f = c.in_err-check_names.field-0.0 in
    let same : c.from_residual.result ≡ Err f = search rules in
    checks-left c.from_residual.result f _ _ same c.in_err-check_names.ensures
