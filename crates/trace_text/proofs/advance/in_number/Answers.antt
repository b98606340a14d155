use Rattle.std.proofs.Common.{◌-◌, arith}
use Rattle.trace_text.specs.Waiting.{IsDigit}
use Rattle.trace_text.proofs.Numbering.{leads_within, leads_no_digit, leads_none}
use Rattle.trace_text.proofs.advance.in_number.Goals as goal

pub returns-in-Some : goal.returns-in-Some
returns-in-Some c =
    let cases = c.if-is_ascii_digit.ensures.cases in
    leads_within c.args.field c.args.so_far c.args.byte (c.args.byte - 48) c.most.result c.in-Some.number c.within_number.result
    (omega arith) (omega arith) c.most.ensures c.in-Some.ensures c.within_number.ensures

pub returns-in-None : goal.returns-in-None
returns-in-None c =
    let cases = c.if-is_ascii_digit.ensures.cases in
    leads_no_digit c.args.field c.args.so_far c.args.byte (c.args.byte - 48) c.most.result
    (omega arith) (omega arith) c.most.ensures c.in-None.ensures

pub returns-in-None-so_far : goal.returns-in-None-so_far
returns-in-None-so_far c =
    let cases = c.if-is_ascii_digit.ensures.cases in
    let plain : IsDigit c.args.byte → ⊥ = λ digit. omega arith in
    rw c.in-None-so_far.is (leads_none c.args.field c.args.byte plain)
