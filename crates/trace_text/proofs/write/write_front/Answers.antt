use Rattle.std.proofs.Common.{rules, ◌≡◌, ◌++◌, List, ℕ, ap, arith}
use Rattle.std.specs.Prelude.{codes}
use Rattle.trace_text.specs.Text.{line_text, line_feed}
use Rattle.trace_text.specs.declared.line.Line.TheVariants.{Inst}
use Rattle.trace_text.proofs.write.write_front.Goals as goal

pub returns-clause-spelled : goal.returns-clause-spelled
returns-clause-spelled c path class is_path is_class =
    let low = c.ranges.inst.fits in
    let written : c.push_text-2.new.out.items ≡ line_text (Inst c.args.inst) = search rules in
    (omega arith, (path, class, is_path, is_class, ap (λ (u : List ℕ). u ++ path ++ codes " " ++ class ++ line_feed) written))
