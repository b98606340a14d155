use Rattle.std.proofs.Common.{map, subst}
use Rattle.rvc_words.specs.Words.{port_text}
use Rattle.cmd_ports.specs.Matching.{IsWrongWord, names_of}
use Rattle.cmd_gen.specs.Steps.{of_word}
use Rattle.cmd_gen.proofs.built.run_built.Goals as goal

pub returns-in-Err : goal.returns-in-Err
returns-in-Err g c = of_word c.in-Err.refusal
    (subst (λ outs. IsWrongWord (names_of outs) (map port_text c.args.words.now) c.in-Err.refusal) c.as_slice.ensures.value c.in-Err.ensures.wrong)
    c.report_unbuilt-in-Err.ensures
