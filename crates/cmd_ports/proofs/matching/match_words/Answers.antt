use Rattle.std.proofs.Common.{◌++◌, ◌<◌, sym, ap, ◌∙◌, arith, map, take}
use Rattle.rvc_words.specs.Words.{port_text}
use Rattle.cmd_ports.specs.Matching.{is_named, is_port, names_of}
use Rattle.cmd_ports.proofs.Fitting.{there, earlier, fits_more, number_fits, unknown, twice}
use Rattle.cmd_ports.proofs.matching.match_words.Goals as goal

pub overflow_cast-number : goal.overflow_cast-number
overflow_cast-number c =
    let few : c.loop-number.number < 4294967296 = number_fits c.args.ins.now c.args.outs.now c.args.words.now c.loop-number.number c.requires.few c.loop-number-test.true c.loop-number.invariant in
    omega arith

pub overflow_cast-number-then-is_named : goal.overflow_cast-number-then-is_named
overflow_cast-number-then-is_named c =
    let few : c.loop-number.number < 4294967296 = number_fits c.args.ins.now c.args.outs.now c.args.words.now c.loop-number.number c.requires.few c.loop-number-test.true c.loop-number.invariant in
    omega arith

pub returns-then-not-is_port-clause-wrong : goal.returns-then-not-is_port-clause-wrong
returns-then-not-is_port-clause-wrong c = unknown (names_of c.args.ins.now ++ names_of c.args.outs.now) (map port_text c.args.words.now) c.loop-number.number (port_text c.index-words-number.result) c.wrong.result c.wrong.ensures c.loop-number.invariant
    (there c.args.words.now c.loop-number.number c.index-words-number.result c.loop-number-test.true c.index-words-number.is)
    (ap (λ n. is_port n (names_of c.args.ins.now ++ names_of c.args.outs.now)) (sym c.as_str.ensures.value) ∙ sym c.is_port.ensures ∙ c.if-not-is_port.true)

pub returns-then-is_named-clause-wrong : goal.returns-then-is_named-clause-wrong
returns-then-is_named-clause-wrong c = twice (names_of c.args.ins.now ++ names_of c.args.outs.now) (map port_text c.args.words.now) c.loop-number.number (port_text c.index-words-number.result) c.wrong-then-is_named.result c.wrong-then-is_named.ensures c.loop-number.invariant
    (there c.args.words.now c.loop-number.number c.index-words-number.result c.loop-number-test.true c.index-words-number.is)
    (ap (λ n. is_port n (names_of c.args.ins.now ++ names_of c.args.outs.now)) (sym c.as_str.ensures.value) ∙ sym c.is_port.ensures ∙ c.if-not-is_port.false)
    (sym (earlier (port_text c.index-words-number.result).name c.args.words.now c.loop-number.number)
    ∙ ap (λ n. is_named n (map port_text (take c.loop-number.number c.args.words.now))) (sym c.as_str-in-loop-number.ensures.value) ∙ sym c.is_named.ensures ∙ c.if-is_named.true)

pub loop-number-preserved : goal.loop-number-preserved
loop-number-preserved c = fits_more (names_of c.args.ins.now ++ names_of c.args.outs.now) (map port_text c.args.words.now) c.loop-number.number c.loop-number.invariant (record {
  word = port_text c.index-words-number.result;
  is_there = there c.args.words.now c.loop-number.number c.index-words-number.result c.loop-number-test.true c.index-words-number.is;
  known = ap (λ n. is_port n (names_of c.args.ins.now ++ names_of c.args.outs.now)) (sym c.as_str.ensures.value) ∙ sym c.is_port.ensures ∙ c.if-not-is_port.false;
  first = sym (earlier (port_text c.index-words-number.result).name c.args.words.now c.loop-number.number)
      ∙ ap (λ n. is_named n (map port_text (take c.loop-number.number c.args.words.now))) (sym c.as_str-in-loop-number.ensures.value) ∙ sym c.is_named.ensures ∙ c.if-is_named.false;
})
