use Rattle.code_ir.proofs.admission.check_instrs.Goals as goal

pub returns-in-Ok-find_heights-clause-admitted : goal.returns-in-Ok-find_heights-clause-admitted
returns-in-Ok-find_heights-clause-admitted c =
    record {
      places = c.requires.stand;
      typed = λ p i g. record { alone = c.in-None.ensures p i g; height = c.in-Ok-find_heights.ensures.ok.0 p i g };
    }
