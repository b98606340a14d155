-- Worked lines of words, computed by the definitions.
use Rattle.std.proofs.Common.{◌≡◌, [], ◌∷◌, Ok, Err, codes, refl}
use Rattle.clap.proofs.OnLiterals.{clap_on_literals}
use Rattle.rvc_base.specs.declared.round_kind.RoundKind.TheVariants.{Seed}
use Rattle.rvc_words.specs.declared.fault.UsageCause.TheVariants.{Words, Verb, Top, Number, Round, Port, Trace}
use Rattle.rvc_words.specs.declared.job.Verb.TheVariants.{Run}
use Rattle.rvc_words.specs.Command.{matches, parts_of, refuses, rvc}
use Rattle.cal_lexer.specs.Lexis.{is_name}
use Rattle.rvc_words.specs.Forms.{is_file, is_path, is_port, number, round_of, verb_of}
use Rattle.rvc_words.specs.Words.{asked, job}

no_words : job (codes "rvc" ∷ []) ≡ Err Words
unfolding clap_on_literals rvc refuses matches parts_of asked job
no_words = refl

another_verb : job (codes "rvc" ∷ codes "go" ∷ codes "Inc.cal" ∷ []) ≡ Err Verb
unfolding clap_on_literals rvc refuses matches parts_of asked job verb_of
another_verb = refl

another_ending : job (codes "rvc" ∷ codes "run" ∷ codes "Inc.txt" ∷ codes "--trace" ∷ codes "t" ∷ []) ≡ Err Top
unfolding clap_on_literals rvc refuses matches parts_of asked job verb_of is_file is_path is_name
another_ending = refl

too_many_workers : job (codes "rvc" ∷ codes "run" ∷ codes "Inc.cal" ∷ codes "--workers" ∷ codes "65" ∷ codes "--trace" ∷ codes "t" ∷ []) ≡ Err Number
unfolding clap_on_literals rvc refuses matches parts_of asked job verb_of is_file is_path is_name number
too_many_workers = refl

another_policy : job (codes "rvc" ∷ codes "run" ∷ codes "Inc.cal" ∷ codes "--round" ∷ codes "none" ∷ codes "--trace" ∷ codes "t" ∷ []) ≡ Err Round
unfolding clap_on_literals rvc refuses matches parts_of asked job verb_of is_file is_path is_name number round_of
another_policy = refl

no_file : job (codes "rvc" ∷ codes "run" ∷ codes "Inc.cal" ∷ codes "In" ∷ codes "--trace" ∷ codes "t" ∷ []) ≡ Err Port
unfolding clap_on_literals rvc refuses matches parts_of asked job verb_of is_file is_path is_name number round_of is_port
no_file = refl

no_trace : job (codes "rvc" ∷ codes "run" ∷ codes "Inc.cal" ∷ []) ≡ Err Trace
unfolding clap_on_literals rvc refuses matches parts_of asked job verb_of is_file is_path is_name number round_of is_port
no_trace = refl

-- options between ports, one of them joined by `=`
a_job : job (codes "rvc" ∷ codes "run" ∷ codes "a/Inc.cal" ∷ codes "In=a=b" ∷ codes "--round=seed:7" ∷ codes "Out=o" ∷ codes "--trace" ∷ codes "t" ∷ [])
    ≡ Ok (record {
      verb = Run;
      top = codes "a/Inc.cal";
      ports = record { name = codes "In"; file = codes "a=b" } ∷ record { name = codes "Out"; file = codes "o" } ∷ [];
      trace = codes "t";
      workers = 1;
      round = Seed 7;
      burst = 64;
      budget = 100000000;
      grow = 0;
    })
unfolding clap_on_literals rvc refuses matches parts_of asked job verb_of is_file is_path is_name number round_of is_port
a_job = refl
