use Rattle.std.proofs.Common.{◌≡◌, ◌∙◌, sym, true}
use Rattle.std.proofs.lemmas.Bool.{false≢true}
use Rattle.clap.specs.declared.error.kind.ErrorKind.TheVariants.{OutOfMemory}
use Rattle.rvc_words.specs.Texts.{texts}
use Rattle.rvc_words.proofs.Matching.{accepted, matched, refused}
use Rattle.rvc_words.proofs.command.matches.Goals as goal

pub returns-in-Ok-clause-accepted : goal.returns-in-Ok-clause-accepted
returns-in-Ok-clause-accepted c = accepted _ (texts c.args.words.now) c.in_ok-command.ensures c.in-Ok.ensures.kinds

pub returns-in-Ok-clause-matched : goal.returns-in-Ok-clause-matched
returns-in-Ok-clause-matched c = matched _ (texts c.args.words.now) _ _ c.in_ok-command.ensures c.in-Ok.ensures.matches

pub returns-clause-refused : goal.returns-clause-refused
returns-clause-refused c = λ cause answered. refused _ (texts c.args.words.now) c.in-Err.error c.in_ok-command.ensures c.in-Err.ensures.kinds (λ same.
    let kind : c.kind.result ≡ OutOfMemory = c.kind.ensures ∙ same in
    let equal : c.eq.result ≡ true = rw kind at c.eq.ensures in
    false≢true (sym c.if-eq.false ∙ equal))
