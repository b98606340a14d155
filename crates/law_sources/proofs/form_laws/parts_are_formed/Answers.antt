use Rattle.law_sources.proofs.Parts as parts
use Rattle.law_sources.proofs.form_laws.parts_are_formed.Goals as goal

pub returns : goal.returns
returns c = parts.parts_are_formed
