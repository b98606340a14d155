use Rattle.law_forms.proofs.SeenTypes.{scalar_seen, type_seen}
use Rattle.law_forms.proofs.laws.types_are_seen.Goals as goal

pub returns-clause-types : goal.returns-clause-types
returns-clause-types c = λ known shape t plain judged. (type_seen shape known t plain judged).0

pub returns-clause-scalars : goal.returns-clause-scalars
returns-clause-scalars c = λ known shape s plain judged. (scalar_seen shape known s plain judged).0
