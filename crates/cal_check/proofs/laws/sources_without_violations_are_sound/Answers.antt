use Rattle.cal_check.proofs.SoundSource.{source-sound}
use Rattle.cal_check.proofs.laws.sources_without_violations_are_sound.Goals as goal

pub returns : goal.returns
returns c = source-sound
