use Rattle.cal_model.proofs.TagLaws.{tags-stand-for, transitions-lead, chains-put-above}
use Rattle.cal_model.proofs.laws.tags_stand_for_actions.Goals as goal

pub returns : goal.returns
returns c = record { tag = tags-stand-for; transition = transitions-lead; chain = chains-put-above }
