use Rattle.fnl_files.proofs.Leaves.{leaves, leaves_tried}
use Rattle.fnl_files.proofs.Served.{loaded_are_served}
use Rattle.fnl_files.proofs.laws.leaves_have_files.Goals as goal

pub returns-clause-served : goal.returns-clause-served
returns-clause-served c = loaded_are_served

pub returns-clause-leaves : goal.returns-clause-leaves
returns-clause-leaves c = leaves

pub returns-clause-tried : goal.returns-clause-tried
returns-clause-tried c = leaves_tried
