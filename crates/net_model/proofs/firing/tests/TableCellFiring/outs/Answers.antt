use Rattle.std.proofs.Common.{arith}
use Rattle.net_model.proofs.TableActor.{table_is_lawful, fits_queues}
use Rattle.net_model.proofs.firing.tests.TableCellFiring.outs.Goals as goal

pub returns-clause-lawful : goal.returns-clause-lawful
returns-clause-lawful c = table_is_lawful _

pub returns-clause-fits : goal.returns-clause-fits
returns-clause-fits c = fits_queues _ _ _ _ _ (omega arith) (omega arith)
