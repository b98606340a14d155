use Rattle.cal_model.proofs.Stored.{stored-is-of, stored-stays, zero-is-of}
use Rattle.cal_model.proofs.laws.stored_values_are_in_their_type.Goals as goal

pub returns : goal.returns
returns c = record { stored = λ t v h k. stored-is-of v t h k; stays = λ t v h k. stored-stays v t h k; without_value = zero-is-of }
