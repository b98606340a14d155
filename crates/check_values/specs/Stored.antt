-- Values that are stored, as they lie in memory.
-- Not trusted: no promise is read with it.
use Rattle.std.specs.Prelude.{◌≡◌, List, map}
use Rattle.cal_model.specs.Value.{stored_each}
use Rattle.cal_model.specs.View.{in_order, shape_view, value_view}
use Rattle.cal_model.specs.declared.kind.Shape.{Shape}
use Rattle.cal_model.specs.declared.value.Value.{Value}

-- each of some values stored in a type
abbrev pub AreStored : Shape → List Value → List Value → Type 0
AreStored t values kept =
    in_order (map value_view kept) ≡ stored_each (shape_view t) (in_order (map value_view values))
