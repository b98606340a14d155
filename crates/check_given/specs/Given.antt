-- Values that parameters are given, without where they lie in memory.
-- Trusted: part of what a promise means.
use Rattle.std.specs.Prelude.{List, map, string_bytes}
use Rattle.rvc_base.specs.declared.refusal.Place.{Place}
use Rattle.cal_model.specs.View.{value_view}
use Rattle.cal_check.specs.Variables.{Spot, Given}
use Rattle.fnl_tree.specs.declared.tree.LeafValue.{LeafValue}

abbrev pub spot_of : Place → Spot
spot_of p = record { file = p.file; at = p.offset }

abbrev pub given_of : LeafValue → Given
given_of g =
    record { name = string_bytes g.name; value = value_view g.value; place = spot_of g.place }

abbrev pub all_given : List LeafValue → List Given
all_given gs = map given_of gs
