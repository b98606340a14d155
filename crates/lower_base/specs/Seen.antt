-- What a part sees: the locals round it, and the names outside them.
-- Not trusted: no promise is read with it.
use Rattle.std.specs.Prelude.{◌≡◌, ℕ, List, [], ◌∷◌, ◌++◌, Option, None, Some}
use Rattle.std.specs.Borrow.{Bor}
use Rattle.cal_model.specs.Value.{Shape, Single, Many}
use Rattle.cal_model.specs.View.{shape_view}
use Rattle.lower_base.specs.declared.names.OneSeat.{OneSeat}
use Rattle.lower_base.specs.declared.names.Seat.{Seat}
use Rattle.lower_base.specs.declared.names.Seat.TheVariants.{Cell}
use Rattle.lower_base.specs.declared.scope.Frame.{Frame}
use Rattle.lower_base.specs.declared.scope.Local.{Local}
use Rattle.lower_base.specs.declared.scope.Frame.TheOpen.{Frame-F}
use Rattle.lower_base.specs.declared.scope.Frame.TheFolds.{fold-Frame}
use Rattle.lower_base.specs.declared.scope.Scope.{Scope}
use Rattle.lower_base.specs.Callees.{Function, functions_view}
use Rattle.lower_base.specs.Names.{Name, named, names_view}

abbrev pub outer_locals : Option (Bor (List Name)) → List Name
outer_locals None = []
outer_locals (Some names) = names.now

-- the local of a frame
abbrev pub local_in : {A : Type 0} → Frame-F A → Name
local_in x = record { text = x.name.now; shape = shape_view x.shape.now; seat = Cell x.cell }

abbrev pub frame_step : Frame-F (List Name) → List Name
frame_step x = local_in x ∷ outer_locals x.outer

-- a local, and those outside it
abbrev pub frame_locals : Frame → List Name
frame_locals = fold-Frame (List Name) frame_step

abbrev pub locals_of : Option (Bor Frame) → List Name
locals_of None = []
locals_of (Some x) = frame_locals x.now

-- the functions that may be called
abbrev pub called : Scope → List Function
called s = functions_view s.callees.now

abbrev pub seen : Scope → List Name
seen s = locals_of s.frame ++ names_view s.names.now

-- the name of a local that a text means
abbrev pub local_name : List ℕ → Local → Name
local_name text x = record { text = text; shape = shape_view x.shape.now; seat = Cell x.cell }

-- a text means this local, whatever is outside
abbrev pub IsHidden : List ℕ → List Name → Name → Type 0
IsHidden text locals x = (outer : List Name) → named text (locals ++ outer) ≡ Some x

-- .. or no local
abbrev pub IsNotLocal : List ℕ → List Name → Type 0
IsNotLocal text locals = (outer : List Name) → named text (locals ++ outer) ≡ named text outer

-- ---- single values that are named

abbrev pub one_in : Seat → Shape → Option OneSeat
one_in seat (Single t) = Some (record { seat = seat; kind = t })
one_in seat (Many size items) = None

-- the single value of a name, if it is that of one
abbrev pub one_of : Name → Option OneSeat
one_of x = one_in x.seat x.shape

abbrev pub one_named : List Name → List ℕ → Option OneSeat
one_named names text = elim (named text names) [ None ↦ None | Some x ↦ one_of x ]
