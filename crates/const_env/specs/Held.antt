-- What an environment of constant expressions holds, without where it lies in memory.
-- Trusted: part of what a promise means.
use Rattle.std.specs.Prelude.{List, [], ◌∷◌, map, option_map, string_bytes}
use Rattle.cal_model.specs.Kinding.{Known, Names}
use Rattle.cal_model.specs.View.{fun_view, kind_view, value_view}
use Rattle.cal_model.specs.declared.bound.BoundFun.{BoundFun}
use Rattle.const_env.specs.Constants.{Constants, constants_among}
use Rattle.const_env.specs.declared.held.Entry.{Entry}

-- the names and the functions as they were added
pub record Kept : Type 0 where
  pub entries : List Entry
  pub funs : List BoundFun

abbrev pub entry_view : Entry → Known
entry_view x = record {
  name = string_bytes x.name;
  kind = kind_view x.kind;
  value = option_map value_view x.value;
  changes = x.changes;
}

-- parts as they are seen, the last one first, and then others
abbrev pub last_first : {X Y : Type 0} → (X → Y) → List X → List Y → List Y
last_first view [] later = later
last_first view (x ∷ xs) later = last_first view xs (view x ∷ later)

-- the names, the one that was added last first
abbrev pub globals_of : Kept → List Known
globals_of env = last_first entry_view env.entries []

-- all of it, as names with their kinds
abbrev pub names_in : Kept → Names
names_in env = record { globals = globals_of env; locals = []; funs = map fun_view env.funs }

-- the constants among the names, and the functions
abbrev pub held : Kept → Constants
held env = record { values = constants_among (globals_of env); funs = map fun_view env.funs }
