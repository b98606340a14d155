-- Names that are known, and functions as they are declared, without where they lie in memory.
-- Trusted but for `value_seen`, `known_at` and `AreNew`: part of what a promise means.
use Rattle.std.specs.Prelude.{◌≡◌, ℕ, Bool, true, false, not, ◌&&◌, ◌||◌, List, [], ◌∷◌, map, string_bytes, Option, None, Some, if◌then◌else◌}
use Rattle.std.specs.Str.{bytes_eq}
use Rattle.cal_ast.specs.View.{function_tree}
use Rattle.cal_model.specs.Actor.{Fun}
use Rattle.cal_model.specs.Kinding.{Known, Names}
use Rattle.cal_model.specs.Value.{Value}
use Rattle.cal_model.specs.View.{kind_view, value_view}
use Rattle.const_env.specs.Constants.{has_fun}
use Rattle.const_env.specs.Held.{last_first}
use Rattle.cal_check.specs.Routines.{FunDecl}
use Rattle.check_functions.specs.declared.known.KnownName.{KnownName}
use Rattle.check_functions.specs.declared.declared.DeclaredFun.{DeclaredFun}

-- ---- names

abbrev pub known_view : KnownName → Known
known_view x = record {
  name = string_bytes x.name;
  kind = kind_view x.kind;
  value = Some (value_view x.value);
  changes = x.changes;
}

-- the one that became known last first
abbrev pub all_known : List KnownName → List Known
all_known xs = last_first known_view xs []

-- the value that is seen of a name: none at rest if it changes
abbrev pub value_seen : Bool → Bool → Value → Option Value
value_seen rest changes v = if rest && changes then None else Some v

abbrev pub known_at : Bool → KnownName → Known
known_at rest x = record {
  name = string_bytes x.name;
  kind = kind_view x.kind;
  value = value_seen rest x.changes (value_view x.value);
  changes = x.changes;
}

-- names without functions
abbrev pub names_alone : List Known → Names
names_alone known = record { globals = known; locals = []; funs = [] }

-- ---- functions

abbrev pub fun_decl : DeclaredFun → FunDecl
fun_decl f = record { name = f.name.now; file = f.file; decl = function_tree f.decl.now }

abbrev pub fun_decls : List DeclaredFun → List FunDecl
fun_decls fs = map fun_decl fs

abbrev pub is_named_in : List ℕ → List FunDecl → Bool
is_named_in name [] = false
is_named_in name (f ∷ fs) = bytes_eq name f.name || is_named_in name fs

-- no two functions have one name
abbrev pub names_differ : List FunDecl → Bool
names_differ [] = true
names_differ (f ∷ fs) = not (is_named_in f.name fs) && names_differ fs

-- none of these is among functions that were found
abbrev pub AreNew : List FunDecl → List Fun → Type 0
AreNew [] found = Unit {0}
AreNew (f ∷ fs) found = (has_fun f.name found ≡ false) × AreNew fs found
