-- What imports bring, and what a file sees of it (CAL Language Report, scoping).
--
-- If two imports bring different things under one name, the second breaks a rule, also if the file's own declaration
-- hides both. The same thing may be brought twice.
-- Trusted: part of what a promise means.
use Rattle.std.specs.Prelude.{ℕ, Bool, true, false, List, [], ◌∷◌, ◌++◌, Option, None, Some, is_some, option_map, if◌then◌else◌}
use Rattle.std.specs.Str.{bytes_eq}
use Rattle.rvc_base.specs.Rules.{declared_twice, import_not_found, unknown_name}
use Rattle.cal_ast.specs.Tree as tree
use Rattle.cal_ast.specs.Tree.{Tree}
use Rattle.cal_model.specs.Kinding.{Judged, Fine, Broken, and_so}
use Rattle.cal_scope.specs.Globals.{names_of_actor, with_all_declared}
use Rattle.cal_scope.specs.Names.{Global, global_named}
use Rattle.cal_imports.specs.Answer.{Answer, Gives, Refuses, and_then, in_file}
use Rattle.cal_imports.specs.Sources.{Source, source_named, body_of, dot, dotted, imports_of}

-- ---- what one import brings

-- if something is brought under its name already, whether that is the same
abbrev pub same_brought : Global → List Global → Option Bool
same_brought g here = option_map (λ known. bytes_eq known.full g.full) (global_named g.name here)

abbrev pub brought_beside : Option Bool → Global → (at : ℕ) → List Global → Judged (List Global)
brought_beside None g at here = Fine (here ++ g ∷ [])
brought_beside (Some true) g at here = Fine here
brought_beside (Some false) g at here = Broken declared_twice at

-- the names that are brought with one more, by an import at a place
abbrev pub with_brought : Global → (at : ℕ) → List Global → Judged (List Global)
with_brought g at here = brought_beside (same_brought g here) g at here

-- all names of a unit, as `*` brings them
abbrev pub with_all_brought : List Global → (at : ℕ) → List Global → Judged (List Global)
with_all_brought [] at here = Fine here
with_all_brought (g ∷ gs) at here =
    and_so (with_brought g at here) (λ next. with_all_brought gs at next)

-- one name of a unit, which is to declare it
abbrev pub asked_brought : Option Global → (place at : ℕ) → List Global → Judged (List Global)
asked_brought None place at here = Broken unknown_name place
asked_brought (Some g) place at here = with_brought g at here

abbrev pub one_brought : (name : List ℕ) → (place : ℕ) → (unit : List Global) → (at : ℕ)
    → List Global → Judged (List Global)
one_brought name place unit at here = asked_brought (global_named name unit) place at here

-- what an import of a unit with these names brings: the name that stands last, or all
abbrev pub with_last_brought : (last : Tree) → (unit : List Global) → (at : ℕ) → List Global
    → Judged (List Global)
with_last_brought (tree.present (tree.ident name place)) unit at here =
    one_brought name place unit at here
with_last_brought other unit at here = with_all_brought unit at here

-- ---- what a file's own declarations declare

-- The names of a unit's declarations: what stands for one of them is the unit's class, a dot and the name. An actor's
-- stand for themselves.
abbrev pub names_declared : (class : List ℕ) → (body : Tree) → Judged (List Global)
names_declared class (tree.unit name members at) =
    with_all_declared (class ++ dot ∷ []) members []
names_declared class (tree.actor name params ins outs members at) = names_of_actor params members
names_declared class other = Fine []

-- ---- what all imports of a file bring

-- what an import in the file of this number brings
abbrev pub unit_brought : Option Source → (file : ℕ) → (last : Tree) → (at : ℕ) → List Global
    → Answer (List Global)
unit_brought None file last at here = Refuses import_not_found file at
unit_brought (Some s) file last at here =
    and_then (in_file s.file (names_declared s.name (body_of s.tree)))
    (λ unit. in_file file (with_last_brought last unit at here))

abbrev pub import_brought : List Source → (file : ℕ) → Tree → List Global → Answer (List Global)
import_brought files file (tree.import_part path last at) here =
    unit_brought (source_named (dotted path) files) file last at here
import_brought files file other here = Gives here

abbrev pub imports_brought : List Source → (file : ℕ) → Tree → List Global → Answer (List Global)
imports_brought files file (tree.cons i is) here =
    and_then (import_brought files file i here) (λ next. imports_brought files file is next)
imports_brought files file other here = Gives here

-- ---- what a file sees

-- a file's own names with what is brought, of which they hide what has their names
abbrev pub with_seen : (brought own : List Global) → List Global
with_seen [] own = own
with_seen (g ∷ gs) own = with_seen gs (if is_some (global_named g.name own) then own
    else own ++ g ∷ [])

-- the names that a file sees: its own, and what its imports bring
abbrev pub names_seen : List Source → Source → Answer (List Global)
names_seen files s =
    and_then (in_file s.file (names_declared s.name (body_of s.tree)))
    (λ own. and_then (imports_brought files s.file (imports_of s.tree) [])
    (λ brought. Gives (with_seen brought own)))
