-- A type that is seen to be one of single values is that.
use Rattle.std.proofs.Common.{◌≡◌, ℕ, ℤ, pos, negsuc, Bool, true, false, refl, sym, ap, ◌∙◌, subst, List, [], ◌∷◌, ◌≤◌, length, Option, None, Some, arith}
use Rattle.std.specs.Prelude.{if◌then◌else◌, codes, ◌&&◌, nat_le}
use Rattle.std.specs.Str.{bytes_eq}
use Rattle.std.proofs.lemmas.Bool.Decides.{nat_tests}
use Rattle.rvc_base.specs.declared.scalar.Scalar.{Scalar}
use Rattle.rvc_base.specs.declared.scalar.Scalar.TheVariants as scalar
use Rattle.rvc_base.specs.Storing.{IsSize}
use Rattle.rvc_base.specs.Turns.{max_turns}
use Rattle.rvc_base.specs.Width.{max_size}
use Rattle.cal_ast.specs.Tree as tree
use Rattle.cal_ast.specs.Tree.{Tree, listed}
use Rattle.cal_model.specs.Value.{Shape, Single, Many, Value}
use Rattle.cal_model.specs.Outcome.{Out, Gives, and_then, alone, needed}
use Rattle.cal_model.specs.Env.{Env}
use Rattle.cal_model.specs.Expression.{Calls, Given, args_given, bits, size_of_value, type_meant, type_named}
use Rattle.lower_base.specs.Bounds.{bound_of}
use Rattle.lower_base.specs.Meant.{literal_size, single_in, single_meant, size_of, size_of_arg, size_written}
use Rattle.lower_base.proofs.Bounded.{bound_gives}

abbrev given : Option ℕ → Given
given size = record { items = None; size = size }

none_some : (size : Option ℕ) → ◌≡◌ {A = Option (Option ℕ)} None (Some size) → ⊥
none_some size e = cc

-- a size that is written out is a number
pub record IsSized (value : Tree) (size : Option ℕ) : Type 0 where
  pub number : ℕ
  pub is : size ≡ Some number
  pub bound : bound_of value ≡ Some (pos number)

pub sized_by : (value : Tree) (size : Option ℕ) → literal_size value ≡ Some size → IsSized value size
sized_by value size e = go (bound_of value) refl e
  where
    go : (o : Option ℤ) → bound_of value ≡ o → size_of o ≡ Some size → IsSized value size
    go None p h = cc
    go (Some (pos n)) p h = let same : Some n ≡ size = cc in record { number = n; is = sym same; bound = p }
    go (Some (negsuc n)) p h = cc

-- what an argument gives
pub arg_is : (arg : Tree) (size : Option ℕ) (calls : Calls) (env : Env) (left : ℕ) → size_of_arg arg ≡ Some size → args_given (tree.cons arg tree.nil) calls env left ≡ Gives (given size) left
arg_is (tree.value_arg name value) size calls env left e =
    let f : IsSized value size = sized_by value size e in
    ap (λ (o : Out Value). and_then (alone o left) (λ v m. Gives (given (size_of_value v)) m)) (bound_gives value (pos f.number) calls env max_turns f.bound)
    ∙ ap (λ s. Gives (given s) left) (sym f.is)
arg_is other size calls env left e = absurd (none_some size e)

-- what the arguments give
args_are : (args : Tree) (size : Option ℕ) (calls : Calls) (env : Env) (left : ℕ) → size_written args ≡ Some size → args_given args calls env left ≡ Gives (given size) left
args_are tree.nil size calls env left e = let same : None ≡ size = cc in ap (λ s. Gives (given s) left) same
args_are (tree.cons arg tree.nil) size calls env left e = arg_is arg size calls env left e
args_are other size calls env left e = absurd (none_some size e)

-- a type of a size that a type may have
bits_sized : (size : Option ℕ) (t : Scalar) → single_in (bits size (λ n. Single (scalar.Int n))) ≡ Some t → IsSize t
bits_sized None t e = let same : scalar.Int 32 ≡ t = cc in subst IsSize same (omega arith, omega arith)
bits_sized (Some n) t e = go (nat_le 1 n && nat_le n max_size) refl e
  where
    go : (b : Bool) → nat_le 1 n && nat_le n max_size ≡ b → single_in (if b then Some (Single (scalar.Int n)) else None) ≡ Some t → IsSize t
    go true is h = let same : scalar.Int n ≡ t = cc in subst IsSize same (grind (arith, nat_tests, is), grind (arith, nat_tests, is))
    go false is h = cc

bits_sized_uint : (size : Option ℕ) (t : Scalar) → single_in (bits size (λ n. Single (scalar.Uint n))) ≡ Some t → IsSize t
bits_sized_uint None t e = let same : scalar.Uint 32 ≡ t = cc in subst IsSize same (omega arith, omega arith)
bits_sized_uint (Some n) t e = go (nat_le 1 n && nat_le n max_size) refl e
  where
    go : (b : Bool) → nat_le 1 n && nat_le n max_size ≡ b → single_in (if b then Some (Single (scalar.Uint n)) else None) ≡ Some t → IsSize t
    go true is h = let same : scalar.Uint n ≡ t = cc in subst IsSize same (grind (arith, nat_tests, is), grind (arith, nat_tests, is))
    go false is h = cc

named_sized : (name : List ℕ) (size : Option ℕ) (t : Scalar) → single_in (type_named name (record { items = None; size = size })) ≡ Some t → IsSize t
named_sized name size t e = go (bytes_eq name (codes "bool")) (bytes_eq name (codes "int")) (bytes_eq name (codes "uint")) (bytes_eq name (codes "List")) e
  where
    go : (a b c d : Bool) → single_in (if a then Some (Single scalar.Bool) else if b then bits size (λ n. Single (scalar.Int n)) else if c then bits size (λ n. Single (scalar.Uint n)) else if d then None else None) ≡ Some t → IsSize t
    go true b c d h = let same : scalar.Bool ≡ t = cc in subst IsSize same tt
    go false true c d h = bits_sized size t h
    go false false true d h = bits_sized_uint size t h
    go false false false true h = cc
    go false false false false h = cc

single_is : (o : Option Shape) (t : Scalar) → single_in o ≡ Some t → o ≡ Some (Single t)
single_is None t e = cc
single_is (Some (Single s)) t e = let same : s ≡ t = cc in ap (λ r. Some (Single r)) same
single_is (Some (Many n items)) t e = cc

pub meant_is : (shape : Tree) (t : Scalar) (calls : Calls) (env : Env) (left : ℕ) → single_meant shape ≡ Some t → type_meant shape calls env left ≡ Gives (Single t) left
meant_is (tree.type_of (tree.ident name place) args at) t calls env left e = go (size_written args) refl e
  where
    go : (o : Option (Option ℕ)) → size_written args ≡ o → elim o [ None ↦ None | Some size ↦ single_in (type_named name (record { items = None; size = size })) ] ≡ Some t
        → and_then (args_given args calls env left) (λ g m. needed (type_named name g) m) ≡ Gives (Single t) left
    go None is h = cc
    go (Some size) is h =
        ap (λ (o : Out Given). and_then o (λ g m. needed (type_named name g) m)) (args_are args size calls env left is)
        ∙ ap (λ o. needed o left) (single_is (type_named name (record { items = None; size = size })) t h)
meant_is other t calls env left e = cc

pub meant_sized : (shape : Tree) (t : Scalar) → single_meant shape ≡ Some t → IsSize t
meant_sized (tree.type_of (tree.ident name place) args at) t e = go (size_written args) e
  where
    go : (o : Option (Option ℕ)) → elim o [ None ↦ None | Some size ↦ single_in (type_named name (record { items = None; size = size })) ] ≡ Some t → IsSize t
    go None h = cc
    go (Some size) h = named_sized name size t h
meant_sized other t e = cc

-- a type with several arguments is none that is seen
pub many_args : (ts : List Tree) → 2 ≤ length ts → size_written (listed ts) ≡ None
many_args [] h = absurd (omega arith)
many_args (x ∷ []) h = absurd (omega arith)
many_args (x ∷ y ∷ ts) h = refl
