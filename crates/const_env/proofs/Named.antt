-- What names mean, and what constant expressions see, inside names without a value.
use Rattle.std.proofs.Common.{◌≡◌, ℕ, Bool, true, false, List, [], ◌∷◌, ◌++◌, map, refl, sym, ap, ◌∙◌}
use Rattle.std.specs.Prelude.{Option, None, Some, option_map, if◌then◌else◌}
use Rattle.std.specs.Str.{bytes_eq}
use Rattle.cal_model.specs.Value.{Kind, Value}
use Rattle.cal_model.specs.Kinding.{Judged, Fine, Broken, Known, known_as, constants, without}
use Rattle.rvc_base.specs.Rules.{unknown_name}
use Rattle.const_env.specs.Constants.{Constant, constants_among, other_constants, var_of}
use Rattle.const_env.specs.Counting.{Variable, known_variable, hide, Use, use_of}

-- ---- the first of two lists, or the second

abbrev pub or_else : Option Known → Option Known → Option Known
or_else None p = p
or_else (Some x) p = Some x

chosen : (b : Bool) (x : Known) (o p : Option Known) → (if b then Some x else or_else o p) ≡ or_else (if b then Some x else o) p
chosen true x o p = refl
chosen false x o p = refl

pub known_either : (name : List ℕ) (xs ys : List Known) → known_as name (xs ++ ys) ≡ or_else (known_as name xs) (known_as name ys)
known_either name [] ys = refl
known_either name (x ∷ xs) ys = ap (λ o. if bytes_eq x.name name then Some x else o) (known_either name xs ys) ∙ chosen (bytes_eq x.name name) x (known_as name xs) (known_as name ys)

-- a name that is known in the first list
pub use_first : (o p : Option Known) (u : Use) → Some u ≡ option_map use_of o → Some u ≡ option_map use_of (or_else o p)
use_first None p u e = cc
use_first (Some x) p u e = e

-- .. or isn't
pub use_second : (o p : Option Known) → None ≡ option_map use_of o → p ≡ or_else o p
use_second None p e = refl
use_second (Some x) p e = cc

-- the kind of a name by its use
abbrev pub kind_known : Option Known → ℕ → Judged Kind
kind_known o at = elim o [ None ↦ Broken unknown_name at | Some x ↦ Fine x.kind ]

pub kind_used : (o : Option Known) (u : Use) (at : ℕ) → Some u ≡ option_map use_of o → kind_known o at ≡ Fine u.kind
kind_used None u at e = cc
kind_used (Some x) u at e =
    let same : u ≡ use_of x = cc in
    ap (λ v. Fine v.kind) (sym same)

pub kind_unknown : (o : Option Known) (at : ℕ) → None ≡ option_map use_of o → kind_known o at ≡ Broken unknown_name at
kind_unknown None at e = refl
kind_unknown (Some x) at e = cc

-- ---- constants among names

others_are : (name : List ℕ) (cs : List Constant) → map var_of (other_constants name cs) ≡ without name (map var_of cs)
others_are name [] = refl
others_are name (c ∷ cs) = go (bytes_eq c.name name) (others_are name cs)
  where
    go : (b : Bool) → map var_of (other_constants name cs) ≡ without name (map var_of cs)
        → map var_of (if b then other_constants name cs else c ∷ other_constants name cs) ≡ (if b then without name (map var_of cs) else var_of c ∷ without name (map var_of cs))
    go true rest = rest
    go false rest = ap (λ xs. var_of c ∷ xs) rest

pub constants_are : (ks : List Known) → map var_of (constants_among ks) ≡ constants ks
constants_are [] = refl
constants_are (k ∷ ks) = go k.value (constants_are ks)
  where
    go : (v : Option Value) → map var_of (constants_among ks) ≡ constants ks
        → map var_of (elim v [ None ↦ other_constants k.name (constants_among ks) | Some w ↦ record { name = k.name; value = w } ∷ constants_among ks ])
        ≡ elim v [ None ↦ without k.name (constants ks) | Some w ↦ record { name = k.name; value = w; kept = None } ∷ constants ks ]
    go None rest = others_are k.name (constants_among ks) ∙ ap (without k.name) rest
    go (Some w) rest = ap (λ xs. record { name = k.name; value = w; kept = None } ∷ xs) rest

-- .. and those that no name without a value hides
pub hidden_constants : (vs : List Variable) (ks : List Known) → constants (map known_variable vs ++ ks) ≡ hide vs (map var_of (constants_among ks))
hidden_constants [] ks = sym (constants_are ks)
hidden_constants (v ∷ vs) ks = ap (without v.name) (hidden_constants vs ks)
