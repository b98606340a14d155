-- What names mean among locals, arguments and constants.
use Rattle.std.proofs.Common.{◌≡◌, ℕ, Bool, true, false, List, [], ◌∷◌, ◌++◌, map, refl, sym, ap, subst, ◌∙◌, arith}
use Rattle.std.specs.Prelude.{Option, None, Some, option_map, if◌then◌else◌}
use Rattle.std.specs.Str.{bytes_eq}
use Rattle.std.proofs.lemmas.Slice.Eq.{bytes_eq-Decides}
use Rattle.cal_model.specs.Value.{Value}
use Rattle.cal_model.specs.Env.{Var, find}
use Rattle.cal_model.specs.Kinding.{Known, known_as, without}
use Rattle.const_env.specs.Constants.{Constant, constant_named, constants_among, other_constants, var_of}
use Rattle.const_env.specs.Counting.{Variable, known_variable, hide, Use, use_of}

first : (b : Bool) (w : Value) (o p : Option Value) (v : Value) → (if b then Some w else o) ≡ Some v → (o ≡ Some v → p ≡ Some v) → (if b then Some w else p) ≡ Some v
first true w o p v h e = h
first false w o p v h e = e h

next : (b : Bool) (w : Value) (o p q : Option Value) → (if b then Some w else o) ≡ None → (o ≡ None → p ≡ q) → (if b then Some w else p) ≡ q
next true w o p q h e = cc
next false w o p q h e = e h

pub find_first : (name : List ℕ) (xs ys : List Var) (v : Value) → find name xs ≡ Some v → find name (xs ++ ys) ≡ Some v
find_first name [] ys v h = cc
find_first name (x ∷ xs) ys v h = first (bytes_eq x.name name) x.value (find name xs) (find name (xs ++ ys)) v h (find_first name xs ys v)

pub find_next : (name : List ℕ) (xs ys : List Var) → find name xs ≡ None → find name (xs ++ ys) ≡ find name ys
find_next name [] ys h = refl
find_next name (x ∷ xs) ys h = next (bytes_eq x.name name) x.value (find name xs) (find name (xs ++ ys)) (find name ys) h (find_next name xs ys)

pub seen_local : (name : List ℕ) (xs ys zs : List Var) (v : Value) → find name xs ≡ Some v → find name ((xs ++ ys) ++ zs) ≡ Some v
seen_local name xs ys zs v h = find_first name (xs ++ ys) zs v (find_first name xs ys v h)

pub seen_argument : (name : List ℕ) (xs ys zs : List Var) (v : Value) → find name xs ≡ None → find name ys ≡ Some v → find name ((xs ++ ys) ++ zs) ≡ Some v
seen_argument name xs ys zs v h e = find_first name (xs ++ ys) zs v (find_next name xs ys h ∙ e)

pub seen_global : (name : List ℕ) (xs ys zs : List Var) → find name xs ≡ None → find name ys ≡ None → find name ((xs ++ ys) ++ zs) ≡ find name zs
seen_global name xs ys zs h e = find_next name (xs ++ ys) zs (find_next name xs ys h ∙ e)

pub find_constant : (name : List ℕ) (cs : List Constant) → find name (map var_of cs) ≡ constant_named name cs
find_constant name [] = refl
find_constant name (c ∷ cs) = ap (λ o. if bytes_eq c.name name then Some c.value else o) (find_constant name cs)

-- ---- names that are hidden

-- a value, unless a name without one hides it
abbrev pub unless_known : Option Known → Option Value → Option Value
unless_known None p = p
unless_known (Some x) p = None

hidden-first : (b c : Bool) (v : Value) (o p : Option Value) → (c ≡ true → b ≡ false) → o ≡ (if c then None else p) → (if b then Some v else o) ≡ (if c then None else if b then Some v else p)
hidden-first true true v o p h e = let no : true ≡ false = h refl in absurd (grind arith)
hidden-first true false v o p h e = refl
hidden-first false c v o p h e = e

either : (b : Bool) (x : Known) (o : Option Known) (p : Option Value) → (if b then None else unless_known o p) ≡ unless_known (if b then Some x else o) p
either true x o p = refl
either false x o p = refl

none-left : (b : Bool) (o : Option Value) → o ≡ None → o ≡ (if b then None else o)
none-left true o e = e
none-left false o e = refl

dropped : (b c : Bool) (v : Value) (o : Option Value) → c ≡ b → (if b then None else o) ≡ (if b then None else if c then Some v else o)
dropped true c v o e = refl
dropped false c v o e = ap (λ d. if d then Some v else o) (sym e)

other-name : (name other this : List ℕ) → bytes_eq this other ≡ false → other ≡ name → bytes_eq this name ≡ false
other-name name other this f is = subst (λ n. bytes_eq this n ≡ false) is f

one-less : (name other : List ℕ) (x : Var) (xs : List Var) (b : Bool) → bytes_eq x.name other ≡ b → find name (without other xs) ≡ (if bytes_eq other name then None else find name xs)
    → find name (if b then without other xs else x ∷ without other xs) ≡ (if bytes_eq other name then None else if bytes_eq x.name name then Some x.value else find name xs)
one-less name other x xs true e rest =
    rest ∙ dropped (bytes_eq other name) (bytes_eq x.name name) x.value (find name xs) (ap (λ n. bytes_eq n name) ((bytes_eq-Decides x.name other).0 e))
one-less name other x xs false e rest =
    hidden-first (bytes_eq x.name name) (bytes_eq other name) x.value (find name (without other xs)) (find name xs) (λ h. other-name name other x.name e ((bytes_eq-Decides other name).0 h)) rest

-- another name isn't found among those of this one
pub find_without : (name other : List ℕ) (xs : List Var) → find name (without other xs) ≡ (if bytes_eq other name then None else find name xs)
find_without name other [] = none-left (bytes_eq other name) (find name []) refl
find_without name other (x ∷ xs) = one-less name other x xs (bytes_eq x.name other) refl (find_without name other xs)

pub find_hidden : (name : List ℕ) (vs : List Variable) (xs : List Var) → find name (hide vs xs) ≡ unless_known (known_as name (map known_variable vs)) (find name xs)
find_hidden name [] xs = refl
find_hidden name (v ∷ vs) xs =
    find_without name v.name (hide vs xs)
    ∙ ap (λ o. if bytes_eq v.name name then None else o) (find_hidden name vs xs)
    ∙ either (bytes_eq v.name name) (known_variable v) (known_as name (map known_variable vs)) (find name xs)

hidden : (o : Option Known) (p : Option Value) (u : Use) → Some u ≡ option_map use_of o → unless_known o p ≡ None
hidden None p u e = cc
hidden (Some x) p u e = refl

not-hidden : (o : Option Known) (p : Option Value) → None ≡ option_map use_of o → unless_known o p ≡ p
not-hidden None p e = refl
not-hidden (Some x) p e = cc

-- a name that is hidden means nothing
pub seen_hidden : (name : List ℕ) (xs ys : List Var) (vs : List Variable) (cs : List Constant) (u : Use) → find name xs ≡ None → find name ys ≡ None → Some u ≡ option_map use_of (known_as name (map known_variable vs))
    → find name ((xs ++ ys) ++ hide vs (map var_of cs)) ≡ None
seen_hidden name xs ys vs cs u h e f =
    seen_global name xs ys (hide vs (map var_of cs)) h e ∙ find_hidden name vs (map var_of cs) ∙ hidden (known_as name (map known_variable vs)) (find name (map var_of cs)) u f

pub seen_constant : (name : List ℕ) (xs ys : List Var) (vs : List Variable) (cs : List Constant) → find name xs ≡ None → find name ys ≡ None → None ≡ option_map use_of (known_as name (map known_variable vs))
    → find name ((xs ++ ys) ++ hide vs (map var_of cs)) ≡ constant_named name cs
seen_constant name xs ys vs cs h e f =
    seen_global name xs ys (hide vs (map var_of cs)) h e ∙ find_hidden name vs (map var_of cs) ∙ not-hidden (known_as name (map known_variable vs)) (find name (map var_of cs)) f ∙ find_constant name cs

-- ---- constants by the entries of their names

abbrev pub value_known : Option Known → Option Value
value_known None = None
value_known (Some x) = x.value

find_others : (name other : List ℕ) (cs : List Constant) → constant_named name (other_constants other cs) ≡ (if bytes_eq other name then None else constant_named name cs)
find_others name other [] = none-left (bytes_eq other name) None refl
find_others name other (c ∷ cs) = go (bytes_eq c.name other) refl (find_others name other cs)
  where
    go : (b : Bool) → bytes_eq c.name other ≡ b → constant_named name (other_constants other cs) ≡ (if bytes_eq other name then None else constant_named name cs)
        → constant_named name (if b then other_constants other cs else c ∷ other_constants other cs) ≡ (if bytes_eq other name then None else if bytes_eq c.name name then Some c.value else constant_named name cs)
    go true e rest = rest ∙ dropped (bytes_eq other name) (bytes_eq c.name name) c.value (constant_named name cs) (ap (λ n. bytes_eq n name) ((bytes_eq-Decides c.name other).0 e))
    go false e rest = hidden-first (bytes_eq c.name name) (bytes_eq other name) c.value (constant_named name (other_constants other cs)) (constant_named name cs) (λ h. other-name name other c.name e ((bytes_eq-Decides other name).0 h)) rest

pub constant_known : (name : List ℕ) (ks : List Known) → constant_named name (constants_among ks) ≡ value_known (known_as name ks)
constant_known name [] = refl
constant_known name (k ∷ ks) = by_value k.value refl (constant_known name ks)
  where
    by_name : (b : Bool) (v : Value) (o : Option Known) (p : Option Value) → k.value ≡ Some v → p ≡ value_known o → (if b then Some v else p) ≡ value_known (if b then Some k else o)
    by_name true v o p e f = sym e
    by_name false v o p e f = f

    by_none : (b : Bool) (o : Option Known) (p : Option Value) → k.value ≡ None → p ≡ value_known o → (if b then None else p) ≡ value_known (if b then Some k else o)
    by_none true o p e f = sym e
    by_none false o p e f = f

    by_value : (v : Option Value) → k.value ≡ v → constant_named name (constants_among ks) ≡ value_known (known_as name ks)
        → constant_named name (elim v [ None ↦ other_constants k.name (constants_among ks) | Some w ↦ record { name = k.name; value = w } ∷ constants_among ks ]) ≡ value_known (if bytes_eq k.name name then Some k else known_as name ks)
    by_value None e rest = find_others name k.name (constants_among ks) ∙ by_none (bytes_eq k.name name) (known_as name ks) (constant_named name (constants_among ks)) e rest
    by_value (Some w) e rest = by_name (bytes_eq k.name name) w (known_as name ks) (constant_named name (constants_among ks)) e rest

-- the value of an entry that is known, or none
pub value_found : (name : List ℕ) (ks : List Known) (x : Known) (o : Option Value) → Some x ≡ known_as name ks → o ≡ x.value → o ≡ constant_named name (constants_among ks)
value_found name ks x o e f = f ∙ ap value_known e ∙ sym (constant_known name ks)
