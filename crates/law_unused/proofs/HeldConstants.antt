-- In each state of an actor that has all variables of its source the constants of the source have their values.
use Rattle.std.proofs.Common.{◌≡◌, ℕ, Bool, true, false, List, [], ◌∷◌, map, refl, sym, ap, subst, ◌∙◌, Contains, Option, None, Some}
use Rattle.std.specs.Prelude.{if◌then◌else◌}
use Rattle.std.specs.Str.{bytes_eq}
use Rattle.cal_model.specs.Actor.{Held}
use Rattle.cal_model.specs.ActorState.{AreVarsOf, IsVarOf}
use Rattle.cal_model.specs.Env.{Var, find}
use Rattle.cal_model.specs.Kinding.{Known, constants, without}
use Rattle.cal_model.specs.Sound.{AreDistinct, Each, known_of}
use Rattle.cal_model.specs.Value.{Value}
use Rattle.cal_model.proofs.KindNames.{same-text, text-same}
use Rattle.cal_check.specs.Meaning.{HasConstants}
use Rattle.cal_check.proofs.Lists.{at-head, in-rest}
use Rattle.cal_check.proofs.RestNames.{rest_behind}

-- ---- what is found under a name

-- under its name there is the value of a constant
abbrev IsFound : List Var → List ℕ → Option Value → Type 0
IsFound vars name value = (v : Value) → value ≡ Some v → find name vars ≡ Some v

-- one variable more, of another name
passed : (x : Var) (vars : List Var) (name : List ℕ) (value : Option Value) → (x.name ≡ name → ⊥) → IsFound vars name value → IsFound (x ∷ vars) name value
passed x vars name value other h v e = go (bytes_eq x.name name) refl
  where
    go : (b : Bool) → bytes_eq x.name name ≡ b → (if b then Some x.value else find name vars) ≡ Some v
    go true i = absurd (other (same-text x.name name i))
    go false i = h v e

all-passed : (x : Var) (vars : List Var) (hs : List Held) → ((Contains (map (λ h. h.name) hs) x.name) → ⊥) → Each (λ h. IsFound vars h.name (known_of h).value) hs
    → Each (λ h. IsFound (x ∷ vars) h.name (known_of h).value) hs
all-passed x vars [] out e = tt
all-passed x vars (h ∷ hs) out e = (
  passed x vars h.name (known_of h).value (λ same. out (at-head x.name h.name (map (λ y. y.name) hs) (sym same))) e.0,
  all-passed x vars hs (λ c. out (in-rest x.name h.name (map (λ y. y.name) hs) c)) e.1,
)

-- a variable that is a constant has its value
first-found : (h : Held) (x : Var) (vars : List Var) → IsVarOf h x → IsFound (x ∷ vars) h.name (known_of h).value
first-found h x vars is v e = go h.changes refl e
  where
    here : bytes_eq x.name h.name ≡ true
    here = ap (λ n. bytes_eq n h.name) is.name ∙ text-same h.name

    go : (b : Bool) → h.changes ≡ b → (if b then None else Some h.value) ≡ Some v → (if bytes_eq x.name h.name then Some x.value else find h.name vars) ≡ Some v
    go true c i = absurd (let no : None ≡ Some v = i in cc)
    go false c i = ap (λ b. if b then Some x.value else find h.name vars) here ∙ ap Some (is.constant c) ∙ i

held-found : (hs : List Held) (xs : List Var) → AreVarsOf hs xs → AreDistinct (map (λ h. h.name) hs) → Each (λ h. IsFound xs h.name (known_of h).value) hs
held-found [] [] are d = tt
held-found [] (x ∷ xs) are d = absurd are
held-found (h ∷ hs) [] are d = absurd are
held-found (h ∷ hs) (x ∷ xs) are d = (
  first-found h x xs are.0,
  all-passed x xs hs (λ c. d.0 (subst (Contains (map (λ y. y.name) hs)) are.0.name c)) (held-found hs xs are.1 d.1),
)

-- ---- constants

each-behind : (P : Known → Type 0) (xs : List Held) (known : List Known) → Each (λ x. P (known_of x)) xs → Each P known → Each P (rest_behind xs known)
each-behind P [] known h k = k
each-behind P (x ∷ xs) known h k = each-behind P xs (known_of x ∷ known) h.1 (h.0, k)

without-each : (P : Var → Type 0) (name : List ℕ) (xs : List Var) → Each P xs → Each P (without name xs)
without-each P name [] h = tt
without-each P name (x ∷ xs) h = go (bytes_eq x.name name) (without-each P name xs h.1)
  where
    go : (b : Bool) → Each P (without name xs) → Each P (if b then without name xs else x ∷ without name xs)
    go true rest = rest
    go false rest = (h.0, rest)

-- a constant whose value is found
abbrev HasOwn : List Var → Var → Type 0
HasOwn vars z = find z.name vars ≡ Some z.value

constants-own : (vars : List Var) (ks : List Known) → Each (λ k. IsFound vars k.name k.value) ks → Each (HasOwn vars) (constants ks)
constants-own vars [] h = tt
constants-own vars (k ∷ ks) h = go k.value h.0 (constants-own vars ks h.1)
  where
    go : (o : Option Value) → IsFound vars k.name o → Each (HasOwn vars) (constants ks)
        → Each (HasOwn vars) (elim o [ None ↦ without k.name (constants ks) | Some v ↦ record { name = k.name; value = v; kept = None } ∷ constants ks ])
    go None f rest = without-each (HasOwn vars) k.name (constants ks) rest
    go (Some v) f rest = (f v refl, rest)

has-own : (vars zs : List Var) → Each (HasOwn vars) zs → (name : List ℕ) (v : Value) → find name zs ≡ Some v → find name vars ≡ Some v
has-own vars [] h name v e = absurd (let no : None ≡ Some v = e in cc)
has-own vars (z ∷ zs) h name v e = go (bytes_eq z.name name) refl e (λ i. has-own vars zs h.1 name v i)
  where
    go : (b : Bool) → bytes_eq z.name name ≡ b → (if b then Some z.value else find name zs) ≡ Some v → (find name zs ≡ Some v → find name vars ≡ Some v) → find name vars ≡ Some v
    go true s i rest = ap (λ n. find n vars) (sym (same-text z.name name s)) ∙ h.0 ∙ i
    go false s i rest = rest i

pub vars-have-constants : (hs : List Held) (xs : List Var) → AreVarsOf hs xs → AreDistinct (map (λ h. h.name) hs) → HasConstants (rest_behind hs []) xs
vars-have-constants hs xs are d name v e =
    has-own xs (constants (rest_behind hs [])) (constants-own xs (rest_behind hs []) (each-behind (λ k. IsFound xs k.name k.value) hs [] (held-found hs xs are d) tt)) name v e
