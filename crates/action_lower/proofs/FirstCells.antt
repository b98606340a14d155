-- The numbers of values, one after the other.
use Rattle.std.proofs.Common.{◌≡◌, ℕ, ◌+◌, ◌<◌, ◌≤◌, ℤ, List, [], ◌∷◌, ◌++◌, length, map, take, refl, sym, ap, ◌∙◌, arith, append_assoc, append-nil, length-append}
use Rattle.std.specs.Prelude.{get_or}
use Rattle.std.proofs.lemmas.List.{map-append, take_all, take_more}
use Rattle.cal_model.specs.Actor.{Actor, Held}
use Rattle.cal_model.specs.Selection.{first_vars, start_of}
use Rattle.cal_model.specs.Sound.{Each, IsSound, scalars_of_vars}
use Rattle.cal_model.specs.Value.{IsOf, IsType, Value, kind_of_type}
use Rattle.cal_model.specs.View.{in_order}
use Rattle.cal_model.proofs.KindValues.{of-type}
use Rattle.lower_base.specs.Flat.{flat, flat_all}
use Rattle.lower_base.proofs.Keeping.{flat_length, scalars_same}
use Rattle.action_lower.specs.Seats.{HoldVars, numbers_of_vars, state_cells}

first-taken : {X Y : Type 0} (f : X → Y) (xs : List X) (x : X) (i : ℕ) → i < length xs → x ≡ get_or xs i x → map f (take (i + 1) xs) ≡ map f (take i xs) ++ f x ∷ []
first-taken f xs x i small is = ap (map f) (take_more xs i x small ∙ ap (λ y. take i xs ++ y ∷ []) (sym is)) ∙ map-append f (take i xs) (x ∷ [])

-- ---- lists of values

one-more : (vs : List Value) (v : Value) → flat_all (in_order (vs ++ v ∷ [])) ≡ flat_all (in_order vs) ++ flat v
one-more [] v = append-nil (flat v)
one-more (u ∷ vs) v = ap (λ zs. flat u ++ zs) (one-more vs v) ∙ sym (append_assoc (flat u) (flat_all (in_order vs)) (flat v))

pub values-more : {X : Type 0} (f : X → Value) (xs : List X) (x : X) (i : ℕ) (old mid new : List ℤ) → i < length xs → x ≡ get_or xs i x
    → mid ≡ old ++ flat_all (in_order (map f (take i xs))) → new ≡ mid ++ flat (f x) → new ≡ old ++ flat_all (in_order (map f (take (i + 1) xs)))
values-more f xs x i old mid new small is before now =
    now ∙ ap (λ zs. zs ++ flat (f x)) before ∙ append_assoc old (flat_all (in_order (map f (take i xs)))) (flat (f x))
    ∙ ap (λ zs. old ++ zs) (sym (one-more (map f (take i xs)) (f x)) ∙ ap (λ vs. flat_all (in_order vs)) (sym (first-taken f xs x i small is)))

pub values-all : {X : Type 0} (f : X → Value) (xs : List X) (i : ℕ) (old new : List ℤ) → length xs ≤ i → new ≡ old ++ flat_all (in_order (map f (take i xs))) → new ≡ old ++ flat_all (in_order (map f xs))
values-all f xs i old new large h = h ∙ ap (λ ys. old ++ flat_all (in_order (map f ys))) (take_all i xs large)

-- ---- variables

var-more : (hs : List Held) (h : Held) → numbers_of_vars (first_vars (hs ++ h ∷ [])) ≡ numbers_of_vars (first_vars hs) ++ flat h.value
var-more [] h = append-nil (flat h.value)
var-more (g ∷ hs) h = ap (λ zs. flat g.value ++ zs) (var-more hs h) ∙ sym (append_assoc (flat g.value) (numbers_of_vars (first_vars hs)) (flat h.value))

pub vars-more : {X : Type 0} (f : X → Held) (xs : List X) (x : X) (i : ℕ) (mid new : List ℤ) → i < length xs → x ≡ get_or xs i x
    → mid ≡ numbers_of_vars (first_vars (map f (take i xs))) → new ≡ mid ++ flat (f x).value → new ≡ numbers_of_vars (first_vars (map f (take (i + 1) xs)))
vars-more f xs x i mid new small is before now =
    now ∙ ap (λ zs. zs ++ flat (f x).value) before ∙ sym (var-more (map f (take i xs)) (f x)) ∙ ap (λ hs. numbers_of_vars (first_vars hs)) (sym (first-taken f xs x i small is))

pub vars-all : {X : Type 0} (f : X → Held) (xs : List X) (i : ℕ) (new : List ℤ) → length xs ≤ i → new ≡ numbers_of_vars (first_vars (map f (take i xs))) → new ≡ numbers_of_vars (first_vars (map f xs))
vars-all f xs i new large h = h ∙ ap (λ ys. numbers_of_vars (first_vars (map f ys))) (take_all i xs large)

as-many : (hs : List Held) → Each (λ h. IsType h.shape × IsOf h.shape h.value) hs → length (numbers_of_vars (first_vars hs)) ≡ scalars_of_vars hs
as-many [] types = refl
as-many (h ∷ hs) types =
    let kind = of-type h.value h.shape types.0.0 types.0.1 in
    let first = flat_length (kind_of_type h.shape) h.value kind ∙ scalars_same h.shape in
    let rest = as-many hs types.1 in
    omega (arith, length-append (flat h.value) (numbers_of_vars (first_vars hs)), first, rest)

pub first-size : (actor : Actor) (cells : List ℤ) → IsSound actor → cells ≡ numbers_of_vars (start_of actor).vars → length cells ≡ state_cells actor
first-size actor cells sound is = ap length is ∙ as-many actor.vars sound.vars

pub first-hold : (actor : Actor) (cells : List ℤ) → IsSound actor → cells ≡ numbers_of_vars (start_of actor).vars → HoldVars actor (start_of actor) cells
first-hold actor cells sound is = let size = first-size actor cells sound is in take_all (state_cells actor) cells (omega (arith, size)) ∙ is
