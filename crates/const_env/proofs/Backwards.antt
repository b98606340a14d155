-- Names that are sought from the last one on.
use Rattle.std.proofs.Common.{◌≡◌, ℕ, Bool, true, false, List, [], ◌∷◌, ◌++◌, map, length, refl, sym, ap, ◌∙◌, arith}
use Rattle.std.proofs.lemmas.List.{map-append}
use Rattle.std.specs.Prelude.{Option, None, Some, if◌then◌else◌}
use Rattle.std.specs.Str.{bytes_eq}
use Rattle.cal_model.specs.Kinding.{Known, known_as}
use Rattle.const_env.specs.Held.{last_first}
use Rattle.const_env.proofs.Named.{known_either, or_else}

pub last_split : {X Y : Type 0} (view : X → Y) (xs : List X) (later : List Y) → last_first view xs later ≡ last_first view xs [] ++ later
last_split view [] later = refl
last_split view (x ∷ xs) later =
    last_split view xs (view x ∷ later) ∙ regroup (last_first view xs []) (view x) later ∙ ap (λ ys. ys ++ later) (sym (last_split view xs (view x ∷ [])))
  where
    regroup : {Y : Type 0} (ys : List Y) (y : Y) (later : List Y) → ys ++ y ∷ later ≡ (ys ++ y ∷ []) ++ later
    regroup [] y later = refl
    regroup (z ∷ ys) y later = ap (λ zs. z ∷ zs) (regroup ys y later)

pub last_more : {X Y : Type 0} (view : X → Y) (xs : List X) (x : X) (later : List Y) → last_first view (xs ++ x ∷ []) later ≡ view x ∷ last_first view xs later
last_more view [] x later = refl
last_more view (y ∷ xs) x later = last_more view xs x (view y ∷ later)

pub last_mapped : {X Y Z : Type 0} (known : Y → Z) (view : X → Y) (xs : List X) (later : List Y) → map known (last_first view xs later) ≡ last_first (λ x. known (view x)) xs (map known later)
last_mapped known view [] later = refl
last_mapped known view (x ∷ xs) later = last_mapped known view xs (view x ∷ later)

-- what the last one's name means, and what another one does
pub last_known : {X Y : Type 0} (view : X → Y) (known : Y → Known) (name : List ℕ) (all others : List X) (x : X) → all ≡ others ++ x ∷ []
    → known_as name (map known (last_first view all [])) ≡ (if bytes_eq (known (view x)).name name then Some (known (view x)) else known_as name (map known (last_first view others [])))
last_known view known name all others x e = ap (λ xs. known_as name (map known (last_first view xs []))) e ∙ ap (λ ys. known_as name (map known ys)) (last_more view others x [])

pub entry_known : {X : Type 0} (view : X → Known) (name : List ℕ) (all others : List X) (x : X) → all ≡ others ++ x ∷ []
    → known_as name (last_first view all []) ≡ (if bytes_eq (view x).name name then Some (view x) else known_as name (last_first view others []))
entry_known view name all others x e = ap (λ xs. known_as name (last_first view xs [])) e ∙ ap (known_as name) (last_more view others x [])

pub is_it : (b : Bool) (x : Known) (o p q : Option Known) → o ≡ (if b then Some x else p) → b ≡ true → o ≡ q → Some x ≡ q
is_it b x o p q e f h = ap (λ c. if c then Some x else p) (sym f) ∙ sym e ∙ h

pub is_before : (b : Bool) (x : Known) (o p q : Option Known) → o ≡ (if b then Some x else p) → b ≡ false → o ≡ q → p ≡ q
is_before b x o p q e f h = ap (λ c. if c then Some x else p) (sym f) ∙ sym e ∙ h

pub none_known : {X Y : Type 0} (view : X → Y) (known : Y → Known) (name : List ℕ) (all : List X) → length all ≡ 0 → known_as name (map known (last_first view all [])) ≡ None
none_known view known name [] e = refl
none_known view known name (x ∷ xs) e = absurd (omega arith)

-- what stands inside, and what stands round it
pub known_round : {X Y : Type 0} (view : X → Y) (known : Y → Known) (name : List ℕ) (xs : List X) (outer : List Y)
    → known_as name (map known (last_first view xs outer)) ≡ or_else (known_as name (map known (last_first view xs []))) (known_as name (map known outer))
known_round view known name xs outer =
    ap (λ ys. known_as name (map known ys)) (last_split view xs outer)
    ∙ ap (known_as name) (map-append known (last_first view xs []) outer)
    ∙ known_either name (map known (last_first view xs [])) (map known outer)

-- generators inside variables, and what stands round both
pub known_inside : {W X Y : Type 0} (view : X → Y) (other : W → Y) (known : Y → Known) (name : List ℕ) (gs : List X) (xs : List W) (outer : List Y)
    → known_as name (map known (last_first view gs (last_first other xs outer))) ≡ or_else (known_as name (map known (last_first view gs (last_first other xs [])))) (known_as name (map known outer))
known_inside view other known name gs xs outer =
    ap (λ ys. known_as name (map known ys)) (last_split view gs (last_first other xs outer) ∙ ap (λ ys. last_first view gs [] ++ ys) (last_split other xs outer)
    ∙ grouped (last_first view gs []) (last_first other xs []) outer ∙ ap (λ ys. ys ++ outer) (sym (last_split view gs (last_first other xs []))))
    ∙ ap (known_as name) (map-append known (last_first view gs (last_first other xs [])) outer)
    ∙ known_either name (map known (last_first view gs (last_first other xs []))) (map known outer)
  where
    grouped : {Y : Type 0} (a b c : List Y) → a ++ (b ++ c) ≡ (a ++ b) ++ c
    grouped [] b c = refl
    grouped (y ∷ ys) b c = ap (λ zs. y ∷ zs) (grouped ys b c)
