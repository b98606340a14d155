-- Arguments by the names of their formals.
use Rattle.std.proofs.Common.{◌≡◌, ◌≢◌, ℕ, zero, suc, true, false, arith, ◌+◌, ◌<◌, ◌≤◌, List, [], ◌∷◌, ◌++◌, map, length, take, get_or, refl, sym, ap, ◌∙◌, subst}
use Rattle.std.specs.Prelude.{min, Option, None, Some, option_map, string_bytes, if◌then◌else◌}
use Rattle.std.proofs.lemmas.List.{take_more, take_all, length-take-le}
use Rattle.cal_model.specs.Value.{stored}
use Rattle.cal_model.specs.Value.{Value as ModelValue}
use Rattle.cal_model.specs.Env.{find}
use Rattle.std.specs.Str.{bytes_eq}
use Rattle.cal_model.specs.Call.{arguments}
use Rattle.cal_model.specs.View.{in_order, local_view, shape_view, value_view}
use Rattle.cal_model.specs.declared.bound.BoundLocal.{BoundLocal}
use Rattle.cal_model.specs.declared.value.Value.{Value}
use Rattle.const_expr.specs.Scoping.{frame, bound_var}

-- each is kept as its formal's type stores it
abbrev pub AreEntered : List BoundLocal → List Value → List Value → Type 0
AreEntered [] [] [] = Unit {0}
AreEntered (x ∷ xs) (v ∷ vs) (k ∷ ks) = (value_view k ≡ stored (shape_view x.shape) (value_view v)) × AreEntered xs vs ks
AreEntered xs vs ks = ⊥

pub entered_more : (xs : List BoundLocal) (vs ks : List Value) (x : BoundLocal) (v k : Value) → AreEntered xs vs ks → value_view k ≡ stored (shape_view x.shape) (value_view v) → AreEntered (xs ++ x ∷ []) (vs ++ v ∷ []) (ks ++ k ∷ [])
entered_more [] [] [] x v k h e = (e, tt)
entered_more [] [] (l ∷ ks) x v k h e = absurd h
entered_more [] (w ∷ vs) ks x v k h e = absurd h
entered_more (y ∷ xs) [] ks x v k h e = absurd h
entered_more (y ∷ xs) (w ∷ vs) [] x v k h e = absurd h
entered_more (y ∷ xs) (w ∷ vs) (l ∷ ks) x v k h e = (h.0, entered_more xs vs ks x v k h.1 e)

pub entered_all : (xs : List BoundLocal) (vs ks : List Value) → AreEntered xs vs ks → arguments (map local_view xs) (in_order (map value_view vs)) ≡ Some (frame xs ks)
entered_all [] [] [] h = refl
entered_all [] [] (l ∷ ks) h = absurd h
entered_all [] (w ∷ vs) ks h = absurd h
entered_all (y ∷ xs) [] ks h = absurd h
entered_all (y ∷ xs) (w ∷ vs) [] h = absurd h
entered_all (y ∷ xs) (w ∷ vs) (l ∷ ks) h =
    ap (option_map (λ vars. vars ++ bound_var (local_view y) (stored (shape_view y.shape) (value_view w)) ∷ [])) (entered_all xs vs ks h.1)
    ∙ ap (λ u. Some (frame xs ks ++ bound_var (local_view y) u ∷ [])) (sym h.0)

pub not_as_many : (xs : List BoundLocal) (vs : List Value) → length xs ≢ length vs → arguments (map local_view xs) (in_order (map value_view vs)) ≡ None
not_as_many [] [] h = absurd (h refl)
not_as_many [] (w ∷ vs) h = refl
not_as_many (y ∷ xs) [] h = refl
not_as_many (y ∷ xs) (w ∷ vs) h =
    ap (option_map (λ vars. vars ++ bound_var (local_view y) (stored (shape_view y.shape) (value_view w)) ∷ [])) (not_as_many xs vs (λ e. h (ap suc e)))

pub entered_next : (xs : List BoundLocal) (vs ks news : List Value) (n : ℕ) (x : BoundLocal) (v k : Value) → n < length xs → n < length vs → AreEntered (take n xs) (take n vs) ks
    → news ≡ ks ++ k ∷ [] → x ≡ get_or xs n x → v ≡ get_or vs n v → value_view k ≡ stored (shape_view x.shape) (value_view v) → AreEntered (take (n + 1) xs) (take (n + 1) vs) news
entered_next xs vs ks news n x v k l m h e f g is =
    let a : take n xs ++ x ∷ [] ≡ take (n + 1) xs = ap (λ y. take n xs ++ y ∷ []) f ∙ sym (take_more xs n x l) in
    let b : take n vs ++ v ∷ [] ≡ take (n + 1) vs = ap (λ w. take n vs ++ w ∷ []) g ∙ sym (take_more vs n v m) in
    subst (λ ws. AreEntered (take (n + 1) xs) (take (n + 1) vs) ws) (sym e)
    (subst (λ ys. AreEntered ys (take (n + 1) vs) (ks ++ k ∷ [])) a
    (subst (λ us. AreEntered (take n xs ++ x ∷ []) us (ks ++ k ∷ [])) b (entered_more (take n xs) (take n vs) ks x v k h is)))

pub entered_end : (xs : List BoundLocal) (vs ks : List Value) (n : ℕ) → length xs ≤ n → length vs ≤ n → AreEntered (take n xs) (take n vs) ks → arguments (map local_view xs) (in_order (map value_view vs)) ≡ Some (frame xs ks)
entered_end xs vs ks n l m h =
    entered_all xs vs ks (subst (λ ys. AreEntered ys vs ks) (take_all n xs l) (subst (λ us. AreEntered (take n xs) us ks) (take_all n vs m) h))

-- ---- an argument by its name, from the last on

pub frame_last : (xs : List BoundLocal) (vs : List Value) (x : BoundLocal) (v : Value) → length xs ≡ length vs
    → frame (xs ++ x ∷ []) (vs ++ v ∷ []) ≡ bound_var (local_view x) (value_view v) ∷ frame xs vs
frame_last [] [] x v h = refl
frame_last [] (w ∷ vs) x v h = absurd (omega arith)
frame_last (y ∷ xs) [] x v h = absurd (omega arith)
frame_last (y ∷ xs) (w ∷ vs) x v h = ap (λ vars. vars ++ bound_var (local_view y) (value_view w) ∷ []) (frame_last xs vs x v (omega arith))

-- what is behind the shorter list isn't seen
pub frame_front : (n : ℕ) (xs : List BoundLocal) (vs : List Value) → n ≡ min (length xs) (length vs) → frame (take n xs) (take n vs) ≡ frame xs vs
frame_front zero [] vs h = refl
frame_front zero (x ∷ xs) [] h = refl
frame_front zero (x ∷ xs) (v ∷ vs) h = absurd (omega arith)
frame_front (suc n) [] vs h = absurd (omega arith)
frame_front (suc n) (x ∷ xs) [] h = absurd (omega arith)
frame_front (suc n) (x ∷ xs) (v ∷ vs) h = ap (λ vars. vars ++ bound_var (local_view x) (value_view v) ∷ []) (frame_front n xs vs (omega arith))

frame_next : (xs : List BoundLocal) (vs : List Value) (n : ℕ) (x : BoundLocal) (v : Value) → n < length xs → n < length vs → x ≡ get_or xs n x → v ≡ get_or vs n v
    → frame (take (n + 1) xs) (take (n + 1) vs) ≡ bound_var (local_view x) (value_view v) ∷ frame (take n xs) (take n vs)
frame_next xs vs n x v l m f g =
    let a : take (n + 1) xs ≡ take n xs ++ x ∷ [] = take_more xs n x l ∙ ap (λ y. take n xs ++ y ∷ []) (sym f) in
    let b : take (n + 1) vs ≡ take n vs ++ v ∷ [] = take_more vs n v m ∙ ap (λ w. take n vs ++ w ∷ []) (sym g) in
    ap (λ ys. frame ys (take (n + 1) vs)) a ∙ ap (λ ws. frame (take n xs ++ x ∷ []) ws) b
    ∙ frame_last (take n xs) (take n vs) x v (length-take-le n xs (omega arith) ∙ sym (length-take-le n vs (omega arith)))

-- the formal at a place, if none that stands later has the name
pub argument_here : (name : List ℕ) (xs : List BoundLocal) (vs : List Value) (n m : ℕ) (x : BoundLocal) (v : Value) (o : Option ModelValue) → n < length xs → n < length vs → x ≡ get_or xs n x → v ≡ get_or vs n v
    → m ≡ n + 1 → find name (frame (take m xs) (take m vs)) ≡ o → bytes_eq (string_bytes x.name) name ≡ true → Some (value_view v) ≡ o
argument_here name xs vs n m x v o l k f g s h e =
    ap (λ b. if b then Some (value_view v) else find name (frame (take n xs) (take n vs))) (sym e)
    ∙ ap (find name) (sym (frame_next xs vs n x v l k f g)) ∙ ap (λ j. find name (frame (take j xs) (take j vs))) (sym s) ∙ h

stands_at : (vs : List Value) (n : ℕ) → n < length vs → (v : Value) × (v ≡ get_or vs n v)
stands_at [] n l = absurd (omega arith)
stands_at (v ∷ vs) zero l = (v, refl)
stands_at (v ∷ vs) (suc n) l = stands_at vs n (omega arith)

-- a formal of another name is passed over
pub argument_before : (name : List ℕ) (xs : List BoundLocal) (vs : List Value) (n m : ℕ) (x : BoundLocal) (o : Option ModelValue) → n < length xs → n < length vs → x ≡ get_or xs n x
    → m ≡ n + 1 → find name (frame (take m xs) (take m vs)) ≡ o → bytes_eq (string_bytes x.name) name ≡ false → find name (frame (take n xs) (take n vs)) ≡ o
argument_before name xs vs n m x o l k f s h e =
    let v = stands_at vs n k in
    ap (λ b. if b then Some (value_view v.0) else find name (frame (take n xs) (take n vs))) (sym e)
    ∙ ap (find name) (sym (frame_next xs vs n x v.0 l k f v.1)) ∙ ap (λ j. find name (frame (take j xs) (take j vs))) (sym s) ∙ h
