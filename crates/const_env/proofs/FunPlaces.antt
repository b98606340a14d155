-- Functions by their places.
use Rattle.std.proofs.Common.{◌≡◌, ℕ, suc, ◌<◌, Bool, true, false, List, [], ◌∷◌, ◌++◌, map, length, refl, sym, ap, subst, ◌∙◌, arith}
use Rattle.std.specs.Prelude.{◌&&◌, Option, None, Some, option_map, slice_set, if◌then◌else◌}
use Rattle.std.specs.Borrow.{Bor}
use Rattle.std.specs.Slice.{IsItemAt}
use Rattle.std.specs.Str.{bytes_eq}
use Rattle.std.proofs.lemmas.List.{map-append}
use Rattle.std.proofs.lemmas.Option.{slice_get_past, slice_get_read}
use Rattle.std.proofs.lemmas.Slice.Eq.{bytes_eq-Decides}
use Rattle.cal_model.specs.Actor.{Fun}
use Rattle.cal_model.specs.Call.{fun_named}
use Rattle.const_env.specs.Constants.{has_fun, with_set}
use Rattle.const_env.specs.Sizes.{are_sized_funs, is_sized_fun}
use Rattle.const_env.specs.Standing.{LeadsTo, Placed, StandFirst, fun_place, place_named, with_place}
use Rattle.const_env.proofs.Leading.{put_other, put_same, turned}
use Rattle.const_env.proofs.Tested.{and_left, and_right}

-- ---- what stands at a place

before : (o : Option ℕ) (n : ℕ) → option_map suc o ≡ Some n → (m : ℕ) × (o ≡ Some m) × (n ≡ suc m)
before None n e = absurd (cc)
before (Some m) n e = (m, refl, let h : Some (suc m) ≡ Some n = e in cc)

later : {X Y : Type 0} (view : X → Y) (x : X) (xs : List X) (o : Option ℕ) (known : Option Y) → LeadsTo view xs o known → LeadsTo view (x ∷ xs) (option_map suc o) known
later view x xs None known h = h
later view x xs (Some n) known h = h

-- the place of a name leads to what is found of it
pub leads_there : {X : Type 0} (view : X → Fun) (name : List ℕ) (xs : List X) → LeadsTo view xs (fun_place name (map view xs)) (fun_named name (map view xs))
leads_there view name [] = refl
leads_there view name (x ∷ xs) = go (bytes_eq (view x).name name) (leads_there view name xs)
  where
    go : (b : Bool) → LeadsTo view xs (fun_place name (map view xs)) (fun_named name (map view xs))
        → LeadsTo view (x ∷ xs) (if b then Some 0 else option_map suc (fun_place name (map view xs))) (if b then Some (view x) else fun_named name (map view xs))
    go true rest = (x, refl, refl)
    go false rest = later view x xs (fun_place name (map view xs)) (fun_named name (map view xs)) rest

pub place_within : {X : Type 0} (view : X → Fun) (name : List ℕ) (xs : List X) (n : ℕ) → fun_place name (map view xs) ≡ Some n → n < length xs
place_within view name [] n h = cc
place_within view name (x ∷ xs) n h = go (bytes_eq (view x).name name) h (λ m i. place_within view name xs m i)
  where
    go : (b : Bool) → (if b then Some 0 else option_map suc (fun_place name (map view xs))) ≡ Some n → ((m : ℕ) → fun_place name (map view xs) ≡ Some m → m < length xs)
        → n < suc (length xs)
    go true h rest = let is : 0 ≡ n = (let same : Some 0 ≡ Some n = h in cc) in omega (arith, is)
    go false h rest =
        let i = before (fun_place name (map view xs)) n h in
        let less = rest i.0 i.1 in
        let is = i.2 in
        omega (arith, less, is)

pub lent_there : {X Y : Type 0} (view : X → Y) (xs : List X) (n : ℕ) (found : Option (Bor X)) (known : Option Y) → LeadsTo view xs (Some n) known → IsItemAt xs n found
    → option_map (λ f. view f.now) found ≡ known
lent_there view xs n None known h i =
    let no : None ≡ Some h.0 = sym (slice_get_past xs n i.3) ∙ h.1 in
    cc
lent_there view xs n (Some f) known h i =
    let same : Some f.now ≡ Some h.0 = sym (slice_get_read xs (length xs) n f.now refl i.3.0 i.1) ∙ h.1 in
    ap (option_map view) same ∙ sym h.2

-- ---- one function more, whose name is new

others : (name : List ℕ) (fs : List Fun) (f : Fun) → bytes_eq f.name name ≡ false → fun_place name (fs ++ f ∷ []) ≡ fun_place name fs
others name [] f e = ap (λ b. if b then Some 0 else None) e
others name (g ∷ fs) f e = ap (λ o. if bytes_eq g.name name then Some 0 else option_map suc o) (others name fs f e)

is_none : (o : Option ℕ) → option_map suc o ≡ None → o ≡ None
is_none None e = refl
is_none (Some n) e = cc

itself : (name : List ℕ) (fs : List Fun) (f : Fun) → bytes_eq f.name name ≡ true → fun_place name fs ≡ None → fun_place name (fs ++ f ∷ []) ≡ Some (length fs)
itself name [] f e h = ap (λ b. if b then Some 0 else None) e
itself name (g ∷ fs) f e h = go (bytes_eq g.name name) (itself name fs f e) h
  where
    go : (b : Bool) → (fun_place name fs ≡ None → fun_place name (fs ++ f ∷ []) ≡ Some (length fs)) → (if b then Some 0 else option_map suc (fun_place name fs)) ≡ None
        → (if b then Some 0 else option_map suc (fun_place name (fs ++ f ∷ []))) ≡ Some (suc (length fs))
    go true rest h = cc
    go false rest h = ap (option_map suc) (rest (is_none (fun_place name fs) h))

-- without a place nothing is found, and the other way round
pub no_place : (name : List ℕ) (fs : List Fun) → has_fun name fs ≡ false → fun_place name fs ≡ None
no_place name [] h = refl
no_place name (g ∷ fs) h = go (bytes_eq g.name name) (no_place name fs) h
  where
    go : (b : Bool) → (has_fun name fs ≡ false → fun_place name fs ≡ None) → elim (if b then Some g else fun_named name fs) [ None ↦ false | Some f ↦ true ] ≡ false
        → (if b then Some 0 else option_map suc (fun_place name fs)) ≡ None
    go true rest h = cc
    go false rest h = ap (option_map suc) (rest h)

pub none_there : (name : List ℕ) (fs : List Fun) → fun_place name fs ≡ None → has_fun name fs ≡ false
none_there name [] h = refl
none_there name (g ∷ fs) h = go (bytes_eq g.name name) (none_there name fs) h
  where
    go : (b : Bool) → (fun_place name fs ≡ None → has_fun name fs ≡ false) → (if b then Some 0 else option_map suc (fun_place name fs)) ≡ None
        → elim (if b then Some g else fun_named name fs) [ None ↦ false | Some f ↦ true ] ≡ false
    go true rest h = cc
    go false rest h = rest (is_none (fun_place name fs) h)

stand_more : (fs : List Fun) (f : Fun) (places : List Placed) → StandFirst fs places → has_fun f.name fs ≡ false → StandFirst (fs ++ f ∷ []) (with_place f.name (length fs) places)
stand_more fs f places stand new name = go (bytes_eq f.name name) refl
  where
    go : (b : Bool) → bytes_eq f.name name ≡ b → place_named name (with_place f.name (length fs) places) ≡ fun_place name (fs ++ f ∷ [])
    go true e =
        let same : f.name ≡ name = (bytes_eq-Decides f.name name).0 e in
        subst (λ n. place_named n (with_place f.name (length fs) places) ≡ Some (length fs)) same (put_same f.name (length fs) places)
        ∙ sym (itself name fs f e (subst (λ n. fun_place n fs ≡ None) same (no_place f.name fs new)))
    go false e = put_other name f.name (length fs) places (turned f.name name e) ∙ stand name ∙ sym (others name fs f e)

pub fun_pushed : {X : Type 0} (view : X → Fun) (olds news : List X) (x : X) (name : List ℕ) (places after : List Placed) → StandFirst (map view olds) places
    → has_fun (view x).name (map view olds) ≡ false → news ≡ olds ++ x ∷ [] → (view x).name ≡ name → after ≡ with_place name (length olds) places → StandFirst (map view news) after
fun_pushed view olds news x name places after stand new e f g =
    let count : length (map view olds) ≡ length olds = mapped view olds in
    subst (λ ps. StandFirst (map view news) ps) (sym (g ∙ ap (λ n. with_place n (length olds) places) (sym f) ∙ ap (λ n. with_place (view x).name n places) (sym count)))
    (subst (λ fs. StandFirst fs (with_place (view x).name (length (map view olds)) places)) (sym (ap (map view) e ∙ map-append view olds (x ∷ []))) (stand_more (map view olds) (view x) places stand new))
  where
    mapped : {X : Type 0} (view : X → Fun) (xs : List X) → length (map view xs) ≡ length xs
    mapped view [] = refl
    mapped view (x ∷ xs) = ap suc (mapped view xs)

-- ---- a function in the place of another of its name

behind : (f g : Fun) (gs : List Fun) (n : ℕ) → bytes_eq f.name g.name ≡ false → fun_place f.name (g ∷ gs) ≡ Some n → (m : ℕ) × (fun_place f.name gs ≡ Some m) × (n ≡ suc m)
behind f g gs n e h = before (fun_place f.name gs) n (ap (λ b. if b then Some 0 else option_map suc (fun_place f.name gs)) (sym (turned f.name g.name e)) ∙ h)

-- names stand where they stood
pub set_stays : (name : List ℕ) (f : Fun) (gs : List Fun) (n : ℕ) → fun_place f.name gs ≡ Some n → fun_place name (with_set f gs) ≡ fun_place name gs
set_stays name f [] n h = cc
set_stays name f (g ∷ gs) n h = go (bytes_eq f.name g.name) refl (λ m i. set_stays name f gs m i)
  where
    go : (b : Bool) → bytes_eq f.name g.name ≡ b → ((m : ℕ) → fun_place f.name gs ≡ Some m → fun_place name (with_set f gs) ≡ fun_place name gs)
        → fun_place name (if b then f ∷ gs else g ∷ with_set f gs) ≡ fun_place name (g ∷ gs)
    go true e rest = ap (λ k. if bytes_eq k name then Some 0 else option_map suc (fun_place name gs)) ((bytes_eq-Decides f.name g.name).0 e)
    go false e rest =
        let i = behind f g gs n e h in
        ap (λ o. if bytes_eq g.name name then Some 0 else option_map suc o) (rest i.0 i.1)

first_place : (f g : Fun) (gs : List Fun) (n : ℕ) → bytes_eq f.name g.name ≡ true → fun_place f.name (g ∷ gs) ≡ Some n → n ≡ 0
first_place f g gs n e h =
    let same : g.name ≡ f.name = sym ((bytes_eq-Decides f.name g.name).0 e) in
    let first : Some 0 ≡ Some n = ap (λ b. if b then Some 0 else option_map suc (fun_place f.name gs)) (sym ((bytes_eq-Decides g.name f.name).1 same)) ∙ h in
    cc

pub set_there : {X : Type 0} (view : X → Fun) (x : X) (xs : List X) (n : ℕ) → fun_place (view x).name (map view xs) ≡ Some n → map view (slice_set xs n x) ≡ with_set (view x) (map view xs)
set_there view x [] n h = cc
set_there view x (y ∷ xs) n h = go (bytes_eq (view x).name (view y).name) refl (λ m i. set_there view x xs m i)
  where
    go : (b : Bool) → bytes_eq (view x).name (view y).name ≡ b → ((m : ℕ) → fun_place (view x).name (map view xs) ≡ Some m → map view (slice_set xs m x) ≡ with_set (view x) (map view xs))
        → map view (slice_set (y ∷ xs) n x) ≡ (if b then view x ∷ map view xs else view y ∷ with_set (view x) (map view xs))
    go true e rest = ap (λ k. map view (slice_set (y ∷ xs) k x)) (first_place (view x) (view y) (map view xs) n e h)
    go false e rest =
        let i = behind (view x) (view y) (map view xs) n e h in
        ap (λ k. map view (slice_set (y ∷ xs) k x)) i.2 ∙ ap (λ fs. view y ∷ fs) (rest i.0 i.1)

pub set_new : (f : Fun) (gs : List Fun) → fun_place f.name gs ≡ None → gs ++ f ∷ [] ≡ with_set f gs
set_new f [] h = refl
set_new f (g ∷ gs) h = go (bytes_eq g.name f.name) refl (set_new f gs) h
  where
    go : (b : Bool) → bytes_eq g.name f.name ≡ b → (fun_place f.name gs ≡ None → gs ++ f ∷ [] ≡ with_set f gs) → (if b then Some 0 else option_map suc (fun_place f.name gs)) ≡ None
        → g ∷ (gs ++ f ∷ []) ≡ with_set f (g ∷ gs)
    go true e rest h = cc
    go false e rest h =
        ap (λ fs. g ∷ fs) (rest (is_none (fun_place f.name gs) h)) ∙ sym (ap (λ b. if b then f ∷ gs else g ∷ with_set f gs) (turned g.name f.name e))

both : (a b : Bool) → a ≡ true → b ≡ true → (a && b) ≡ true
both true true h e = refl
both true false h e = e
both false b h e = h

pub set_sized : (f : Fun) (gs : List Fun) → is_sized_fun f ≡ true → are_sized_funs gs ≡ true → are_sized_funs (with_set f gs) ≡ true
set_sized f [] h e = both (is_sized_fun f) true h refl
set_sized f (g ∷ gs) h e = go (bytes_eq f.name g.name) (set_sized f gs h (and_right (is_sized_fun g) (are_sized_funs gs) e))
  where
    go : (b : Bool) → are_sized_funs (with_set f gs) ≡ true → are_sized_funs (if b then f ∷ gs else g ∷ with_set f gs) ≡ true
    go true rest = both (is_sized_fun f) (are_sized_funs gs) h (and_right (is_sized_fun g) (are_sized_funs gs) e)
    go false rest = both (is_sized_fun g) (are_sized_funs (with_set f gs)) (and_left (is_sized_fun g) (are_sized_funs gs) e) rest
