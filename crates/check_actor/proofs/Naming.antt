-- Names that differ.
use Rattle.std.proofs.Common.{◌≡◌, Bool, true, false, ℕ, List, [], ◌∷◌, ◌++◌, map, refl, sym, ap, ◌∙◌}
use Rattle.std.specs.Prelude.{Contains, not, ◌&&◌, ◌||◌}
use Rattle.std.specs.Str.{bytes_eq}
use Rattle.std.proofs.lemmas.List.Elements.{Contains-append_left}
use Rattle.cal_model.proofs.KindNames.{same-text}
use Rattle.cal_model.specs.Sound.{AreDistinct}
use Rattle.cal_check.proofs.Lists.{at-head, in-rest}
use Rattle.cal_check.specs.Actors.{Source, all_funs, declared_vars}
use Rattle.cal_check.specs.Routines.{FunDecl}
use Rattle.cal_check.specs.Sources.{names_of_source, proc_name, procs_of_source}
use Rattle.check_functions.specs.Known.{is_named_in, names_differ}

first_part : (xs ys : List (List ℕ)) → AreDistinct (xs ++ ys) → AreDistinct xs
first_part [] ys h = tt
first_part (x ∷ xs) ys h = ((λ c. h.0 (Contains-append_left xs ys x c)), first_part xs ys h.1)

other_part : (xs ys : List (List ℕ)) → AreDistinct (xs ++ ys) → AreDistinct ys
other_part [] ys h = h
other_part (x ∷ xs) ys h = other_part xs ys h.1

not_there : (name : List ℕ) (fs : List FunDecl) (b : Bool) → is_named_in name fs ≡ b → (Contains (map (λ f. f.name) fs) name → ⊥) → b ≡ false
not_there name [] b e k = sym e
not_there name (f ∷ fs) false e k = refl
not_there name (f ∷ fs) true e k =
    go (bytes_eq name f.name) refl e (λ h. not_there name fs true h (λ c. k (in-rest name f.name (map (λ g. g.name) fs) c)))
  where
    go : (c : Bool) → bytes_eq name f.name ≡ c → (bytes_eq name f.name || is_named_in name fs) ≡ true → (is_named_in name fs ≡ true → true ≡ false) → true ≡ false
    go true same h later = absurd (k (at-head name f.name (map (λ g. g.name) fs) (sym (same-text name f.name same))))
    go false same h later = later (ap (λ d. d || is_named_in name fs) (sym same) ∙ h)

both_true : (b c : Bool) → b ≡ false → c ≡ true → (not b && c) ≡ true
both_true b c e h = ap (λ d. not d && c) e ∙ h

funs_differ : (fs : List FunDecl) → AreDistinct (map (λ f. f.name) fs) → names_differ fs ≡ true
funs_differ [] h = refl
funs_differ (f ∷ fs) h =
    both_true (is_named_in f.name fs) (names_differ fs) (not_there f.name fs (is_named_in f.name fs) refl h.0) (funs_differ fs h.1)

pub names_of_funs_differ : (s : Source) → AreDistinct (names_of_source s) → names_differ (all_funs s) ≡ true
names_of_funs_differ s h =
    let vars = map (λ x. x.name) (declared_vars s) in
    let funs = map (λ f. f.name) (all_funs s) in
    funs_differ (all_funs s) (other_part vars funs (first_part (vars ++ funs) (map proc_name (procs_of_source s)) h))

pub names_of_vars_differ : (s : Source) → AreDistinct (names_of_source s) → AreDistinct (map (λ x. x.name) (declared_vars s))
names_of_vars_differ s h =
    let vars = map (λ x. x.name) (declared_vars s) in
    let funs = map (λ f. f.name) (all_funs s) in
    first_part vars funs (first_part (vars ++ funs) (map proc_name (procs_of_source s)) h)
