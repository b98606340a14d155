-- Functions that are found, by those that are declared.
use Rattle.std.proofs.Common.{◌≡◌, ℕ, zero, suc, Bool, true, false, not, List, [], ◌∷◌, length, refl, sym, ap, subst, ◌∙◌}
use Rattle.std.specs.Prelude.{◌||◌, Option, None, Some, slice_get, if◌then◌else◌}
use Rattle.std.specs.Str.{bytes_eq}
use Rattle.std.proofs.lemmas.Slice.Eq.{bytes_eq-Decides}
use Rattle.cal_model.specs.Actor.{Fun}
use Rattle.cal_model.specs.Call.{fun_named}
use Rattle.cal_model.specs.Kinding.{Judged, Fine, Broken, Names}
use Rattle.cal_check.specs.Routines.{FunDecl, fun_judged, funs_over, with_fun}
use Rattle.const_env.specs.Constants.{has_fun, with_set}
use Rattle.const_env.proofs.Setting.{fun_set}
use Rattle.check_functions.specs.Known.{is_named_in, names_differ}
use Rattle.check_functions.specs.Left.{count_of, decl_found, found_of, one_if}
use Rattle.check_functions.proofs.Rounds.{and_left, and_right, not_true, or_left, or_right}
use Rattle.check_functions.proofs.Sized.{fun_named_so}

-- ---- names of functions that are declared

pub text_turned : (a b : List ℕ) (t : Bool) → bytes_eq a b ≡ t → bytes_eq b a ≡ t
text_turned a b true e = (bytes_eq-Decides b a).1 (sym ((bytes_eq-Decides a b).0 e))
text_turned a b false e = go (bytes_eq b a) refl
  where
    go : (t : Bool) → bytes_eq b a ≡ t → t ≡ false
    go true h = sym ((bytes_eq-Decides a b).1 (sym ((bytes_eq-Decides b a).0 h))) ∙ e
    go false h = refl

or_first : (a b : Bool) → a ≡ true → (a || b) ≡ true
or_first true b h = refl
or_first false b h = cc

or_second : (a b : Bool) → b ≡ true → (a || b) ≡ true
or_second true b h = refl
or_second false b h = h

pub named_first : (f : FunDecl) (fs : List FunDecl) → is_named_in f.name (f ∷ fs) ≡ true
named_first f fs = or_first (bytes_eq f.name f.name) (is_named_in f.name fs) ((bytes_eq-Decides f.name f.name).1 refl)

named_later : (name : List ℕ) (f : FunDecl) (fs : List FunDecl) → is_named_in name fs ≡ true → is_named_in name (f ∷ fs) ≡ true
named_later name f fs h = or_second (bytes_eq name f.name) (is_named_in name fs) h

pub named_at : (fs : List FunDecl) (i : ℕ) (f : FunDecl) → slice_get fs i ≡ Some f → is_named_in f.name fs ≡ true
named_at [] i f h = cc
named_at (g ∷ fs) zero f h = let same : g ≡ f = cc in ap (λ k. is_named_in k.name (g ∷ fs)) (sym same) ∙ named_first g fs
named_at (g ∷ fs) (suc i) f h = named_later f.name g fs (named_at fs i f h)

-- a name that isn't among those is another than each of theirs
pub other_name : (name : List ℕ) (fs : List FunDecl) (i : ℕ) (f : FunDecl) → is_named_in name fs ≡ false → slice_get fs i ≡ Some f → bytes_eq name f.name ≡ false
other_name name fs i f h is = go (bytes_eq name f.name) refl
  where
    go : (b : Bool) → bytes_eq name f.name ≡ b → b ≡ false
    go true e = sym (named_at fs i f is) ∙ ap (λ n. is_named_in n fs) (sym ((bytes_eq-Decides name f.name).0 e)) ∙ h
    go false e = refl

pub head_new : (f : FunDecl) (fs : List FunDecl) → names_differ (f ∷ fs) ≡ true → is_named_in f.name fs ≡ false
head_new f fs h = not_true (is_named_in f.name fs) (and_left (not (is_named_in f.name fs)) (names_differ fs) h)

pub tail_differs : (f : FunDecl) (fs : List FunDecl) → names_differ (f ∷ fs) ≡ true → names_differ fs ≡ true
tail_differs f fs h = and_right (not (is_named_in f.name fs)) (names_differ fs) h

pub same_place : (fs : List FunDecl) (i j : ℕ) (f g : FunDecl) → names_differ fs ≡ true → slice_get fs i ≡ Some f → slice_get fs j ≡ Some g → bytes_eq f.name g.name ≡ true → i ≡ j
same_place [] i j f g d h k e = cc
same_place (x ∷ fs) zero zero f g d h k e = refl
same_place (x ∷ fs) zero (suc j) f g d h k e =
    let same : x ≡ f = cc in
    let no : true ≡ false = sym e ∙ ap (λ y. bytes_eq y.name g.name) (sym same) ∙ other_name x.name fs j g (head_new x fs d) k in
    cc
same_place (x ∷ fs) (suc i) zero f g d h k e =
    let same : x ≡ g = cc in
    let no : true ≡ false = sym (text_turned f.name g.name true e) ∙ ap (λ y. bytes_eq y.name f.name) (sym same) ∙ other_name x.name fs i f (head_new x fs d) h in
    cc
same_place (x ∷ fs) (suc i) (suc j) f g d h k e = ap suc (same_place fs i j f g (tail_differs x fs d) h k e)

-- the function of a name
pub record HasName (fs : List FunDecl) (name : List ℕ) : Type 0 where
  pub place : ℕ
  pub decl : FunDecl
  pub there : slice_get fs place ≡ Some decl
  pub named : decl.name ≡ name

pub found_named : (name : List ℕ) (fs : List FunDecl) → is_named_in name fs ≡ true → HasName fs name
found_named name [] h = cc
found_named name (f ∷ fs) h = go (bytes_eq name f.name) refl h (λ i. found_named name fs i)
  where
    go : (b : Bool) → bytes_eq name f.name ≡ b → (b || is_named_in name fs) ≡ true → (is_named_in name fs ≡ true → HasName fs name) → HasName (f ∷ fs) name
    go true e h more = record { place = 0; decl = f; there = refl; named = sym ((bytes_eq-Decides name f.name).0 e) }
    go false e h more =
        let rest = more h in
        record { place = suc rest.place; decl = rest.decl; there = rest.there; named = rest.named }

-- ---- what is found over names

skipped : (name : List ℕ) (j : Judged Fun) (fs : List Fun) → ((g : Fun) → j ≡ Fine g → bytes_eq g.name name ≡ false) → fun_named name (with_fun j fs) ≡ fun_named name fs
skipped name (Fine g) fs h = ap (λ b. if b then Some g else fun_named name fs) (h g refl)
skipped name (Broken rule at) fs h = refl

-- another name than that of the first
past : (name : List ℕ) (f : FunDecl) (fs : List FunDecl) (names : Names) → bytes_eq name f.name ≡ false → fun_named name (funs_over (f ∷ fs) names) ≡ fun_named name (funs_over fs names)
past name f fs names e =
    skipped name (fun_judged f.name f.decl names) (funs_over fs names) (λ g i. ap (λ n. bytes_eq n name) (fun_named_so f.name f.decl names g i) ∙ text_turned name f.name false e)

pub over_none : (name : List ℕ) (fs : List FunDecl) (names : Names) → is_named_in name fs ≡ false → fun_named name (funs_over fs names) ≡ None
over_none name [] names h = refl
over_none name (f ∷ fs) names h =
    past name f fs names (or_left (bytes_eq name f.name) (is_named_in name fs) h) ∙ over_none name fs names (or_right (bytes_eq name f.name) (is_named_in name fs) h)

first_found : (name : List ℕ) (j : Judged Fun) (fs : List Fun) → ((g : Fun) → j ≡ Fine g → g.name ≡ name) → fun_named name fs ≡ None → fun_named name (with_fun j fs) ≡ found_of j
first_found name (Fine g) fs named none = ap (λ b. if b then Some g else fun_named name fs) ((bytes_eq-Decides g.name name).1 (named g refl))
first_found name (Broken rule at) fs named none = none

pub over_right : (fs : List FunDecl) (names : Names) (i : ℕ) (f : FunDecl) → names_differ fs ≡ true → slice_get fs i ≡ Some f → fun_named f.name (funs_over fs names) ≡ decl_found f names
over_right [] names i f d h = cc
over_right (g ∷ fs) names zero f d h =
    let same : g ≡ f = cc in
    subst (λ k. fun_named k.name (funs_over (g ∷ fs) names) ≡ decl_found k names) same
    (first_found g.name (fun_judged g.name g.decl names) (funs_over fs names) (λ k e. fun_named_so g.name g.decl names k e) (over_none g.name fs names (head_new g fs d)))
over_right (g ∷ fs) names (suc i) f d h =
    past f.name g fs names (text_turned g.name f.name false (other_name g.name fs i f (head_new g fs d) h)) ∙ over_right fs names i f (tail_differs g fs d) h

-- ---- how many are found

abbrev pub has_one : Option Fun → Bool
has_one o = elim o [ None ↦ false | Some f ↦ true ]

pub count_same : (fs : List FunDecl) (found other : List Fun) → ((name : List ℕ) → is_named_in name fs ≡ true → has_fun name found ≡ has_fun name other) → count_of fs found ≡ count_of fs other
count_same [] found other h = refl
count_same (f ∷ fs) found other h =
    ap (λ b. one_if b (count_of fs found)) (h f.name (named_first f fs)) ∙ ap (one_if (has_fun f.name other)) (count_same fs found other (λ name i. h name (named_later name f fs i)))

count_past : (name : List ℕ) (fs : List FunDecl) (g : Fun) (found : List Fun) → g.name ≡ name → is_named_in name fs ≡ false → count_of fs (g ∷ found) ≡ count_of fs found
count_past name fs g found same h =
    count_same fs (g ∷ found) found (λ other i. ap (λ b. has_one (if b then Some g else fun_named other found)) (differs other i (bytes_eq g.name other) refl))
  where
    differs : (other : List ℕ) → is_named_in other fs ≡ true → (b : Bool) → bytes_eq g.name other ≡ b → b ≡ false
    differs other i true e = sym i ∙ ap (λ n. is_named_in n fs) (sym ((bytes_eq-Decides g.name other).0 e) ∙ same) ∙ h
    differs other i false e = refl

pub count_over : (fs : List FunDecl) (names : Names) → names_differ fs ≡ true → length (funs_over fs names) ≡ count_of fs (funs_over fs names)
count_over [] names d = refl
count_over (f ∷ fs) names d =
    go (fun_judged f.name f.decl names) (λ g e. fun_named_so f.name f.decl names g e) (count_over fs names (tail_differs f fs d))
  where
    go : (j : Judged Fun) → ((g : Fun) → j ≡ Fine g → g.name ≡ f.name) → length (funs_over fs names) ≡ count_of fs (funs_over fs names)
        → length (with_fun j (funs_over fs names)) ≡ count_of (f ∷ fs) (with_fun j (funs_over fs names))
    go (Fine g) named rest =
        let here : bytes_eq g.name f.name ≡ true = (bytes_eq-Decides g.name f.name).1 (named g refl) in
        ap suc (rest ∙ sym (count_past f.name fs g (funs_over fs names) (named g refl) (head_new f fs d)))
        ∙ sym (ap (λ b. one_if (has_one (if b then Some g else fun_named f.name (funs_over fs names))) (count_of fs (g ∷ funs_over fs names))) here)
    go (Broken rule at) named rest =
        rest ∙ sym (ap (λ o. one_if (has_one o) (count_of fs (funs_over fs names))) (over_none f.name fs names (head_new f fs d)))

-- ---- a function that is put in its place

has_set : (name : List ℕ) (f : Fun) (found : List Fun) → has_fun name (with_set f found) ≡ has_one (if bytes_eq f.name name then Some f else fun_named name found)
has_set name f found = ap has_one (fun_set name f found)

-- in the place of another
still_has : (f : Fun) (found : List Fun) → has_fun f.name found ≡ true → (name : List ℕ) → has_fun name (with_set f found) ≡ has_fun name found
still_has f found h name = has_set name f found ∙ go (bytes_eq f.name name) refl
  where
    go : (b : Bool) → bytes_eq f.name name ≡ b → has_one (if b then Some f else fun_named name found) ≡ has_fun name found
    go true e = sym h ∙ ap (λ n. has_fun n found) ((bytes_eq-Decides f.name name).0 e)
    go false e = refl

length_same : (f : Fun) (found : List Fun) → has_fun f.name found ≡ true → length (with_set f found) ≡ length found
length_same f [] h = cc
length_same f (g ∷ found) h = go (bytes_eq f.name g.name) refl (λ i. length_same f found i)
  where
    go : (b : Bool) → bytes_eq f.name g.name ≡ b → (has_fun f.name found ≡ true → length (with_set f found) ≡ length found)
        → length (if b then f ∷ found else g ∷ with_set f found) ≡ suc (length found)
    go true e rest = refl
    go false e rest = ap suc (rest (sym (ap (λ b. has_one (if b then Some g else fun_named f.name found)) (text_turned f.name g.name false e)) ∙ h))

-- behind the others
length_more : (f : Fun) (found : List Fun) → has_fun f.name found ≡ false → length (with_set f found) ≡ suc (length found)
length_more f [] h = refl
length_more f (g ∷ found) h = go (bytes_eq f.name g.name) refl (λ i. length_more f found i)
  where
    go : (b : Bool) → bytes_eq f.name g.name ≡ b → (has_fun f.name found ≡ false → length (with_set f found) ≡ suc (length found))
        → length (if b then f ∷ found else g ∷ with_set f found) ≡ suc (suc (length found))
    go true e rest =
        let no : true ≡ false = sym (ap (λ b. has_one (if b then Some g else fun_named f.name found)) (text_turned f.name g.name true e)) ∙ h in
        cc
    go false e rest = ap suc (rest (sym (ap (λ b. has_one (if b then Some g else fun_named f.name found)) (text_turned f.name g.name false e)) ∙ h))

count_more : (fs : List FunDecl) (f : Fun) (found : List Fun) → names_differ fs ≡ true → is_named_in f.name fs ≡ true → has_fun f.name found ≡ false → count_of fs (with_set f found) ≡ suc (count_of fs found)
count_more [] f found d i h = cc
count_more (g ∷ fs) f found d i h = go (bytes_eq f.name g.name) refl i (λ k. count_more fs f found (tail_differs g fs d) k h)
  where
    other : (name : List ℕ) → is_named_in name fs ≡ true → f.name ≡ g.name → (b : Bool) → bytes_eq f.name name ≡ b → has_one (if b then Some f else fun_named name found) ≡ has_fun name found
    other name k e true s =
        let no : true ≡ false = sym k ∙ ap (λ n. is_named_in n fs) (sym ((bytes_eq-Decides f.name name).0 s) ∙ e) ∙ head_new g fs d in
        cc
    other name k e false s = refl

    go : (b : Bool) → bytes_eq f.name g.name ≡ b → (b || is_named_in f.name fs) ≡ true → (is_named_in f.name fs ≡ true → count_of fs (with_set f found) ≡ suc (count_of fs found))
        → count_of (g ∷ fs) (with_set f found) ≡ suc (count_of (g ∷ fs) found)
    go true e k rest =
        let same : f.name ≡ g.name = (bytes_eq-Decides f.name g.name).0 e in
        let now : has_fun g.name (with_set f found) ≡ true = has_set g.name f found ∙ ap (λ b. has_one (if b then Some f else fun_named g.name found)) e in
        let before : has_fun g.name found ≡ false = ap (λ n. has_fun n found) (sym same) ∙ h in
        ap (λ b. one_if b (count_of fs (with_set f found))) now
        ∙ ap suc (count_same fs (with_set f found) found (λ name l. has_set name f found ∙ other name l same (bytes_eq f.name name) refl))
        ∙ ap (λ b. suc (one_if b (count_of fs found))) (sym before)
    go false e k rest =
        let now : has_fun g.name (with_set f found) ≡ has_fun g.name found = has_set g.name f found ∙ ap (λ b. has_one (if b then Some f else fun_named g.name found)) e in
        ap (λ b. one_if b (count_of fs (with_set f found))) now ∙ ap (one_if (has_fun g.name found)) (rest k) ∙ shifted (has_fun g.name found) (count_of fs found)
      where
        shifted : (b : Bool) (n : ℕ) → one_if b (suc n) ≡ suc (one_if b n)
        shifted true n = refl
        shifted false n = refl

pub count_set : (fs : List FunDecl) (f : Fun) (found : List Fun) → names_differ fs ≡ true → is_named_in f.name fs ≡ true → length found ≡ count_of fs found
    → length (with_set f found) ≡ count_of fs (with_set f found)
count_set fs f found d i h = go (has_fun f.name found) refl
  where
    go : (b : Bool) → has_fun f.name found ≡ b → length (with_set f found) ≡ count_of fs (with_set f found)
    go true e = length_same f found e ∙ h ∙ sym (count_same fs (with_set f found) found (λ name k. still_has f found e name))
    go false e = length_more f found e ∙ ap suc h ∙ sym (count_more fs f found d i e)
