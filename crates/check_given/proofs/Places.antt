-- Where values of a name stand, and the index of these places.
use Rattle.std.proofs.Common.{◌≡◌, ℕ, suc, ◌+◌, Bool, true, false, cond, List, [], ◌∷◌, ◌++◌, length, refl, sym, ap, subst, ◌∙◌, arith}
use Rattle.std.proofs.lemmas.Bool.Decides.{nat_tests, same_from_decides}
use Rattle.std.proofs.lemmas.Slice.Eq.{bytes_eq-Decides}
use Rattle.std.specs.Prelude.{Option, None, Some, ◌||◌, if◌then◌else◌, nat_lt, option_map, slice_get, String, string_bytes}
use Rattle.std.specs.Borrow.{Bor}
use Rattle.std.specs.Str.{bytes_eq}
use Rattle.std.specs.declared.alloc.Global.{Global as Heap}
use Rattle.indexmap.specs.IndexMap.{insert_entry}
use Rattle.cal_check.specs.Actors.{is_given}
use Rattle.cal_check.specs.Variables.{Given, given_to}
use Rattle.fnl_tree.specs.declared.tree.LeafValue.{LeafValue}
use Rattle.check_given.specs.Given.{all_given, given_of}
use Rattle.check_given.specs.Placing.{IsPut, LeadBehind, Places, first_place, is_before, place_under}

turned : (a b : List ℕ) → bytes_eq a b ≡ bytes_eq b a
turned a b = same_from_decides (bytes_eq a b) (bytes_eq b a) (bytes_eq-Decides a b)
    ((λ h. sym ((bytes_eq-Decides b a).0 h)), (λ e. (bytes_eq-Decides b a).1 (sym e)))

-- ---- the index

put_under : (k : String Heap) (v : ℕ) (es : Places) → IsPut (string_bytes k) v es (insert_entry (λ a b. bytes_eq (string_bytes a) (string_bytes b)) es k v)
put_under k v [] other = here (bytes_eq other (string_bytes k))
  where
    here : (b : Bool) → cond b (Some v) None ≡ (if b then Some v else None)
    here true = refl
    here false = refl
put_under k v (e ∷ es) other = go (bytes_eq (string_bytes k) (string_bytes e.0)) refl (put_under k v es other)
  where
    same : (b : Bool) (o : Option ℕ) → cond b (Some v) o ≡ (if b then Some v else cond b (Some e.1) o)
    same true o = refl
    same false o = refl

    past : (b : Bool) (o p : Option ℕ) → bytes_eq other (string_bytes e.0) ≡ b → bytes_eq (string_bytes k) (string_bytes e.0) ≡ false
        → p ≡ (if bytes_eq other (string_bytes k) then Some v else o) → cond b (Some e.1) p ≡ (if bytes_eq other (string_bytes k) then Some v else cond b (Some e.1) o)
    past true o p h f rest =
        let apart : bytes_eq other (string_bytes k) ≡ false = turned other (string_bytes k) ∙ subst (λ n. bytes_eq (string_bytes k) n ≡ false) (sym ((bytes_eq-Decides other (string_bytes e.0)).0 h)) f in
        sym (ap (λ c. if c then Some v else Some e.1) apart)
    past false o p h f rest = rest

    go : (b : Bool) → bytes_eq (string_bytes k) (string_bytes e.0) ≡ b
        → place_under other (insert_entry (λ a c. bytes_eq (string_bytes a) (string_bytes c)) es k v) ≡ (if bytes_eq other (string_bytes k) then Some v else place_under other es)
        → place_under other (if b then (e.0, v) ∷ es else e ∷ insert_entry (λ a c. bytes_eq (string_bytes a) (string_bytes c)) es k v)
        ≡ (if bytes_eq other (string_bytes k) then Some v else cond (bytes_eq other (string_bytes e.0)) (Some e.1) (place_under other es))
    go true h rest =
        same (bytes_eq other (string_bytes e.0)) (place_under other es)
        ∙ ap (λ n. if bytes_eq other n then Some v else cond (bytes_eq other (string_bytes e.0)) (Some e.1) (place_under other es)) (sym ((bytes_eq-Decides (string_bytes k) (string_bytes e.0)).0 h))
    go false h rest = past (bytes_eq other (string_bytes e.0)) (place_under other es) _ refl h rest

pub put_place : (k : String Heap) (v : ℕ) (name : List ℕ) (es new : Places) → string_bytes k ≡ name → new ≡ insert_entry (λ a b. bytes_eq (string_bytes a) (string_bytes b)) es k v → IsPut name v es new
put_place k v name es new e h = subst (IsPut name v es) (sym h) (subst (λ n. IsPut n v es (insert_entry (λ a b. bytes_eq (string_bytes a) (string_bytes b)) es k v)) e (put_under k v es))

-- ---- from the last one back

last_place : (at : ℕ) (name : List ℕ) (gs : List LeafValue) (g : LeafValue) (other : Option ℕ)
    → first_place at name (gs ++ g ∷ []) other ≡ first_place at name gs (if bytes_eq name (string_bytes g.name) then Some (at + length gs) else other)
last_place at name [] g other = let e : at ≡ at + 0 = omega arith in ap (λ n. if bytes_eq name (string_bytes g.name) then Some n else other) e
last_place at name (h ∷ gs) g other =
    let e : suc at + length gs ≡ at + suc (length gs) = omega arith in
    ap (λ o. if bytes_eq name (string_bytes h.name) then Some at else o)
    (last_place (suc at) name gs g other ∙ ap (λ n. first_place (suc at) name gs (if bytes_eq name (string_bytes g.name) then Some n else other)) e)

pub behind_more : (old new : Places) (rest before all : List LeafValue) (g : LeafValue) (name : List ℕ) (place : ℕ) → LeadBehind old rest all → rest ≡ before ++ g ∷ []
    → name ≡ string_bytes g.name → place ≡ length before → IsPut name place old new → LeadBehind new before all
behind_more old new rest before all g name place leads e f h put other =
    let from : place ≡ 0 + length before = omega (arith, h) in
    ap (first_place 0 other before) (put other ∙ ap (λ n. if bytes_eq other n then Some place else place_under other old) f ∙ ap (λ n. if bytes_eq other (string_bytes g.name) then Some n else place_under other old) from)
    ∙ sym (last_place 0 other before g (place_under other old))
    ∙ ap (λ gs. first_place 0 other gs (place_under other old)) (sym e)
    ∙ leads other

-- ---- what is found

later_place : (at : ℕ) (name : List ℕ) (gs : List LeafValue) → first_place (suc at) name gs None ≡ option_map suc (first_place at name gs None)
later_place at name [] = refl
later_place at name (g ∷ gs) = go (bytes_eq name (string_bytes g.name)) (later_place (suc at) name gs)
  where
    go : (b : Bool) → first_place (suc (suc at)) name gs None ≡ option_map suc (first_place (suc at) name gs None)
        → (if b then Some (suc at) else first_place (suc (suc at)) name gs None) ≡ option_map suc (if b then Some at else first_place (suc at) name gs None)
    go true rest = refl
    go false rest = rest

abbrev pub at_place : List Given → Option ℕ → Option Given
at_place gs None = None
at_place gs (Some place) = slice_get gs place

next_place : (g : Given) (gs : List Given) (o : Option ℕ) → at_place (g ∷ gs) (option_map suc o) ≡ at_place gs o
next_place g gs None = refl
next_place g gs (Some place) = refl

found : (name : List ℕ) (gs : List LeafValue) → at_place (all_given gs) (first_place 0 name gs None) ≡ given_to name (all_given gs)
found name [] = refl
found name (g ∷ gs) =
    ap (λ b. at_place (all_given (g ∷ gs)) (if b then Some 0 else first_place 1 name gs None)) (turned name (string_bytes g.name))
    ∙ go (bytes_eq (string_bytes g.name) name) (found name gs)
  where
    go : (b : Bool) → at_place (all_given gs) (first_place 0 name gs None) ≡ given_to name (all_given gs)
        → at_place (all_given (g ∷ gs)) (if b then Some 0 else first_place 1 name gs None) ≡ (if b then Some (given_of g) else given_to name (all_given gs))
    go true rest = refl
    go false rest = ap (at_place (all_given (g ∷ gs))) (later_place 0 name gs) ∙ next_place (given_of g) (all_given gs) (first_place 0 name gs None) ∙ rest

pub found_at : (name : List ℕ) (gs : List LeafValue) (place : ℕ) → Some place ≡ first_place 0 name gs None → slice_get (all_given gs) place ≡ given_to name (all_given gs)
found_at name gs place e = ap (at_place (all_given gs)) e ∙ found name gs

pub found_none : (name : List ℕ) (gs : List LeafValue) (o : Option (Bor LeafValue)) → None ≡ first_place 0 name gs None → o ≡ None
    → option_map (λ g. given_of g.now) o ≡ given_to name (all_given gs)
found_none name gs o e h = ap (option_map (λ g. given_of g.now)) h ∙ ap (at_place (all_given gs)) e ∙ found name gs

-- ---- what stands before a place

none_before : (o : Option ℕ) → is_before o 0 ≡ false
none_before None = refl
none_before (Some place) = grind (arith, nat_tests)

next_before : (o : Option ℕ) (n : ℕ) → is_before (option_map suc o) (suc n) ≡ is_before o n
next_before None n = refl
next_before (Some place) n = grind (arith, nat_tests)

first_before : (n : ℕ) → nat_lt 0 (suc n) ≡ true
first_before n = grind (arith, nat_tests)

pub before_is : (name : List ℕ) (gs behind : List LeafValue) → is_before (first_place 0 name (gs ++ behind) None) (length gs) ≡ is_given name (all_given gs)
before_is name [] behind = none_before (first_place 0 name behind None)
before_is name (g ∷ gs) behind =
    ap (λ b. is_before (if b then Some 0 else first_place 1 name (gs ++ behind) None) (suc (length gs))) (turned name (string_bytes g.name))
    ∙ go (bytes_eq (string_bytes g.name) name) (before_is name gs behind)
  where
    go : (b : Bool) → is_before (first_place 0 name (gs ++ behind) None) (length gs) ≡ is_given name (all_given gs)
        → is_before (if b then Some 0 else first_place 1 name (gs ++ behind) None) (suc (length gs)) ≡ (b || is_given name (all_given gs))
    go true rest = first_before (length gs)
    go false rest =
        ap (λ o. is_before o (suc (length gs))) (later_place 0 name (gs ++ behind))
        ∙ next_before (first_place 0 name (gs ++ behind) None) (length gs) ∙ rest
