-- The places of functions by the names that they say.
use Rattle.std.proofs.Common.{◌≡◌, ℕ, ◌+◌, ◌<◌, ◌≤◌, Bool, true, false, cond, List, [], ◌∷◌, ◌++◌, map, length, refl, sym, ap, subst, ◌∙◌, arith}
use Rattle.std.specs.Prelude.{◌||◌, ◌==◌, nat_lt, None, Some, slice_get, String, Vec, string_bytes, if◌then◌else◌}
use Rattle.std.specs.Map.{lookup}
use Rattle.std.specs.Str.{bytes_eq}
use Rattle.std.specs.declared.alloc.Global.{Global as Heap}
use Rattle.std.proofs.lemmas.Bool.Decides.{Decides-eqb, nat_tests}
use Rattle.std.proofs.lemmas.Option.{slice_get_within}
use Rattle.std.proofs.lemmas.Slice.Eq.{bytes_eq-Decides}
use Rattle.std.specs.List.{list_any}
use Rattle.indexmap.specs.IndexMap.{insert_entry}
use Rattle.indexmap.specs.IndexSet.{insert_key}
use Rattle.cal_model.specs.Tags.{is_seen}
use Rattle.cal_check.specs.Routines.{FunDecl}
use Rattle.check_functions.specs.Left.{Leaves, is_among}
use Rattle.check_functions.specs.Needs.{needs_of}
use Rattle.check_functions.specs.Said.{AddsPlace, AreSaid, Saying, Says, items_or_none, places_in, saying_of, with_places}

-- ---- places, as they lie in the index

pub found_places : (name : List ℕ) (es : List (String Heap × Vec ℕ Heap))
    → items_or_none (lookup (λ k. bytes_eq name (string_bytes k)) es) ≡ places_in name (map saying_of es)
found_places name [] = refl
found_places name (e ∷ es) = go (bytes_eq name (string_bytes e.0)) (found_places name es)
  where
    go : (b : Bool) → items_or_none (lookup (λ k. bytes_eq name (string_bytes k)) es) ≡ places_in name (map saying_of es)
        → items_or_none (cond b (Some e.1) (lookup (λ k. bytes_eq name (string_bytes k)) es)) ≡ (if b then e.1.items else places_in name (map saying_of es))
    go true rest = refl
    go false rest = rest

pub some_places : (name : List ℕ) (es : List (String Heap × Vec ℕ Heap)) (v : Vec ℕ Heap) → Some v ≡ lookup (λ k. bytes_eq name (string_bytes k)) es → v.items ≡ places_in name (map saying_of es)
some_places name es v h = ap items_or_none h ∙ found_places name es

pub no_places : (name : List ℕ) (es : List (String Heap × Vec ℕ Heap)) → None ≡ lookup (λ k. bytes_eq name (string_bytes k)) es → [] ≡ places_in name (map saying_of es)
no_places name es h = ap items_or_none h ∙ found_places name es

put_under : (k : String Heap) (v : Vec ℕ Heap) (es : List (String Heap × Vec ℕ Heap))
    → map saying_of (insert_entry (λ a b. bytes_eq (string_bytes a) (string_bytes b)) es k v) ≡ with_places (string_bytes k) v.items (map saying_of es)
put_under k v [] = refl
put_under k v (e ∷ es) = go (bytes_eq (string_bytes k) (string_bytes e.0)) (put_under k v es)
  where
    go : (b : Bool) → map saying_of (insert_entry (λ a c. bytes_eq (string_bytes a) (string_bytes c)) es k v) ≡ with_places (string_bytes k) v.items (map saying_of es)
        → map saying_of (if b then (e.0, v) ∷ es else e ∷ insert_entry (λ a c. bytes_eq (string_bytes a) (string_bytes c)) es k v)
        ≡ (if b then (string_bytes e.0, v.items) ∷ map saying_of es else saying_of e ∷ with_places (string_bytes k) v.items (map saying_of es))
    go true rest = refl
    go false rest = ap (λ ps. saying_of e ∷ ps) rest

pub put_places : (k : String Heap) (v : Vec ℕ Heap) (name : List ℕ) (es : List (String Heap × Vec ℕ Heap)) → string_bytes k ≡ name
    → map saying_of (insert_entry (λ a b. bytes_eq (string_bytes a) (string_bytes b)) es k v) ≡ with_places name v.items (map saying_of es)
put_places k v name es e =
    subst (λ n. map saying_of (insert_entry (λ a b. bytes_eq (string_bytes a) (string_bytes b)) es k v) ≡ with_places n v.items (map saying_of es)) e (put_under k v es)

-- ---- what is put, and the other names

put_found : (x name : List ℕ) (ps : List ℕ) (said : List Saying) → places_in x (with_places name ps said) ≡ (if bytes_eq x name then ps else places_in x said)
put_found x name ps [] = refl
put_found x name ps (s ∷ said) = go (bytes_eq name s.0) refl (put_found x name ps said)
  where
    same_first : (b c : Bool) → c ≡ b → (if c then ps else places_in x said) ≡ (if b then ps else if c then s.1 else places_in x said)
    same_first true c e = ap (λ d. if d then ps else places_in x said) e
    same_first false c e = ap (λ d. if d then ps else places_in x said) e ∙ sym (ap (λ d. if d then s.1 else places_in x said) e)

    not_both : (b c : Bool) → (b ≡ true → c ≡ false) → (if c then s.1 else if b then ps else places_in x said) ≡ (if b then ps else if c then s.1 else places_in x said)
    not_both true true h = let no : true ≡ false = h refl in cc
    not_both true false h = refl
    not_both false c h = refl

    other : (c : Bool) → bytes_eq x s.0 ≡ c → bytes_eq name s.0 ≡ false → bytes_eq x name ≡ true → c ≡ false
    other true i e h = sym ((bytes_eq-Decides name s.0).1 (sym ((bytes_eq-Decides x name).0 h) ∙ (bytes_eq-Decides x s.0).0 i)) ∙ e
    other false i e h = refl

    go : (b : Bool) → bytes_eq name s.0 ≡ b → places_in x (with_places name ps said) ≡ (if bytes_eq x name then ps else places_in x said)
        → places_in x (if b then (s.0, ps) ∷ said else s ∷ with_places name ps said) ≡ (if bytes_eq x name then ps else if bytes_eq x s.0 then s.1 else places_in x said)
    go true e rest = same_first (bytes_eq x name) (bytes_eq x s.0) (ap (bytes_eq x) (sym ((bytes_eq-Decides name s.0).0 e)))
    go false e rest =
        ap (λ qs. if bytes_eq x s.0 then s.1 else qs) rest ∙ not_both (bytes_eq x name) (bytes_eq x s.0) (λ h. other (bytes_eq x s.0) refl e h)

-- the places of a name are taken out, and put back with one more
pub put_more : (name : List ℕ) (place : ℕ) (none some : List ℕ) (old mid new : List Saying) → mid ≡ with_places name none old → some ≡ places_in name old ++ place ∷ []
    → new ≡ with_places name some mid → AddsPlace name place old new
put_more name place none some old mid new taken more put x =
    ap (places_in x) put ∙ put_found x name some mid ∙ go (bytes_eq x name) refl
  where
    go : (b : Bool) → bytes_eq x name ≡ b → (if b then some else places_in x mid) ≡ (if b then places_in x old ++ place ∷ [] else places_in x old)
    go true e = more ∙ ap (λ n. places_in n old ++ place ∷ []) (sym ((bytes_eq-Decides x name).0 e))
    go false e = ap (places_in x) taken ∙ put_found x name none old ∙ ap (λ b. if b then none else places_in x old) e

-- ---- names that are said at a place

among_before : (p : ℕ) (ps qs : List ℕ) → is_among p ps ≡ true → is_among p (ps ++ qs) ≡ true
among_before p [] qs h = cc
among_before p (q ∷ ps) qs h = go (p == q) h (λ i. among_before p ps qs i)
  where
    go : (b : Bool) → (b || is_among p ps) ≡ true → (is_among p ps ≡ true → is_among p (ps ++ qs) ≡ true) → (b || is_among p (ps ++ qs)) ≡ true
    go true h rest = refl
    go false h rest = rest h

among_last : (p : ℕ) (ps : List ℕ) → is_among p (ps ++ p ∷ []) ≡ true
among_last p [] = ap (λ b. b || false) ((Decides-eqb p p).1 refl)
among_last p (q ∷ ps) = go (p == q) (among_last p ps)
  where
    go : (b : Bool) → is_among p (ps ++ p ∷ []) ≡ true → (b || is_among p (ps ++ p ∷ [])) ≡ true
    go true h = refl
    go false h = h

pub says_none : (place : ℕ) (said : List Saying) → Says [] place said said
says_none place said = record { keeps = λ x p h. h; says = λ x h. cc }

pub says_more : (name : List ℕ) (names : List (List ℕ)) (place : ℕ) (old mid new : List Saying) → AddsPlace name place old mid → Says names place mid new → Says (name ∷ names) place old new
says_more name names place old mid new adds rest = record {
  keeps = λ x p h. rest.keeps x p (kept x p h);
  says = λ x h. said x (bytes_eq name x) refl h;
}
  where
    kept : (x : List ℕ) (p : ℕ) → is_among p (places_in x old) ≡ true → is_among p (places_in x mid) ≡ true
    kept x p h = ap (is_among p) (adds x) ∙ go (bytes_eq x name)
      where
        go : (b : Bool) → is_among p (if b then places_in x old ++ place ∷ [] else places_in x old) ≡ true
        go true = among_before p (places_in x old) (place ∷ []) h
        go false = h

    said : (x : List ℕ) (b : Bool) → bytes_eq name x ≡ b → (b || is_seen x names) ≡ true → is_among place (places_in x new) ≡ true
    said x true e h =
        let turned : bytes_eq x name ≡ true = (bytes_eq-Decides x name).1 (sym ((bytes_eq-Decides name x).0 e)) in
        rest.keeps x place
        (ap (is_among place) (adds x ∙ ap (λ b. if b then places_in x old ++ place ∷ [] else places_in x old) turned) ∙ among_last place (places_in x old))
    said x false e h = rest.says x h

-- ---- functions in their order

-- the functions before a place are told of
abbrev pub AreSaidBefore : ℕ → List FunDecl → List Saying → Type 0
AreSaidBefore n fs said = (place : ℕ) (f : FunDecl) → place < n → slice_get fs place ≡ Some f
    → (x : List ℕ) → is_seen x (needs_of (f ∷ [])).names ≡ true → is_among place (places_in x said) ≡ true

pub none_before : (fs : List FunDecl) (said : List Saying) → AreSaidBefore 0 fs said
none_before fs said place f less = absurd (omega (arith, less))

pub one_before : (n : ℕ) (fs : List FunDecl) (f : FunDecl) (old new : List Saying) → slice_get fs n ≡ Some f → Says (needs_of (f ∷ [])).names n old new → AreSaidBefore n fs old
    → AreSaidBefore (n + 1) fs new
one_before n fs f old new there says before place g less is = go (nat_lt place n) refl
  where
    go : (b : Bool) → nat_lt place n ≡ b → (x : List ℕ) → is_seen x (needs_of (g ∷ [])).names ≡ true → is_among place (places_in x new) ≡ true
    go true e x h =
        let fewer : place < n = grind (arith, nat_tests) in
        says.keeps x place (before place g fewer is x h)
    go false e x h =
        let same : place ≡ n = grind (arith, nat_tests) in
        let own : Some g ≡ Some f = sym is ∙ ap (slice_get fs) same ∙ there in
        let it : g ≡ f = cc in
        subst (λ p. is_among p (places_in x new) ≡ true) (sym same) (says.says x (ap (λ k. is_seen x (needs_of (k ∷ [])).names) (sym it) ∙ h))

pub all_before : (n : ℕ) (fs : List FunDecl) (said : List Saying) → length fs ≤ n → AreSaidBefore n fs said → AreSaid fs said
all_before n fs said most before place f is =
    let within = slice_get_within fs place f is in
    before place f (omega (arith, within, most)) is

-- ---- places that are left

any_among : (k : ℕ) (ks : List ℕ) → list_any (λ b. k == b) ks ≡ true → is_among k ks ≡ true
any_among k [] h = cc
any_among k (x ∷ ks) h = go (k == x) h (λ i. any_among k ks i)
  where
    go : (b : Bool) → (b || list_any (λ b. k == b) ks) ≡ true → (list_any (λ b. k == b) ks ≡ true → is_among k ks ≡ true) → (b || is_among k ks) ≡ true
    go true h rest = refl
    go false h rest = rest h

not_front : (p : ℕ) (ps qs : List ℕ) → is_among p (ps ++ qs) ≡ false → is_among p ps ≡ false
not_front p [] qs h = refl
not_front p (q ∷ ps) qs h = go (p == q) h (λ i. not_front p ps qs i)
  where
    go : (b : Bool) → (b || is_among p (ps ++ qs)) ≡ false → (is_among p (ps ++ qs) ≡ false → is_among p ps ≡ false) → (b || is_among p ps) ≡ false
    go true h rest = h
    go false h rest = rest h

pub leaves_none : (left : List ℕ) → Leaves [] left left
leaves_none left p h = (h, refl)

pub leaves_first : (k : ℕ) (ps old mid last : List ℕ) → mid ≡ insert_key (λ a b. a == b) old k → Leaves ps mid last → Leaves (k ∷ ps) old last
leaves_first k ps old mid last put h p e =
    let now = h p e in
    let before : is_among p (insert_key (λ a b. a == b) old k) ≡ false = ap (is_among p) (sym put) ∙ now.0 in
    go (list_any (λ b. k == b) old) refl before now.1
  where
    other : is_among p ps ≡ false → (b : Bool) → (p == k) ≡ b → (p ≡ k → ⊥) → (b || is_among p ps) ≡ false
    other i true s n = absurd (n ((Decides-eqb p k).0 s))
    other i false s n = i

    clash : (q : ℕ) (qs : List ℕ) → is_among q qs ≡ true → is_among q qs ≡ false → ⊥
    clash q qs a b = cc

    go : (b : Bool) → list_any (λ b. k == b) old ≡ b → is_among p (if b then old else old ++ k ∷ []) ≡ false → is_among p ps ≡ false → (is_among p old ≡ false) × (is_among p (k ∷ ps) ≡ false)
    go true any before i = (
      before,
      other i (p == k) refl (λ same. clash p old (ap (λ q. is_among q old) same ∙ any_among k old any) before),
    )
    go false any before i = (
      not_front p old (k ∷ []) before,
      other i (p == k) refl (λ same. clash p (old ++ k ∷ []) (ap (λ q. is_among q (old ++ k ∷ [])) same ∙ among_last k old) before),
    )
