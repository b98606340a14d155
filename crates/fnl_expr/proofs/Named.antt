-- The attributes of a name in parts of a list.
use Rattle.std.proofs.Common.{◌≡◌, ◌≢◌, ℕ, suc, ◌+◌, ◌<◌, ◌≤◌, Bool, true, false, List, [], ◌∷◌, ◌++◌, None, Some, length, take, drop, get_or, map, refl, ap, sym, ◌∙◌, arith}
use Rattle.std.proofs.Math.Seq.{take-suc}
use Rattle.std.proofs.lemmas.List.{append-nil, length-append, map-append, take_all, take-append-drop}
use Rattle.std.specs.Prelude.{if◌then◌else◌}
use Rattle.std.specs.Str.{bytes_eq}
use Rattle.fnl_markup.specs.Tags.{Attribute, attribute, plain_attribute}
use Rattle.fnl_markup.specs.declared.tag.Attribute.{Attribute as TheAttribute}
use Rattle.fnl_expr.specs.Given.{named, only_one, given}

keep : (test : Bool) (a : Attribute) (xs ys : List Attribute) → (if test then a ∷ (xs ++ ys) else xs ++ ys) ≡ (if test then a ∷ xs else xs) ++ ys
keep true a xs ys = refl
keep false a xs ys = refl

if_same : (test : Bool) (a : Attribute) (xs ys : List Attribute) → xs ≡ ys → (if test then a ∷ xs else xs) ≡ (if test then a ∷ ys else ys)
if_same test a xs ys e = rw e refl

pub named_append : (key : List ℕ) (xs ys : List Attribute) → named key (xs ++ ys) ≡ named key xs ++ named key ys
named_append key [] ys = refl
named_append key (attribute name value at ∷ xs) ys =
    if_same (bytes_eq name key) (attribute name value at) (named key (xs ++ ys)) (named key xs ++ named key ys) (named_append key xs ys)
    ∙ keep (bytes_eq name key) (attribute name value at) (named key xs) (named key ys)

take_more : (xs : List TheAttribute) (x : TheAttribute) (i : ℕ) → i < length xs → x ≡ get_or xs i x → take (i + 1) xs ≡ take i xs ++ x ∷ []
take_more xs x i small is =
    let next : i + 1 ≡ suc i = omega arith in
    ap (λ k. take k xs) next ∙ take-suc xs i x small ∙ ap (λ y. take i xs ++ (y ∷ [])) (sym is)

one_named : (key : List ℕ) (a : TheAttribute) (test : Bool) → test ≡ bytes_eq a.name.items key → named key (map plain_attribute (a ∷ [])) ≡ (if test then plain_attribute a ∷ [] else [])
one_named key a test e = rw e refl

-- the attributes of a name, up to one more
pub named_next : (key : List ℕ) (xs : List TheAttribute) (x : TheAttribute) (i : ℕ) (test : Bool) → i < length xs → x ≡ get_or xs i x → test ≡ bytes_eq x.name.items key → named key (map plain_attribute (take (i + 1) xs)) ≡ named key (map plain_attribute (take i xs)) ++ (if test then plain_attribute x ∷ [] else [])
named_next key xs x i test small is e =
    ap (λ ys. named key (map plain_attribute ys)) (take_more xs x i small is) ∙ ap (named key) (map-append plain_attribute (take i xs) (x ∷ []))
    ∙ named_append key (map plain_attribute (take i xs)) (map plain_attribute (x ∷ []))
    ∙ ap (λ ys. named key (map plain_attribute (take i xs)) ++ ys) (one_named key x test e)

-- how many have the name, up to one more
pub count_same : (key : List ℕ) (xs : List TheAttribute) (x : TheAttribute) (i count : ℕ) → i < length xs → x ≡ get_or xs i x → false ≡ bytes_eq x.name.items key → count ≡ length (named key (map plain_attribute (take i xs))) → count ≡ length (named key (map plain_attribute (take (i + 1) xs)))
count_same key xs x i count small is e h = h ∙ sym (ap length (named_next key xs x i false small is e ∙ append-nil (named key (map plain_attribute (take i xs)))))

pub count_more : (key : List ℕ) (xs : List TheAttribute) (x : TheAttribute) (i count : ℕ) → i < length xs → x ≡ get_or xs i x → true ≡ bytes_eq x.name.items key → count ≡ length (named key (map plain_attribute (take i xs))) → count + 1 ≡ length (named key (map plain_attribute (take (i + 1) xs)))
count_more key xs x i count small is e h =
    let before = named key (map plain_attribute (take i xs)) in
    let more : length (named key (map plain_attribute (take (i + 1) xs))) ≡ length (before ++ plain_attribute x ∷ []) = ap length (named_next key xs x i true small is e) in
    let size : length (before ++ plain_attribute x ∷ []) ≡ length before + 1 = length-append before (plain_attribute x ∷ []) in
    omega arith

pub count_all : (key : List ℕ) (xs : List TheAttribute) (i count : ℕ) → length xs ≤ i → count ≡ length (named key (map plain_attribute (take i xs))) → count ≡ length (named key (map plain_attribute xs))
count_all key xs i count large h = h ∙ ap (λ ys. length (named key (map plain_attribute ys))) (take_all i xs large)

-- not exactly one
pub none_alone : (xs : List Attribute) → length xs ≢ 1 → only_one xs ≡ None
none_alone [] h = refl
none_alone (x ∷ []) h = absurd (h refl)
none_alone (x ∷ y ∷ xs) h = refl

-- none has the name, up to one more
pub none_yet : (key : List ℕ) (xs : List TheAttribute) (x : TheAttribute) (i : ℕ) → i < length xs → x ≡ get_or xs i x → false ≡ bytes_eq x.name.items key → named key (map plain_attribute (take i xs)) ≡ [] → named key (map plain_attribute (take (i + 1) xs)) ≡ []
none_yet key xs x i small is e h = named_next key xs x i false small is e ∙ append-nil (named key (map plain_attribute (take i xs))) ∙ h

alone : (x : Attribute) (rest all : List Attribute) → all ≡ x ∷ rest → length all ≡ 1 → only_one all ≡ Some x
alone x [] all e h = ap only_one e
alone x (y ∷ rest) all e h = let size : length all ≡ suc (suc (length rest)) = ap length e in absurd (omega arith)

-- one has the name, and it is this
pub found : (key : List ℕ) (xs : List TheAttribute) (x : TheAttribute) (i : ℕ) → i < length xs → x ≡ get_or xs i x → true ≡ bytes_eq x.name.items key → named key (map plain_attribute (take i xs)) ≡ [] → length (named key (map plain_attribute xs)) ≡ 1 → Some (plain_attribute x) ≡ given key (map plain_attribute xs)
found key xs x i small is e none one =
    let rest = named key (map plain_attribute (drop (i + 1) xs)) in
    let front : named key (map plain_attribute (take (i + 1) xs)) ≡ plain_attribute x ∷ [] = named_next key xs x i true small is e ∙ ap (λ ys. ys ++ plain_attribute x ∷ []) none in
    let split : named key (map plain_attribute xs) ≡ plain_attribute x ∷ rest =
    ap (λ ys. named key (map plain_attribute ys)) (sym (take-append-drop (i + 1) xs)) ∙ ap (named key) (map-append plain_attribute (take (i + 1) xs) (drop (i + 1) xs))
    ∙ named_append key (map plain_attribute (take (i + 1) xs)) (map plain_attribute (drop (i + 1) xs)) ∙ ap (λ ys. ys ++ rest) front in
    sym (alone (plain_attribute x) rest (named key (map plain_attribute xs)) split one)

pub none_at_all : (key : List ℕ) (xs : List TheAttribute) (i : ℕ) → length xs ≤ i → named key (map plain_attribute (take i xs)) ≡ [] → None ≡ given key (map plain_attribute xs)
none_at_all key xs i large h = sym (ap (λ ys. only_one (named key (map plain_attribute ys))) (sym (take_all i xs large)) ∙ ap only_one h)
