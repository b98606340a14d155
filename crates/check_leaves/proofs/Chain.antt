-- The first leaves of a class, each of which leads to the one before it.
use Rattle.std.proofs.Common.{◌≡◌, ℕ, zero, suc, ◌<◌, ◌≤◌, Bool, true, false, List, [], ◌∷◌, ◌++◌, length, Option, None, Some, refl, sym, ap, subst, ◌∙◌, arith}
use Rattle.std.specs.Prelude.{if◌then◌else◌, nat_lt, slice_get}
use Rattle.std.specs.Str.{bytes_eq}
use Rattle.std.proofs.lemmas.Bool.Decides.{nat_tests}
use Rattle.std.proofs.lemmas.List.{length-map, map-append}
use Rattle.std.proofs.lemmas.Slice.Eq.{bytes_eq-Decides}
use Rattle.fnl_tree.specs.Tree.{Leaf}
use Rattle.check_leaves.specs.Alike.{AreAlike}
use Rattle.check_leaves.specs.Equal.{give_same}
use Rattle.check_leaves.specs.Finding.{IsFound, IsIndex, IsLast, Linked, NoneBetween, Numbered, leaves_of, number_of, with_number}
use Rattle.check_leaves.proofs.Equal.{give_same_if, give_same_is}
use Rattle.check_leaves.proofs.Lists.{earlier_or_last, get_front, get_last, longer, some_same, still, within}

-- ---- the number of a class, once one has another

put_number : (other class : List ℕ) (n : ℕ) (es : List Numbered)
    → number_of other (with_number class n es) ≡ (if bytes_eq other class then Some n else number_of other es)
put_number other class n [] = refl
put_number other class n (e ∷ es) =
    go (bytes_eq class e.0) (bytes_eq other class) (bytes_eq other e.0) refl refl refl (put_number other class n es)
  where
    go : (b c d : Bool) → bytes_eq class e.0 ≡ b → bytes_eq other class ≡ c → bytes_eq other e.0 ≡ d
        → number_of other (with_number class n es) ≡ (if bytes_eq other class then Some n else number_of other es)
        → number_of other (if b then (e.0, n) ∷ es else e ∷ with_number class n es)
        ≡ (if c then Some n else if d then Some e.1 else number_of other es)
    go true true d h i j rest =
        let same : other ≡ e.0 = (bytes_eq-Decides other class).0 i ∙ (bytes_eq-Decides class e.0).0 h in
        ap (λ t. if t then Some n else number_of other es) ((bytes_eq-Decides other e.0).1 same)
    go true false true h i j rest =
        let same : other ≡ class = (bytes_eq-Decides other e.0).0 j ∙ sym ((bytes_eq-Decides class e.0).0 h) in
        absurd (let e : false ≡ true = sym i ∙ (bytes_eq-Decides other class).1 same in cc)
    go true false false h i j rest = ap (λ t. if t then Some n else number_of other es) j
    go false true true h i j rest =
        let same : class ≡ e.0 = sym ((bytes_eq-Decides other class).0 i) ∙ (bytes_eq-Decides other e.0).0 j in
        absurd (let e : false ≡ true = sym h ∙ (bytes_eq-Decides class e.0).1 same in cc)
    go false true false h i j rest =
        ap (λ t. if t then Some e.1 else number_of other (with_number class n es)) j ∙ rest
        ∙ ap (λ t. if t then Some n else number_of other es) i
    go false false true h i j rest = ap (λ t. if t then Some e.1 else number_of other (with_number class n es)) j
    go false false false h i j rest =
        ap (λ t. if t then Some e.1 else number_of other (with_number class n es)) j ∙ rest
        ∙ ap (λ t. if t then Some n else number_of other es) i

-- ---- the last of a class, in a longer list

none_grown : (xs ys : List Leaf) (class : List ℕ) (from below : ℕ) → NoneBetween xs class from below → below ≤ length xs
    → NoneBetween (xs ++ ys) class from below
none_grown xs ys class from below none inside p leaf high low h same =
    none p leaf high low (sym (get_front xs ys p (omega (arith, low, inside))) ∙ h) same

last_grown : (xs ys : List Leaf) (class : List ℕ) (below : ℕ) (next : Option ℕ) → IsLast xs class below next → below ≤ length xs
    → IsLast (xs ++ ys) class below next
last_grown xs ys class below None last inside = none_grown xs ys class 0 below last inside
last_grown xs ys class below (Some q) last inside =
    (last.0, last.1, still xs ys q last.1 last.2, last.3, none_grown xs ys class (suc q) below last.4 inside)

none_beyond : (xs : List Leaf) (x : Leaf) (class : List ℕ) (from : ℕ) → (x.class ≡ class → ⊥) → NoneBetween xs class from (length xs)
    → NoneBetween (xs ++ x ∷ []) class from (suc (length xs))
none_beyond xs x class from other none p leaf high low h same =
    earlier_or_last xs x leaf p h
    (λ found. none p leaf high (within xs p leaf found) found same)
    (λ end is. other (ap (λ l. l.class) is ∙ same))

last_beyond : (xs : List Leaf) (x : Leaf) (class : List ℕ) (next : Option ℕ) → (x.class ≡ class → ⊥) → IsLast xs class (length xs) next
    → IsLast (xs ++ x ∷ []) class (suc (length xs)) next
last_beyond xs x class None other last = none_beyond xs x class 0 other last
last_beyond xs x class (Some q) other last =
    let low = last.0 in
    (omega (arith, low), last.1, still xs (x ∷ []) q last.1 last.2, last.3, none_beyond xs x class (suc q) other last.4)

last_itself : (xs : List Leaf) (x : Leaf) (class : List ℕ) → x.class ≡ class
    → IsLast (xs ++ x ∷ []) class (suc (length xs)) (Some (length xs))
last_itself xs x class same =
    (omega arith, x, get_last xs x, same, λ p leaf high low h is. absurd (omega (arith, high, low)))

-- ---- one more in the index

as_many : (links : List Linked) → length (leaves_of links) ≡ length links
as_many links = length-map links (λ f. f.leaf)

leaves_more : (links : List Linked) (x : Linked) → leaves_of (links ++ x ∷ []) ≡ leaves_of links ++ x.leaf ∷ []
leaves_more links x = map-append (λ f. f.leaf) links (x ∷ [])

abbrev linked : Leaf → List Numbered → Linked
linked leaf newest = record { leaf = leaf; earlier = number_of leaf.class newest }

at_end : (newest : List Numbered) (links : List Linked) → IsIndex newest links → (class : List ℕ)
    → IsLast (leaves_of links) class (length (leaves_of links)) (number_of class newest)
at_end newest links index class =
    subst (λ n. IsLast (leaves_of links) class n (number_of class newest)) (sym (as_many links)) (index.last class)

newest_more : (newest : List Numbered) (links : List Linked) (leaf : Leaf) (class : List ℕ) (b : Bool) → bytes_eq class leaf.class ≡ b → IsIndex newest links
    → IsLast (leaves_of links ++ leaf ∷ []) class (suc (length (leaves_of links))) (if b then Some (length links) else number_of class newest)
newest_more newest links leaf class true e index =
    subst (λ n. IsLast (leaves_of links ++ leaf ∷ []) class (suc (length (leaves_of links))) (Some n)) (as_many links)
    (last_itself (leaves_of links) leaf class (sym ((bytes_eq-Decides class leaf.class).0 e)))
newest_more newest links leaf class false e index =
    last_beyond (leaves_of links) leaf class (number_of class newest)
    (λ same. let t : false ≡ true = sym e ∙ (bytes_eq-Decides class leaf.class).1 (sym same) in cc)
    (at_end newest links index class)

last_more : (newest : List Numbered) (links : List Linked) (leaf : Leaf) → IsIndex newest links → (class : List ℕ)
    → IsLast (leaves_of (links ++ linked leaf newest ∷ [])) class (length (links ++ linked leaf newest ∷ [])) (number_of class (with_number leaf.class (length links) newest))
last_more newest links leaf index class =
    subst (λ xs. IsLast xs class (length (links ++ linked leaf newest ∷ [])) (number_of class (with_number leaf.class (length links) newest))) (sym (leaves_more links (linked leaf newest)))
    (subst (λ n. IsLast (leaves_of links ++ leaf ∷ []) class n (number_of class (with_number leaf.class (length links) newest))) (ap suc (as_many links) ∙ sym (longer links (linked leaf newest)))
    (subst (IsLast (leaves_of links ++ leaf ∷ []) class (suc (length (leaves_of links)))) (sym (put_number class leaf.class (length links) newest))
    (newest_more newest links leaf class (bytes_eq class leaf.class) refl index)))

before_more : (newest : List Numbered) (links : List Linked) (leaf : Leaf) → IsIndex newest links → (k : ℕ) (f : Linked)
    → slice_get (links ++ linked leaf newest ∷ []) k ≡ Some f
    → IsLast (leaves_of (links ++ linked leaf newest ∷ [])) f.leaf.class k f.earlier
before_more newest links leaf index k f h =
    subst (λ xs. IsLast xs f.leaf.class k f.earlier) (sym (leaves_more links (linked leaf newest)))
    (earlier_or_last links (linked leaf newest) f k h
    (λ found. let low = within links k f found in let many = as_many links in
    last_grown (leaves_of links) (leaf ∷ []) f.leaf.class k f.earlier (index.before k f found) (omega (arith, low, many)))
    (λ end is. subst (λ g. IsLast (leaves_of links ++ leaf ∷ []) g.leaf.class k g.earlier) is
    (subst (λ n. IsLast (leaves_of links ++ leaf ∷ []) leaf.class n (number_of leaf.class newest)) (as_many links ∙ sym end)
    (last_grown (leaves_of links) (leaf ∷ []) leaf.class (length (leaves_of links)) (number_of leaf.class newest) (at_end newest links index leaf.class) (omega arith)))))

pub indexed_more : (newest : List Numbered) (links : List Linked) (leaf : Leaf) → IsIndex newest links
    → IsIndex (with_number leaf.class (length links) newest) (links ++ record { leaf = leaf; earlier = number_of leaf.class newest } ∷ [])
indexed_more newest links leaf index =
    record { last = last_more newest links leaf index; before = before_more newest links leaf index }

no_item : (k : ℕ) (f : Linked) → slice_get [] k ≡ Some f → ⊥
no_item k f h = cc

pub indexed_none : IsIndex [] []
indexed_none = record {
  last = λ class p leaf high low h same. omega (arith, low);
  before = λ k f h. absurd (no_item k f h);
}

-- ---- a search

-- none from a number on is alike, and the next one is the last of its class before it
pub record IsSearched (leaves : List Leaf) (leaf : Leaf) (next : Option ℕ) : Type 0 where
  pub below : ℕ
  pub last : IsLast leaves leaf.class below next
  pub none : (p : ℕ) (that : Leaf) → below ≤ p → slice_get leaves p ≡ Some that → AreAlike leaf that → ⊥

abbrev pub rank : Option ℕ → ℕ
rank None = 0
rank (Some q) = suc q

pub search_begins : (newest : List Numbered) (links : List Linked) (leaf : Leaf) → IsIndex newest links
    → IsSearched (leaves_of links) leaf (number_of leaf.class newest)
search_begins newest links leaf index = record {
  below = length (leaves_of links);
  last = at_end newest links index leaf.class;
  none = λ p that high h alike. let low = within (leaves_of links) p that h in omega (arith, high, low);
}

abbrev at : List Linked → ℕ → Linked → Type 0
at links q f = slice_get links q ≡ Some f

leaf_at : (links : List Linked) (q : ℕ) (f : Linked) → at links q f → slice_get (leaves_of links) q ≡ Some f.leaf
leaf_at [] q f h = absurd (cc)
leaf_at (g ∷ links) zero f h = let same : g ≡ f = some_same g f h in ap (λ x. Some x.leaf) same
leaf_at (g ∷ links) (suc q) f h = leaf_at links q f h

pub next_within : (links : List Linked) (leaf : Leaf) (q : ℕ) → IsSearched (leaves_of links) leaf (Some q) → q < length links
next_within links leaf q s =
    let low = within (leaves_of links) q s.last.1 s.last.2 in
    subst (λ n. q < n) (as_many links) low

class_at : (links : List Linked) (leaf : Leaf) (q : ℕ) (f : Linked) → at links q f → IsSearched (leaves_of links) leaf (Some q) → f.leaf.class ≡ leaf.class
class_at links leaf q f h s =
    let same : s.last.1 ≡ f.leaf = some_same s.last.1 f.leaf (sym s.last.2 ∙ leaf_at links q f h) in
    sym (ap (λ x. x.class) same) ∙ s.last.3

pub search_finds : (links : List Linked) (leaf : Leaf) (q : ℕ) (f : Linked) → at links q f → IsSearched (leaves_of links) leaf (Some q)
    → give_same leaf.bindings f.leaf.bindings ≡ true → IsFound (Some q) (leaves_of links) leaf
search_finds links leaf q f h s e =
    (f.leaf, leaf_at links q f h, record { class = sym (class_at links leaf q f h s); values = give_same_is leaf.bindings f.leaf.bindings e })

abbrev Unlike : List Leaf → Leaf → ℕ → Type 0
Unlike leaves leaf q = (p : ℕ) (that : Leaf) → q ≤ p → slice_get leaves p ≡ Some that → AreAlike leaf that → ⊥

or_later : (q p : ℕ) (b : Bool) → nat_lt q p ≡ b → q ≤ p → {A : Type 0} → (q ≡ p → A) → (q < p → A) → A
or_later q p true e high f g = g (grind (arith, nat_tests))
or_later q p false e high f g = let same : q ≡ p = grind (arith, nat_tests) in f same

before_or_after : (p below : ℕ) (b : Bool) → nat_lt p below ≡ b → {A : Type 0} → (p < below → A) → (below ≤ p → A) → A
before_or_after p below true e f g = f (grind (arith, nat_tests))
before_or_after p below false e f g = let high : below ≤ p = grind (arith, nat_tests) in g high

unlike_from : (links : List Linked) (leaf : Leaf) (q : ℕ) (f : Linked) → at links q f → (s : IsSearched (leaves_of links) leaf (Some q))
    → give_same leaf.bindings f.leaf.bindings ≡ false → Unlike (leaves_of links) leaf q
unlike_from links leaf q f h s e p that high found alike =
    or_later q p (nat_lt q p) refl high
    (λ same.
    let is : f.leaf ≡ that = some_same f.leaf that (sym (leaf_at links q f h) ∙ ap (slice_get (leaves_of links)) same ∙ found) in
    let all : give_same leaf.bindings f.leaf.bindings ≡ true = give_same_if leaf.bindings f.leaf.bindings (subst (λ x. AreAlike leaf x) (sym is) alike).values in
    let t : false ≡ true = sym e ∙ all in absurd cc)
    (λ later. before_or_after p s.below (nat_lt p s.below) refl
    (λ low. s.last.4 p that (omega (arith, later)) low found (sym alike.class))
    (λ beyond. s.none p that beyond found alike))

pub search_goes_on : (newest : List Numbered) (links : List Linked) (leaf : Leaf) (q : ℕ) (f : Linked) → IsIndex newest links → at links q f
    → IsSearched (leaves_of links) leaf (Some q) → give_same leaf.bindings f.leaf.bindings ≡ false
    → IsSearched (leaves_of links) leaf f.earlier
search_goes_on newest links leaf q f index h s e = record {
  below = q;
  last = subst (λ class. IsLast (leaves_of links) class q f.earlier) (class_at links leaf q f h s) (index.before q f h);
  none = unlike_from links leaf q f h s e;
}

lower : (leaves : List Leaf) (class : List ℕ) (q : ℕ) (next : Option ℕ) → IsLast leaves class q next → rank next < suc q
lower leaves class q None last = omega arith
lower leaves class q (Some r) last = let low = last.0 in omega (arith, low)

pub search_falls : (newest : List Numbered) (links : List Linked) (q : ℕ) (f : Linked) → IsIndex newest links → at links q f → rank f.earlier < suc q
search_falls newest links q f index h = lower (leaves_of links) f.leaf.class q f.earlier (index.before q f h)

pub search_ends : (leaves : List Leaf) (leaf : Leaf) → IsSearched leaves leaf None → IsFound None leaves leaf
search_ends leaves leaf s p that found alike =
    before_or_after p s.below (nat_lt p s.below) refl
    (λ low. s.last p that (omega arith) low found (sym alike.class))
    (λ beyond. s.none p that beyond found alike)
