-- Parts that are written out, in front of the rest of a list.
use Rattle.std.proofs.Common.{◌≡◌, List, [], ◌∷◌, ◌++◌, map, refl, sym, ap, ◌∙◌}
use Rattle.std.proofs.lemmas.List.{map-append}
use Rattle.cal_ast.specs.Tree as tree
use Rattle.cal_ast.specs.Tree.{Tree, listed}

abbrev pub onto : List Tree → Tree → Tree
onto [] rest = rest
onto (t ∷ ts) rest = tree.cons t (onto ts rest)

onto_more : (ts : List Tree) (t rest : Tree) → onto (ts ++ t ∷ []) rest ≡ onto ts (tree.cons t rest)
onto_more [] t rest = refl
onto_more (u ∷ ts) t rest = ap (tree.cons u) (onto_more ts t rest)

pub onto_all : (ts : List Tree) → onto ts tree.nil ≡ listed ts
onto_all [] = refl
onto_all (t ∷ ts) = ap (tree.cons t) (onto_all ts)

-- one part more
pub onto_next : {A : Type 0} (view : A → Tree) (found new : List A) (x : A) (rest whole : Tree) → new ≡ found ++ x ∷ []
    → onto (map view found) (tree.cons (view x) rest) ≡ whole → onto (map view new) rest ≡ whole
onto_next view found new x rest whole e inv =
    ap (λ xs. onto (map view xs) rest) e
    ∙ ap (λ ts. onto ts rest) (map-append view found (x ∷ []))
    ∙ onto_more (map view found) (view x) rest
    ∙ inv

-- one part more, if each is written out by itself
pub onto_each : {A : Type 0} (view : A → Tree) (f : Tree → Tree) (found new rest others : List A) (first x : A) (whole : Tree)
    → ((t ts : Tree) → f (tree.cons t ts) ≡ tree.cons (f t) (f ts))
    → rest ≡ first ∷ others → new ≡ found ++ x ∷ [] → view x ≡ f (view first)
    → onto (map view found) (f (listed (map view rest))) ≡ whole → onto (map view new) (f (listed (map view others))) ≡ whole
onto_each view f found new rest others first x whole each is more same inv =
    onto_next view found new x (f (listed (map view others))) whole more
    (ap (λ t. onto (map view found) (tree.cons t (f (listed (map view others))))) same
    ∙ ap (onto (map view found)) (sym (each (view first) (listed (map view others))))
    ∙ ap (λ xs. onto (map view found) (f (listed (map view xs)))) (sym is)
    ∙ inv)

-- all parts
pub onto_done : {A : Type 0} (view : A → Tree) (f : Tree → Tree) (found rest : List A) (whole : Tree) → f tree.nil ≡ tree.nil → rest ≡ []
    → onto (map view found) (f (listed (map view rest))) ≡ whole → listed (map view found) ≡ whole
onto_done view f found rest whole none is inv =
    sym (ap (λ xs. onto (map view found) (f (listed (map view xs)))) is ∙ ap (onto (map view found)) none ∙ onto_all (map view found)) ∙ inv
