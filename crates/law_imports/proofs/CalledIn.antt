-- The calls that are found in a text stand in it.
use Rattle.std.proofs.Common.{◌≡◌, ◌⊎◌, inl, inr, suc, ◌<◌, List, [], ◌∷◌, ◌++◌, refl, subst, arith}
use Rattle.std.specs.Prelude.{Contains}
use Rattle.std.proofs.lemmas.List.Elements.{Contains-push_cases}
use Rattle.cal_ast.specs.Tree as tree
use Rattle.cal_ast.specs.Tree.{Tree}
use Rattle.cal_imports.specs.Calls.{with_calls}
use Rattle.cal_imports.specs.Walk.{Edge}
use Rattle.law_imports.specs.Calling.{IsCall, StandsIn, in_expression, as_statement, inside, made_of, whole}

-- a call of the name and the place of an edge stands in a text
pub record IsCalledIn (t : Tree) (e : Edge) : Type 0 where
  pub call : Tree
  pub stands : StandsIn call t
  pub is_call : IsCall e.to e.at call

abbrev Comes : Tree → List Edge → Edge → Type 0
Comes t found e = Contains found e ⊎ IsCalledIn t e

in_part : (outer inner : Tree) (e : Edge) → Contains (made_of outer) inner → IsCalledIn inner e → IsCalledIn outer e
in_part outer inner e c h = record { call = h.call; stands = inside inner outer c h.stands; is_call = h.is_call }

-- the calls of one part more
part : (outer inner : Tree) (found : List Edge) (e : Edge) → Contains (made_of outer) inner → Comes inner found e → Comes outer found e
part outer inner found e c (inl h) = inl h
part outer inner found e c (inr h) = inr (in_part outer inner e c h)

and_then : (outer inner : Tree) (before found : List Edge) (e : Edge) → Contains (made_of outer) inner → Comes inner found e
    → (Contains found e → Comes outer before e) → Comes outer before e
and_then outer inner before found e c (inl h) k = k h
and_then outer inner before found e c (inr h) k = inr (in_part outer inner e c h)

pub first : {A : Type 0} (x : A) (xs : List A) → Contains (x ∷ xs) x
first x xs = (0, omega arith, refl)

pub later : {A : Type 0} (x y : A) (xs : List A) → Contains xs x → Contains (y ∷ xs) x
later x y xs (k, h, e) = (suc k, omega arith, e)

second : {A : Type 0} (x y : A) (xs : List A) → Contains (y ∷ x ∷ xs) x
second x y xs = (1, omega arith, refl)

third : {A : Type 0} (x y z : A) (xs : List A) → Contains (y ∷ z ∷ x ∷ xs) x
third x y z xs = (2, omega arith, refl)

fourth : {A : Type 0} (x y z w : A) (xs : List A) → Contains (y ∷ z ∷ w ∷ x ∷ xs) x
fourth x y z w xs = (3, omega arith, refl)

this_call : (outer : Tree) (found : List Edge) (d e : Edge) → IsCall d.to d.at outer → Contains found e ⊎ (d ≡ e) → Comes outer found e
this_call outer found d e h (inl c) = inl c
this_call outer found d e h (inr same) = inr (record { call = outer; stands = whole; is_call = subst (λ x. IsCall x.to x.at outer) same h })

calls_in : (t : Tree) (found : List Edge) (e : Edge) → Contains (with_calls t found) e → Comes t found e
calls_in (tree.cons t ts) found e h =
    and_then (tree.cons t ts) ts found (with_calls t found) e (second ts t []) (calls_in ts (with_calls t found) e h)
    (λ c. part (tree.cons t ts) t found e (first t (ts ∷ [])) (calls_in t found e c))
calls_in (tree.present t) found e h = part (tree.present t) t found e (first t []) (calls_in t found e h)
calls_in (tree.call name args at) found e h =
    and_then (tree.call name args at) args found (found ++ record { to = name; at = at } ∷ []) e (first args [])
    (calls_in args (found ++ record { to = name; at = at } ∷ []) e h)
    (λ c. this_call (tree.call name args at) found (record { to = name; at = at }) e (in_expression args) (Contains-push_cases found (record { to = name; at = at }) e c))
calls_in (tree.paren inner at) found e h = part (tree.paren inner at) inner found e (first inner []) (calls_in inner found e h)
calls_in (tree.if_expr test a b at) found e h =
    and_then (tree.if_expr test a b at) b found (with_calls a (with_calls test found)) e (third b test a []) (calls_in b (with_calls a (with_calls test found)) e h)
    (λ c. and_then (tree.if_expr test a b at) a found (with_calls test found) e (second a test (b ∷ [])) (calls_in a (with_calls test found) e c)
    (λ d. part (tree.if_expr test a b at) test found e (first test (a ∷ b ∷ [])) (calls_in test found e d)))
calls_in (tree.list items at) found e h = part (tree.list items at) items found e (first items []) (calls_in items found e h)
calls_in (tree.comp item gens at) found e h =
    and_then (tree.comp item gens at) gens found (with_calls item found) e (second gens item []) (calls_in gens (with_calls item found) e h)
    (λ c. part (tree.comp item gens at) item found e (first item (gens ∷ [])) (calls_in item found e c))
calls_in (tree.gen shape name from to at) found e h =
    and_then (tree.gen shape name from to at) to found (with_calls from (with_calls shape found)) e (third to shape from []) (calls_in to (with_calls from (with_calls shape found)) e h)
    (λ c. and_then (tree.gen shape name from to at) from found (with_calls shape found) e (second from shape (to ∷ [])) (calls_in from (with_calls shape found) e c)
    (λ d. part (tree.gen shape name from to at) shape found e (first shape (from ∷ to ∷ [])) (calls_in shape found e d)))
calls_in (tree.index base place at) found e h =
    and_then (tree.index base place at) place found (with_calls base found) e (second place base []) (calls_in place (with_calls base found) e h)
    (λ c. part (tree.index base place at) base found e (first base (place ∷ [])) (calls_in base found e c))
calls_in (tree.prefix op inner at) found e h = part (tree.prefix op inner at) inner found e (first inner []) (calls_in inner found e h)
calls_in (tree.binary op l r at) found e h =
    and_then (tree.binary op l r at) r found (with_calls l found) e (second r l []) (calls_in r (with_calls l found) e h)
    (λ c. part (tree.binary op l r at) l found e (first l (r ∷ [])) (calls_in l found e c))
calls_in (tree.type_of name args at) found e h = part (tree.type_of name args at) args found e (first args []) (calls_in args found e h)
calls_in (tree.shape_arg name shape) found e h = part (tree.shape_arg name shape) shape found e (first shape []) (calls_in shape found e h)
calls_in (tree.value_arg name value) found e h = part (tree.value_arg name value) value found e (first value []) (calls_in value found e h)
calls_in (tree.assign name places value at) found e h =
    and_then (tree.assign name places value at) value found (with_calls places found) e (second value places []) (calls_in value (with_calls places found) e h)
    (λ c. part (tree.assign name places value at) places found e (first places (value ∷ [])) (calls_in places found e c))
calls_in (tree.call_stmt (tree.ident name place) args at) found e h =
    and_then (tree.call_stmt (tree.ident name place) args at) args found (found ++ record { to = name; at = at } ∷ []) e (first args [])
    (calls_in args (found ++ record { to = name; at = at } ∷ []) e h)
    (λ c. this_call (tree.call_stmt (tree.ident name place) args at) found (record { to = name; at = at }) e (as_statement place args)
    (Contains-push_cases found (record { to = name; at = at }) e c))
calls_in (tree.if_stmt test a b at) found e h =
    and_then (tree.if_stmt test a b at) b found (with_calls a (with_calls test found)) e (third b test a []) (calls_in b (with_calls a (with_calls test found)) e h)
    (λ c. and_then (tree.if_stmt test a b at) a found (with_calls test found) e (second a test (b ∷ [])) (calls_in a (with_calls test found) e c)
    (λ d. part (tree.if_stmt test a b at) test found e (first test (a ∷ b ∷ [])) (calls_in test found e d)))
calls_in (tree.while_stmt test body at) found e h =
    and_then (tree.while_stmt test body at) body found (with_calls test found) e (second body test []) (calls_in body (with_calls test found) e h)
    (λ c. part (tree.while_stmt test body at) test found e (first test (body ∷ [])) (calls_in test found e c))
calls_in (tree.foreach_stmt shape name from to body at) found e h =
    and_then (tree.foreach_stmt shape name from to body at) body found (with_calls to (with_calls from (with_calls shape found))) e (fourth body shape from to [])
    (calls_in body (with_calls to (with_calls from (with_calls shape found))) e h)
    (λ b. and_then (tree.foreach_stmt shape name from to body at) to found (with_calls from (with_calls shape found)) e (third to shape from (body ∷ []))
    (calls_in to (with_calls from (with_calls shape found)) e b)
    (λ c. and_then (tree.foreach_stmt shape name from to body at) from found (with_calls shape found) e (second from shape (to ∷ body ∷ []))
    (calls_in from (with_calls shape found) e c)
    (λ d. part (tree.foreach_stmt shape name from to body at) shape found e (first shape (from ∷ to ∷ body ∷ [])) (calls_in shape found e d))))
calls_in (tree.block vars body at) found e h =
    and_then (tree.block vars body at) body found (with_calls vars found) e (second body vars []) (calls_in body (with_calls vars found) e h)
    (λ c. part (tree.block vars body at) vars found e (first vars (body ∷ [])) (calls_in vars found e c))
calls_in (tree.port shape name at) found e h = part (tree.port shape name at) shape found e (first shape []) (calls_in shape found e h)
calls_in (tree.var shape name start changes at) found e h =
    and_then (tree.var shape name start changes at) start found (with_calls shape found) e (second start shape []) (calls_in start (with_calls shape found) e h)
    (λ c. part (tree.var shape name start changes at) shape found e (first shape (start ∷ [])) (calls_in shape found e c))
calls_in (tree.function name formals result vars body at) found e h =
    and_then (tree.function name formals result vars body at) body found (with_calls vars (with_calls result (with_calls formals found))) e (fourth body formals result vars [])
    (calls_in body (with_calls vars (with_calls result (with_calls formals found))) e h)
    (λ b. and_then (tree.function name formals result vars body at) vars found (with_calls result (with_calls formals found)) e (third vars formals result (body ∷ []))
    (calls_in vars (with_calls result (with_calls formals found)) e b)
    (λ c. and_then (tree.function name formals result vars body at) result found (with_calls formals found) e (second result formals (vars ∷ body ∷ []))
    (calls_in result (with_calls formals found) e c)
    (λ d. part (tree.function name formals result vars body at) formals found e (first formals (result ∷ vars ∷ body ∷ [])) (calls_in formals found e d))))
calls_in (tree.procedure name formals vars body at) found e h =
    and_then (tree.procedure name formals vars body at) body found (with_calls vars (with_calls formals found)) e (third body formals vars [])
    (calls_in body (with_calls vars (with_calls formals found)) e h)
    (λ c. and_then (tree.procedure name formals vars body at) vars found (with_calls formals found) e (second vars formals (body ∷ []))
    (calls_in vars (with_calls formals found) e c)
    (λ d. part (tree.procedure name formals vars body at) formals found e (first formals (vars ∷ body ∷ [])) (calls_in formals found e d)))
calls_in other found e h = inl h

-- a call that is found in a text stands in it
pub called_in : (t : Tree) (e : Edge) → Contains (with_calls t []) e → IsCalledIn t e
called_in t e h = go (calls_in t [] e h)
  where
    go : Comes t [] e → IsCalledIn t e
    go (inl c) = let none : c.0 < 0 = c.1 in absurd (omega arith)
    go (inr i) = i
