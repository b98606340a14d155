-- Calls that are listed, and the names that they lead to.
use Rattle.std.proofs.Common.{◌≡◌, ℕ, true, List, [], ◌∷◌, ◌++◌}
use Rattle.cal_ast.specs.Tree as tree
use Rattle.cal_ast.specs.Tree.{Tree}
use Rattle.cal_model.specs.Sound.{EachCall}
use Rattle.cal_check.specs.Formed.{FormalCalls, FormalsCall}
use Rattle.cal_scope.specs.Names.{is_among}
use Rattle.cal_imports.specs.Behind.{LeadAmong}
use Rattle.cal_imports.specs.Calls.{with_call, with_calls}
use Rattle.cal_imports.specs.Walk.{Edge}

abbrev call_edge : (name : List ℕ) → (at : ℕ) → Edge
call_edge name at = record { to = name; at = at }

before_last : (names : List (List ℕ)) (es : List Edge) (e : Edge) → LeadAmong (es ++ e ∷ []) names → LeadAmong es names
before_last names [] e h = tt
before_last names (d ∷ es) e h = (h.0, before_last names es e h.1)

last_among : (names : List (List ℕ)) (es : List Edge) (e : Edge) → LeadAmong (es ++ e ∷ []) names → is_among e.to names ≡ true
last_among names [] e h = h.0
last_among names (d ∷ es) e h = last_among names es e h.1

-- what was found before the calls of a part
pub found_among : (names : List (List ℕ)) (t : Tree) (found : List Edge) → LeadAmong (with_calls t found) names → LeadAmong found names
found_among names (tree.cons t ts) found h = found_among names t found (found_among names ts (with_calls t found) h)
found_among names (tree.present t) found h = found_among names t found h
found_among names (tree.call name args at) found h = before_last names found (call_edge name at) (found_among names args (with_call name at found) h)
found_among names (tree.paren e at) found h = found_among names e found h
found_among names (tree.if_expr test first other at) found h = found_among names test found (found_among names first (with_calls test found) (found_among names other (with_calls first (with_calls test found)) h))
found_among names (tree.list items at) found h = found_among names items found h
found_among names (tree.comp item gens at) found h = found_among names item found (found_among names gens (with_calls item found) h)
found_among names (tree.gen shape name from to at) found h = found_among names shape found (found_among names from (with_calls shape found) (found_among names to (with_calls from (with_calls shape found)) h))
found_among names (tree.index base place at) found h = found_among names base found (found_among names place (with_calls base found) h)
found_among names (tree.prefix op e at) found h = found_among names e found h
found_among names (tree.binary op l r at) found h = found_among names l found (found_among names r (with_calls l found) h)
found_among names (tree.type_of name args at) found h = found_among names args found h
found_among names (tree.shape_arg name shape) found h = found_among names shape found h
found_among names (tree.value_arg name value) found h = found_among names value found h
found_among names (tree.assign name places value at) found h = found_among names places found (found_among names value (with_calls places found) h)
found_among names (tree.call_stmt (tree.ident name place) args at) found h = before_last names found (call_edge name at) (found_among names args (with_call name at found) h)
found_among names (tree.call_stmt _ args at) found h = h
found_among names (tree.if_stmt test first other at) found h = found_among names test found (found_among names first (with_calls test found) (found_among names other (with_calls first (with_calls test found)) h))
found_among names (tree.while_stmt test body at) found h = found_among names test found (found_among names body (with_calls test found) h)
found_among names (tree.foreach_stmt shape name from to body at) found h = found_among names shape found (found_among names from (with_calls shape found) (found_among names to (with_calls from (with_calls shape found)) (found_among names body (with_calls to (with_calls from (with_calls shape found))) h)))
found_among names (tree.block vars body at) found h = found_among names vars found (found_among names body (with_calls vars found) h)
found_among names (tree.port shape name at) found h = found_among names shape found h
found_among names (tree.var shape name start changes at) found h = found_among names shape found (found_among names start (with_calls shape found) h)
found_among names (tree.function name formals result vars body at) found h = found_among names formals found (found_among names result (with_calls formals found) (found_among names vars (with_calls result (with_calls formals found)) (found_among names body (with_calls vars (with_calls result (with_calls formals found))) h)))
found_among names (tree.procedure name formals vars body at) found h = found_among names formals found (found_among names vars (with_calls formals found) (found_among names body (with_calls vars (with_calls formals found)) h))
found_among names _ found h = h

-- Calls of such functions and procedures that lead to these names are of such others.
pub calls_among : (F Q F' Q' : List ℕ → Type 0) (names : List (List ℕ)) → ((y : List ℕ) → F y → is_among y names ≡ true → F' y)
    → ((y : List ℕ) → Q y → is_among y names ≡ true → Q' y) → (t : Tree) (found : List Edge) → EachCall F Q t → LeadAmong (with_calls t found) names → EachCall F' Q' t
calls_among F Q F' Q' names f q (tree.cons t ts) found c h = (
  calls_among F Q F' Q' names f q t found c.0 (found_among names ts (with_calls t found) h),
  calls_among F Q F' Q' names f q ts (with_calls t found) c.1 h,
)
calls_among F Q F' Q' names f q (tree.present t) found c h =
    calls_among F Q F' Q' names f q t found c h
calls_among F Q F' Q' names f q (tree.call name args at) found c h = (
  f name c.0 (last_among names found (call_edge name at) (found_among names args (with_call name at found) h)),
  calls_among F Q F' Q' names f q args (with_call name at found) c.1 h,
)
calls_among F Q F' Q' names f q (tree.paren e at) found c h =
    calls_among F Q F' Q' names f q e found c h
calls_among F Q F' Q' names f q (tree.if_expr test first other at) found c h = (
  calls_among F Q F' Q' names f q test found c.0 (found_among names first (with_calls test found) (found_among names other (with_calls first (with_calls test found)) h)),
  calls_among F Q F' Q' names f q first (with_calls test found) c.1 (found_among names other (with_calls first (with_calls test found)) h),
  calls_among F Q F' Q' names f q other (with_calls first (with_calls test found)) c.2 h,
)
calls_among F Q F' Q' names f q (tree.list items at) found c h =
    calls_among F Q F' Q' names f q items found c h
calls_among F Q F' Q' names f q (tree.comp item gens at) found c h = (
  calls_among F Q F' Q' names f q item found c.0 (found_among names gens (with_calls item found) h),
  calls_among F Q F' Q' names f q gens (with_calls item found) c.1 h,
)
calls_among F Q F' Q' names f q (tree.gen shape name from to at) found c h = (
  calls_among F Q F' Q' names f q shape found c.0 (found_among names from (with_calls shape found) (found_among names to (with_calls from (with_calls shape found)) h)),
  calls_among F Q F' Q' names f q from (with_calls shape found) c.1 (found_among names to (with_calls from (with_calls shape found)) h),
  calls_among F Q F' Q' names f q to (with_calls from (with_calls shape found)) c.2 h,
)
calls_among F Q F' Q' names f q (tree.index base place at) found c h = (
  calls_among F Q F' Q' names f q base found c.0 (found_among names place (with_calls base found) h),
  calls_among F Q F' Q' names f q place (with_calls base found) c.1 h,
)
calls_among F Q F' Q' names f q (tree.prefix op e at) found c h =
    calls_among F Q F' Q' names f q e found c h
calls_among F Q F' Q' names f q (tree.binary op l r at) found c h = (
  calls_among F Q F' Q' names f q l found c.0 (found_among names r (with_calls l found) h),
  calls_among F Q F' Q' names f q r (with_calls l found) c.1 h,
)
calls_among F Q F' Q' names f q (tree.type_of name args at) found c h =
    calls_among F Q F' Q' names f q args found c h
calls_among F Q F' Q' names f q (tree.shape_arg name shape) found c h =
    calls_among F Q F' Q' names f q shape found c h
calls_among F Q F' Q' names f q (tree.value_arg name value) found c h =
    calls_among F Q F' Q' names f q value found c h
calls_among F Q F' Q' names f q (tree.assign name places value at) found c h = (
  calls_among F Q F' Q' names f q places found c.0 (found_among names value (with_calls places found) h),
  calls_among F Q F' Q' names f q value (with_calls places found) c.1 h,
)
calls_among F Q F' Q' names f q (tree.call_stmt (tree.ident name place) args at) found c h = (
  q name c.0 (last_among names found (call_edge name at) (found_among names args (with_call name at found) h)),
  calls_among F Q F' Q' names f q args (with_call name at found) c.1 h,
)
calls_among F Q F' Q' names f q (tree.call_stmt _ args at) found c h = tt
calls_among F Q F' Q' names f q (tree.if_stmt test first other at) found c h = (
  calls_among F Q F' Q' names f q test found c.0 (found_among names first (with_calls test found) (found_among names other (with_calls first (with_calls test found)) h)),
  calls_among F Q F' Q' names f q first (with_calls test found) c.1 (found_among names other (with_calls first (with_calls test found)) h),
  calls_among F Q F' Q' names f q other (with_calls first (with_calls test found)) c.2 h,
)
calls_among F Q F' Q' names f q (tree.while_stmt test body at) found c h = (
  calls_among F Q F' Q' names f q test found c.0 (found_among names body (with_calls test found) h),
  calls_among F Q F' Q' names f q body (with_calls test found) c.1 h,
)
calls_among F Q F' Q' names f q (tree.foreach_stmt shape name from to body at) found c h = (
  calls_among F Q F' Q' names f q shape found c.0 (found_among names from (with_calls shape found) (found_among names to (with_calls from (with_calls shape found)) (found_among names body (with_calls to (with_calls from (with_calls shape found))) h))),
  calls_among F Q F' Q' names f q from (with_calls shape found) c.1 (found_among names to (with_calls from (with_calls shape found)) (found_among names body (with_calls to (with_calls from (with_calls shape found))) h)),
  calls_among F Q F' Q' names f q to (with_calls from (with_calls shape found)) c.2 (found_among names body (with_calls to (with_calls from (with_calls shape found))) h),
  calls_among F Q F' Q' names f q body (with_calls to (with_calls from (with_calls shape found))) c.3 h,
)
calls_among F Q F' Q' names f q (tree.block vars body at) found c h = (
  calls_among F Q F' Q' names f q vars found c.0 (found_among names body (with_calls vars found) h),
  calls_among F Q F' Q' names f q body (with_calls vars found) c.1 h,
)
calls_among F Q F' Q' names f q (tree.port shape name at) found c h = tt
calls_among F Q F' Q' names f q (tree.var shape name start changes at) found c h = (
  calls_among F Q F' Q' names f q shape found c.0 (found_among names start (with_calls shape found) h),
  calls_among F Q F' Q' names f q start (with_calls shape found) c.1 h,
)
calls_among F Q F' Q' names f q (tree.function name formals result vars body at) found c h = tt
calls_among F Q F' Q' names f q (tree.procedure name formals vars body at) found c h = tt
calls_among F Q F' Q' names f q _ found c h = tt

formal_among : (F Q F' Q' : List ℕ → Type 0) (names : List (List ℕ)) → ((y : List ℕ) → F y → is_among y names ≡ true → F' y)
    → ((y : List ℕ) → Q y → is_among y names ≡ true → Q' y) → (t : Tree) (found : List Edge) → FormalCalls F Q t → LeadAmong (with_calls t found) names → FormalCalls F' Q' t
formal_among F Q F' Q' names f q (tree.port shape name at) found c h = calls_among F Q F' Q' names f q shape found c h
formal_among F Q F' Q' names f q _ found c h = tt

pub formals_among : (F Q F' Q' : List ℕ → Type 0) (names : List (List ℕ)) → ((y : List ℕ) → F y → is_among y names ≡ true → F' y)
    → ((y : List ℕ) → Q y → is_among y names ≡ true → Q' y) → (t : Tree) (found : List Edge) → FormalsCall F Q t → LeadAmong (with_calls t found) names → FormalsCall F' Q' t
formals_among F Q F' Q' names f q (tree.cons t ts) found c h =
    (formal_among F Q F' Q' names f q t found c.0 (found_among names ts (with_calls t found) h), formals_among F Q F' Q' names f q ts (with_calls t found) c.1 h)
formals_among F Q F' Q' names f q _ found c h = tt
