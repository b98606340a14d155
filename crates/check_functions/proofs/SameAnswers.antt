-- What functions give over variables and calls of which those that they use give the same.
use Rattle.std.proofs.Common.{◌≡◌, ℕ, true, List, [], ◌∷◌, ◌++◌, refl, ap, subst, ◌∙◌, Option, None, Some}
use Rattle.std.specs.Prelude.{if◌then◌else◌}
use Rattle.std.specs.Str.{bytes_eq}
use Rattle.cal_ast.specs.Tree as tree
use Rattle.cal_ast.specs.Tree.{Tree}
use Rattle.cal_model.specs.Actor.{Fun, Local}
use Rattle.cal_model.specs.Call.{answered, arguments, declared, first_value}
use Rattle.cal_model.specs.Env.{Env, Var, find, variable, with_local}
use Rattle.cal_model.specs.Expression.{Calls, eval}
use Rattle.cal_model.specs.Kinding.{Judged, Fine, Broken, Names}
use Rattle.cal_model.specs.Outcome.{Out, Gives, Traps, Lacks, Clashes, and_then, needed}
use Rattle.cal_model.specs.Sound.{with_locals}
use Rattle.cal_model.specs.Value.{Shape, Single, Value, Values, stored}
use Rattle.cal_model.proofs.KindValues.{fine-is, not-fine, split}
use Rattle.cal_check.specs.Actors.{uses}
use Rattle.cal_check.specs.Routines.{Head, fun_if, fun_judged, head_judged}
use Rattle.cal_check.specs.Statements.{names_behind}
use Rattle.cal_check.specs.Uses.{OnlyUses}
use Rattle.cal_check.specs.Written.{behind_vars}
use Rattle.cal_check.proofs.WrittenUses.{EachStart, OfStart, before-use, locals-use, met-use, written-uses}
use Rattle.check_functions.proofs.Bare.{uses_says}
use Rattle.check_functions.proofs.SameValues.{SeeSame, eval-same, more-same}

-- what a function gives, if there is one
abbrev pub given_by : Option Fun → Calls → List Var → Values → ℕ → Out Value
given_by o calls globals args left = elim o [ None ↦ Lacks | Some f ↦ answered f calls globals args left ]

module _ (P : List ℕ → Type 0) where
  -- ---- what functions give

  -- the variables of which P holds have the same values
  abbrev pub FoundSame : List Var → List Var → Type 0
  FoundSame g h = (name : List ℕ) → P name → find name g ≡ find name h

  found-behind : (vars g h : List Var) → FoundSame g h → FoundSame (vars ++ g) (vars ++ h)
  found-behind [] g h s = s
  found-behind (x ∷ vars) g h s = λ name p. ap (λ o. if bytes_eq x.name name then Some x.value else o) (found-behind vars g h s name p)

  module _ (c d : Calls) where
    first-same : (t : Shape) (start : Option Tree) (x y : Env) (left : ℕ) → SeeSame P P c d x y → OfStart (OnlyUses P) start
        → first_value t start c x left ≡ first_value t start d y left
    first-same t None x y left s u = refl
    first-same t (Some e) x y left s u = ap (λ o. and_then o (λ v k. Gives (stored t v) k)) (eval-same P P c d e x y left s (uses_says P true e u))

    declared-same : {B : Type 0} (xs : List Local) (x y : Env) (left : ℕ) (f g : Env → ℕ → Out B) → SeeSame P P c d x y → EachStart (OnlyUses P) xs
        → ((v w : Env) (k : ℕ) → SeeSame P P c d v w → f v k ≡ g w k) → and_then (declared xs c x left) f ≡ and_then (declared xs d y left) g
    declared-same [] x y left f g s u h = h x y left s
    declared-same {B} (z ∷ zs) x y left f g s u h =
        ap (λ o. and_then (and_then o (λ v m. declared zs c (with_local (variable z.name z.shape z.changes v) x) m)) f) (first-same z.shape z.start x y left s u.0)
        ∙ go (first_value z.shape z.start d y left)
        (λ v m. declared-same zs (with_local (variable z.name z.shape z.changes v) x) (with_local (variable z.name z.shape z.changes v) y) m f g
        (more-same P P c d (variable z.name z.shape z.changes v) x y s) u.1 h)
      where
        go : (o : Out Value)
            → ((v : Value) (m : ℕ) → and_then (declared zs c (with_local (variable z.name z.shape z.changes v) x) m) f ≡ and_then (declared zs d (with_local (variable z.name z.shape z.changes v) y) m) g)
            → and_then (and_then o (λ v m. declared zs c (with_local (variable z.name z.shape z.changes v) x) m)) f
            ≡ and_then (and_then o (λ v m. declared zs d (with_local (variable z.name z.shape z.changes v) y) m)) g
        go (Gives v m) less = less v m
        go (Traps t) less = refl
        go Lacks less = refl
        go Clashes less = refl

    pub answered-same : (f : Fun) (g h : List Var) (args : Values) (left : ℕ) → FoundSame g h
        → ((name : List ℕ) → P name → (vs : Values) (k : ℕ) → c g name vs k ≡ d h name vs k) → EachStart (OnlyUses P) f.locals → OnlyUses P f.body
        → answered f c g args left ≡ answered f d h args left
    answered-same f g h args left s calls starts body = go (arguments f.formals args)
      where
        go : (o : Option (List Var))
            → and_then (and_then (needed o left) (λ vars k. Gives (record { globals = g; locals = vars }) k))
            (λ entry i. and_then (declared f.locals c entry i) (λ env m. and_then (eval f.body c env m) (λ v k. Gives (stored (Single f.result) v) k)))
            ≡ and_then (and_then (needed o left) (λ vars k. Gives (record { globals = h; locals = vars }) k))
            (λ entry i. and_then (declared f.locals d entry i) (λ env m. and_then (eval f.body d env m) (λ v k. Gives (stored (Single f.result) v) k)))
        go None = refl
        go (Some vars) =
            declared-same f.locals (record { globals = g; locals = vars }) (record { globals = h; locals = vars }) left _ _
            (record { names = found-behind vars g h s; given = calls }) starts (λ v w k a.
            ap (λ o. and_then o (λ z m. Gives (stored (Single f.result) z) m)) (eval-same P P c d f.body v w k a (uses_says P true f.body body)))

  -- the variables and functions that a function uses are such
  pub record FunUses (f : Fun) : Type 0 where
    pub locals : EachStart (OnlyUses P) f.locals
    pub body : OnlyUses P f.body

  -- ---- functions that are found

  made-uses : (j : Judged Names) (full : List ℕ) (head : Head) (vars body : Tree) (names : Names) → OnlyUses P vars → OnlyUses P body → FunUses (fun_if j full head vars body names)
  made-uses (Fine inner) full head vars body names u w =
      record { locals = locals-use P vars (with_locals head.formals names) u; body = written-uses P body (behind_vars vars (with_locals head.formals names)) w }
  made-uses (Broken rule at) full head vars body names u w =
      record { locals = before-use P vars (with_locals head.formals names) u; body = met-use P vars (with_locals head.formals names) u }

  pub fun-uses : (full : List ℕ) (decl : Tree) (names : Names) (g : Fun) → OnlyUses P decl → fun_judged full decl names ≡ Fine g → FunUses g
  fun-uses full (tree.function name formals result vars body at) names g u h =
      let s = split (head_judged (tree.function name formals result vars body at) names) (λ head. Fine (fun_if (names_behind vars (with_locals head.formals names)) full head vars body names)) g h in
      let made : FunUses (fun_if (names_behind vars (with_locals s.0.formals names)) full s.0 vars body names) = made-uses (names_behind vars (with_locals s.0.formals names)) full s.0 vars body names u.2 u.3 in
      subst (λ k. FunUses k) (fine-is _ g s.2) made
  fun-uses full other names g u h = absurd (not-fine _ 0 g h)
