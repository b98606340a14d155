-- Nothing clashes if an expression may be evaluated over constants.
use Rattle.std.proofs.Common.{◌≡◌, Bool, true, false, List, [], ◌∷◌, ◌++◌, map, subst}
use Rattle.std.specs.Prelude.{Option, Some, if◌then◌else◌}
use Rattle.std.specs.Str.{bytes_eq}
use Rattle.rvc_base.specs.Turns.{max_turns}
use Rattle.cal_ast.specs.Tree.{Tree}
use Rattle.cal_model.specs.Value.{Value, HasKind}
use Rattle.cal_model.specs.Outcome.{Clashes}
use Rattle.cal_model.specs.Env.{find}
use Rattle.cal_model.specs.Keeping.{GivesOnly, StandFor, StandsFor, IsEnvOf}
use Rattle.cal_model.specs.Kinding.{Known, known_as}
use Rattle.cal_model.specs.Laws.{KindIsKept}
use Rattle.cal_model.specs.Sound.{Each}
use Rattle.const_env.specs.Constants.{Constant, Constants, known_of, var_of}
use Rattle.const_expr.specs.Evaluable.{IsEvaluable, IsOfOneKind, env_of, names_with, value_of}

same : {v w : Value} → Some v ≡ Some w → v ≡ w
same e = cc

its_own : (c : Constant) → IsOfOneKind c → StandsFor (known_of c) c.value
its_own c h = record { kind = h; constant = λ w e. same e }

stands : (b : Bool) (c : Constant) (k : Option Known) (o : Option Value) (x : Known) (v : Value) → IsOfOneKind c → (k ≡ Some x → o ≡ Some v → StandsFor x v)
    → (if b then Some (known_of c) else k) ≡ Some x → (if b then Some c.value else o) ≡ Some v → StandsFor x v
stands true c k o x v h rest e f =
    let ex : known_of c ≡ x = cc in
    let ev : c.value ≡ v = cc in
    subst (λ y. StandsFor y v) ex (subst (λ w. StandsFor (known_of c) w) ev (its_own c h))
stands false c k o x v h rest e f = rest e f

pub constants_stand : (cs : List Constant) (lacking : List Known) → Each IsOfOneKind cs → StandFor (map known_of cs ++ lacking) (map var_of cs)
constants_stand [] lacking h name x v e f = cc
constants_stand (c ∷ cs) lacking h name x v e f =
    stands (bytes_eq c.name name) c (known_as name (map known_of cs ++ lacking)) (find name (map var_of cs)) x v h.0 (constants_stand cs lacking h.1 name x v) e f

pub never_clashes : KindIsKept → (env : Constants) (e : Tree) → IsEvaluable env e → value_of e env ≡ Clashes → ⊥
never_clashes law env e h is =
    let each : StandFor (map known_of env.values ++ h.lacking) (map var_of env.values) = constants_stand env.values h.lacking h.values in
    let names : IsEnvOf (names_with h.lacking env) (env_of env) = record { globals = each; all = each } in
    let kept : GivesOnly (HasKind h.kind_of) max_turns (value_of e env) = law (names_with h.lacking env) (env_of env) e h.kind_of max_turns h.funs names h.has_kind in
    subst (λ o. GivesOnly (HasKind h.kind_of) max_turns o) is kept
