-- How many values the outputs of an action have.
use Rattle.std.proofs.Common.{◌≡◌, ℕ, suc, ◌≤◌, false, List, [], ◌∷◌, map, length, refl, sym, ap, ◌∙◌, arith}
use Rattle.std.specs.Prelude.{◌==◌, if◌then◌else◌, Contains}
use Rattle.cal_ast.specs.Tree.{listed}
use Rattle.cal_ast.specs.View.{expr_tree}
use Rattle.cal_ast.specs.declared.expr.Expr.{Expr}
use Rattle.cal_model.specs.declared.bound.BoundOutput.{BoundOutput}
use Rattle.cal_model.specs.Actor.{Actor, Output}
use Rattle.cal_model.specs.Kinding.{Names}
use Rattle.cal_model.specs.Rates.{given_on, parts, parts_times}
use Rattle.cal_model.specs.Sound.{AreDistinct, Each, IsOutput, max_rate}
use Rattle.cal_model.specs.View.{output_view}
use Rattle.action_lower.proofs.PatternRates.{names-of-times, not-first, not-later, other-port, same-port}

-- to the port of each output, as many as its values, repeated
abbrev GivesItsOwn : List Output → Output → Type 0
GivesItsOwn all o = given_on o.port all ≡ parts_times (parts o.values) o.repeat

behind : (o : Output) (all os : List Output) → ¬ Contains (map (λ r. r.port) os) o.port → Each (GivesItsOwn all) os → Each (GivesItsOwn (o ∷ all)) os
behind o all [] h own = tt
behind o all (r ∷ os) h own =
    let differ : (o.port == r.port) ≡ false = other-port o.port r.port (o.port == r.port) refl (λ e. not-first r.port o.port (map (λ s. s.port) os) h (sym e)) in
    (ap (λ b. if b then parts_times (parts o.values) o.repeat else given_on r.port all) differ ∙ own.0, behind o all os (not-later r.port o.port (map (λ s. s.port) os) h) own.1)

give-their-own : (os : List Output) → AreDistinct (map (λ o. o.port) os) → Each (GivesItsOwn os) os
give-their-own [] h = tt
give-their-own (o ∷ os) h =
    (ap (λ b. if b then parts_times (parts o.values) o.repeat else given_on o.port os) (same-port o.port), behind o os os h.0 (give-their-own os h.1))

-- a list of trees has as many parts as there are expressions
parts-listed : (es : List Expr) → parts (listed (map expr_tree es)) ≡ length es
parts-listed [] = refl
parts-listed (e ∷ es) = ap suc (parts-listed es)

few-of : (actor : Actor) (names : Names) (all : List Output) (os : List BoundOutput) → ((port : ℕ) → given_on port all ≤ max_rate) → Each (IsOutput actor names) (map output_view os) → Each (GivesItsOwn all) (map output_view os)
    → Each (λ o. length o.values.items ≤ max_rate) os
few-of actor names all [] few are own = tt
few-of actor names all (o ∷ os) few are own =
    let many : parts (output_view o).values ≡ length o.values.items = parts-listed o.values.items in
    let n : parts (output_view o).values ≤ parts_times (parts (output_view o).values) o.repeat = names-of-times (parts (output_view o).values) o.repeat are.0.repeat in
    let m : given_on o.port all ≤ max_rate = few o.port in
    let f = own.0 in
    (omega (arith, many, n, m, f), few-of actor names all os few are.1 own.1)

pub few-values : (actor : Actor) (names : Names) (os : List BoundOutput) → ((port : ℕ) → given_on port (map output_view os) ≤ max_rate) → AreDistinct (map (λ o. o.port) (map output_view os)) → Each (IsOutput actor names) (map output_view os)
    → Each (λ o. length o.values.items ≤ max_rate) os
few-values actor names os few distinct are = few-of actor names (map output_view os) os few are (give-their-own (map output_view os) distinct)
