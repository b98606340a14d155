-- Steps of grouping.
use Rattle.std.proofs.Common.{◌≡◌, ℕ, ◌<◌, true, false, List, [], ◌∷◌, length, None, Some, refl, sym, ap, ◌∙◌, arith}
use Rattle.cal_ast.specs.Tree.{Tree}
use Rattle.cal_ast.specs.declared.expr.BinOp.{BinOp}
use Rattle.fnl_expr.specs.Operations.{Pending, pending}
use Rattle.fnl_expr.specs.Operations.{on, joined, is_due, before_operator, grouped}

-- the last operand that waits is due
pub due : (op : BinOp) (p : Pending) (waiting : List Pending) (right : Tree) → is_due op (p ∷ waiting) ≡ true → before_operator op (p ∷ waiting) right ≡ on (joined p right) (λ t. before_operator op waiting t)
due op (pending left waits) waiting right e = rw e refl

-- none is due
pub not_due : (op : BinOp) (waiting : List Pending) (right : Tree) → is_due op waiting ≡ false → before_operator op waiting right ≡ Some (pending right op ∷ waiting)
not_due op [] right e = refl
not_due op (pending left waits ∷ waiting) right e = rw e refl

-- more than one waits
pub more : (at : ℕ) (p : Pending) (waiting : List Pending) (right : Tree) → 0 < length waiting → grouped at (p ∷ waiting) right ≡ on (joined p right) (λ t. grouped at waiting t)
more at (pending left op) [] right h = absurd (omega arith)
more at (pending left op) (next ∷ waiting) right h = refl

-- the operand that waits last is due, and was joined
pub due_joined : (op : BinOp) (p : Pending) (old new : List Pending) (right t : Tree) → old ≡ p ∷ new → is_due op old ≡ true → joined p right ≡ Some t → before_operator op old right ≡ before_operator op new t
due_joined op p old new right t e is made =
    let due_ : is_due op (p ∷ new) ≡ true = ap (is_due op) (sym e) ∙ is in
    ap (λ ws. before_operator op ws right) e ∙ due op p new right due_ ∙ ap (λ x. on x (λ u. before_operator op new u)) made

pub due_too_high : (op : BinOp) (p : Pending) (old new : List Pending) (right : Tree) → old ≡ p ∷ new → is_due op old ≡ true → joined p right ≡ None → before_operator op old right ≡ None
due_too_high op p old new right e is made =
    let due_ : is_due op (p ∷ new) ≡ true = ap (is_due op) (sym e) ∙ is in
    ap (λ ws. before_operator op ws right) e ∙ due op p new right due_ ∙ ap (λ x. on x (λ u. before_operator op new u)) made

-- more than one waits, and the last was joined
pub more_joined : (at : ℕ) (p : Pending) (old new : List Pending) (right t : Tree) → old ≡ p ∷ new → 0 < length new → joined p right ≡ Some t → grouped at old right ≡ grouped at new t
more_joined at p old new right t e some made = ap (λ ws. grouped at ws right) e ∙ more at p new right some ∙ ap (λ x. on x (λ u. grouped at new u)) made

pub more_too_high : (at : ℕ) (p : Pending) (old new : List Pending) (right : Tree) → old ≡ p ∷ new → 0 < length new → joined p right ≡ None → grouped at old right ≡ None
more_too_high at p old new right e some made = ap (λ ws. grouped at ws right) e ∙ more at p new right some ∙ ap (λ x. on x (λ u. grouped at new u)) made
