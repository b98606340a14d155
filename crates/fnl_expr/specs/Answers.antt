-- What the code answers, beside what it means.
-- Not trusted: no promise is read with it.
use Rattle.std.specs.Prelude.{◌≡◌, ℕ, List, ◌∷◌, Result, Ok, Err, Option, None, Some, true, false, string_bytes}
use Rattle.rvc_base.specs.Rules.{nests_too_deep}
use Rattle.cal_ast.specs.declared.expr.BinOp.{BinOp}
use Rattle.fnl_expr.specs.Given.{Text, text_at}
use Rattle.fnl_expr.specs.Operations.{Pending, is_due}
use Rattle.fnl_expr.specs.Views.{pending_of}
use Rattle.fnl_expr.specs.declared.attributes.Name.{Name}
use Rattle.fnl_expr.specs.declared.operations.Pending.{Pending as ThePending}
use Rattle.fnl_expr.specs.declared.stop.Stop.{Stop}
use Rattle.fnl_expr.specs.declared.stop.Stop.TheVariants as stops

abbrev pub text_of : Name → Text
text_of n = text_at (string_bytes n.text) n.at

-- the value is what is meant, or nothing is meant and the element at an offset is too high, or
-- memory was refused
abbrev pub Makes : {A B : Type 0} → (A → B) → Option B → ℕ → Result A Stop → Type 0
Makes view found at (Ok x) = found ≡ Some (view x)
Makes view found at (Err (stops.Broken rule place)) =
    (found ≡ None) × (rule ≡ nests_too_deep) × (place ≡ at)
Makes view found at (Err stops.Memory) = Unit {0}

-- the operand that waits last was taken, which was due; or nothing changed, and none is due
abbrev pub PopsDue : BinOp → List Pending → List Pending → Option ThePending → Type 0
PopsDue op old new (Some p) = (old ≡ pending_of p ∷ new) × (is_due op old ≡ true)
PopsDue op old new None = (old ≡ new) × (is_due op old ≡ false)
