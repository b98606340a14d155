-- What is not made is handed on; what is popped.
use Rattle.std.proofs.Common.{◌≡◌, ℕ, true, false, List, ◌∷◌, Option, None, Some, Err, refl, subst}
use Rattle.cal_ast.specs.declared.expr.BinOp.{BinOp}
use Rattle.fnl_expr.specs.Operations.{Pending}
use Rattle.fnl_expr.specs.Operations.{is_due}
use Rattle.fnl_expr.specs.Views.{pending_of}
use Rattle.fnl_expr.specs.Answers.{Makes, PopsDue}
use Rattle.fnl_expr.specs.declared.operations.Pending.{Pending as ThePending}
use Rattle.fnl_expr.specs.declared.stop.Stop.{Stop}
use Rattle.fnl_expr.specs.declared.stop.Stop.TheVariants as stops

pub hands_on : {A B C D : Type 0} → (view : A → B) (other : C → D) (found : Option B) (meant : Option D) (at : ℕ) (stop : Stop) → (found ≡ None → meant ≡ None) → Makes view found at (Err stop) → Makes other meant at (Err stop)
hands_on view other found meant at (stops.Broken rule place) none h = (none h.0, h.1, h.2)
hands_on view other found meant at stops.Memory none h = h

pub pops_some : (op : BinOp) (old new : List Pending) (found : Option ThePending) (p : ThePending) → found ≡ Some p → PopsDue op old new found → (old ≡ pending_of p ∷ new) × (is_due op old ≡ true)
pops_some op old new found p e h = subst (λ f. PopsDue op old new f) e h

pub pops_none : (op : BinOp) (old new : List Pending) (found : Option ThePending) → ((p : ThePending) → found ≡ Some p → ⊥) → PopsDue op old new found → (old ≡ new) × (is_due op old ≡ false)
pops_none op old new None never h = h
pops_none op old new (Some p) never h = absurd (never p refl)
