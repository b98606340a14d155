-- An operator may stand in an operation alone.
use Rattle.std.proofs.Common.{◌≡◌, ℕ, List, Option, Vec, Global, Err, refl, sym, subst}
use Rattle.rvc_base.specs.declared.refusal.Rule.{Rule}
use Rattle.rvc_base.specs.Rules.{unknown_element}
use Rattle.cal_ast.specs.declared.expr.PrefixOp.{PrefixOp}
use Rattle.fnl_markup.specs.Tags.{Attribute}
use Rattle.fnl_read.specs.States.{State, Next, Fault}
use Rattle.fnl_read.specs.Opening.{operator_in}
use Rattle.fnl_read.specs.Stepped.{Stepped}
use Rattle.fnl_frames.specs.Views.{frame_of}
use Rattle.fnl_read.specs.declared.reader.Reader.{Reader}
use Rattle.fnl_expr.specs.declared.stop.Stop.{Stop}
use Rattle.fnl_expr.specs.declared.stop.Stop.TheVariants as stops
use Rattle.fnl_expr.specs.declared.tall.MeasuredExpr.{MeasuredExpr}
use Rattle.fnl_expr.specs.declared.operations.Pending.{Pending as ThePending}
use Rattle.fnl_frames.specs.declared.frame.Frame.{Frame as TheFrame}
use Rattle.fnl_frames.specs.declared.frame.Frame.TheVariants as frames

abbrev pub NotUnary : TheFrame → Type 0
NotUnary f = (op : Option PrefixOp) (operand : Option MeasuredExpr) (there : ℕ) → f ≡ frames.Unary op operand there → ⊥

abbrev pub NotSequence : TheFrame → Type 0
NotSequence f = (waiting : Vec ThePending Global) (operand : Option MeasuredExpr) (there : ℕ) → f ≡ frames.Sequence waiting operand there → ⊥

pub no_operator : (f : TheFrame) (attributes : List Attribute) (at : ℕ) (s : State) → NotUnary f → NotSequence f
    → operator_in (frame_of f) attributes at s ≡ Fault unknown_element at
no_operator (frames.Outside net) attributes at s u q = refl
no_operator (frames.Network net) attributes at s u q = refl
no_operator (frames.Port input name shape there) attributes at s u q = refl
no_operator (frames.Decl param name shape value there) attributes at s u q = refl
no_operator (frames.Instance id class parameters there) attributes at s u q = refl
no_operator (frames.Parameter name value there) attributes at s u q = refl
no_operator (frames.Connection c) attributes at s u q = refl
no_operator (frames.Size value there) attributes at s u q = refl
no_operator (frames.Type name args there) attributes at s u q = refl
no_operator (frames.Value name value) attributes at s u q = refl
no_operator (frames.Shape name shape) attributes at s u q = refl
no_operator (frames.List items there) attributes at s u q = refl
no_operator (frames.Unary op operand there) attributes at s u q = absurd (u op operand there refl)
no_operator (frames.Sequence waiting operand there) attributes at s u q = absurd (q waiting operand there refl)
no_operator frames.Empty attributes at s u q = refl
no_operator frames.Passed attributes at s u q = refl

-- the rule of a stop is the one that is meant
pub refuses : (A : Type 0) (next : Next) (now : Reader) (stop : Stop) (rule : Rule) (at : ℕ) → stop ≡ stops.Broken rule at
    → next ≡ Fault rule at → Stepped {A = A} next now (Err stop)
refuses A next now stop rule at e h = subst (λ r. Stepped {A = A} next now (Err r)) (sym e) h
