-- What the arms of the machine come to.
use Rattle.std.proofs.Common.{◌≡◌, ℕ, ◌+◌, ◌≤◌, leb, true, length, arith, sym, ap, ◌∙◌, subst, ℤ, List, ◌∷◌}
use Rattle.std.proofs.Common.{to_z, of_z, SFits}
use Rattle.std.proofs.lemmas.Int.{to_z-of_z}
use Rattle.std.specs.declared.result.Result.{Result}
use Rattle.rvc_base.specs.declared.trap.Trap.{Trap}
use Rattle.rvc_base.specs.declared.trap.Trap.TheVariants.{IndexRange}
use Rattle.rvc_base.specs.Arithmetic.{Computed}
use Rattle.code_ir.specs.declared.instr.Instr.{Instr}
use Rattle.code_ir.specs.Effect.{Effect, effect, Fails, with_offset, with_cells, pop, push_computed, on_top, on_two}
use Rattle.std.proofs.lemmas.Bool.Decides.{nat_tests}
use Rattle.rvc_base.specs.Width.{num_width}
use Rattle.rvc_base.specs.Computing.{computed_of}
use Rattle.action_machine.specs.declared.stack.Acted.{Acted}
use Rattle.action_machine.specs.Acting.{Moves, effect_of}

pub two : (f : ℤ → ℤ → Computed) (a b : ℤ) (v : Result ℤ Trap) (r : Acted) (all rest after : List ℤ) → SFits num_width a → SFits num_width b → all ≡ b ∷ a ∷ rest → computed_of v ≡ f (to_z num_width (of_z num_width a)) (to_z num_width (of_z num_width b)) → ((cells : List ℤ) → push_computed (computed_of v) rest cells ≡ effect_of r after cells) → (cells : List ℤ) → on_two f all cells ≡ effect_of r after cells
two f a b v r all rest after fa fb e g h cells =
    let same : f (to_z num_width (of_z num_width a)) (to_z num_width (of_z num_width b)) ≡ f a b = ap (λ x. f x (to_z num_width (of_z num_width b))) (to_z-of_z num_width a fa) ∙ ap (f a) (to_z-of_z num_width b fb) in
    rw e (ap (λ k. push_computed k rest cells) (sym (g ∙ same)) ∙ h cells)

pub one : (f : ℤ → Computed) (a : ℤ) (v : Result ℤ Trap) (r : Acted) (all rest after : List ℤ) → SFits num_width a → all ≡ a ∷ rest → computed_of v ≡ f (to_z num_width (of_z num_width a)) → ((cells : List ℤ) → push_computed (computed_of v) rest cells ≡ effect_of r after cells) → (cells : List ℤ) → on_top f all cells ≡ effect_of r after cells
one f a v r all rest after fa e g h cells =
    rw e (ap (λ k. push_computed k rest cells) (sym (g ∙ ap f (to_z-of_z num_width a fa))) ∙ h cells)

le-test : (a b : ℕ) → a ≤ b → leb a b ≡ true
le-test a b h = grind (arith, nat_tests)

-- with the cells there, the effect is what it is with them
pub cells-there : (cells : List ℤ) (c n : ℕ) (e f : Effect) → c + n ≤ length cells → e ≡ f → with_cells cells c n e ≡ f
cells-there cells c n e f inside same = rw (le-test (c + n) (length cells) inside) same

pub popped : (all rest : List ℤ) (v : ℤ) (next : ℤ → List ℤ → Effect) (f : Effect) → all ≡ v ∷ rest → next v rest ≡ f → pop all next ≡ f
popped all rest v next f e g = rw e g

pub offset-none : (o : ℤ) (m n : ℕ) (next : ℕ → Effect) → SFits num_width o → ((g : ℕ → Effect) → with_offset (to_z num_width (of_z num_width o)) m n g ≡ Fails IndexRange) → with_offset o m n next ≡ Fails IndexRange
offset-none o m n next fits h = subst (λ x. with_offset x m n next ≡ Fails IndexRange) (to_z-of_z num_width o fits) (h next)

pub offset-some : (o : ℤ) (m n k : ℕ) (next : ℕ → Effect) → SFits num_width o → ((g : ℕ → Effect) → with_offset (to_z num_width (of_z num_width o)) m n g ≡ g k) → with_offset o m n next ≡ next k
offset-some o m n k next fits h = subst (λ x. with_offset x m n next ≡ next k) (to_z-of_z num_width o fits) (h next)

-- the instruction that stands there is this one
pub moved : {i j : Instr} (tokens : ℕ → List ℤ) (operands cells : List ℤ) (left : Effect) → i ≡ j → Moves j operands cells left → effect tokens i operands cells ≡ left
moved tokens operands cells left same moves = rw same (moves tokens)
