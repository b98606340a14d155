-- The code of a local of a function, and of what is behind it, that was added to a draft.
use Rattle.std.proofs.Common.{◌≡◌, ℕ, ◌+◌, List, ◌∷◌, ◌++◌, length, ap, ◌∙◌, subst, append_assoc, length-append}
use Rattle.rvc_base.specs.declared.scalar.Scalar.{Scalar}
use Rattle.cal_ast.specs.Tree.{Tree}
use Rattle.cal_model.specs.Actor.{Local}
use Rattle.cal_model.specs.Value.{Shape}
use Rattle.code_ir.specs.declared.instr.Instr.{Instr}
use Rattle.lower_base.specs.declared.draft.Draft.{Draft}
use Rattle.lower_base.specs.Callees.{Function}
use Rattle.lower_base.specs.Lowered.{Adds}
use Rattle.lower_base.specs.Names.{Name, local_of}
use Rattle.lower_base.specs.Routining.{IsBody, one_more_list, one_more_local}
use Rattle.expr_lower.specs.ListStarting.{StartsLocal, starts_list, starts_one}
use Rattle.expr_lower.proofs.ListStarts.{start_code}

local_then : {fs : List Function} (names : List Name) (t : Scalar) (e : Tree) (x : Local) (xs : List Local) (base n k m : ℕ) (a b : List Instr) → StartsLocal fs names x base n a k → IsBody fs t e (local_of x.name x.shape n ∷ names) xs (base + length a) k b m → IsBody fs t e names (x ∷ xs) base n (a ++ b) m
local_then {fs = fs} names t e x xs base n k m a b (starts_one kind _ _ _ _ shape h) rest =
    one_more_local names x xs kind base n k m a b shape h (subst (λ (s : Shape). IsBody fs t e (local_of x.name s n ∷ names) xs (base + length a) k b m) shape rest)
local_then names t e x xs base n k m a b (starts_list _ _ _ _ typed h) rest = one_more_list names x xs base n k m a b typed (start_code x typed h) rest

pub local_adds : {fs : List Function} (names : List Name) (t : Scalar) (e : Tree) (x : Local) (xs : List Local) (c : ℕ) (old mid new : Draft) → c ≡ old.cells → Adds (StartsLocal fs names x) old mid → Adds (IsBody fs t e (local_of x.name x.shape c ∷ names) xs) mid new
    → Adds (IsBody fs t e names (x ∷ xs)) old new
local_adds {fs = fs} names t e x xs c old mid new is f g =
    let n : ℕ = old.cells in
    let base : ℕ = length old.instrs.items in
    let g1 : Adds (IsBody fs t e (local_of x.name x.shape n ∷ names) xs) mid new = subst (λ y. Adds (IsBody fs t e (local_of x.name x.shape y ∷ names) xs) mid new) is g in
    let s2 : length mid.instrs.items ≡ base + length f.code = ap length f.is ∙ length-append old.instrs.items f.code in
    record {
      code = f.code ++ g1.code;
      is = g1.is ∙ ap (λ ys. ys ++ g1.code) f.is ∙ append_assoc old.instrs.items f.code g1.code;
      routines = g1.routines ∙ f.routines;
      has = local_then names t e x xs base n mid.cells new.cells f.code g1.code f.has (subst (λ p. IsBody fs t e (local_of x.name x.shape n ∷ names) xs p mid.cells g1.code new.cells) s2 g1.has);
    }
