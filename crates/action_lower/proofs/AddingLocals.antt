-- Code of locals that was added to a draft, part by part.
use Rattle.std.proofs.Common.{◌≡◌, ℕ, ◌+◌, List, [], ◌∷◌, ◌++◌, length, map, sym, ap, ◌∙◌, refl, subst, None, append_assoc, append-nil, arith, length-append}
use Rattle.cal_model.specs.Actor.{Local}
use Rattle.cal_model.specs.Value.{Shape}
use Rattle.code_ir.specs.declared.instr.Instr.{Instr}
use Rattle.lower_base.specs.declared.draft.Draft.{Draft}
use Rattle.lower_base.specs.Callees.{Function}
use Rattle.lower_base.specs.Growing.{◌or_else◌}
use Rattle.lower_base.specs.Lowered.{Adds}
use Rattle.lower_base.specs.Names.{Name}
use Rattle.lower_base.proofs.Adding.{then_adds}
use Rattle.lower_base.proofs.Erased.{both_same, erase}
use Rattle.lower_stmt.specs.ListStarting.{StartsLocal, left_out_local, local_of, starts_list, starts_one}
use Rattle.lower_stmt.proofs.StartingLists.{local_erased}
use Rattle.action_lower.specs.LocalCode.{AreStarted, left_out_locals, list_more, none_started, start_more}

pub none_adds : (fs : List Function) (names : List Name) (old : Draft) → Adds (AreStarted fs names [] names) old old
none_adds fs names old = record {
  code = [];
  is = sym (append-nil old.instrs.items);
  routines = refl;
  has = none_started names (length old.instrs.items) old.cells;
}

local_is : {fs : List Function} {names : List Name} {x : Local} {base n m : ℕ} {code : List Instr} → StartsLocal fs names x base n code m → AreStarted fs names (x ∷ []) (local_of x.name x.shape n ∷ names) base n code m
local_is {fs = fs} {names = names} {x = x} {base = base} {n = n} {m = m} {code = code} (starts_one t _ _ _ _ shape h) =
    let behind : List Name = local_of x.name x.shape n ∷ names in
    subst (λ is. AreStarted fs names (x ∷ []) behind base n is m) (append-nil code)
    (start_more names behind x [] t base n m m code [] shape h
    (subst (λ (s : Shape). AreStarted fs (local_of x.name s n ∷ names) [] behind (base + length code) m [] m) shape (none_started behind (base + length code) m)))
local_is {fs = fs} {names = names} {x = x} {base = base} {n = n} {m = m} {code = code} (starts_list _ _ _ _ typed h) =
    let behind : List Name = local_of x.name x.shape n ∷ names in
    subst (λ is. AreStarted fs names (x ∷ []) behind base n is m) (append-nil code)
    (list_more names behind x [] base n m m code [] typed h (none_started behind (base + length code) m))

pub local_adds : (fs : List Function) (names : List Name) (x : Local) (c : ℕ) (old new : Draft) → c ≡ old.cells → Adds (StartsLocal fs names x) old new → Adds (AreStarted fs names (x ∷ []) (local_of x.name x.shape c ∷ names)) old new
local_adds fs names x c old new is f =
    subst (λ d. Adds (AreStarted fs names (x ∷ []) (local_of x.name x.shape d ∷ names)) old new) (sym is)
    (record { code = f.code; is = f.is; routines = f.routines; has = local_is f.has })

-- ---- locals in a row

started_then : {fs : List Function} {names mid behind : List Name} {xs ys : List Local} {base n k m : ℕ} {a b : List Instr} → AreStarted fs names xs mid base n a k → AreStarted fs mid ys behind (base + length a) k b m
    → AreStarted fs names (xs ++ ys) behind base n (a ++ b) m
started_then {fs = fs} {behind = behind} {ys = ys} {m = m} {b = b} (none_started names base n) later =
    let same : base + 0 ≡ base = omega arith in
    subst (λ p. AreStarted fs names ys behind p n b m) same later
started_then {fs = fs} {behind = behind} {ys = ys} {m = m} {b = b} (start_more names mid x others t base n j k c d shape first rest) later =
    let place : base + length (c ++ d) ≡ base + length c + length d = omega (arith, length-append c d) in
    subst (λ code. AreStarted fs names (x ∷ (others ++ ys)) behind base n code m) (sym (append_assoc c d b))
    (start_more names behind x (others ++ ys) t base n j m c (d ++ b) shape first (started_then rest (subst (λ p. AreStarted fs mid ys behind p k b m) place later)))
started_then {fs = fs} {behind = behind} {ys = ys} {m = m} {b = b} (list_more names mid x others base n j k c d typed first rest) later =
    let place : base + length (c ++ d) ≡ base + length c + length d = omega (arith, length-append c d) in
    subst (λ code. AreStarted fs names (x ∷ (others ++ ys)) behind base n code m) (sym (append_assoc c d b))
    (list_more names behind x (others ++ ys) base n j m c (d ++ b) typed first (started_then rest (subst (λ p. AreStarted fs mid ys behind p k b m) place later)))

pub locals_add : (fs : List Function) (names mid behind : List Name) (xs ys : List Local) (old d1 new : Draft) → Adds (AreStarted fs names xs mid) old d1 → Adds (AreStarted fs mid ys behind) d1 new → Adds (AreStarted fs names (xs ++ ys) behind) old new
locals_add fs names mid behind xs ys old d1 new a b =
    then_adds (AreStarted fs names xs mid) (AreStarted fs mid ys behind) (AreStarted fs names (xs ++ ys) behind) old d1 new (λ base n k m c d g h. started_then g h) a b

-- ---- which cells names have doesn't matter

pub locals_erased : (fs : List Function) (names : List Name) (xs : List Local) → left_out_locals fs (map erase names) xs ≡ left_out_locals fs names xs
locals_erased fs names [] = refl
locals_erased fs names (x ∷ xs) = both_same (local_erased fs names x) (locals_erased fs (local_of x.name x.shape 0 ∷ names) xs)

-- what is left out of locals of which the first one leaves out nothing
pub locals_open : (fs : List Function) (names behind : List Name) (x : Local) (xs : List Local) (c : ℕ) → behind ≡ local_of x.name x.shape c ∷ names → left_out_local fs names x ≡ None → left_out_locals fs names (x ∷ xs) ≡ left_out_locals fs behind xs
locals_open fs names behind x xs c front none =
    ap (λ o. o or_else left_out_locals fs (local_of x.name x.shape 0 ∷ names) xs) none
    ∙ sym (locals_erased fs (local_of x.name x.shape 0 ∷ names) xs) ∙ locals_erased fs (local_of x.name x.shape c ∷ names) xs
    ∙ ap (λ ns. left_out_locals fs ns xs) (sym front)
