-- Code of guards that is added to a draft.
use Rattle.std.proofs.Common.{◌≡◌, ℕ, ◌+◌, ◌-◌, ◌<◌, ◌≤◌, List, [], ◌∷◌, ◌++◌, length, map, take, drop, refl, sym, ap, subst, ◌∙◌, Option, None, Some, arith, append_assoc, append-nil, length-append}
use Rattle.std.specs.Prelude.{get_or}
use Rattle.std.proofs.lemmas.List.{map-append, take_more, take-append-drop}
use Rattle.cal_ast.specs.Tree.{Tree}
use Rattle.code_ir.specs.declared.instr.Instr.{Instr}
use Rattle.code_ir.specs.declared.instr.Instr.TheVariants as op
use Rattle.lower_base.specs.declared.draft.Draft.{Draft}
use Rattle.lower_base.specs.declared.fault.LowerFault.{LowerFault}
use Rattle.lower_base.specs.declared.fault.LowerFault.TheVariants.{Memory, NotLowered, TooLong, TooManyCells}
use Rattle.lower_base.specs.Callees.{Function}
use Rattle.lower_base.specs.Calling.{IsLoweredWith}
use Rattle.lower_base.specs.Growing.{IsFault, left_out_in, ◌or_else◌}
use Rattle.lower_base.specs.Held.{AreBelow}
use Rattle.lower_base.specs.Lowered.{Adds, IsPut}
use Rattle.lower_base.specs.Names.{Name}
use Rattle.lower_base.proofs.Adding.{then_put}
use Rattle.lower_base.proofs.Keeping.{below_more}
use Rattle.action_lower.specs.GuardWords.{AddsGuard, ClearsWithin, SetsZero, left_out_guards}
use Rattle.action_lower.specs.Guarding.{AreGuards, IsGuardCode, IsHead, clearing, guard_more, no_guard, no_head}

-- an answer behind the code of the expression
pub answered : (fs : List Function) (names : List Name) (g : Tree) (old mid new : Draft) → Adds (IsLoweredWith fs names g) old mid → IsPut (op.Answer ∷ []) mid new → Adds (IsGuardCode None fs names g) old new
answered fs names g old mid new a p =
    then_put (IsLoweredWith fs names g) (IsGuardCode None fs names g) (op.Answer ∷ []) old mid new
    (λ base n m code lowered.
    let here : base ≡ base + 0 = omega arith in
    record { head = []; body = code; is = refl; begins = no_head m; lowered = subst (λ p. IsLoweredWith fs names g p n code m) here lowered }) a p

none-head : {m : ℕ} {head : List Instr} → IsHead None m head → head ≡ []
none-head (no_head m) = refl

-- an instruction that clears cells, in front of it
pub cleared-guard : (fs : List Function) (names : List Name) (g : Tree) (kept place : ℕ) (old mid three new : Draft) → kept ≤ old.cells → place ≡ length old.instrs.items → IsPut (op.Zero 0 0 ∷ []) old mid
    → Adds (IsGuardCode None fs names g) mid three → SetsZero three.instrs.items new.instrs.items place kept three.cells → new.routines.items ≡ three.routines.items → new.cells ≡ three.cells
    → Adds (IsGuardCode (Some kept) fs names g) old new
cleared-guard fs names g kept place old mid three new le at p a zero-at routines cells =
    let one = a.has in
    let zero : Instr = op.Zero kept (three.cells - kept) in
    let none : one.head ≡ [] = none-head one.begins in
    let longer : length mid.instrs.items ≡ length old.instrs.items + 1 = ap length p.is ∙ length-append old.instrs.items (op.Zero 0 0 ∷ []) in
    let grown = one.lowered.cells in
    let empty : length one.head ≡ 0 = ap length none in
    let start : length mid.instrs.items + length one.head ≡ length old.instrs.items + 1 = omega (arith, longer, empty) in
    record {
      code = zero ∷ a.code;
      is = zero-at old.instrs.items a.code (op.Zero 0 0) (a.is ∙ ap (λ xs. xs ++ a.code) p.is ∙ append_assoc old.instrs.items (op.Zero 0 0 ∷ []) a.code) at;
      routines = routines ∙ a.routines ∙ p.routines;
      has = record {
        head = zero ∷ [];
        body = one.body;
        is = ap (λ xs. zero ∷ xs) (one.is ∙ ap (λ h. h ++ (one.body ++ op.Answer ∷ [])) none);
        begins = clearing kept (three.cells - kept) new.cells (let same = p.cells in omega (arith, le, grown, same, cells));
        lowered = subst (λ k. IsLoweredWith fs names g k old.cells one.body new.cells) start
            (subst (λ n. IsLoweredWith fs names g (length mid.instrs.items + length one.head) n one.body new.cells) p.cells
            (subst (λ m. IsLoweredWith fs names g (length mid.instrs.items + length one.head) mid.cells one.body m) (sym cells) one.lowered));
      };
    }

-- one guard behind others
guard-last : (clears : Option ℕ) (fs : List Function) (names : List Name) (g : Tree) (m : ℕ) (b : List Instr) {gs : List Tree} {es : List ℕ} {base n k : ℕ} {a : List Instr} → AreGuards clears fs names gs es base n a k → IsGuardCode clears fs names g (base + length a) k b m
    → AreGuards clears fs names (gs ++ g ∷ []) (es ++ (base + length a) ∷ []) base n (a ++ b) m
guard-last clears fs names g m b (no_guard base n) last =
    let place : base + 0 ≡ base = omega arith in
    subst (λ p. AreGuards clears fs names (g ∷ []) (p ∷ []) base n b m) (sym place)
    (subst (λ c. AreGuards clears fs names (g ∷ []) (base ∷ []) base n c m) (append-nil b)
    (guard_more g [] [] base n m m b [] (subst (λ p. IsGuardCode clears fs names g p n b m) place last) (no_guard (base + length b) m)))
guard-last clears fs names g m b (guard_more h gs es base n j k a c first more) last =
    let place : base + length (a ++ c) ≡ base + length a + length c = omega (arith, length-append a c) in
    let rest : AreGuards clears fs names (gs ++ g ∷ []) (es ++ (base + length a + length c) ∷ []) (base + length a) j (c ++ b) m =
    guard-last clears fs names g m b more (subst (λ p. IsGuardCode clears fs names g p k b m) place last) in
    subst (λ p. AreGuards clears fs names (h ∷ (gs ++ g ∷ [])) (base ∷ (es ++ p ∷ [])) base n ((a ++ c) ++ b) m) (sym place)
    (subst (λ d. AreGuards clears fs names (h ∷ (gs ++ g ∷ [])) (base ∷ (es ++ (base + length a + length c) ∷ [])) base n d m) (sym (append_assoc a c b))
    (guard_more h (gs ++ g ∷ []) (es ++ (base + length a + length c) ∷ []) base n j m a (c ++ b) first rest))

-- ---- what is left out

left-more : (fs : List Function) (names : List Name) (gs : List Tree) (g : Tree) → left_out_guards fs names gs ≡ None → left_out_guards fs names (gs ++ g ∷ []) ≡ left_out_in fs names g
left-more fs names [] g e = none-after (left_out_in fs names g)
  where
    none-after : (o : Option ℕ) → o or_else None ≡ o
    none-after None = refl
    none-after (Some x) = refl
left-more fs names (h ∷ gs) g e =
    let parts = both-none (left_out_in fs names h) (left_out_guards fs names gs) e in
    ap (λ o. o or_else left_out_guards fs names (gs ++ g ∷ [])) parts.0 ∙ left-more fs names gs g parts.1
  where
    both-none : (a b : Option ℕ) → a or_else b ≡ None → (a ≡ None) × (b ≡ None)
    both-none None b e = (refl, e)
    both-none (Some x) b e = cc

left-first : (fs : List Function) (names : List Name) (gs hs : List Tree) (at : ℕ) → left_out_guards fs names gs ≡ Some at → left_out_guards fs names (gs ++ hs) ≡ Some at
left-first fs names [] hs at e = cc
left-first fs names (g ∷ gs) hs at e = go (left_out_in fs names g) (left-first fs names gs hs at) e
  where
    go : (o : Option ℕ) → (left_out_guards fs names gs ≡ Some at → left_out_guards fs names (gs ++ hs) ≡ Some at) → o or_else left_out_guards fs names gs ≡ Some at → o or_else left_out_guards fs names (gs ++ hs) ≡ Some at
    go None later e = later e
    go (Some x) later e = e

-- ---- the loop over guards

-- these guards are added, with these entries
pub record AreAdded (clears : Option ℕ) (fs : List Function) (names : List Name) (gs : List Tree) (es : List ℕ) (old new : Draft) : Type 0 where
  pub added : Adds (AreGuards clears fs names gs es) old new
  pub whole : left_out_guards fs names gs ≡ None
  pub below : AreBelow new.cells names
  pub within : ClearsWithin new clears

pub none-added : (clears : Option ℕ) (fs : List Function) (names : List Name) (old : Draft) → AreBelow old.cells names → ClearsWithin old clears → AreAdded clears fs names [] [] old old
none-added clears fs names old below within = record {
  added = record { code = []; is = sym (append-nil old.instrs.items); routines = refl; has = no_guard (length old.instrs.items) old.cells };
  whole = refl;
  below = below;
  within = within;
}

first-taken : {X : Type 0} (f : X → Tree) (xs : List X) (x : X) (i : ℕ) → i < length xs → x ≡ get_or xs i x → map f (take (i + 1) xs) ≡ map f (take i xs) ++ f x ∷ []
first-taken f xs x i small is = ap (map f) (take_more xs i x small ∙ ap (λ y. take i xs ++ y ∷ []) (sym is)) ∙ map-append f (take i xs) (x ∷ [])

pub more-added : {X : Type 0} (f : X → Tree) (clears : Option ℕ) (fs : List Function) (names : List Name) (xs : List X) (x : X) (i : ℕ) (es hs : List ℕ) (entry : ℕ) (old mid new : Draft) → i < length xs → x ≡ get_or xs i x
    → AreAdded clears fs names (map f (take i xs)) es old mid → AddsGuard clears fs names (f x) entry mid new → left_out_in fs names (f x) ≡ None → hs ≡ es ++ entry ∷ [] → AreAdded clears fs names (map f (take (i + 1) xs)) hs old new
more-added f clears fs names xs x i es hs entry old mid new small is before now whole entries =
    let a = before.added in
    let b = now.1 in
    let place : length mid.instrs.items ≡ length old.instrs.items + length a.code = ap length a.is ∙ length-append old.instrs.items a.code in
    subst (λ ts. AreAdded clears fs names ts hs old new) (sym (first-taken f xs x i small is)) (record {
      added = record {
        code = a.code ++ b.code;
        is = b.is ∙ ap (λ is. is ++ b.code) a.is ∙ append_assoc old.instrs.items a.code b.code;
        routines = b.routines ∙ a.routines;
        has = subst (λ ks. AreGuards clears fs names (map f (take i xs) ++ f x ∷ []) ks (length old.instrs.items) old.cells (a.code ++ b.code) new.cells) (ap (λ p. es ++ p ∷ []) (sym place ∙ sym now.0) ∙ sym entries)
            (guard-last clears fs names (f x) new.cells b.code a.has (subst (λ p. IsGuardCode clears fs names (f x) p mid.cells b.code new.cells) place b.has));
      };
      whole = left-more fs names (map f (take i xs)) (f x) before.whole ∙ whole;
      below = below_more mid.cells new.cells names b.has.lowered.cells before.below;
      within = λ kept e. let le = before.within kept e in let ge = b.has.lowered.cells in omega (arith, le, ge);
    })

pub fault-among : {X : Type 0} (f : X → Tree) (fs : List Function) (names : List Name) (xs : List X) (x : X) (i : ℕ) (draft : Draft) (fault : LowerFault) → i < length xs → x ≡ get_or xs i x
    → left_out_guards fs names (map f (take i xs)) ≡ None → IsFault (left_out_in fs names (f x)) draft fault → IsFault (left_out_guards fs names (map f xs)) draft fault
fault-among f fs names xs x i draft Memory small is whole h = tt
fault-among f fs names xs x i draft TooLong small is whole h = h
fault-among f fs names xs x i draft TooManyCells small is whole h = h
fault-among f fs names xs x i draft (NotLowered at) small is whole h =
    let first : left_out_guards fs names (map f (take (i + 1) xs)) ≡ Some at = ap (left_out_guards fs names) (first-taken f xs x i small is) ∙ left-more fs names (map f (take i xs)) (f x) whole ∙ h in
    let all : map f (take (i + 1) xs) ++ map f (drop (i + 1) xs) ≡ map f xs = sym (map-append f (take (i + 1) xs) (drop (i + 1) xs)) ∙ ap (map f) (take-append-drop (i + 1) xs) in
    ap (left_out_guards fs names) (sym all) ∙ left-first fs names (map f (take (i + 1) xs)) (map f (drop (i + 1) xs)) at first
