-- Environments of which only some globals are kept: what is read under their names, and what is assigned to them.
use Rattle.std.proofs.Common.{◌≡◌, ℕ, Bool, true, false, List, [], ◌∷◌, ◌++◌, refl, sym, ap, ◌∙◌, Option, None, Some}
use Rattle.std.specs.Prelude.{if◌then◌else◌}
use Rattle.std.specs.Str.{bytes_eq}
use Rattle.cal_model.specs.Value.{Shape, Value, Values}
use Rattle.cal_model.specs.Outcome.{Out, Gives, Traps, Lacks, Clashes, and_then}
use Rattle.cal_model.specs.Env.{Env, Var, assign, assigned, assigned_to, find, is_among, look_up, put}
use Rattle.cal_model.proofs.KindNames.{same-text}
use Rattle.law_unused.specs.Keeping.{IsKept, Keep, mapped, narrowed, only}

-- ---- outcomes of which a part is kept

pub then-mapped : {A B C D : Type 0} (f : A → B) (h : C → D) (o : Out A) (p : Out B) (k : A → ℕ → Out C) (l : B → ℕ → Out D) → p ≡ mapped f o
    → ((a : A) (m : ℕ) → l (f a) m ≡ mapped h (k a m)) → and_then p l ≡ mapped h (and_then o k)
then-mapped {A} {B} {C} {D} f h o p k l e g = ap (λ q. and_then q l) e ∙ go o
  where
    go : (o : Out A) → and_then (mapped f o) l ≡ mapped h (and_then o k)
    go (Gives a m) = g a m
    go (Traps c) = refl
    go Lacks = refl
    go Clashes = refl

pub then-kept : {A C D : Type 0} (h : C → D) (o p : Out A) (k : A → ℕ → Out C) (l : A → ℕ → Out D) → p ≡ o
    → ((a : A) (m : ℕ) → l a m ≡ mapped h (k a m)) → and_then p l ≡ mapped h (and_then o k)
then-kept {A} {C} {D} h o p k l e g = ap (λ q. and_then q l) e ∙ go o
  where
    go : (o : Out A) → and_then o l ≡ mapped h (and_then o k)
    go (Gives a m) = g a m
    go (Traps c) = refl
    go Lacks = refl
    go Clashes = refl

-- ---- names

no-both : {A : Type 0} (b : Bool) → b ≡ true → b ≡ false → A
no-both true e f = absurd (cc)
no-both false e f = absurd (cc)

module _ (keep : Keep) where
  pub only-in : (x : Var) (xs : List Var) → keep x.name ≡ true → only keep (x ∷ xs) ≡ x ∷ only keep xs
  only-in x xs e = ap (λ b. if b then x ∷ only keep xs else only keep xs) e

  pub only-out : (x : Var) (xs : List Var) → keep x.name ≡ false → only keep (x ∷ xs) ≡ only keep xs
  only-out x xs e = ap (λ b. if b then x ∷ only keep xs else only keep xs) e

  -- what isn't kept has another name than what is kept
  pub another : (own name : List ℕ) → keep own ≡ false → IsKept keep name → bytes_eq own name ≡ false
  another own name out in_ = go (bytes_eq own name) refl
    where
      go : (b : Bool) → bytes_eq own name ≡ b → b ≡ false
      go true e = no-both (keep own) (ap keep (same-text own name e) ∙ in_) out
      go false e = refl

  found-kept : (name : List ℕ) (xs : List Var) → IsKept keep name → find name (only keep xs) ≡ find name xs
  found-kept name [] k = refl
  found-kept name (x ∷ xs) k = go (keep x.name) refl (found-kept name xs k)
    where
      go : (b : Bool) → keep x.name ≡ b → find name (only keep xs) ≡ find name xs → find name (only keep (x ∷ xs)) ≡ find name (x ∷ xs)
      go true e rest = ap (find name) (only-in x xs e) ∙ ap (λ o. if bytes_eq x.name name then Some x.value else o) rest
      go false e rest =
          ap (find name) (only-out x xs e) ∙ rest ∙ sym (ap (λ b. if b then Some x.value else find name xs) (another x.name name e k))

  behind-locals : (name : List ℕ) (locals globals : List Var) → IsKept keep name → find name (locals ++ only keep globals) ≡ find name (locals ++ globals)
  behind-locals name [] globals k = found-kept name globals k
  behind-locals name (x ∷ xs) globals k = ap (λ o. if bytes_eq x.name name then Some x.value else o) (behind-locals name xs globals k)

  pub seen-kept : (name : List ℕ) (env : Env) → IsKept keep name → look_up name (narrowed keep env) ≡ look_up name env
  seen-kept name env k = behind-locals name env.locals env.globals k

  -- ---- assignment

  -- the variable that is assigned keeps its name
  one-kept : (x : Var) (xs : List Var) (places : Values) (v : Value) (left : ℕ) → keep x.name ≡ true
      → and_then (assigned_to x places v left) (λ y k. Gives (y ∷ only keep xs) k) ≡ mapped (only keep) (and_then (assigned_to x places v left) (λ y k. Gives (y ∷ xs) k))
  one-kept x xs places v left e = typed x.kept
    where
      valued : (o : Out Value) → and_then (and_then o (λ w k. Gives (record x { value = w }) k)) (λ y k. Gives (y ∷ only keep xs) k)
          ≡ mapped (only keep) (and_then (and_then o (λ w k. Gives (record x { value = w }) k)) (λ y k. Gives (y ∷ xs) k))
      valued (Gives w k) = ap (λ ys. Gives ys k) (sym (only-in (record x { value = w }) xs e))
      valued (Traps c) = refl
      valued Lacks = refl
      valued Clashes = refl

      into : Option Shape → Out Var
      into t = elim t [ None ↦ Clashes | Some s ↦ and_then (put s x.value places v left) (λ w k. Gives (record x { value = w }) k) ]

      typed : (t : Option Shape) → and_then (into t) (λ y k. Gives (y ∷ only keep xs) k) ≡ mapped (only keep) (and_then (into t) (λ y k. Gives (y ∷ xs) k))
      typed None = refl
      typed (Some s) = valued (put s x.value places v left)

  rest-kept : (x : Var) (xs : List Var) (o : Out (List Var)) → keep x.name ≡ true
      → and_then (mapped (only keep) o) (λ ys k. Gives (x ∷ ys) k) ≡ mapped (only keep) (and_then o (λ ys k. Gives (x ∷ ys) k))
  rest-kept x xs (Gives ys k) e = ap (λ zs. Gives zs k) (sym (only-in x ys e))
  rest-kept x xs (Traps c) e = refl
  rest-kept x xs Lacks e = refl
  rest-kept x xs Clashes e = refl

  rest-left : (x : Var) (o : Out (List Var)) → keep x.name ≡ false → mapped (only keep) o ≡ mapped (only keep) (and_then o (λ ys k. Gives (x ∷ ys) k))
  rest-left x (Gives ys k) e = ap (λ zs. Gives zs k) (sym (only-out x ys e))
  rest-left x (Traps c) e = refl
  rest-left x Lacks e = refl
  rest-left x Clashes e = refl

  pub assigned-kept : (xs : List Var) (name : List ℕ) (places : Values) (v : Value) (left : ℕ) → IsKept keep name
      → assigned (only keep xs) name places v left ≡ mapped (only keep) (assigned xs name places v left)
  assigned-kept [] name places v left k = refl
  assigned-kept (x ∷ xs) name places v left k = go (keep x.name) refl (assigned-kept xs name places v left k)
    where
      first : Bool → List Var → Out (List Var)
      first b ys =
          if b then and_then (assigned_to x places v left) (λ y k. Gives (y ∷ ys) k) else and_then (assigned ys name places v left) (λ zs k. Gives (x ∷ zs) k)

      named : (b : Bool) → keep x.name ≡ true → assigned (only keep xs) name places v left ≡ mapped (only keep) (assigned xs name places v left)
          → first b (only keep xs) ≡ mapped (only keep) (first b xs)
      named true e rest = one-kept x xs places v left e
      named false e rest = ap (λ o. and_then o (λ ys k. Gives (x ∷ ys) k)) rest ∙ rest-kept x xs (assigned xs name places v left) e

      go : (b : Bool) → keep x.name ≡ b → assigned (only keep xs) name places v left ≡ mapped (only keep) (assigned xs name places v left)
          → assigned (only keep (x ∷ xs)) name places v left ≡ mapped (only keep) (assigned (x ∷ xs) name places v left)
      go true e rest = ap (λ ys. assigned ys name places v left) (only-in x xs e) ∙ named (bytes_eq x.name name) e rest
      go false e rest =
          ap (λ ys. assigned ys name places v left) (only-out x xs e)
          ∙ rest
          ∙ rest-left x (assigned xs name places v left) e
          ∙ sym (ap (λ b. mapped (only keep) (first b xs)) (another x.name name e k))

  pub assign-kept : (env : Env) (name : List ℕ) (places : Values) (v : Value) (left : ℕ) → IsKept keep name
      → assign (narrowed keep env) name places v left ≡ mapped (narrowed keep) (assign env name places v left)
  assign-kept env name places v left k = go (is_among name env.locals)
    where
      go : (b : Bool)
          → (if b then and_then (assigned env.locals name places v left) (λ xs k. Gives (record (narrowed keep env) { locals = xs }) k)
          else and_then (assigned (only keep env.globals) name places v left) (λ xs k. Gives (record (narrowed keep env) { globals = xs }) k))
          ≡ mapped (narrowed keep) (if b then and_then (assigned env.locals name places v left) (λ xs k. Gives (record env { locals = xs }) k)
          else and_then (assigned env.globals name places v left) (λ xs k. Gives (record env { globals = xs }) k))
      go true = then-kept (narrowed keep) (assigned env.locals name places v left) (assigned env.locals name places v left) _ _ refl (λ xs m. refl)
      go false =
          then-mapped (only keep) (narrowed keep) (assigned env.globals name places v left) (assigned (only keep env.globals) name places v left) _ _
          (assigned-kept env.globals name places v left k) (λ xs m. refl)
