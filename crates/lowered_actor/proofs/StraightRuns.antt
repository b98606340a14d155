-- Straight lines keep the facts of guards and firings.
use Rattle.std.proofs.Common.{◌≡◌, ◌≢◌, ℕ, zero, suc, ◌+◌, ◌<◌, ◌⊎◌, inl, inr, ℤ, pos, Bool, true, false, not, ◌&&◌, ◌||◌, List, [], ◌∷◌, length, take, drop, refl, sym, ap, subst, ◌∙◌, arith, None, Some}
use Rattle.std.specs.Prelude.{if◌then◌else◌, nat_le, ◌==◌, slice_get, slice_set}
use Rattle.std.proofs.lemmas.Bool.{leb-true, eqb-true}
use Rattle.std.proofs.lemmas.List.{length-set, get_or-take, get_or-set_same, get_or-set_other}
use Rattle.std.proofs.lemmas.Option.{slice_get-get_or}
use Rattle.rvc_base.specs.declared.trap.Trap.{Trap}
use Rattle.rvc_base.specs.Arithmetic.{Computed, Gives, Traps, add, sub, mul, div, rem, truth, is_equal, is_below, is_true}
use Rattle.rvc_base.specs.Turns.{max_turns}
use Rattle.code_ir.specs.declared.instr.Instr.{Instr}
use Rattle.code_ir.specs.declared.instr.Instr.TheVariants as op
use Rattle.code_ir.specs.declared.outcome.Outcome.{Outcome}
use Rattle.code_ir.specs.declared.outcome.Outcome.TheVariants as outcome
use Rattle.code_ir.specs.Code.{Code}
use Rattle.code_ir.specs.Effect.{Effect, Leaves, Fails, Breaks, effect, cell, stored, push_computed, with_cells, on_top, on_two, push_token}
use Rattle.code_ir.specs.Running.{State, Goes, Over, Lacks, Stuck, go_on, obey, answer, step, Ends, stop, go, Reaches, here, after}
use Rattle.lowered_actor.specs.Actor.{Action, Actor, number_on}
use Rattle.lowered_actor.specs.Facts.{IsEffect, IsAnswer}
use Rattle.lowered_actor.specs.Straight.{may_store, is_end, ends_line, may_stand, is_line, is_store, stores}

both-true : (a b : Bool) → (a && b) ≡ true → (a ≡ true) × (b ≡ true)
both-true true true h = (refl, refl)
both-true true false h = absurd (grind arith)
both-true false b h = absurd (grind arith)

either-true : (a b : Bool) → (a || b) ≡ true → (a ≡ true) ⊎ (b ≡ true)
either-true true b h = inl refl
either-true false b h = inr h

-- ---- lists

fetched : {A : Type 0} (xs ys : List A) (k : ℕ) (x : A) → drop k xs ≡ x ∷ ys → (slice_get xs k ≡ Some x) × (drop (suc k) xs ≡ ys)
fetched [] ys zero x h = absurd (grind arith)
fetched [] ys (suc k) x h = absurd (grind arith)
fetched (z ∷ xs) ys zero x h = let same : z ≡ x = cc in let rest : xs ≡ ys = cc in (ap Some same, rest)
fetched (z ∷ xs) ys (suc k) x h = fetched xs ys k x h

take-of-set : (n : ℕ) (xs : List ℤ) (k : ℕ) (v : ℤ) → take n (slice_set xs k v) ≡ slice_set (take n xs) k v
take-of-set zero xs k v = refl
take-of-set (suc n) [] k v = refl
take-of-set (suc n) (x ∷ xs) zero v = refl
take-of-set (suc n) (x ∷ xs) (suc k) v = ap (λ l. x ∷ l) (take-of-set n xs k v)

cell-of-take : (n : ℕ) (cs ds : List ℤ) (c : ℕ) → take n cs ≡ take n ds → c < n → cell cs c ≡ cell ds c
cell-of-take n cs ds c same low =
    sym (get_or-take n cs c (pos 0) low) ∙ (ap (λ l. cell l c) same ∙ get_or-take n ds c (pos 0) low)

-- ---- two runs that differ in their cells alone

-- this outcome is one of a firing, or of a guard
abbrev pub IsRight : Bool → Outcome → Type 0
IsRight true o = IsEffect o
IsRight false o = IsAnswer o

abbrev pub at : ℕ → List ℤ → List ℤ → State
at place stack cells = record { place = place; stack = stack; frames = []; cells = cells; left = max_turns }

module _ (actor : Actor) (action : Action) (firing : Bool) (tokens : ℕ → List ℤ) (enough : (p : ℕ) → length (tokens p) ≡ number_on action.needs p) where
  abbrev code : Code
  code = actor.code

  -- one instruction leaves these cells of those
  record Moved (instr : Instr) (cs ds cs' ds' : List ℤ) : Type 0 where
    same : take actor.kept cs' ≡ take actor.kept ds'
    size : length cs' ≡ length cs
    other_size : length ds' ≡ length ds
    sent : (c : ℕ) → (cell cs c ≡ cell ds c) ⊎ (is_store c instr ≡ true) → cell cs' c ≡ cell ds' c
    keeps : (c : ℕ) → may_store actor firing c ≡ false → cell cs' c ≡ cell cs c

  data Alike (instr : Instr) (cs ds : List ℤ) : Effect → Effect → Type 0 where
    leaves : (stack cs' ds' : List ℤ) → Moved instr cs ds cs' ds' → Alike instr cs ds (Leaves stack cs') (Leaves stack ds')
    fails : (cause : Trap) → Alike instr cs ds (Fails cause) (Fails cause)
    breaks : Alike instr cs ds Breaks Breaks

  still : (instr : Instr) (cs ds : List ℤ) → ((c : ℕ) → is_store c instr ≡ true → ⊥) → take actor.kept cs ≡ take actor.kept ds → Moved instr cs ds cs ds
  still instr cs ds none same = record {
    same = same;
    size = refl;
    other_size = refl;
    sent = λ c h. by c h;
    keeps = λ c h. refl;
  }
    where
      by : (c : ℕ) → (cell cs c ≡ cell ds c) ⊎ (is_store c instr ≡ true) → cell cs c ≡ cell ds c
      by c (inl e) = e
      by c (inr s) = absurd (none c s)

  computed-alike : (instr : Instr) (cs ds stack : List ℤ) → Moved instr cs ds cs ds → (w : Computed)
      → Alike instr cs ds (push_computed w stack cs) (push_computed w stack ds)
  computed-alike instr cs ds stack moved (Gives v) = leaves (v ∷ stack) cs ds moved
  computed-alike instr cs ds stack moved (Traps cause) = fails cause

  top-alike : (instr : Instr) (f : ℤ → Computed) (cs ds stack : List ℤ) → Moved instr cs ds cs ds → Alike instr cs ds (on_top f stack cs) (on_top f stack ds)
  top-alike instr f cs ds [] moved = breaks
  top-alike instr f cs ds (a ∷ stack) moved = computed-alike instr cs ds stack moved (f a)

  two-alike : (instr : Instr) (f : ℤ → ℤ → Computed) (cs ds stack : List ℤ) → Moved instr cs ds cs ds → Alike instr cs ds (on_two f stack cs) (on_two f stack ds)
  two-alike instr f cs ds [] moved = breaks
  two-alike instr f cs ds (b ∷ []) moved = breaks
  two-alike instr f cs ds (b ∷ a ∷ stack) moved = computed-alike instr cs ds stack moved (f a b)

  load-alike : (c : ℕ) (cs ds stack : List ℤ) → Moved (op.Load c) cs ds cs ds → length cs ≡ length ds → cell cs c ≡ cell ds c
      → Alike (op.Load c) cs ds (with_cells cs c 1 (Leaves (cell cs c ∷ stack) cs)) (with_cells ds c 1 (Leaves (cell ds c ∷ stack) ds))
  load-alike c cs ds stack moved sizes same =
      subst (λ n. Alike (op.Load c) cs ds (with_cells cs c 1 (Leaves (cell cs c ∷ stack) cs)) (if nat_le (c + 1) n then Leaves (cell ds c ∷ stack) ds else Breaks)) sizes
      (subst (λ v. Alike (op.Load c) cs ds (with_cells cs c 1 (Leaves (cell cs c ∷ stack) cs)) (if nat_le (c + 1) (length cs) then Leaves (v ∷ stack) ds else Breaks)) same
      (by (nat_le (c + 1) (length cs))))
    where
      by : (b : Bool) → Alike (op.Load c) cs ds (if b then Leaves (cell cs c ∷ stack) cs else Breaks) (if b then Leaves (cell cs c ∷ stack) ds else Breaks)
      by true = leaves (cell cs c ∷ stack) cs ds moved
      by false = breaks

  token-alike : (p k : ℕ) (cs ds stack : List ℤ) → Moved (op.Token p k) cs ds cs ds → k < length (tokens p)
      → Alike (op.Token p k) cs ds (push_token (slice_get (tokens p) k) stack cs) (push_token (slice_get (tokens p) k) stack ds)
  token-alike p k cs ds stack moved low =
      subst (λ o. Alike (op.Token p k) cs ds (push_token o stack cs) (push_token o stack ds)) (sym (slice_get-get_or (tokens p) k (pos 0) low))
      (leaves (cell (tokens p) k ∷ stack) cs ds moved)

  eqb-refl : (c d : ℕ) → c ≢ d → (c == d) ≡ true → ⊥
  eqb-refl c d differ e = differ (eqb-true c d e)

  store-moved : (c : ℕ) (kind : _) (v : ℤ) (cs ds : List ℤ) → take actor.kept cs ≡ take actor.kept ds → may_store actor firing c ≡ true
      → c < length cs → c < length ds → Moved (op.Store c kind) cs ds (slice_set cs c v) (slice_set ds c v)
  store-moved c kind v cs ds same may low low' = record {
    same = take-of-set actor.kept cs c v ∙ (ap (λ l. slice_set l c v) same ∙ sym (take-of-set actor.kept ds c v));
    size = length-set cs c v;
    other_size = length-set ds c v;
    sent = λ d h. by-sent d (same-or-not d) h;
    keeps = λ d h. by-keeps d (same-or-not d) h;
  }
    where
      same-or-not : (d : ℕ) → (d ≡ c) ⊎ (d ≢ c)
      same-or-not d = by (d == c) refl
        where
          by : (b : Bool) → (d == c) ≡ b → (d ≡ c) ⊎ (d ≢ c)
          by true e = inl (eqb-true d c e)
          by false e = inr (λ h. grind arith)

      by-sent : (d : ℕ) → (d ≡ c) ⊎ (d ≢ c) → (cell cs d ≡ cell ds d) ⊎ ((c == d) ≡ true) → cell (slice_set cs c v) d ≡ cell (slice_set ds c v) d
      by-sent d (inl e) h =
          subst (λ k. cell (slice_set cs c v) k ≡ cell (slice_set ds c v) k) (sym e)
          (get_or-set_same cs c v (pos 0) low ∙ sym (get_or-set_same ds c v (pos 0) low'))
      by-sent d (inr differ) (inl e) = get_or-set_other cs c d v (pos 0) differ ∙ (e ∙ sym (get_or-set_other ds c d v (pos 0) differ))
      by-sent d (inr differ) (inr e) = absurd (differ (sym (eqb-true c d e)))

      by-keeps : (d : ℕ) → (d ≡ c) ⊎ (d ≢ c) → may_store actor firing d ≡ false → cell (slice_set cs c v) d ≡ cell cs d
      by-keeps d (inl e) h = absurd (let no : true ≡ false = sym may ∙ (ap (may_store actor firing) (sym e) ∙ h) in grind arith)
      by-keeps d (inr differ) h = get_or-set_other cs c d v (pos 0) differ

  store-alike : (c : ℕ) (kind : _) (cs ds stack : List ℤ) → take actor.kept cs ≡ take actor.kept ds → may_store actor firing c ≡ true → length cs ≡ length ds
      → Alike (op.Store c kind) cs ds (effect tokens (op.Store c kind) stack cs) (effect tokens (op.Store c kind) stack ds)
  store-alike c kind cs ds [] same may sizes = breaks
  store-alike c kind cs ds (v ∷ stack) same may sizes =
      subst (λ n. Alike (op.Store c kind) cs ds (with_cells cs c 1 (Leaves stack (slice_set cs c (stored kind v)))) (if nat_le (c + 1) n then Leaves stack (slice_set ds c (stored kind v)) else Breaks)) sizes
      (by (nat_le (c + 1) (length cs)) refl)
    where
      by : (b : Bool) → nat_le (c + 1) (length cs) ≡ b
          → Alike (op.Store c kind) cs ds (if b then Leaves stack (slice_set cs c (stored kind v)) else Breaks) (if b then Leaves stack (slice_set ds c (stored kind v)) else Breaks)
      by true e =
          let low = leb-true (c + 1) (length cs) e in
          leaves stack (slice_set cs c (stored kind v)) (slice_set ds c (stored kind v))
          (store-moved c kind (stored kind v) cs ds same may (omega (arith, low)) (omega (arith, low, sizes)))
      by false e = breaks

  -- ---- a line

  pub record Ended (line : List Instr) (s t : State) : Type 0 where
    pub o : Outcome
    pub left : List ℤ
    pub last : List ℤ
    pub one : Ends code tokens s o left
    pub other : Ends code tokens t o last
    pub right : IsRight firing o
    pub same : take actor.kept left ≡ take actor.kept last
    pub size : length left ≡ length s.cells
    pub sent : o ≡ outcome.Done → (c : ℕ) → (cell s.cells c ≡ cell t.cells c) ⊎ (stores c line ≡ true) → cell left c ≡ cell last c
    pub keeps : (c : ℕ) → may_store actor firing c ≡ false → cell left c ≡ cell s.cells c
    pub reads : (u : State) → Reaches code tokens s u → step code tokens u ≢ Lacks

  abbrev pub IsSafe : State → Type 0
  IsSafe s = (u : State) → Reaches code tokens s u → step code tokens u ≢ Stuck

  -- a run that is over at once
  over : (line : List Instr) (s t : State) (o : Outcome) → step code tokens s ≡ Over o s.cells → step code tokens t ≡ Over o t.cells → IsRight firing o
      → take actor.kept s.cells ≡ take actor.kept t.cells
      → (o ≡ outcome.Done → (c : ℕ) → (cell s.cells c ≡ cell t.cells c) ⊎ (stores c line ≡ true) → cell s.cells c ≡ cell t.cells c)
      → Ended line s t
  over line s t o e f right same sent = record {
    o = o;
    left = s.cells;
    last = t.cells;
    one = stop e;
    other = stop f;
    right = right;
    same = same;
    size = refl;
    sent = sent;
    keeps = λ c h. refl;
    reads = λ u r. by u r;
  }
    where
      by : (u : State) → Reaches code tokens s u → step code tokens u ≢ Lacks
      by u here h = let no : Over o s.cells ≡ Lacks = sym e ∙ h in grind arith
      by u (after g r) h = let no : Over o s.cells ≡ Goes _ = sym e ∙ g in grind arith

  trap-right : (f : Bool) (cause : Trap) → IsRight f (outcome.Trap cause)
  trap-right true cause = tt
  trap-right false cause = tt

  -- one instruction that goes to the next place, and then the rest of the line
  then-line : (instr : Instr) (line : List Instr) (place : ℕ) (stack cs ds : List ℤ) (e f : Effect)
      → step code tokens (at place stack cs) ≡ go_on (at place stack cs) e
      → step code tokens (at place stack ds) ≡ go_on (at place stack ds) f
      → is_end instr ≡ false → take actor.kept cs ≡ take actor.kept ds
      → IsSafe (at place stack cs) → Alike instr cs ds e f
      → ((stack' cs' ds' : List ℤ) → Moved instr cs ds cs' ds' → step code tokens (at place stack cs) ≡ Goes (at (place + 1) stack' cs')
      → step code tokens (at place stack ds) ≡ Goes (at (place + 1) stack' ds')
      → Ended line (at (place + 1) stack' cs') (at (place + 1) stack' ds'))
      → Ended (instr ∷ line) (at place stack cs) (at place stack ds)
  then-line instr line place stack cs ds _ _ g h plain same safe (leaves stack' cs' ds' moved) rest =
      let ends = rest stack' cs' ds' moved g h in
      record {
        o = ends.o;
        left = ends.left;
        last = ends.last;
        one = go g ends.one;
        other = go h ends.other;
        right = ends.right;
        same = ends.same;
        size = ends.size ∙ moved.size;
        sent = λ done c k. ends.sent done c (by-sent moved c (subst (λ b. (cell cs c ≡ cell ds c) ⊎ ((if b then false else (is_store c instr || stores c line)) ≡ true)) plain k));
        keeps = λ c k. ends.keeps c k ∙ moved.keeps c k;
        reads = λ u r. by-reads ends u r;
      }
    where
      by-sent : Moved instr cs ds cs' ds' → (c : ℕ) → (cell cs c ≡ cell ds c) ⊎ ((is_store c instr || stores c line) ≡ true)
          → (cell cs' c ≡ cell ds' c) ⊎ (stores c line ≡ true)
      by-sent moved c (inl k) = inl (moved.sent c (inl k))
      by-sent moved c (inr k) = by (either-true (is_store c instr) (stores c line) k)
        where
          by : (is_store c instr ≡ true) ⊎ (stores c line ≡ true) → (cell cs' c ≡ cell ds' c) ⊎ (stores c line ≡ true)
          by (inl k) = inl (moved.sent c (inr k))
          by (inr k) = inr k

      by-reads : Ended line (at (place + 1) stack' cs') (at (place + 1) stack' ds') → (u : State) → Reaches code tokens (at place stack cs) u → step code tokens u ≢ Lacks
      by-reads ends u here k = let no : Goes (at (place + 1) stack' cs') ≡ Lacks = sym g ∙ k in grind arith
      by-reads ends u (after {t = t} k r) l =
          let next : Goes t ≡ Goes (at (place + 1) stack' cs') = sym k ∙ g in
          let there : t ≡ at (place + 1) stack' cs' = cc in
          ends.reads u (subst (λ v. Reaches code tokens v u) there r) l
  then-line instr line place stack cs ds _ _ g h plain same safe (fails cause) rest =
      over (instr ∷ line) (at place stack cs) (at place stack ds) (outcome.Trap cause) g h (trap-right firing cause) same (λ done. absurd (grind arith))
  then-line instr line place stack cs ds _ _ g h plain same safe breaks rest = absurd (safe (at place stack cs) here g)

  fetch : (instr : Instr) (place : ℕ) (stack cs : List ℤ) → slice_get code.instrs place ≡ Some instr
      → step code tokens (at place stack cs) ≡ obey code tokens (at place stack cs) instr
  fetch instr place stack cs is = ap (λ o. elim o [ None ↦ Stuck | Some i ↦ obey code tokens (at place stack cs) i ]) is

  safe-next : (s t : State) → IsSafe s → step code tokens s ≡ Goes t → IsSafe t
  safe-next s t safe e u r = safe u (after e r)

  answers : (f : Bool) → f ≡ false → (b : Bool) → IsRight f (if b then outcome.True else outcome.False)
  answers true e b = absurd (grind arith)
  answers false e true = tt
  answers false e false = tt

  not-done : (b : Bool) → (if b then outcome.True else outcome.False) ≡ outcome.Done → ⊥
  not-done true e = grind arith
  not-done false e = grind arith

  ends-false : (f : Bool) → (if f then false else true) ≡ true → f ≡ false
  ends-false true h = absurd (grind arith)
  ends-false false h = refl

  abbrev Rest : List Instr → ℕ → Type 0
  Rest line place = (stack cs ds : List ℤ) → is_line actor action firing line ≡ true → take actor.kept cs ≡ take actor.kept ds → length cs ≡ length ds
      → IsSafe (at place stack cs) → IsSafe (at place stack ds) → Ended line (at place stack cs) (at place stack ds)

  module _ (line : List Instr) (place : ℕ) (stack cs ds : List ℤ) (same : take actor.kept cs ≡ take actor.kept ds) (sizes : length cs ≡ length ds)
      (safe : IsSafe (at place stack cs)) (safe' : IsSafe (at place stack ds)) (rest : Rest line (place + 1)) where
    -- the line goes on
    goes : (instr : Instr) → slice_get code.instrs place ≡ Some instr → is_end instr ≡ false → is_line actor action firing line ≡ true
        → (e f : Effect) → obey code tokens (at place stack cs) instr ≡ go_on (at place stack cs) e
        → obey code tokens (at place stack ds) instr ≡ go_on (at place stack ds) f → Alike instr cs ds e f
        → Ended (instr ∷ line) (at place stack cs) (at place stack ds)
    goes instr is plain ok e f g h alike =
        then-line instr line place stack cs ds e f (fetch instr place stack cs is ∙ g) (fetch instr place stack ds is ∙ h) plain same safe alike
        (λ stack' cs' ds' moved k l. rest stack' cs' ds' ok moved.same (moved.size ∙ (sizes ∙ sym moved.other_size))
        (safe-next (at place stack cs) (at (place + 1) stack' cs') safe k) (safe-next (at place stack ds) (at (place + 1) stack' ds') safe' l))

    quiet : (instr : Instr) → ((c : ℕ) → is_store c instr ≡ true → ⊥) → Moved instr cs ds cs ds
    quiet instr none = still instr cs ds none same

    by-instr : (instr : Instr) → slice_get code.instrs place ≡ Some instr
        → (ends_line firing instr || (may_stand actor action firing instr && is_line actor action firing line)) ≡ true
        → Ended (instr ∷ line) (at place stack cs) (at place stack ds)
    by-instr (op.Const v) is ok =
        goes (op.Const v) is refl ok (Leaves (v ∷ stack) cs) (Leaves (v ∷ stack) ds) refl refl (leaves (v ∷ stack) cs ds (quiet (op.Const v) (λ c h. grind arith)))
    by-instr (op.Load c) is ok =
        let both = both-true (nat_le (suc c) actor.kept) (is_line actor action firing line) ok in
        let low = leb-true (suc c) actor.kept both.0 in
        goes (op.Load c) is refl both.1 _ _ refl refl
        (load-alike c cs ds stack (quiet (op.Load c) (λ d h. grind arith)) sizes (cell-of-take actor.kept cs ds c same (omega (arith, low))))
    by-instr (op.Store c kind) is ok =
        let both = both-true (may_store actor firing c) (is_line actor action firing line) ok in
        goes (op.Store c kind) is refl both.1 _ _ refl refl (store-alike c kind cs ds stack same both.0 sizes)
    by-instr (op.Token p k) is ok =
        let both = both-true (nat_le (suc k) (number_on action.needs p)) (is_line actor action firing line) ok in
        let low = leb-true (suc k) (number_on action.needs p) both.0 in
        let many = enough p in
        goes (op.Token p k) is refl both.1 _ _ refl refl
        (token-alike p k cs ds stack (quiet (op.Token p k) (λ d h. grind arith)) (omega (arith, low, many)))
    by-instr op.Not is ok = goes op.Not is refl ok _ _ refl refl (top-alike op.Not (λ a. Gives (truth (not (is_true a)))) cs ds stack (quiet op.Not (λ d h. grind arith)))
    by-instr op.Add is ok = goes op.Add is refl ok _ _ refl refl (two-alike op.Add add cs ds stack (quiet op.Add (λ d h. grind arith)))
    by-instr op.Sub is ok = goes op.Sub is refl ok _ _ refl refl (two-alike op.Sub sub cs ds stack (quiet op.Sub (λ d h. grind arith)))
    by-instr op.Mul is ok = goes op.Mul is refl ok _ _ refl refl (two-alike op.Mul mul cs ds stack (quiet op.Mul (λ d h. grind arith)))
    by-instr op.Div is ok = goes op.Div is refl ok _ _ refl refl (two-alike op.Div div cs ds stack (quiet op.Div (λ d h. grind arith)))
    by-instr op.Mod is ok = goes op.Mod is refl ok _ _ refl refl (two-alike op.Mod rem cs ds stack (quiet op.Mod (λ d h. grind arith)))
    by-instr op.Eq is ok = goes op.Eq is refl ok _ _ refl refl (two-alike op.Eq (λ a b. Gives (truth (is_equal a b))) cs ds stack (quiet op.Eq (λ d h. grind arith)))
    by-instr op.Lt is ok = goes op.Lt is refl ok _ _ refl refl (two-alike op.Lt (λ a b. Gives (truth (is_below a b))) cs ds stack (quiet op.Lt (λ d h. grind arith)))
    by-instr op.Answer is ok = by-stack stack refl (either-true (if firing then false else true) (false && is_line actor action firing line) ok)
      where
        by-stack : (st : List ℤ) → stack ≡ st → ((if firing then false else true) ≡ true) ⊎ ((false && is_line actor action firing line) ≡ true)
            → Ended (op.Answer ∷ line) (at place stack cs) (at place stack ds)
        by-stack st e (inr h) = absurd (grind arith)
        by-stack [] e (inl ends) = absurd (safe (at place stack cs) here (fetch op.Answer place stack cs is ∙ ap (answer (at place stack cs)) e))
        by-stack (a ∷ st) e (inl ends) =
            over (op.Answer ∷ line) (at place stack cs) (at place stack ds) (if is_true a then outcome.True else outcome.False)
            (fetch op.Answer place stack cs is ∙ ap (answer (at place stack cs)) e) (fetch op.Answer place stack ds is ∙ ap (answer (at place stack ds)) e)
            (answers firing (ends-false firing ends) (is_true a)) same (λ done. absurd (not-done (is_true a) done))
    by-instr op.Done is ok = by (either-true firing (false && is_line actor action firing line) ok)
      where
        right : (f : Bool) → f ≡ true → IsRight f outcome.Done
        right true e = tt
        right false e = absurd (grind arith)

        kept : (c : ℕ) → (cell cs c ≡ cell ds c) ⊎ (false ≡ true) → cell cs c ≡ cell ds c
        kept c (inl e) = e
        kept c (inr e) = absurd (grind arith)

        by : (firing ≡ true) ⊎ ((false && is_line actor action firing line) ≡ true) → Ended (op.Done ∷ line) (at place stack cs) (at place stack ds)
        by (inl ends) =
            over (op.Done ∷ line) (at place stack cs) (at place stack ds) outcome.Done (fetch op.Done place stack cs is) (fetch op.Done place stack ds is)
            (right firing ends) same (λ done c h. kept c h)
        by (inr h) = absurd (grind arith)
    by-instr instr is ok = absurd (grind arith)

  pub ended : (line : List Instr) (place : ℕ) (stack cs ds : List ℤ) → drop place code.instrs ≡ line → is_line actor action firing line ≡ true
      → take actor.kept cs ≡ take actor.kept ds → length cs ≡ length ds → IsSafe (at place stack cs) → IsSafe (at place stack ds)
      → Ended line (at place stack cs) (at place stack ds)
  ended [] place stack cs ds is ok same sizes safe safe' = absurd (grind arith)
  ended (instr ∷ line) place stack cs ds is ok same sizes safe safe' =
      let found = fetched code.instrs line place instr is in
      let next : drop (place + 1) code.instrs ≡ line = subst (λ n. drop n code.instrs ≡ line) (let one : suc place ≡ place + 1 = omega arith in one) found.1 in
      by-instr line place stack cs ds same sizes safe safe'
      (λ stack' cs' ds' ok' same' sizes' s t. ended line (place + 1) stack' cs' ds' next ok' same' sizes' s t)
      instr found.0 ok
