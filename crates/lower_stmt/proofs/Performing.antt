-- What runs do for statements, put together.
use Rattle.std.proofs.Common.{◌≡◌, ℕ, ◌+◌, ◌<◌, ◌≤◌, inl, inr, ⊎_elim, ℤ, List, ◌++◌, length, true, false, refl, ◌∙◌, subst, Some, arith, length-append, []}
use Rattle.std.specs.Prelude.{slice_get}
use Rattle.rvc_base.specs.declared.trap.Trap.{Trap}
use Rattle.cal_ast.specs.Tree.{Tree}
use Rattle.cal_model.specs.Value.{Value, Num, Truth, Items, scalars_of_type}
use Rattle.cal_model.specs.Outcome.{Out, Gives, and_then}
use Rattle.cal_model.specs.Env.{Env}
use Rattle.cal_model.specs.Expression.{eval, chosen}
use Rattle.code_ir.specs.declared.instr.Instr.{Instr}
use Rattle.code_ir.specs.declared.instr.Instr.TheVariants as op
use Rattle.code_ir.specs.Running.{State, Reaches, here, after}
use Rattle.lower_base.specs.declared.names.Seat.TheVariants.{Cell}
use Rattle.lower_base.specs.Names.{Name, named}
use Rattle.lower_base.specs.Held.{Keeps, SeatIsApart, AreApart}
use Rattle.lower_base.specs.Coding.{IsTest}
use Rattle.lower_base.specs.Placed.{StandsAt, World, state}
use Rattle.lower_base.specs.Following.{Follows, MayUse, Chooses, CutsOff}
use Rattle.lower_base.proofs.Runs.{reaches_join, ends_join, obeys, follows_then, follows_more, stands_left, stands_right}
use Rattle.lower_base.proofs.Keeping.{apart_first, apart_last}
use Rattle.lower_base.proofs.Written.{Written}
use Rattle.lower_stmt.proofs.Scoping.{AreLaid, HoldsInside, laid_more, inside_still}
use Rattle.lower_stmt.proofs.Evaluating.{tests_there}
use Rattle.lower_stmt.proofs.Fewer.{reaches_fewer}
use Rattle.lower_base.proofs.Doing.{choice_reaches}
use Rattle.lower_stmt.specs.Procedures.{Routines}
use Rattle.lower_base.specs.Calling.{Serves}
use Rattle.lower_stmt.specs.Bodies.{KeepsOver, CutShort}

-- ---- cells that stay

pub but_all : {outer : List Name} (names : List Name) (n m low high : ℕ) (cells : List ℤ) → KeepsOver names outer n m low high cells cells
but_all names n m low high cells = record { size = refl; cell = λ c free apart none far. refl }

pub but_wider : {names outer : List Name} {n m low high : ℕ} {before after : List ℤ} (k h : ℕ) → k ≤ n → m ≤ h → KeepsOver names outer n m low high before after → KeepsOver names outer k h low high before after
but_wider {n = n} {m = m} k h le ge keeps = record {
  size = keeps.size;
  cell = λ c free apart none far. keeps.cell c (⊎_elim (λ (a : c < k). inl (omega arith)) (λ (a : h ≤ c). inr (omega arith)) free) apart none far;
}

pub but_join : {names outer : List Name} {n m low high : ℕ} {a b c : List ℤ} → KeepsOver names outer n m low high a b → KeepsOver names outer n m low high b c → KeepsOver names outer n m low high a c
but_join first second = record {
  size = second.size ∙ first.size;
  cell = λ c free apart none far. second.cell c free apart none far ∙ first.cell c free apart none far;
}

pub keeps_but : {outer : List Name} {n m low high : ℕ} {before after : List ℤ} (names : List Name) → Keeps n m low high before after → KeepsOver names outer n m low high before after
keeps_but names keeps = record { size = keeps.size; cell = λ c free apart none far. keeps.cell c free apart }

-- what is written in the cells of a name
pub but_written : {outer : List Name} (names : List Name) (text : List ℕ) (x : Name) (c n m low high : ℕ) (before after : List ℤ) → named text names ≡ Some x → x.seat ≡ Cell c → Written c (scalars_of_type x.shape) before after
    → KeepsOver names outer n m low high before after
but_written names text x c n m low high old new e seat w = record {
  size = w.length_same;
  cell = λ d free apart none far.
      let away : AreApart c (c + scalars_of_type x.shape) d (d + 1) = subst (λ s. SeatIsApart d (d + 1) (scalars_of_type x.shape) s) seat (none text x e) in
      w.cell d (⊎_elim (λ (a : c + scalars_of_type x.shape ≤ d). inr a) (λ (a : d + 1 ≤ c). inl (omega (arith, a))) away);
}

-- ---- runs

module _ (rs : Routines) (outer : List Name) (w : World) (serves : Serves w outer rs.functions) (frames : List ℕ) where
  -- The run goes on to a place with the operands that there were, with so many turns left, with cells that hold an
  -- environment, and with as many locals.
  pub record Moves (inner : List Name) (n m : ℕ) (s : State) (end size : ℕ) (env : Env) (left : ℕ) : Type 0 where
    pub cells : List ℤ
    pub reaches : Reaches w.code w.tokens s (state end s.stack s.frames cells left)
    pub keeps : KeepsOver (inner ++ outer) outer n m w.low w.high s.cells cells
    pub holds : HoldsInside rs outer w.tokens w.low w.high inner cells env
    pub as_many : length env.locals ≡ size

  -- executing and the code come to the same
  abbrev pub Performs : List Name → (Env → ℕ → Out Env) → ℕ → ℕ → List Instr → ℕ → Type 0
  Performs inner M base n code m = (stack cells : List ℤ) (env : Env) (left : ℕ) → StandsAt w.code.instrs base code
      → AreLaid rs outer w.tokens w.low w.high n inner → AreApart n m w.low w.high → m ≤ length cells → HoldsInside rs outer w.tokens w.low w.high inner cells env
      → Follows (M env left) (Moves inner n m (state base stack frames cells left) (base + length code) (length env.locals)) (CutShort w (inner ++ outer) outer n m (state base stack frames cells left))

  pub moves_at : (o : Out Env) (inner : List Name) (n m p q size : ℕ) (s : State) → p ≡ q → Follows o (Moves inner n m s p size) (CutShort w (inner ++ outer) outer n m s) → Follows o (Moves inner n m s q size) (CutShort w (inner ++ outer) outer n m s)
  moves_at o inner n m p q size s e h = subst (λ x. Follows o (Moves inner n m s x size) (CutShort w (inner ++ outer) outer n m s)) e h

  pub breaks_wider : (names : List Name) (n k h m : ℕ) (s : State) (c : Trap) → n ≤ k → h ≤ m → CutShort w names outer k h s c → CutShort w names outer n m s c
  breaks_wider names n k h m s c le ge b = record { cells = b.cells; ends = b.ends; keeps = but_wider n m le ge b.keeps }

  pub cut_breaks : (names : List Name) (n k h m : ℕ) (s : State) (c : Trap) → n ≤ k → h ≤ m → CutsOff w k h s c → CutShort w names outer n m s c
  cut_breaks names n k h m s c le ge b = record { cells = b.cells; ends = b.ends; keeps = but_wider n m le ge (keeps_but names b.keeps) }

  pub breaks_after : (names : List Name) (n m : ℕ) (s t : State) (c : Trap) → Reaches w.code w.tokens s t → KeepsOver names outer n m w.low w.high s.cells t.cells → CutShort w names outer n m t c → CutShort w names outer n m s c
  breaks_after names n m s t c r keeps b = record { cells = b.cells; ends = ends_join r b.ends; keeps = but_join keeps b.keeps }

  pub moves_wider : (inner : List Name) (n k h m : ℕ) (s : State) (end size : ℕ) (env : Env) (left : ℕ) → n ≤ k → h ≤ m → Moves inner k h s end size env left → Moves inner n m s end size env left
  moves_wider inner n k h m s end size env left le ge p = record { cells = p.cells; reaches = p.reaches; keeps = but_wider n m le ge p.keeps; holds = p.holds; as_many = p.as_many }

  -- what follows from a state on the way, with the same operands, follows from the start
  pub move_after : (inner : List Name) (n k h m base place end size : ℕ) (stack : List ℤ) (before cells : List ℤ) (left now : ℕ) (o : Out Env) → n ≤ k → h ≤ m
      → Reaches w.code w.tokens (state base stack frames before left) (state place stack frames cells now) → KeepsOver (inner ++ outer) outer n m w.low w.high before cells
      → Follows o (Moves inner k h (state place stack frames cells now) end size) (CutShort w (inner ++ outer) outer k h (state place stack frames cells now))
      → Follows o (Moves inner n m (state base stack frames before left) end size) (CutShort w (inner ++ outer) outer n m (state base stack frames before left))
  move_after inner n k h m base place end size stack before cells left now o le ge r keeps follows =
      let s : State = state place stack frames cells now in
      let t : State = state base stack frames before left in
      follows_more o (Moves inner k h s end size) (CutShort w (inner ++ outer) outer k h s) (Moves inner n m t end size) (CutShort w (inner ++ outer) outer n m t) follows
      (λ env j p. record {
        cells = p.cells;
        reaches = reaches_join r p.reaches;
        keeps = but_join keeps (but_wider n m le ge p.keeps);
        holds = p.holds;
        as_many = p.as_many;
      })
      (λ c b. breaks_after (inner ++ outer) n m t s c r keeps (breaks_wider (inner ++ outer) n k h m s c le ge b))

  -- one jump more
  pub jump_moves : (inner : List Name) (n m base place end size : ℕ) (stack cells : List ℤ) (left : ℕ) (env : Env) (k : ℕ) → slice_get w.code.instrs place ≡ Some (op.Jump end)
      → Moves inner n m (state base stack frames cells left) place size env k → Moves inner n m (state base stack frames cells left) end size env k
  jump_moves inner n m base place end size stack cells left env k at p = record {
    cells = p.cells;
    reaches = reaches_join p.reaches (after (obeys w.code w.tokens (state place stack frames p.cells k) (op.Jump end) at) here);
    keeps = p.keeps;
    holds = p.holds;
    as_many = p.as_many;
  }

  -- nothing is done
  pub stays : (inner : List Name) (n m place : ℕ) (stack cells : List ℤ) (left : ℕ) (env : Env) → HoldsInside rs outer w.tokens w.low w.high inner cells env
      → Moves inner n m (state place stack frames cells left) place (length env.locals) env left
  stays inner n m place stack cells left env holds = record { cells = cells; reaches = here; keeps = but_all (inner ++ outer) n m w.low w.high cells; holds = holds; as_many = refl }

  -- ---- one after the other

  pub perform_none : (inner : List Name) (base n : ℕ) → Performs inner (λ env left. Gives env left) base n [] n
  perform_none inner base n stack cells env left stands laid apart room holds =
      let s : State = state base stack frames cells left in
      let e : base ≡ base + 0 = omega arith in
      subst (λ p. Moves inner n n s p (length env.locals) env left) e (stays inner n n base stack cells left env holds)

  pub perform_then : (inner : List Name) (M N : Env → ℕ → Out Env) (base n k m : ℕ) (a b : List Instr) → n ≤ k → k ≤ m
      → Performs inner M base n a k → Performs inner N (base + length a) k b m → Performs inner (λ env left. and_then (M env left) N) base n (a ++ b) m
  perform_then inner M N base n k m a b le ge first second stack cells env left stands laid apart room holds =
      let s : State = state base stack frames cells left in
      let end : base + length a + length b ≡ base + length (a ++ b) = omega (arith, length-append a b) in
      follows_then (M env left) N (Moves inner n k s (base + length a) (length env.locals)) (CutShort w (inner ++ outer) outer n k s) (Moves inner n m s (base + length (a ++ b)) (length env.locals)) (CutShort w (inner ++ outer) outer n m s)
      (first stack cells env left (stands_left w.code.instrs base a b stands) laid (apart_first n k m w.low w.high ge apart) (omega (arith, ge, room)) holds)
      (λ next j p.
      let t : State = state (base + length a) stack frames p.cells j in
      moves_at (N next j) inner n m (base + length a + length b) (base + length (a ++ b)) (length env.locals) s end
      (move_after inner n k m m base (base + length a) (base + length a + length b) (length env.locals) stack cells p.cells left j (N next j) le (omega arith) p.reaches (but_wider n m (omega arith) ge p.keeps)
      (subst (λ z. Follows (N next j) (Moves inner k m t (base + length a + length b) z) (CutShort w (inner ++ outer) outer k m t)) p.as_many
      (second stack p.cells next j (stands_right w.code.instrs base a b stands) (laid_more rs outer w.tokens w.low w.high n k inner le laid) (apart_last n k m w.low w.high le apart) (let size = p.keeps.size in omega (arith, size, room)) p.holds))))
      (λ c b. breaks_wider (inner ++ outer) n n k m s c (omega arith) ge b)

  -- ---- conditions

  -- what is chosen, and what follows there
  pub choose_moves : (inner : List Name) (M N : Env → ℕ → Out Env) (base from n k m near there end : ℕ) (stack cells : List ℤ) (env : Env) (left : ℕ) (v : Value) (j : ℕ) → from ≤ n → k ≤ m
      → AreLaid rs outer w.tokens w.low w.high n inner → HoldsInside rs outer w.tokens w.low w.high inner cells env
      → Chooses w n k (state base stack frames cells left) near there v j
      → ((now : List ℤ) → length now ≡ length cells → HoldsInside rs outer w.tokens w.low w.high inner now env → Follows (M env j) (Moves inner from m (state near stack frames now j) end (length env.locals)) (CutShort w (inner ++ outer) outer from m (state near stack frames now j)))
      → ((now : List ℤ) → length now ≡ length cells → HoldsInside rs outer w.tokens w.low w.high inner now env → Follows (N env j) (Moves inner from m (state there stack frames now j) end (length env.locals)) (CutShort w (inner ++ outer) outer from m (state there stack frames now j)))
      → Follows (chosen v (λ i. M env i) (λ i. N env i) j) (Moves inner from m (state base stack frames cells left) end (length env.locals)) (CutShort w (inner ++ outer) outer from m (state base stack frames cells left))
  choose_moves inner M N base from n k m near there end stack cells env left (Num z) j le ge laid holds c first other = tt
  choose_moves inner M N base from n k m near there end stack cells env left (Items vs) j le ge laid holds c first other = tt
  choose_moves inner M N base from n k m near there end stack cells env left (Truth true) j le ge laid holds c first other =
      move_after inner from from m m base near end (length env.locals) stack cells c.cells left j (M env j) (omega arith) (omega arith) (choice_reaches w n k base near there stack frames cells left true j c) (but_wider from m le ge (keeps_but (inner ++ outer) c.keeps))
      (first c.cells c.keeps.size (inside_still rs outer w.tokens w.low w.high n k inner cells c.cells env laid c.keeps holds))
  choose_moves inner M N base from n k m near there end stack cells env left (Truth false) j le ge laid holds c first other =
      move_after inner from from m m base there end (length env.locals) stack cells c.cells left j (N env j) (omega arith) (omega arith) (choice_reaches w n k base near there stack frames cells left false j c) (but_wider from m le ge (keeps_but (inner ++ outer) c.keeps))
      (other c.cells c.keeps.size (inside_still rs outer w.tokens w.low w.high n k inner cells c.cells env laid c.keeps holds))

  -- a condition, and what follows it
  pub test_moves : (inner : List Name) (M N : Env → ℕ → Out Env) (test : Tree) (base from n k m there end : ℕ) (a : List Instr) (stack cells : List ℤ) (env : Env) (left : ℕ) → from ≤ n → k ≤ m
      → IsTest rs.functions (inner ++ outer) test base n there a k → StandsAt w.code.instrs base a → AreLaid rs outer w.tokens w.low w.high n inner → HoldsInside rs outer w.tokens w.low w.high inner cells env → MayUse w n k cells
      → ((now : List ℤ) (j : ℕ) → length now ≡ length cells → j ≤ left → HoldsInside rs outer w.tokens w.low w.high inner now env → Follows (M env j) (Moves inner from m (state (base + length a) stack frames now j) end (length env.locals)) (CutShort w (inner ++ outer) outer from m (state (base + length a) stack frames now j)))
      → ((now : List ℤ) (j : ℕ) → length now ≡ length cells → j ≤ left → HoldsInside rs outer w.tokens w.low w.high inner now env → Follows (N env j) (Moves inner from m (state there stack frames now j) end (length env.locals)) (CutShort w (inner ++ outer) outer from m (state there stack frames now j)))
      → Follows (and_then (eval test w.calls env left) (λ v j. chosen v (λ i. M env i) (λ i. N env i) j)) (Moves inner from m (state base stack frames cells left) end (length env.locals)) (CutShort w (inner ++ outer) outer from m (state base stack frames cells left))
  test_moves inner M N test base from n k m there end a stack cells env left le ge coded stands laid holds usable first other =
      let s : State = state base stack frames cells left in
      follows_then (eval test w.calls env left) (λ v j. chosen v (λ i. M env i) (λ i. N env i) j) (Chooses w n k s (base + length a) there) (CutsOff w n k s) (Moves inner from m s end (length env.locals)) (CutShort w (inner ++ outer) outer from m s)
      (tests_there rs outer w serves frames inner coded stack cells env left stands laid holds usable)
      (λ v j c.
      let less : j ≤ left = reaches_fewer c.reaches in
      choose_moves inner M N base from n k m (base + length a) there end stack cells env left v j le ge laid holds c (λ now size h. first now j size less h) (λ now size h. other now j size less h))
      (λ c q. cut_breaks (inner ++ outer) from n k m s c le ge q)
