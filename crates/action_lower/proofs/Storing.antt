-- Code of what is sent does what the outputs do.
use Rattle.std.proofs.Common.{◌≡◌, ℕ, zero, suc, ◌+◌, ◌<◌, ◌≤◌, inl, inr, ⊎_elim, ℤ, pos, List, [], ◌∷◌, ◌++◌, map, length, refl, sym, ap, subst, ◌∙◌, None, Some, arith, length-append}
use Rattle.std.specs.Prelude.{slice_get, slice_index_or, slice_set}
use Rattle.std.proofs.lemmas.Option.{slice_get-get_or, slice_get_within}
use Rattle.rvc_base.specs.Arithmetic.{truth}
use Rattle.rvc_base.specs.Storing.{conv}
use Rattle.rvc_base.specs.declared.scalar.Scalar.{Scalar}
use Rattle.cal_ast.specs.Tree.{Tree, listed}
use Rattle.cal_model.specs.Actor.{Output, Port}
use Rattle.cal_model.specs.Env.{Env}
use Rattle.cal_model.specs.Expression.{eval, eval_all}
use Rattle.cal_model.specs.Firing.{interleaved, number_of, numbers_of, outputs}
use Rattle.cal_model.specs.Statement.{Runs}
use Rattle.cal_model.specs.Outcome.{Out, Gives, Traps, Lacks, Clashes, and_then}
use Rattle.cal_model.specs.Selection.{kind_of_port}
use Rattle.cal_model.specs.Value.{Cons, Items, Num, Truth, Value, Values}
use Rattle.code_ir.specs.declared.instr.Instr.{Instr}
use Rattle.code_ir.specs.declared.instr.Instr.TheVariants as op
use Rattle.code_ir.specs.Effect.{Leaves}
use Rattle.code_ir.specs.declared.outcome.Outcome.{Outcome}
use Rattle.code_ir.specs.Running.{Ends, Reaches, State, after, go_on, here, step}
use Rattle.code_ir.proofs.Ends.{one-end}
use Rattle.lower_base.specs.Flat.{flat}
use Rattle.lower_base.specs.Following.{CutsOff, Follows, MayUse, Pushes}
use Rattle.lower_base.specs.Callees.{Function}
use Rattle.lower_base.specs.Calling.{Serves}
use Rattle.lower_base.specs.Held.{AreApart, Keeps}
use Rattle.lower_base.specs.Names.{Name}
use Rattle.lower_base.specs.Placed.{StandsAt, World, state}
use Rattle.lower_base.proofs.Coded.{grows}
use Rattle.lower_base.proofs.Singles.{IsSingleValue}
use Rattle.lower_base.proofs.Effects.{same_number}
use Rattle.lower_base.proofs.Keeping.{keeps_all, keeps_join, keeps_wider, apart_first, apart_last}
use Rattle.lower_base.proofs.Runs.{ends_back, ends_join, follows_then, obeys, reaches_join, stands_left, stands_right}
use Rattle.lower_base.proofs.Written.{Written, written_keeps}
use Rattle.lower_base.proofs.Storing.{set_there, set_written, store_leaves}
use Rattle.lower_stmt.specs.Bodies.{IsReady}
use Rattle.lower_stmt.specs.Procedures.{Routines}
use Rattle.lower_stmt.proofs.Evaluating.{does_there, may, singles_there}
use Rattle.lower_stmt.proofs.Scoping.{AreLaid, HoldsInside, inside_still, laid_more}
use Rattle.action_lower.specs.Sending.{AreOutputs, AreStored, EndsSent, IsStored, Sends, SendsAs, StandFrom, list_output_more, no_output, no_value, output_more, value_more}
use Rattle.action_lower.proofs.ListSending.{SendsList}
use Rattle.action_lower.proofs.TurnSending.{repeated-grows, repeated_sent}
use Rattle.action_lower.proofs.LocalRuns.{inside_from}

-- the number of a single value
number-is : (v : Value) (z : ℤ) → IsSingleValue v → flat v ≡ z ∷ [] → number_of v ≡ z
number-is (Num x) z h e = same_number x z e
number-is (Truth b) z h e = same_number (truth b) z e
number-is (Items vs) z h e = absurd h

pub stored-grows : {fs : List Function} {names : List Name} {t : Scalar} {es : List Tree} {c base n m : ℕ} {part : List Instr} → AreStored fs names t es c base n part m → n ≤ m
stored-grows (no_value c base n) = omega arith
stored-grows (value_more e es c base n k m a b first rest) = let x = grows first.coded in let y = stored-grows rest in omega (arith, x, y)

pub outputs-grow : {fs : List Function} {names : List Name} {ports : List Port} {os : List Output} {firsts : List ℕ} {base n m : ℕ} {part : List Instr} → AreOutputs fs names ports os firsts base n part m → n ≤ m
outputs-grow (no_output base n) = omega arith
outputs-grow (output_more o others firsts base n k m a b first rest) = let x = stored-grows first.stored in let y = outputs-grow rest in omega (arith, x, y)
outputs-grow (list_output_more o others firsts base n k m a b first rest) = let x = repeated-grows first.stored in let y = outputs-grow rest in omega (arith, x, y)

module _ (rs : Routines) (outer : List Name) (w : World) (serves : Serves w outer rs.functions) (frames : List ℕ) (inner : List Name) (t : Scalar) (env : Env) (stack : List ℤ) where
  abbrev fs : List Function
  fs = rs.functions

  abbrev names : List Name
  names = inner ++ outer

  abbrev Laid : ℕ → Type 0
  Laid n = AreLaid rs outer w.tokens w.low w.high n inner

  abbrev Inside : List ℤ → Type 0
  Inside cells = HoldsInside rs outer w.tokens w.low w.high inner cells env

  -- the numbers of values stand in the cells from c on
  record Stores (size c m : ℕ) (s : State) (end : ℕ) (vs : Values) (left : ℕ) : Type 0 where
    many : length (map (conv t) (numbers_of vs)) ≡ size
    cells : List ℤ
    reaches : Reaches w.code w.tokens s (state end s.stack s.frames cells left)
    keeps : Keeps c m w.low w.high s.cells cells
    stand : StandFrom c (map (conv t) (numbers_of vs)) cells

  pub record StoresOne (c m : ℕ) (s : State) (end : ℕ) (v : Value) (left : ℕ) : Type 0 where
    pub cells : List ℤ
    pub reaches : Reaches w.code w.tokens s (state end s.stack s.frames cells left)
    pub keeps : Keeps c m w.low w.high s.cells cells
    pub there : slice_get cells c ≡ Some (conv t (number_of v))

  pub one-stored : (e : Tree) (c base n m : ℕ) (part : List Instr) (cells : List ℤ) (left : ℕ) → IsStored fs names t e c base n part m → StandsAt w.code.instrs base part → c + 1 ≤ n → m ≤ length cells
      → Laid c → Inside cells → MayUse w n m cells
      → Follows (eval e w.calls env left) (StoresOne c m (state base stack frames cells left) (base + length part)) (CutsOff w c m (state base stack frames cells left))
  one-stored e c base n m part cells left is stands le room laid holds usable =
      go (eval e w.calls env left) (singles_there rs outer w serves frames inner is.coded cells env left (stands_left w.code.instrs base is.body (op.Store c (Some t) ∷ []) there) deep holds usable)
      (does_there rs outer w serves frames inner is.coded stack cells env left (stands_left w.code.instrs base is.body (op.Store c (Some t) ∷ []) there) deep holds usable)
    where
      there : StandsAt w.code.instrs base (is.body ++ op.Store c (Some t) ∷ [])
      there = subst (StandsAt w.code.instrs base) is.is stands

      finish : base + length is.body + 1 ≡ base + length part
      finish = let size : length part ≡ length is.body + 1 = ap length is.is ∙ length-append is.body (op.Store c (Some t) ∷ []) in omega (arith, size)

      wide : n ≤ m
      wide = grows is.coded

      deep : Laid n
      deep = laid_more rs outer w.tokens w.low w.high c n inner (omega (arith, le)) laid

      go : (o : Out Value) → Follows o (λ v j. IsSingleValue v) (λ cause. Unit {0}) → Follows o (Pushes w n m (state base stack frames cells left) (base + length is.body)) (CutsOff w n m (state base stack frames cells left))
          → Follows o (StoresOne c m (state base stack frames cells left) (base + length part)) (CutsOff w c m (state base stack frames cells left))
      go (Gives v j) one p =
          let number : number_of v ≡ p.number = number-is v p.number one p.is in
          let size : length p.cells ≡ length cells = p.keeps.size in
          let old : slice_get p.cells c ≡ Some (slice_index_or p.cells c (pos 0)) = slice_get-get_or p.cells c (pos 0) (omega (arith, size, room, le, wide)) in
          let at = stands_right w.code.instrs base is.body (op.Store c (Some t) ∷ []) there in
          let s : State = state (base + length is.body) (p.number ∷ stack) frames p.cells j in
          let last : step w.code w.tokens s ≡ go_on s (Leaves stack (slice_set p.cells c (conv t p.number))) = obeys w.code w.tokens s (op.Store c (Some t)) at.0 ∙ ap (go_on s) (store_leaves c (Some t) w.tokens stack p.cells p.number (slice_index_or p.cells c (pos 0)) old) in
          let same : c + 0 ≡ c = omega arith in
          let written : Written c 1 p.cells (slice_set p.cells c (conv t p.number)) = subst (λ d. Written c 1 p.cells (slice_set p.cells d (conv t p.number))) same (set_written p.cells c 1 0 (conv t p.number) (omega arith)) in
          record {
            cells = slice_set p.cells c (conv t p.number);
            reaches = subst (λ q. Reaches w.code w.tokens (state base stack frames cells left) (state q stack frames (slice_set p.cells c (conv t p.number)) j)) finish (reaches_join p.reaches (after last here));
            keeps = keeps_join (keeps_wider c m (omega (arith, le)) (omega arith) p.keeps) (written_keeps c 1 c m w.low w.high p.cells (slice_set p.cells c (conv t p.number)) (omega arith) (omega (arith, le, wide)) written);
            there = set_there p.cells c (slice_index_or p.cells c (pos 0)) (conv t p.number) old ∙ ap (λ z. Some (conv t z)) (sym number);
          }
      go (Traps cause) one p = record { cells = p.cells; ends = p.ends; keeps = keeps_wider c m (omega (arith, le)) (omega arith) p.keeps }
      go Lacks one p = tt
      go Clashes one p = tt

  one-apart : (c d m : ℕ) → c ≤ d → d + 1 ≤ m → AreApart c m w.low w.high → AreApart d (d + 1) w.low w.high
  one-apart c d m le ge far = ⊎_elim (λ (h : m ≤ w.low). inl (omega arith)) (λ (h : w.high ≤ c). inr (omega arith)) far

  -- a value, and those behind it
  join-values : (e : Tree) (es : List Tree) (c base k m mid end : ℕ) (cells : List ℤ) (left : ℕ) → c + 1 ≤ k → k ≤ m → AreApart c m w.low w.high
      → Follows (eval e w.calls env left) (StoresOne c k (state base stack frames cells left) mid) (CutsOff w c k (state base stack frames cells left))
      → ((now : List ℤ) (j : ℕ) → Keeps c k w.low w.high cells now
      → Follows (eval_all (listed es) w.calls env j) (Stores (length es) (c + 1) m (state mid stack frames now j) end) (CutsOff w (c + 1) m (state mid stack frames now j)))
      → Follows (eval_all (listed (e ∷ es)) w.calls env left) (Stores (suc (length es)) c m (state base stack frames cells left) end) (CutsOff w c m (state base stack frames cells left))
  join-values e es c base k m mid end cells left low le far first rest =
      follows_then (eval e w.calls env left) (λ v j. and_then (eval_all (listed es) w.calls env j) (λ vs i. Gives (Cons v vs) i))
      (StoresOne c k s mid) (CutsOff w c k s) (Stores (suc (length es)) c m s end) (CutsOff w c m s)
      first
      (λ v j p. follows_then (eval_all (listed es) w.calls env j) (λ vs i. Gives (Cons v vs) i)
      (Stores (length es) (c + 1) m (state mid stack frames p.cells j) end) (CutsOff w (c + 1) m (state mid stack frames p.cells j)) (Stores (suc (length es)) c m s end) (CutsOff w c m s)
      (rest p.cells j p.keeps)
      (λ vs i q. both v j p vs i q)
      (λ cause q. record { cells = q.cells; ends = ends_join p.reaches q.ends; keeps = keeps_join (keeps_wider c m (omega arith) le p.keeps) (keeps_wider c m (omega arith) (omega arith) q.keeps) }))
      (λ cause q. record { cells = q.cells; ends = q.ends; keeps = keeps_wider c m (omega arith) le q.keeps })
    where
      s : State
      s = state base stack frames cells left

      both : (v : Value) (j : ℕ) (p : StoresOne c k s mid v j) (vs : Values) (i : ℕ) → Stores (length es) (c + 1) m (state mid stack frames p.cells j) end vs i → Stores (suc (length es)) c m s end (Cons v vs) i
      both v j p vs i q = record {
        many = ap suc q.many;
        cells = q.cells;
        reaches = reaches_join p.reaches q.reaches;
        keeps = keeps_join (keeps_wider c m (omega arith) le p.keeps) (keeps_wider c m (omega arith) (omega arith) q.keeps);
        stand = stand;
      }
        where
          stand : StandFrom c (conv t (number_of v) ∷ map (conv t) (numbers_of vs)) q.cells
          stand zero z e = let at : c + 0 ≡ c = omega arith in ap (slice_get q.cells) at ∙ q.keeps.cell c (inl (omega arith)) (one-apart c c m (omega arith) (omega (arith, low, le)) far) ∙ p.there ∙ e
          stand (suc h) z e = let at : c + suc h ≡ c + 1 + h = omega arith in ap (slice_get q.cells) at ∙ q.stand h z e

  values-stored : {es : List Tree} {c base n m : ℕ} {part : List Instr} (cells : List ℤ) (left : ℕ) → AreStored fs names t es c base n part m → StandsAt w.code.instrs base part → c + length es ≤ n → m ≤ length cells
      → Laid c → AreApart c m w.low w.high → Inside cells
      → Follows (eval_all (listed es) w.calls env left) (Stores (length es) c m (state base stack frames cells left) (base + length part)) (CutsOff w c m (state base stack frames cells left))
  values-stored cells left (no_value c base n) stands le room laid far holds =
      let finish : base ≡ base + 0 = omega arith in
      record {
        many = refl;
        cells = cells;
        reaches = subst (λ q. Reaches w.code w.tokens (state base stack frames cells left) (state q stack frames cells left)) finish here;
        keeps = keeps_all c n w.low w.high cells;
        stand = λ k z e. cc;
      }
  values-stored cells left (value_more e es c base n k m a b first rest) stands le room laid far holds =
      let more : k ≤ m = stored-grows rest in
      let wide : n ≤ k = grows first.coded in
      let end : base + length a + length b ≡ base + length (a ++ b) = omega (arith, length-append a b) in
      subst (λ q. Follows (eval_all (listed (e ∷ es)) w.calls env left) (Stores (suc (length es)) c m (state base stack frames cells left) q) (CutsOff w c m (state base stack frames cells left))) end
      (join-values e es c base k m (base + length a) (base + length a + length b) cells left (omega (arith, le, wide)) more far
      (one-stored e c base n k a cells left first (stands_left w.code.instrs base a b stands) (omega (arith, le)) (omega (arith, more, room)) laid holds (may w c m n k cells cells (omega (arith, le)) more far room refl))
      (λ now j keeps. values-stored now j rest (stands_right w.code.instrs base a b stands) (omega (arith, le, wide)) (let size = keeps.size in omega (arith, size, room))
      (laid_more rs outer w.tokens w.low w.high c (c + 1) inner (omega arith) laid) (apart_last c (c + 1) m w.low w.high (omega arith) far)
      (inside_still rs outer w.tokens w.low w.high c k inner cells now env laid keeps holds)))

-- ---- outputs

module _ (rs : Routines) (outer : List Name) (w : World) (serves : Serves w outer rs.functions) (frames : List ℕ) (inner : List Name) (ports : List Port) (env : Env) (stack : List ℤ) where
  abbrev Stored : ℕ → ℕ → ℕ → ℕ → State → ℕ → Values → ℕ → Type 0
  Stored port = Stores rs outer w serves frames inner (kind_of_port ports port) env stack

  -- an output of single values
  abbrev one-of : ℕ → List Tree → Output
  one-of port es = record { port = port; values = listed es; repeat = None }

  -- an output, and those behind it
  join-outputs : (port : ℕ) (es : List Tree) (others : List Output) (firsts : List ℕ) (n base k m mid end : ℕ) (cells : List ℤ) (left : ℕ) → n + length es ≤ k → k ≤ m → AreApart n m w.low w.high
      → Follows (eval_all (listed es) w.calls env left) (Stored port (length es) n k (state base stack frames cells left) mid) (CutsOff w n k (state base stack frames cells left))
      → ((now : List ℤ) (j : ℕ) → Keeps n k w.low w.high cells now
      → Follows (outputs ports others w.calls env j) (Sends w firsts k m (state mid stack frames now j) end) (CutsOff w k m (state mid stack frames now j)))
      → Follows (outputs ports (record { port = port; values = listed es; repeat = None } ∷ others) w.calls env left) (Sends w (n ∷ firsts) n m (state base stack frames cells left) end) (CutsOff w n m (state base stack frames cells left))
  join-outputs port es others firsts n base k m mid end cells left low le far first rest =
      follows_then (eval_all (listed es) w.calls env left) (λ vs j. and_then (outputs ports others w.calls env j) (λ sent i. Gives ((port, map (conv (kind_of_port ports port)) (numbers_of vs)) ∷ sent) i))
      (Stored port (length es) n k s mid) (CutsOff w n k s) (Sends w (n ∷ firsts) n m s end) (CutsOff w n m s)
      first
      (λ vs j p. follows_then (outputs ports others w.calls env j) (λ sent i. Gives ((port, map (conv (kind_of_port ports port)) (numbers_of vs)) ∷ sent) i)
      (Sends w firsts k m (state mid stack frames p.cells j) end) (CutsOff w k m (state mid stack frames p.cells j)) (Sends w (n ∷ firsts) n m s end) (CutsOff w n m s)
      (rest p.cells j p.keeps)
      (λ sent i q. both vs j p sent i q)
      (λ cause q. record { cells = q.cells; ends = ends_join p.reaches q.ends; keeps = keeps_join (keeps_wider n m (omega arith) le p.keeps) (keeps_wider n m (omega (arith, low)) (omega arith) q.keeps) }))
      (λ cause q. record { cells = q.cells; ends = q.ends; keeps = keeps_wider n m (omega arith) le q.keeps })
    where
      s : State
      s = state base stack frames cells left

      both : (vs : Values) (j : ℕ) (p : Stored port (length es) n k s mid vs j) (sent : List (ℕ × List ℤ)) (i : ℕ) → Sends w firsts k m (state mid stack frames p.cells j) end sent i
          → Sends w (n ∷ firsts) n m s end ((port, map (conv (kind_of_port ports port)) (numbers_of vs)) ∷ sent) i
      both vs j p sent i q = record {
        cells = q.cells;
        reaches = reaches_join p.reaches q.reaches;
        keeps = keeps_join (keeps_wider n m (omega arith) le p.keeps) (keeps_wider n m (omega (arith, low)) (omega arith) q.keeps);
        stand = (stand, q.stand);
      }
        where
          stand : StandFrom n (map (conv (kind_of_port ports port)) (numbers_of vs)) q.cells
          stand h z e =
              let within : h < length (map (conv (kind_of_port ports port)) (numbers_of vs)) = slice_get_within (map (conv (kind_of_port ports port)) (numbers_of vs)) h z e in
              let many = p.many in
              q.keeps.cell (n + h) (inl (omega (arith, within, many, low)))
              (one-apart rs outer w serves frames inner (kind_of_port ports port) env stack n (n + h) m (omega arith) (omega (arith, within, many, low, le)) far) ∙ p.stand h z e

  -- a repeated output
  abbrev list-of : ℕ → List Tree → ℕ → Output
  list-of port es times = record { port = port; values = listed es; repeat = Some times }

  -- .. and those behind it
  join-list : (port times : ℕ) (es : List Tree) (others : List Output) (firsts : List ℕ) (n base k m mid end : ℕ) (cells : List ℤ) (left : ℕ) → n ≤ k → k ≤ m → AreApart n m w.low w.high
      → Follows (eval_all (listed es) w.calls env left) (SendsList rs outer w serves frames inner (kind_of_port ports port) env stack times n k (state base stack frames cells left) mid) (CutsOff w n k (state base stack frames cells left))
      → ((now : List ℤ) (j : ℕ) → Keeps n k w.low w.high cells now
      → Follows (outputs ports others w.calls env j) (Sends w firsts k m (state mid stack frames now j) end) (CutsOff w k m (state mid stack frames now j)))
      → Follows (outputs ports (list-of port es times ∷ others) w.calls env left) (Sends w (n ∷ firsts) n m (state base stack frames cells left) end) (CutsOff w n m (state base stack frames cells left))
  join-list port times es others firsts n base k m mid end cells left low le far first rest =
      follows_then (eval_all (listed es) w.calls env left) (λ vs j. and_then (outputs ports others w.calls env j) (λ sent i. Gives ((port, map (conv (kind_of_port ports port)) (interleaved times 0 vs)) ∷ sent) i))
      (SendsList rs outer w serves frames inner (kind_of_port ports port) env stack times n k s mid) (CutsOff w n k s) (Sends w (n ∷ firsts) n m s end) (CutsOff w n m s)
      first
      (λ vs j p. follows_then (outputs ports others w.calls env j) (λ sent i. Gives ((port, map (conv (kind_of_port ports port)) (interleaved times 0 vs)) ∷ sent) i)
      (Sends w firsts k m (state mid stack frames p.cells j) end) (CutsOff w k m (state mid stack frames p.cells j)) (Sends w (n ∷ firsts) n m s end) (CutsOff w n m s)
      (rest p.cells j p.keeps)
      (λ sent i q. both vs j p sent i q)
      (λ cause q. record { cells = q.cells; ends = ends_join p.reaches q.ends; keeps = keeps_join (keeps_wider n m (omega arith) le p.keeps) (keeps_wider n m low (omega arith) q.keeps) }))
      (λ cause q. record { cells = q.cells; ends = q.ends; keeps = keeps_wider n m (omega arith) le q.keeps })
    where
      s : State
      s = state base stack frames cells left

      both : (vs : Values) (j : ℕ) (p : SendsList rs outer w serves frames inner (kind_of_port ports port) env stack times n k s mid vs j) (sent : List (ℕ × List ℤ)) (i : ℕ) → Sends w firsts k m (state mid stack frames p.cells j) end sent i
          → Sends w (n ∷ firsts) n m s end ((port, map (conv (kind_of_port ports port)) (interleaved times 0 vs)) ∷ sent) i
      both vs j p sent i q = record {
        cells = q.cells;
        reaches = reaches_join p.reaches q.reaches;
        keeps = keeps_join (keeps_wider n m (omega arith) le p.keeps) (keeps_wider n m low (omega arith) q.keeps);
        stand = (stand, q.stand);
      }
        where
          stand : StandFrom n (map (conv (kind_of_port ports port)) (interleaved times 0 vs)) q.cells
          stand h z e =
              let within : n + h < k = p.within h z e in
              q.keeps.cell (n + h) (inl within) (one-apart rs outer w serves frames inner (kind_of_port ports port) env stack n (n + h) m (omega arith) (omega (arith, within, le)) far) ∙ p.stand h z e

  outputs-sent : {os : List Output} {firsts : List ℕ} {base n m : ℕ} {part : List Instr} (cells : List ℤ) (left : ℕ) → AreOutputs rs.functions (inner ++ outer) ports os firsts base n part m → StandsAt w.code.instrs base part → m ≤ length cells
      → AreLaid rs outer w.tokens w.low w.high n inner → AreApart n m w.low w.high → HoldsInside rs outer w.tokens w.low w.high inner cells env
      → Follows (outputs ports os w.calls env left) (Sends w firsts n m (state base stack frames cells left) (base + length part)) (CutsOff w n m (state base stack frames cells left))
  outputs-sent cells left (no_output base n) stands room laid far holds =
      let finish : base ≡ base + 0 = omega arith in
      record {
        cells = cells;
        reaches = subst (λ q. Reaches w.code w.tokens (state base stack frames cells left) (state q stack frames cells left)) finish here;
        keeps = keeps_all n n w.low w.high cells;
        stand = tt;
      }
  outputs-sent cells left (output_more o others firsts base n k m a b first rest) stands room laid far holds =
      let es : List Tree = first.parts in
      let more : k ≤ m = outputs-grow rest in
      let grows : n + length es ≤ k = stored-grows first.stored in
      let end : base + length a + length b ≡ base + length (a ++ b) = omega (arith, length-append a b) in
      let same : one-of o.port es ≡ o = ap (λ v. record { port = o.port; values = v; repeat = None }) (sym first.values) ∙ ap (λ r. record { port = o.port; values = o.values; repeat = r }) (sym first.once) in
      subst (λ p. Follows (outputs ports (p ∷ others) w.calls env left) (Sends w (n ∷ firsts) n m (state base stack frames cells left) (base + length (a ++ b))) (CutsOff w n m (state base stack frames cells left))) same
      (subst (λ q. Follows (outputs ports (record { port = o.port; values = listed es; repeat = None } ∷ others) w.calls env left) (Sends w (n ∷ firsts) n m (state base stack frames cells left) q) (CutsOff w n m (state base stack frames cells left))) end
      (join-outputs o.port es others firsts n base k m (base + length a) (base + length a + length b) cells left grows more far
      (values-stored rs outer w serves frames inner (kind_of_port ports o.port) env stack cells left first.stored (stands_left w.code.instrs base a b stands) (omega arith) (omega (arith, more, room)) laid (apart_first n k m w.low w.high more far) holds)
      (λ now j keeps. outputs-sent now j rest (stands_right w.code.instrs base a b stands) (let size = keeps.size in omega (arith, size, room))
      (laid_more rs outer w.tokens w.low w.high n k inner (omega (arith, grows)) laid) (apart_last n k m w.low w.high (omega (arith, grows)) far)
      (inside_still rs outer w.tokens w.low w.high n k inner cells now env laid keeps holds))))
  outputs-sent cells left (list_output_more o others firsts base n k m a b first rest) stands room laid far holds =
      let es : List Tree = first.parts in
      let more : k ≤ m = outputs-grow rest in
      let grows : n ≤ k = repeated-grows first.stored in
      let end : base + length a + length b ≡ base + length (a ++ b) = omega (arith, length-append a b) in
      let same : list-of o.port es first.times ≡ o = ap (λ v. record { port = o.port; values = v; repeat = Some first.times }) (sym first.are) ∙ ap (λ r. record { port = o.port; values = o.values; repeat = r }) (sym first.repeated) in
      subst (λ p. Follows (outputs ports (p ∷ others) w.calls env left) (Sends w (n ∷ firsts) n m (state base stack frames cells left) (base + length (a ++ b))) (CutsOff w n m (state base stack frames cells left))) same
      (subst (λ q. Follows (outputs ports (list-of o.port es first.times ∷ others) w.calls env left) (Sends w (n ∷ firsts) n m (state base stack frames cells left) q) (CutsOff w n m (state base stack frames cells left))) end
      (join-list o.port first.times es others firsts n base k m (base + length a) (base + length a + length b) cells left grows more far
      (repeated_sent rs outer w serves frames inner (kind_of_port ports o.port) env stack first.times cells left first.stored (stands_left w.code.instrs base a b stands) (omega (arith, more, room)) laid (apart_first n k m w.low w.high more far) holds)
      (λ now j keeps. outputs-sent now j rest (stands_right w.code.instrs base a b stands) (let size = keeps.size in omega (arith, size, room))
      (laid_more rs outer w.tokens w.low w.high n k inner grows laid) (apart_last n k m w.low w.high grows far)
      (inside_still rs outer w.tokens w.low w.high n k inner cells now env laid keeps holds))))

-- ---- both directions

ends-sent : (w : World) (firsts : List ℕ) (n m : ℕ) (s : State) (end : ℕ) (out : Out (List (ℕ × List ℤ))) (o : Outcome) (last : List ℤ) → Follows out (Sends w firsts n m s end) (CutsOff w n m s) → Ends w.code w.tokens s o last
    → EndsSent w firsts n m s end out o last
ends-sent w firsts n m s end (Gives sent left) o last p r = (p, ends_back o last p.reaches r)
ends-sent w firsts n m s end (Traps c) o last b r =
    let one = one-end w.code w.tokens _ b.cells r b.ends in
    (one.0, subst (λ cells. Keeps n m w.low w.high s.cells cells) (sym one.1) b.keeps)
ends-sent w firsts n m s end Lacks o last t r = tt
ends-sent w firsts n m s end Clashes o last t r = tt

pub sends-as : (rs : Routines) (names : List Name) (ports : List Port) (os : List Output) (firsts : List ℕ) (base n m : ℕ) (part : List Instr) → AreOutputs rs.functions names ports os firsts base n part m
    → SendsAs rs names ports os firsts base n part m
sends-as rs names ports os firsts base n m part coded = record {
  goes = λ w runs globals locals env stack frames cells left is stands ready. sent w runs globals locals env stack frames cells left is stands ready;
  only = λ w runs globals locals env stack frames cells left is stands ready o last r.
      ends-sent w firsts n m (state base stack frames cells left) (base + length part) (outputs ports os w.calls env left) o last (sent w runs globals locals env stack frames cells left is stands ready) r;
}
  where
    sent : (w : World) (runs : Runs) (globals locals : List Name) (env : Env) (stack : List ℤ) (frames : List ℕ) (cells : List ℤ) (left : ℕ) → names ≡ locals ++ globals → StandsAt w.code.instrs base part
        → IsReady rs w runs globals locals n m cells env
        → Follows (outputs ports os w.calls env left) (Sends w firsts n m (state base stack frames cells left) (base + length part)) (CutsOff w n m (state base stack frames cells left))
    sent w runs globals locals env stack frames cells left is stands ready =
        outputs-sent rs globals w ready.functions frames locals ports env stack cells left (subst (λ ns. AreOutputs rs.functions ns ports os firsts base n part m) is coded) stands ready.room ready.laid ready.apart
        (inside_from rs globals w.tokens w.low w.high locals env.locals env.globals cells ready.holds.0 ready.holds.1 ready.routine_room)
