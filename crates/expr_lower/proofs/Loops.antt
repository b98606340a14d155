-- The code of the elements for each number of a generator fills cells with them.
use Rattle.std.proofs.Common.{◌≡◌, ℕ, zero, suc, ◌+◌, ◌*◌, ◌<◌, ◌≤◌, ◌⊎◌, inl, inr, ⊎_elim, ℤ, pos, ◌+ℤ◌, List, ◌∷◌, ◌++◌, length, true, false, refl, sym, ap, ◌∙◌, subst, Some, arith, length-append}
use Rattle.std.specs.Prelude.{slice_get}
use Rattle.std.proofs.lemmas.Option.{slice_get_within}
use Rattle.rvc_base.specs.Storing.{IsSize, conv}
use Rattle.rvc_base.specs.Width.{IsNum, is_num}
use Rattle.cal_ast.specs.Tree as tree
use Rattle.cal_ast.specs.Tree.{Tree}
use Rattle.cal_model.specs.Value.{Shape, Single, Num, Values, Nil, Cons, count, joined, scalars_of_type, stored}
use Rattle.cal_model.specs.Outcome.{Out, Gives, and_then}
use Rattle.cal_model.specs.Env.{Env, variable, with_local}
use Rattle.cal_model.specs.Expression.{each_from, elements, eval, span}
use Rattle.code_ir.specs.declared.instr.Instr.{Instr}
use Rattle.code_ir.specs.Running.{State, Reaches}
use Rattle.lower_base.specs.declared.names.Seat.TheVariants.{Cell}
use Rattle.lower_base.specs.Callees.{Function}
use Rattle.lower_base.specs.Calling.{Serves}
use Rattle.lower_base.specs.Flat.{flat_all}
use Rattle.lower_base.specs.Following.{CutsOff, Follows}
use Rattle.lower_base.specs.Held.{AreApart, StandAt}
use Rattle.lower_base.specs.Names.{Name, local}
use Rattle.lower_base.specs.Placed.{StandsAt, World, state}
use Rattle.lower_base.proofs.Runs.{follows_more, follows_then, reaches_join, stands_left, stands_right}
use Rattle.expr_lower.specs.Filling.{next_number}
use Rattle.lower_base.specs.Generators.{AllCount, Counted, counted_by}
use Rattle.expr_lower.proofs.Counters.{AtFirst, width}
use Rattle.expr_lower.proofs.Elements.{AtElements, DoesElements}
use Rattle.lower_base.proofs.Generated.{IsGenerator, IsRange, bound_num, elements_are, generator, range}
use Rattle.expr_lower.proofs.Going.{IsSet, Went, cell_apart, set_number_held, set_went, went_join, went_keeps, went_more}
use Rattle.lower_base.proofs.MeantIs.{meant_sized}
use Rattle.expr_lower.proofs.Nexts.{GoesOn, at_last, compared, goes_on, next_high, next_num, not_last}
use Rattle.expr_lower.proofs.Shapes.{all_shaped, joined_count, joined_flat, joined_shaped, stand_two}
use Rattle.expr_lower.proofs.Steps.{cut_later}

module _ (fs : List Function) (globals : List Name) (w : World) (serves : Serves w globals fs) (frames : List ℕ) (c all filled : ℕ) (fits : c + all ≤ filled) (small : is_num (pos all) ≡ true) where
  module _ (gens item : Tree) (t : Shape) (turn_at out : ℕ) (x : Counted) (names : List Name) (k m inner : ℕ) (code : List Instr) (sized : IsSize x.kind) (high_num : IsNum x.high) (le : filled < k) (ge : k + 2 + width gens ≤ m) (count_all : AllCount gens)
      (body : DoesElements fs globals w serves frames c all filled fits small gens item t turn_at (local x.text x.kind (k + 1) ∷ names) (k + 2) code m inner)
      (at_body : StandsAt w.code.instrs turn_at code) (tail : StandsAt w.code.instrs (turn_at + length code) (next_number k x gens turn_at out)) where
    abbrev Set : Env → List ℤ → Type 0
    Set env cells = IsSet fs globals w serves frames c filled names env k m cells

    abbrev At : ℕ → ℕ → State → ℕ → Values → ℕ → Type 0
    At i many s end vs left = AtElements fs globals w serves frames c all filled fits small k m i many t s end vs left

    -- the elements for one number
    abbrev for_number : Env → ℤ → ℕ → Out Values
    for_number env i j = elements gens (λ inside j. eval item w.calls inside j) w.calls (with_local (variable x.text (Single x.kind) false (stored (Single x.kind) (Num i))) env) j

    -- .. and what follows them
    abbrev Behind : State → ℕ → ℤ → Values → ℕ → Type 0
    Behind s i z vs j = (p : AtElements fs globals w serves frames c all filled fits small (k + 2) m i inner t s (turn_at + length code) vs j) × (slice_get p.cells k ≡ Some z)

    one_number : (env : Env) (stack cells : List ℤ) (left i : ℕ) (z : ℤ) → IsNum z → Set env cells → slice_get cells filled ≡ Some (pos i) → i + inner * scalars_of_type t ≤ all → slice_get cells k ≡ Some z → slice_get cells (k + 1) ≡ Some (conv x.kind z) → AtFirst (k + 2) gens cells
        → Follows (for_number env z left) (Behind (state turn_at stack frames cells left) i z) (CutsOff w c m (state turn_at stack frames cells left))
    one_number env stack cells left i z num set counts fit number variable_is first =
        let s : State = state turn_at stack frames cells left in
        let up : c ≤ k = omega (arith, le, fits) in
        follows_more (for_number env z left) (AtElements fs globals w serves frames c all filled fits small (k + 2) m i inner t s (turn_at + length code)) (CutsOff w c m s) (Behind s i z) (CutsOff w c m s)
        (body _ stack cells left i at_body
        (set_number_held fs globals w serves frames c filled names env k m cells x.text x.kind z up le (omega (arith, ge)) sized num variable_is set) counts fit first)
        (λ vs j p. (p, p.went.cell k (inr (le, inl (omega arith))) (cell_apart c m k w.low w.high set.free up (omega (arith, ge))) ∙ number))
        (λ d q. q)

    -- the elements of one number and those of the next ones
    joined_at : (s u : State) (i many end : ℕ) (z : ℤ) (vs ws : Values) (j h : ℕ) → u.stack ≡ s.stack → u.frames ≡ s.frames → (b : Behind s i z vs j) → Reaches w.code w.tokens s u → Went fs globals w serves frames c filled k m i s.cells u.cells
        → ((d : ℕ) → d < filled → slice_get u.cells d ≡ slice_get (b.0).cells d) → AreApart c m w.low w.high → i + (inner + many) * scalars_of_type t ≤ all
        → At (i + inner * scalars_of_type t) many u end ws h → At i (inner + many) s end (joined vs ws) h
    joined_at s u i many end z vs ws j h stack frame (p, is) r went same free fit q =
        let each : ℕ = scalars_of_type t in
        let more : ℕ = i + inner * each in
        let long : length (flat_all vs) ≡ inner * each = all_shaped t vs p.shaped ∙ ap (λ n. n * each) p.as_many in
        let both : (inner + many) * each ≡ inner * each + many * each = omega arith in
        let first : StandAt (Cell (c + i)) w.tokens q.cells (flat_all vs) = λ y v e.
        let within = slice_get_within (flat_all vs) y v e in
        q.went.cell (c + i + y) (inl (omega (arith, within, long))) (cell_apart c m (c + i + y) w.low w.high free (omega arith) (omega (arith, within, long, fit, both, fits, le, ge)))
        ∙ same (c + i + y) (omega (arith, within, long, fit, both, fits)) ∙ p.stands y v e
        in
        let at : c + more ≡ c + i + length (flat_all vs) = omega (arith, long) in
        record {
          cells = q.cells;
          reaches = subst (λ y. Reaches w.code w.tokens s (state end y s.frames q.cells h)) stack (subst (λ y. Reaches w.code w.tokens s (state end u.stack y q.cells h)) frame (reaches_join r q.reaches));
          went = went_join fs globals w serves frames c filled k k m i more s.cells u.cells q.cells (omega arith) (omega arith) went q.went;
          counted = q.counted ∙ ap (λ y. Some (pos y)) (let e : more + many * each ≡ i + (inner + many) * each = omega (arith, both) in e);
          shaped = joined_shaped t vs ws p.shaped q.shaped;
          as_many = joined_count vs ws ∙ ap (λ n. n + count ws) p.as_many ∙ ap (λ n. inner + n) q.as_many;
          stands = subst (λ zs. StandAt (Cell (c + i)) w.tokens q.cells zs) (sym (joined_flat vs ws))
              (stand_two (c + i) w.tokens q.cells (flat_all vs) (flat_all ws) first (subst (λ d. StandAt (Cell d) w.tokens q.cells (flat_all ws)) at q.stands));
        }

    -- .. if there are no next ones
    last_at : (s u : State) (i : ℕ) (z : ℤ) (vs : Values) (j : ℕ) → (b : Behind s i z vs j) → Reaches w.code w.tokens (state (turn_at + length code) s.stack s.frames (b.0).cells j) (state out s.stack s.frames (b.0).cells j)
        → At i inner s out vs j
    last_at s u i z vs j (p, is) r = record {
      cells = p.cells;
      reaches = reaches_join p.reaches r;
      went = went_more fs globals w serves frames c filled k (k + 2) m i s.cells p.cells (omega arith) p.went;
      counted = p.counted;
      shaped = p.shaped;
      as_many = p.as_many;
      stands = p.stands;
    }

    at_many : (s : State) (i n many end : ℕ) (vs : Values) (j : ℕ) → n ≡ many → At i n s end vs j → At i many s end vs j
    at_many s i n many end vs j e h = subst (λ y. At i y s end vs j) e h

    joined_none : (vs : Values) → joined vs Nil ≡ vs
    joined_none Nil = refl
    joined_none (Cons v vs) = ap (λ ws. Cons v ws) (joined_none vs)

    each_number_from : (q : ℕ) (z : ℤ) (env : Env) (stack cells : List ℤ) (left i : ℕ) → x.high ≡ z +ℤ pos q → IsNum z → Set env cells → slice_get cells filled ≡ Some (pos i) → i + suc q * inner * scalars_of_type t ≤ all
        → slice_get cells k ≡ Some z → slice_get cells (k + 1) ≡ Some (conv x.kind z) → AtFirst (k + 2) gens cells
        → Follows (each_from (suc q) z (for_number env) left) (At i (suc q * inner) (state turn_at stack frames cells left) out) (CutsOff w c m (state turn_at stack frames cells left))
    each_number_from zero z env stack cells left i is num set counts fit number variable_is first =
        let s : State = state turn_at stack frames cells left in
        let one : suc zero * inner ≡ inner = omega arith in
        let alone : suc zero * inner * scalars_of_type t ≡ inner * scalars_of_type t = ap (λ n. n * scalars_of_type t) one in
        follows_then (for_number env z left) (λ vs j. Gives (joined vs Nil) j) (Behind s i z) (CutsOff w c m s) (At i (suc zero * inner) s out) (CutsOff w c m s)
        (one_number env stack cells left i z num set counts (omega (arith, fit, alone)) number variable_is first)
        (λ vs j b. subst (λ ws. At i (suc zero * inner) s out ws j) (sym (joined_none vs))
        (at_many s i inner (suc zero * inner) out vs j (sym one)
        (last_at s s i z vs j b (compared w frames k (turn_at + length code) turn_at out x gens tail z false stack (b.0).cells j (at_last z x.high is) b.1))))
        (λ d q. q)
    each_number_from (suc q) z env stack cells left i is num set counts fit number variable_is first =
        let s : State = state turn_at stack frames cells left in
        let each : ℕ = scalars_of_type t in
        let room = set.room in
        let sum : suc (suc q) * inner ≡ inner + suc q * inner = omega arith in
        let whole : suc (suc q) * inner * each ≡ (inner + suc q * inner) * each = ap (λ n. n * each) sum in
        let parts : (inner + suc q * inner) * each ≡ inner * each + suc q * inner * each = omega arith in
        let next : ℤ = z +ℤ pos 1 in
        let next_is_num : IsNum next = next_num z x.high q is num high_num in
        follows_then (for_number env z left) (λ vs j. and_then (each_from (suc q) next (for_number env) j) (λ ws h. Gives (joined vs ws) h)) (Behind s i z) (CutsOff w c m s) (At i (suc (suc q) * inner) s out) (CutsOff w c m s)
        (one_number env stack cells left i z num set counts (omega (arith, fit, whole, parts)) number variable_is first)
        (λ vs j b.
        let p = b.0 in
        let size = p.went.size in
        let on : GoesOn w frames k (turn_at + length code) turn_at out x gens tail z stack p.cells j =
        goes_on w frames k (turn_at + length code) turn_at out x gens tail z stack p.cells j count_all (omega (arith, size, room, ge)) (not_last z x.high q is) next_is_num b.1 in
        let u : State = state turn_at stack frames on.now j in
        let over : Went fs globals w serves frames c filled k m i p.cells on.now = record {
          size = on.same_size;
          cell = λ d free apart. on.others d (⊎_elim (λ (a : d < c + i). inl (omega (arith, a, le, fits, fit, whole, parts)))
              (λ (a : (filled < d) × ((d < k) ⊎ (m ≤ d))). ⊎_elim (λ (y : d < k). inl y) (λ (y : m ≤ d). inr (omega (arith, y, ge))) a.1) free);
        } in
        let went : Went fs globals w serves frames c filled k m i cells on.now =
        went_join fs globals w serves frames c filled k k m i i cells p.cells on.now (omega arith) (omega arith) (went_more fs globals w serves frames c filled k (k + 2) m i cells p.cells (omega arith) p.went) over in
        let reached : Reaches w.code w.tokens s u = reaches_join p.reaches on.reaches in
        let now_set : Set env on.now = set_went fs globals w serves frames c filled names env k m i cells on.now went set in
        follows_then (each_from (suc q) next (for_number env) j) (λ ws h. Gives (joined vs ws) h) (At (i + inner * each) (suc q * inner) u out) (CutsOff w c m u) (At i (suc (suc q) * inner) s out) (CutsOff w c m s)
        (each_number_from q next env stack on.now j (i + inner * each) (next_high z x.high q is) next_is_num now_set (on.others filled (inl le) ∙ p.counted) (omega (arith, fit, whole, parts)) on.number on.variable on.first)
        (λ ws h y. at_many s i (inner + suc q * inner) (suc (suc q) * inner) out (joined vs ws) h (sym sum)
        (joined_at s u i (suc q * inner) out z vs ws j h refl refl b reached went (λ d less. on.others d (inl (omega (arith, less, le)))) set.free (omega (arith, fit, whole)) y))
        (λ d y. cut_later w c m s u d reached (went_keeps fs globals w serves frames c filled k m i cells on.now le (omega (arith, ge)) went) y))
        (λ d y. y)

  pub does_each : (g gens item : Tree) (t : Shape) (turn_at out : ℕ) (x : Counted) (names : List Name) (k m many inner : ℕ) (code : List Instr) → counted_by g ≡ Some x → many ≡ span x.low x.high * inner → filled < k → k + 2 + width gens ≤ m → AllCount gens
      → out ≡ turn_at + length code + length (next_number k x gens turn_at 0)
      → DoesElements fs globals w serves frames c all filled fits small gens item t turn_at (local x.text x.kind (k + 1) ∷ names) (k + 2) code m inner
      → DoesElements fs globals w serves frames c all filled fits small (tree.cons g gens) item t turn_at names k (code ++ next_number k x gens turn_at out) m many
  does_each g gens item t turn_at out x names k m many inner code e many_is le ge count_all out_is body env stack cells left i stands set counts fit first =
      let last : List Instr = next_number k x gens turn_at out in
      let s : State = state turn_at stack frames cells left in
      let f : IsGenerator g x = generator g x e in
      let r : IsRange x.low x.high = range x.low x.high f.some in
      let total : suc r.behind * inner ≡ many = ap (λ n. n * inner) (sym r.is) ∙ sym many_is in
      let end : out ≡ turn_at + length (code ++ last) = omega (arith, out_is, length-append code last) in
      let here = first.0 x e in
      let each : ℤ → ℕ → Out Values = λ z j. elements gens (λ inside j. eval item w.calls inside j) w.calls (with_local (variable x.text (Single x.kind) false (stored (Single x.kind) (Num z))) env) j in
      subst (λ (o : Out Values). Follows o (AtElements fs globals w serves frames c all filled fits small k m i many t s (turn_at + length (code ++ last))) (CutsOff w c m s)) (sym (elements_are g gens x (λ inside j. eval item w.calls inside j) w.calls env left e))
      (subst (λ n. Follows (each_from n x.low each left) (AtElements fs globals w serves frames c all filled fits small k m i many t s (turn_at + length (code ++ last))) (CutsOff w c m s)) (sym r.is)
      (subst (λ n. Follows (each_from (suc r.behind) x.low each left) (AtElements fs globals w serves frames c all filled fits small k m i n t s (turn_at + length (code ++ last))) (CutsOff w c m s)) total
      (subst (λ p. Follows (each_from (suc r.behind) x.low each left) (AtElements fs globals w serves frames c all filled fits small k m i (suc r.behind * inner) t s p) (CutsOff w c m s)) end
      (each_number_from gens item t turn_at out x names k m inner code (meant_sized f.shape x.kind f.kind) (bound_num f.to x.high f.high) le ge count_all body (stands_left w.code.instrs turn_at code last stands) (stands_right w.code.instrs turn_at code last stands)
      r.behind x.low env stack cells left i r.last (bound_num f.from x.low f.low) set counts (subst (λ n. i + n * scalars_of_type t ≤ all) (sym total) fit) here.0 here.1 first.1))))
