-- Code of outputs that is added to a draft.
use Rattle.std.proofs.Common.{◌≡◌, ℕ, zero, suc, ◌+◌, ◌*◌, ◌<◌, ◌≤◌, ◌⊎◌, inl, inr, ⊎_elim, List, [], ◌∷◌, ◌++◌, length, map, take, drop, refl, sym, ap, subst, ◌∙◌, Option, None, Some, arith, append_assoc, append-nil, length-append}
use Rattle.std.specs.Prelude.{get_or}
use Rattle.std.proofs.lemmas.List.{length-map, map-append, take_more, take-append-drop}
use Rattle.rvc_base.specs.declared.scalar.Scalar.{Scalar}
use Rattle.cal_ast.specs.Tree.{Tree, listed}
use Rattle.cal_ast.specs.View.{expr_tree}
use Rattle.cal_model.specs.declared.bound.BoundOutput.{BoundOutput}
use Rattle.cal_model.specs.Value.{Shape, scalars_of_type}
use Rattle.cal_model.specs.Actor.{Output, Port}
use Rattle.cal_model.specs.Selection.{kind_of_port}
use Rattle.cal_model.specs.Sound.{Each, max_rate}
use Rattle.cal_model.specs.View.{output_view}
use Rattle.code_ir.specs.declared.instr.Instr.{Instr}
use Rattle.code_ir.specs.declared.instr.Instr.TheVariants as op
use Rattle.lower_base.specs.declared.draft.Draft.{Draft}
use Rattle.lower_base.specs.declared.fault.LowerFault.{LowerFault}
use Rattle.lower_base.specs.declared.fault.LowerFault.TheVariants.{Memory, NotLowered, TooLong, TooManyCells}
use Rattle.lower_base.specs.Callees.{Function}
use Rattle.lower_base.specs.Coding.{IsCode}
use Rattle.lower_base.specs.Growing.{IsFault, left_out_in, ◌or_else◌}
use Rattle.lower_base.specs.Lowered.{Adds, IsPut}
use Rattle.lower_base.specs.Names.{Name}
use Rattle.lower_base.proofs.Adding.{same_adds, then_put}
use Rattle.lower_base.proofs.PartValues.{sized_is}
use Rattle.lower_base.specs.Parted.{sized}
use Rattle.expr_lower.specs.Filling.{AreFills, IsFill, no_item}
use Rattle.expr_lower.specs.LeftOut.{left_out_fill, left_out_fills}
use Rattle.action_lower.specs.declared.turns.Area.{Area}
use Rattle.expr_lower.specs.declared.starts.Row.{Row}
use Rattle.lower_stmt.specs.StartWords.{HasTakenList}
use Rattle.action_lower.specs.SendWords.{AddsOutput, AddsOutputs, AddsSent, HasArea, HasTaken, IsSendFault, left_out_output, left_out_outputs, left_out_repeated, left_out_values}
use Rattle.action_lower.specs.Sending.{AreOutputs, AreStored, IsListOutput, IsOutputCode, IsRepeated, IsSentList, IsStored, in_turns, items_of_any, list_output_more, no_output, no_value, one_list, output_more, turn_stores, value_more}
use Rattle.action_lower.proofs.Storing.{sends-as}

first-taken : {X Y : Type 0} (f : X → Y) (xs : List X) (x : X) (i : ℕ) → i < length xs → x ≡ get_or xs i x → map f (take (i + 1) xs) ≡ map f (take i xs) ++ f x ∷ []
first-taken f xs x i small is = ap (map f) (take_more xs i x small ∙ ap (λ y. take i xs ++ y ∷ []) (sym is)) ∙ map-append f (take i xs) (x ∷ [])

-- ---- what is left out of a list

module _ {X : Type 0} (f : X → Option ℕ) (all : List X → Option ℕ) (nil-is : all [] ≡ None) (more-is : (x : X) (xs : List X) → all (x ∷ xs) ≡ f x or_else all xs) where
  both-none : (a b : Option ℕ) → a or_else b ≡ None → (a ≡ None) × (b ≡ None)
  both-none None b e = (refl, e)
  both-none (Some x) b e = cc

  none-after : (o : Option ℕ) → o or_else None ≡ o
  none-after None = refl
  none-after (Some x) = refl

  left-more : (xs : List X) (x : X) → all xs ≡ None → all (xs ++ x ∷ []) ≡ f x
  left-more [] x e = more-is x [] ∙ ap (λ o. f x or_else o) nil-is ∙ none-after (f x)
  left-more (y ∷ ys) x e =
      let parts = both-none (f y) (all ys) (sym (more-is y ys) ∙ e) in
      more-is y (ys ++ x ∷ []) ∙ ap (λ o. o or_else all (ys ++ x ∷ [])) parts.0 ∙ left-more ys x parts.1

  left-first : (xs ys : List X) (at : ℕ) → all xs ≡ Some at → all (xs ++ ys) ≡ Some at
  left-first [] ys at e = let no : None ≡ Some at = sym nil-is ∙ e in cc
  left-first (x ∷ xs) ys at e = more-is x (xs ++ ys) ∙ go (f x) (left-first xs ys at) (sym (more-is x xs) ∙ e)
    where
      go : (o : Option ℕ) → (all xs ≡ Some at → all (xs ++ ys) ≡ Some at) → o or_else all xs ≡ Some at → o or_else all (xs ++ ys) ≡ Some at
      go None later e = later e
      go (Some z) later e = e

  left-at : (xs : List X) (x : X) (i at : ℕ) → i < length xs → x ≡ get_or xs i x → all (take i xs) ≡ None → f x ≡ Some at → all xs ≡ Some at
  left-at xs x i at small is whole h =
      let split : take (i + 1) xs ≡ take i xs ++ x ∷ [] = take_more xs i x small ∙ ap (λ y. take i xs ++ y ∷ []) (sym is) in
      ap all (sym (take-append-drop (i + 1) xs)) ∙ left-first (take (i + 1) xs) (drop (i + 1) xs) at (ap all split ∙ left-more (take i xs) x whole ∙ h)

-- ---- values

pub stored : (fs : List Function) (names : List Name) (t : Scalar) (e : Tree) (c : ℕ) (old mid new : Draft) → Adds (IsCode fs names e) old mid → IsPut (op.Store c (Some t) ∷ []) mid new → Adds (IsStored fs names t e c) old new
stored fs names t e c old mid new a p =
    then_put (IsCode fs names e) (IsStored fs names t e c) (op.Store c (Some t) ∷ []) old mid new (λ base n m code coded. record { body = code; is = refl; coded = coded }) a p

value-last : (fs : List Function) (names : List Name) (t : Scalar) (e : Tree) (m : ℕ) (b : List Instr) {es : List Tree} {c base n k : ℕ} {a : List Instr} → AreStored fs names t es c base n a k → IsStored fs names t e (c + length es) (base + length a) k b m
    → AreStored fs names t (es ++ e ∷ []) c base n (a ++ b) m
value-last fs names t e m b (no_value c base n) last =
    let place : base + 0 ≡ base = omega arith in
    let cell : c + 0 ≡ c = omega arith in
    subst (λ code. AreStored fs names t (e ∷ []) c base n code m) (append-nil b)
    (value_more e [] c base n m m b [] (subst (λ p. IsStored fs names t e c p n b m) place (subst (λ d. IsStored fs names t e d (base + 0) n b m) cell last)) (no_value (c + 1) (base + length b) m))
value-last fs names t e m b (value_more h es c base n j k a d first more) last =
    let place : base + length (a ++ d) ≡ base + length a + length d = omega (arith, length-append a d) in
    let cell : c + suc (length es) ≡ c + 1 + length es = omega arith in
    let rest : AreStored fs names t (es ++ e ∷ []) (c + 1) (base + length a) j (d ++ b) m =
    value-last fs names t e m b more (subst (λ q. IsStored fs names t e q (base + length a + length d) k b m) cell (subst (λ p. IsStored fs names t e (c + suc (length es)) p k b m) place last)) in
    subst (λ code. AreStored fs names t (h ∷ (es ++ e ∷ [])) c base n code m) (sym (append_assoc a d b)) (value_more h (es ++ e ∷ []) c base n j m a (d ++ b) first rest)

-- these values are added
pub record AreAdded (fs : List Function) (names : List Name) (t : Scalar) (es : List Tree) (c : ℕ) (old new : Draft) : Type 0 where
  pub added : Adds (AreStored fs names t es c) old new
  pub whole : left_out_values fs names es ≡ None

pub none-added : (fs : List Function) (names : List Name) (t : Scalar) (c : ℕ) (old : Draft) → AreAdded fs names t [] c old old
none-added fs names t c old = record {
  added = record { code = []; is = sym (append-nil old.instrs.items); routines = refl; has = no_value c (length old.instrs.items) old.cells };
  whole = refl;
}

whole-more : (fs : List Function) (names : List Name) (es : List Tree) (e : Tree) → left_out_values fs names es ≡ None → left_out_in fs names e ≡ None → left_out_values fs names (es ++ e ∷ []) ≡ None
whole-more fs names es e before now = left-more (left_out_in fs names) (left_out_values fs names) refl (λ x xs. refl) es e before ∙ now

pub more-added : {X : Type 0} (f : X → Tree) (fs : List Function) (names : List Name) (t : Scalar) (xs : List X) (x : X) (i c at : ℕ) (old mid new : Draft) → i < length xs → x ≡ get_or xs i x → at ≡ c + i
    → AreAdded fs names t (map f (take i xs)) c old mid → Adds (IsStored fs names t (f x) at) mid new → left_out_in fs names (f x) ≡ None → AreAdded fs names t (map f (take (i + 1) xs)) c old new
more-added f fs names t xs x i c at old mid new small is cell before now whole =
    let a = before.added in
    let place : length mid.instrs.items ≡ length old.instrs.items + length a.code = ap length a.is ∙ length-append old.instrs.items a.code in
    let count : length (map f (take i xs)) ≡ i = length-map (take i xs) f ∙ length-first xs i small in
    subst (λ ts. AreAdded fs names t ts c old new) (sym (first-taken f xs x i small is)) (record {
      added = record {
        code = a.code ++ now.code;
        is = now.is ∙ ap (λ is. is ++ now.code) a.is ∙ append_assoc old.instrs.items a.code now.code;
        routines = now.routines ∙ a.routines;
        has = value-last fs names t (f x) new.cells now.code a.has
            (subst (λ d. IsStored fs names t (f x) d (length old.instrs.items + length a.code) mid.cells now.code new.cells) (cell ∙ ap (λ n. c + n) (sym count))
            (subst (λ p. IsStored fs names t (f x) at p mid.cells now.code new.cells) place now.has));
      };
      whole = whole-more fs names (map f (take i xs)) (f x) before.whole whole;
    })
  where
    length-first : {X : Type 0} (xs : List X) (i : ℕ) → i < length xs → length (take i xs) ≡ i
    length-first xs ℕ.zero low = refl
    length-first [] (ℕ.suc i) low = absurd (omega arith)
    length-first (x ∷ xs) (ℕ.suc i) low = ap suc (length-first xs i (omega arith))

left-taken : {X : Type 0} (f : X → Tree) (fs : List Function) (names : List Name) (xs : List X) (x : X) (i at : ℕ) → i < length xs → x ≡ get_or xs i x → left_out_values fs names (map f (take i xs)) ≡ None → left_out_in fs names (f x) ≡ Some at
    → left_out_values fs names (map f xs) ≡ Some at
left-taken f fs names xs x i at small is whole h =
    left-at (λ y. left_out_in fs names (f y)) (λ ys. left_out_values fs names (map f ys)) refl (λ y ys. refl) xs x i at small is whole h

pub fault-among : {X : Type 0} (f : X → Tree) (fs : List Function) (names : List Name) (xs : List X) (x : X) (i : ℕ) (draft : Draft) (fault : LowerFault) → i < length xs → x ≡ get_or xs i x
    → left_out_values fs names (map f (take i xs)) ≡ None → IsFault (left_out_in fs names (f x)) draft fault → IsFault (left_out_values fs names (map f xs)) draft fault
fault-among f fs names xs x i draft Memory small is whole h = tt
fault-among f fs names xs x i draft TooLong small is whole h = h
fault-among f fs names xs x i draft TooManyCells small is whole h = h
fault-among f fs names xs x i draft (NotLowered at) small is whole h = left-taken f fs names xs x i at small is whole h

-- ---- an output

-- a fault of a value, as one of the output
pub value-fault : (fs : List Function) (names : List Name) (o : BoundOutput) (draft : Draft) (fault : LowerFault) → o.repeat ≡ None → IsFault (left_out_values fs names (map expr_tree o.values.items)) draft fault → IsSendFault (left_out_output fs names o) draft fault
value-fault fs names o draft Memory once h = tt
value-fault fs names o draft TooLong once h = h
value-fault fs names o draft TooManyCells once h = omega (arith, h)
value-fault fs names o draft (NotLowered at) once h = single-output fs names o once ∙ h
  where
    single-output : (fs : List Function) (names : List Name) (o : BoundOutput) → o.repeat ≡ None → left_out_output fs names o ≡ left_out_values fs names (map expr_tree o.values.items)
    single-output fs names o e = ap (λ (r : Option ℕ). elim r [ None ↦ left_out_values fs names (map expr_tree o.values.items) | Some times ↦ left_out_repeated fs names times o.values.items ]) e

pub output-added : (fs : List Function) (names : List Name) (ports : List Port) (o : BoundOutput) (es : List Tree) (kind : Scalar) (count first : ℕ) (old mid new : Draft) → o.repeat ≡ None → es ≡ map expr_tree o.values.items → count ≡ length es
    → kind ≡ kind_of_port ports o.port → HasTaken count first old mid → Adds (AreStored fs names kind es first) mid new → AddsOutput fs names ports (output_view o) first old new
output-added fs names ports o es kind count first old mid new once values many of_port taken a =
    let cells : mid.cells ≡ old.cells + length es = taken.cells ∙ ap (λ n. old.cells + n) many in (
      taken.is,
      inl (record {
        code = a.code;
        is = a.is ∙ ap (λ is. is ++ a.code) taken.instrs;
        routines = a.routines ∙ taken.routines;
        has = record {
          parts = es;
          values = ap listed (sym values);
          once = once;
          stored = subst (λ k. AreStored fs names k es old.cells (length old.instrs.items) (old.cells + length es) a.code new.cells) of_port
              (subst (λ d. AreStored fs names kind es d (length old.instrs.items) (old.cells + length es) a.code new.cells) taken.is
              (subst (λ n. AreStored fs names kind es first (length old.instrs.items) n a.code new.cells) cells
              (subst (λ is. AreStored fs names kind es first (length is) mid.cells a.code new.cells) taken.instrs a.has)));
        };
      }),
    )

pub repeated-added : (fs : List Function) (names : List Name) (ports : List Port) (o : BoundOutput) (times : ℕ) (kind : Scalar) (first : ℕ) (old new : Draft) → o.repeat ≡ Some times → kind ≡ kind_of_port ports o.port → first ≡ old.cells
    → Adds (IsRepeated fs names kind times (map expr_tree o.values.items)) old new → AddsOutput fs names ports (output_view o) first old new
repeated-added fs names ports o times kind first old new repeated of_port is a = (
  is,
  inr (record {
    code = a.code;
    is = a.is;
    routines = a.routines;
    has = record {
      parts = map expr_tree o.values.items;
      are = refl;
      times = times;
      repeated = repeated;
      stored = subst (λ k. IsRepeated fs names k times (map expr_tree o.values.items) (length old.instrs.items) old.cells a.code new.cells) of_port a.has;
    };
  }),
)

pub one-repeated : (fs : List Function) (names : List Name) (e : Tree) (times : ℕ) (shape : Shape) (kind : Scalar) (old new : Draft) → shape ≡ items_of_any times → Adds (IsSentList fs names e shape kind) old new → Adds (IsRepeated fs names kind times (e ∷ [])) old new
one-repeated fs names e times shape kind old new any a =
    same_adds (IsSentList fs names e (items_of_any times) kind) (IsRepeated fs names kind times (e ∷ [])) old new (λ base n m code h. one_list e base n m code h) (subst (λ t. Adds (IsSentList fs names e t kind) old new) any a)

pub turns-added : (fs : List Function) (names : List Name) (es : List Tree) (times : ℕ) (shape : Shape) (kind : Scalar) (area : Area) (old d1 d2 new : Draft) → shape ≡ items_of_any times → HasArea (length es) shape old d1 area
    → Adds (AreFills fs names (listed es) shape area.rows) d1 d2 → IsPut (turn_stores kind area.each area.lists times area.tokens area.rows) d2 new → Adds (IsRepeated fs names kind times es) old new
turns-added fs names es times shape kind area old d1 d2 new any taken f p =
    let lists : ℕ = length es in
    let n : ℕ = old.cells in
    let base : ℕ = length old.instrs.items in
    let each : area.each ≡ times =
    sym (sized_is (items_of_any times) area.each (subst (λ t. sized t ≡ Some area.each) any taken.is.each)) ∙ (let one : times * 1 ≡ times = omega arith in one) in
    let rows : area.rows ≡ n + lists * times = taken.is.rows ∙ ap (λ k. n + lists * k) each in
    let end : d1.cells ≡ area.rows + lists * times = taken.cells ∙ taken.is.end ∙ ap (λ k. n + lists * k + lists * k) each ∙ ap (λ k. k + lists * times) (sym rows) in
    let last : List Instr = turn_stores kind times lists times n area.rows in
    let same : turn_stores kind area.each area.lists times area.tokens area.rows ≡ last =
    ap (λ k. turn_stores kind k area.lists times area.tokens area.rows) each ∙ ap (λ k. turn_stores kind times k times area.tokens area.rows) taken.is.lists ∙ ap (λ k. turn_stores kind times lists times k area.rows) taken.is.tokens in
    let a : Adds (AreFills fs names (listed es) (items_of_any times) area.rows) d1 d2 = subst (λ t. Adds (AreFills fs names (listed es) t area.rows) d1 d2) any f in
    let all : new.instrs.items ≡ (old.instrs.items ++ a.code) ++ last = p.is ∙ ap (λ is. d2.instrs.items ++ is) same ∙ ap (λ is. is ++ last) (a.is ∙ ap (λ is. is ++ a.code) taken.instrs) in
    record {
      code = a.code ++ last;
      is = all ∙ append_assoc old.instrs.items a.code last;
      routines = p.routines ∙ a.routines ∙ taken.routines;
      has = in_turns es base n new.cells area.rows a.code rows
          (subst (λ m. AreFills fs names (listed es) (items_of_any times) area.rows base (area.rows + lists * times) a.code m) (sym p.cells)
          (subst (λ k. AreFills fs names (listed es) (items_of_any times) area.rows base k a.code d2.cells) end
          (subst (λ is. AreFills fs names (listed es) (items_of_any times) area.rows (length is) d1.cells a.code d2.cells) taken.instrs a.has)));
    }

-- no lists send nothing
no-turns : (kind : Scalar) (each times to from : ℕ) → turn_stores kind each 0 times to from ≡ []
no-turns kind each zero to from = refl
no-turns kind each (suc times) to from = no-turns kind each times (to + 0) (from + 1)

pub none-repeated : (fs : List Function) (names : List Name) (times : ℕ) (kind : Scalar) (draft : Draft) → Adds (IsRepeated fs names kind times []) draft draft
none-repeated fs names times kind draft =
    let rows : draft.cells ≡ draft.cells + 0 * times = omega arith in
    let base : ℕ = length draft.instrs.items in
    let code : [] ++ turn_stores kind times 0 times draft.cells draft.cells ≡ [] = no-turns kind times times draft.cells draft.cells in
    let filled : AreFills fs names (listed []) (items_of_any times) draft.cells base (draft.cells + 0 * times) [] (draft.cells + 0 * times) = no_item names (items_of_any times) draft.cells base (draft.cells + 0 * times) in
    record {
      code = [];
      is = sym (append-nil draft.instrs.items);
      routines = refl;
      has = subst (λ cs. IsRepeated fs names kind times [] base draft.cells cs draft.cells) code
          (in_turns [] base draft.cells draft.cells draft.cells [] rows
          (subst (λ m. AreFills fs names (listed []) (items_of_any times) draft.cells base (draft.cells + 0 * times) [] m) (sym rows) filled));
    }

-- an empty list
pub none-is : {X : Type 0} (xs : List X) → length xs < 1 → xs ≡ []
none-is [] low = refl
none-is (x ∷ xs) low = absurd (omega arith)

-- a list of one
pub one-is : {X : Type 0} (xs : List X) (x : X) → 1 ≤ length xs → length xs < 2 → x ≡ get_or xs 0 x → xs ≡ x ∷ []
one-is [] x low high is = absurd (omega arith)
one-is (y ∷ []) x low high is = ap (λ z. z ∷ []) (sym is)
one-is (y ∷ z ∷ ys) x low high is = absurd (omega arith)

-- what is left out of one list that is repeated
pub one-left : (fs : List Function) (names : List Name) (t : Shape) (e : Tree) → left_out_fills fs names t (listed (e ∷ [])) ≡ left_out_fill fs names t e
one-left fs names t e = go (left_out_fill fs names t e)
  where
    go : (o : Option ℕ) → o or_else None ≡ o
    go None = refl
    go (Some x) = refl

-- the code of a list in cells that were taken
pub sent-list : (fs : List Function) (names : List Name) (e : Tree) (t : Shape) (kind : Scalar) (row : Row) (old d1 d2 new : Draft) → HasTakenList t old d1 row → Adds (IsFill fs names e t row.first) d1 d2 → IsPut (op.Copy row.first row.first row.size (Some kind) ∷ []) d2 new
    → Adds (IsSentList fs names e t kind) old new
sent-list fs names e t kind row old d1 d2 new taken a p =
    let n : ℕ = old.cells in
    let size : scalars_of_type t ≡ row.size = sized_is t row.size taken.size in
    let last : List Instr = op.Copy n n (scalars_of_type t) (Some kind) ∷ [] in
    let same : op.Copy row.first row.first row.size (Some kind) ∷ [] ≡ last = ap (λ c. op.Copy c c row.size (Some kind) ∷ []) taken.is ∙ ap (λ k. op.Copy n n k (Some kind) ∷ []) (sym size) in
    let all : new.instrs.items ≡ (old.instrs.items ++ a.code) ++ last = p.is ∙ ap (λ is. d2.instrs.items ++ is) same ∙ ap (λ is. is ++ last) (a.is ∙ ap (λ is. is ++ a.code) taken.instrs) in
    record {
      code = a.code ++ last;
      is = all ∙ append_assoc old.instrs.items a.code last;
      routines = p.routines ∙ a.routines ∙ taken.routines;
      has = record {
        body = a.code;
        is = refl;
        filled = subst (λ m. IsFill fs names e t n (length old.instrs.items) (n + scalars_of_type t) a.code m) (sym p.cells)
            (subst (λ k. IsFill fs names e t n (length old.instrs.items) (n + k) a.code d2.cells) (sym size)
            (subst (λ c. IsFill fs names e t c (length old.instrs.items) (old.cells + row.size) a.code d2.cells) taken.is
            (subst (λ c. IsFill fs names e t row.first (length old.instrs.items) c a.code d2.cells) taken.cells
            (subst (λ is. IsFill fs names e t row.first (length is) d1.cells a.code d2.cells) taken.instrs a.has))));
      };
    }

-- what is left out of a repeated output
pub repeated-output : (fs : List Function) (names : List Name) (o : BoundOutput) (times : ℕ) → o.repeat ≡ Some times → left_out_output fs names o ≡ left_out_repeated fs names times o.values.items
repeated-output fs names o times e = ap (λ (r : Option ℕ). elim r [ None ↦ left_out_values fs names (map expr_tree o.values.items) | Some times ↦ left_out_repeated fs names times o.values.items ]) e

-- ---- outputs

-- code of an output, of single values or of a list
abbrev IsEither : List Function → List Name → List Port → Output → ℕ → ℕ → List Instr → ℕ → Type 0
IsEither fs names ports o base n code m = IsOutputCode fs names ports o base n code m ⊎ IsListOutput fs names ports o base n code m

output-first : (fs : List Function) (names : List Name) (ports : List Port) (o : Output) (os : List Output) (firsts : List ℕ) (base n k m : ℕ) (a b : List Instr) → IsEither fs names ports o base n a k → AreOutputs fs names ports os firsts (base + length a) k b m
    → AreOutputs fs names ports (o ∷ os) (n ∷ firsts) base n (a ++ b) m
output-first fs names ports o os firsts base n k m a b one rest =
    ⊎_elim (λ (x : IsOutputCode fs names ports o base n a k). output_more o os firsts base n k m a b x rest)
    (λ (y : IsListOutput fs names ports o base n a k). list_output_more o os firsts base n k m a b y rest) one

output-last : (fs : List Function) (names : List Name) (ports : List Port) (o : Output) (m : ℕ) (b : List Instr) {os : List Output} {firsts : List ℕ} {base n k : ℕ} {a : List Instr} → AreOutputs fs names ports os firsts base n a k
    → IsEither fs names ports o (base + length a) k b m → AreOutputs fs names ports (os ++ o ∷ []) (firsts ++ k ∷ []) base n (a ++ b) m
output-last fs names ports o m b (no_output base n) last =
    let place : base + 0 ≡ base = omega arith in
    subst (λ code. AreOutputs fs names ports (o ∷ []) (n ∷ []) base n code m) (append-nil b)
    (output-first fs names ports o [] [] base n m m b [] (subst (λ p. IsEither fs names ports o p n b m) place last) (no_output (base + length b) m))
output-last fs names ports o m b (output_more h os firsts base n j k a d first more) last =
    let place : base + length (a ++ d) ≡ base + length a + length d = omega (arith, length-append a d) in
    let rest : AreOutputs fs names ports (os ++ o ∷ []) (firsts ++ k ∷ []) (base + length a) j (d ++ b) m =
    output-last fs names ports o m b more (subst (λ p. IsEither fs names ports o p k b m) place last) in
    subst (λ code. AreOutputs fs names ports (h ∷ (os ++ o ∷ [])) (n ∷ (firsts ++ k ∷ [])) base n code m) (sym (append_assoc a d b)) (output_more h (os ++ o ∷ []) (firsts ++ k ∷ []) base n j m a (d ++ b) first rest)
output-last fs names ports o m b (list_output_more h os firsts base n j k a d first more) last =
    let place : base + length (a ++ d) ≡ base + length a + length d = omega (arith, length-append a d) in
    let rest : AreOutputs fs names ports (os ++ o ∷ []) (firsts ++ k ∷ []) (base + length a) j (d ++ b) m =
    output-last fs names ports o m b more (subst (λ p. IsEither fs names ports o p k b m) place last) in
    subst (λ code. AreOutputs fs names ports (h ∷ (os ++ o ∷ [])) (n ∷ (firsts ++ k ∷ [])) base n code m) (sym (append_assoc a d b)) (list_output_more h (os ++ o ∷ []) (firsts ++ k ∷ []) base n j m a (d ++ b) first rest)

either-added : (fs : List Function) (names : List Name) (ports : List Port) (o : Output) (old new : Draft) → Adds (IsOutputCode fs names ports o) old new ⊎ Adds (IsListOutput fs names ports o) old new → Adds (IsEither fs names ports o) old new
either-added fs names ports o old new one =
    ⊎_elim (λ (a : Adds (IsOutputCode fs names ports o) old new). same_adds (IsOutputCode fs names ports o) (IsEither fs names ports o) old new (λ base n m code h. inl h) a)
    (λ (a : Adds (IsListOutput fs names ports o) old new). same_adds (IsListOutput fs names ports o) (IsEither fs names ports o) old new (λ base n m code h. inr h) a) one

-- these outputs are added, with these first cells
pub record AreSentSoFar (fs : List Function) (names : List Name) (ports : List Port) (os : List BoundOutput) (firsts : List ℕ) (old new : Draft) : Type 0 where
  pub added : Adds (AreOutputs fs names ports (map output_view os) firsts) old new
  pub whole : left_out_outputs fs names os ≡ None

pub none-sent : (fs : List Function) (names : List Name) (ports : List Port) (old : Draft) → AreSentSoFar fs names ports [] [] old old
none-sent fs names ports old = record {
  added = record { code = []; is = sym (append-nil old.instrs.items); routines = refl; has = no_output (length old.instrs.items) old.cells };
  whole = refl;
}

pub more-sent : (fs : List Function) (names : List Name) (ports : List Port) (xs : List BoundOutput) (x : BoundOutput) (i : ℕ) (firsts news : List ℕ) (first : ℕ) (old mid new : Draft) → i < length xs → x ≡ get_or xs i x
    → AreSentSoFar fs names ports (take i xs) firsts old mid → AddsOutput fs names ports (output_view x) first mid new → left_out_output fs names x ≡ None → news ≡ firsts ++ first ∷ [] → AreSentSoFar fs names ports (take (i + 1) xs) news old new
more-sent fs names ports xs x i firsts news first old mid new small is before now whole is_news =
    let a = before.added in
    let b : Adds (IsEither fs names ports (output_view x)) mid new = either-added fs names ports (output_view x) mid new now.1 in
    let place : length mid.instrs.items ≡ length old.instrs.items + length a.code = ap length a.is ∙ length-append old.instrs.items a.code in
    let split : take (i + 1) xs ≡ take i xs ++ x ∷ [] = take_more xs i x small ∙ ap (λ y. take i xs ++ y ∷ []) (sym is) in
    record {
      added = record {
        code = a.code ++ b.code;
        is = b.is ∙ ap (λ is. is ++ b.code) a.is ∙ append_assoc old.instrs.items a.code b.code;
        routines = b.routines ∙ a.routines;
        has = subst (λ os. AreOutputs fs names ports os news (length old.instrs.items) old.cells (a.code ++ b.code) new.cells) (sym (first-taken output_view xs x i small is))
            (subst (λ gs. AreOutputs fs names ports (map output_view (take i xs) ++ output_view x ∷ []) gs (length old.instrs.items) old.cells (a.code ++ b.code) new.cells) (ap (λ d. firsts ++ d ∷ []) (sym now.0) ∙ sym is_news)
            (output-last fs names ports (output_view x) new.cells b.code a.has (subst (λ p. IsEither fs names ports (output_view x) p mid.cells b.code new.cells) place b.has)));
      };
      whole = ap (left_out_outputs fs names) split ∙ left-more (left_out_output fs names) (left_out_outputs fs names) refl (λ y ys. refl) (take i xs) x before.whole ∙ whole;
    }

pub output-fault : (fs : List Function) (names : List Name) (xs : List BoundOutput) (x : BoundOutput) (i : ℕ) (draft : Draft) (fault : LowerFault) → i < length xs → x ≡ get_or xs i x
    → left_out_outputs fs names (take i xs) ≡ None → IsSendFault (left_out_output fs names x) draft fault → IsSendFault (left_out_outputs fs names xs) draft fault
output-fault fs names xs x i draft Memory small is whole h = tt
output-fault fs names xs x i draft TooLong small is whole h = h
output-fault fs names xs x i draft TooManyCells small is whole h = h
output-fault fs names xs x i draft (NotLowered at) small is whole h = left-at (left_out_output fs names) (left_out_outputs fs names) refl (λ y ys. refl) xs x i at small is whole h

pub few-at : (xs : List BoundOutput) (x : BoundOutput) (i : ℕ) → Each (λ o. length o.values.items ≤ max_rate) xs → i < length xs → x ≡ get_or xs i x → length x.values.items ≤ max_rate
few-at [] x i h low is = absurd (omega arith)
few-at (y ∷ ys) x ℕ.zero h low is = subst (λ o. length o.values.items ≤ max_rate) (sym is) h.0
few-at (y ∷ ys) x (ℕ.suc i) h low is = few-at ys x i h.1 (omega arith) is

pub outputs-sent : (fs : List Function) (names : List Name) (ports : List Port) (os : List Output) (firsts : List ℕ) (old new : Draft) → AddsOutputs fs names ports os firsts old new → AddsSent fs names ports os firsts old new
outputs-sent fs names ports os firsts old new a ps = record {
  code = a.code;
  is = a.is;
  routines = a.routines;
  has = sends-as (record { functions = fs; procedures = ps }) names ports os firsts (length old.instrs.items) old.cells new.cells a.code a.has;
}
