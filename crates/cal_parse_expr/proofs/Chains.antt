-- Operations and indexes behind a left side, as loops read them.
use Rattle.std.proofs.Common.{◌≡◌, ℕ, suc, ◌+◌, ◌-◌, ◌<◌, ◌≤◌, Bool, true, false, List, [], ◌∷◌, ◌++◌, Err, nat_le, refl, sym, ap, ◌∙◌, arith}
use Rattle.std.proofs.lemmas.Bool.{le-leb}
use Rattle.cal_grammar.specs.Program.{Outcome, Gave, Refused, TooHigh, after, exec, give, ask, take, check, jump, enter, ahead}
use Rattle.cal_ast.specs.Tree.{Tree, binary, index, prefix}
use Rattle.cal_ast.specs.declared.expr.BinOp.{BinOp}
use Rattle.cal_lexer.specs.Lexeme.{Lexeme, Placed, placed, plain_tokens}
use Rattle.cal_lexer.specs.declared.token.Token.{Token}
use Rattle.cal_parse_base.specs.Cursor.{Took, stands}
use Rattle.cal_parse_base.specs.Leading.{HasNoRoom, IsOperator, IsPrefix, TookOperator, TookPrefix, opened}
use Rattle.cal_ast.specs.Places.{begins}
use Rattle.cal_grammar.specs.Operators.{binary_of, height, is_prefix, prefix_of}
use Rattle.cal_grammar.specs.Rules.{Step, at_level, chain, expect, part, places, read}
use Rattle.cal_grammar.specs.Spells.{a_postfix, a_primary, an_expr, level}
use Rattle.cal_parse_expr.specs.Steps.{climbs, closing_step, does, index_step}
use Rattle.cal_parse_base.specs.Tells.{TellsFault}
use Rattle.cal_grammar.specs.Token.{here, kind_of, offset, same_word}
use Rattle.cal_parse_base.specs.declared.fault.Fault.{Fault}
use Rattle.cal_parse_base.specs.declared.fault.Fault.TheVariants as faults
use Rattle.cal_parse_base.specs.declared.operators.Prefix.{Prefix}
use Rattle.cal_parse_expr.proofs.Climbing.{Next, climbs_more, climbs_none, fault_after, fault_same, level_climbs}
use Rattle.cal_parse_expr.proofs.Going.{fault_on, gave_on, high_on, yes_on}
use Rattle.cal_parse_expr.proofs.Nesting.{closes, fault_nests, leaves, nests, nests_last, opened_is, postfix_is}
use Rattle.cal_grammar.proofs.Reading.{read_is}

-- operations of one level

chain_takes : ℕ → Tree → Placed → Step
chain_takes n x t = enter (part (level n)) (λ y. jump (chain n (binary (binary_of (kind_of t)) x y (begins x))))

abbrev chain_on : ℕ → ℕ → Tree → BinOp → Next
chain_on m n x op y left = read m (chain n (binary op x y (begins x))) left

chain_goes : (m n : ℕ) (x : Tree) (op : BinOp) (now mid : List Token) → IsOperator n op now mid → height x < m → read m (chain n x) (plain_tokens now) ≡ after (read (m - 1) (part (level n)) (plain_tokens mid)) (chain_on m n x op)
chain_goes m n x op now mid o low =
    let one : nat_le (suc (height x)) m ≡ true = le-leb (suc (height x)) m low in
    let here_is : at_level n o.kind ≡ true = o.is_level in
    let goes : read m (chain n x) (placed o.kind o.at ∷ plain_tokens mid) ≡ after (read (m - 1) (part (level n)) (plain_tokens mid)) (chain_on m n x (binary_of o.kind)) = rw (read_is m (chain n x) (placed o.kind o.at ∷ plain_tokens mid), here_is, one, exec) refl in
    ap (λ l. read m (chain n x) l) o.took ∙ goes ∙ ap (λ b. after (read (m - 1) (part (level n)) (plain_tokens mid)) (chain_on m n x b)) (sym o.is_op)

chain_none : (m n : ℕ) (x : Tree) (now : List Token) → stands (at_level n) now ≡ false → read m (chain n x) (plain_tokens now) ≡ Gave x (plain_tokens now)
chain_none m n x now none =
    let none_here : here (at_level n) (ahead (plain_tokens now)) ≡ false = none in
    rw (read_is m (chain n x) (plain_tokens now), none_here, exec) refl

chain_high : (m n : ℕ) (x : Tree) (now new : List Token) → stands (at_level n) now ≡ true → HasNoRoom m (suc (height x)) now new → read m (chain n x) (plain_tokens now) ≡ TooHigh (plain_tokens new)
unfolding chain_takes
chain_high m n x now new one lacks =
    let start : read m (chain n x) (plain_tokens now) ≡ does m (ask (here (at_level n)) (check (suc (height x)) (take (chain_takes n x))) (give x)) (plain_tokens now) = read_is m (chain n x) (plain_tokens now) in
    high_on (read m (chain n x) (plain_tokens now)) m (suc (height x)) (take (chain_takes n x)) now new (yes_on (read m (chain n x) (plain_tokens now)) m (at_level n) (check (suc (height x)) (take (chain_takes n x))) (give x) now start one) lacks

-- how far the levels have come: from the level n on
pub record IsClimbed (m top : ℕ) (x : Tree) (start : List Token) (n : ℕ) (y : Tree) (now : List Token) : Type 0 where
  pub more : ℕ
  pub sum : n + more ≡ top
  pub far : climbs m 0 top x (plain_tokens start) ≡ climbs m n more y (plain_tokens now)

pub climbed_first : (m top : ℕ) (x : Tree) (start : List Token) → IsClimbed m top x start 0 x start
climbed_first m top x start = record { more = top; sum = omega arith; far = refl }

module _ (m top : ℕ) (x : Tree) (start : List Token) (n : ℕ) (y : Tree) (now : List Token) (i : IsClimbed m top x start n y now) where
  far_on : n < top → climbs m 0 top x (plain_tokens start) ≡ after (read m (chain n y) (plain_tokens now)) (λ z left. climbs m (suc n) (i.more - 1) z left)
  far_on less =
      let sum : n + i.more ≡ top = i.sum in
      let e : i.more ≡ suc (i.more - 1) = omega arith in
      i.far ∙ ap (λ j. climbs m n j y (plain_tokens now)) e ∙ climbs_more m n (i.more - 1) y (plain_tokens now)

  pub climbed_tighter : (n' : ℕ) → n' ≡ n + 1 → n < top → stands (at_level n) now ≡ false → IsClimbed m top x start n' y now
  climbed_tighter n' e less none =
      let sum : n + i.more ≡ top = i.sum in
      let next : suc n ≡ n' = omega arith in
      record {
        more = i.more - 1;
        sum = omega arith;
        far = far_on less ∙ ap (λ o. after o (λ z left. climbs m (suc n) (i.more - 1) z left)) (chain_none m n y now none) ∙ ap (λ j. climbs m j (i.more - 1) y (plain_tokens now)) next;
      }

  pub climbed_more : (op : BinOp) (mid new : List Token) (z y' : Tree) → n < top → IsOperator n op now mid → height y < m → read (m - 1) (part (level n)) (plain_tokens mid) ≡ Gave z (plain_tokens new) → y' ≡ binary op y z (begins y) → IsClimbed m top x start n y' new
  climbed_more op mid new z y' less o low right is =
      let sum : n + i.more ≡ top = i.sum in
      let e : i.more ≡ suc (i.more - 1) = omega arith in
      let f : Next = λ v left. climbs m (suc n) (i.more - 1) v left in
      let one : read m (chain n y) (plain_tokens now) ≡ read m (chain n (binary op y z (begins y))) (plain_tokens new) = gave_on (read m (chain n y) (plain_tokens now)) (read (m - 1) (part (level n)) (plain_tokens mid)) (chain_on m n y op) z (plain_tokens new) (chain_goes m n y op now mid o low) right in
      record {
        more = i.more;
        sum = i.sum;
        far = far_on less ∙ ap (λ v. after v f) (one ∙ ap (λ t. read m (chain n t) (plain_tokens new)) (sym is)) ∙ sym (climbs_more m n (i.more - 1) y' (plain_tokens new)) ∙ ap (λ j. climbs m n j y' (plain_tokens new)) (sym e);
      }

  climbed_fault : (fault : Fault) (new : List Token) → n < top → TellsFault fault new (read m (chain n y) (plain_tokens now)) → TellsFault fault new (climbs m 0 top x (plain_tokens start))
  climbed_fault fault new less h = fault_on (climbs m 0 top x (plain_tokens start)) (read m (chain n y) (plain_tokens now)) (λ z left. climbs m (suc n) (i.more - 1) z left) fault new (far_on less) h

  pub climbed_high : (high : ℕ) (fault : Fault) (new : List Token) → n < top → stands (at_level n) now ≡ true → high ≡ height y → TookOperator m n high (Err fault) now new → TellsFault fault new (climbs m 0 top x (plain_tokens start))
  climbed_high high faults.Refused new less one e h = absurd h
  climbed_high high faults.TooHigh new less one e h = climbed_fault faults.TooHigh new less (chain_high m n y now new one (omega (arith, h.0), h.1))
  climbed_high high faults.Memory new less one e h = tt

  pub climbed_right : (op : BinOp) (fault : Fault) (mid new : List Token) → n < top → IsOperator n op now mid → height y < m → TellsFault fault new (read (m - 1) (part (level n)) (plain_tokens mid)) → TellsFault fault new (climbs m 0 top x (plain_tokens start))
  climbed_right op fault mid new less o low h =
      climbed_fault fault new less (fault_on (read m (chain n y) (plain_tokens now)) (read (m - 1) (part (level n)) (plain_tokens mid)) (chain_on m n y op) fault new (chain_goes m n y op now mid o low) h)

  pub climbed_last : top ≤ n → climbs m 0 top x (plain_tokens start) ≡ Gave y (plain_tokens now)
  climbed_last all =
      let sum : n + i.more ≡ top = i.sum in
      let e : i.more ≡ 0 = omega arith in
      i.far ∙ ap (λ j. climbs m n j y (plain_tokens now)) e ∙ climbs_none m n y (plain_tokens now)

-- indexes

abbrev places_step : Tree → Tree → Step
places_step x i = expect Lexeme.RightBracket (jump (places (index x i (begins x))))

places_takes : Tree → Placed → Step
places_takes x t = enter (part an_expr) (λ i. places_step x i)

abbrev places_on : ℕ → Tree → Next
places_on m x i left = does m (places_step x i) left

-- if a tree would be given behind a word, its indexes go on
jump_behind : (m : ℕ) (w : Lexeme) (x : Tree) (ts : List Placed) → does m (expect w (jump (places x))) ts ≡ after (does m (expect w (give x)) ts) (λ z left. read m (places z) left)
jump_behind m w x [] = refl
jump_behind m w x (t ∷ ts) = branch (same_word w (kind_of t))
  where
    branch : (b : Bool) → ◌≡◌ {A = Outcome Placed Tree} (elim b [ true ↦ read m (places x) ts | false ↦ Refused (t ∷ ts) ]) (after (elim b [ true ↦ Gave x ts | false ↦ Refused (t ∷ ts) ]) (λ z left. read m (places z) left))
    branch true = refl
    branch false = refl

places_goes : (m : ℕ) (x : Tree) (q : ℕ) (now mid : List Token) → Took Lexeme.LeftBracket q now mid → height x < m → read m (places x) (plain_tokens now) ≡ after (read (m - 1) (part an_expr) (plain_tokens mid)) (places_on m x)
places_goes m x q now mid took low =
    let one : nat_le (suc (height x)) m ≡ true = le-leb (suc (height x)) m low in
    let goes : read m (places x) (placed Lexeme.LeftBracket q ∷ plain_tokens mid) ≡ after (read (m - 1) (part an_expr) (plain_tokens mid)) (places_on m x) = rw (read_is m (places x) (placed Lexeme.LeftBracket q ∷ plain_tokens mid), one, exec) refl in
    ap (λ l. read m (places x) l) took ∙ goes

-- how far the indexes have come
pub record IsIndexed (m : ℕ) (x : Tree) (start : List Token) (y : Tree) (now : List Token) : Type 0 where
  pub far : read m (places x) (plain_tokens start) ≡ read m (places y) (plain_tokens now)

pub indexed_first : (m : ℕ) (x : Tree) (start : List Token) → IsIndexed m x start x start
indexed_first m x start = record { far = refl }

module _ (m : ℕ) (x : Tree) (start : List Token) (y : Tree) (now : List Token) (i : IsIndexed m x start y now) where
  pub indexed_last : stands (same_word Lexeme.LeftBracket) now ≡ false → read m (places x) (plain_tokens start) ≡ Gave y (plain_tokens now)
  indexed_last none =
      let none_here : here (same_word Lexeme.LeftBracket) (ahead (plain_tokens now)) ≡ false = none in
      let ends : read m (places y) (plain_tokens now) ≡ Gave y (plain_tokens now) = rw (read_is m (places y) (plain_tokens now), none_here, exec) refl in
      i.far ∙ ends

  pub indexed_high : stands (same_word Lexeme.LeftBracket) now ≡ true → m ≤ height y → read m (places x) (plain_tokens start) ≡ TooHigh (plain_tokens now)
  unfolding places_takes
  indexed_high one high =
      let S : Outcome Placed Tree = read m (places x) (plain_tokens start) in
      let at : S ≡ does m (ask (here (same_word Lexeme.LeftBracket)) (check (suc (height y)) (take (places_takes y))) (give y)) (plain_tokens now) = i.far ∙ read_is m (places y) (plain_tokens now) in
      high_on S m (suc (height y)) (take (places_takes y)) now now (yes_on S m (same_word Lexeme.LeftBracket) (check (suc (height y)) (take (places_takes y))) (give y) now at one) (omega arith, refl)

  -- behind a bracket
  module _ (q : ℕ) (mid : List Token) (took : Took Lexeme.LeftBracket q now mid) (low : height y < m) where
    index_on : read m (places x) (plain_tokens start) ≡ after (read (m - 1) (part an_expr) (plain_tokens mid)) (places_on m y)
    index_on = i.far ∙ places_goes m y q now mid took low

    pub indexed_fault : (fault : Fault) (new : List Token) → TellsFault fault new (read (m - 1) (part an_expr) (plain_tokens mid)) → TellsFault fault new (read m (places x) (plain_tokens start))
    indexed_fault fault new h = fault_on (read m (places x) (plain_tokens start)) (read (m - 1) (part an_expr) (plain_tokens mid)) (places_on m y) fault new index_on h

    inside : (at : Tree) (left : List Token) → read (m - 1) (part an_expr) (plain_tokens mid) ≡ Gave at (plain_tokens left) → read m (places x) (plain_tokens start) ≡ after (does m (index_step y at) (plain_tokens left)) (λ z l. read m (places z) l)
    inside at left e =
        gave_on (read m (places x) (plain_tokens start)) (read (m - 1) (part an_expr) (plain_tokens mid)) (places_on m y) at (plain_tokens left) index_on e
        ∙ jump_behind m Lexeme.RightBracket (index y at (begins y)) (plain_tokens left)

    pub indexed_open : (at : Tree) (left : List Token) (fault : Fault) (new : List Token) → read (m - 1) (part an_expr) (plain_tokens mid) ≡ Gave at (plain_tokens left) → TellsFault fault new (does m (index_step y at) (plain_tokens left)) → TellsFault fault new (read m (places x) (plain_tokens start))
    indexed_open at left fault new e h = fault_on (read m (places x) (plain_tokens start)) (does m (index_step y at) (plain_tokens left)) (λ z l. read m (places z) l) fault new (inside at left e) h

    pub indexed_more : (at y' : Tree) (left new : List Token) → read (m - 1) (part an_expr) (plain_tokens mid) ≡ Gave at (plain_tokens left) → does m (index_step y at) (plain_tokens left) ≡ Gave y' (plain_tokens new) → IsIndexed m x start y' new
    indexed_more at y' left new e h = record {
      far = gave_on (read m (places x) (plain_tokens start)) (does m (index_step y at) (plain_tokens left)) (λ z l. read m (places z) l) y' (plain_tokens new) (inside at left e) h;
    }

-- operands

prefix_takes : Placed → Step
prefix_takes t = enter (part (level 0)) (λ x. give (prefix (prefix_of (kind_of t)) x (offset t)))

pub prefix_goes : (m : ℕ) (p : Prefix) (old mid : List Token) → IsPrefix p old mid → 1 ≤ m → read m (part (level 0)) (plain_tokens old) ≡ after (read (m - 1) (part (level 0)) (plain_tokens mid)) (λ x left. Gave (prefix p.op x p.at) left)
prefix_goes m p old mid h low =
    let one : nat_le 1 m ≡ true = le-leb 1 m low in
    let is_one : is_prefix h.kind ≡ true = h.is_kind in
    let goes : read m (part (level 0)) (placed h.kind p.at ∷ plain_tokens mid) ≡ after (read (m - 1) (part (level 0)) (plain_tokens mid)) (λ x left. Gave (prefix (prefix_of h.kind) x p.at) left) = rw (read_is m (part (level 0)) (placed h.kind p.at ∷ plain_tokens mid), is_one, one, exec) refl in
    ap (λ l. read m (part (level 0)) l) h.took ∙ goes ∙ ap (λ o. after (read (m - 1) (part (level 0)) (plain_tokens mid)) (λ x left. Gave (prefix o x p.at) left)) (sym h.is_op)

pub prefix_high : (m : ℕ) (fault : Fault) (old new : List Token) → stands is_prefix old ≡ true → TookPrefix m (Err fault) old new → TellsFault fault new (read m (part (level 0)) (plain_tokens old))
unfolding prefix_takes
prefix_high m faults.Refused old new one h = absurd h
prefix_high m faults.TooHigh old new one h =
    let S : Outcome Placed Tree = read m (part (level 0)) (plain_tokens old) in
    let start : S ≡ does m (ask (here is_prefix) (check 1 (take prefix_takes)) (jump (part a_postfix))) (plain_tokens old) = read_is m (part (level 0)) (plain_tokens old) in
    high_on S m 1 (take prefix_takes) old new (yes_on S m is_prefix (check 1 (take prefix_takes)) (jump (part a_postfix)) old start one) h
prefix_high m faults.Memory old new one h = tt

pub operand_goes : (m : ℕ) (old : List Token) → stands is_prefix old ≡ false → read m (part (level 0)) (plain_tokens old) ≡ after (read m (part a_primary) (plain_tokens old)) (λ z left. read m (places z) left)
operand_goes m old none =
    let none_here : here is_prefix (ahead (plain_tokens old)) ≡ false = none in
    let opens : read m (part (level 0)) (plain_tokens old) ≡ read m (part a_postfix) (plain_tokens old) = rw (read_is m (part (level 0)) (plain_tokens old), none_here, exec) refl in
    opens ∙ postfix_is m (plain_tokens old)

-- pairs: how far an operand is read, with the pairs that are still open round it

pub record IsNested (m : ℕ) (start : List Token) (qs : List ℕ) (x : Tree) (now : List Token) : Type 0 where
  pub far : read m (part (level 0)) (plain_tokens start) ≡ nests m qs (Gave x (plain_tokens now))

pub nested_first : (m : ℕ) (start mid now : List Token) (qs : List ℕ) (x : Tree) → plain_tokens start ≡ opened qs (plain_tokens mid) → read m (part (level 0)) (plain_tokens mid) ≡ Gave x (plain_tokens now) → IsNested m start qs x now
nested_first m start mid now qs x e h = record {
  far = ap (λ l. read m (part (level 0)) l) e ∙ opened_is m qs (plain_tokens mid) ∙ ap (λ o. nests m qs o) h;
}

level_fault : (m top : ℕ) (start : List Token) (fault : Fault) (new : List Token) → TellsFault fault new (read m (part (level 0)) (plain_tokens start)) → TellsFault fault new (read m (part (level top)) (plain_tokens start))
level_fault m top start fault new h = fault_on (read m (part (level top)) (plain_tokens start)) (read m (part (level 0)) (plain_tokens start)) (λ x left. climbs m 0 top x left) fault new (level_climbs m top (plain_tokens start)) h

pub nested_fault : (m top : ℕ) (start mid : List Token) (qs : List ℕ) (fault : Fault) (new : List Token) → plain_tokens start ≡ opened qs (plain_tokens mid) → TellsFault fault new (read m (part (level 0)) (plain_tokens mid)) → TellsFault fault new (read m (part (level top)) (plain_tokens start))
nested_fault m top start mid qs fault new e h =
    level_fault m top start fault new (fault_same fault new (read m (part (level 0)) (plain_tokens start)) (nests m qs (read m (part (level 0)) (plain_tokens mid))) (ap (λ l. read m (part (level 0)) l) e ∙ opened_is m qs (plain_tokens mid)) (fault_nests m qs fault new (read m (part (level 0)) (plain_tokens mid)) h))

pub nested_last : (m top : ℕ) (start now : List Token) (x : Tree) → IsNested m start [] x now → read m (part (level top)) (plain_tokens start) ≡ climbs m 0 top x (plain_tokens now)
nested_last m top start now x i = gave_on (read m (part (level top)) (plain_tokens start)) (read m (part (level 0)) (plain_tokens start)) (λ y left. climbs m 0 top y left) x (plain_tokens now) (level_climbs m top (plain_tokens start)) i.far

module _ (m top : ℕ) (start : List Token) (qs : List ℕ) (q : ℕ) (ps : List ℕ) (last : ps ≡ qs ++ q ∷ []) (x : Tree) (now : List Token) (i : IsNested m start ps x now) where
  nest_on : read m (part (level 0)) (plain_tokens start) ≡ nests m qs (leaves m q x (plain_tokens now))
  nest_on = i.far ∙ ap (λ l. nests m l (Gave x (plain_tokens now))) last ∙ nests_last m qs q (Gave x (plain_tokens now))

  nest_fault : (fault : Fault) (new : List Token) → TellsFault fault new (leaves m q x (plain_tokens now)) → TellsFault fault new (read m (part (level top)) (plain_tokens start))
  nest_fault fault new h = level_fault m top start fault new (fault_same fault new (read m (part (level 0)) (plain_tokens start)) (nests m qs (leaves m q x (plain_tokens now))) nest_on (fault_nests m qs fault new (leaves m q x (plain_tokens now)) h))

  pub nested_inner : (fault : Fault) (new : List Token) → TellsFault fault new (climbs m 0 10 x (plain_tokens now)) → TellsFault fault new (read m (part (level top)) (plain_tokens start))
  nested_inner fault new h = nest_fault fault new (fault_after fault new (climbs m 0 10 x (plain_tokens now)) (closes m q) h)

  module _ (y : Tree) (mid : List Token) (inner : climbs m 0 10 x (plain_tokens now) ≡ Gave y (plain_tokens mid)) where
    leaves_on : leaves m q x (plain_tokens now) ≡ after (does m (closing_step q y) (plain_tokens mid)) (λ z left. read m (places z) left)
    leaves_on = ap (λ o. after o (closes m q)) inner

    pub nested_open : (fault : Fault) (new : List Token) → TellsFault fault new (does m (closing_step q y) (plain_tokens mid)) → TellsFault fault new (read m (part (level top)) (plain_tokens start))
    nested_open fault new h = nest_fault fault new (fault_on (leaves m q x (plain_tokens now)) (does m (closing_step q y) (plain_tokens mid)) (λ z left. read m (places z) left) fault new leaves_on h)

    module _ (z : Tree) (out : List Token) (closed : does m (closing_step q y) (plain_tokens mid) ≡ Gave z (plain_tokens out)) where
      pair_on : leaves m q x (plain_tokens now) ≡ read m (places z) (plain_tokens out)
      pair_on = gave_on (leaves m q x (plain_tokens now)) (does m (closing_step q y) (plain_tokens mid)) (λ v left. read m (places v) left) z (plain_tokens out) leaves_on closed

      pub nested_place : (fault : Fault) (new : List Token) → TellsFault fault new (read m (places z) (plain_tokens out)) → TellsFault fault new (read m (part (level top)) (plain_tokens start))
      nested_place fault new h = nest_fault fault new (fault_same fault new (leaves m q x (plain_tokens now)) (read m (places z) (plain_tokens out)) pair_on h)

      pub nested_more : (w : Tree) (new : List Token) → read m (places z) (plain_tokens out) ≡ Gave w (plain_tokens new) → IsNested m start qs w new
      nested_more w new h = record { far = nest_on ∙ ap (λ o. nests m qs o) (pair_on ∙ h) }
