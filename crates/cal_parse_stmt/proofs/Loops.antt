-- Lists of values whose trees are read one after the other, in one room.
use Rattle.std.proofs.Common.{◌≡◌, ℕ, ◌+◌, ◌<◌, ◌≤◌, true, false, List, [], ◌∷◌, ◌++◌, map, length, refl, sym, ap, ◌∙◌, arith}
use Rattle.cal_grammar.specs.Program.{Gave, Refused, TooHigh, ahead, exec, after}
use Rattle.cal_ast.specs.Tree.{Tree, nil, cons, listed}
use Rattle.cal_lexer.specs.Lexeme.{Lexeme, Placed, placed, plain_tokens}
use Rattle.cal_lexer.specs.declared.token.Token.{Token}
use Rattle.cal_parse_base.specs.Cursor.{Took, stands}
use Rattle.cal_parse_stmt.specs.SoFar.{HasRead}
use Rattle.cal_grammar.specs.Spells.{Mark, mark, Part, separated, any, repeated}
use Rattle.cal_grammar.specs.Token.{here, same_word}
use Rattle.cal_grammar.specs.Rules.{Rule, part, read, starts}
use Rattle.cal_parse_base.specs.Tells.{before, TellsFault}
use Rattle.cal_parse_base.specs.declared.fault.Fault.{Fault}
use Rattle.cal_parse_base.specs.declared.fault.Fault.TheVariants as faults
use Rattle.cal_grammar.proofs.Costs.{costs, takes}
use Rattle.cal_parse_expr.proofs.ListSteps
use Rattle.cal_grammar.proofs.Meets.{Meets}
use Rattle.cal_parse_base.proofs.Taking.{length-plain}
use Rattle.cal_grammar.proofs.Reading.{read_is, read_keeps}
use Rattle.cal_grammar.proofs.Sound.{never_empty}

-- what is read of the tokens

read_taken : (m : ℕ) (p : Part) (ts left : List Placed) (x : Tree) → read m (part p) ts ≡ Gave x left → takes p + length left ≤ length ts
read_taken m p ts left x e =
    let k : Meets p m ts (read m (part p) ts) = read_keeps m (part p) ts in
    let got : Meets p m ts (Gave x left) = rw e at k in
    (costs got.spelled).taken

pub read_no_longer : (m : ℕ) (p : Part) (x : Tree) (old new : List Token) → read m (part p) (plain_tokens old) ≡ Gave x (plain_tokens new) → length new ≤ length old
read_no_longer m p x old new e =
    let t = read_taken m p (plain_tokens old) (plain_tokens new) x e in
    omega (arith, length-plain old, length-plain new)

pub read_shorter : (m : ℕ) (p : Part) (x : Tree) (old new : List Token) → stands (starts p) old ≡ true → read m (part p) (plain_tokens old) ≡ Gave x (plain_tokens new) → length new < length old
read_shorter m p x old new begins e =
    let t = read_taken m p (plain_tokens old) (plain_tokens new) x e in
    let one : takes p ≡ 1 = never_empty p (ahead (plain_tokens old)) begins in
    omega (arith, length-plain old, length-plain new)

map_more : {A : Type 0} (f : A → Tree) (xs : List A) (x : A) → map f (xs ++ x ∷ []) ≡ map f xs ++ f x ∷ []
map_more f [] x = refl
map_more f (y ∷ xs) x = ap (λ l. f y ∷ l) (map_more f xs x)

trees_more : {A : Type 0} (f : A → Tree) (xs ys : List A) (x : A) → ys ≡ xs ++ x ∷ [] → map f xs ++ f x ∷ [] ≡ map f ys
trees_more f xs ys x e = sym (map_more f xs x) ∙ ap (map f) (sym e)

-- with a word between them

module _ {A : Type 0} (tree : A → Tree) (m : ℕ) (v : Mark) (p : Part) (start now : List Token) (xs : List A) (far : HasRead m (part (separated v p)) start now (map tree xs)) where
  -- a part and the word behind it
  pub parts_more : (w : Lexeme) → w ≡ mark v → (x : A) (mid next : List Token) (q : ℕ) → read m (part p) (plain_tokens now) ≡ Gave (tree x) (plain_tokens mid) → Took w q mid next → (ys : List A) → ys ≡ xs ++ x ∷ [] → HasRead m (part (separated v p)) start next (map tree ys)
  parts_more w is x mid next q got marked ys e = record {
    far =
        let marked_is : plain_tokens mid ≡ placed (mark v) q ∷ plain_tokens next = marked ∙ ap (λ k. placed k q ∷ plain_tokens next) is in
        let item : read m (part p) (plain_tokens now) ≡ Gave (tree x) (placed (mark v) q ∷ plain_tokens next) = got ∙ ap (λ l. Gave (tree x) l) marked_is in
        ListSteps.on_more m v p (plain_tokens start) (plain_tokens now) (map tree xs) far.far (plain_tokens next) (tree x) q item ∙ ap (λ l. before l (read m (part (separated v p)) (plain_tokens next))) (trees_more tree xs ys x e);
  }

  -- the last part
  pub parts_last : (w : Lexeme) → w ≡ mark v → (x : A) (mid : List Token) → read m (part p) (plain_tokens now) ≡ Gave (tree x) (plain_tokens mid) → stands (same_word w) mid ≡ false → (ys : List A) → ys ≡ xs ++ x ∷ [] → read m (part (separated v p)) (plain_tokens start) ≡ Gave (listed (map tree ys)) (plain_tokens mid)
  parts_last w is x mid got none ys e =
      let none_is : here (same_word (mark v)) (ahead (plain_tokens mid)) ≡ false = ap (λ k. stands (same_word k) mid) (sym is) ∙ none in
      ListSteps.on_last m v p (plain_tokens start) (plain_tokens now) (map tree xs) far.far (plain_tokens mid) (tree x) got none_is ∙ ap (λ l. Gave (listed l) (plain_tokens mid)) (trees_more tree xs ys x e)

  -- a part that isn't read
  pub parts_fail : (left : List Token) (fault : Fault) → TellsFault fault left (read m (part p) (plain_tokens now)) → TellsFault fault left (read m (part (separated v p)) (plain_tokens start))
  parts_fail left faults.Refused h = ListSteps.on_refused m v p (plain_tokens start) (plain_tokens now) (map tree xs) far.far (plain_tokens left) h
  parts_fail left faults.TooHigh h = ListSteps.on_high m v p (plain_tokens start) (plain_tokens now) (map tree xs) far.far (plain_tokens left) h
  parts_fail left faults.Memory h = tt

pub any_none : (m : ℕ) (v : Mark) (p : Part) (ts : List Placed) → here (starts p) (ahead ts) ≡ false → read m (part (any v p)) ts ≡ Gave nil ts
any_none m v p ts none = rw (read_is m (part (any v p)) ts, none, exec) refl

pub any_some : (m : ℕ) (v : Mark) (p : Part) (ts : List Placed) → here (starts p) (ahead ts) ≡ true → read m (part (any v p)) ts ≡ read m (part (separated v p)) ts
any_some m v p ts some = rw (read_is m (part (any v p)) ts, some, exec) refl

-- one behind the other

module _ (m : ℕ) (p : Part) where
  repeated_none : (ts : List Placed) → here (starts p) (ahead ts) ≡ false → read m (part (repeated p)) ts ≡ Gave nil ts
  repeated_none ts none = rw (read_is m (part (repeated p)) ts, none, exec) refl

  repeated_more : (ts l : List Placed) (x : Tree) → here (starts p) (ahead ts) ≡ true → read m (part p) ts ≡ Gave x l → read m (part (repeated p)) ts ≡ before (x ∷ []) (read m (part (repeated p)) l)
  repeated_more ts l x begins e =
      let opened : read m (part (repeated p)) ts ≡ after (read m (part (repeated p)) l) (λ xs r. Gave (cons x xs) r) = rw (read_is m (part (repeated p)) ts, begins, e, exec) refl in
      opened ∙ ListSteps.after_cons x (read m (part (repeated p)) l)

  repeated_refused : (ts l : List Placed) → here (starts p) (ahead ts) ≡ true → read m (part p) ts ≡ Refused l → read m (part (repeated p)) ts ≡ Refused l
  repeated_refused ts l begins e = rw (read_is m (part (repeated p)) ts, begins, e, exec) refl

  repeated_high : (ts l : List Placed) → here (starts p) (ahead ts) ≡ true → read m (part p) ts ≡ TooHigh l → read m (part (repeated p)) ts ≡ TooHigh l
  repeated_high ts l begins e = rw (read_is m (part (repeated p)) ts, begins, e, exec) refl

  module _ {A : Type 0} (tree : A → Tree) (start now : List Token) (xs : List A) (far : HasRead m (part (repeated p)) start now (map tree xs)) where
    -- one part more
    pub again_more : stands (starts p) now ≡ true → (x : A) (next : List Token) → read m (part p) (plain_tokens now) ≡ Gave (tree x) (plain_tokens next) → (ys : List A) → ys ≡ xs ++ x ∷ [] → HasRead m (part (repeated p)) start next (map tree ys)
    again_more begins x next got ys e = record {
      far =
          far.far
          ∙ ap (λ o. before (map tree xs) o) (repeated_more (plain_tokens now) (plain_tokens next) (tree x) begins got)
          ∙ ListSteps.before-append (map tree xs) (tree x) (read m (part (repeated p)) (plain_tokens next))
          ∙ ap (λ l. before l (read m (part (repeated p)) (plain_tokens next))) (trees_more tree xs ys x e);
    }

    -- no part more
    pub again_none : stands (starts p) now ≡ false → read m (part (repeated p)) (plain_tokens start) ≡ Gave (listed (map tree xs)) (plain_tokens now)
    again_none none = far.far ∙ ap (λ o. before (map tree xs) o) (repeated_none (plain_tokens now) none) ∙ ap (λ t. Gave t (plain_tokens now)) (ListSteps.joined-nil (map tree xs))

    -- a part that isn't read
    pub again_fail : stands (starts p) now ≡ true → (left : List Token) (fault : Fault) → TellsFault fault left (read m (part p) (plain_tokens now)) → TellsFault fault left (read m (part (repeated p)) (plain_tokens start))
    again_fail begins left faults.Refused h = far.far ∙ ap (λ o. before (map tree xs) o) (repeated_refused (plain_tokens now) (plain_tokens left) begins h)
    again_fail begins left faults.TooHigh h = far.far ∙ ap (λ o. before (map tree xs) o) (repeated_high (plain_tokens now) (plain_tokens left) begins h)
    again_fail begins left faults.Memory h = tt

-- no part yet
pub read_none : (m : ℕ) (r : Rule) (start : List Token) → HasRead m r start start []
read_none m r start = record { far = ListSteps.before-none (read m r (plain_tokens start)) }
