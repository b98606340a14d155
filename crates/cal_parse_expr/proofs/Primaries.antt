-- Operands without operators, generators, types: which tokens stand for which step.
use Rattle.std.proofs.Common.{◌≡◌, ℕ, ◌-◌, ◌≤◌, true, false, List, [], ◌∷◌, ◌++◌, Err, nat_le, refl, sym, ap, ◌∙◌}
use Rattle.std.proofs.lemmas.Bool.{le-leb}
use Rattle.cal_grammar.specs.Program.{Outcome, Gave, Refused, ahead, after, exec, give, fail, take, check, jump, invoke, enter}
use Rattle.cal_ast.specs.Tree.{Tree, cons, nil, ident, variable, gen, type_of, shape_arg, value_arg, listed}
use Rattle.cal_lexer.specs.Lexeme.{Lexeme, Placed, placed, plain_tokens}
use Rattle.cal_lexer.specs.declared.token.Token.{Token}
use Rattle.cal_parse_base.specs.Cursor.{Took, TookName, TookWord, stands}
use Rattle.cal_parse_base.specs.Leading.{LedByName}
use Rattle.cal_grammar.specs.Rules.{Step, expect, ident_of, if_body, list_body, name_body, named, on, part, read, starts, starts_expr, type_tail}
use Rattle.cal_grammar.specs.Spells.{Part, a_gen, a_primary, a_type, a_type_arg, an_expr, any, comma, rest, separated}
use Rattle.cal_parse_expr.specs.Steps.{call_step, comp_step, does, if_step, list_step, number_step, truth_step, type_step}
use Rattle.cal_parse_base.specs.Tells.{TellsFault, before}
use Rattle.cal_grammar.specs.Token.{counts, here, names, offset, same_word, text_of}
use Rattle.cal_parse_base.specs.declared.fault.Fault.{Fault}
use Rattle.cal_parse_base.specs.declared.fault.Fault.TheVariants as faults
use Rattle.cal_parse_expr.proofs.Climbing.{Next}
use Rattle.cal_parse_expr.proofs.Going.{begin_on, check_low, name_led, named_on, yes_on}
use Rattle.cal_parse_expr.proofs.ListSteps
use Rattle.cal_grammar.proofs.Reading.{read_is}

-- which primary it is

module _ (m : ℕ) (old : List Token) where
  pub primary_number : stands counts old ≡ true → read m (part a_primary) (plain_tokens old) ≡ does m number_step (plain_tokens old)
  primary_number c = let c_here : here counts (ahead (plain_tokens old)) ≡ true = c in rw (read_is m (part a_primary) (plain_tokens old), c_here, exec) refl

  module _ (c : stands counts old ≡ false) where
    c_here : here counts (ahead (plain_tokens old)) ≡ false
    c_here = c

    pub primary_name : stands names old ≡ true → read m (part a_primary) (plain_tokens old) ≡ does m (check 1 (take name_body)) (plain_tokens old)
    primary_name n = let n_here : here names (ahead (plain_tokens old)) ≡ true = n in rw (read_is m (part a_primary) (plain_tokens old), c_here, n_here, exec) refl

    module _ (n : stands names old ≡ false) where
      n_here : here names (ahead (plain_tokens old)) ≡ false
      n_here = n

      pub primary_true : stands (same_word Lexeme.True) old ≡ true → read m (part a_primary) (plain_tokens old) ≡ does m (truth_step true) (plain_tokens old)
      primary_true t = let t_here : here (same_word Lexeme.True) (ahead (plain_tokens old)) ≡ true = t in rw (read_is m (part a_primary) (plain_tokens old), c_here, n_here, t_here, exec) refl

      module _ (t : stands (same_word Lexeme.True) old ≡ false) where
        t_here : here (same_word Lexeme.True) (ahead (plain_tokens old)) ≡ false
        t_here = t

        pub primary_false : stands (same_word Lexeme.False) old ≡ true → read m (part a_primary) (plain_tokens old) ≡ does m (truth_step false) (plain_tokens old)
        primary_false f = let f_here : here (same_word Lexeme.False) (ahead (plain_tokens old)) ≡ true = f in rw (read_is m (part a_primary) (plain_tokens old), c_here, n_here, t_here, f_here, exec) refl

        module _ (f : stands (same_word Lexeme.False) old ≡ false) (p : stands (same_word Lexeme.LeftParen) old ≡ false) where
          f_here : here (same_word Lexeme.False) (ahead (plain_tokens old)) ≡ false
          f_here = f

          p_here : here (same_word Lexeme.LeftParen) (ahead (plain_tokens old)) ≡ false
          p_here = p

          pub primary_if : stands (same_word Lexeme.If) old ≡ true → read m (part a_primary) (plain_tokens old) ≡ does m (check 1 (take if_body)) (plain_tokens old)
          primary_if i = let i_here : here (same_word Lexeme.If) (ahead (plain_tokens old)) ≡ true = i in rw (read_is m (part a_primary) (plain_tokens old), c_here, n_here, t_here, f_here, p_here, i_here, exec) refl

          module _ (i : stands (same_word Lexeme.If) old ≡ false) where
            i_here : here (same_word Lexeme.If) (ahead (plain_tokens old)) ≡ false
            i_here = i

            pub primary_list : stands (same_word Lexeme.LeftBracket) old ≡ true → read m (part a_primary) (plain_tokens old) ≡ does m (check 1 (take list_body)) (plain_tokens old)
            primary_list b = let b_here : here (same_word Lexeme.LeftBracket) (ahead (plain_tokens old)) ≡ true = b in rw (read_is m (part a_primary) (plain_tokens old), c_here, n_here, t_here, f_here, p_here, i_here, b_here, exec) refl

            pub primary_none : stands (same_word Lexeme.LeftBracket) old ≡ false → read m (part a_primary) (plain_tokens old) ≡ Refused (plain_tokens old)
            primary_none b = let b_here : here (same_word Lexeme.LeftBracket) (ahead (plain_tokens old)) ≡ false = b in rw (read_is m (part a_primary) (plain_tokens old), c_here, n_here, t_here, f_here, p_here, i_here, b_here, exec) refl

-- a token that is taken if it fits the room

taken_here : (m : ℕ) (next : Placed → Step) (k : Lexeme) (q : ℕ) (old mid : List Token) → Took k q old mid → 1 ≤ m → does m (check 1 (take next)) (plain_tokens old) ≡ does m (next (placed k q)) (plain_tokens mid)
taken_here m next k q old mid took low =
    ap (λ l. does m (check 1 (take next)) l) took ∙ check_low m 1 (take next) (placed k q ∷ plain_tokens mid) low

-- variables and calls

pub named_alone : (m : ℕ) (s : List ℕ) (q : ℕ) (old mid : List Token) → Took (Lexeme.Name s) q old mid → 1 ≤ m → stands (same_word Lexeme.LeftParen) mid ≡ false → does m (check 1 (take name_body)) (plain_tokens old) ≡ Gave (variable s q) (plain_tokens mid)
named_alone m s q old mid took low none =
    let none_here : here (same_word Lexeme.LeftParen) (ahead (plain_tokens mid)) ≡ false = none in
    let alone : exec read m (name_body (placed (Lexeme.Name s) q)) (plain_tokens mid) ≡ Gave (variable s q) (plain_tokens mid) = rw (none_here, exec) refl in
    taken_here m name_body (Lexeme.Name s) q old mid took low ∙ alone

pub named_call : (m : ℕ) (s : List ℕ) (q r : ℕ) (old mid l : List Token) → Took (Lexeme.Name s) q old mid → 1 ≤ m → Took Lexeme.LeftParen r mid l → does m (check 1 (take name_body)) (plain_tokens old) ≡ after (read (m - 1) (part (any comma an_expr)) (plain_tokens l)) (λ xs left. does m (call_step s q xs) left)
named_call m s q r old mid l took low paren =
    taken_here m name_body (Lexeme.Name s) q old mid took low ∙ ap (λ v. does m (name_body (placed (Lexeme.Name s) q)) v) paren

-- `if`: behind the test, and behind what it gives if it holds

abbrev pub if_test : ℕ → ℕ → Next
if_test m q x left = does m (expect Lexeme.Then (enter (part an_expr) (λ y. expect Lexeme.Else (enter (part an_expr) (λ z. if_step q x y z))))) left

abbrev pub if_yes : ℕ → ℕ → Tree → Next
if_yes m q x y left = does m (expect Lexeme.Else (enter (part an_expr) (λ z. if_step q x y z))) left

abbrev pub if_no : ℕ → ℕ → Tree → Tree → Next
if_no m q x y z left = does m (if_step q x y z) left

pub if_goes : (m q : ℕ) (old mid : List Token) → Took Lexeme.If q old mid → 1 ≤ m → does m (check 1 (take if_body)) (plain_tokens old) ≡ after (read (m - 1) (part an_expr) (plain_tokens mid)) (if_test m q)
if_goes m q old mid took low = taken_here m if_body Lexeme.If q old mid took low

pub if_then : (m q r : ℕ) (x : Tree) (a b : List Token) → Took Lexeme.Then r a b → if_test m q x (plain_tokens a) ≡ after (read (m - 1) (part an_expr) (plain_tokens b)) (if_yes m q x)
if_then m q r x a b took = ap (λ l. if_test m q x l) took

pub if_else : (m q r : ℕ) (x y : Tree) (a b : List Token) → Took Lexeme.Else r a b → if_yes m q x y (plain_tokens a) ≡ after (read (m - 1) (part an_expr) (plain_tokens b)) (if_no m q x y)
if_else m q r x y a b took = ap (λ l. if_yes m q x y l) took

-- lists: behind the first expression

abbrev pub list_on : ℕ → ℕ → Next
list_on m q x left = does m (on Lexeme.Colon (enter (part (separated comma a_gen)) (λ gs. comp_step q x gs)) (enter (part (rest comma an_expr)) (λ xs. list_step q (cons x xs)))) left

pub list_goes : (m q : ℕ) (old mid : List Token) → Took Lexeme.LeftBracket q old mid → 1 ≤ m → does m (check 1 (take list_body)) (plain_tokens old) ≡ after (read (m - 1) (part an_expr) (plain_tokens mid)) (list_on m q)
list_goes m q old mid took low = taken_here m list_body Lexeme.LeftBracket q old mid took low

pub list_colon : (m q r : ℕ) (x : Tree) (a b : List Token) → Took Lexeme.Colon r a b → list_on m q x (plain_tokens a) ≡ after (read (m - 1) (part (separated comma a_gen)) (plain_tokens b)) (λ gs left. does m (comp_step q x gs) left)
list_colon m q r x a b took = ap (λ l. list_on m q x l) took

pub list_alone : (m q : ℕ) (x : Tree) (a : List Token) → stands (same_word Lexeme.Colon) a ≡ false → stands (same_word Lexeme.Comma) a ≡ false → list_on m q x (plain_tokens a) ≡ does m (list_step q (cons x nil)) (plain_tokens a)
list_alone m q x a colon none =
    let colon_here : here (same_word Lexeme.Colon) (ahead (plain_tokens a)) ≡ false = colon in
    let none_here : here (same_word Lexeme.Comma) (ahead (plain_tokens a)) ≡ false = none in
    let ends : read (m - 1) (part (rest comma an_expr)) (plain_tokens a) ≡ Gave nil (plain_tokens a) = rw (read_is (m - 1) (part (rest comma an_expr)) (plain_tokens a), none_here, exec) refl in
    let opens : exec read m (on Lexeme.Colon (enter (part (separated comma a_gen)) (λ gs. comp_step q x gs)) (enter (part (rest comma an_expr)) (λ xs. list_step q (cons x xs)))) (plain_tokens a) ≡ after (read (m - 1) (part (rest comma an_expr)) (plain_tokens a)) (λ xs left. does m (list_step q (cons x xs)) left) = rw (colon_here, exec) refl in
    opens ∙ ap (λ o. after o (λ xs left. does m (list_step q (cons x xs)) left)) ends

pub list_more : (m q r : ℕ) (x : Tree) (a b : List Token) → Took Lexeme.Comma r a b → list_on m q x (plain_tokens a) ≡ after (read (m - 1) (part (separated comma an_expr)) (plain_tokens b)) (λ xs left. does m (list_step q (cons x xs)) left)
list_more m q r x a b took =
    let goes : read (m - 1) (part (rest comma an_expr)) (placed Lexeme.Comma r ∷ plain_tokens b) ≡ read (m - 1) (part (separated comma an_expr)) (plain_tokens b) = read_is (m - 1) (part (rest comma an_expr)) (placed Lexeme.Comma r ∷ plain_tokens b) in
    ap (λ l. list_on m q x l) took ∙ ap (λ o. after o (λ xs left. does m (list_step q (cons x xs)) left)) goes

-- any number of expressions

pub args_none : (m : ℕ) (old : List Token) → stands starts_expr old ≡ false → read m (part (any comma an_expr)) (plain_tokens old) ≡ Gave nil (plain_tokens old)
args_none m old none =
    let none_here : here (starts an_expr) (ahead (plain_tokens old)) ≡ false = none in
    rw (read_is m (part (any comma an_expr)) (plain_tokens old), none_here, exec) refl

pub args_some : (m : ℕ) (old : List Token) → stands starts_expr old ≡ true → read m (part (any comma an_expr)) (plain_tokens old) ≡ read m (part (separated comma an_expr)) (plain_tokens old)
args_some m old one =
    let one_here : here (starts an_expr) (ahead (plain_tokens old)) ≡ true = one in
    rw (read_is m (part (any comma an_expr)) (plain_tokens old), one_here, exec) refl

-- lists with commas: the parts that are read so far

pub record IsListed (m : ℕ) (p : Part) (start : List Token) (xs : List Tree) (now : List Token) : Type 0 where
  pub far : read m (part (separated comma p)) (plain_tokens start) ≡ before xs (read m (part (separated comma p)) (plain_tokens now))

pub listed_first : (m : ℕ) (p : Part) (start : List Token) (xs : List Tree) → xs ≡ [] → IsListed m p start xs start
listed_first m p start xs none = record { far = ListSteps.before-none (read m (part (separated comma p)) (plain_tokens start)) ∙ ap (λ l. before l (read m (part (separated comma p)) (plain_tokens start))) (sym none) }

module _ (m : ℕ) (p : Part) (start : List Token) (xs : List Tree) (now : List Token) (i : IsListed m p start xs now) where
  pub listed_fault : (fault : Fault) (new : List Token) → TellsFault fault new (read m (part p) (plain_tokens now)) → TellsFault fault new (read m (part (separated comma p)) (plain_tokens start))
  listed_fault faults.Refused new h = ListSteps.on_refused m comma p (plain_tokens start) (plain_tokens now) xs i.far (plain_tokens new) h
  listed_fault faults.TooHigh new h = ListSteps.on_high m comma p (plain_tokens start) (plain_tokens now) xs i.far (plain_tokens new) h
  listed_fault faults.Memory new h = tt

  module _ (x : Tree) (mid : List Token) (item : read m (part p) (plain_tokens now) ≡ Gave x (plain_tokens mid)) (ys : List Tree) (more : ys ≡ xs ++ x ∷ []) where
    pub listed_last : stands (same_word Lexeme.Comma) mid ≡ false → read m (part (separated comma p)) (plain_tokens start) ≡ Gave (listed ys) (plain_tokens mid)
    listed_last none = ListSteps.on_last m comma p (plain_tokens start) (plain_tokens now) xs i.far (plain_tokens mid) x item none ∙ ap (λ l. Gave (listed l) (plain_tokens mid)) (sym more)

    pub listed_more : (q : ℕ) (new : List Token) → Took Lexeme.Comma q mid new → IsListed m p start ys new
    listed_more q new took = record {
      far = ListSteps.on_more m comma p (plain_tokens start) (plain_tokens now) xs i.far (plain_tokens new) x q (item ∙ ap (λ l. Gave x l) took) ∙ ap (λ l. before l (read m (part (separated comma p)) (plain_tokens new))) (sym more);
    }

-- generators: behind the type, its name, and the first bound

gen_takes : Placed → Step
gen_takes t = invoke (part a_type) (λ shape. named (λ i. expect Lexeme.In (invoke (part an_expr) (λ x. expect Lexeme.DotDot (invoke (part an_expr) (λ y. give (gen shape (ident_of i) x y (offset t))))))))

abbrev pub gen_from : ℕ → Tree → List ℕ → ℕ → Tree → Step
gen_from q shape s r x = expect Lexeme.DotDot (invoke (part an_expr) (λ y. give (gen shape (ident s r) x y q)))

abbrev pub gen_in : ℕ → Tree → List ℕ → ℕ → Step
gen_in q shape s r = expect Lexeme.In (invoke (part an_expr) (λ x. gen_from q shape s r x))

abbrev pub gen_shape : ℕ → ℕ → Next
gen_shape m q shape left = does m (named (λ i. expect Lexeme.In (invoke (part an_expr) (λ x. expect Lexeme.DotDot (invoke (part an_expr) (λ y. give (gen shape (ident_of i) x y q))))))) left

abbrev pub gen_bound : ℕ → ℕ → Tree → List ℕ → ℕ → Next
gen_bound m q shape s r x left = does m (gen_from q shape s r x) left

pub gen_fault : (m : ℕ) (fault : Fault) (old new : List Token) → TookWord Lexeme.For (Err fault) old new → TellsFault fault new (read m (part a_gen) (plain_tokens old))
unfolding gen_takes
gen_fault m fault old new h = begin_on (read m (part a_gen) (plain_tokens old)) m Lexeme.For gen_takes fault old new (read_is m (part a_gen) (plain_tokens old)) h

pub gen_goes : (m q : ℕ) (old mid : List Token) → Took Lexeme.For q old mid → read m (part a_gen) (plain_tokens old) ≡ after (read m (part a_type) (plain_tokens mid)) (gen_shape m q)
gen_goes m q old mid took = ap (λ l. read m (part a_gen) l) took ∙ read_is m (part a_gen) (placed Lexeme.For q ∷ plain_tokens mid)

pub gen_name : (m q r : ℕ) (shape : Tree) (s : List ℕ) (a b : List Token) → Took (Lexeme.Name s) r a b → gen_shape m q shape (plain_tokens a) ≡ does m (gen_in q shape s r) (plain_tokens b)
gen_name m q r shape s a b took = ap (λ l. gen_shape m q shape l) took

pub gen_in_goes : (m q r t : ℕ) (shape : Tree) (s : List ℕ) (a b : List Token) → Took Lexeme.In t a b → does m (gen_in q shape s r) (plain_tokens a) ≡ after (read m (part an_expr) (plain_tokens b)) (gen_bound m q shape s r)
gen_in_goes m q r t shape s a b took = ap (λ l. does m (gen_in q shape s r) l) took

pub gen_to : (m q r t : ℕ) (shape : Tree) (s : List ℕ) (x : Tree) (a b : List Token) → Took Lexeme.DotDot t a b → gen_bound m q shape s r x (plain_tokens a) ≡ after (read m (part an_expr) (plain_tokens b)) (λ y left. Gave (gen shape (ident s r) x y q) left)
gen_to m q r t shape s x a b took = ap (λ l. gen_bound m q shape s r x l) took

-- types

pub type_none : (m : ℕ) (old : List Token) → stands names old ≡ false → read m (part a_type) (plain_tokens old) ≡ Refused (plain_tokens old)
type_none m old none =
    let none_here : here names (ahead (plain_tokens old)) ≡ false = none in
    rw (read_is m (part a_type) (plain_tokens old), none_here, exec) refl

type_takes : Placed → Step
type_takes t = jump (type_tail (text_of t) (offset t))

pub type_led : (m : ℕ) (fault : Fault) (old new : List Token) → stands names old ≡ true → LedByName m (Err fault) old new → TellsFault fault new (read m (part a_type) (plain_tokens old))
unfolding type_takes
type_led m fault old new one h =
    let S : Outcome Placed Tree = read m (part a_type) (plain_tokens old) in
    name_led S m type_takes fault old new (yes_on S m names (check 1 (take type_takes)) fail old (read_is m (part a_type) (plain_tokens old)) one) h

pub type_goes : (m : ℕ) (s : List ℕ) (q : ℕ) (old mid : List Token) → Took (Lexeme.Name s) q old mid → 1 ≤ m → read m (part a_type) (plain_tokens old) ≡ read m (type_tail s q) (plain_tokens mid)
type_goes m s q old mid took low =
    let one : nat_le 1 m ≡ true = le-leb 1 m low in
    let goes : read m (part a_type) (placed (Lexeme.Name s) q ∷ plain_tokens mid) ≡ read m (type_tail s q) (plain_tokens mid) = rw (read_is m (part a_type) (placed (Lexeme.Name s) q ∷ plain_tokens mid), one, exec) refl in
    ap (λ l. read m (part a_type) l) took ∙ goes

pub tail_alone : (m : ℕ) (s : List ℕ) (q : ℕ) (mid : List Token) → stands (same_word Lexeme.LeftParen) mid ≡ false → read m (type_tail s q) (plain_tokens mid) ≡ Gave (type_of (ident s q) nil q) (plain_tokens mid)
tail_alone m s q mid none =
    let none_here : here (same_word Lexeme.LeftParen) (ahead (plain_tokens mid)) ≡ false = none in
    rw (read_is m (type_tail s q) (plain_tokens mid), none_here, exec) refl

pub tail_goes : (m : ℕ) (s : List ℕ) (q r : ℕ) (mid l : List Token) → Took Lexeme.LeftParen r mid l → read m (type_tail s q) (plain_tokens mid) ≡ after (read (m - 1) (part (separated comma a_type_arg)) (plain_tokens l)) (λ xs left. does m (type_step s q xs) left)
tail_goes m s q r mid l took = ap (λ v. read m (type_tail s q) v) took ∙ read_is m (type_tail s q) (placed Lexeme.LeftParen r ∷ plain_tokens l)

-- arguments of types

abbrev arg_value : List ℕ → ℕ → Step
arg_value s q = invoke (part an_expr) (λ x. give (value_arg (ident s q) x))

abbrev pub arg_on : ℕ → List ℕ → ℕ → List Placed → Outcome Placed Tree
arg_on m s q left = does m (on Lexeme.Colon (invoke (part a_type) (λ x. give (shape_arg (ident s q) x))) (expect Lexeme.Equal (arg_value s q))) left

arg_takes : Placed → Step
arg_takes t = on Lexeme.Colon (invoke (part a_type) (λ x. give (shape_arg (ident_of t) x))) (expect Lexeme.Equal (invoke (part an_expr) (λ x. give (value_arg (ident_of t) x))))

pub arg_fault : (m : ℕ) (fault : Fault) (old new : List Token) → TookName (Err fault) old new → TellsFault fault new (read m (part a_type_arg) (plain_tokens old))
unfolding arg_takes
arg_fault m fault old new h = named_on (read m (part a_type_arg) (plain_tokens old)) m arg_takes fault old new (read_is m (part a_type_arg) (plain_tokens old)) h

pub arg_goes : (m : ℕ) (s : List ℕ) (q : ℕ) (old mid : List Token) → Took (Lexeme.Name s) q old mid → read m (part a_type_arg) (plain_tokens old) ≡ arg_on m s q (plain_tokens mid)
arg_goes m s q old mid took = ap (λ l. read m (part a_type_arg) l) took ∙ read_is m (part a_type_arg) (placed (Lexeme.Name s) q ∷ plain_tokens mid)

pub arg_colon : (m : ℕ) (s : List ℕ) (q r : ℕ) (a b : List Token) → Took Lexeme.Colon r a b → arg_on m s q (plain_tokens a) ≡ after (read m (part a_type) (plain_tokens b)) (λ x left. Gave (shape_arg (ident s q) x) left)
arg_colon m s q r a b took = ap (λ l. arg_on m s q l) took

pub arg_other : (m : ℕ) (s : List ℕ) (q : ℕ) (a : List Token) → stands (same_word Lexeme.Colon) a ≡ false → arg_on m s q (plain_tokens a) ≡ does m (expect Lexeme.Equal (arg_value s q)) (plain_tokens a)
arg_other m s q a none =
    let none_here : here (same_word Lexeme.Colon) (ahead (plain_tokens a)) ≡ false = none in
    let other : exec read m (on Lexeme.Colon (invoke (part a_type) (λ x. give (shape_arg (ident s q) x))) (expect Lexeme.Equal (arg_value s q))) (plain_tokens a) ≡ does m (expect Lexeme.Equal (arg_value s q)) (plain_tokens a) = rw (none_here, exec) refl in
    other

pub arg_no : (m : ℕ) (s : List ℕ) (q : ℕ) (fault : Fault) (a new : List Token) → stands (same_word Lexeme.Colon) a ≡ false → TookWord Lexeme.Equal (Err fault) a new → TellsFault fault new (arg_on m s q (plain_tokens a))
arg_no m s q fault a new none h = begin_on (arg_on m s q (plain_tokens a)) m Lexeme.Equal (λ t. arg_value s q) fault a new (arg_other m s q a none) h

pub arg_equal : (m : ℕ) (s : List ℕ) (q r : ℕ) (a b : List Token) → Took Lexeme.Equal r a b → arg_on m s q (plain_tokens a) ≡ after (read m (part an_expr) (plain_tokens b)) (λ x left. Gave (value_arg (ident s q) x) left)
arg_equal m s q r a b took = ap (λ l. arg_on m s q l) took
