-- Where the code that reads an operand or a type leaves, and what its rule's outcome is there.
use Rattle.std.proofs.Common.{◌≡◌, ℕ, suc, ◌-◌, ◌≤◌, Bool, true, false, List, [], ◌∷◌, ◌++◌, Option, Some, None, IsSome, Result, Err, option_to_list, length, ◌<◌, refl, sym, subst, ap, ◌∙◌, arith}
use Rattle.cal_grammar.specs.Program.{Outcome, Gave, Refused, after, check, take, invoke, enter, give}
use Rattle.cal_ast.specs.Tree.{Tree, cons, ident, gen, nil, shape_arg, value_arg, type_of}
use Rattle.cal_lexer.specs.Lexeme.{Lexeme, Placed, plain_tokens}
use Rattle.cal_lexer.specs.declared.token.Token.{Token}
use Rattle.cal_parse_base.specs.Cursor.{Took, TookName, TookWord, stands}
use Rattle.cal_parse_base.specs.Leading.{LedByName, LedByWord, TookOpens}
use Rattle.cal_grammar.specs.Rules.{expect, ident_of, if_body, list_body, name_body, part, read, type_tail}
use Rattle.cal_grammar.specs.Spells.{a_gen, a_type, a_type_arg, an_expr, any, comma, separated}
use Rattle.cal_parse_expr.specs.Steps.{Answers, call_step, comp_step, does, if_step, list_step, type_step}
use Rattle.cal_parse_base.specs.Tells.{TellsFault}
use Rattle.cal_grammar.specs.Token.{kind_of, same_word}
use Rattle.cal_parse_base.specs.declared.fault.Fault.{Fault}
use Rattle.cal_parse_base.specs.declared.fault.Fault.TheVariants as faults
use Rattle.cal_parse_expr.proofs.Climbing.{fault_same}
use Rattle.cal_parse_expr.proofs.Going.{answers_same, expect_on, fault_on, gave_on, name_led, named_on, word_led}
use Rattle.cal_parse_base.proofs.Taking.{length-plain}
use Rattle.cal_parse_expr.proofs.Primaries

-- a fault that is passed on
pub fault_answers : {A : Type 0} (view : A → Tree) (o : Outcome Placed Tree) (result : Result A Fault) (fault : Fault) (new : List Token) → result ≡ Err fault → TellsFault fault new o → Answers view o result new
fault_answers view o result fault new e h = subst (λ r. Answers view o r new) (sym e) h

-- a variable or a call

abbrev pub Named : ℕ → List Token → Outcome Placed Tree
Named m old = does m (check 1 (take name_body)) (plain_tokens old)

pub named_led : (m : ℕ) (old : List Token) (fault : Fault) (new : List Token) → LedByName m (Err fault) old new → TellsFault fault new (Named m old)
named_led m old fault new h = name_led (Named m old) m name_body fault old new refl h

module _ (m : ℕ) (s : List ℕ) (q r : ℕ) (old mid l : List Token) (took : Took (Lexeme.Name s) q old mid) (low : 1 ≤ m) (paren : Took Lexeme.LeftParen r mid l) where
  named_goes : Named m old ≡ after (read (m - 1) (part (any comma an_expr)) (plain_tokens l)) (λ xs left. does m (call_step s q xs) left)
  named_goes = Primaries.named_call m s q r old mid l took low paren

  pub named_fault : (fault : Fault) (new : List Token) → TellsFault fault new (read (m - 1) (part (any comma an_expr)) (plain_tokens l)) → TellsFault fault new (Named m old)
  named_fault fault new h = fault_on (Named m old) (read (m - 1) (part (any comma an_expr)) (plain_tokens l)) (λ xs left. does m (call_step s q xs) left) fault new named_goes h

  pub named_called : {A : Type 0} (view : A → Tree) (result : Result A Fault) (xs : Tree) (left new : List Token) → read (m - 1) (part (any comma an_expr)) (plain_tokens l) ≡ Gave xs (plain_tokens left) → Answers view (does m (call_step s q xs) (plain_tokens left)) result new → Answers view (Named m old) result new
  named_called view result xs left new e h =
      answers_same view result new (Named m old) (does m (call_step s q xs) (plain_tokens left)) (gave_on (Named m old) (read (m - 1) (part (any comma an_expr)) (plain_tokens l)) (λ ys at. does m (call_step s q ys) at) xs (plain_tokens left) named_goes e) h

-- an `if`

abbrev pub Choice : ℕ → List Token → Outcome Placed Tree
Choice m old = does m (check 1 (take if_body)) (plain_tokens old)

pub choice_led : (m : ℕ) (old : List Token) (fault : Fault) (new : List Token) → LedByWord m Lexeme.If (Err fault) old new → TellsFault fault new (Choice m old)
choice_led m old fault new h = word_led (Choice m old) m Lexeme.If if_body fault old new refl h

module _ (m q : ℕ) (old l0 : List Token) (took : Took Lexeme.If q old l0) (low : 1 ≤ m) where
  pub choice_test : (fault : Fault) (new : List Token) → TellsFault fault new (read (m - 1) (part an_expr) (plain_tokens l0)) → TellsFault fault new (Choice m old)
  choice_test fault new h = fault_on (Choice m old) (read (m - 1) (part an_expr) (plain_tokens l0)) (Primaries.if_test m q) fault new (Primaries.if_goes m q old l0 took low) h

  module _ (x : Tree) (l1 : List Token) (e1 : read (m - 1) (part an_expr) (plain_tokens l0) ≡ Gave x (plain_tokens l1)) where
    choice_1 : Choice m old ≡ Primaries.if_test m q x (plain_tokens l1)
    choice_1 = gave_on (Choice m old) (read (m - 1) (part an_expr) (plain_tokens l0)) (Primaries.if_test m q) x (plain_tokens l1) (Primaries.if_goes m q old l0 took low) e1

    pub choice_then : (fault : Fault) (new : List Token) → TookWord Lexeme.Then (Err fault) l1 new → TellsFault fault new (Choice m old)
    choice_then fault new h = expect_on (Choice m old) m Lexeme.Then (enter (part an_expr) (λ y. expect Lexeme.Else (enter (part an_expr) (λ z. if_step q x y z)))) fault l1 new choice_1 h

    module _ (r : ℕ) (l2 : List Token) (then_took : Took Lexeme.Then r l1 l2) where
      pub choice_yes : (fault : Fault) (new : List Token) → TellsFault fault new (read (m - 1) (part an_expr) (plain_tokens l2)) → TellsFault fault new (Choice m old)
      choice_yes fault new h = fault_on (Choice m old) (read (m - 1) (part an_expr) (plain_tokens l2)) (Primaries.if_yes m q x) fault new (choice_1 ∙ Primaries.if_then m q r x l1 l2 then_took) h

      module _ (y : Tree) (l3 : List Token) (e2 : read (m - 1) (part an_expr) (plain_tokens l2) ≡ Gave y (plain_tokens l3)) where
        choice_2 : Choice m old ≡ Primaries.if_yes m q x y (plain_tokens l3)
        choice_2 = gave_on (Choice m old) (read (m - 1) (part an_expr) (plain_tokens l2)) (Primaries.if_yes m q x) y (plain_tokens l3) (choice_1 ∙ Primaries.if_then m q r x l1 l2 then_took) e2

        pub choice_else : (fault : Fault) (new : List Token) → TookWord Lexeme.Else (Err fault) l3 new → TellsFault fault new (Choice m old)
        choice_else fault new h = expect_on (Choice m old) m Lexeme.Else (enter (part an_expr) (λ z. if_step q x y z)) fault l3 new choice_2 h

        module _ (t : ℕ) (l4 : List Token) (else_took : Took Lexeme.Else t l3 l4) where
          pub choice_no : (fault : Fault) (new : List Token) → TellsFault fault new (read (m - 1) (part an_expr) (plain_tokens l4)) → TellsFault fault new (Choice m old)
          choice_no fault new h = fault_on (Choice m old) (read (m - 1) (part an_expr) (plain_tokens l4)) (Primaries.if_no m q x y) fault new (choice_2 ∙ Primaries.if_else m q t x y l3 l4 else_took) h

          pub choice_ends : {A : Type 0} (view : A → Tree) (result : Result A Fault) (z : Tree) (l5 new : List Token) → read (m - 1) (part an_expr) (plain_tokens l4) ≡ Gave z (plain_tokens l5) → Answers view (does m (if_step q x y z) (plain_tokens l5)) result new → Answers view (Choice m old) result new
          choice_ends view result z l5 new e3 h =
              answers_same view result new (Choice m old) (does m (if_step q x y z) (plain_tokens l5)) (gave_on (Choice m old) (read (m - 1) (part an_expr) (plain_tokens l4)) (Primaries.if_no m q x y) z (plain_tokens l5) (choice_2 ∙ Primaries.if_else m q t x y l3 l4 else_took) e3) h

-- a list or a comprehension

abbrev pub Bracketed : ℕ → List Token → Outcome Placed Tree
Bracketed m old = does m (check 1 (take list_body)) (plain_tokens old)

pub bracketed_led : (m : ℕ) (old : List Token) (fault : Fault) (new : List Token) → LedByWord m Lexeme.LeftBracket (Err fault) old new → TellsFault fault new (Bracketed m old)
bracketed_led m old fault new h = word_led (Bracketed m old) m Lexeme.LeftBracket list_body fault old new refl h

module _ (m q : ℕ) (old l0 : List Token) (took : Took Lexeme.LeftBracket q old l0) (low : 1 ≤ m) where
  pub bracketed_first : (fault : Fault) (new : List Token) → TellsFault fault new (read (m - 1) (part an_expr) (plain_tokens l0)) → TellsFault fault new (Bracketed m old)
  bracketed_first fault new h = fault_on (Bracketed m old) (read (m - 1) (part an_expr) (plain_tokens l0)) (Primaries.list_on m q) fault new (Primaries.list_goes m q old l0 took low) h

  module _ (x : Tree) (l1 : List Token) (e1 : read (m - 1) (part an_expr) (plain_tokens l0) ≡ Gave x (plain_tokens l1)) where
    bracketed_1 : Bracketed m old ≡ Primaries.list_on m q x (plain_tokens l1)
    bracketed_1 = gave_on (Bracketed m old) (read (m - 1) (part an_expr) (plain_tokens l0)) (Primaries.list_on m q) x (plain_tokens l1) (Primaries.list_goes m q old l0 took low) e1

    pub bracketed_alone : {A : Type 0} (view : A → Tree) (result : Result A Fault) (xs : Tree) (new : List Token) → stands (same_word Lexeme.Colon) l1 ≡ false → stands (same_word Lexeme.Comma) l1 ≡ false → xs ≡ cons x nil → Answers view (does m (list_step q xs) (plain_tokens l1)) result new → Answers view (Bracketed m old) result new
    bracketed_alone view result xs new colon none is h =
        answers_same view result new (Bracketed m old) (does m (list_step q xs) (plain_tokens l1)) (bracketed_1 ∙ Primaries.list_alone m q x l1 colon none ∙ ap (λ l. does m (list_step q l) (plain_tokens l1)) (sym is)) h

    module _ (r : ℕ) (l2 : List Token) (colon : Took Lexeme.Colon r l1 l2) where
      pub bracketed_gens : (fault : Fault) (new : List Token) → TellsFault fault new (read (m - 1) (part (separated comma a_gen)) (plain_tokens l2)) → TellsFault fault new (Bracketed m old)
      bracketed_gens fault new h = fault_on (Bracketed m old) (read (m - 1) (part (separated comma a_gen)) (plain_tokens l2)) (λ gs left. does m (comp_step q x gs) left) fault new (bracketed_1 ∙ Primaries.list_colon m q r x l1 l2 colon) h

      pub bracketed_comp : {A : Type 0} (view : A → Tree) (result : Result A Fault) (gs : Tree) (l3 new : List Token) → read (m - 1) (part (separated comma a_gen)) (plain_tokens l2) ≡ Gave gs (plain_tokens l3) → Answers view (does m (comp_step q x gs) (plain_tokens l3)) result new → Answers view (Bracketed m old) result new
      bracketed_comp view result gs l3 new e h =
          answers_same view result new (Bracketed m old) (does m (comp_step q x gs) (plain_tokens l3)) (gave_on (Bracketed m old) (read (m - 1) (part (separated comma a_gen)) (plain_tokens l2)) (λ ys left. does m (comp_step q x ys) left) gs (plain_tokens l3) (bracketed_1 ∙ Primaries.list_colon m q r x l1 l2 colon) e) h

    module _ (r : ℕ) (l2 : List Token) (comma_took : Took Lexeme.Comma r l1 l2) where
      pub bracketed_others : (fault : Fault) (new : List Token) → TellsFault fault new (read (m - 1) (part (separated comma an_expr)) (plain_tokens l2)) → TellsFault fault new (Bracketed m old)
      bracketed_others fault new h = fault_on (Bracketed m old) (read (m - 1) (part (separated comma an_expr)) (plain_tokens l2)) (λ xs left. does m (list_step q (cons x xs)) left) fault new (bracketed_1 ∙ Primaries.list_more m q r x l1 l2 comma_took) h

      pub bracketed_list : {A : Type 0} (view : A → Tree) (result : Result A Fault) (xs ys : Tree) (l3 new : List Token) → read (m - 1) (part (separated comma an_expr)) (plain_tokens l2) ≡ Gave xs (plain_tokens l3) → ys ≡ cons x xs → Answers view (does m (list_step q ys) (plain_tokens l3)) result new → Answers view (Bracketed m old) result new
      bracketed_list view result xs ys l3 new e is h =
          answers_same view result new (Bracketed m old) (does m (list_step q ys) (plain_tokens l3)) (gave_on (Bracketed m old) (read (m - 1) (part (separated comma an_expr)) (plain_tokens l2)) (λ zs left. does m (list_step q (cons x zs)) left) xs (plain_tokens l3) (bracketed_1 ∙ Primaries.list_more m q r x l1 l2 comma_took) e ∙ ap (λ l. does m (list_step q l) (plain_tokens l3)) (sym is)) h

-- a generator

abbrev pub Generator : ℕ → List Token → Outcome Placed Tree
Generator m old = read m (part a_gen) (plain_tokens old)

module _ (m q : ℕ) (old l0 : List Token) (took : Took Lexeme.For q old l0) where
  pub generator_shape : (fault : Fault) (new : List Token) → TellsFault fault new (read m (part a_type) (plain_tokens l0)) → TellsFault fault new (Generator m old)
  generator_shape fault new h = fault_on (Generator m old) (read m (part a_type) (plain_tokens l0)) (Primaries.gen_shape m q) fault new (Primaries.gen_goes m q old l0 took) h

  module _ (shape : Tree) (l1 : List Token) (e1 : read m (part a_type) (plain_tokens l0) ≡ Gave shape (plain_tokens l1)) where
    generator_1 : Generator m old ≡ Primaries.gen_shape m q shape (plain_tokens l1)
    generator_1 = gave_on (Generator m old) (read m (part a_type) (plain_tokens l0)) (Primaries.gen_shape m q) shape (plain_tokens l1) (Primaries.gen_goes m q old l0 took) e1

    pub generator_name : (fault : Fault) (new : List Token) → TookName (Err fault) l1 new → TellsFault fault new (Generator m old)
    generator_name fault new h = named_on (Generator m old) m (λ i. expect Lexeme.In (invoke (part an_expr) (λ x. expect Lexeme.DotDot (invoke (part an_expr) (λ y. give (gen shape (ident_of i) x y q)))))) fault l1 new generator_1 h

    module _ (s : List ℕ) (r : ℕ) (l2 : List Token) (name_took : Took (Lexeme.Name s) r l1 l2) where
      generator_2 : Generator m old ≡ does m (Primaries.gen_in q shape s r) (plain_tokens l2)
      generator_2 = generator_1 ∙ Primaries.gen_name m q r shape s l1 l2 name_took

      pub generator_in : (fault : Fault) (new : List Token) → TookWord Lexeme.In (Err fault) l2 new → TellsFault fault new (Generator m old)
      generator_in fault new h = expect_on (Generator m old) m Lexeme.In (invoke (part an_expr) (λ x. Primaries.gen_from q shape s r x)) fault l2 new generator_2 h

      module _ (t : ℕ) (l3 : List Token) (in_took : Took Lexeme.In t l2 l3) where
        pub generator_from : (fault : Fault) (new : List Token) → TellsFault fault new (read m (part an_expr) (plain_tokens l3)) → TellsFault fault new (Generator m old)
        generator_from fault new h = fault_on (Generator m old) (read m (part an_expr) (plain_tokens l3)) (Primaries.gen_bound m q shape s r) fault new (generator_2 ∙ Primaries.gen_in_goes m q r t shape s l2 l3 in_took) h

        module _ (x : Tree) (l4 : List Token) (e2 : read m (part an_expr) (plain_tokens l3) ≡ Gave x (plain_tokens l4)) where
          generator_3 : Generator m old ≡ Primaries.gen_bound m q shape s r x (plain_tokens l4)
          generator_3 = gave_on (Generator m old) (read m (part an_expr) (plain_tokens l3)) (Primaries.gen_bound m q shape s r) x (plain_tokens l4) (generator_2 ∙ Primaries.gen_in_goes m q r t shape s l2 l3 in_took) e2

          pub generator_dots : (fault : Fault) (new : List Token) → TookWord Lexeme.DotDot (Err fault) l4 new → TellsFault fault new (Generator m old)
          generator_dots fault new h = expect_on (Generator m old) m Lexeme.DotDot (invoke (part an_expr) (λ y. give (gen shape (ident s r) x y q))) fault l4 new generator_3 h

          module _ (u : ℕ) (l5 : List Token) (dots_took : Took Lexeme.DotDot u l4 l5) where
            pub generator_to : (fault : Fault) (new : List Token) → TellsFault fault new (read m (part an_expr) (plain_tokens l5)) → TellsFault fault new (Generator m old)
            generator_to fault new h = fault_on (Generator m old) (read m (part an_expr) (plain_tokens l5)) (λ y left. Gave (gen shape (ident s r) x y q) left) fault new (generator_3 ∙ Primaries.gen_to m q r u shape s x l4 l5 dots_took) h

            pub generator_ends : (y g : Tree) (l6 : List Token) → read m (part an_expr) (plain_tokens l5) ≡ Gave y (plain_tokens l6) → g ≡ gen shape (ident s r) x y q → Generator m old ≡ Gave g (plain_tokens l6)
            generator_ends y g l6 e3 is = gave_on (Generator m old) (read m (part an_expr) (plain_tokens l5)) (λ z left. Gave (gen shape (ident s r) x z q) left) y (plain_tokens l6) (generator_3 ∙ Primaries.gen_to m q r u shape s x l4 l5 dots_took) e3 ∙ ap (λ z. Gave z (plain_tokens l6)) (sym is)

-- a type, from the outcome S that its tail is

module _ (S : Outcome Placed Tree) (m : ℕ) (s : List ℕ) (q : ℕ) (mid : List Token) (is_tail : S ≡ read m (type_tail s q) (plain_tokens mid)) where
  pub type_alone : (x : Tree) → stands (same_word Lexeme.LeftParen) mid ≡ false → x ≡ type_of (ident s q) nil q → S ≡ Gave x (plain_tokens mid)
  type_alone x none is = is_tail ∙ Primaries.tail_alone m s q mid none ∙ ap (λ z. Gave z (plain_tokens mid)) (sym is)

  module _ (r : ℕ) (l : List Token) (paren : Took Lexeme.LeftParen r mid l) where
    pub type_fault : (fault : Fault) (new : List Token) → TellsFault fault new (read (m - 1) (part (separated comma a_type_arg)) (plain_tokens l)) → TellsFault fault new S
    type_fault fault new h = fault_on S (read (m - 1) (part (separated comma a_type_arg)) (plain_tokens l)) (λ xs left. does m (type_step s q xs) left) fault new (is_tail ∙ Primaries.tail_goes m s q r mid l paren) h

    pub type_ends : {A : Type 0} (view : A → Tree) (result : Result A Fault) (xs : Tree) (left new : List Token) → read (m - 1) (part (separated comma a_type_arg)) (plain_tokens l) ≡ Gave xs (plain_tokens left) → Answers view (does m (type_step s q xs) (plain_tokens left)) result new → Answers view S result new
    type_ends view result xs left new e h =
        answers_same view result new S (does m (type_step s q xs) (plain_tokens left)) (gave_on S (read (m - 1) (part (separated comma a_type_arg)) (plain_tokens l)) (λ ys at. does m (type_step s q ys) at) xs (plain_tokens left) (is_tail ∙ Primaries.tail_goes m s q r mid l paren) e) h

-- an argument of a type

abbrev pub Arg : ℕ → List Token → Outcome Placed Tree
Arg m old = read m (part a_type_arg) (plain_tokens old)

module _ (m : ℕ) (s : List ℕ) (q : ℕ) (old l0 : List Token) (took : Took (Lexeme.Name s) q old l0) where
  module _ (r : ℕ) (l1 : List Token) (colon : Took Lexeme.Colon r l0 l1) where
    arg_1 : Arg m old ≡ after (read m (part a_type) (plain_tokens l1)) (λ x left. Gave (shape_arg (ident s q) x) left)
    arg_1 = Primaries.arg_goes m s q old l0 took ∙ Primaries.arg_colon m s q r l0 l1 colon

    pub arg_shape : (fault : Fault) (new : List Token) → TellsFault fault new (read m (part a_type) (plain_tokens l1)) → TellsFault fault new (Arg m old)
    arg_shape fault new h = fault_on (Arg m old) (read m (part a_type) (plain_tokens l1)) (λ x left. Gave (shape_arg (ident s q) x) left) fault new arg_1 h

    pub arg_shaped : (x a : Tree) (l2 : List Token) → read m (part a_type) (plain_tokens l1) ≡ Gave x (plain_tokens l2) → a ≡ shape_arg (ident s q) x → Arg m old ≡ Gave a (plain_tokens l2)
    arg_shaped x a l2 e is = gave_on (Arg m old) (read m (part a_type) (plain_tokens l1)) (λ y left. Gave (shape_arg (ident s q) y) left) x (plain_tokens l2) arg_1 e ∙ ap (λ z. Gave z (plain_tokens l2)) (sym is)

  pub arg_neither : (fault : Fault) (new : List Token) → stands (same_word Lexeme.Colon) l0 ≡ false → TookWord Lexeme.Equal (Err fault) l0 new → TellsFault fault new (Arg m old)
  arg_neither fault new none h = fault_same fault new (Arg m old) (Primaries.arg_on m s q (plain_tokens l0)) (Primaries.arg_goes m s q old l0 took) (Primaries.arg_no m s q fault l0 new none h)

  module _ (r : ℕ) (l1 : List Token) (equal : Took Lexeme.Equal r l0 l1) where
    arg_2 : Arg m old ≡ after (read m (part an_expr) (plain_tokens l1)) (λ x left. Gave (value_arg (ident s q) x) left)
    arg_2 = Primaries.arg_goes m s q old l0 took ∙ Primaries.arg_equal m s q r l0 l1 equal

    pub arg_value : (fault : Fault) (new : List Token) → TellsFault fault new (read m (part an_expr) (plain_tokens l1)) → TellsFault fault new (Arg m old)
    arg_value fault new h = fault_on (Arg m old) (read m (part an_expr) (plain_tokens l1)) (λ x left. Gave (value_arg (ident s q) x) left) fault new arg_2 h

    pub arg_valued : (x a : Tree) (l2 : List Token) → read m (part an_expr) (plain_tokens l1) ≡ Gave x (plain_tokens l2) → a ≡ value_arg (ident s q) x → Arg m old ≡ Gave a (plain_tokens l2)
    arg_valued x a l2 e is = gave_on (Arg m old) (read m (part an_expr) (plain_tokens l1)) (λ y left. Gave (value_arg (ident s q) y) left) x (plain_tokens l2) arg_2 e ∙ ap (λ z. Gave z (plain_tokens l2)) (sym is)

-- parentheses that are kept while what stands inside is read

pub opens_fault : (o : Outcome Placed Tree) (fault : Fault) (old new : List Token) → TookOpens (Err fault) old new → TellsFault fault new o
opens_fault o faults.Refused old new h = absurd h
opens_fault o faults.TooHigh old new h = absurd h
opens_fault o faults.Memory old new h = tt

pub popped : (old new : List ℕ) (result : Option ℕ) (q : ℕ) → old ≡ new ++ option_to_list result → result ≡ Some q → old ≡ new ++ q ∷ []
popped old new result q e is = e ∙ ap (λ r. new ++ option_to_list r) is

pub all_popped : (old : List ℕ) (n : ℕ) (result : Option ℕ) → (0 < n → IsSome result) → n ≡ length old → result ≡ None → old ≡ []
all_popped [] n result some size none = refl
all_popped (q ∷ qs) n result some size none =
    let more : n ≡ suc (length qs) = size in
    let off : false ≡ true = subst IsSome none (some (omega arith)) in
    cc

-- behind a word that comes no more tokens are left than before it
expect_less : (m : ℕ) (w : Lexeme) (x : Tree) (ts : List Placed) (y : Tree) (left : List Placed) → does m (expect w (give x)) ts ≡ Gave y left → length left ≤ length ts
expect_less m w x [] y left e = absurd cc
expect_less m w x (t ∷ l) y left e = branch (same_word w (kind_of t)) e
  where
    branch : (b : Bool) → ◌≡◌ {A = Outcome Placed Tree} (elim b [ true ↦ Gave x l | false ↦ Refused (t ∷ l) ]) (Gave y left) → length left ≤ length (t ∷ l)
    branch true h = let same : length l ≡ length left = ap length (let s : l ≡ left = cc in s) in omega arith
    branch false h = absurd cc

pub word_less : (m : ℕ) (w : Lexeme) (x : Tree) (old : List Token) (y : Tree) (new : List Token) → does m (expect w (give x)) (plain_tokens old) ≡ Gave y (plain_tokens new) → length new ≤ length old
word_less m w x old y new e =
    let less : length (plain_tokens new) ≤ length (plain_tokens old) = expect_less m w x (plain_tokens old) y (plain_tokens new) e in
    omega (arith, length-plain old, length-plain new)
