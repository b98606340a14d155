-- Steps within the rules of expressions and types, and what the code's answers say of them.
-- Not trusted: no promise is read with it.
use Rattle.std.specs.Prelude.{◌≡◌, ℕ, zero, suc, Bool, true, false, List, map, Result, Ok, Err}
use Rattle.cal_grammar.specs.Program.{Outcome, Gave, give, fail, ask, take, check, after, exec}
use Rattle.cal_ast.specs.Tree.{Tree, number, truth, call, if_expr, list, comp, index, type_of, ident, listed}
use Rattle.cal_ast.specs.View.{expr_tree, gen_tree, type_tree, type_arg_tree}
use Rattle.cal_lexer.specs.Lexeme.{Lexeme, Placed, plain_tokens}
use Rattle.cal_lexer.specs.declared.token.Token.{Token}
use Rattle.cal_parse_base.specs.declared.fault.Fault.{Fault}
use Rattle.cal_parse_expr.specs.declared.tall.MeasuredExprs.{MeasuredExprs}
use Rattle.cal_parse_expr.specs.declared.tall.MeasuredGen.{MeasuredGen}
use Rattle.cal_parse_expr.specs.declared.tall.MeasuredGens.{MeasuredGens}
use Rattle.cal_parse_expr.specs.declared.tall.MeasuredType.{MeasuredType}
use Rattle.cal_parse_expr.specs.declared.tall.MeasuredTypeArg.{MeasuredTypeArg}
use Rattle.cal_parse_expr.specs.declared.tall.MeasuredTypeArgs.{MeasuredTypeArgs}
use Rattle.cal_ast.specs.Places.{begins}
use Rattle.cal_grammar.specs.Operators.{group, height}
use Rattle.cal_grammar.specs.Rules.{Rule, Step, chain, expect, finish, read}
use Rattle.cal_parse_base.specs.Tells.{TellsFault}
use Rattle.cal_grammar.specs.Token.{here, offset, same_word, value_of}

-- what a step does in a room
abbrev pub does : ℕ → Step → List Placed → Outcome Placed Tree
does m p ts = exec read m p ts

-- what is given is the tree of an outcome, or why there is none
abbrev pub Answers : {A : Type 0} → (A → Tree) → Outcome Placed Tree → Result A Fault → List Token
    → Type 0
Answers view o (Ok x) new = o ≡ Gave (view x) (plain_tokens new)
Answers view o (Err fault) new = TellsFault fault new o

-- the same of a step
abbrev pub Does : {A : Type 0} → (A → Tree) → ℕ → Step → Result A Fault → List Token → List Token
    → Type 0
Does view m p result old new = Answers view (does m p (plain_tokens old)) result new

-- the same of a rule
abbrev pub Reads : {A : Type 0} → (A → Tree) → ℕ → Rule → Result A Fault → List Token → List Token
    → Type 0
Reads view m r result old new = Answers view (read m r (plain_tokens old)) result new

-- the trees of parts with their heights

abbrev pub each_expr : MeasuredExprs → Tree
each_expr xs = listed (map expr_tree xs.exprs.items)

abbrev pub tall_gen : MeasuredGen → Tree
tall_gen g = gen_tree g.generator.value

abbrev pub each_gen : MeasuredGens → Tree
each_gen gs = listed (map gen_tree gs.gens.items)

abbrev pub tall_type : MeasuredType → Tree
tall_type t = type_tree t.shape

abbrev pub tall_type_arg : MeasuredTypeArg → Tree
tall_type_arg t = type_arg_tree t.arg.value

abbrev pub each_type_arg : MeasuredTypeArgs → Tree
each_type_arg ts = listed (map type_arg_tree ts.args.items)

-- the word of a truth value
abbrev pub truth_word : Bool → Lexeme
truth_word true = Lexeme.True
truth_word false = Lexeme.False

-- steps of the rules

abbrev pub number_step : Step
number_step = check 1 (take (λ t. give (number (value_of t) (offset t))))

abbrev pub truth_step : Bool → Step
truth_step value = check 1 (take (λ t. give (truth value (offset t))))

-- the end of a pair of parentheses round x
abbrev pub closing_step : ℕ → Tree → Step
closing_step q x = ask (here (same_word Lexeme.RightParen))
    (check (height (group 0 x)) (take (λ u. give (group q x)))) fail

abbrev pub index_step : Tree → Tree → Step
index_step x i = expect Lexeme.RightBracket (give (index x i (begins x)))

abbrev pub call_step : List ℕ → ℕ → Tree → Step
call_step s q xs = expect Lexeme.RightParen (give (call s xs q))

abbrev pub if_step : ℕ → Tree → Tree → Tree → Step
if_step q x y z = finish Lexeme.If (give (if_expr x y z q))

abbrev pub list_step : ℕ → Tree → Step
list_step q xs = expect Lexeme.RightBracket (give (list xs q))

abbrev pub comp_step : ℕ → Tree → Tree → Step
comp_step q x gs = expect Lexeme.RightBracket (give (comp x gs q))

abbrev pub type_step : List ℕ → ℕ → Tree → Step
type_step s q xs = expect Lexeme.RightParen (give (type_of (ident s q) xs q))

-- Behind a left side: the operations of the levels from n on, k of them, each after the tighter ones.
unfoldable pub climbs : ℕ → ℕ → ℕ → Tree → List Placed → Outcome Placed Tree
climbs m n zero x ts = Gave x ts
climbs m n (suc k) x ts = after (read m (chain n x) ts) (λ y left. climbs m (suc n) k y left)
