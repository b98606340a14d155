-- What the code's answers say of the rules: it does what the rule reads, and stands where the rule's outcome says.
-- Not trusted: no promise is read with it.
use Rattle.std.specs.Prelude.{◌≡◌, ℕ, List, [], ◌∷◌, map, Result, Ok, Err, Vec, Box}
use Rattle.std.specs.declared.alloc.Global.{Global}
use Rattle.cal_grammar.specs.Program.{Outcome, Gave, Refused, TooHigh, Spent}
use Rattle.cal_ast.specs.Tree.{Tree, cons, listed}
use Rattle.cal_ast.specs.View.{ident_tree, tag_tree}
use Rattle.cal_ast.specs.declared.ident.Ident.{Ident}
use Rattle.cal_ast.specs.declared.ident.Tag.{Tag}
use Rattle.cal_lexer.specs.Lexeme.{Placed, plain_tokens}
use Rattle.cal_lexer.specs.declared.token.Token.{Token}
use Rattle.cal_parse_base.specs.declared.fault.Fault.{Fault}
use Rattle.cal_parse_base.specs.declared.fault.Fault.TheVariants as faults
use Rattle.cal_grammar.specs.Spells.{separated, a_name, a_tag, Mark}
use Rattle.cal_grammar.specs.Rules.{Rule, part, read}

abbrev pub TellsFault : Fault → List Token → Outcome Placed Tree → Type 0
TellsFault faults.Refused new o = o ≡ Refused (plain_tokens new)
TellsFault faults.TooHigh new o = o ≡ TooHigh (plain_tokens new)
TellsFault faults.Memory new o = Unit {0}

-- what is given is the tree that the rule reads in a room of m, or why it reads none; `view` is the tree of a value
abbrev pub Tells : {A : Type 0} → (A → Tree) → ℕ → Rule → Result A Fault → List Token → List Token
    → Type 0
Tells view m r (Ok x) old new = read m r (plain_tokens old) ≡ Gave (view x) (plain_tokens new)
Tells view m r (Err fault) old new = TellsFault fault new (read m r (plain_tokens old))

-- the tree of a value on the heap
abbrev pub boxed : {A : Type 0} → (A → Tree) → Box A Global → Tree
boxed view x = view x.value

-- the tree of a list of values
abbrev pub each : {A : Type 0} → (A → Tree) → Vec A Global → Tree
each view xs = listed (map view xs.items)

abbrev pub TellsNames : Mark → Result (Vec Ident Global) Fault → List Token → List Token → Type 0
TellsNames v (Ok xs) old new = (m : ℕ)
    → read m (part (separated v a_name)) (plain_tokens old)
    ≡ Gave (listed (map ident_tree xs.items)) (plain_tokens new)
TellsNames v (Err fault) old new = (m : ℕ)
    → TellsFault fault new (read m (part (separated v a_name)) (plain_tokens old))

-- the trees before a list of trees
abbrev pub joined : List Tree → Tree → Tree
joined [] ys = ys
joined (x ∷ xs) ys = cons x (joined xs ys)

-- the outcome of a list whose first parts are read
abbrev pub before : List Tree → Outcome Placed Tree → Outcome Placed Tree
before xs (Gave ys left) = Gave (joined xs ys) left
before xs (Refused left) = Refused left
before xs (TooHigh left) = TooHigh left
before xs Spent = Spent

abbrev pub TellsTag : Result Tag Fault → List Token → List Token → Type 0
TellsTag (Ok t) old new = (m : ℕ)
    → read m (part a_tag) (plain_tokens old) ≡ Gave (tag_tree t) (plain_tokens new)
TellsTag (Err fault) old new = (m : ℕ)
    → TellsFault fault new (read m (part a_tag) (plain_tokens old))
