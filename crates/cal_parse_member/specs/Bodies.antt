-- What the code's answers say of pieces of the rules.
-- Not trusted: no promise is read with it.
use Rattle.std.specs.Prelude.{◌≡◌, ℕ, Bool, true, false, List, map, option_map, string_bytes, Result, Ok, Err}
use Rattle.cal_grammar.specs.Program.{Gave, exec, invoke, give}
use Rattle.cal_ast.specs.Tree.{Tree, absent, present, cons, tag, listed}
use Rattle.cal_ast.specs.View.{ident_tree, optional, pattern_tree}
use Rattle.cal_ast.specs.declared.ident.Ident.{Ident}
use Rattle.cal_lexer.specs.Lexeme.{Lexeme, plain_tokens}
use Rattle.cal_lexer.specs.declared.token.Token.{Token}
use Rattle.cal_parse_member.specs.declared.actions.Opening.{Opening}
use Rattle.cal_parse_member.specs.declared.actions.Start.{Start}
use Rattle.cal_parse_base.specs.declared.fault.Fault.{Fault}
use Rattle.cal_grammar.specs.Operators.{with_tag}
use Rattle.cal_grammar.specs.Spells.{an_action, a_name, dot, rest}
use Rattle.cal_grammar.specs.Token.{offset}
use Rattle.cal_grammar.specs.Rules.{Step, part, read, begin, named, expect, ident_of, action_rest, type_tail, var_tail}
use Rattle.cal_parse_base.specs.Tells.{TellsFault}

-- what is given is the tree that a step of a rule reads in a room of m, or why it reads none
abbrev pub TellsStep : {A : Type 0} → (A → Tree) → ℕ → Step → Result A Fault → List Token
    → List Token → Type 0
TellsStep view m step (Ok x) old new = exec read m step (plain_tokens old)
    ≡ Gave (view x) (plain_tokens new)
TellsStep view m step (Err fault) old new =
    TellsFault fault new (exec read m step (plain_tokens old))

-- a pattern or an output up to its `[`: the port that it names, if any, and its offset
abbrev pub opened : (Tree → ℕ → Step) → Step
opened next = begin Lexeme.LeftBracket
    (λ t. next absent (offset t)) (named
    (λ t. expect Lexeme.Colon (expect Lexeme.LeftBracket (next (present (ident_of t)) (offset t)))))

-- what follows the `[` of a pattern or an output
abbrev pub after_opening : (Tree → ℕ → Step) → Opening → Step
after_opening next o = next (optional (option_map ident_tree o.port)) o.at

-- a pattern or an output goes on from its `[`
abbrev pub TellsOpening : Result Opening Fault → List Token → List Token → Type 0
TellsOpening (Ok o) old new = (m : ℕ) (next : Tree → ℕ → Step)
    → exec read m (opened next) (plain_tokens old)
    ≡ exec read m (after_opening next o) (plain_tokens new)
TellsOpening (Err fault) old new = (m : ℕ) (next : Tree → ℕ → Step)
    → TellsFault fault new (exec read m (opened next) (plain_tokens old))

-- the word that an action begins with
abbrev pub opener : Bool → Lexeme
opener true = Lexeme.Initialize
opener false = Lexeme.Action

-- what follows the `==>` of an action
abbrev pub after_arrow : Start → Step
after_arrow s = action_rest (opener s.initialize) s.initialize
    (listed (map pattern_tree s.patterns.items)) s.at

-- an action goes on from its `==>`
abbrev pub TellsStart : ℕ → Result Start Fault → List Token → List Token → Type 0
TellsStart m (Ok s) old new = read m (part an_action) (plain_tokens old)
    ≡ exec read m (after_arrow s) (plain_tokens new)
TellsStart m (Err fault) old new = TellsFault fault new (read m (part an_action) (plain_tokens old))

-- what follows the first name of the tag of an action
abbrev pub after_label : Ident → Step
after_label i = invoke (part (rest dot a_name))
    (λ xs. expect Lexeme.Colon (invoke (part an_action)
    (λ x. give (with_tag (tag (cons (ident_tree i) xs) i.at) x))))

-- what follows the name of the type of a variable, up to the `;`
abbrev pub after_type : Ident → Step
after_type i = invoke (type_tail (string_bytes i.text) i.at)
    (λ shape. invoke (var_tail shape) (λ x. expect Lexeme.Semicolon (give x)))
