-- Patterns, outputs and actions: what their beginning says of the whole.
use Rattle.std.proofs.Common.{◌≡◌, ℕ, true, List, [], ◌∷◌, map, Vec, Global, Result, Ok, Err, refl, sym, ap, ◌∙◌}
use Rattle.cal_grammar.specs.Program.{Outcome, exec}
use Rattle.cal_ast.specs.Tree.{Tree, nil, listed}
use Rattle.cal_ast.specs.View.{pattern_tree}
use Rattle.cal_ast.specs.declared.action.Pattern.{Pattern}
use Rattle.cal_lexer.specs.Lexeme.{Lexeme, Placed, placed, plain_tokens}
use Rattle.cal_lexer.specs.declared.token.Token.{Token}
use Rattle.cal_parse_member.specs.Bodies.{opened, after_opening, TellsOpening, TellsStep}
use Rattle.cal_parse_base.specs.Cursor.{Took}
use Rattle.cal_grammar.specs.Rules.{Rule, Step, part, read, action_rest}
use Rattle.cal_grammar.specs.Spells.{an_action}
use Rattle.cal_parse_base.specs.Tells.{Tells, TellsFault}
use Rattle.cal_grammar.proofs.Reading.{read_is}
use Rattle.cal_parse_member.specs.declared.actions.Opening.{Opening}
use Rattle.cal_parse_base.specs.declared.fault.Fault.{Fault}
use Rattle.cal_parse_base.specs.declared.fault.Fault.TheVariants as faults

-- the same fault if the outcome is the same
same_fault : (fault : Fault) (new : List Token) (o n : Outcome Placed Tree) → o ≡ n → TellsFault fault new n → TellsFault fault new o
same_fault faults.Refused new o n e h = e ∙ h
same_fault faults.TooHigh new o n e h = e ∙ h
same_fault faults.Memory new o n e h = tt

-- what a rule reads is what a step reads from another place on
pub goes_on : {A : Type 0} (view : A → Tree) (m : ℕ) (r : Rule) (step : Step) (old mid new : List Token) (result : Result A Fault) → read m r (plain_tokens old) ≡ exec read m step (plain_tokens mid) → TellsStep view m step result mid new → Tells view m r result old new
goes_on view m r step old mid new (Ok x) e h = e ∙ h
goes_on view m r step old mid new (Err fault) e h = same_fault fault new (read m r (plain_tokens old)) (exec read m step (plain_tokens mid)) e h

module _ (m : ℕ) (r : Rule) (next : Tree → ℕ → Step) (old : List Token) (is : read m r (plain_tokens old) ≡ exec read m (opened next) (plain_tokens old)) where
  pub opening_fails : (new : List Token) (fault : Fault) → TellsOpening (Err fault) old new → TellsFault fault new (read m r (plain_tokens old))
  opening_fails new fault h = same_fault fault new (read m r (plain_tokens old)) (exec read m (opened next) (plain_tokens old)) is (h m next)

  pub opening_goes_on : {A : Type 0} (view : A → Tree) (o : Opening) (mid new : List Token) (result : Result A Fault) → TellsOpening (Ok o) old mid → TellsStep view m (after_opening next o) result mid new → Tells view m r result old new
  opening_goes_on view o mid new result h g = goes_on view m r (after_opening next o) old mid new result (is ∙ h m next) g

-- an `initialize` up to its `==>`, which has no patterns
pub initialize_starts : (m q r : ℕ) (ps : Vec Pattern Global) (old mid new : List Token) → Took Lexeme.Initialize q old mid → Took Lexeme.LongDoubleArrow r mid new → ps.items ≡ [] → read m (part an_action) (plain_tokens old) ≡ exec read m (action_rest Lexeme.Initialize true (listed (map pattern_tree ps.items)) q) (plain_tokens new)
initialize_starts m q r ps old mid new begun arrow none =
    let front : plain_tokens old ≡ placed Lexeme.Initialize q ∷ placed Lexeme.LongDoubleArrow r ∷ plain_tokens new = begun ∙ ap (λ l. placed Lexeme.Initialize q ∷ l) arrow in
    let step : read m (part an_action) (placed Lexeme.Initialize q ∷ placed Lexeme.LongDoubleArrow r ∷ plain_tokens new) ≡ exec read m (action_rest Lexeme.Initialize true nil q) (plain_tokens new) = rw (read_is m (part an_action) (placed Lexeme.Initialize q ∷ placed Lexeme.LongDoubleArrow r ∷ plain_tokens new), exec) refl in
    ap (λ l. read m (part an_action) l) front ∙ step ∙ ap (λ l. exec read m (action_rest Lexeme.Initialize true (listed (map pattern_tree l)) q) (plain_tokens new)) (sym none)
