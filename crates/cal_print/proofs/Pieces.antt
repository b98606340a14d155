-- Lists and parts that a part of a tree holds, as the members, actions and files have them.
use Rattle.std.proofs.Common.{◌≡◌, ℕ, Bool, true, false, List, [], ◌∷◌, ◌++◌, map, Option, Some, None, if◌then◌else◌, refl, ap, append-nil, sym, ◌∙◌}
use Rattle.cal_ast.specs.Tree.{Tree, listed, nil, cons, action}
use Rattle.cal_ast.specs.View.{member_tree, optional_expr, var_tree, function_tree, procedure_tree, action_tree, schedule_tree, priority_tree}
use Rattle.cal_ast.specs.declared.action.Action.{Action}
use Rattle.cal_ast.specs.declared.action.Schedule.{Schedule}
use Rattle.cal_ast.specs.declared.action.Priority.{Priority}
use Rattle.cal_ast.specs.declared.expr.Expr.{Expr}
use Rattle.cal_ast.specs.declared.member.Member.{Member}
use Rattle.cal_ast.specs.declared.member.Member.TheVariants as members
use Rattle.cal_ast.specs.declared.member.VarDecl.{VarDecl}
use Rattle.cal_ast.specs.declared.member.Function.{Function}
use Rattle.cal_ast.specs.declared.member.Procedure.{Procedure}
use Rattle.cal_lexer.specs.Lexeme.{Lexeme}
use Rattle.cal_print.specs.Tokens.{words, joined, where_any, label, under, start_words, each_member}
use Rattle.cal_print.specs.Inputs.{input_words}
use Rattle.cal_print.specs.Writes.{Writes}
use Rattle.cal_print.proofs.Texts.{reword}

-- the parts of a slice were written, and so those of the vector that it borrows
pub said_of : {X : Type 0} {old new : Option (List ℕ)} {ys xs : List X} (f : X → Tree) (F : Tree → List Lexeme) → ys ≡ xs → Writes old (F (listed (map f ys))) new → Writes old (F (listed (map f xs))) new
said_of f F e w = reword w (ap (λ zs. F (listed (map f zs))) e)

-- the start of a variable stands as under any word
start_under : (word : Lexeme) (e : Option Expr) → under word (optional_expr e) ≡ start_words word (optional_expr e)
start_under word None = refl
start_under word (Some e) = refl

pub said_start : {old new : Option (List ℕ)} (word : Lexeme) (e : Option Expr) → Writes old (under word (optional_expr e)) new → Writes old (start_words word (optional_expr e)) new
said_start word e w = reword w (start_under word e)

-- so it does if the word is the sign of a variable
pub said_signed : {old new : Option (List ℕ)} (changes : Bool) (word : Lexeme) (e : Option Expr) → word ≡ (if changes then Lexeme.Assign else Lexeme.Equal) → Writes old (under word (optional_expr e)) new
    → Writes old (start_words (if changes then Lexeme.Assign else Lexeme.Equal) (optional_expr e)) new
said_signed changes word e is w = reword w (start_under word e ∙ ap (λ v. start_words v (optional_expr e)) is)

-- the tokens of an action, with what stands before its arrow as one piece
pub action_words : (name : Tree) (first : Bool) (patterns outputs guards vars body : Tree) (at : ℕ) →
    words (action name first patterns outputs guards vars body at) ≡
    label name ++ (input_words first patterns ++ (Lexeme.LongDoubleArrow ∷ joined Lexeme.Comma outputs
    ++ where_any guards (Lexeme.Guard ∷ joined Lexeme.Comma guards) ++ where_any vars (Lexeme.Var ∷ joined Lexeme.Comma vars)
    ++ under Lexeme.Do body ++ (Lexeme.End ∷ [])))
action_words name true patterns outputs guards vars body at = refl
action_words name false patterns outputs guards vars body at = refl

-- One member alone

pub one_var : {old new : Option (List ℕ)} (m : Member) (v : VarDecl) → m ≡ members.Var v → Writes old (words (var_tree v) ++ (Lexeme.Semicolon ∷ [])) new → Writes old (each_member (cons (member_tree m) nil)) new
one_var m v e w = reword w (ap (λ x. each_member (cons (member_tree x) nil)) (sym e))

-- a member that isn't a variable stands alone
alone : {old new : Option (List ℕ)} (ws us : List Lexeme) → us ≡ ws ++ [] → Writes old ws new → Writes old us new
alone ws us e w = reword w (sym (append-nil ws) ∙ sym e)

pub one_function : {old new : Option (List ℕ)} (m : Member) (f : Function) → m ≡ members.Function f → Writes old (words (function_tree f)) new → Writes old (each_member (cons (member_tree m) nil)) new
one_function m f e = alone (words (function_tree f)) (each_member (cons (member_tree m) nil)) (ap (λ x. each_member (cons (member_tree x) nil)) e)

pub one_procedure : {old new : Option (List ℕ)} (m : Member) (p : Procedure) → m ≡ members.Procedure p → Writes old (words (procedure_tree p)) new → Writes old (each_member (cons (member_tree m) nil)) new
one_procedure m p e = alone (words (procedure_tree p)) (each_member (cons (member_tree m) nil)) (ap (λ x. each_member (cons (member_tree x) nil)) e)

pub one_action : {old new : Option (List ℕ)} (m : Member) (a : Action) → m ≡ members.Action a → Writes old (words (action_tree a)) new → Writes old (each_member (cons (member_tree m) nil)) new
one_action m a e = alone (words (action_tree a)) (each_member (cons (member_tree m) nil)) (ap (λ x. each_member (cons (member_tree x) nil)) e)

pub one_schedule : {old new : Option (List ℕ)} (m : Member) (s : Schedule) → m ≡ members.Schedule s → Writes old (words (schedule_tree s)) new → Writes old (each_member (cons (member_tree m) nil)) new
one_schedule m s e = alone (words (schedule_tree s)) (each_member (cons (member_tree m) nil)) (ap (λ x. each_member (cons (member_tree x) nil)) e)

pub one_priority : {old new : Option (List ℕ)} (m : Member) (p : Priority) → m ≡ members.Priority p → Writes old (words (priority_tree p)) new → Writes old (each_member (cons (member_tree m) nil)) new
one_priority m p e = alone (words (priority_tree p)) (each_member (cons (member_tree m) nil)) (ap (λ x. each_member (cons (member_tree x) nil)) e)
