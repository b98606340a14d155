-- Members and files: what their rules keep to.
use Rattle.std.proofs.Common.{◌≡◌, ℕ, suc, ◌+◌, ◌*◌, ◌<◌, ◌≤◌, Bool, true, false, List, [], ◌∷◌, length, refl, subst, arith}
use Rattle.cal_grammar.specs.Program.{give, invoke, ahead}
use Rattle.cal_ast.specs.Tree.{Tree, absent, nil, cons, ident, tag, action}
use Rattle.cal_lexer.specs.Lexeme.{Lexeme, Placed, placed}
use Rattle.cal_grammar.specs.Operators.{ends, onto, height}
use Rattle.cal_grammar.specs.Spells.{comma, dot, greater, Spells, separated, rest, any, repeated, a_type, a_var, some_vars, a_param, a_port, a_name, a_tag, a_stmt, a_function, a_procedure, some_guards, some_repeat, a_body, an_in, an_out, an_action, a_move, a_schedule, a_chain, a_priority, a_member, members, a_unit_member, a_path, an_import, an_actor, a_unit, some_imports, a_file, an_expr, the_separated, the_name, the_tag, the_function, the_procedure, the_no_guards, the_guards, the_no_repeat, the_repeat, the_no_body, the_body, the_in, the_in_at, the_out, the_out_at, the_action, the_initialize, the_unlabelled, the_labelled, the_move, the_schedule, the_chain, the_priority, the_var_member, the_function_member, the_procedure_member, the_action_member, the_priority_member, the_no_members, the_member, the_schedule_member, the_unit_var, the_unit_function, the_path_name, the_path_all, the_path_on, the_import, the_actor, the_unit, the_actor_file, the_unit_file, the_file, the_package_file}
use Rattle.cal_grammar.specs.Rules.{part, var_tail, whole, size, expect}
use Rattle.cal_grammar.proofs.Meets.{IsRead, Meets, Keeps, Shows, gives, fails, asks, checks, jumps, word_or, name_or, invoked, invokes, expects, finishes, some_left, turns}
use Rattle.cal_grammar.proofs.Costs.{costs}
use Rattle.cal_grammar.specs.Rules.{action_rest, goes_on_type, named_member_body, more_members, at_end, whole_body}
use Rattle.cal_grammar.proofs.Sound.{Kept}
use Rattle.cal_grammar.proofs.Costs.{height-with_tag, height-onto, height-import_at, height-with_package}

pub function_kept : (m : ℕ) (a : List Placed) → Kept a_function m a
function_kept m a =
    word_or _ _ Lexeme.Function (λ l. Unit {0}) (λ l. Meets a_function m l) _ _ a tt
    (λ q b n f. name_or _ _ (λ l. Unit {0}) (λ l. Meets a_function m (placed Lexeme.Function q ∷ l)) _ _ b tt
    (λ s r c n2 f2. word_or _ _ Lexeme.LeftParen (λ l. Unit {0}) (λ l. Meets a_function m (placed Lexeme.Function q ∷ placed (Lexeme.Name s) r ∷ l)) _ _ c tt
    (λ t d n3 f3. invokes _ _ (any comma a_port) a_function _ d _ (omega arith) (omega arith) λ xs g hs ls cs ts.
    expects _ _ Lexeme.RightParen (any comma a_port) a_function d xs _ g _ hs λ u g2 n4 hs2.
    word_or _ _ Lexeme.LongArrow (λ l. Spells (any comma a_port) d (placed Lexeme.RightParen u ∷ l) xs) (λ l. Meets a_function m (placed Lexeme.Function q ∷ placed (Lexeme.Name s) r ∷ placed Lexeme.LeftParen t ∷ d)) _ _ g2 hs2
    (λ v g3 n5 hs3. invokes _ _ a_type a_function _ g3 _ (omega arith) (omega arith) λ shape i hi li ci ti.
    invokes _ _ some_vars a_function _ i _ (omega arith) (omega arith) λ vs j hv lv cv tv.
    expects _ _ Lexeme.Colon some_vars a_function i vs _ j _ hv λ w j2 n6 hv2.
    invokes _ _ an_expr a_function _ j2 _ (omega arith) (omega arith) λ x k hx lx cx tx.
    finishes _ _ Lexeme.Function an_expr a_function j2 x _ k _ hx λ z y k2 is n7 hx2.
    gives _ _ _ _ _ (record { spelled = the_function hs3 hi hv2 hx2 is; low = omega arith }))
    (λ e. fails _ _ _ _ tt))
    (λ e. fails _ _ _ _ tt))
    (λ e. fails _ _ _ _ tt))
    (λ e. fails _ _ _ _ tt)

pub procedure_kept : (m : ℕ) (a : List Placed) → Kept a_procedure m a
procedure_kept m a =
    word_or _ _ Lexeme.Procedure (λ l. Unit {0}) (λ l. Meets a_procedure m l) _ _ a tt
    (λ q b n f. name_or _ _ (λ l. Unit {0}) (λ l. Meets a_procedure m (placed Lexeme.Procedure q ∷ l)) _ _ b tt
    (λ s r c n2 f2. word_or _ _ Lexeme.LeftParen (λ l. Unit {0}) (λ l. Meets a_procedure m (placed Lexeme.Procedure q ∷ placed (Lexeme.Name s) r ∷ l)) _ _ c tt
    (λ t d n3 f3. invokes _ _ (any comma a_port) a_procedure _ d _ (omega arith) (omega arith) λ xs g hs ls cs ts.
    expects _ _ Lexeme.RightParen (any comma a_port) a_procedure d xs _ g _ hs λ u g2 n4 hs2.
    invokes _ _ some_vars a_procedure _ g2 _ (omega arith) (omega arith) λ vs j hv lv cv tv.
    expects _ _ Lexeme.Begin some_vars a_procedure g2 vs _ j _ hv λ w j2 n6 hv2.
    invokes _ _ (repeated a_stmt) a_procedure _ j2 _ (omega arith) (omega arith) λ ys k hy ly cy ty.
    finishes _ _ Lexeme.Procedure (repeated a_stmt) a_procedure j2 ys _ k _ hy λ z y k2 is n7 hy2.
    gives _ _ _ _ _ (record { spelled = the_procedure hs2 hv2 hy2 is; low = omega arith }))
    (λ e. fails _ _ _ _ tt))
    (λ e. fails _ _ _ _ tt))
    (λ e. fails _ _ _ _ tt)

pub guards_kept : (m : ℕ) (a : List Placed) → Kept some_guards m a
guards_kept m a =
    word_or _ _ Lexeme.Guard (λ l. length l ≡ length a) (λ l. Meets some_guards m l) _ _ a refl
    (λ q b n f. jumps _ _ _ _ _ (omega arith) (turns (separated comma an_expr) some_guards m (placed Lexeme.Guard q ∷ b) b (omega arith) (λ x left h. the_guards h)))
    (λ e. gives _ _ _ _ _ (record { spelled = the_no_guards; low = omega arith }))

pub repeat_kept : (m : ℕ) (a : List Placed) → Kept some_repeat m a
repeat_kept m a =
    word_or _ _ Lexeme.Repeat (λ l. Unit {0}) (λ l. Meets some_repeat m l) _ _ a tt
    (λ q b n f. invokes _ _ an_expr some_repeat (placed Lexeme.Repeat q ∷ b) b _ (omega arith) (omega arith) λ x c hx lx cx tx.
    gives _ _ _ _ _ (record { spelled = the_repeat hx; low = lx }))
    (λ e. gives _ _ _ _ _ (record { spelled = the_no_repeat; low = omega arith }))

pub body_kept : (m : ℕ) (a : List Placed) → Kept a_body m a
body_kept m a =
    word_or _ _ Lexeme.Do (λ l. Unit {0}) (λ l. Meets a_body m l) _ _ a tt
    (λ q b n f. invokes _ _ (repeated a_stmt) a_body (placed Lexeme.Do q ∷ b) b _ (omega arith) (omega arith) λ x c hx lx cx tx.
    gives _ _ _ _ _ (record { spelled = the_body hx; low = lx }))
    (λ e. gives _ _ _ _ _ (record { spelled = the_no_body; low = omega arith }))

pub in_kept : (m : ℕ) (a : List Placed) → Kept an_in m a
in_kept m a =
    word_or _ _ Lexeme.LeftBracket (λ l. Unit {0}) (λ l. Meets an_in m l) _ _ a tt
    (λ q b n f. invokes _ _ (separated comma a_name) an_in (placed Lexeme.LeftBracket q ∷ b) b _ (omega arith) (omega arith) λ xs c hs ls cs ts.
    expects _ _ Lexeme.RightBracket (separated comma a_name) an_in b xs _ c _ hs λ r c2 n2 hs2.
    invokes _ _ some_repeat an_in _ c2 _ (omega arith) (omega arith) λ x d hx lx cx tx.
    gives _ _ _ _ _ (record { spelled = the_in hs2 hx; low = lx })) λ e1.
    name_or _ _ (λ l. Unit {0}) (λ l. Meets an_in m l) _ _ a tt
    (λ s q b n f. word_or _ _ Lexeme.Colon (λ l. Unit {0}) (λ l. Meets an_in m (placed (Lexeme.Name s) q ∷ l)) _ _ b tt
    (λ r c n2 f2. word_or _ _ Lexeme.LeftBracket (λ l. Unit {0}) (λ l. Meets an_in m (placed (Lexeme.Name s) q ∷ placed Lexeme.Colon r ∷ l)) _ _ c tt
    (λ t d n3 f3. invokes _ _ (separated comma a_name) an_in _ d _ (omega arith) (omega arith) λ xs g hs ls cs ts.
    expects _ _ Lexeme.RightBracket (separated comma a_name) an_in d xs _ g _ hs λ u g2 n4 hs2.
    invokes _ _ some_repeat an_in _ g2 _ (omega arith) (omega arith) λ x i hx lx cx tx.
    gives _ _ _ _ _ (record { spelled = the_in_at hs2 hx; low = lx }))
    (λ e. fails _ _ _ _ tt))
    (λ e. fails _ _ _ _ tt))
    (λ e. fails _ _ _ _ tt)

pub out_kept : (m : ℕ) (a : List Placed) → Kept an_out m a
out_kept m a =
    word_or _ _ Lexeme.LeftBracket (λ l. Unit {0}) (λ l. Meets an_out m l) _ _ a tt
    (λ q b n f. invokes _ _ (separated comma an_expr) an_out (placed Lexeme.LeftBracket q ∷ b) b _ (omega arith) (omega arith) λ xs c hs ls cs ts.
    expects _ _ Lexeme.RightBracket (separated comma an_expr) an_out b xs _ c _ hs λ r c2 n2 hs2.
    invokes _ _ some_repeat an_out _ c2 _ (omega arith) (omega arith) λ x d hx lx cx tx.
    gives _ _ _ _ _ (record { spelled = the_out hs2 hx; low = omega arith })) λ e1.
    name_or _ _ (λ l. Unit {0}) (λ l. Meets an_out m l) _ _ a tt
    (λ s q b n f. word_or _ _ Lexeme.Colon (λ l. Unit {0}) (λ l. Meets an_out m (placed (Lexeme.Name s) q ∷ l)) _ _ b tt
    (λ r c n2 f2. word_or _ _ Lexeme.LeftBracket (λ l. Unit {0}) (λ l. Meets an_out m (placed (Lexeme.Name s) q ∷ placed Lexeme.Colon r ∷ l)) _ _ c tt
    (λ t d n3 f3. invokes _ _ (separated comma an_expr) an_out _ d _ (omega arith) (omega arith) λ xs g hs ls cs ts.
    expects _ _ Lexeme.RightBracket (separated comma an_expr) an_out d xs _ g _ hs λ u g2 n4 hs2.
    invokes _ _ some_repeat an_out _ g2 _ (omega arith) (omega arith) λ x i hx lx cx tx.
    gives _ _ _ _ _ (record { spelled = the_out_at hs2 hx; low = omega arith }))
    (λ e. fails _ _ _ _ tt))
    (λ e. fails _ _ _ _ tt))
    (λ e. fails _ _ _ _ tt)

-- an action from its outputs on
rest_of_action_kept : (m s : ℕ) (w : Lexeme) (initial : Bool) (ins : Tree) (q : ℕ) (a b : List Placed) → 100 * suc (length b) ≤ s → suc (length b) ≤ length a → height ins ≤ m → ((outs gs vs x : Tree) (c d g h : List Placed) (k : Lexeme) (r : ℕ) (l : List Placed) → Spells (any comma an_out) b c outs → Spells some_guards c d gs → Spells some_vars d g vs → Spells a_body g (placed k r ∷ l) x → ends w k ≡ true → Spells an_action a l (action absent initial ins outs gs vs x q)) → Shows s m (action_rest w initial ins q) b (Meets an_action m a)
rest_of_action_kept m s w initial ins q a b big inside low make =
    invokes _ _ (any comma an_out) an_action a b _ (omega arith) (omega arith) λ outs c ho lo co to.
    invokes _ _ some_guards an_action a c _ (omega arith) (omega arith) λ gs d hg lg cg tg.
    invokes _ _ some_vars an_action a d _ (omega arith) (omega arith) λ vs g hv lv cv tv.
    invokes _ _ a_body an_action a g _ (omega arith) (omega arith) λ x h hx lx cx tx.
    finishes _ _ w a_body an_action g x a h _ hx λ k r l is n hx2.
    gives _ _ _ _ _ (record { spelled = make outs gs vs x c d g h k r l ho hg hv hx2 is; low = omega arith })

pub action_kept : (m : ℕ) (a : List Placed) → Kept an_action m a
action_kept m a =
    word_or _ _ Lexeme.Action (λ l. Unit {0}) (λ l. Meets an_action m l) _ _ a tt
    (λ q b n f. invokes _ _ (any comma an_in) an_action (placed Lexeme.Action q ∷ b) b _ (omega arith) (omega arith) λ ins c hi li ci ti.
    expects _ _ Lexeme.LongDoubleArrow (any comma an_in) an_action b ins _ c _ hi λ r d n2 hi2.
    rest_of_action_kept m _ Lexeme.Action false ins q _ d (omega arith) (omega arith) li (λ outs gs vs x c d g h k r l ho hg hv hx is. the_action hi2 ho hg hv hx is)) λ e1.
    word_or _ _ Lexeme.Initialize (λ l. Unit {0}) (λ l. Meets an_action m l) _ _ a tt
    (λ q b n f. word_or _ _ Lexeme.LongDoubleArrow (λ l. Unit {0}) (λ l. Meets an_action m (placed Lexeme.Initialize q ∷ l)) _ _ b tt
    (λ r c n2 f2. rest_of_action_kept m _ Lexeme.Initialize true nil q _ c (omega arith) (omega arith) (omega arith) (λ outs gs vs x c d g h k r l ho hg hv hx is. the_initialize ho hg hv hx is))
    (λ e. fails _ _ _ _ tt))
    (λ e. fails _ _ _ _ tt)

pub move_kept : (m : ℕ) (a : List Placed) → Kept a_move m a
move_kept m a =
    name_or _ _ (λ l. Unit {0}) (λ l. Meets a_move m l) _ _ a tt
    (λ s q b n f. word_or _ _ Lexeme.LeftParen (λ l. Unit {0}) (λ l. Meets a_move m (placed (Lexeme.Name s) q ∷ l)) _ _ b tt
    (λ r c n2 f2. invokes _ _ (separated comma a_tag) a_move _ c _ (omega arith) (omega arith) λ xs d hs ls cs ts.
    expects _ _ Lexeme.RightParen (separated comma a_tag) a_move c xs _ d _ hs λ t d2 n3 hs2.
    word_or _ _ Lexeme.LongArrow (λ l. Spells (separated comma a_tag) c (placed Lexeme.RightParen t ∷ l) xs) (λ l. Meets a_move m (placed (Lexeme.Name s) q ∷ placed Lexeme.LeftParen r ∷ c)) _ _ d2 hs2
    (λ u d3 n4 hs3. name_or _ _ (λ l. Spells (separated comma a_tag) c (placed Lexeme.RightParen t ∷ placed Lexeme.LongArrow u ∷ l) xs) (λ l. Meets a_move m (placed (Lexeme.Name s) q ∷ placed Lexeme.LeftParen r ∷ c)) _ _ d3 hs3
    (λ i v d4 n5 hs4. word_or _ _ Lexeme.Semicolon (λ l. Spells (separated comma a_tag) c (placed Lexeme.RightParen t ∷ placed Lexeme.LongArrow u ∷ placed (Lexeme.Name i) v ∷ l) xs) (λ l. Meets a_move m (placed (Lexeme.Name s) q ∷ placed Lexeme.LeftParen r ∷ c)) _ _ d4 hs4
    (λ o d5 n6 hs5. gives _ _ _ _ _ (record { spelled = the_move hs5; low = omega arith }))
    (λ e. fails _ _ _ _ tt))
    (λ e. fails _ _ _ _ tt))
    (λ e. fails _ _ _ _ tt))
    (λ e. fails _ _ _ _ tt))
    (λ e. fails _ _ _ _ tt)

pub schedule_kept : (m : ℕ) (a : List Placed) → Kept a_schedule m a
schedule_kept m a =
    word_or _ _ Lexeme.Schedule (λ l. Unit {0}) (λ l. Meets a_schedule m l) _ _ a tt
    (λ q b n f. word_or _ _ Lexeme.Fsm (λ l. Unit {0}) (λ l. Meets a_schedule m (placed Lexeme.Schedule q ∷ l)) _ _ b tt
    (λ r c n2 f2. name_or _ _ (λ l. Unit {0}) (λ l. Meets a_schedule m (placed Lexeme.Schedule q ∷ placed Lexeme.Fsm r ∷ l)) _ _ c tt
    (λ s t d n3 f3. word_or _ _ Lexeme.Colon (λ l. Unit {0}) (λ l. Meets a_schedule m (placed Lexeme.Schedule q ∷ placed Lexeme.Fsm r ∷ placed (Lexeme.Name s) t ∷ l)) _ _ d tt
    (λ u g n4 f4. invokes _ _ (repeated a_move) a_schedule _ g _ (omega arith) (omega arith) λ xs h hs ls cs ts.
    finishes _ _ Lexeme.Schedule (repeated a_move) a_schedule g xs _ h _ hs λ k v h2 is n5 hs2.
    gives _ _ _ _ _ (record { spelled = the_schedule hs2 is; low = omega arith }))
    (λ e. fails _ _ _ _ tt))
    (λ e. fails _ _ _ _ tt))
    (λ e. fails _ _ _ _ tt))
    (λ e. fails _ _ _ _ tt)

pub chain_of_tags_kept : (m : ℕ) (a : List Placed) → Kept a_chain m a
chain_of_tags_kept m a =
    invokes _ _ a_tag a_chain a a _ (omega arith) (omega arith) λ x b hx lx cx tx.
    expects _ _ Lexeme.Greater a_tag a_chain a x a b _ hx λ q c n hx2.
    invokes _ _ (separated greater a_tag) a_chain a c _ (omega arith) (omega arith) λ xs d hs ls cs ts.
    expects _ _ Lexeme.Semicolon (separated greater a_tag) a_chain c xs a d _ hs λ r d2 n2 hs2.
    gives _ _ _ _ _ (record { spelled = the_chain hx2 hs2; low = omega arith })

pub priority_kept : (m : ℕ) (a : List Placed) → Kept a_priority m a
priority_kept m a =
    word_or _ _ Lexeme.Priority (λ l. Unit {0}) (λ l. Meets a_priority m l) _ _ a tt
    (λ q b n f. invokes _ _ (repeated a_chain) a_priority (placed Lexeme.Priority q ∷ b) b _ (omega arith) (omega arith) λ xs h hs ls cs ts.
    finishes _ _ Lexeme.Priority (repeated a_chain) a_priority b xs _ h _ hs λ k v h2 is n5 hs2.
    gives _ _ _ _ _ (record { spelled = the_priority hs2 is; low = omega arith }))
    (λ e. fails _ _ _ _ tt)

member_named_kept : (m : ℕ) (a : List Placed) (s : List ℕ) (q : ℕ) (b : List Placed) → length a ≡ suc (length b) → Shows (size (part a_member) a) m (named_member_body (placed (Lexeme.Name s) q)) b (Meets a_member m (placed (Lexeme.Name s) q ∷ b))
member_named_kept m a s q b n =
    asks _ _ _ _ _ _ _
    (λ e. invokes _ _ (rest dot a_name) a_member (placed (Lexeme.Name s) q ∷ b) b _ (omega arith) (omega arith) λ xs c hs ls cs ts.
    expects _ _ Lexeme.Colon (rest dot a_name) a_member b xs _ c _ hs λ r c2 n2 hs2.
    invokes _ _ an_action a_member _ c2 _ (omega arith) (omega arith) λ x d hx lx cx tx.
    gives _ _ _ _ _ (record { spelled = the_action_member (the_labelled (the_tag (the_separated the_name hs2)) hx); low = omega (arith, height-with_tag (tag (cons (ident s q) xs) q) x) }))
    λ e1. asks _ _ _ _ _ _ _
    (λ e. let at : 0 < length b = some_left goes_on_type b e in
    checks _ _ _ _ _ _ (λ high. record { far = omega arith; at_token = at }) λ low.
    record {
      it = (
        let less : 0 + 100 * length b < size (part a_member) a = omega arith in less,
        λ shape c k. let read_type = k low in let cost = costs read_type.spelled in
            (member_var_kept m a s q b n shape c read_type).it,
        λ left k. tt,
        λ left k. let there = k low in record { far = there.far; at_token = there.at_token },
      );
    })
    (λ e. fails _ _ _ _ tt)
  where
    member_var_kept : (m : ℕ) (a : List Placed) (s : List ℕ) (q : ℕ) (b : List Placed) → length a ≡ suc (length b) → (shape : Tree) (c : List Placed) → IsRead a_type m (placed (Lexeme.Name s) q ∷ b) c shape → Shows (size (part a_member) a) m (invoke (var_tail shape) (λ x. expect Lexeme.Semicolon (give x))) c (Meets a_member m (placed (Lexeme.Name s) q ∷ b))
    member_var_kept m a s q b n shape c type_read =
        let cost = costs type_read.spelled in
        record {
          it = (
            let less : 0 + 100 * length c < size (part a_member) a = omega arith in less,
            λ x d k. let var_read = k (placed (Lexeme.Name s) q ∷ b) type_read.spelled type_read.low in
                (expects _ _ Lexeme.Semicolon a_var a_member (placed (Lexeme.Name s) q ∷ b) x (placed (Lexeme.Name s) q ∷ b) d (give x) var_read.spelled λ r d2 n2 hx. gives (size (part a_member) a) m x d2 (Meets a_member m (placed (Lexeme.Name s) q ∷ b)) (record { spelled = the_var_member hx; low = var_read.low })).it,
            λ left k. tt,
            λ left k. k (placed (Lexeme.Name s) q ∷ b) type_read.spelled type_read.low,
          );
        }

pub member_kept : (m : ℕ) (a : List Placed) → Kept a_member m a
member_kept m a =
    name_or _ _ (λ l. Unit {0}) (λ l. Meets a_member m l) _ _ a tt
    (λ s q b n f. member_named_kept m a s q b n) λ e1.
    asks _ _ _ _ _ _ _
    (λ e. jumps _ _ _ _ _ (omega arith) (turns a_function a_member m a a (omega arith) (λ x left h. the_function_member h))) λ e2.
    asks _ _ _ _ _ _ _
    (λ e. jumps _ _ _ _ _ (omega arith) (turns a_procedure a_member m a a (omega arith) (λ x left h. the_procedure_member h))) λ e3.
    asks _ _ _ _ _ _ _
    (λ e. jumps _ _ _ _ _ (omega arith) (turns an_action a_member m a a (omega arith) (λ x left h. the_action_member (the_unlabelled h)))) λ e4.
    jumps _ _ _ _ _ (omega arith) (turns a_priority a_member m a a (omega arith) (λ x left h. the_priority_member h))

more_members_kept : (m : ℕ) (k : Bool) (a : List Placed) → Shows (size (part (members k)) a) m (more_members k) a (Meets (members k) m a)
more_members_kept m true a =
    asks _ _ _ _ _ _ _
    (λ e. invokes _ _ a_schedule (members true) a a _ (omega arith) (omega arith) λ x b hx lx cx tx.
    invokes _ _ (members false) (members true) a b _ (omega arith) (omega arith) λ xs c hs ls cs ts.
    gives _ _ _ _ _ (record { spelled = the_schedule_member hx hs; low = omega arith }))
    (λ e. gives _ _ _ _ _ (record { spelled = the_no_members; low = omega arith }))
more_members_kept m false a = gives _ _ _ _ _ (record { spelled = the_no_members; low = omega arith })

pub members_kept : (m : ℕ) (k : Bool) (a : List Placed) → Kept (members k) m a
members_kept m k a =
    asks _ _ _ _ _ _ _
    (λ e. invokes _ _ a_member (members k) a a _ (omega arith) (omega arith) λ x b hx lx cx tx.
    invokes _ _ (members k) (members k) a b _ (omega arith) (omega arith) λ xs c hs ls cs ts.
    gives _ _ _ _ _ (record { spelled = the_member hx hs; low = omega arith }))
    (λ e. more_members_kept m k a)

pub unit_member_kept : (m : ℕ) (a : List Placed) → Kept a_unit_member m a
unit_member_kept m a =
    asks _ _ _ _ _ _ _
    (λ e. jumps _ _ _ _ _ (omega arith) (turns a_function a_unit_member m a a (omega arith) (λ x left h. the_unit_function h)))
    (λ e. invokes _ _ a_var a_unit_member a a _ (omega arith) (omega arith) λ x b hx lx cx tx.
    expects _ _ Lexeme.Semicolon a_var a_unit_member a x a b _ hx λ q c n hx2.
    gives _ _ _ _ _ (record { spelled = the_unit_var hx2; low = lx }))

-- files

pub path_kept : (m : ℕ) (a : List Placed) → Kept a_path m a
path_kept m a =
    word_or _ _ Lexeme.Dot (λ l. Unit {0}) (λ l. Meets a_path m l) _ _ a tt
    (λ q b n f. word_or _ _ Lexeme.Star (λ l. Unit {0}) (λ l. Meets a_path m (placed Lexeme.Dot q ∷ l)) _ _ b tt
    (λ r c n2 f2. gives _ _ _ _ _ (record { spelled = the_path_all; low = omega arith })) λ e1.
    name_or _ _ (λ l. Unit {0}) (λ l. Meets a_path m (placed Lexeme.Dot q ∷ l)) _ _ b tt
    (λ s r c n2 f2. asks _ _ _ _ _ _ _
    (λ e. invokes _ _ a_path a_path _ c _ (omega arith) (omega arith) λ x d hx lx cx tx.
    gives _ _ _ _ _ (record { spelled = the_path_on hx; low = omega (arith, height-onto (ident s r) x) }))
    (λ e. gives _ _ _ _ _ (record { spelled = the_path_name; low = omega arith })))
    (λ e. fails _ _ _ _ tt))
    (λ e. fails _ _ _ _ tt)

pub import_kept : (m : ℕ) (a : List Placed) → Kept an_import m a
import_kept m a =
    word_or _ _ Lexeme.Import (λ l. Unit {0}) (λ l. Meets an_import m l) _ _ a tt
    (λ q b n f. name_or _ _ (λ l. Unit {0}) (λ l. Meets an_import m (placed Lexeme.Import q ∷ l)) _ _ b tt
    (λ s r c n2 f2. invokes _ _ a_path an_import _ c _ (omega arith) (omega arith) λ x d hx lx cx tx.
    expects _ _ Lexeme.Semicolon a_path an_import c x _ d _ hx λ t d2 n3 hx2.
    gives _ _ _ _ _ (record { spelled = the_import hx2; low = omega (arith, height-onto (ident s r) x, height-import_at q (onto (ident s r) x)) }))
    (λ e. fails _ _ _ _ tt))
    (λ e. fails _ _ _ _ tt)

pub actor_kept : (m : ℕ) (a : List Placed) → Kept an_actor m a
actor_kept m a =
    word_or _ _ Lexeme.Actor (λ l. Unit {0}) (λ l. Meets an_actor m l) _ _ a tt
    (λ q b n f. name_or _ _ (λ l. Unit {0}) (λ l. Meets an_actor m (placed Lexeme.Actor q ∷ l)) _ _ b tt
    (λ s r c n2 f2. word_or _ _ Lexeme.LeftParen (λ l. Unit {0}) (λ l. Meets an_actor m (placed Lexeme.Actor q ∷ placed (Lexeme.Name s) r ∷ l)) _ _ c tt
    (λ t d n3 f3. invokes _ _ (any comma a_param) an_actor _ d _ (omega arith) (omega arith) λ ps g hp lp cp tp.
    expects _ _ Lexeme.RightParen (any comma a_param) an_actor d ps _ g _ hp λ u g2 n4 hp2.
    invokes _ _ (any comma a_port) an_actor _ g2 _ (omega arith) (omega arith) λ ins h hi li ci ti.
    expects _ _ Lexeme.LongDoubleArrow (any comma a_port) an_actor g2 ins _ h _ hi λ v h2 n5 hi2.
    invokes _ _ (any comma a_port) an_actor _ h2 _ (omega arith) (omega arith) λ outs j ho lo co to.
    expects _ _ Lexeme.Colon (any comma a_port) an_actor h2 outs _ j _ ho λ w j2 n6 ho2.
    invokes _ _ (members true) an_actor _ j2 _ (omega arith) (omega arith) λ ms k hm lm cm tm.
    finishes _ _ Lexeme.Actor (members true) an_actor j2 ms _ k _ hm λ z y k2 is n7 hm2.
    gives _ _ _ _ _ (record { spelled = the_actor hp2 hi2 ho2 hm2 is; low = omega arith }))
    (λ e. fails _ _ _ _ tt))
    (λ e. fails _ _ _ _ tt))
    (λ e. fails _ _ _ _ tt)

pub unit_kept : (m : ℕ) (a : List Placed) → Kept a_unit m a
unit_kept m a =
    word_or _ _ Lexeme.Unit (λ l. Unit {0}) (λ l. Meets a_unit m l) _ _ a tt
    (λ q b n f. name_or _ _ (λ l. Unit {0}) (λ l. Meets a_unit m (placed Lexeme.Unit q ∷ l)) _ _ b tt
    (λ s r c n2 f2. word_or _ _ Lexeme.Colon (λ l. Unit {0}) (λ l. Meets a_unit m (placed Lexeme.Unit q ∷ placed (Lexeme.Name s) r ∷ l)) _ _ c tt
    (λ t d n3 f3. invokes _ _ (repeated a_unit_member) a_unit _ d _ (omega arith) (omega arith) λ ms k hm lm cm tm.
    finishes _ _ Lexeme.Unit (repeated a_unit_member) a_unit d ms _ k _ hm λ z y k2 is n7 hm2.
    gives _ _ _ _ _ (record { spelled = the_unit hm2 is; low = lm }))
    (λ e. fails _ _ _ _ tt))
    (λ e. fails _ _ _ _ tt))
    (λ e. fails _ _ _ _ tt)

pub imports_kept : (m : ℕ) (a : List Placed) → Kept some_imports m a
imports_kept m a =
    invokes _ _ (repeated an_import) some_imports a a _ (omega arith) (omega arith) λ xs b hs ls cs ts.
    asks _ _ _ _ _ _ _
    (λ e. invokes _ _ an_actor some_imports a b _ (omega arith) (omega arith) λ x c hx lx cx tx.
    gives _ _ _ _ _ (record { spelled = the_actor_file hs hx; low = lx }))
    (λ e. invokes _ _ a_unit some_imports a b _ (omega arith) (omega arith) λ x c hx lx cx tx.
    gives _ _ _ _ _ (record { spelled = the_unit_file hs hx; low = lx }))

pub file_kept : (m : ℕ) (a : List Placed) → Kept a_file m a
file_kept m a =
    word_or _ _ Lexeme.Package (λ l. Unit {0}) (λ l. Meets a_file m l) _ _ a tt
    (λ q b n f. invokes _ _ a_tag a_file (placed Lexeme.Package q ∷ b) b _ (omega arith) (omega arith) λ t c ht lt ct tt'.
    expects _ _ Lexeme.Semicolon a_tag a_file b t _ c _ ht λ r c2 n2 ht2.
    invokes _ _ some_imports a_file _ c2 _ (omega arith) (omega arith) λ x d hx lx cx tx.
    gives _ _ _ _ _ (record { spelled = the_package_file ht2 hx; low = omega (arith, height-with_package q t x) }))
    (λ e. jumps _ _ _ _ _ (omega arith) (turns some_imports a_file m a a (omega arith) (λ x left h. the_file h)))

-- nothing is left if no token is ahead
nothing_left : (l : List Placed) → at_end (ahead l) ≡ true → l ≡ []
nothing_left [] e = refl
nothing_left (t ∷ ts) e = absurd cc

pub whole_kept : (m : ℕ) (a : List Placed) → Shows (size whole a) m whole_body a (Keeps m whole a)
whole_kept m a =
    invoked _ _ a_file a _ _ (omega arith) (λ left. tt) (λ left far there. record { far = far; at_token = there }) λ x left hx lx cx tx.
    asks _ _ _ _ _ _ _
    (λ e. let none : left ≡ [] = nothing_left left e in
    gives _ _ _ _ _ (record { spelled = subst (λ l. Spells a_file a l x) none hx; low = lx }, none))
    (λ e. fails _ _ _ _ tt)
