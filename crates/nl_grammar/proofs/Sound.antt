-- What the rules keep to.
use Rattle.std.proofs.Common.{◌≡◌, ℕ, suc, max, ◌+◌, ◌<◌, ◌≤◌, Bool, true, false, List, [], ◌∷◌, ◌++◌, length, append_assoc, refl, sym, ap, ◌∙◌, subst, arith}
use Rattle.std.proofs.lemmas.List.{append-nil}
use Rattle.cal_grammar.specs.Program.{Outcome, Gave, Refused, TooHigh, Spent, give, fail, ask, invoke, jump}
use Rattle.cal_ast.specs.Tree.{Tree, present}
use Rattle.cal_ast.specs.Places.{begins}
use Rattle.cal_lexer.specs.Lexeme.{Lexeme, Placed, placed}
use Rattle.cal_grammar.specs.Operators.{height}
use Rattle.cal_grammar.specs.Rules.{at_end}
use Rattle.cal_grammar.specs.Spells.{Spells, any, comma, an_expr, a_param, a_port, a_tag, a_type}
use Rattle.fnl_frames.specs.Net.{Net, Decl, a_decl, Parameter, a_parameter, Instance, an_instance, Size, Connection}
use Rattle.nl_grammar.specs.Headings.{is_called, network_word, entities_word, structure_word}
use Rattle.nl_grammar.specs.Spells.{Repeated, the_none, the_next, IsVariable, the_variable, AreVariables, the_no_variables, the_variables, IsParameter, the_parameter, SomeParameters, the_first, the_more, AreParameters, the_no_parameters, the_parameters, IsEntity, the_entity, End, an_end, IsEnd, the_own_port, the_port_of, asked, AreAttributes, the_no_attributes, the_next_attribute, InBraces, the_no_braces, the_braces, IsConnection, the_connection, IsClosed, the_end, the_named_end, IsNetwork, the_network, IsText, the_text, the_packaged_text, class_text}
use Rattle.nl_grammar.specs.Rules.{Found, a_tree, tree_in, a_variable, one_parameter, one_instance, a_net, nothing, Own, Step, part, on, expect, own, variable, variables, declared, parameter, more_parameters, parameters, entity, entities, end_of, attribute, attributes, in_braces, connection, connections, closing, ports, heading, network, packaged, whole, variable_in, decls_in, parameter_in, parameters_in, instance_in, instances_in, end_in, sizes_in, connection_in, connections_in, net_in, with_ports, with_heading, with_body, instance_of, port_of, place_of, value_body, headed_body, body, size}
use Rattle.nl_grammar.proofs.Called.{called_is}
use Rattle.nl_grammar.proofs.Meets.{Meets, UpTo, up_to, Behind, IsUnheaded, Begun, begun_none, begun_some, IsEndOf, IsValue, the_value, IsClosing, ArePorts, the_ports, IsHeading, the_heading, IsPackaged, the_no_package, the_package, MeetsWhole, Keeps, Shows, gives, fails, asks, jumps, word_or, name_or, called_or, expects, names_next, reads_part, reads_own, with_part, with_own}

-- the facts of a rule at ts
abbrev Kept : ℕ → Own → List Placed → Type 0
Kept m r ts = Shows (size r ts) m (body r) ts (Keeps m (own r) ts)

-- the first token of a part
abbrev IsFrom : List Placed → List Placed → Type 0
IsFrom a l = a ≡ l

-- ---- variables

value_kept : (s m : ℕ) (w : Lexeme) (a ts : List Placed) (text : List ℕ) (q r : ℕ) (shape : Tree) → length ts < length a → Spells a_type a (placed (Lexeme.Name text) q ∷ placed w r ∷ ts) shape → height shape ≤ m → ((c : List Placed) (t : ℕ) (x : Tree) → Spells an_expr ts (placed Lexeme.Semicolon t ∷ c) x → IsUnheaded a c (a_decl false shape text (present x) (begins shape)) (max (height shape) (height x))) → Shows s m (value_body shape (placed (Lexeme.Name text) q)) ts (Meets IsUnheaded variable_in 1 m a)
value_kept s m w a ts text q r shape inside hs low make =
    with_part s m IsUnheaded variable_in 1 an_expr a ts _ (omega arith) λ x b hx lx tx.
    expects s m Lexeme.Semicolon (λ l. Spells an_expr ts l x) (Meets IsUnheaded variable_in 1 m a) _ b tt hx λ t c n hx2.
    gives s m (a_variable (a_decl false shape text (present x) (begins shape))) _ _ (record { high = max (height shape) (height x); spelled = make c t x hx2; low = omega arith; taken = omega arith })

variable_kept : (m : ℕ) (a : List Placed) → Kept m variable a
variable_kept m a =
    let s = size variable a in
    let Q = Meets IsUnheaded variable_in 1 m a in
    with_part s m IsUnheaded variable_in 1 a_type a a _ (omega arith) λ shape b hs ls ts.
    names_next s m (λ l. Spells a_type a l shape) Q (λ t. on Lexeme.Assign (value_body shape t) (expect Lexeme.Equal (value_body shape t))) b tt hs λ text q c n hs2.
    word_or s m Lexeme.Assign (λ l. Spells a_type a (placed (Lexeme.Name text) q ∷ l) shape) (λ l. Q) (λ x. value_body shape (placed (Lexeme.Name text) q)) (expect Lexeme.Equal (value_body shape (placed (Lexeme.Name text) q))) c hs2
    (λ r d n2 hs3. value_kept s m Lexeme.Assign a d text q r shape (omega arith) hs3 ls (λ e t x hx h. the_variable h hs3 refl hx))
    (λ no_assign. expects s m Lexeme.Equal (λ l. Spells a_type a (placed (Lexeme.Name text) q ∷ l) shape) Q (value_body shape (placed (Lexeme.Name text) q)) c tt hs2 λ r d n2 hs3.
    value_kept s m Lexeme.Equal a d text q r shape (omega arith) hs3 ls (λ e t x hx h. the_variable h hs3 refl hx))

-- one variable more
further : (before ds : List Decl) (d : Decl) (a ts left : List Placed) (h k : ℕ) → Behind before (Repeated IsVariable) a ts ds h → IsVariable ts left d k → Behind before (Repeated IsVariable) a left (ds ++ d ∷ []) (max h k)
further before ds d a ts left h k b v = record {
  mine = b.mine ++ d ∷ [];
  is = ap (λ l. l ++ d ∷ []) b.is ∙ append_assoc before b.mine (d ∷ []);
  spelled = the_next b.spelled v;
}

variables_kept : (m : ℕ) (ds : List Decl) (ts : List Placed) → Kept m (variables ds) ts
variables_kept m ds ts =
    let s = size (variables ds) ts in
    called_or s m entities_word (λ l. length l ≡ length ts) (λ l. Keeps m (own (variables ds)) l) _ _ ts refl
    (λ q c n f. gives s m _ _ _ (λ before a h inside b low. record { high = h; spelled = up_to b; low = low; taken = omega arith }))
    (λ unheaded. reads_own s m IsUnheaded variable_in 1 variable ts ts _ (Keeps m (own (variables ds)) ts) (omega arith) (λ o g. g) (λ left before a h inside b low. tt) (λ left far there before a h inside b low. record { far = omega arith; at_token = there }) λ y left k v less t.
    jumps s m _ _ _ (omega arith) (λ o g before a h inside b low. g before a (max h k) (omega arith) (further before ds (variable_in y) a ts left h k b (v unheaded)) (omega arith)))

declared_kept : (m : ℕ) (ds : List Decl) (a : List Placed) → Kept m (declared ds) a
declared_kept m ds a =
    let s = size (declared ds) a in
    word_or s m Lexeme.Var (λ l. Unit {0}) (λ l. Keeps m (own (declared ds)) l) _ _ a tt
    (λ q b n f. jumps s m _ _ _ (omega arith) (λ o g. turned q b o (g ds b 0 (omega arith) (record { mine = []; is = sym (append-nil ds); spelled = the_none }) (omega arith))))
    (λ no_var. called_or s m entities_word (λ l. Unit {0}) (λ l. Keeps m (own (declared ds)) l) _ _ a tt
    (λ q b n f. gives s m _ _ _ (record { high = 0; spelled = up_to (record { mine = []; is = sym (append-nil ds); spelled = the_no_variables }); low = omega arith; taken = omega arith }))
    (λ e. fails s m _ _ tt))
  where
    behind_var : (q : ℕ) (b c : List Placed) (xs : List Decl) (h : ℕ) → UpTo entities_word (Behind ds (Repeated IsVariable)) b c xs h → UpTo entities_word (Behind ds AreVariables) (placed Lexeme.Var q ∷ b) c xs h
    behind_var q b c xs h (up_to k) = up_to (record { mine = k.mine; is = k.is; spelled = the_variables k.spelled })

    turned : (q : ℕ) (b : List Placed) (o : Outcome Placed Found) → Meets (UpTo entities_word (Behind ds (Repeated IsVariable))) decls_in 1 m b o → Meets (UpTo entities_word (Behind ds AreVariables)) decls_in 1 m (placed Lexeme.Var q ∷ b) o
    turned q b (Gave y left) k = let t : 1 + length left ≤ length b = k.taken in record { high = k.high; spelled = behind_var q b left (decls_in y) k.high k.spelled; low = k.low; taken = omega arith }
    turned q b (Refused left) k = tt
    turned q b (TooHigh left) k = let far : m + length left ≤ length b = k.far in record { far = omega arith; at_token = k.at_token }
    turned q b Spent k = tt

-- ---- instances

parameter_kept : (m : ℕ) (a : List Placed) → Kept m parameter a
parameter_kept m a =
    let s = size parameter a in
    name_or s m (λ l. Unit {0}) (λ l. Keeps m (own parameter) l) _ _ a tt
    (λ text q b n f. word_or s m Lexeme.Equal (λ l. Unit {0}) (λ l. Meets IsParameter parameter_in 1 m (placed (Lexeme.Name text) q ∷ l)) _ _ b tt
    (λ r c n2 f2. with_part s m IsParameter parameter_in 1 an_expr (placed (Lexeme.Name text) q ∷ placed Lexeme.Equal r ∷ c) c _ (omega arith) λ x d hx lx tx.
    gives s m (one_parameter (a_parameter text x q)) _ _ (record { high = height x; spelled = the_parameter hx; low = lx; taken = omega arith }))
    (λ e. fails s m _ _ tt))
    (λ e. fails s m _ _ tt)

-- one parameter more
record IsGrown (m : ℕ) (a b : List Placed) (ps : List Parameter) : Type 0 where
  high : ℕ
  spelled : SomeParameters a b ps high
  low : high ≤ m

grown : (m : ℕ) (p : Parameter) (ps : List Parameter) (a b c : List Placed) (h k : ℕ) → Begun a b ps h → h ≤ m → IsParameter b c p k → k ≤ m → IsGrown m a c (ps ++ p ∷ [])
grown m p ps a b c h k begun_none low v less = record { high = k; spelled = the_first v; low = less }
grown m p ps a b c h k (begun_some g) low v less = record { high = max h k; spelled = the_more g v; low = omega arith }

more_parameters_kept : (m : ℕ) (ps : List Parameter) (ts : List Placed) → Kept m (more_parameters ps) ts
more_parameters_kept m ps ts =
    let s = size (more_parameters ps) ts in
    reads_own s m IsParameter parameter_in 1 parameter ts ts _ (Keeps m (own (more_parameters ps)) ts) (omega arith) (λ o g. g) (λ left a h inside b low. tt) (λ left far there a h inside b low. record { far = omega arith; at_token = there }) λ y left k v less t.
    word_or s m Lexeme.Comma (λ l. IsParameter ts l (parameter_in y) k × (length l ≡ length left)) (λ l. Keeps m (own (more_parameters ps)) ts) _ _ left (v, refl)
    (λ q c n f. jumps s m _ _ _ (let e = f.1 in omega arith) (λ o g a h inside b low. let w : IsGrown m a (placed Lexeme.Comma q ∷ c) (ps ++ parameter_in y ∷ []) = grown m (parameter_in y) ps a ts (placed Lexeme.Comma q ∷ c) h k b low f.0 less in g a w.high (let e = f.1 in omega arith) (begun_some w.spelled) w.low))
    (λ e. gives s m _ _ _ (λ a h inside b low. let w : IsGrown m a left (ps ++ parameter_in y ∷ []) = grown m (parameter_in y) ps a ts left h k b low v less in record { high = w.high; spelled = w.spelled; low = w.low; taken = omega arith }))

parameters_kept : (m : ℕ) (a : List Placed) → Kept m parameters a
parameters_kept m a =
    let s = size parameters a in
    asks s m _ _ _ _ _
    (λ e. jumps s m _ _ _ (omega arith) (λ o g. turned o (g a 0 (omega arith) begun_none (omega arith))))
    (λ e. gives s m _ _ _ (record { high = 0; spelled = the_no_parameters; low = omega arith; taken = omega arith }))
  where
    turned : (o : Outcome Placed Found) → Meets SomeParameters parameters_in 1 m a o → Meets AreParameters parameters_in 0 m a o
    turned (Gave y left) k = let t : 1 + length left ≤ length a = k.taken in record { high = k.high; spelled = the_parameters k.spelled; low = k.low; taken = omega arith }
    turned (Refused left) k = tt
    turned (TooHigh left) k = k
    turned Spent k = tt

entity_kept : (m : ℕ) (text : List ℕ) (q : ℕ) (ts : List Placed) → Kept m (entity text q) ts
entity_kept m text q ts =
    let s = size (entity text q) ts in
    let Q = Keeps m (own (entity text q)) ts in
    reads_part s m a_tag ts _ Q (λ left r. tt) (λ left far there r. record { far = omega arith; at_token = there }) λ class b hc lc tc.
    expects s m Lexeme.LeftParen (λ l. Spells a_tag ts l class) Q _ b (λ r. tt) hc λ t c n hc2.
    reads_own s m AreParameters parameters_in 0 parameters c c _ Q (omega arith) (λ o g. g) (λ left r. tt) (λ left far there r. record { far = omega arith; at_token = there }) λ y d h v less u.
    expects s m Lexeme.RightParen (λ l. AreParameters c l (parameters_in y) h) Q _ d (λ r. tt) v λ t2 e n2 v2.
    expects s m Lexeme.Semicolon (λ l. AreParameters c (placed Lexeme.RightParen t2 ∷ l) (parameters_in y) h) Q _ e (λ r. tt) v2 λ t3 g n3 v3.
    gives s m (one_instance (an_instance text (class_text class) (begins class) (parameters_in y) q)) _ _ (λ r. record { high = h; spelled = the_entity hc2 v3; low = less; taken = omega arith })

entities_kept : (m : ℕ) (is : List Instance) (ts : List Placed) → Kept m (entities is) ts
entities_kept m is ts =
    name_or s m (λ l. length l ≡ length ts) (λ l. Keeps m (own (entities is)) l) _ _ ts refl
    (λ text q b n f. word_or s m Lexeme.Equal (λ l. length l ≡ length b) (λ l. Keeps m (own (entities is)) (placed (Lexeme.Name text) q ∷ l)) _ _ b refl
    (λ r c n2 f2. one_more text q r c (omega arith))
    (λ e. headed text q b (is_called structure_word (Lexeme.Name text)) refl))
    (λ e. fails s m _ _ (λ a h inside b low. tt))
  where
    s : ℕ
    s = size (entities is) ts

    one_more : (text : List ℕ) (q r : ℕ) (c : List Placed) → suc (suc (length c)) ≡ length ts → Shows s m (invoke (own (entity text q)) (λ y. jump (own (entities (is ++ instance_in y ∷ []))))) c (Keeps m (own (entities is)) (placed (Lexeme.Name text) q ∷ placed Lexeme.Equal r ∷ c))
    one_more text q r c n =
        let b : List Placed = placed (Lexeme.Name text) q ∷ placed Lexeme.Equal r ∷ c in
        reads_own s m IsEntity instance_in 1 (entity text q) b c _ (Keeps m (own (entities is)) b) (omega arith) (λ o g. g r) (λ left a h inside g low. tt) (λ left far there a h inside g low. record { far = omega arith; at_token = there }) λ y left k v less t.
        jumps s m _ _ _ (omega arith) (λ o g a h inside v2 low. g a (max h k) (omega arith) (the_next v2 v) (omega arith))

    headed : (text : List ℕ) (q : ℕ) (b : List Placed) (c : Bool) → is_called structure_word (Lexeme.Name text) ≡ c → Shows s m (headed_body c is) b (Keeps m (own (entities is)) (placed (Lexeme.Name text) q ∷ b))
    headed text q b true e = gives s m _ _ _ (λ a h inside g low. record { high = h; spelled = up_to (subst (λ k. Repeated IsEntity a (placed k q ∷ b) is h) (called_is structure_word (Lexeme.Name text) e) g); low = low; taken = omega arith })
    headed text q b false e = fails s m _ _ (λ a h inside g low. tt)

-- ---- connections

end_kept : (m : ℕ) (a : List Placed) → Kept m end_of a
end_kept m a =
    let s = size end_of a in
    name_or s m (λ l. Unit {0}) (λ l. Keeps m (own end_of) l) _ _ a tt
    (λ text q b n f. word_or s m Lexeme.Dot (λ l. Unit {0}) (λ l. Keeps m (own end_of) (placed (Lexeme.Name text) q ∷ l)) _ _ b tt
    (λ r c n2 f2. name_or s m (λ l. Unit {0}) (λ l. Keeps m (own end_of) (placed (Lexeme.Name text) q ∷ placed Lexeme.Dot r ∷ l)) _ _ c tt
    (λ text2 t d n3 f3. gives s m _ _ _ (record { high = 0; spelled = the_port_of; low = omega arith; taken = omega arith }))
    (λ e. fails s m _ _ tt))
    (λ e. gives s m _ _ _ (record { high = 0; spelled = the_own_port; low = omega arith; taken = omega arith })))
    (λ e. fails s m _ _ tt)

attribute_kept : (m : ℕ) (a : List Placed) → Kept m attribute a
attribute_kept m a =
    let s = size attribute a in
    word_or s m Lexeme.Equal (λ l. Unit {0}) (λ l. Keeps m (own attribute) l) _ _ a tt
    (λ q b n f. with_part s m IsValue tree_in 1 an_expr (placed Lexeme.Equal q ∷ b) b _ (omega arith) λ x c hx lx tx.
    expects s m Lexeme.Semicolon (λ l. Spells an_expr b l x) (Meets IsValue tree_in 1 m (placed Lexeme.Equal q ∷ b)) _ c tt hx λ r d n2 hx2.
    gives s m (a_tree x) _ _ (record { high = height x; spelled = the_value hx2; low = lx; taken = omega arith }))
    (λ e. fails s m _ _ tt)

-- one attribute more
valued : (s : List ℕ) (q : ℕ) (x : Tree) (zs : List Size) (a b c : List Placed) (h k : ℕ) → AreAttributes a (placed (Lexeme.Name s) q ∷ b) zs h → IsValue b c x k → AreAttributes a c (zs ++ asked s x q) (max h k)
valued s q x zs a _ c h _ g (the_value hx) = the_next_attribute g hx

attributes_kept : (m : ℕ) (zs : List Size) (ts : List Placed) → Kept m (attributes zs) ts
attributes_kept m zs ts =
    let s = size (attributes zs) ts in
    name_or s m (λ l. length l ≡ length ts) (λ l. Keeps m (own (attributes zs)) l) _ _ ts refl
    (λ text q b n f.
    let Q = Keeps m (own (attributes zs)) (placed (Lexeme.Name text) q ∷ b) in
    reads_own s m IsValue tree_in 1 attribute b b _ Q (omega arith) (λ o g. g) (λ left a h inside g low. tt) (λ left far there a h inside g low. record { far = omega arith; at_token = there }) λ y left k v less t.
    jumps s m (attributes (zs ++ asked text (tree_in y) q)) _ _ (omega arith) (λ o g a h inside u low. g a (max h k) (omega arith) (valued text q (tree_in y) zs a b left h k u v) (omega arith)))
    (λ e. gives s m _ _ _ (λ a h inside g low. record { high = h; spelled = g; low = low; taken = omega arith }))

in_braces_kept : (m : ℕ) (a : List Placed) → Kept m in_braces a
in_braces_kept m a =
    let s = size in_braces a in
    word_or s m Lexeme.LeftBrace (λ l. Unit {0}) (λ l. Keeps m (own in_braces) l) _ _ a tt
    (λ q b n f. with_own s m InBraces sizes_in 0 AreAttributes sizes_in 0 (attributes []) (placed Lexeme.LeftBrace q ∷ b) b _ (omega arith) (omega arith) (λ o k. k b 0 (omega arith) the_no_attributes (omega arith)) λ y c h v less t.
    expects s m Lexeme.RightBrace (λ l. AreAttributes b l (sizes_in y) h) (Meets InBraces sizes_in 0 m (placed Lexeme.LeftBrace q ∷ b)) _ c tt v λ r d n2 v2.
    gives s m _ _ _ (record { high = h; spelled = the_braces v2; low = less; taken = omega arith }))
    (λ e. gives s m _ _ _ (record { high = 0; spelled = the_no_braces; low = omega arith; taken = omega arith }))

-- an end by its parts
whole_end : (e : End) (a b : List Placed) → IsEnd a b e → IsEnd a b (an_end (instance_of e) (port_of e) (place_of e))
whole_end (an_end instance port at) a b v = v

connection_kept : (m : ℕ) (a : List Placed) → Kept m connection a
connection_kept m a =
    let s = size connection a in
    let Q = Meets IsConnection connection_in 1 m a in
    with_own s m IsConnection connection_in 1 IsEndOf end_in 1 end_of a a _ (omega arith) (omega arith) (λ o k. k) λ x b h v less t.
    expects s m Lexeme.LongArrow (λ l. IsEnd a l (end_in x)) Q _ b tt v λ q c n v2.
    with_own s m IsConnection connection_in 1 IsEndOf end_in 1 end_of a c _ (omega arith) (omega arith) (λ o k. k) λ y d h2 w less2 t2.
    with_own s m IsConnection connection_in 1 InBraces sizes_in 0 in_braces a d _ (omega arith) (omega arith) (λ o k. k) λ z e h3 u less3 t3.
    expects s m Lexeme.Semicolon (λ l. InBraces d l (sizes_in z) h3) Q _ e tt u λ r g n2 u2.
    gives s m _ _ _ (record { high = h3; spelled = the_connection (whole_end (end_in x) _ _ v2) (whole_end (end_in y) _ _ w) u2; low = less3; taken = omega arith })

connections_kept : (m : ℕ) (cs : List Connection) (ts : List Placed) → Kept m (connections cs) ts
connections_kept m cs ts =
    let s = size (connections cs) ts in
    asks s m _ _ _ _ _
    (λ e. reads_own s m IsConnection connection_in 1 connection ts ts _ (Keeps m (own (connections cs)) ts) (omega arith) (λ o g. g) (λ left a h inside b low. tt) (λ left far there a h inside b low. record { far = omega arith; at_token = there }) λ y left k v less t.
    jumps s m _ _ _ (omega arith) (λ o g a h inside b low. g a (max h k) (omega arith) (the_next b v) (omega arith)))
    (λ e. gives s m _ _ _ (λ a h inside b low. record { high = h; spelled = b; low = low; taken = omega arith }))

closing_kept : (m : ℕ) (a : List Placed) → Kept m closing a
closing_kept m a =
    let s = size closing a in
    word_or s m Lexeme.End (λ l. Unit {0}) (λ l. Keeps m (own closing) l) _ _ a tt
    (λ q b n f. called_or s m network_word (λ l. Unit {0}) (λ l. Keeps m (own closing) (placed Lexeme.End q ∷ l)) _ _ b tt
    (λ r c n2 f2. gives s m _ _ _ (record { high = 0; spelled = the_named_end; low = omega arith; taken = omega arith }))
    (λ e. gives s m _ _ _ (record { high = 0; spelled = the_end; low = omega arith; taken = omega arith })))
    (λ e. fails s m _ _ tt)

-- ---- networks

ports_kept : (m : ℕ) (a : List Placed) → Kept m ports a
ports_kept m a =
    let s = size ports a in
    let Q = Meets ArePorts net_in 1 m a in
    let last : Tree → Tree → Step = λ ins outs. expect Lexeme.Colon (give (a_net (with_ports ins outs))) in
    with_part s m ArePorts net_in 1 (any comma a_port) a a (λ ins. expect Lexeme.LongDoubleArrow (part (any comma a_port) (last ins))) (omega arith) λ ins b hi li ti.
    expects s m Lexeme.LongDoubleArrow (λ l. Spells (any comma a_port) a l ins) Q (part (any comma a_port) (last ins)) b tt hi λ q c n hi2.
    with_part s m ArePorts net_in 1 (any comma a_port) a c (last ins) (omega arith) λ outs d ho lo to.
    expects s m Lexeme.Colon (λ l. Spells (any comma a_port) c l outs) Q (give (a_net (with_ports ins outs))) d tt ho λ r e n2 ho2.
    gives s m (a_net (with_ports ins outs)) _ _ (record { high = max (height ins) (height outs); spelled = the_ports hi2 ho2; low = omega arith; taken = omega arith })

heading_kept : (m : ℕ) (a : List Placed) → Kept m heading a
heading_kept m a =
    let s = size heading a in
    called_or s m network_word (λ l. Unit {0}) (λ l. Keeps m (own heading) l) _ _ a tt
    (λ q b n f. name_or s m (λ l. Unit {0}) (λ l. Keeps m (own heading) (placed (Lexeme.Name network_word) q ∷ l)) _ _ b tt
    (λ text r c n2 f2. word_or s m Lexeme.LeftParen (λ l. Unit {0}) (λ l. Keeps m (own heading) (placed (Lexeme.Name network_word) q ∷ placed (Lexeme.Name text) r ∷ l)) _ _ c tt
    (λ t d n3 f3.
    let w : List Placed = placed (Lexeme.Name network_word) q ∷ placed (Lexeme.Name text) r ∷ placed Lexeme.LeftParen t ∷ d in
    let Q = Meets IsHeading net_in 1 m w in
    with_part s m IsHeading net_in 1 (any comma a_param) w d _ (omega arith) λ ps e hp lp tp.
    expects s m Lexeme.RightParen (λ l. Spells (any comma a_param) d l ps) Q _ e tt hp λ u g n4 hp2.
    with_own s m IsHeading net_in 1 ArePorts net_in 1 ports w g _ (omega arith) (omega arith) (λ o k. k) λ y i h v less t2.
    gives s m (a_net (with_heading text q ps (net_in y))) _ _ (record { high = max (height ps) h; spelled = the_heading hp2 v; low = omega arith; taken = omega arith }))
    (λ e. fails s m _ _ tt))
    (λ e. fails s m _ _ tt))
    (λ e. fails s m _ _ tt)

-- a network by its parts
record IsJoined (m : ℕ) (a b : List Placed) (n : Net) : Type 0 where
  high : ℕ
  spelled : IsNetwork a b n high
  low : high ≤ m

joined : (m : ℕ) (n : Net) (ds : List Decl) (is : List Instance) (cs : List Connection) (a b c d e g : List Placed) (h k l i : ℕ) → IsHeading a b n h → UpTo entities_word (Behind (Net.decls n) AreVariables) b c ds k → UpTo structure_word (Repeated IsEntity) c d is l → Repeated IsConnection d e cs i → IsClosed e g → h ≤ m → k ≤ m → l ≤ m → i ≤ m → IsJoined m a g (with_body n ds is cs)
joined m n ds is cs a b c d e g h k l i (the_heading {s = s} {q = q} {ps = ps} hp (the_ports {ins = ins} {outs = outs} hi ho)) (up_to w) (up_to x) y z lh lk ll li =
    let made = the_network hp hi ho w.spelled x y z in
    let Q : List Decl → Type 0 = λ v. IsNetwork a g (with_body (with_heading s q ps (with_ports ins outs)) v is cs) (max (max (height ps) (max (height ins) (height outs))) (max k (max l i))) in
    record { high = max (max (height ps) (max (height ins) (height outs))) (max k (max l i)); spelled = subst Q (sym w.is) made; low = omega arith }

network_kept : (m : ℕ) (a : List Placed) → Kept m network a
network_kept m a =
    let s = size network a in
    with_own s m IsNetwork net_in 1 IsHeading net_in 1 heading a a _ (omega arith) (omega arith) (λ o k. k) λ y b h v less t.
    with_own s m IsNetwork net_in 1 (UpTo entities_word (Behind (Net.decls (net_in y)) AreVariables)) decls_in 1 (declared (Net.decls (net_in y))) a b _ (omega arith) (omega arith) (λ o k. k) λ ds c k w less2 t2.
    with_own s m IsNetwork net_in 1 (UpTo structure_word (Repeated IsEntity)) instances_in 1 (entities []) a c _ (omega arith) (omega arith) (λ o g. g c 0 (omega arith) the_none (omega arith)) λ is d l x less3 t3.
    with_own s m IsNetwork net_in 1 (Repeated IsConnection) connections_in 0 (connections []) a d _ (omega arith) (omega arith) (λ o g. g d 0 (omega arith) the_none (omega arith)) λ cs e i z less4 t4.
    with_own s m IsNetwork net_in 1 IsClosing (λ u. u) 1 closing a e _ (omega arith) (omega arith) (λ o g. g) λ u g j last less5 t5.
    gives s m _ _ _ (let found : IsJoined m a g (with_body (net_in y) (decls_in ds) (instances_in is) (connections_in cs)) = joined m (net_in y) (decls_in ds) (instances_in is) (connections_in cs) a b c d e g h k l i v w x z last less less2 less3 less4 in record { high = found.high; spelled = found.spelled; low = found.low; taken = omega arith })

packaged_kept : (m : ℕ) (a : List Placed) → Kept m packaged a
packaged_kept m a =
    let s = size packaged a in
    word_or s m Lexeme.Package (λ l. Unit {0}) (λ l. Keeps m (own packaged) l) _ _ a tt
    (λ q b n f. with_part s m IsPackaged (λ y. y) 0 a_tag (placed Lexeme.Package q ∷ b) b _ (omega arith) λ t c ht lt tt2.
    expects s m Lexeme.Semicolon (λ l. Spells a_tag b l t) (Meets IsPackaged (λ y. y) 0 m (placed Lexeme.Package q ∷ b)) _ c tt ht λ r d n2 ht2.
    gives s m nothing _ _ (record { high = 0; spelled = the_package ht2; low = omega arith; taken = omega arith }))
    (λ e. gives s m _ _ _ (record { high = 0; spelled = the_no_package; low = omega arith; taken = omega arith }))

-- a text by its parts
packed : (y : Found) (n : Net) (a b c : List Placed) (h k : ℕ) → IsPackaged a b y k → IsNetwork b c n h → IsText a c n h
packed y n a b c h k the_no_package v = the_text v
packed y n a b c h k (the_package t) v = the_packaged_text t v

whole_kept : (m : ℕ) (a : List Placed) → Kept m whole a
whole_kept m a =
    let s = size whole a in
    reads_own s m IsPackaged (λ y. y) 0 packaged a a _ (MeetsWhole m a) (omega arith) (λ o k. k) (λ left. tt) (λ left far there. record { far = omega arith; at_token = there }) λ y b h v less t.
    reads_own s m IsNetwork net_in 1 network b b _ (MeetsWhole m a) (omega arith) (λ o k. k) (λ left. tt) (λ left far there. record { far = omega arith; at_token = there }) λ z c k w less2 t2.
    ended c y z b h k v w less2
  where
    ended : (c : List Placed) (y z : Found) (b : List Placed) (h k : ℕ) → IsPackaged a b y h → IsNetwork b c (net_in z) k → k ≤ m → Shows (size whole a) m (ask at_end (give (a_net (net_in z))) fail) c (MeetsWhole m a)
    ended [] y z b h k v w less = record { it = (λ e. (record { high = k; spelled = packed y (net_in z) a b [] k h v w; low = less; taken = omega arith }, refl), λ e. absurd cc) }
    ended (t ∷ c) y z b h k v w less = record { it = (λ e. absurd cc, λ e. tt) }

-- what each rule keeps to
pub kept : (m : ℕ) (r : Own) (ts : List Placed) → Kept m r ts
kept m variable ts = variable_kept m ts
kept m (variables ds) ts = variables_kept m ds ts
kept m (declared ds) ts = declared_kept m ds ts
kept m parameter ts = parameter_kept m ts
kept m (more_parameters ps) ts = more_parameters_kept m ps ts
kept m parameters ts = parameters_kept m ts
kept m (entity s q) ts = entity_kept m s q ts
kept m (entities is) ts = entities_kept m is ts
kept m end_of ts = end_kept m ts
kept m attribute ts = attribute_kept m ts
kept m (attributes zs) ts = attributes_kept m zs ts
kept m in_braces ts = in_braces_kept m ts
kept m connection ts = connection_kept m ts
kept m (connections cs) ts = connections_kept m cs ts
kept m closing ts = closing_kept m ts
kept m ports ts = ports_kept m ts
kept m heading ts = heading_kept m ts
kept m network ts = network_kept m ts
kept m packaged ts = packaged_kept m ts
kept m whole ts = whole_kept m ts
