-- Whatever is spelled is read.
use Rattle.std.proofs.Common.{◌≡◌, ℕ, ◌≤◌, ◌⊎◌, inl, inr, Bool, true, false, List, [], ◌∷◌, ◌++◌, append_assoc, refl, sym, ap, ◌∙◌, arith}
use Rattle.std.proofs.lemmas.List.{append-nil}
use Rattle.cal_grammar.specs.Program.{Gave, ahead, exec, give, jump}
use Rattle.cal_ast.specs.Tree.{Tree, present}
use Rattle.cal_ast.specs.Places.{begins}
use Rattle.cal_lexer.specs.Lexeme.{Lexeme, Placed, placed}
use Rattle.cal_grammar.specs.Token.{here, names, same_word}
use Rattle.cal_grammar.specs.Operators.{height}
use Rattle.cal_grammar.specs.Rules as cal
use Rattle.cal_grammar.specs.Spells.{Part, Spells, any, comma, an_expr, a_param, a_port, a_tag, a_type, the_tag}
use Rattle.cal_grammar.proofs.Claims.{closes}
use Rattle.cal_grammar.proofs.Complete.{complete}
use Rattle.cal_grammar.proofs.Follow.{seen, may_follow}
use Rattle.fnl_frames.specs.Net.{Net, Decl, a_decl, Parameter, Instance, an_instance, Size, Connection}
use Rattle.nl_grammar.specs.Headings.{is_called, network_word, entities_word, structure_word}
use Rattle.nl_grammar.specs.Spells.{Repeated, the_none, the_next, IsVariable, the_variable, AreVariables, the_no_variables, the_variables, IsParameter, the_parameter, SomeParameters, the_first, the_more, AreParameters, the_no_parameters, the_parameters, IsEntity, the_entity, End, an_end, IsEnd, the_own_port, the_port_of, AreAttributes, the_no_attributes, the_next_attribute, InBraces, the_no_braces, the_braces, IsConnection, the_connection, IsClosed, the_end, the_named_end, IsNetwork, the_network, IsText, the_text, the_packaged_text, class_text, param_decls}
use Rattle.nl_grammar.specs.Rules.{a_tree, a_variable, some_decls, one_parameter, some_parameters, one_instance, some_instances, one_end, some_sizes, one_connection, some_connections, a_net, nothing, variable, variables, declared, parameter, more_parameters, parameters, entity, entities, end_of, attribute, attributes, in_braces, connection, connections, closing, ports, heading, network, packaged, whole, own, on, with_ports, with_heading, read, reads}
use Rattle.nl_grammar.proofs.Called.{sign_is}
use Rattle.nl_grammar.proofs.Reading.{read_is}

-- a part of the language that is spelled is read
tree_read : {p : Part} {a b : List Placed} {x : Tree} (m : ℕ) → Spells p a b x → height x ≤ m → may_follow p (seen (ahead b)) ≡ true → cal.read m (cal.part p) a ≡ Gave x b
tree_read m h low f = closes (complete h m low) f

flat_tag : {a b : List Placed} {x : Tree} → Spells a_tag a b x → height x ≡ 0
flat_tag (the_tag h) = refl

-- ---- variables

variable_read : (m h : ℕ) (a b : List Placed) (d : Decl) → IsVariable a b d h → h ≤ m → read m variable a ≡ Gave (a_variable d) b
variable_read m h a b d (the_variable {w = w} {s = s} {q = q} {r = r} {t = t} {b = c} {shape = shape} {x = x} none hs sign hx) low =
    let s1 : cal.read m (cal.part a_type) a ≡ Gave shape (placed (Lexeme.Name s) q ∷ placed w r ∷ c) = tree_read m hs (omega arith) refl in
    let s2 : cal.read m (cal.part an_expr) c ≡ Gave x (placed Lexeme.Semicolon t ∷ b) = tree_read m hx (omega arith) refl in
    signed w (sign_is w sign) s1 s2
  where
    signed : (w : Lexeme) → (w ≡ Lexeme.Equal) ⊎ (w ≡ Lexeme.Assign) → cal.read m (cal.part a_type) a ≡ Gave shape (placed (Lexeme.Name s) q ∷ placed w r ∷ c) → cal.read m (cal.part an_expr) c ≡ Gave x (placed Lexeme.Semicolon t ∷ b) → read m variable a ≡ Gave (a_variable (a_decl false shape s (present x) (begins shape))) b
    signed w (inl e) s1 s2 = let s1' : cal.read m (cal.part a_type) a ≡ Gave shape (placed (Lexeme.Name s) q ∷ placed Lexeme.Equal r ∷ c) = s1 ∙ ap (λ k. Gave shape (placed (Lexeme.Name s) q ∷ placed k r ∷ c)) e in rw (read_is m variable a, s1', s2, exec) refl
    signed w (inr e) s1 s2 = let s1' : cal.read m (cal.part a_type) a ≡ Gave shape (placed (Lexeme.Name s) q ∷ placed Lexeme.Assign r ∷ c) = s1 ∙ ap (λ k. Gave shape (placed (Lexeme.Name s) q ∷ placed k r ∷ c)) e in rw (read_is m variable a, s1', s2, exec) refl

unheaded : (a b : List Placed) (d : Decl) (h : ℕ) → IsVariable a b d h → here (is_called entities_word) (ahead a) ≡ false
unheaded a b d h (the_variable none hs sign hx) = none

variables_read : (m h : ℕ) (a b : List Placed) (before ds : List Decl) → Repeated IsVariable a b ds h → h ≤ m → read m (variables before) a ≡ read m (variables (before ++ ds)) b
variables_read m h a b before ds the_none low = ap (λ l. read m (variables l) a) (sym (append-nil before))
variables_read m h a c before _ (the_next {b = b} {xs = ds} {x = d} {h = h1} {k = k} v w) low =
    let s1 : read m variable b ≡ Gave (a_variable d) c = variable_read m k b c d w (omega arith) in
    let none : here (is_called entities_word) (ahead b) ≡ false = unheaded b c d k w in
    let step : read m (variables (before ++ ds)) b ≡ read m (variables ((before ++ ds) ++ d ∷ [])) c = rw (read_is m (variables (before ++ ds)) b, none, s1, exec) refl in
    variables_read m h1 a b before ds v (omega arith) ∙ step ∙ ap (λ l. read m (variables l) c) (append_assoc before ds (d ∷ []))

declared_read : (m h i : ℕ) (a b : List Placed) (before ds : List Decl) → AreVariables a (placed (Lexeme.Name entities_word) i ∷ b) ds h → h ≤ m → read m (declared before) a ≡ Gave (some_decls (before ++ ds)) b
declared_read m h i a b before ds the_no_variables low =
    let none : before ++ [] ≡ before = append-nil before in
    rw (read_is m (declared before) a, none, exec) refl
declared_read m h i _ b before ds (the_variables {q = q} {a = a} v) low =
    let s1 : read m (variables before) a ≡ read m (variables (before ++ ds)) (placed (Lexeme.Name entities_word) i ∷ b) = variables_read m h a (placed (Lexeme.Name entities_word) i ∷ b) before ds v low in
    let s2 : read m (variables (before ++ ds)) (placed (Lexeme.Name entities_word) i ∷ b) ≡ Gave (some_decls (before ++ ds)) b = rw (read_is m (variables (before ++ ds)) (placed (Lexeme.Name entities_word) i ∷ b), exec) refl in
    rw (read_is m (declared before) (placed Lexeme.Var q ∷ a), exec) (s1 ∙ s2)

-- ---- instances

parameter_read : (m h : ℕ) (a b : List Placed) (p : Parameter) → IsParameter a b p h → h ≤ m → may_follow an_expr (seen (ahead b)) ≡ true → read m parameter a ≡ Gave (one_parameter p) b
parameter_read m h _ b p (the_parameter {s = s} {q = q} {r = r} {a = a} {x = x} hx) low f =
    let s1 : cal.read m (cal.part an_expr) a ≡ Gave x b = tree_read m hx low f in
    rw (read_is m parameter (placed (Lexeme.Name s) q ∷ placed Lexeme.Equal r ∷ a), s1, exec) refl

-- parameters before a comma
parameters_go : (m h q : ℕ) (a b : List Placed) (ps : List Parameter) → SomeParameters a (placed Lexeme.Comma q ∷ b) ps h → h ≤ m → read m (more_parameters []) a ≡ read m (more_parameters ps) b
parameters_go m h q a b _ (the_first {p = p} v) low =
    let s1 : read m parameter a ≡ Gave (one_parameter p) (placed Lexeme.Comma q ∷ b) = parameter_read m h a (placed Lexeme.Comma q ∷ b) p v low refl in
    rw (read_is m (more_parameters []) a, s1, exec) refl
parameters_go m h q a c _ (the_more {b = b} {ps = ps} {p = p} {q = r} {h = h1} {k = k} v w) low =
    let s1 : read m parameter b ≡ Gave (one_parameter p) (placed Lexeme.Comma q ∷ c) = parameter_read m k b (placed Lexeme.Comma q ∷ c) p w (omega arith) refl in
    parameters_go m h1 r a b ps v (omega arith) ∙ rw (read_is m (more_parameters ps) b, s1, exec) refl

-- parameters before what is no comma
parameters_stop : (m h : ℕ) (a b : List Placed) (ps : List Parameter) → SomeParameters a b ps h → h ≤ m → may_follow an_expr (seen (ahead b)) ≡ true → here (same_word Lexeme.Comma) (ahead b) ≡ false → read m (more_parameters []) a ≡ Gave (some_parameters ps) b
parameters_stop m h a b _ (the_first {p = p} v) low f none =
    let s1 : read m parameter a ≡ Gave (one_parameter p) b = parameter_read m h a b p v low f in
    let last : exec reads m (on Lexeme.Comma (jump (own (more_parameters (p ∷ [])))) (give (some_parameters (p ∷ [])))) b ≡ Gave (some_parameters (p ∷ [])) b = rw (none, exec) refl in
    rw (read_is m (more_parameters []) a, s1, exec) last
parameters_stop m h a c _ (the_more {b = b} {ps = ps} {p = p} {q = q} {h = h1} {k = k} v w) low f none =
    let s1 : read m parameter b ≡ Gave (one_parameter p) c = parameter_read m k b c p w (omega arith) f in
    let last : exec reads m (on Lexeme.Comma (jump (own (more_parameters (ps ++ p ∷ [])))) (give (some_parameters (ps ++ p ∷ [])))) c ≡ Gave (some_parameters (ps ++ p ∷ [])) c = rw (none, exec) refl in
    parameters_go m h1 q a b ps v (omega arith) ∙ rw (read_is m (more_parameters ps) b, s1, exec) last

some_begin : (a b : List Placed) (ps : List Parameter) (h : ℕ) → SomeParameters a b ps h → here names (ahead a) ≡ true
some_begin _ b ps h (the_first (the_parameter hx)) = refl
some_begin a c ps h (the_more {b = b} {ps = qs} {q = q} {h = k} v w) = some_begin a (placed Lexeme.Comma q ∷ b) qs k v

parameters_read : (m h q : ℕ) (a b : List Placed) (ps : List Parameter) → AreParameters a (placed Lexeme.RightParen q ∷ b) ps h → h ≤ m → read m parameters a ≡ Gave (some_parameters ps) (placed Lexeme.RightParen q ∷ b)
parameters_read m h q _ b ps the_no_parameters low = rw (read_is m parameters (placed Lexeme.RightParen q ∷ b), exec) refl
parameters_read m h q a b ps (the_parameters v) low =
    let one : here names (ahead a) ≡ true = some_begin a (placed Lexeme.RightParen q ∷ b) ps h v in
    let s1 : read m (more_parameters []) a ≡ Gave (some_parameters ps) (placed Lexeme.RightParen q ∷ b) = parameters_stop m h a (placed Lexeme.RightParen q ∷ b) ps v low refl refl in
    rw (read_is m parameters a, one, exec) s1

entities_go : (m h : ℕ) (a b : List Placed) (is : List Instance) → Repeated IsEntity a b is h → h ≤ m → read m (entities []) a ≡ read m (entities is) b
entities_go m h a b is the_none low = refl
entities_go m h a _ _ (the_next {xs = is} {h = h1} {k = k} v (the_entity {s = s} {q = q} {r = r} {t = t} {u = u} {v = o} {a = c} {b = d} {c = e} {class = class} {ps = ps} hc hp)) low =
    let s1 : cal.read m (cal.part a_tag) c ≡ Gave class (placed Lexeme.LeftParen t ∷ d) = tree_read m hc (omega (arith, flat_tag hc)) refl in
    let s2 : read m parameters d ≡ Gave (some_parameters ps) (placed Lexeme.RightParen u ∷ placed Lexeme.Semicolon o ∷ e) = parameters_read m k u d (placed Lexeme.Semicolon o ∷ e) ps hp (omega arith) in
    let s3 : read m (entity s q) c ≡ Gave (one_instance (an_instance s (class_text class) (begins class) ps q)) e = rw (read_is m (entity s q) c, s1, s2, exec) refl in
    entities_go m h1 a (placed (Lexeme.Name s) q ∷ placed Lexeme.Equal r ∷ c) is v (omega arith)
    ∙ rw (read_is m (entities is) (placed (Lexeme.Name s) q ∷ placed Lexeme.Equal r ∷ c), s3, exec) refl

entities_read : (m h j : ℕ) (a b : List Placed) (is : List Instance) → Repeated IsEntity a (placed (Lexeme.Name structure_word) j ∷ b) is h → h ≤ m → here (same_word Lexeme.Equal) (ahead b) ≡ false → read m (entities []) a ≡ Gave (some_instances is) b
entities_read m h j a b is v low none =
    entities_go m h a (placed (Lexeme.Name structure_word) j ∷ b) is v low
    ∙ rw (read_is m (entities is) (placed (Lexeme.Name structure_word) j ∷ b), none, exec) refl

-- ---- connections

end_read : (m : ℕ) (a b : List Placed) (e : End) → IsEnd a b e → here (same_word Lexeme.Dot) (ahead b) ≡ false → read m end_of a ≡ Gave (one_end e) b
end_read m _ b e (the_own_port {s = s} {q = q}) none = rw (read_is m end_of (placed (Lexeme.Name s) q ∷ b), none, exec) refl
end_read m _ b e (the_port_of {s = s} {i = i} {q = q} {r = r} {t = t}) none = rw (read_is m end_of (placed (Lexeme.Name i) q ∷ placed Lexeme.Dot r ∷ placed (Lexeme.Name s) t ∷ b), exec) refl

attributes_go : (m h : ℕ) (a b : List Placed) (zs : List Size) → AreAttributes a b zs h → h ≤ m → read m (attributes []) a ≡ read m (attributes zs) b
attributes_go m h a b zs the_no_attributes low = refl
attributes_go m h a c _ (the_next_attribute {s = s} {q = q} {r = r} {t = t} {h = k} {b = b} {x = x} {zs = zs} v hx) low =
    let s1 : cal.read m (cal.part an_expr) b ≡ Gave x (placed Lexeme.Semicolon t ∷ c) = tree_read m hx (omega arith) refl in
    let s2 : read m attribute (placed Lexeme.Equal r ∷ b) ≡ Gave (a_tree x) c = rw (read_is m attribute (placed Lexeme.Equal r ∷ b), s1, exec) refl in
    attributes_go m k a (placed (Lexeme.Name s) q ∷ placed Lexeme.Equal r ∷ b) zs v (omega arith)
    ∙ rw (read_is m (attributes zs) (placed (Lexeme.Name s) q ∷ placed Lexeme.Equal r ∷ b), s2, exec) refl

in_braces_read : (m h r : ℕ) (a b : List Placed) (zs : List Size) → InBraces a (placed Lexeme.Semicolon r ∷ b) zs h → h ≤ m → read m in_braces a ≡ Gave (some_sizes zs) (placed Lexeme.Semicolon r ∷ b)
in_braces_read m h r _ b zs the_no_braces low = rw (read_is m in_braces (placed Lexeme.Semicolon r ∷ b), exec) refl
in_braces_read m h r _ b zs (the_braces {q = q} {r = t} {a = a} v) low =
    let s1 : read m (attributes []) a ≡ Gave (some_sizes zs) (placed Lexeme.RightBrace t ∷ placed Lexeme.Semicolon r ∷ b) = attributes_go m h a (placed Lexeme.RightBrace t ∷ placed Lexeme.Semicolon r ∷ b) zs v low ∙ rw (read_is m (attributes zs) (placed Lexeme.RightBrace t ∷ placed Lexeme.Semicolon r ∷ b), exec) refl in
    rw (read_is m in_braces (placed Lexeme.LeftBrace q ∷ a), s1, exec) refl

-- what stands behind the ends of a connection
braces_has : (g : Lexeme → Bool) (r : Bool) (a b : List Placed) (zs : List Size) (h q : ℕ) → InBraces a (placed Lexeme.Semicolon q ∷ b) zs h → g Lexeme.LeftBrace ≡ r → g Lexeme.Semicolon ≡ r → here g (ahead a) ≡ r
braces_has g r _ b zs h q the_no_braces e f = f
braces_has g r _ b zs h q (the_braces v) e f = e

connection_read : (m h : ℕ) (a b : List Placed) (c : Connection) → IsConnection a b c h → h ≤ m → read m connection a ≡ Gave (one_connection c) b
connection_read m h a d _ (the_connection {src = src} {src_port = src_port} {dst = dst} {dst_port = dst_port} {at = at} {place = place} {q = q} {r = r} {b = b} {c = c} {zs = zs} v w u) low =
    let s1 : read m end_of a ≡ Gave (one_end (an_end src src_port at)) (placed Lexeme.LongArrow q ∷ b) = end_read m a (placed Lexeme.LongArrow q ∷ b) (an_end src src_port at) v refl in
    let s2 : read m end_of b ≡ Gave (one_end (an_end dst dst_port place)) c = end_read m b c (an_end dst dst_port place) w (braces_has (same_word Lexeme.Dot) false c d zs h r u refl refl) in
    let s3 : read m in_braces c ≡ Gave (some_sizes zs) (placed Lexeme.Semicolon r ∷ d) = in_braces_read m h r c d zs u low in
    rw (read_is m connection a, s1, s2, s3, exec) refl

connection_begins : (a b : List Placed) (c : Connection) (h : ℕ) → IsConnection a b c h → here names (ahead a) ≡ true
connection_begins a b c h (the_connection the_own_port w u) = refl
connection_begins a b c h (the_connection the_port_of w u) = refl

connections_go : (m h : ℕ) (a b : List Placed) (cs : List Connection) → Repeated IsConnection a b cs h → h ≤ m → read m (connections []) a ≡ read m (connections cs) b
connections_go m h a b cs the_none low = refl
connections_go m h a c _ (the_next {b = b} {xs = cs} {x = x} {h = h1} {k = k} v w) low =
    let one : here names (ahead b) ≡ true = connection_begins b c x k w in
    let s1 : read m connection b ≡ Gave (one_connection x) c = connection_read m k b c x w (omega arith) in
    connections_go m h1 a b cs v (omega arith) ∙ rw (read_is m (connections cs) b, one, s1, exec) refl

closed_begins : (g : Lexeme → Bool) (r : Bool) (a b : List Placed) → IsClosed a b → g Lexeme.End ≡ r → here g (ahead a) ≡ r
closed_begins g r _ b the_end e = e
closed_begins g r _ b the_named_end e = e

connections_read : (m h : ℕ) (a b c : List Placed) (cs : List Connection) → Repeated IsConnection a b cs h → IsClosed b c → h ≤ m → read m (connections []) a ≡ Gave (some_connections cs) b
connections_read m h a b c cs v w low =
    let none : here names (ahead b) ≡ false = closed_begins names false b c w refl in
    connections_go m h a b cs v low ∙ rw (read_is m (connections cs) b, none, exec) refl

-- no instance is taken for the heading: what stands behind that is a connection or the end
behind_heading : (a b c : List Placed) (cs : List Connection) (h : ℕ) → Repeated IsConnection a b cs h → IsClosed b c → here (same_word Lexeme.Equal) (ahead a) ≡ false
behind_heading a b c _ h the_none w = closed_begins (same_word Lexeme.Equal) false a c w refl
behind_heading a d c _ h (the_next {b = b} {xs = cs} {x = x} {h = h1} {k = k} v u) w = before b d cs x h1 k v u
  where
    connected : (a b : List Placed) (x : Connection) (k : ℕ) → IsConnection a b x k → here (same_word Lexeme.Equal) (ahead a) ≡ false
    connected a b x k (the_connection the_own_port v u) = refl
    connected a b x k (the_connection the_port_of v u) = refl

    before : (b d : List Placed) (cs : List Connection) (x : Connection) (h k : ℕ) → Repeated IsConnection a b cs h → IsConnection b d x k → here (same_word Lexeme.Equal) (ahead a) ≡ false
    before b d _ x h k the_none u = connected b d x k u
    before b d _ x h k (the_next {b = c} {xs = cs} {x = y} {h = i} {k = j} v w) u = before c b cs y i j v w

-- ---- networks

closing_read : (m : ℕ) (a : List Placed) → IsClosed a [] → read m closing a ≡ Gave nothing []
closing_read m _ (the_end {q = q}) = rw (read_is m closing (placed Lexeme.End q ∷ []), exec) refl
closing_read m _ (the_named_end {q = q} {r = r}) = rw (read_is m closing (placed Lexeme.End q ∷ placed (Lexeme.Name network_word) r ∷ []), exec) refl

network_read : (m h : ℕ) (a : List Placed) (n : Net) → IsNetwork a [] n h → h ≤ m → read m network a ≡ Gave (a_net n) []
network_read m h _ _ (the_network {s = s} {q = q} {r = r} {t = t} {u = u} {v = v} {w = w} {i = i} {j = j} {h = h1} {k = k} {l = l} {a = a} {b = b} {c = c} {d = d} {e = e} {f = f} {g = g} {ps = ps} {ins = ins} {outs = outs} {ds = ds} {is = is} {cs = cs} hp hi ho hv he hc last) low =
    let start = placed (Lexeme.Name network_word) q ∷ placed (Lexeme.Name s) r ∷ placed Lexeme.LeftParen t ∷ a in
    let s1 : cal.read m (cal.part (any comma a_param)) a ≡ Gave ps (placed Lexeme.RightParen u ∷ b) = tree_read m hp (omega arith) refl in
    let s2 : cal.read m (cal.part (any comma a_port)) b ≡ Gave ins (placed Lexeme.LongDoubleArrow v ∷ c) = tree_read m hi (omega arith) refl in
    let s3 : cal.read m (cal.part (any comma a_port)) c ≡ Gave outs (placed Lexeme.Colon w ∷ d) = tree_read m ho (omega arith) refl in
    let s4 : read m ports b ≡ Gave (a_net (with_ports ins outs)) d = rw (read_is m ports b, s2, s3, exec) refl in
    let s5 : read m heading start ≡ Gave (a_net (with_heading s q ps (with_ports ins outs))) d = rw (read_is m heading start, s1, s4, exec) refl in
    let s6 : read m (declared (param_decls ps)) d ≡ Gave (some_decls (param_decls ps ++ ds)) e = declared_read m h1 i d e (param_decls ps) ds hv (omega arith) in
    let s7 : read m (entities []) e ≡ Gave (some_instances is) f = entities_read m k j e f is he (omega arith) (behind_heading f g [] cs l hc last) in
    let s8 : read m (connections []) f ≡ Gave (some_connections cs) g = connections_read m l f g [] cs hc last (omega arith) in
    let s9 : read m closing g ≡ Gave nothing [] = closing_read m g last in
    rw (read_is m network start, s5, s6, s7, s8, s9, exec) refl

network_begins : (a b : List Placed) (n : Net) (h : ℕ) → IsNetwork a b n h → here (same_word Lexeme.Package) (ahead a) ≡ false
network_begins a b n h (the_network hp hi ho hv he hc last) = refl

-- whatever is spelled is read
pub text_read : (m h : ℕ) (a : List Placed) (n : Net) → IsText a [] n h → h ≤ m → read m whole a ≡ Gave (a_net n) []
text_read m h a n (the_text v) low =
    let none : here (same_word Lexeme.Package) (ahead a) ≡ false = network_begins a [] n h v in
    let s1 : read m packaged a ≡ Gave nothing a = rw (read_is m packaged a, none, exec) refl in
    let s2 : read m network a ≡ Gave (a_net n) [] = network_read m h a n v low in
    rw (read_is m whole a, s1, s2, exec) refl
text_read m h _ n (the_packaged_text {q = q} {r = r} {a = a} {b = b} {t = t} v w) low =
    let s1 : cal.read m (cal.part a_tag) a ≡ Gave t (placed Lexeme.Semicolon r ∷ b) = tree_read m v (omega (arith, flat_tag v)) refl in
    let s2 : read m packaged (placed Lexeme.Package q ∷ a) ≡ Gave nothing b = rw (read_is m packaged (placed Lexeme.Package q ∷ a), s1, exec) refl in
    let s3 : read m network b ≡ Gave (a_net n) [] = network_read m h b n w low in
    rw (read_is m whole (placed Lexeme.Package q ∷ a), s2, s3, exec) refl
