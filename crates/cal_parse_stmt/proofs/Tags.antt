-- A tag is a list of names.
use Rattle.std.proofs.Common.{◌≡◌, ℕ, List, map, Ok, Err, refl, ap}
use Rattle.cal_grammar.specs.Program.{Gave, exec}
use Rattle.cal_ast.specs.Places.{begins}
use Rattle.cal_ast.specs.Tree.{tag, listed}
use Rattle.cal_ast.specs.View.{ident_tree}
use Rattle.cal_ast.specs.declared.ident.Tag.{Tag}
use Rattle.cal_lexer.specs.Lexeme.{plain_tokens}
use Rattle.cal_lexer.specs.declared.token.Token.{Token}
use Rattle.cal_grammar.specs.Spells.{separated, a_name, a_tag, dot}
use Rattle.cal_grammar.specs.Rules.{part, read}
use Rattle.cal_parse_base.specs.Tells.{TellsNames, TellsTag}
use Rattle.cal_parse_base.specs.declared.fault.Fault.{Fault}
use Rattle.cal_parse_base.specs.declared.fault.Fault.TheVariants as faults
use Rattle.cal_grammar.proofs.Reading.{read_is}

pub tag_read : (old new : List Token) (t : Tag) → ((m : ℕ) → read m (part (separated dot a_name)) (plain_tokens old) ≡ Gave (listed (map ident_tree t.parts.items)) (plain_tokens new)) → t.at ≡ begins (listed (map ident_tree t.parts.items)) → TellsTag (Ok t) old new
tag_read old new t names at = λ m. rw (read_is m (part a_tag) (plain_tokens old), names m, exec) (ap (λ q. Gave (tag (listed (map ident_tree t.parts.items)) q) (plain_tokens new)) (let back : begins (listed (map ident_tree t.parts.items)) ≡ t.at = cc in back))

pub tag_fails : (old new : List Token) (fault : Fault) → TellsNames dot (Err fault) old new → TellsTag (Err fault) old new
tag_fails old new faults.Refused h = λ m. rw (read_is m (part a_tag) (plain_tokens old), h m, exec) refl
tag_fails old new faults.TooHigh h = λ m. rw (read_is m (part a_tag) (plain_tokens old), h m, exec) refl
tag_fails old new faults.Memory h = λ m. tt
