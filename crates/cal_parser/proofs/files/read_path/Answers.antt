use Rattle.std.proofs.Common.{◌≡◌, ◌<◌, length, string_bytes, Err, rules, sym, ◌∙◌, arith}
use Rattle.cal_lexer.specs.Lexeme.{Lexeme}
use Rattle.cal_parser.proofs.ImportPaths.{no_path_yet, path_goes_on, path_named, path_starred, path_undotted, path_unnamed}
use Rattle.cal_parse_base.proofs.Taking.{took_less}
use Rattle.cal_parser.proofs.files.read_path.Goals as goal

pub path-init : goal.path-init
path-init c = no_path_yet c.args.room c.args.tokens.now.now c.new-names.result.items c.new-names.ensures.items

pub returns-in_err-expect : goal.returns-in_err-expect
returns-in_err-expect c =
    let same : c.from_residual.result ≡ Err c.in_err-expect.field-0.0 = search rules in
    rw same (path_undotted c.args.room c.args.tokens.now.now c.path.tokens.now c.path.names.items c.path.invariant c.expect.new.tokens.now c.in_err-expect.field-0.0 c.in_err-expect.ensures)

pub returns-then-is_word : goal.returns-then-is_word
returns-then-is_word c =
    path_starred c.args.room c.args.tokens.now.now c.path.tokens.now c.path.names.items c.path.invariant c.expect.new.tokens.now c.take_word.new.tokens.now c.in_ok-expect.field-0 c.take_word.result c.in_ok-expect.ensures c.take_word.ensures

pub returns-in_err-next : goal.returns-in_err-next
returns-in_err-next c =
    let same : c.from_residual-in_err-next.result ≡ Err c.in_err-next.field-0.0 = search rules in
    rw same (path_unnamed c.args.room c.args.tokens.now.now c.path.tokens.now c.path.names.items c.path.invariant c.expect.new.tokens.now c.name.new.tokens.now c.in_ok-expect.field-0 c.in_err-next.field-0.0 c.in_ok-expect.ensures (sym c.is_word.ensures ∙ c.if-is_word.false) c.in_err-next.ensures)

pub returns-then-not-is_word : goal.returns-then-not-is_word
returns-then-not-is_word c =
    path_named c.args.room c.args.tokens.now.now c.path.tokens.now c.path.names.items c.path.invariant c.in_ok-next.next c.expect.new.tokens.now c.name.new.tokens.now c.in_ok-expect.field-0 c.in_ok-expect.ensures c.in_ok-next.ensures (sym c.is_word-in-path.ensures ∙ c.if-not-is_word.true)

pub path-preserved : goal.path-preserved
path-preserved c =
    path_goes_on c.args.room c.args.tokens.now.now c.path.tokens.now c.path.names.items c.path.invariant c.in_ok-next.next c.expect.new.tokens.now c.name.new.tokens.now c.in_ok-expect.field-0 c.in_ok-expect.ensures c.in_ok-next.ensures (sym c.is_word-in-path.ensures ∙ c.if-not-is_word.false) c.push.new.self.items c.in_ok-push.ensures.items

pub path-smaller : goal.path-smaller
path-smaller c =
    let dotted : length c.expect.new.tokens.now < length c.path.tokens.now = took_less Lexeme.Dot c.in_ok-expect.field-0 c.path.tokens.now c.expect.new.tokens.now c.in_ok-expect.ensures in
    let named : length c.name.new.tokens.now < length c.expect.new.tokens.now = took_less (Lexeme.Name (string_bytes c.in_ok-next.next.text)) c.in_ok-next.next.at c.expect.new.tokens.now c.name.new.tokens.now c.in_ok-next.ensures in
    omega arith
