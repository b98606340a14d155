use Rattle.std.proofs.Common.{◌≡◌, ◌+◌, ◌-◌, [], ◌∷◌, ◌++◌, take, drop, length, refl, sym, ap, ◌∙◌, subst, arith}
use Rattle.std.proofs.lemmas.List.{take_all, length-drop, map-append}
use Rattle.cal_lexer.specs.Lexeme.{lexeme, placed, plain, plain_tokens}
use Rattle.cal_lexer.specs.NetPieces.{IsNetPiece}
use Rattle.cal_lexer.proofs.NetOnce as once
use Rattle.cal_lexer.proofs.NetSteps.{NetSoFar, past_gap, past_token, finish}
use Rattle.cal_lexer.proofs.net.lex_net.Goals as goal

pub loop-at-preserved-in-Gap : goal.loop-at-preserved-in-Gap
loop-at-preserved-in-Gap c =
    let text = c.args.text.now in
    let at = c.loop-at.at in
    let whole : take (length text - at) (drop at text) ≡ drop at text = take_all (length text - at) (drop at text) (omega (arith, length-drop at text)) in
    let piece = subst (λ bytes. IsNetPiece bytes c.in-Ok.found) whole c.in-Ok.ensures in
    past_gap text (plain_tokens c.loop-at.tokens.items) at c.in-Gap.size c.loop-at.invariant (subst (λ p. IsNetPiece (drop at text) p) c.in-Gap.is piece)

pub loop-at-preserved : goal.loop-at-preserved
loop-at-preserved c =
    let text = c.args.text.now in
    let at = c.loop-at.at in
    let whole : take (length text - at) (drop at text) ≡ drop at text = take_all (length text - at) (drop at text) (omega (arith, length-drop at text)) in
    let piece = subst (λ bytes. IsNetPiece bytes c.in-Ok.found) whole c.in-Ok.ensures in
    let token = subst (λ p. IsNetPiece (drop at text) p) c.in-Token.is piece in
    let done = plain_tokens c.loop-at.tokens.items in
    let longer : plain_tokens c.push.new.self.items ≡ done ++ placed (lexeme c.in-Token.kind) at ∷ [] = ap plain_tokens c.in-Ok-push.ensures.items ∙ map-append plain c.loop-at.tokens.items _ in
    subst (λ tokens. NetSoFar text tokens (at + c.in-Token.size)) (sym longer) (past_token text done at c.in-Token.size (lexeme c.in-Token.kind) c.loop-at.invariant token)

pub returns-in-Fault-clause-read : goal.returns-in-Fault-clause-read
returns-in-Fault-clause-read c = λ tokens l.
    let text = c.args.text.now in
    let at = c.loop-at.at in
    let whole : take (length text - at) (drop at text) ≡ drop at text = take_all (length text - at) (drop at text) (omega (arith, length-drop at text)) in
    let piece = subst (λ bytes. IsNetPiece bytes c.in-Ok.found) whole c.in-Ok.ensures in
    let fault = subst (λ p. IsNetPiece (drop at text) p) c.in-Fault.is piece in
    absurd (once.not_both l (c.loop-at.invariant.faulty c.in-Fault.rule at (fault at)))

pub returns-in-Fault-clause-faulted : goal.returns-in-Fault-clause-faulted
returns-in-Fault-clause-faulted c = λ rule place f.
    let text = c.args.text.now in
    let at = c.loop-at.at in
    let whole : take (length text - at) (drop at text) ≡ drop at text = take_all (length text - at) (drop at text) (omega (arith, length-drop at text)) in
    let piece = subst (λ bytes. IsNetPiece bytes c.in-Ok.found) whole c.in-Ok.ensures in
    let fault = subst (λ p. IsNetPiece (drop at text) p) c.in-Fault.is piece in
    let same = once.one_fault (c.loop-at.invariant.faulty c.in-Fault.rule at (fault at)) f in
    (same.same_rule, refl, same.same_place)

pub returns-clause-listed : goal.returns-clause-listed
returns-clause-listed c = finish c.args.text.now (plain_tokens c.loop-at.tokens.items) c.loop-at.at c.loop-at.invariant c.loop-at-test.false

pub returns-clause-read : goal.returns-clause-read
returns-clause-read c = λ tokens l. once.one_list (finish c.args.text.now (plain_tokens c.loop-at.tokens.items) c.loop-at.at c.loop-at.invariant c.loop-at-test.false) l

pub returns-clause-faulted : goal.returns-clause-faulted
returns-clause-faulted c = λ rule at f. once.not_both (finish c.args.text.now (plain_tokens c.loop-at.tokens.items) c.loop-at.at c.loop-at.invariant c.loop-at-test.false) f
