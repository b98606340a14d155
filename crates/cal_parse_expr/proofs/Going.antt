-- How an outcome goes on, step by step, as the code does.
use Rattle.std.proofs.Common.{◌≡◌, ℕ, ◌<◌, ◌≤◌, Bool, true, false, List, Result, Ok, Err, length, refl, sym, ap, ◌∙◌, subst, arith}
use Rattle.std.proofs.lemmas.Bool.{le-leb, lt-leb}
use Rattle.cal_grammar.specs.Program.{Outcome, Gave, Refused, TooHigh, ahead, after, fail, ask, take, check}
use Rattle.cal_ast.specs.Tree.{Tree}
use Rattle.cal_lexer.specs.Lexeme.{Lexeme, Placed, placed, plain_tokens}
use Rattle.cal_lexer.specs.declared.token.Token.{Token}
use Rattle.cal_parse_base.specs.Cursor.{Stays, Took, TookName, TookWord, stands}
use Rattle.cal_parse_base.specs.Leading.{HasNoRoom, LedByName, LedByWord}
use Rattle.cal_grammar.specs.Rules.{Rule, Step, expect, named, part, read}
use Rattle.cal_grammar.specs.Spells.{Part}
use Rattle.cal_parse_expr.specs.Steps.{Answers, does}
use Rattle.cal_parse_base.specs.Tells.{Tells, TellsFault}
use Rattle.cal_grammar.specs.Token.{here, names, same_word}
use Rattle.cal_parse_base.specs.declared.fault.Fault.{Fault}
use Rattle.cal_parse_base.specs.declared.fault.Fault.TheVariants as faults
use Rattle.cal_parse_expr.proofs.Climbing.{Next, fault_after, fault_same}
use Rattle.cal_grammar.proofs.Costs.{Cost, costs, takes}
use Rattle.cal_grammar.proofs.Meets.{IsRead, Meets}
use Rattle.cal_parse_base.proofs.Taking.{length-plain}
use Rattle.cal_grammar.proofs.Reading.{read_keeps}

pub answers_same : {A : Type 0} (view : A → Tree) (result : Result A Fault) (new : List Token) (o o' : Outcome Placed Tree) → o ≡ o' → Answers view o' result new → Answers view o result new
answers_same view (Ok x) new o o' e h = e ∙ h
answers_same view (Err fault) new o o' e h = fault_same fault new o o' e h

pub tells_from : {A : Type 0} (view : A → Tree) (m : ℕ) (r : Rule) (result : Result A Fault) (old new : List Token) → Answers view (read m r (plain_tokens old)) result new → Tells view m r result old new
tells_from view m r (Ok x) old new h = h
tells_from view m r (Err fault) old new h = h

-- a part is read, and what stands behind it goes on
pub gave_on : (S o : Outcome Placed Tree) (f : Next) (x : Tree) (ts : List Placed) → S ≡ after o f → o ≡ Gave x ts → S ≡ f x ts
gave_on S o f x ts s e = s ∙ ap (λ v. after v f) e

-- or it isn't read
pub fault_on : (S o : Outcome Placed Tree) (f : Next) (fault : Fault) (new : List Token) → S ≡ after o f → TellsFault fault new o → TellsFault fault new S
fault_on S o f fault new s h = fault_same fault new S (after o f) s (fault_after fault new o f h)

-- a question, and a test of the room

ask_no : (m : ℕ) (f : Lexeme → Bool) (p other : Step) (ts : List Placed) → here f (ahead ts) ≡ false → does m (ask (here f) p other) ts ≡ does m other ts
ask_no m f p other ts e = subst (λ b. ◌≡◌ {A = Outcome Placed Tree} (elim b [ true ↦ does m p ts | false ↦ does m other ts ]) (does m other ts)) (sym e) refl

ask_yes : (m : ℕ) (f : Lexeme → Bool) (p other : Step) (ts : List Placed) → here f (ahead ts) ≡ true → does m (ask (here f) p other) ts ≡ does m p ts
ask_yes m f p other ts e = subst (λ b. ◌≡◌ {A = Outcome Placed Tree} (elim b [ true ↦ does m p ts | false ↦ does m other ts ]) (does m p ts)) (sym e) refl

pub check_low : (m h : ℕ) (p : Step) (ts : List Placed) → h ≤ m → does m (check h p) ts ≡ does m p ts
check_low m h p ts low = subst (λ b. ◌≡◌ {A = Outcome Placed Tree} (elim b [ true ↦ does m p ts | false ↦ TooHigh ts ]) (does m p ts)) (sym (le-leb h m low)) refl

check_high : (m h : ℕ) (p : Step) (ts : List Placed) → m < h → does m (check h p) ts ≡ TooHigh ts
check_high m h p ts high = subst (λ b. ◌≡◌ {A = Outcome Placed Tree} (elim b [ true ↦ does m p ts | false ↦ TooHigh ts ]) (TooHigh ts)) (sym (lt-leb h m high)) refl

pub refused_on : (S : Outcome Placed Tree) (m : ℕ) (f : Lexeme → Bool) (p : Step) (old new : List Token) → S ≡ does m (ask (here f) p fail) (plain_tokens old) → Stays f old new → S ≡ Refused (plain_tokens new)
refused_on S m f p old new s h = s ∙ ask_no m f p fail (plain_tokens old) h.0 ∙ ap (λ l. Refused (plain_tokens l)) (sym h.1)

-- a word doesn't come
pub begin_on : (S : Outcome Placed Tree) (m : ℕ) (w : Lexeme) (next : Placed → Step) (fault : Fault) (old new : List Token) → S ≡ does m (ask (here (same_word w)) (take next) fail) (plain_tokens old) → TookWord w (Err fault) old new → TellsFault fault new S
begin_on S m w next faults.Refused old new s h = refused_on S m (same_word w) (take next) old new s h
begin_on S m w next faults.TooHigh old new s h = absurd h
begin_on S m w next faults.Memory old new s h = absurd h

pub expect_on : (S : Outcome Placed Tree) (m : ℕ) (w : Lexeme) (p : Step) (fault : Fault) (old new : List Token) → S ≡ does m (expect w p) (plain_tokens old) → TookWord w (Err fault) old new → TellsFault fault new S
expect_on S m w p fault old new s h = begin_on S m w (λ t. p) fault old new s h

-- a name doesn't come
pub named_on : (S : Outcome Placed Tree) (m : ℕ) (next : Placed → Step) (fault : Fault) (old new : List Token) → S ≡ does m (named next) (plain_tokens old) → TookName (Err fault) old new → TellsFault fault new S
named_on S m next faults.Refused old new s h = refused_on S m names (take next) old new s h
named_on S m next faults.TooHigh old new s h = absurd h
named_on S m next faults.Memory old new s h = tt

-- a question that is answered by no
pub not_on : (S : Outcome Placed Tree) (m : ℕ) (f : Lexeme → Bool) (p other : Step) (old : List Token) → S ≡ does m (ask (here f) p other) (plain_tokens old) → stands f old ≡ false → S ≡ does m other (plain_tokens old)
not_on S m f p other old s h = s ∙ ask_no m f p other (plain_tokens old) h

pub yes_on : (S : Outcome Placed Tree) (m : ℕ) (f : Lexeme → Bool) (p other : Step) (old : List Token) → S ≡ does m (ask (here f) p other) (plain_tokens old) → stands f old ≡ true → S ≡ does m p (plain_tokens old)
yes_on S m f p other old s h = s ∙ ask_yes m f p other (plain_tokens old) h

-- what fits the room
pub fits_on : (S : Outcome Placed Tree) (m h : ℕ) (p : Step) (ts : List Placed) → S ≡ does m (check h p) ts → h ≤ m → S ≡ does m p ts
fits_on S m h p ts s low = s ∙ check_low m h p ts low

pub high_on : (S : Outcome Placed Tree) (m h : ℕ) (p : Step) (old new : List Token) → S ≡ does m (check h p) (plain_tokens old) → HasNoRoom m h old new → S ≡ TooHigh (plain_tokens new)
high_on S m h p old new s lacks = s ∙ check_high m h p (plain_tokens old) lacks.0 ∙ ap (λ l. TooHigh (plain_tokens l)) (sym lacks.1)

-- a word or a name that begins a part
pub word_led : (S : Outcome Placed Tree) (m : ℕ) (w : Lexeme) (next : Placed → Step) (fault : Fault) (old new : List Token) → S ≡ does m (check 1 (take next)) (plain_tokens old) → LedByWord m w (Err fault) old new → TellsFault fault new S
word_led S m w next faults.Refused old new s h = absurd h
word_led S m w next faults.TooHigh old new s h = high_on S m 1 (take next) old new s h
word_led S m w next faults.Memory old new s h = absurd h

pub name_led : (S : Outcome Placed Tree) (m : ℕ) (next : Placed → Step) (fault : Fault) (old new : List Token) → S ≡ does m (check 1 (take next)) (plain_tokens old) → LedByName m (Err fault) old new → TellsFault fault new S
name_led S m next faults.Refused old new s h = absurd h
name_led S m next faults.TooHigh old new s h = high_on S m 1 (take next) old new s h
name_led S m next faults.Memory old new s h = tt

-- a token that is taken
pub took_on : (S : Outcome Placed Tree) (m : ℕ) (next : Placed → Step) (k : Lexeme) (q : ℕ) (old new : List Token) → S ≡ does m (take next) (plain_tokens old) → Took k q old new → S ≡ does m (next (placed k q)) (plain_tokens new)
took_on S m next k q old new s e = s ∙ ap (λ l. does m (take next) l) e

-- behind a rule that is read there are fewer tokens, and what is read fits the room
read_part : (m : ℕ) (p : Part) (ts left : List Placed) (x : Tree) → read m (part p) ts ≡ Gave x left → IsRead p m ts left x
read_part m p ts left x e = subst (λ o. Meets p m ts o) e (read_keeps m (part p) ts)

pub read_less : (m : ℕ) (p : Part) (old new : List Token) (x : Tree) → read m (part p) (plain_tokens old) ≡ Gave x (plain_tokens new) → takes p ≡ 1 → length new < length old
read_less m p old new x e one =
    let cost : Cost p (plain_tokens old) (plain_tokens new) x = costs (read_part m p (plain_tokens old) (plain_tokens new) x e).spelled in
    omega (arith, cost.taken, length-plain old, length-plain new)
