-- What the reading of a whole file says of the answer.
use Rattle.std.proofs.Common.{◌≡◌, ℕ, ◌≤◌, List, [], ◌∷◌, refl, sym, subst, ap, ◌∙◌, arith}
use Rattle.rvc_base.specs.declared.refusal.Front.{Front as Answer}
use Rattle.rvc_base.specs.declared.refusal.Front.TheVariants.{Memory}
use Rattle.cal_grammar.specs.Program.{Gave, Refused, TooHigh}
use Rattle.cal_ast.specs.Tree.{Tree}
use Rattle.cal_lexer.specs.Lexeme.{Placed, plain_tokens}
use Rattle.cal_lexer.specs.declared.token.Token.{Token}
use Rattle.cal_grammar.specs.Operators.{height, max_height}
use Rattle.rvc_base.specs.Rules.{spells_no_file, too_high}
use Rattle.cal_grammar.specs.Refusals.{Breaks, breaks_off, grows_high, IsRightly, place_in}
use Rattle.cal_parser.specs.Answers.{answer_of}
use Rattle.cal_parse_base.specs.Tells.{TellsFault}
use Rattle.cal_parse_base.specs.declared.fault.Fault.{Fault}
use Rattle.cal_parse_base.specs.declared.fault.Fault.TheVariants as faults
use Rattle.cal_grammar.specs.Rules.{whole, read}
use Rattle.cal_grammar.specs.Spells.{spells}
use Rattle.cal_grammar.proofs.Meets.{MeetsWhole, IsFar}
use Rattle.cal_grammar.proofs.Reading.{read_keeps}
use Rattle.cal_grammar.proofs.Whole.{read_spelled, whole_read, whole_refused, whole_too_high}

module _ (ts left : List Placed) where
  pub given_spelled : (f : Tree) → read max_height whole ts ≡ Gave f left → spells ts f
  given_spelled f e = (read_spelled max_height ts left f e).spelled

  pub given_low : (f : Tree) → read max_height whole ts ≡ Gave f left → height f ≤ max_height
  given_low f e = (read_spelled max_height ts left f e).low

  -- what is spelled and isn't too high is the tree that is given
  pub given_same : (f x : Tree) → read max_height whole ts ≡ Gave f left → spells ts x → height x ≤ max_height → f ≡ x
  given_same f x e h low = let s : read max_height whole ts ≡ Gave x [] = whole_read max_height ts x h low in cc

  -- and so none is, if no tree is given
  pub none_refused : (x : Tree) → read max_height whole ts ≡ Refused left → spells ts x → height x ≤ max_height → ⊥
  none_refused x e h low = let s : read max_height whole ts ≡ Gave x [] = whole_read max_height ts x h low in cc

  pub none_high : (x : Tree) → read max_height whole ts ≡ TooHigh left → spells ts x → height x ≤ max_height → ⊥
  none_high x e h low = let s : read max_height whole ts ≡ Gave x [] = whole_read max_height ts x h low in cc

  pub refused_breaks : (end : ℕ) → read max_height whole ts ≡ Refused left → Breaks end ts spells_no_file (place_in end left)
  refused_breaks end e = breaks_off left (whole_refused ts left e)

at_token : (ts left : List Placed) → read max_height whole ts ≡ TooHigh left → IsFar max_height ts left
at_token ts left e = let k : MeetsWhole max_height ts (read max_height whole ts) = read_keeps max_height whole ts in rw e at k

pub high_breaks : (ts left : List Placed) (end : ℕ) → read max_height whole ts ≡ TooHigh left → Breaks end ts too_high (place_in end left)
high_breaks ts [] end e = let far = at_token ts [] e in absurd (omega (arith, far.at_token))
high_breaks ts (t ∷ left) end e = grows_high t left (whole_too_high ts (t ∷ left) e)

module _ (number end : ℕ) (ts : List Token) (left : List Token) where
  rightly_at_once : (fault : Fault) → TellsFault fault left (read max_height whole (plain_tokens ts)) → IsRightly number end (plain_tokens ts) (answer_of fault number (place_in end (plain_tokens left)))
  rightly_at_once faults.Refused e = (refl, refused_breaks (plain_tokens ts) (plain_tokens left) end e)
  rightly_at_once faults.TooHigh e = (refl, high_breaks (plain_tokens ts) (plain_tokens left) end e)
  rightly_at_once faults.Memory e = tt

  -- a refusal is right
  pub rightly : (fault : Fault) (at : ℕ) (answer : Answer) → TellsFault fault left (read max_height whole (plain_tokens ts)) → at ≡ place_in end (plain_tokens left) → answer ≡ answer_of fault number at → IsRightly number end (plain_tokens ts) answer
  rightly fault at answer e place is =
      let whole_is : answer ≡ answer_of fault number (place_in end (plain_tokens left)) = is ∙ ap (λ q. answer_of fault number q) place in
      subst (λ (a : Answer). IsRightly number end (plain_tokens ts) a) (sym whole_is) (rightly_at_once fault e)

-- if a file is spelled, the only fault is that memory runs out
pub only_memory : (number : ℕ) (ts left : List Token) (fault : Fault) (at : ℕ) (answer : Answer) (x : Tree) → TellsFault fault left (read max_height whole (plain_tokens ts)) → answer ≡ answer_of fault number at → spells (plain_tokens ts) x → height x ≤ max_height → answer ≡ Memory
only_memory number ts left faults.Refused at answer x e is h low = absurd (none_refused (plain_tokens ts) (plain_tokens left) x e h low)
only_memory number ts left faults.TooHigh at answer x e is h low = absurd (none_high (plain_tokens ts) (plain_tokens left) x e h low)
only_memory number ts left faults.Memory at answer x e is h low = is
