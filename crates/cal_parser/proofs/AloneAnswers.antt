-- What the reading of a part that stands alone says of the answer.
use Rattle.std.proofs.Common.{◌≡◌, ℕ, ◌+◌, ◌≤◌, max, true, List, [], ◌∷◌, ◌++◌, length, length-append, refl, sym, subst, ap, ◌∙◌, arith}
use Rattle.rvc_base.specs.declared.refusal.Front.{Front as Answer}
use Rattle.rvc_base.specs.declared.refusal.Front.TheVariants.{Memory}
use Rattle.rvc_base.specs.Rules.{too_high}
use Rattle.cal_grammar.specs.Program.{Outcome, Gave, Refused, TooHigh, Spent, ahead, exec, ask, give, fail, after}
use Rattle.cal_grammar.specs.Reading.{IsRefused, IsTooHigh}
use Rattle.cal_grammar.proofs.Frames.{Framed, IsFramed, framed_after, read_framed}
use Rattle.cal_grammar.proofs.Looser.{IsKept, exec_kept, read_kept}
use Rattle.cal_ast.specs.Tree.{Tree}
use Rattle.cal_lexer.specs.Lexeme.{Placed, plain_tokens}
use Rattle.cal_lexer.specs.declared.token.Token.{Token}
use Rattle.cal_parse_base.specs.Tells.{TellsFault}
use Rattle.cal_parse_base.specs.declared.fault.Fault.{Fault}
use Rattle.cal_parse_base.specs.declared.fault.Fault.TheVariants as faults
use Rattle.cal_grammar.specs.Operators.{height, max_height}
use Rattle.cal_grammar.specs.Refusals.{place_in}
use Rattle.cal_grammar.specs.Rules.{Rule, part, at_end, body, size, read}
use Rattle.cal_grammar.specs.Spells.{Part}
use Rattle.cal_grammar.proofs.Meets.{Keeps, Meets, IsRead, IsFar, nothing_spent}
use Rattle.cal_grammar.proofs.Reading.{gets, read_keeps}
use Rattle.cal_grammar.proofs.Follow.{seen, may_follow}
use Rattle.cal_grammar.proofs.Claims.{closes}
use Rattle.cal_grammar.proofs.Complete.{complete}
use Rattle.cal_parser.specs.Alone.{alone, read_alone}
use Rattle.cal_parser.specs.Answers.{answer_of}
use Rattle.cal_parser.specs.Stretch.{spells_as, BreaksAs, breaks_off, grows_high, IsRightlyAs}

-- what comes behind the part
abbrev then_end : ℕ → Tree → List Placed → Outcome Placed Tree
then_end m x left = exec read m (ask at_end (give x) fail) left

-- what is known of an outcome
abbrev MeetsAlone : Part → ℕ → List Placed → Outcome Placed Tree → Type 0
MeetsAlone p m ts (Gave x left) = IsRead p m ts [] x
MeetsAlone p m ts (Refused left) = Unit {0}
MeetsAlone p m ts (TooHigh left) = IsFar m ts left
MeetsAlone p m ts Spent = Unit {0}

end_kept : (p : Part) (m : ℕ) (ts left : List Placed) (x : Tree) → IsRead p m ts left x → MeetsAlone p m ts (then_end m x left)
end_kept p m ts [] x h = h
end_kept p m ts (t ∷ left) x h = tt

after_kept : (p : Part) (m : ℕ) (ts : List Placed) (o : Outcome Placed Tree) → Meets p m ts o → MeetsAlone p m ts (after o (then_end m))
after_kept p m ts (Gave x left) h = end_kept p m ts left x h
after_kept p m ts (Refused left) h = tt
after_kept p m ts (TooHigh left) h = h
after_kept p m ts Spent h = tt

alone_kept : (p : Part) (m : ℕ) (ts : List Placed) → MeetsAlone p m ts (read_alone m p ts)
alone_kept p m ts = after_kept p m ts (read m (part p) ts) (read_keeps m (part p) ts)

-- a part that is spelled up to the end of the tokens is read
alone_read : (p : Part) → may_follow p (seen (ahead [])) ≡ true → (m : ℕ) (ts : List Placed) (x : Tree) → spells_as p ts x → height x ≤ m → read_alone m p ts ≡ Gave x []
alone_read p ends m ts x h low =
    let s : read m (part p) ts ≡ Gave x [] = closes (complete h m low) ends in
    ap (λ o. after o (then_end m)) s

-- an outcome depends on the tokens that were taken and on one more
end_framed : (m : ℕ) (x : Tree) (left : List Placed) → Framed (then_end m x) left (then_end m x left)
end_framed m x [] = record { front = []; is_front = refl; same = λ other e. nothing other e }
  where
    nothing : (other : List Placed) → ahead other ≡ ahead {Token = Placed} [] → then_end m x other ≡ Gave x other
    nothing [] e = refl
    nothing (t ∷ other) e = cc
end_framed m x (t ∷ left) = record { front = []; is_front = refl; same = λ other e. something other e }
  where
    something : (other : List Placed) → ahead other ≡ ahead (t ∷ left) → then_end m x other ≡ Refused other
    something [] e = cc
    something (u ∷ other) e = refl

part_framed : (p : Part) (m : ℕ) (ts : List Placed) → Framed (read m (part p)) ts (read m (part p) ts)
unfolding read
part_framed p m ts = read_framed body size Keeps nothing_spent gets m (part p) ts

alone_framed : (p : Part) (m : ℕ) (ts : List Placed) → Framed (read_alone m p) ts (read_alone m p ts)
alone_framed p m ts = framed_after (read m (part p)) (then_end m) (λ o. Unit {0}) ts (read m (part p) ts) tt (part_framed p m ts) (λ x left h. end_framed m x left)

-- more room changes no outcome but what was too high
part_looser : (m more : ℕ) (r : Rule) (ts : List Placed) → m ≤ more → IsKept (read m r ts) (read more r ts)
unfolding read
part_looser m more r ts less = read_kept body size m more r ts less

alone_looser : (p : Part) (m more : ℕ) (ts : List Placed) → m ≤ more → IsKept (read_alone m p ts) (read_alone more p ts)
alone_looser p m more ts less = exec_kept read part_looser (alone p) m more ts less

module _ (p : Part) (ends : may_follow p (seen (ahead [])) ≡ true) (ts left : List Placed) where
  pub given_spelled : (x : Tree) → read_alone max_height p ts ≡ Gave x left → spells_as p ts x
  given_spelled x e = let k = alone_kept p max_height ts in let r : IsRead p max_height ts [] x = rw e at k in r.spelled

  pub given_low : (x : Tree) → read_alone max_height p ts ≡ Gave x left → height x ≤ max_height
  given_low x e = let k = alone_kept p max_height ts in let r : IsRead p max_height ts [] x = rw e at k in r.low

  -- what is spelled and isn't too high is the tree that is given
  pub given_same : (f x : Tree) → read_alone max_height p ts ≡ Gave f left → spells_as p ts x → height x ≤ max_height → f ≡ x
  given_same f x e h low = let s : read_alone max_height p ts ≡ Gave x [] = alone_read p ends max_height ts x h low in cc

  -- and so none is, if no tree is given
  none_refused : (x : Tree) → read_alone max_height p ts ≡ Refused left → spells_as p ts x → height x ≤ max_height → ⊥
  none_refused x e h low = let s : read_alone max_height p ts ≡ Gave x [] = alone_read p ends max_height ts x h low in cc

  none_high : (x : Tree) → read_alone max_height p ts ≡ TooHigh left → spells_as p ts x → height x ≤ max_height → ⊥
  none_high x e h low = let s : read_alone max_height p ts ≡ Gave x [] = alone_read p ends max_height ts x h low in cc

  framed_refused : read_alone max_height p ts ≡ Refused left → IsFramed (read_alone max_height p) (λ l. Refused l) ts left
  framed_refused e = let h : Framed (read_alone max_height p) ts (read_alone max_height p ts) = alone_framed p max_height ts in rw e at h

  framed_high : read_alone max_height p ts ≡ TooHigh left → IsFramed (read_alone max_height p) (λ l. TooHigh l) ts left
  framed_high e = let h : Framed (read_alone max_height p) ts (read_alone max_height p ts) = alone_framed p max_height ts in rw e at h

  refused_above : (m : ℕ) (front other : List Placed) → max_height ≤ m → read_alone max_height p (front ++ other) ≡ Refused other → read_alone m p (front ++ other) ≡ Refused other
  refused_above m front other less e =
      let h : IsKept (read_alone max_height p (front ++ other)) (read_alone m p (front ++ other)) = alone_looser p max_height m (front ++ other) less in
      rw e at h

  -- if it refuses, no list that goes on alike spells a tree of any height
  alone_refused : read_alone max_height p ts ≡ Refused left → IsRefused (spells_as p) ts left
  alone_refused e =
      let h = framed_refused e in
      record {
        front = h.front;
        is_front = h.is_front;
        none = λ other x same spelled.
            let above : read_alone (max max_height (height x)) p (h.front ++ other) ≡ Refused other = refused_above (max max_height (height x)) h.front other (omega arith) (h.same other same) in
            let gave : read_alone (max max_height (height x)) p (h.front ++ other) ≡ Gave x [] = alone_read p ends (max max_height (height x)) (h.front ++ other) x spelled (omega arith) in
            cc;
      }

  -- if it finds what is too high, no list that goes on alike spells a tree that fits
  alone_high : read_alone max_height p ts ≡ TooHigh left → max_height + length left ≤ length ts → IsTooHigh (spells_as p) height max_height ts left
  alone_high e far =
      let h = framed_high e in
      let sum : length ts ≡ length h.front + length left = ap length h.is_front ∙ length-append h.front left in
      record {
        front = h.front;
        is_front = h.is_front;
        none = λ other x same low spelled.
            let here : read_alone max_height p (h.front ++ other) ≡ TooHigh other = h.same other same in
            let gave : read_alone max_height p (h.front ++ other) ≡ Gave x [] = alone_read p ends max_height (h.front ++ other) x spelled low in
            cc;
        far = omega arith;
      }

far_at : (p : Part) (ts left : List Placed) → read_alone max_height p ts ≡ TooHigh left → IsFar max_height ts left
far_at p ts left e = let k = alone_kept p max_height ts in rw e at k

high_breaks : (p : Part) → may_follow p (seen (ahead [])) ≡ true → (ts left : List Placed) (end : ℕ) → read_alone max_height p ts ≡ TooHigh left → BreaksAs p end ts too_high (place_in end left)
high_breaks p ends ts [] end e = let far = far_at p ts [] e in absurd (omega (arith, far.at_token))
high_breaks p ends ts (t ∷ left) end e = let far = far_at p ts (t ∷ left) e in grows_high t left (alone_high p ends ts (t ∷ left) e far.far)

module _ (p : Part) (ends : may_follow p (seen (ahead [])) ≡ true) (number end : ℕ) (ts left : List Token) where
  rightly_at_once : (fault : Fault) → TellsFault fault left (read_alone max_height p (plain_tokens ts)) → IsRightlyAs p number end (plain_tokens ts) (answer_of fault number (place_in end (plain_tokens left)))
  rightly_at_once faults.Refused e = (refl, breaks_off (plain_tokens left) (alone_refused p ends (plain_tokens ts) (plain_tokens left) e))
  rightly_at_once faults.TooHigh e = (refl, high_breaks p ends (plain_tokens ts) (plain_tokens left) end e)
  rightly_at_once faults.Memory e = tt

  -- a refusal is right
  pub rightly : (fault : Fault) (at : ℕ) (answer : Answer) → TellsFault fault left (read_alone max_height p (plain_tokens ts)) → at ≡ place_in end (plain_tokens left) → answer ≡ answer_of fault number at → IsRightlyAs p number end (plain_tokens ts) answer
  rightly fault at answer e place is =
      let whole_is : answer ≡ answer_of fault number (place_in end (plain_tokens left)) = is ∙ ap (λ q. answer_of fault number q) place in
      subst (λ (a : Answer). IsRightlyAs p number end (plain_tokens ts) a) (sym whole_is) (rightly_at_once fault e)

  -- if a part is spelled, the only fault is that memory runs out
  pub only_memory : (fault : Fault) (at : ℕ) (answer : Answer) (x : Tree) → TellsFault fault left (read_alone max_height p (plain_tokens ts)) → answer ≡ answer_of fault number at → spells_as p (plain_tokens ts) x → height x ≤ max_height → answer ≡ Memory
  only_memory faults.Refused at answer x e is h low = absurd (none_refused p ends (plain_tokens ts) (plain_tokens left) x e h low)
  only_memory faults.TooHigh at answer x e is h low = absurd (none_high p ends (plain_tokens ts) (plain_tokens left) x e h low)
  only_memory faults.Memory at answer x e is h low = is
