-- The members of an actor, read one after the other.
use Rattle.std.proofs.Common.{◌≡◌, ℕ, ◌<◌, Bool, true, false, List, [], ◌∷◌, ◌++◌, map, length, refl, sym, ap, subst, ◌∙◌, arith}
use Rattle.std.proofs.lemmas.List.{map-append}
use Rattle.cal_grammar.specs.Program.{Gave, ahead, exec, after}
use Rattle.cal_ast.specs.Tree.{Tree, cons, nil, listed}
use Rattle.cal_ast.specs.View.{member_tree}
use Rattle.cal_ast.specs.declared.member.Member.{Member}
use Rattle.cal_lexer.specs.Lexeme.{Lexeme, Placed, plain_tokens}
use Rattle.cal_lexer.specs.declared.token.Token.{Token}
use Rattle.cal_parse_base.specs.Cursor.{stands}
use Rattle.cal_parse_member.specs.MembersSoFar.{IsMembersSoFar}
use Rattle.cal_grammar.specs.Spells.{Part, a_member, a_schedule, members}
use Rattle.cal_grammar.specs.Token.{here, same_word}
use Rattle.cal_grammar.specs.Rules.{part, read, starts_member}
use Rattle.cal_parse_base.specs.Tells.{before, TellsFault}
use Rattle.cal_parse_base.specs.declared.fault.Fault.{Fault}
use Rattle.cal_parse_base.specs.declared.fault.Fault.TheVariants as faults
use Rattle.cal_grammar.proofs.Costs.{costs, takes}
use Rattle.cal_parse_expr.proofs.ListSteps
use Rattle.cal_grammar.proofs.Meets.{Meets}
use Rattle.cal_parse_base.proofs.Taking.{length-plain}
use Rattle.cal_grammar.proofs.Reading.{read_is, read_keeps}

-- what is read of a part that can't be empty is gone
shorter : (m : ℕ) (p : Part) (x : Tree) (old new : List Token) → takes p ≡ 1 → read m (part p) (plain_tokens old) ≡ Gave x (plain_tokens new) → length new < length old
shorter m p x old new one e =
    let k : Meets p m (plain_tokens old) (read m (part p) (plain_tokens old)) = read_keeps m (part p) (plain_tokens old) in
    let got : Meets p m (plain_tokens old) (Gave x (plain_tokens new)) = rw e at k in
    let cost = (costs got.spelled).taken in
    omega (arith, length-plain old, length-plain new)

pub member_shorter : (m : ℕ) (x : Tree) (old new : List Token) → read m (part a_member) (plain_tokens old) ≡ Gave x (plain_tokens new) → length new < length old
member_shorter m x old new e = shorter m a_member x old new refl e

pub schedule_shorter : (m : ℕ) (x : Tree) (old new : List Token) → read m (part a_schedule) (plain_tokens old) ≡ Gave x (plain_tokens new) → length new < length old
schedule_shorter m x old new e = shorter m a_schedule x old new refl e

-- no member yet
pub no_members_yet : (m : ℕ) (start : List Token) (xs : List Member) → xs ≡ [] → IsMembersSoFar m start start true (map member_tree xs)
no_members_yet m start xs none = record { far = ListSteps.before-none (read m (part (members true)) (plain_tokens start)) ∙ ap (λ l. before (map member_tree l) (read m (part (members true)) (plain_tokens start))) (sym none) }

module _ (m : ℕ) where
  one_member : (k : Bool) (ts l : List Placed) (x : Tree) → here starts_member (ahead ts) ≡ true → read m (part a_member) ts ≡ Gave x l → read m (part (members k)) ts ≡ before (x ∷ []) (read m (part (members k)) l)
  one_member k ts l x there e =
      let opened : read m (part (members k)) ts ≡ after (read m (part (members k)) l) (λ xs r. Gave (cons x xs) r) = rw (read_is m (part (members k)) ts, there, e, exec) refl in
      opened ∙ ListSteps.after_cons x (read m (part (members k)) l)

  one_schedule : (ts l : List Placed) (x : Tree) → here starts_member (ahead ts) ≡ false → here (same_word Lexeme.Schedule) (ahead ts) ≡ true → read m (part a_schedule) ts ≡ Gave x l → read m (part (members true)) ts ≡ before (x ∷ []) (read m (part (members false)) l)
  one_schedule ts l x none there e =
      let opened : read m (part (members true)) ts ≡ after (read m (part (members false)) l) (λ xs r. Gave (cons x xs) r) = rw (read_is m (part (members true)) ts, none, there, e, exec) refl in
      opened ∙ ListSteps.after_cons x (read m (part (members false)) l)

  no_member : (k : Bool) (ts : List Placed) → here starts_member (ahead ts) ≡ false → (k ≡ true → here (same_word Lexeme.Schedule) (ahead ts) ≡ false) → read m (part (members k)) ts ≡ Gave nil ts
  no_member true ts none other = let e : here (same_word Lexeme.Schedule) (ahead ts) ≡ false = other refl in rw (read_is m (part (members true)) ts, none, e, exec) refl
  no_member false ts none other = rw (read_is m (part (members false)) ts, none, exec) refl

  failed_member : (k : Bool) (old new : List Token) (fault : Fault) → stands starts_member old ≡ true → TellsFault fault new (read m (part a_member) (plain_tokens old)) → TellsFault fault new (read m (part (members k)) (plain_tokens old))
  failed_member k old new faults.Refused there e = rw (read_is m (part (members k)) (plain_tokens old), there, e, exec) refl
  failed_member k old new faults.TooHigh there e = rw (read_is m (part (members k)) (plain_tokens old), there, e, exec) refl
  failed_member k old new faults.Memory there e = tt

  failed_schedule : (old new : List Token) (fault : Fault) → stands starts_member old ≡ false → stands (same_word Lexeme.Schedule) old ≡ true → TellsFault fault new (read m (part a_schedule) (plain_tokens old)) → TellsFault fault new (read m (part (members true)) (plain_tokens old))
  failed_schedule old new faults.Refused none there e = rw (read_is m (part (members true)) (plain_tokens old), none, there, e, exec) refl
  failed_schedule old new faults.TooHigh none there e = rw (read_is m (part (members true)) (plain_tokens old), none, there, e, exec) refl
  failed_schedule old new faults.Memory none there e = tt

  module _ (start now : List Token) (k : Bool) (xs : List Member) (so_far : IsMembersSoFar m start now k (map member_tree xs)) where
    -- one more is read, behind which the others are read from `new` on
    further : (new : List Token) (still : Bool) (x : Member) (ys : List Member) → ys ≡ xs ++ x ∷ [] → read m (part (members k)) (plain_tokens now) ≡ before (member_tree x ∷ []) (read m (part (members still)) (plain_tokens new)) → IsMembersSoFar m start new still (map member_tree ys)
    further new still x ys e step = record {
      far =
          let list_is : map member_tree xs ++ member_tree x ∷ [] ≡ map member_tree ys = sym (map-append member_tree xs (x ∷ [])) ∙ ap (λ l. map member_tree l) (sym e) in
          let rest = read m (part (members still)) (plain_tokens new) in
          so_far.far ∙ ap (λ o. before (map member_tree xs) o) step ∙ ListSteps.before-append (map member_tree xs) (member_tree x) rest ∙ ap (λ l. before l rest) list_is;
    }

    pub member_more : (new : List Token) (x : Member) (ys : List Member) → ys ≡ xs ++ x ∷ [] → stands starts_member now ≡ true → read m (part a_member) (plain_tokens now) ≡ Gave (member_tree x) (plain_tokens new) → IsMembersSoFar m start new k (map member_tree ys)
    member_more new x ys e there item = further new k x ys e (one_member k (plain_tokens now) (plain_tokens new) (member_tree x) there item)

    pub all_members : stands starts_member now ≡ false → (k ≡ true → stands (same_word Lexeme.Schedule) now ≡ false) → read m (part (members true)) (plain_tokens start) ≡ Gave (listed (map member_tree xs)) (plain_tokens now)
    all_members none other = so_far.far ∙ ap (λ o. before (map member_tree xs) o) (no_member k (plain_tokens now) none other) ∙ ap (λ t. Gave t (plain_tokens now)) (ListSteps.joined-nil (map member_tree xs))

    -- if a part isn't read, the members aren't
    passed : (new : List Token) (fault : Fault) → TellsFault fault new (read m (part (members k)) (plain_tokens now)) → TellsFault fault new (read m (part (members true)) (plain_tokens start))
    passed new faults.Refused e = so_far.far ∙ ap (λ o. before (map member_tree xs) o) e
    passed new faults.TooHigh e = so_far.far ∙ ap (λ o. before (map member_tree xs) o) e
    passed new faults.Memory e = tt

    pub member_fails : (new : List Token) (fault : Fault) → stands starts_member now ≡ true → TellsFault fault new (read m (part a_member) (plain_tokens now)) → TellsFault fault new (read m (part (members true)) (plain_tokens start))
    member_fails new fault there e = passed new fault (failed_member k now new fault there e)

    pub schedule_more : (new : List Token) (x : Member) (ys : List Member) → ys ≡ xs ++ x ∷ [] → k ≡ true → stands starts_member now ≡ false → stands (same_word Lexeme.Schedule) now ≡ true → read m (part a_schedule) (plain_tokens now) ≡ Gave (member_tree x) (plain_tokens new) → IsMembersSoFar m start new false (map member_tree ys)
    schedule_more new x ys e may none there item = further new false x ys e (ap (λ b. read m (part (members b)) (plain_tokens now)) may ∙ one_schedule (plain_tokens now) (plain_tokens new) (member_tree x) none there item)

    pub schedule_fails : (new : List Token) (fault : Fault) → k ≡ true → stands starts_member now ≡ false → stands (same_word Lexeme.Schedule) now ≡ true → TellsFault fault new (read m (part a_schedule) (plain_tokens now)) → TellsFault fault new (read m (part (members true)) (plain_tokens start))
    schedule_fails new fault may none there e = passed new fault (subst (λ (b : Bool). TellsFault fault new (read m (part (members b)) (plain_tokens now))) (sym may) (failed_schedule now new fault none there e))

    pub no_schedule_left : stands starts_member now ≡ false → k ≡ false → read m (part (members true)) (plain_tokens start) ≡ Gave (listed (map member_tree xs)) (plain_tokens now)
    no_schedule_left none past = all_members none (λ may. let never : true ≡ false = sym may ∙ past in absurd cc)
