use Rattle.std.proofs.Common.{◌≡◌, [], ◌∷◌, ◌++◌, None, map, length, sym, ap, subst, ◌∙◌, rules}
use Rattle.std.proofs.lemmas.List.{append_assoc, map-append}
use Rattle.std.specs.Prelude.{string_bytes}
use Rattle.cal_check.specs.Actors.{given_wrongly, is_given}
use Rattle.check_given.specs.Causes.{IsCause}
use Rattle.check_given.specs.Given.{all_given, given_of}
use Rattle.check_given.specs.Placing.{first_place, is_before}
use Rattle.check_given.proofs.Places.{before_is}
use Rattle.check_given.proofs.Wrongly.{told_wrong, wrongly_here, wrongly_passed}
use Rattle.check_given.proofs.values.GivenValues.rightly.Goals as goal

pub returns-then-is_wrong-clause-found : goal.returns-then-is_wrong-clause-found
returns-then-is_wrong-clause-found c = λ params named.
    let gs = c.in-Some.before.now in
    let g = c.in-Some.last.now in
    let split : c.backwards.rest.now ≡ gs ++ g ∷ [] = search rules in
    let parts : all_given c.backwards.rest.now ≡ all_given gs ++ given_of g ∷ [] = ap (map given_of) split ∙ map-append given_of gs (g ∷ []) in
    let whole : c.args.self.now ≡ gs ++ (g ∷ c.backwards.invariant.front.0) =
    c.backwards.invariant.front.1 ∙ ap (λ xs. xs ++ c.backwards.invariant.front.0) split ∙ append_assoc gs (g ∷ []) c.backwards.invariant.front.0 in
    let before : is_before (first_place 0 (string_bytes g.name) c.args.self.now None) (length gs) ≡ is_given (string_bytes g.name) (all_given gs) =
    ap (λ xs. is_before (first_place 0 (string_bytes g.name) xs None) (length gs)) whole ∙ before_is (string_bytes g.name) gs (g ∷ c.backwards.invariant.front.0) in
    let wrong = sym (told_wrong (given_of g) (all_given gs) params c.args.declared.now _ named before) ∙ sym c.is_wrong.ensures ∙ c.if-is_wrong.true in
    subst (IsCause c.refused.result) (c.backwards.invariant.wrongly params named)
    (subst (λ f. IsCause f (given_wrongly (all_given c.backwards.rest.now) [] params)) (sym c.refused.ensures)
    (wrongly_here (all_given gs) (given_of g) params (all_given c.backwards.rest.now) parts wrong))

pub backwards-preserved : goal.backwards-preserved
backwards-preserved c =
    let gs = c.in-Some.before.now in
    let g = c.in-Some.last.now in
    let split : c.backwards.rest.now ≡ gs ++ g ∷ [] = search rules in
    let parts : all_given c.backwards.rest.now ≡ all_given gs ++ given_of g ∷ [] = ap (map given_of) split ∙ map-append given_of gs (g ∷ []) in
    let whole : c.args.self.now ≡ gs ++ (g ∷ c.backwards.invariant.front.0) =
    c.backwards.invariant.front.1 ∙ ap (λ xs. xs ++ c.backwards.invariant.front.0) split ∙ append_assoc gs (g ∷ []) c.backwards.invariant.front.0 in
    let before : is_before (first_place 0 (string_bytes g.name) c.args.self.now None) (length gs) ≡ is_given (string_bytes g.name) (all_given gs) =
    ap (λ xs. is_before (first_place 0 (string_bytes g.name) xs None) (length gs)) whole ∙ before_is (string_bytes g.name) gs (g ∷ c.backwards.invariant.front.0) in
    record {
      front = (g ∷ c.backwards.invariant.front.0, whole);
      wrongly = λ params named.
          wrongly_passed (all_given gs) (given_of g) params (all_given c.backwards.rest.now) parts
          (sym (told_wrong (given_of g) (all_given gs) params c.args.declared.now _ named before) ∙ sym c.is_wrong.ensures ∙ c.if-is_wrong.false)
          ∙ c.backwards.invariant.wrongly params named;
    }
