-- What comes of tags behind others.
use Rattle.std.proofs.Common.{◌≡◌, ℕ, Result, Ok, Err, suc, ◌+◌, ◌<◌, List, [], ◌∷◌, ◌++◌, length, take, drop, get_or, refl, sym, ap, ◌∙◌, arith}
use Rattle.std.proofs.Math.Seq.{take-suc}
use Rattle.std.proofs.lemmas.List.{map-append, take-append-drop}
use Rattle.rvc_base.specs.declared.refusal.Rule.{Rule}
use Rattle.fnl_markup.specs.Tags.{Tag, plain, plain_tags}
use Rattle.fnl_markup.specs.declared.tag.Tag.{Tag as TheTag}
use Rattle.fnl_read.specs.States.{State, fresh, Next, Going, Fault}
use Rattle.fnl_read.specs.Elements.{step, run}
use Rattle.fnl_read.specs.Stepped.{Stepped}
use Rattle.fnl_read.specs.declared.reader.Reader.{Reader}
use Rattle.fnl_expr.specs.declared.stop.Stop.{Stop}
use Rattle.fnl_expr.specs.declared.stop.Stop.TheVariants as stops

pub fault_stays : (rule : Rule) (at : ℕ) (tags : List Tag) → run (Fault rule at) tags ≡ Fault rule at
fault_stays rule at [] = refl
fault_stays rule at (tag ∷ tags) = refl

pub run_append : (next : Next) (xs ys : List Tag) → run next (xs ++ ys) ≡ run (run next xs) ys
run_append next [] ys = refl
run_append (Going s) (tag ∷ xs) ys = run_append (step tag s) xs ys
run_append (Fault rule at) (tag ∷ xs) ys = sym (fault_stays rule at ys)

take_more : (xs : List TheTag) (x : TheTag) (i : ℕ) → i < length xs → x ≡ get_or xs i x → take (i + 1) xs ≡ take i xs ++ x ∷ []
take_more xs x i small is =
    let next : i + 1 ≡ suc i = omega arith in
    ap (λ k. take k xs) next ∙ take-suc xs i x small ∙ ap (λ y. take i xs ++ (y ∷ [])) (sym is)

-- one tag more
pub run_next : (tags : List TheTag) (tag : TheTag) (i : ℕ) (s next : State) → i < length tags → tag ≡ get_or tags i tag → run (Going fresh) (plain_tags (take i tags)) ≡ Going s → step (plain tag) s ≡ Going next → run (Going fresh) (plain_tags (take (i + 1) tags)) ≡ Going next
run_next tags tag i s next small is before here =
    ap (λ ts. run (Going fresh) (plain_tags ts)) (take_more tags tag i small is) ∙ ap (run (Going fresh)) (map-append plain (take i tags) (tag ∷ []))
    ∙ run_append (Going fresh) (plain_tags (take i tags)) (plain tag ∷ []) ∙ ap (λ n. run n (plain tag ∷ [])) before ∙ here

-- a tag at which a rule is broken
pub run_stops : (tags : List TheTag) (tag : TheTag) (i : ℕ) (s : State) (rule : Rule) (at : ℕ) → i < length tags → tag ≡ get_or tags i tag → run (Going fresh) (plain_tags (take i tags)) ≡ Going s → step (plain tag) s ≡ Fault rule at → run (Going fresh) (plain_tags tags) ≡ Fault rule at
run_stops tags tag i s rule at small is before here =
    let front : run (Going fresh) (plain_tags (take (i + 1) tags)) ≡ Fault rule at =
    ap (λ ts. run (Going fresh) (plain_tags ts)) (take_more tags tag i small is) ∙ ap (run (Going fresh)) (map-append plain (take i tags) (tag ∷ []))
    ∙ run_append (Going fresh) (plain_tags (take i tags)) (plain tag ∷ []) ∙ ap (λ n. run n (plain tag ∷ [])) before ∙ here in
    ap (λ ts. run (Going fresh) (plain_tags ts)) (sym (take-append-drop (i + 1) tags)) ∙ ap (run (Going fresh)) (map-append plain (take (i + 1) tags) (drop (i + 1) tags))
    ∙ run_append (Going fresh) (plain_tags (take (i + 1) tags)) (plain_tags (drop (i + 1) tags)) ∙ ap (λ n. run n (plain_tags (drop (i + 1) tags))) front
    ∙ fault_stays rule at (plain_tags (drop (i + 1) tags))

-- a tag at which reading stops
pub ran_into : (tags : List TheTag) (tag : TheTag) (i : ℕ) (s : State) (now : Reader) (answer : Result (Unit {0}) Stop) (stop : Stop) → answer ≡ Err stop → i < length tags → tag ≡ get_or tags i tag → run (Going fresh) (plain_tags (take i tags)) ≡ Going s → Stepped (step (plain tag) s) now answer → Stepped (run (Going fresh) (plain_tags tags)) now answer
ran_into tags tag i s now (Ok done) stop e small is before h = cc
ran_into tags tag i s now (Err (stops.Broken rule at)) stop e small is before h = run_stops tags tag i s rule at small is before h
ran_into tags tag i s now (Err stops.Memory) stop e small is before h = h
