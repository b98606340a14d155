-- The names that an action sees.
use Rattle.std.proofs.Common.{◌≡◌, ℕ, suc, ◌+◌, ◌*◌, ◌<◌, ◌≤◌, List, [], ◌∷◌, ◌++◌, length, false, true, refl, sym, subst, append_assoc, Option, None, Some, arith}
use Rattle.std.proofs.Math.Nat.{mul-le-mul_right}
use Rattle.rvc_base.specs.declared.scalar.Scalar.{Scalar}
use Rattle.rvc_base.specs.Storing.{IsSize}
use Rattle.cal_model.specs.Value.{IsType, kind_of_type}
use Rattle.cal_model.specs.Actor.{Action, Actor, Fun, Pattern}
use Rattle.cal_model.specs.Kinding.{Known, Names, with_known}
use Rattle.cal_model.specs.Rates.{parts_times, taken_on}
use Rattle.cal_model.specs.Selection.{kind_of_port}
use Rattle.cal_model.specs.Sound.{Each, IsAction, IsPattern, IsRepeat, IsSound, kind_of_tokens, max_rate, names_of, with_pattern, with_patterns}
use Rattle.cal_model.proofs.ActorStates.{first-sized}
use Rattle.lower_base.specs.declared.names.Seat.TheVariants.{Tokens}
use Rattle.lower_base.specs.Names.{Name}
use Rattle.action_lower.specs.Seats.{pattern_seat, pattern_seats, pattern_seats_from, pattern_shape, seen_seats, var_seats}
use Rattle.action_lower.proofs.Holding.{size-at}
use Rattle.action_lower.proofs.PatternRates.{TakesItsOwn, take-their-own}
use Rattle.law_forms.specs.Lowerable.{FlatAt}
use Rattle.law_bodies.specs.Standing.{AreReady}
use Rattle.law_bodies.proofs.Names.{StandsFor, ready_front, ready_vars}

pattern_kind : (t : Scalar) (repeat : Option ℕ) → kind_of_type (pattern_shape t repeat) ≡ kind_of_tokens t repeat
pattern_kind t None = refl
pattern_kind t (Some n) = refl

pattern_flat : (t : Scalar) (repeat : Option ℕ) (port first step : ℕ) → FlatAt (Tokens port first step) (pattern_shape t repeat)
pattern_flat t None port first step = tt
pattern_flat t (Some n) port first step = tt

false_true : false ≡ true → ⊥
false_true e = cc

-- the type of a pattern's names is allowed, if there are any
abbrev IsTyped : Scalar → Pattern → Type 0
IsTyped t q = 0 < length q.names → IsType (pattern_shape t q.repeat)

pattern_typed : (t : Scalar) (repeat : Option ℕ) (many : ℕ) → IsSize t → IsRepeat repeat → 0 < many → parts_times many repeat ≤ max_rate → IsType (pattern_shape t repeat)
pattern_typed t None many size is some few = size
pattern_typed t (Some n) many size is some few =
    let wide : 1 * n ≤ many * n = mul-le-mul_right n some in
    let e : 1 * n ≡ n = omega arith in
    let f : n * 1 ≡ n = omega arith in
    (is, omega (arith, wide, few, e, f), size)

patterns_typed : (actor : Actor) (all qs : List Pattern) → ((port : ℕ) → IsSize (kind_of_port actor.ins port)) → ((port : ℕ) → taken_on port all ≤ max_rate) → Each (IsPattern actor) qs → Each (TakesItsOwn all) qs → Each (λ q. IsTyped (kind_of_port actor.ins q.port) q) qs
patterns_typed actor all [] sizes few is own = tt
patterns_typed actor all (q ∷ qs) sizes few is own =
    let m : taken_on q.port all ≤ max_rate = few q.port in
    let o = own.0 in
    let low : parts_times (length q.names) q.repeat ≤ max_rate = omega (arith, m, o) in
    (λ some. pattern_typed (kind_of_port actor.ins q.port) q.repeat (length q.names) (sizes q.port) is.0.repeat some low, patterns_typed actor all qs sizes few is.1 own.1)

abbrev token_known : Scalar → Pattern → List ℕ → Known
token_known t q text = record { name = text; kind = kind_of_tokens t q.repeat; value = None; changes = false }

ready_names : (funs : List Fun) (t : Scalar) (q : Pattern) (k : ℕ) (texts : List (List ℕ)) (known : Names) (names : List Name) → (0 < length texts → IsType (pattern_shape t q.repeat)) → AreReady funs known names
    → AreReady funs (with_pattern (kind_of_tokens t q.repeat) texts known) (pattern_seats_from t q k texts ++ names)
ready_names funs t q k [] known names typed r = r
ready_names funs t q k (text ∷ texts) known names typed r =
    let here : IsType (pattern_shape t q.repeat) = typed (omega arith) in
    let stands : StandsFor (token_known t q text) (pattern_shape t q.repeat) (Tokens q.port k (length q.names)) =
    record { typed = here; kind = pattern_kind t q.repeat; flat = pattern_flat t q.repeat q.port k (length q.names); cell = λ e. absurd (false_true e) } in
    let one : AreReady funs (with_known (token_known t q text) known) (pattern_seat t q k text ∷ names) = ready_front funs known names (token_known t q text) (pattern_shape t q.repeat) (Tokens q.port k (length q.names)) stands r in
    let all : AreReady funs (with_pattern (kind_of_tokens t q.repeat) texts (with_known (token_known t q text) known)) (pattern_seats_from t q (suc k) texts ++ (pattern_seat t q k text ∷ names)) =
    ready_names funs t q (suc k) texts (with_known (token_known t q text) known) (pattern_seat t q k text ∷ names) (λ some. here) one in
    let same : (pattern_seats_from t q (suc k) texts ++ (pattern_seat t q k text ∷ [])) ++ names ≡ pattern_seats_from t q (suc k) texts ++ (pattern_seat t q k text ∷ names) = simp append_assoc in
    subst (λ (ns : List Name). AreReady funs (with_pattern (kind_of_tokens t q.repeat) texts (with_known (token_known t q text) known)) ns) (sym same) all

ready_patterns : (funs : List Fun) (actor : Actor) (qs : List Pattern) (known : Names) (names : List Name) → Each (λ q. IsTyped (kind_of_port actor.ins q.port) q) qs → AreReady funs known names
    → AreReady funs (with_patterns actor qs known) (pattern_seats actor.ins qs ++ names)
ready_patterns funs actor [] known names typed r = r
ready_patterns funs actor (q ∷ qs) known names typed r =
    let t : Scalar = kind_of_port actor.ins q.port in
    let one : AreReady funs (with_pattern (kind_of_tokens (kind_of_port actor.ins q.port) q.repeat) q.names known) (pattern_seats_from (kind_of_port actor.ins q.port) q 0 q.names ++ names) =
    ready_names funs (kind_of_port actor.ins q.port) q 0 q.names known names typed.0 r in
    let all = ready_patterns funs actor qs (with_pattern (kind_of_tokens (kind_of_port actor.ins q.port) q.repeat) q.names known) (pattern_seats_from (kind_of_port actor.ins q.port) q 0 q.names ++ names) typed.1 one in
    let same : (pattern_seats actor.ins qs ++ pattern_seats_from (kind_of_port actor.ins q.port) q 0 q.names) ++ names ≡ pattern_seats actor.ins qs ++ (pattern_seats_from (kind_of_port actor.ins q.port) q 0 q.names ++ names) = simp append_assoc in
    subst (λ (ns : List Name). AreReady funs (with_patterns actor qs (with_pattern (kind_of_tokens (kind_of_port actor.ins q.port) q.repeat) q.names known)) ns) (sym same) all

-- what an action of a sound actor sees
pub ready_action : (actor : Actor) (act : Action) → IsSound actor → IsAction actor act → ((port : ℕ) → taken_on port act.patterns ≤ max_rate) → AreReady actor.funs (with_patterns actor act.patterns (names_of actor)) (seen_seats actor act)
ready_action actor act sound is few =
    ready_patterns actor.funs actor act.patterns (names_of actor) (var_seats 0 actor.vars)
    (patterns_typed actor act.patterns act.patterns (λ port. size-at actor.ins port (first-sized actor.ins actor.outs sound.port_sizes)) few is.patterns (take-their-own act.patterns is.ports_in))
    (ready_vars actor.funs actor.vars sound.vars)
