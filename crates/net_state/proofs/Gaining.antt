-- Tokens that come in, one after another, and cells that gain them.
use Rattle.std.proofs.Common.{◌≡◌, ◌≢◌, ℕ, zero, suc, ◌<◌, Bool, true, false, List, [], ◌∷◌, ◌++◌, ℤ, length, refl, sym, ap, subst, ◌∙◌, ⊎_elim, arith, append_assoc, append-nil}
use Rattle.std.specs.Prelude.{Some, slice_get, slice_set, if◌then◌else◌, ◌==◌, ◌&&◌}
use Rattle.std.proofs.lemmas.Bool.{cases_eq, eq-eqb, eqb-true}
use Rattle.std.proofs.lemmas.List.{length-set}
use Rattle.rvc_base.specs.Lawful.{tokens_on}
use Rattle.net_model.specs.Cell.{Cell, IsSameActor, Accepts}
use Rattle.net_state.specs.Moving.{Gains, EachGains, only_to}

pub some_is : {A : Type 0} (x y : A) → Some x ≡ Some y → x ≡ y
some_is x y h = cc

-- a place of a list that was set
pub get_set_same : {A : Type 0} (xs : List A) (i : ℕ) (x y : A) → slice_get xs i ≡ Some x → slice_get (slice_set xs i y) i ≡ Some y
get_set_same [] i x y h = cc
get_set_same (z ∷ xs) zero x y h = refl
get_set_same (z ∷ xs) (suc i) x y h = get_set_same xs i x y h

pub get_set_other : {A : Type 0} (xs : List A) (i j : ℕ) (y : A) → i ≢ j → slice_get (slice_set xs j y) i ≡ slice_get xs i
get_set_other [] i j y differ = refl
get_set_other (z ∷ xs) zero zero y differ = absurd (differ refl)
get_set_other (z ∷ xs) zero (suc j) y differ = refl
get_set_other (z ∷ xs) (suc i) zero y differ = refl
get_set_other (z ∷ xs) (suc i) (suc j) y differ = get_set_other xs i j y (λ same. differ (ap suc same))

-- Where tokens go.

pub only_there : (j q : ℕ) (tokens : List ℤ) → only_to j q tokens j q ≡ tokens
only_there j q tokens = rw (eq-eqb j j refl, eq-eqb q q refl)

pub not_eq : (i j : ℕ) → i ≢ j → (i == j) ≡ false
not_eq i j differ = by_bool (i == j) (λ same. absurd (differ (eqb-true i j same))) (λ e. e)
  where
    by_bool : {P : Type 0} (b : Bool) → (b ≡ true → P) → (b ≡ false → P) → P
    by_bool true p q = p refl
    by_bool false p q = q refl

pub other_cell : (j q : ℕ) (tokens : List ℤ) (i p : ℕ) → i ≢ j → only_to j q tokens i p ≡ []
other_cell j q tokens i p differ = rw (not_eq i j differ) refl

pub other_port : (j q : ℕ) (tokens : List ℤ) (i p : ℕ) → p ≢ q → only_to j q tokens i p ≡ []
other_port j q tokens i p differ = rw (not_eq p q differ) (none (i == j))
  where
    none : (b : Bool) → (if b && false then tokens else []) ≡ []
    none true = refl
    none false = refl

pub only_none : (j q i p : ℕ) → only_to j q [] i p ≡ []
only_none j q i p = none ((i == j) && (p == q))
  where
    nothing : List ℤ
    nothing = []

    none : (b : Bool) → (if b then nothing else nothing) ≡ nothing
    none true = refl
    none false = refl

-- One cell.

pub same_actor : {X : Type 0} (cell : Cell X) → IsSameActor cell cell
same_actor cell = record {
  same_actor = refl;
  same_inbox_capacities = λ p low. refl;
  same_outbox_capacities = λ p low. refl;
  same_journal_room = refl;
}

pub actor_then : {X : Type 0} (a b c : Cell X) → IsSameActor a b → IsSameActor b c → IsSameActor a c
actor_then a b c one two = record {
  same_actor = two.same_actor ∙ one.same_actor;
  same_inbox_capacities = λ p low. two.same_inbox_capacities p (subst (λ actor. p < actor.ins) (sym one.same_actor) low) ∙ one.same_inbox_capacities p low;
  same_outbox_capacities = λ p low. two.same_outbox_capacities p (subst (λ actor. p < actor.outs) (sym one.same_actor) low) ∙ one.same_outbox_capacities p low;
  same_journal_room = two.same_journal_room ∙ one.same_journal_room;
}

pub gains_nothing : {X : Type 0} (arriving : ℕ → List ℤ) (cell : Cell X) → ((p : ℕ) → arriving p ≡ []) → Gains arriving cell cell
gains_nothing arriving cell none = record {
  actor = same_actor cell;
  state = refl;
  inboxes = λ p low. sym (ap (λ ts. tokens_on cell.inboxes p ++ ts) (none p) ∙ append-nil (tokens_on cell.inboxes p));
  outboxes = λ p low. refl;
  journal = refl;
  trapped = refl;
}

pub gains_as : {X : Type 0} (arriving coming : ℕ → List ℤ) (old new : Cell X) → Gains arriving old new
    → ((p : ℕ) → p < old.actor.ins → arriving p ≡ coming p) → Gains coming old new
gains_as arriving coming old new gains same = record {
  actor = gains.actor;
  state = gains.state;
  inboxes = λ p low. gains.inboxes p low ∙ ap (λ ts. tokens_on old.inboxes p ++ ts) (same p low);
  outboxes = gains.outboxes;
  journal = gains.journal;
  trapped = gains.trapped;
}

pub gains_then : {X : Type 0} (first second : ℕ → List ℤ) (old mid new : Cell X) → Gains first old mid → Gains second mid new
    → Gains (λ p. first p ++ second p) old new
gains_then first second old mid new one two = record {
  actor = actor_then old mid new one.actor two.actor;
  state = two.state ∙ one.state;
  inboxes = λ p low.
      two.inboxes p (subst (λ actor. p < actor.ins) (sym one.actor.same_actor) low)
      ∙ (ap (λ ts. ts ++ second p) (one.inboxes p low) ∙ append_assoc (tokens_on old.inboxes p) (first p) (second p));
  outboxes = λ p low. two.outboxes p (subst (λ actor. p < actor.outs) (sym one.actor.same_actor) low) ∙ one.outboxes p low;
  journal = two.journal ∙ one.journal;
  trapped = two.trapped ∙ one.trapped;
}

-- a token that is accepted
pub gains_token : {X : Type 0} (j q : ℕ) (token : ℤ) (old new : Cell X) → Accepts old q token new
    → Gains (only_to j q (token ∷ []) j) old new
gains_token j q token old new accepts = record {
  actor = accepts.actor;
  state = accepts.state;
  inboxes = λ p low. ⊎_elim
      (λ same. subst (λ k. tokens_on new.inboxes k ≡ tokens_on old.inboxes k ++ only_to j q (token ∷ []) j k) (sym same)
      (accepts.there ∙ ap (λ ts. tokens_on old.inboxes q ++ ts) (sym (only_there j q (token ∷ [])))))
      (λ differ. accepts.elsewhere p low differ
      ∙ sym (ap (λ ts. tokens_on old.inboxes p ++ ts) (other_port j q (token ∷ []) j p differ) ∙ append-nil (tokens_on old.inboxes p)))
      (cases_eq p q);
  outboxes = accepts.outboxes;
  journal = accepts.journal;
  trapped = accepts.trapped;
}

-- All cells.

pub each_gains_nothing : {X : Type 0} (arriving : ℕ → ℕ → List ℤ) (cells : List (Cell X)) → ((i p : ℕ) → arriving i p ≡ []) → EachGains arriving cells cells
each_gains_nothing arriving cells none = record {
  count = refl;
  each = λ i before after at there. subst (λ c. Gains (arriving i) before c) (some_is before after (sym at ∙ there)) (gains_nothing (arriving i) before (none i));
}

pub each_gains_as : {X : Type 0} (arriving coming : ℕ → ℕ → List ℤ) (old new : List (Cell X)) → EachGains arriving old new
    → ((i p : ℕ) → arriving i p ≡ coming i p) → EachGains coming old new
each_gains_as arriving coming old new gains same = record {
  count = gains.count;
  each = λ i before after at there. gains_as (arriving i) (coming i) before after (gains.each i before after at there) (λ p low. same i p);
}

-- a place of a list as long as another that has it
pub there_too : {A B : Type 0} (xs : List A) (ys : List B) (i : ℕ) (x : A) → length xs ≡ length ys → slice_get xs i ≡ Some x
    → (y : B) × (slice_get ys i ≡ Some y)
there_too [] ys i x same at = cc
there_too (z ∷ xs) [] i x same at = absurd (omega (arith, same))
there_too (z ∷ xs) (y ∷ ys) zero x same at = (y, refl)
there_too (z ∷ xs) (y ∷ ys) (suc i) x same at = there_too xs ys i x (omega (arith, same)) at

pub each_gains_then : {X : Type 0} (first second : ℕ → ℕ → List ℤ) (old mid new : List (Cell X)) → EachGains first old mid → EachGains second mid new
    → EachGains (λ i p. first i p ++ second i p) old new
each_gains_then first second old mid new one two = record {
  count = two.count ∙ one.count;
  each = λ i before after at there.
      let between = there_too old mid i before (sym one.count) at in
      gains_then (first i) (second i) before between.0 after (one.each i before between.0 at between.1) (two.each i between.0 after between.1 there);
}

-- one cell of them gains tokens
pub each_gains_at : {X : Type 0} (j q : ℕ) (tokens : List ℤ) (cells : List (Cell X)) (old new : Cell X) → slice_get cells j ≡ Some old
    → Gains (only_to j q tokens j) old new → EachGains (only_to j q tokens) cells (slice_set cells j new)
each_gains_at j q tokens cells old new at gains = record {
  count = length-set cells j new;
  each = λ i before after was is. ⊎_elim
      (λ same.
      let before_is : before ≡ old = some_is before old (sym was ∙ (ap (slice_get cells) same ∙ at)) in
      let after_is : after ≡ new = some_is after new (sym is ∙ (ap (slice_get (slice_set cells j new)) same ∙ get_set_same cells j old new at)) in
      subst (λ k. Gains (only_to j q tokens k) before after) (sym same)
      (subst (λ c. Gains (only_to j q tokens j) c after) (sym before_is) (subst (λ c. Gains (only_to j q tokens j) old c) (sym after_is) gains)))
      (λ differ.
      let after_is : after ≡ before = some_is after before (sym is ∙ (get_set_other cells i j new differ ∙ was)) in
      subst (λ c. Gains (only_to j q tokens i) before c) (sym after_is)
      (gains_nothing (only_to j q tokens i) before (λ p. other_cell j q tokens i p differ)))
      (cases_eq i j);
}

-- one cell of them had fewer tokens
pub each_gains_before : {X : Type 0} (j q : ℕ) (tokens : List ℤ) (cells : List (Cell X)) (less now : Cell X) → slice_get cells j ≡ Some now
    → Gains (only_to j q tokens j) less now → EachGains (only_to j q tokens) (slice_set cells j less) cells
each_gains_before j q tokens cells less now at gains = record {
  count = sym (length-set cells j less);
  each = λ i before after was is. ⊎_elim
      (λ same.
      let before_is : before ≡ less = some_is before less (sym was ∙ (ap (slice_get (slice_set cells j less)) same ∙ get_set_same cells j now less at)) in
      let after_is : after ≡ now = some_is after now (sym is ∙ (ap (slice_get cells) same ∙ at)) in
      subst (λ k. Gains (only_to j q tokens k) before after) (sym same)
      (subst (λ c. Gains (only_to j q tokens j) c after) (sym before_is) (subst (λ c. Gains (only_to j q tokens j) less c) (sym after_is) gains)))
      (λ differ.
      let same : before ≡ after = some_is before after (sym was ∙ (get_set_other cells i j less differ ∙ is)) in
      subst (λ c. Gains (only_to j q tokens i) before c) same
      (gains_nothing (only_to j q tokens i) before (λ p. other_cell j q tokens i p differ)))
      (cases_eq i j);
}

pub only_more : (j q : ℕ) (tokens more : List ℤ) (i p : ℕ) → only_to j q tokens i p ++ only_to j q more i p ≡ only_to j q (tokens ++ more) i p
only_more j q tokens more i p = joined ((i == j) && (p == q))
  where
    joined : (b : Bool) → (if b then tokens else []) ++ (if b then more else []) ≡ (if b then tokens ++ more else [])
    joined true = refl
    joined false = refl

-- one token more comes to a port
pub gains_one_more : {X : Type 0} (j q : ℕ) (tokens : List ℤ) (token : ℤ) (start cells : List (Cell X)) (old new : Cell X)
    → EachGains (only_to j q tokens) start cells → slice_get cells j ≡ Some old → Accepts old q token new
    → EachGains (only_to j q (tokens ++ token ∷ [])) start (slice_set cells j new)
gains_one_more j q tokens token start cells old new so_far at accepts =
    each_gains_as (λ i p. only_to j q tokens i p ++ only_to j q (token ∷ []) i p) (only_to j q (tokens ++ token ∷ [])) start (slice_set cells j new)
    (each_gains_then (only_to j q tokens) (only_to j q (token ∷ [])) start cells (slice_set cells j new) so_far
    (each_gains_at j q (token ∷ []) cells old new at (gains_token j q token old new accepts)))
    (only_more j q tokens (token ∷ []))
