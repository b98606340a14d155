-- How far the tokens of a link were written.
use Rattle.std.proofs.Common.{◌≡◌, ℕ, zero, suc, ◌+◌, ◌<◌, true, List, [], ◌∷◌, ◌++◌, ℤ, length, map, take, drop, refl, sym, ap, subst, ◌∙◌, arith, append_assoc, append-nil}
use Rattle.std.specs.Prelude.{Some, Ok, Err, Result, OnErr, flat_map, slice_get}
use Rattle.std.proofs.lemmas.Grind.{flat_map-append}
use Rattle.rvc_base.specs.declared.scalar.Scalar.{Scalar}
use Rattle.rvc_io.specs.Channels.{Channels, WritesOnlyAt}
use Rattle.channel_writer.specs.Held.{AppendsFront, HoldsFront, WritesOn}
use Rattle.channel_writer.proofs.Chains.{writes-nothing, writes-then, breaks-then, front-longer}
use Rattle.trace_text.specs.declared.line.Line.TheVariants.{Fire as FireLine}
use Rattle.trace_text.specs.Text.{line_text}
use Rattle.net_model.specs.Paced.{fire_lines}
use Rattle.net_model.specs.Cell.{Cell}
use Rattle.net_state.specs.Working.{journal_of}
use Rattle.round_runner.specs.Firings.{journal_text, journals}
use Rattle.round_runner.specs.Sending.{stored_bytes, stored}

-- a text was written on a channel, and nothing else
pub record IsWritten (channel : ℕ) (text pending_old pending : List ℕ) (old now : Channels) : Type 0 where
  pub open_channel : now.is_open channel ≡ true
  pub written : WritesOn channel old now pending_old pending text
  pub only : WritesOnlyAt channel old now

pub nothing_written : (channel : ℕ) (pending : List ℕ) (channels : Channels) → channels.is_open channel ≡ true → IsWritten channel [] pending pending channels channels
nothing_written channel pending channels opened = record {
  open_channel = opened;
  written = λ told. writes-nothing (channels.held channel) pending;
  only = record { same_telling = refl; same_held = λ told other away. refl; same_open = λ other. refl; faults_stay = omega arith };
}

pub only_then : (channel : ℕ) (old now new : Channels) → WritesOnlyAt channel old now → WritesOnlyAt channel now new → WritesOnlyAt channel old new
only_then channel old now new first second = record {
  same_telling = second.same_telling ∙ first.same_telling;
  same_held = λ told other away. second.same_held (first.same_telling ∙ told) other away ∙ first.same_held told other away;
  same_open = λ other. second.same_open other ∙ first.same_open other;
  faults_stay = omega (arith, first.faults_stay, second.faults_stay);
}

module _ (channel : ℕ) (text pending_old pending : List ℕ) (old now new : Channels) (so_far : IsWritten channel text pending_old pending old now) where
  -- one text more
  pub more_written : (more pending_new : List ℕ) → WritesOn channel now new pending pending_new more → WritesOnlyAt channel now new
      → IsWritten channel (text ++ more) pending_old pending_new old new
  more_written more pending_new written only = record {
    open_channel = only.same_open channel ∙ so_far.open_channel;
    written = λ told. writes-then (old.held channel) pending_old (now.held channel) pending (new.held channel) text (so_far.written told) pending_new more (written (so_far.only.same_telling ∙ told));
    only = only_then channel old now new so_far.only only;
  }

  -- a write that fails, of what is to be written behind that
  pub write_breaks : (more rest : List ℕ) → AppendsFront channel now new (pending ++ more) → AppendsFront channel old new (pending_old ++ (text ++ (more ++ rest)))
  write_breaks more rest broken told =
      let here : HoldsFront (old.held channel) (new.held channel) (pending_old ++ (text ++ more)) =
      breaks-then (old.held channel) pending_old (now.held channel) pending (new.held channel) text (so_far.written told) more (broken (so_far.only.same_telling ∙ told)) in
      subst (HoldsFront (old.held channel) (new.held channel))
      (append_assoc pending_old (text ++ more) rest ∙ ap (λ xs. pending_old ++ xs) (append_assoc text more rest))
      (front-longer (old.held channel) (new.held channel) (pending_old ++ (text ++ more)) rest here)

pub on_err : {T E : Type 0} (r : Result T E) (P : Type 0) → P → OnErr r P
on_err (Ok v) P p = tt
on_err (Err e) P p = p

-- A text of items one after another; that of an item may depend on its place.
module _ {A : Type 0} (text : ℕ → List A → List ℕ) (one : ℕ → A → List ℕ) (none : (i : ℕ) → text i [] ≡ [])
    (more : (i : ℕ) (x : A) (xs : List A) → text i (x ∷ xs) ≡ one i x ++ text (suc i) xs) where
  some_same : (a b : A) → Some a ≡ Some b → a ≡ b
  some_same a b h = cc

  -- the items up to one, and this one
  next_by : (i : ℕ) (xs : List A) (k : ℕ) (x : A) → slice_get xs k ≡ Some x → text i (take k xs) ++ one (i + k) x ≡ text i (take (suc k) xs)
  next_by i [] k x h = cc
  next_by i (y ∷ xs) zero x h =
      ap (λ ts. ts ++ one (i + 0) x) (none i)
      ∙ (ap (λ n. one n x) (let e : i + 0 ≡ i = omega arith in e)
      ∙ (sym (append-nil (one i x)) ∙ (ap (λ ts. one i x ++ ts) (sym (none (suc i))) ∙ (sym (more i x []) ∙ ap (λ z. text i (z ∷ [])) (sym (some_same y x h))))))
  next_by i (y ∷ xs) (suc k) x h =
      ap (λ ts. ts ++ one (i + suc k) x) (more i y (take k xs))
      ∙ (append_assoc (one i y) (text (suc i) (take k xs)) (one (i + suc k) x)
      ∙ (ap (λ n. one i y ++ (text (suc i) (take k xs) ++ one n x)) (let e : i + suc k ≡ suc i + k = omega arith in e)
      ∙ (ap (λ ts. one i y ++ ts) (next_by (suc i) xs k x h) ∙ sym (more i y (take (suc k) xs)))))

  -- .. and those behind it
  rest_by : (i : ℕ) (xs : List A) (k : ℕ) → text i (take k xs) ++ text (i + k) (drop k xs) ≡ text i xs
  rest_by i [] zero = ap (λ ts. ts ++ text (i + 0) []) (none i) ∙ ap (λ n. text n []) (let e : i + 0 ≡ i = omega arith in e)
  rest_by i [] (suc k) = ap (λ ts. ts ++ text (i + suc k) []) (none i) ∙ (none (i + suc k) ∙ sym (none i))
  rest_by i (y ∷ xs) zero = ap (λ ts. ts ++ text (i + 0) (y ∷ xs)) (none i) ∙ ap (λ n. text n (y ∷ xs)) (let e : i + 0 ≡ i = omega arith in e)
  rest_by i (y ∷ xs) (suc k) =
      ap (λ ts. ts ++ text (i + suc k) (drop k xs)) (more i y (take k xs))
      ∙ (append_assoc (one i y) (text (suc i) (take k xs)) (text (i + suc k) (drop k xs))
      ∙ (ap (λ n. one i y ++ (text (suc i) (take k xs) ++ text n (drop k xs))) (let e : i + suc k ≡ suc i + k = omega arith in e)
      ∙ (ap (λ ts. one i y ++ ts) (rest_by (suc i) xs k) ∙ sym (more i y xs))))

  pub text_next : (xs : List A) (k : ℕ) (x : A) → slice_get xs k ≡ Some x → text 0 (take k xs) ++ one k x ≡ text 0 (take (k + 1) xs)
  text_next xs k x h =
      ap (λ n. text 0 (take k xs) ++ one n x) (let e : k ≡ 0 + k = omega arith in e)
      ∙ (next_by 0 xs k x h ∙ ap (λ n. text 0 (take n xs)) (let e : suc k ≡ k + 1 = omega arith in e))

  pub text_all : (xs : List A) (k : ℕ) (x : A) → slice_get xs k ≡ Some x → text 0 (take k xs) ++ (one k x ++ text (k + 1) (drop (k + 1) xs)) ≡ text 0 xs
  text_all xs k x h =
      sym (append_assoc (text 0 (take k xs)) (one k x) (text (k + 1) (drop (k + 1) xs)))
      ∙ (ap (λ ts. ts ++ text (k + 1) (drop (k + 1) xs)) (text_next xs k x h)
      ∙ (ap (λ n. text 0 (take (k + 1) xs) ++ text n (drop (k + 1) xs)) (let e : k + 1 ≡ 0 + (k + 1) = omega arith in e) ∙ rest_by 0 xs (k + 1)))

-- the bytes of tokens
pub bytes_more : (kind : Scalar) (i : ℕ) (v : ℤ) (vs : List ℤ) → stored_bytes kind (v ∷ vs) ≡ stored kind v ++ stored_bytes kind vs
bytes_more kind i v vs = refl

-- the lines of the firings of an instance, and of several
abbrev pub line_of : ℕ → ℕ → ℕ → List ℕ
line_of inst i action = line_text (FireLine inst action)

pub lines_more : (inst : ℕ) (i a : ℕ) (actions : List ℕ) → journal_text inst (a ∷ actions) ≡ line_of inst i a ++ journal_text inst actions
lines_more inst i a actions = refl

abbrev pub text_from : ℕ → List (List ℕ) → List ℕ
text_from i bursts = flat_map line_text (fire_lines i bursts)

pub bursts_more : (i : ℕ) (actions : List ℕ) (bursts : List (List ℕ)) → text_from i (actions ∷ bursts) ≡ journal_text i actions ++ text_from (suc i) bursts
bursts_more i actions bursts = flat_map-append line_text (map (FireLine i) actions) (fire_lines (suc i) bursts)

-- the journal of a cell, among those of all
pub journal_at : {X : Type 0} (cells : List (Cell X)) (i : ℕ) (actions : List ℕ) → i < length cells → actions ≡ journal_of (slice_get cells i) → slice_get (journals cells) i ≡ Some actions
journal_at [] i actions low is = absurd (omega (arith, low))
journal_at (cell ∷ cells) zero actions low is = ap Some (sym is)
journal_at (cell ∷ cells) (suc i) actions low is = journal_at cells i actions (omega (arith, low)) is
