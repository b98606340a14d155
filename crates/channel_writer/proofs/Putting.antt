-- How far a piece is put.
use Rattle.std.proofs.Common.{◌≡◌, ℕ, ◌+◌, ◌-◌, ◌≤◌, ◌++◌, true, List, length, take, drop, sym, ap, ◌∙◌, arith, append_assoc, length-drop}
use Rattle.std.proofs.lemmas.List.{take_all, take-append-drop}
use Rattle.std.specs.Prelude.{Result, Ok, Err, OnErr}
use Rattle.channel_writer.specs.Held.{AppendsFront}
use Rattle.std.proofs.Math.Seq.{take-add}
use Rattle.rvc_io.specs.Channels.{Channels, Appends, WritesOnlyAt}
use Rattle.rvc_io.proofs.Changes.{writes-only-then}

-- the first `at` bytes of the piece stand behind what the channel held
pub record IsPutUpTo (at channel : ℕ) (piece : List ℕ) (old now : Channels) : Type 0 where
  pub within : at ≤ length piece
  pub open_channel : now.is_open channel ≡ true
  pub is_put : Appends channel old now (take at piece)
  pub elsewhere : WritesOnlyAt channel old now

-- what is left of a piece
abbrev pub left_of : ℕ → List ℕ → List ℕ
left_of at piece = take (length piece - at) (drop at piece)

left_of-is : (at : ℕ) (piece : List ℕ) → left_of at piece ≡ drop at piece
left_of-is at piece = take_all (length piece - at) (drop at piece) (omega (arith, length-drop at piece))

-- what one more put of n bytes does
pub record Puts (n at channel : ℕ) (piece : List ℕ) (now new : Channels) : Type 0 where
  pub most : n ≤ length (left_of at piece)
  pub bytes : Appends channel now new (take n (left_of at piece))
  pub elsewhere : WritesOnlyAt channel now new

pub put_more : {n at channel : ℕ} {piece : List ℕ} {old now new : Channels}
    → IsPutUpTo at channel piece old now → Puts n at channel piece now new → IsPutUpTo (at + n) channel piece old new
put_more {n} {at} {channel} {piece} {old} {now} {new} so_far more = record {
  within = omega (arith, so_far.within, more.most, ap length (left_of-is at piece), length-drop at piece);
  open_channel = more.elsewhere.same_open channel ∙ so_far.open_channel;
  is_put = λ told. more.bytes (so_far.elsewhere.same_telling ∙ told)
      ∙ ap (λ xs. now.held channel ++ take n xs) (left_of-is at piece)
      ∙ ap (λ xs. xs ++ take n (drop at piece)) (so_far.is_put told)
      ∙ append_assoc (old.held channel) (take at piece) (take n (drop at piece))
      ∙ ap (λ xs. old.held channel ++ xs) (sym (take-add at n piece));
  elsewhere = writes-only-then so_far.elsewhere more.elsewhere;
}

-- a put that fails leaves the prefix that was put before
pub put_stopped : {at channel : ℕ} {piece : List ℕ} {old now : Channels} (new : Channels) → IsPutUpTo at channel piece old now
    → (now.tells ≡ true → new.held channel ≡ now.held channel) → AppendsFront channel old new piece
put_stopped {at} {channel} {piece} {old} {now} new so_far same told = record {
  put = take at piece;
  left = drop at piece;
  new_is = same (so_far.elsewhere.same_telling ∙ told) ∙ so_far.is_put told;
  text_is = sym (take-append-drop at piece);
}

-- what holds holds of an error too
pub on_err : {T E : Type 0} (r : Result T E) (P : Type 0) → P → OnErr r P
on_err (Ok x) P h = tt
on_err (Err e) P h = h
