-- Texts that are put one after another.
use Rattle.std.proofs.Common.{◌≡◌, ◌≤◌, inl, inr, ℕ, List, ◌++◌, [], sym, ap, subst, refl, ◌∙◌, arith}
use Rattle.std.proofs.lemmas.List.{append_assoc, append-nil}
use Rattle.std.specs.Result.{IsErr}
use Rattle.std.specs.declared.result.Result.{Result}
use Rattle.std.specs.declared.result.Result.TheVariants.{Ok, Err}
use Rattle.channel_writer.specs.Held.{HoldsFront}
use Rattle.rvc_io.specs.Channels.{Channels, WritesOnlyAt}
use Rattle.rvc_io.specs.Count.{HasRisen}
use Rattle.rvc_io.specs.declared.Failed.{Failed}
use Rattle.cmd_report.specs.Puts.{GetsLess, GetsText, Puts}
use Rattle.cmd_report.specs.Steps.{PutsSoFar}

both_alone : (old mid new : Channels) → WritesOnlyAt 0 old mid → WritesOnlyAt 0 mid new → WritesOnlyAt 0 old new
both_alone old mid new a b = record {
  same_telling = b.same_telling ∙ a.same_telling;
  same_held = λ told k other. b.same_held (a.same_telling ∙ told) k other ∙ a.same_held told k other;
  same_open = λ k. b.same_open k ∙ a.same_open k;
  faults_stay = (let x = a.faults_stay in let y = b.faults_stay in omega arith);
}

front_longer : (a b held held' : List ℕ) → HoldsFront held held' a → HoldsFront held held' (a ++ b)
front_longer a b held held' f = record {
  put = f.put;
  left = f.left ++ b;
  new_is = f.new_is;
  text_is = ap (λ t. t ++ b) f.text_is ∙ append_assoc f.put f.left b;
}

front_after : (a b held mid held' : List ℕ) → mid ≡ held ++ a → HoldsFront mid held' b → HoldsFront held held' (a ++ b)
front_after a b held mid held' e f = record {
  put = a ++ f.put;
  left = f.left;
  new_is = f.new_is ∙ ap (λ h. h ++ f.put) e ∙ append_assoc held a f.put;
  text_is = ap (λ t. a ++ t) f.text_is ∙ sym (append_assoc a f.put f.left);
}

pub then_text : (a b : List ℕ) (old mid new : Channels) → GetsText a old mid → GetsText b mid new → GetsText (a ++ b) old new
then_text a b old mid new first second = record {
  whole = λ told. second.whole (first.alone.same_telling ∙ told) ∙ ap (λ h. h ++ b) (first.whole told) ∙ append_assoc (old.held 0) a b;
  alone = both_alone old mid new first.alone second.alone;
}

-- a prefix of a text is one of a longer text
pub less_longer : (a b : List ℕ) (old new : Channels) → GetsLess a old new → GetsLess (a ++ b) old new
less_longer a b old new less = record {
  counted = less.counted;
  front = λ told. front_longer a b (old.held 0) (new.held 0) (less.front told);
  alone = less.alone;
}

pub then_less : (a b : List ℕ) (old mid new : Channels) → GetsText a old mid → GetsLess b mid new → GetsLess (a ++ b) old new
then_less a b old mid new first less = record {
  counted = later old.faults mid.faults new.faults first.alone.faults_stay less.counted;
  front = λ told. front_after a b (old.held 0) (mid.held 0) (new.held 0) (first.whole told) (less.front (first.alone.same_telling ∙ told));
  alone = both_alone old mid new first.alone less.alone;
}
  where
    later : (x y z : ℕ) → x ≤ y → HasRisen y z → HasRisen x z
    later x y z stay (inl rose) = inl (omega arith)
    later x y z stay (inr last) = inr last

pub then : (a b : List ℕ) (old mid new : Channels) (r : Result (Unit {0}) Failed) → GetsText a old mid → Puts r b mid new → Puts r (a ++ b) old new
then a b old mid new (Ok done) first second = then_text a b old mid new first second
then a b old mid new (Err failed) first less = then_less a b old mid new first less

pub nothing : (old : Channels) → GetsText [] old old
nothing old = record {
  whole = λ told. sym (append-nil (old.held 0));
  alone = record {
    same_telling = refl;
    same_held = λ told k other. refl;
    same_open = λ k. refl;
    faults_stay = omega arith;
  };
}

-- ---- loops

pub begins : (whole : List ℕ) (old : Channels) → PutsSoFar whole whole old old
begins whole old = record { text = []; is_front = refl; put = nothing old }

pub goes_on : (whole text line left : List ℕ) (old mid new : Channels) → text ≡ line ++ left → PutsSoFar whole text old mid → GetsText line mid new → PutsSoFar whole left old new
goes_on whole text line left old mid new is so this = record {
  text = so.text ++ line;
  is_front = so.is_front ∙ ap (λ t. so.text ++ t) is ∙ sym (append_assoc so.text line left);
  put = then_text so.text line old mid new so.put this;
}

pub ends : (whole : List ℕ) (old new : Channels) → PutsSoFar whole [] old new → GetsText whole old new
ends whole old new so = subst (λ t. GetsText t old new) (sym (so.is_front ∙ append-nil so.text)) so.put

pub failed : (t : List ℕ) (old new : Channels) (r : Result (Unit {0}) Failed) → IsErr r → GetsLess t old new → Puts r t old new
failed t old new (Ok done) err less = cc
failed t old new (Err fault) err less = less

pub breaks_off : (whole text line left : List ℕ) (old mid new : Channels) (r : Result (Unit {0}) Failed) → IsErr r → text ≡ line ++ left → PutsSoFar whole text old mid → GetsLess line mid new → Puts r whole old new
breaks_off whole text line left old mid new r err is so less = failed whole old new r err (subst (λ t. GetsLess t old new) (sym (so.is_front ∙ ap (λ t. so.text ++ t) is))
    (then_less so.text (line ++ left) old mid new so.put (less_longer line left mid new less)))
