-- Answers whose values keep something.
use Rattle.std.specs.Prelude.{IfOk, OnOk}
use Rattle.std.specs.declared.result.Result.{Result}
use Rattle.std.specs.declared.result.Result.TheVariants.{Ok, Err}

pub if-ok-map : {A E : Type 0} (r : Result A E) (P Q : A → Type 0) → ((x : A) → P x → Q x) → IfOk r P → IfOk r Q
if-ok-map (Ok a) P Q f h = f a h
if-ok-map (Err e) P Q f h = tt

pub on-ok-map : {A E P Q : Type 0} (r : Result A E) → (P → Q) → OnOk r P → OnOk r Q
on-ok-map (Ok a) f h = f h
on-ok-map (Err e) f h = tt
