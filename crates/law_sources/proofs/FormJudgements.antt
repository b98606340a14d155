-- What holds of all that a judgement gives.
use Rattle.std.proofs.Common.{◌≡◌, ℕ, subst}
use Rattle.cal_model.specs.Kinding.{Judged, Fine, Broken, and_so}
use Rattle.cal_imports.specs.Answer.{Answer, Gives, Refuses, and_then, in_file}

-- it holds of what is given, if anything is
abbrev pub OnFine : {A : Type 0} → (A → Type 0) → Judged A → Type 0
OnFine P (Fine x) = P x
OnFine P (Broken rule at) = Unit {0}

abbrev pub Any : {A : Type 0} → A → Type 0
Any x = Unit {0}

pub any_fine : {A : Type 0} (j : Judged A) → OnFine (λ x. Any x) j
any_fine (Fine x) = tt
any_fine (Broken rule at) = tt

pub on_given : {A : Type 0} (P : A → Type 0) (j : Judged A) (x : A) → OnFine P j → j ≡ Fine x → P x
on_given P j x h e = subst (OnFine P) e h

pub on_all : {A : Type 0} (P R : A → Type 0) → ((x : A) → P x → R x) → (j : Judged A) → OnFine P j → OnFine R j
on_all P R f (Fine x) h = f x h
on_all P R f (Broken rule at) h = tt

pub so_then : {A B : Type 0} (P : B → Type 0) (S : A → Type 0) (a : Judged A) (f : A → Judged B) → OnFine S a → ((x : A) → S x → OnFine P (f x)) → OnFine P (and_so a f)
so_then P S (Fine x) f h k = k x h
so_then P S (Broken rule at) f h k = tt

-- ---- answers about several files

abbrev pub OnGives : {A : Type 0} → (A → Type 0) → Answer A → Type 0
OnGives P (Gives x) = P x
OnGives P (Refuses rule file at) = Unit {0}

pub on_answer : {A : Type 0} (P : A → Type 0) (a : Answer A) (x : A) → OnGives P a → a ≡ Gives x → P x
on_answer P a x h e = subst (OnGives P) e h

pub then_on : {A B : Type 0} (P : B → Type 0) (S : A → Type 0) (a : Answer A) (f : A → Answer B) → OnGives S a → ((x : A) → S x → OnGives P (f x)) → OnGives P (and_then a f)
then_on P S (Gives x) f h k = k x h
then_on P S (Refuses rule file at) f h k = tt

pub in_file_on : {A : Type 0} (P : A → Type 0) (file : ℕ) (j : Judged A) → OnFine P j → OnGives P (in_file file j)
in_file_on P file (Fine x) h = h
in_file_on P file (Broken rule at) h = tt

-- ---- parts that are judged in several steps, none of which depends on what the others give

pub so_one : {A R : Type 0} (P : R → Type 0) (S : A → Type 0) (a : Judged A) (out : A → R)
    → OnFine S a → ((x : A) → S x → P (out x)) → OnFine P (and_so a (λ x. Fine (out x)))
so_one P S (Fine x) out h k = k x h
so_one P S (Broken rule at) out h k = tt

pub so_two : {A B R : Type 0} (P : R → Type 0) (S : A → Type 0) (T : B → Type 0) (a : Judged A) (b : Judged B) (out : A → B → R)
    → OnFine S a → OnFine T b → ((x : A) (y : B) → S x → T y → P (out x y)) → OnFine P (and_so a (λ x. and_so b (λ y. Fine (out x y))))
so_two P S T (Fine x) b out h i k = so_one P T b (out x) i (λ y t. k x y h t)
so_two P S T (Broken rule at) b out h i k = tt

pub so_three : {A B C R : Type 0} (P : R → Type 0) (S : A → Type 0) (T : B → Type 0) (U : C → Type 0) (a : Judged A) (b : Judged B) (c : Judged C) (out : A → B → C → R)
    → OnFine S a → OnFine T b → OnFine U c → ((x : A) (y : B) (z : C) → S x → T y → U z → P (out x y z))
    → OnFine P (and_so a (λ x. and_so b (λ y. and_so c (λ z. Fine (out x y z)))))
so_three P S T U (Fine x) b c out h i j k = so_two P T U b c (out x) i j (λ y z t u. k x y z h t u)
so_three P S T U (Broken rule at) b c out h i j k = tt

pub so_four : {A B C D R : Type 0} (P : R → Type 0) (S : A → Type 0) (T : B → Type 0) (U : C → Type 0) (V : D → Type 0)
    (a : Judged A) (b : Judged B) (c : Judged C) (d : Judged D) (out : A → B → C → D → R)
    → OnFine S a → OnFine T b → OnFine U c → OnFine V d → ((x : A) (y : B) (z : C) (w : D) → S x → T y → U z → V w → P (out x y z w))
    → OnFine P (and_so a (λ x. and_so b (λ y. and_so c (λ z. and_so d (λ w. Fine (out x y z w))))))
so_four P S T U V (Fine x) b c d out h i j l k = so_three P T U V b c d (out x) i j l (λ y z w t u v. k x y z w h t u v)
so_four P S T U V (Broken rule at) b c d out h i j l k = tt

pub so_five : {A B C D E R : Type 0} (P : R → Type 0) (S : A → Type 0) (T : B → Type 0) (U : C → Type 0) (V : D → Type 0) (W : E → Type 0)
    (a : Judged A) (b : Judged B) (c : Judged C) (d : Judged D) (e : Judged E) (out : A → B → C → D → E → R)
    → OnFine S a → OnFine T b → OnFine U c → OnFine V d → OnFine W e
    → ((x : A) (y : B) (z : C) (w : D) (v : E) → S x → T y → U z → V w → W v → P (out x y z w v))
    → OnFine P (and_so a (λ x. and_so b (λ y. and_so c (λ z. and_so d (λ w. and_so e (λ v. Fine (out x y z w v)))))))
so_five P S T U V W (Fine x) b c d e out h i j l m k = so_four P T U V W b c d e (out x) i j l m (λ y z w v t u p q. k x y z w v h t u p q)
so_five P S T U V W (Broken rule at) b c d e out h i j l m k = tt
