-- A yes says what it is to say.
use Rattle.std.proofs.Common.{◌≡◌, ◌↔◌, refl, List, Bool, true, false}
use Rattle.std.specs.Prelude.{IfOk, IfSome, IsTrue, None, Ok, Err, Option, Result, Some}
use Rattle.std.specs.Bool.{OnTrue}
use Rattle.registry.specs.Registry.{Packages}
use Rattle.derivations.specs.Facts.{Holds, Terms}
use Rattle.derivations.specs.Derivations.{last_conclusion}
use Rattle.derivations.specs.Learning.{AllStand, IsLearnt}
use Rattle.derivations.specs.Lines.{Line}
use Rattle.derivations.proofs.Lasting.{Holds-IsLearnt}

pub on_true : {P : Type 0} (b : Bool) → (b ≡ true → P) → OnTrue b P
on_true true f = f refl
on_true false f = tt

pub on_true_ok : {A P E : Type 0} (r : Result Bool E) → (A → P) → IfOk r (λ (yes_b : Bool). IsTrue yes_b ↔ A) → IfOk r (λ (yes_b : Bool). OnTrue yes_b P)
on_true_ok (Ok b) f e = on_true b (λ t. f (e.0 t))
on_true_ok (Err error) f e = tt

-- what is learnt holds, where its premises stand
pub learnt_conclusion : (packages : Packages) (lines : List Line) → IsLearnt lines → AllStand packages lines → IfSome (last_conclusion lines) (Holds packages)
learnt_conclusion packages lines l stand = by (last_conclusion lines) refl
  where
    by : (o : Option Terms) → last_conclusion lines ≡ o → IfSome o (Holds packages)
    by None e = tt
    by (Some terms) e = Holds-IsLearnt packages lines terms l stand e
