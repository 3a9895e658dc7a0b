-- What is learnt holds where its premises stand.
use Rattle.std.proofs.Common.{◌≡◌, ℕ, zero, suc, List, [], ◌∷◌, ◌++◌, sym, subst}
use Rattle.std.proofs.lemmas.Option.{none-some, same_Some}
use Rattle.std.specs.Prelude.{Some, slice_get}
use Rattle.registry.specs.Registry.{Packages}
use Rattle.derivations.specs.Facts.{Holds, Terms}
use Rattle.registry.specs.Requests.{Wanted}
use Rattle.derivations.specs.Derivations.{AreDerived, AreDerivedBy, IsDerivedBy, Yields, last_conclusion}
use Rattle.derivations.specs.Learning.{AllStand, CauseStands, IsLearnt, Offers}
use Rattle.derivations.proofs.Soundness.{Holds-Follows, Holds-Stands}
use Rattle.derivations.specs.Lines.{Cause, Line}
use Rattle.derivations.specs.declared.facts.Cause.TheVariants as cause

abbrev pub AllHold : Packages → List Terms → Type 0
AllHold packages earlier = (i : ℕ) (terms : Terms) → slice_get earlier i ≡ Some terms → Holds packages terms

AllHold-push : (packages : Packages) (earlier : List Terms) (last : Terms) → AllHold packages earlier → Holds packages last → AllHold packages (earlier ++ last ∷ [])
AllHold-push packages [] last each holds zero terms e = subst (Holds packages) (same_Some last terms e) holds
AllHold-push packages [] last each holds (suc i) terms e = absurd (none-some terms e)
AllHold-push packages (x ∷ rest) last each holds zero terms e = each zero terms e
AllHold-push packages (x ∷ rest) last each holds (suc i) terms e = AllHold-push packages rest last (λ j t h. each (suc j) t h) holds i terms e

Holds-Offers : (packages : Packages) (earlier : List Terms) (c : Cause) (terms : Terms) → AllHold packages earlier → CauseStands packages c → Offers earlier c terms → Holds packages terms
Holds-Offers packages earlier (cause.Line n) terms each stands g = each g.0 terms g.2
Holds-Offers packages earlier (cause.Premise premise) terms each stands g = subst (Holds packages) (sym g.2) (Holds-Stands packages premise stands)
Holds-Offers packages earlier (cause.Need i) terms each stands g = absurd g
Holds-Offers packages earlier (cause.NotAllowed p versions) terms each stands g = absurd g
Holds-Offers packages earlier cause.Root terms each stands g = absurd g

Holds-line : (packages : Packages) (earlier : List Terms) (line : Line) → AllHold packages earlier → CauseStands packages line.causes.0 → CauseStands packages line.causes.1
    → IsDerivedBy (Offers earlier) line → Holds packages line.conclusion
Holds-line packages earlier line each first second d =
    Holds-Follows packages line.conclusion d.one d.two line.pivot (Holds-Offers packages earlier line.causes.0 d.one each first d.gives_one) (Holds-Offers packages earlier line.causes.1 d.two each second d.gives_two) d.follows.follows

Holds-last : (packages : Packages) (earlier : List Terms) (lines : List Line) (terms : Terms) → AllHold packages earlier → AreDerivedBy Offers earlier lines → AllStand packages lines
    → last_conclusion lines ≡ Some terms → Holds packages terms
Holds-last packages earlier [] terms each derived stand e = absurd (none-some terms e)
Holds-last packages earlier (line ∷ []) terms each derived stand e = subst (Holds packages) (same_Some line.conclusion terms e) (Holds-line packages earlier line each stand.0 stand.1 derived.0)
Holds-last packages earlier (line ∷ next ∷ rest) terms each derived stand e =
    Holds-last packages (earlier ++ line.conclusion ∷ []) (next ∷ rest) terms
    (AllHold-push packages earlier line.conclusion each (Holds-line packages earlier line each stand.0 stand.1 derived.0)) derived.1 stand.2 e

pub Holds-IsLearnt : (packages : Packages) (lines : List Line) (terms : Terms) → IsLearnt lines → AllStand packages lines → last_conclusion lines ≡ Some terms → Holds packages terms
Holds-IsLearnt packages lines terms l stand e = Holds-last packages [] lines terms (λ i t h. absurd (none-some t h)) l.derived stand e

-- ---- lines that are derived from facts

stands_by : (packages : Packages) (wanted : Wanted) (earlier : List Terms) (c : Cause) (terms : Terms) → Yields packages wanted earlier c terms → CauseStands packages c
stands_by packages wanted earlier (cause.Line n) terms g = tt
stands_by packages wanted earlier (cause.Premise p) terms g = g.0
stands_by packages wanted earlier (cause.Need i) terms g = tt
stands_by packages wanted earlier (cause.NotAllowed p versions) terms g = tt
stands_by packages wanted earlier cause.Root terms g = tt

pub AllStand-derived : (packages : Packages) (wanted : Wanted) (earlier : List Terms) (lines : List Line) → AreDerived packages wanted earlier lines → AllStand packages lines
AllStand-derived packages wanted earlier [] d = tt
AllStand-derived packages wanted earlier (line ∷ rest) d = (
  stands_by packages wanted earlier line.causes.0 d.0.one d.0.gives_one,
  stands_by packages wanted earlier line.causes.1 d.0.two d.0.gives_two,
  AllStand-derived packages wanted (earlier ++ line.conclusion ∷ []) rest d.1,
)
