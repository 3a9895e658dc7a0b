use Rattle.std.proofs.Common.{◌≡◌, ◌∙◌, inl, inr, ℕ, List, [], ◌∷◌, ◌++◌, ap, sym, subst}
use Rattle.std.proofs.lemmas.Option.{none-some, same_Some}
use Rattle.std.specs.Prelude.{Some, slice_get}
use Rattle.registry.specs.Registry.{Packages}
use Rattle.registry.specs.Requests.{Wanted}
use Rattle.derivations.specs.Derivations.{AreDerivedBy, IsDerivedBy, last_conclusion}
use Rattle.derivations.specs.Facts.{Terms}
use Rattle.derivations.specs.Learning.{AllStand, CauseStands, IsLearnt, Offers}
use Rattle.derivations.specs.Lines.{Cause, Line}
use Rattle.derivations.specs.declared.facts.Cause.TheVariants as cause
use Rattle.checker.specs.Shown.{IsShown, fact, resolved}
use Rattle.checker.specs.Tables.{AreOnce, without_always}
use Rattle.checker.proofs.Joining.{once-ordered, without_always-ordered}
use Rattle.checker.proofs.Lists.{get-cases}
use Rattle.checker.proofs.chain.Chain.conclude_member.Goals as goal

-- each of the conclusions is shown
abbrev AreEach : Packages → Wanted → List Terms → Type 0
AreEach packages wanted earlier = (i : ℕ) (terms : Terms) → slice_get earlier i ≡ Some terms → IsShown packages wanted terms

module _ (packages : Packages) (wanted : Wanted) where
  offered-shown : (earlier : List Terms) (c : Cause) (terms : Terms) → AreEach packages wanted earlier → Offers earlier c terms → CauseStands packages c → IsShown packages wanted terms
  offered-shown earlier (cause.Line n) terms each offers stands = each offers.0 terms offers.2
  offered-shown earlier (cause.Premise premise) terms each offers stands = fact (cause.Premise premise) terms (stands, offers.2)
  offered-shown earlier (cause.Need i) terms each offers stands = absurd offers
  offered-shown earlier (cause.NotAllowed p versions) terms each offers stands = absurd offers
  offered-shown earlier cause.Root terms each offers stands = absurd offers

  each-more : (earlier : List Terms) (one : Terms) → AreEach packages wanted earlier → IsShown packages wanted one → AreEach packages wanted (earlier ++ one ∷ [])
  each-more earlier one each shown i terms at = elim (get-cases earlier one i terms at) [ inl e ↦ each i terms e | inr e ↦ subst (IsShown packages wanted) e.1 shown ]

  line-shown : (earlier : List Terms) (line : Line) → AreEach packages wanted earlier → IsDerivedBy (Offers earlier) line → CauseStands packages line.causes.0 → CauseStands packages line.causes.1 → IsShown packages wanted line.conclusion
  line-shown earlier line each is first second =
      resolved line.conclusion is.one is.two line.pivot (offered-shown earlier line.causes.0 is.one each is.gives_one first) (offered-shown earlier line.causes.1 is.two each is.gives_two second) is.follows.on_pivot is.follows.follows

  last-shown : (earlier : List Terms) (lines : List Line) (terms : Terms) → AreEach packages wanted earlier → AreDerivedBy Offers earlier lines → AllStand packages lines → last_conclusion lines ≡ Some terms → IsShown packages wanted terms
  last-shown earlier [] terms each derived stand last = absurd (none-some terms last)
  last-shown earlier (line ∷ []) terms each derived stand last = subst (IsShown packages wanted) (same_Some line.conclusion terms last) (line-shown earlier line each derived.0 stand.0 stand.1)
  last-shown earlier (line ∷ next ∷ rest) terms each derived stand last =
      last-shown (earlier ++ line.conclusion ∷ []) (next ∷ rest) terms (each-more earlier line.conclusion each (line-shown earlier line each derived.0 stand.0 stand.1)) derived.1 stand.2 last

  IsShown-learnt : (lines : List Line) (terms : Terms) → IsLearnt lines → AllStand packages lines → last_conclusion lines ≡ Some terms → IsShown packages wanted terms
  IsShown-learnt lines terms learnt stand last = last-shown [] lines terms (λ i t at. absurd (none-some t at)) learnt.derived stand last

pub start-requires : goal.start-requires
start-requires c = subst (λ (terms : Terms). AreOnce terms) (sym c.terms.ensures.same) (once-ordered 0 c.conclusion-said.result.now c.terms.ensures.lawful)

pub returns-clause-same : goal.returns-clause-same
returns-clause-same c =
    let said = c.conclusion-said.result.now in
    let concluded = c.in_ok-conclusion.ensures.concludes.exact ∙ ap without_always (c.in_ok-start.ensures ∙ c.terms.ensures.same) ∙ without_always-ordered 0 said c.terms.ensures.lawful in
    c.conclusion-said.ensures ∙ ap Some (sym concluded)

pub returns-clause-shown : goal.returns-clause-shown
returns-clause-shown c packages wanted stand =
    let said = IsShown-learnt packages wanted c.args.member.now c.conclusion-said.result.now c.lines-lines.ensures.lawful stand c.conclusion-said.ensures in
    c.in_ok-conclusion.ensures.shown packages wanted (subst (IsShown packages wanted) (sym (c.in_ok-start.ensures ∙ c.terms.ensures.same)) said)
