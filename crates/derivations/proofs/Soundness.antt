-- A derivation leaves no selection that meets the request.
use Rattle.std.proofs.Common.{◌≡◌, ◌≢◌, ◌≤◌, ◌∙◌, ◌⊎◌, inl, inr, ℕ, zero, suc, List, [], ◌∷◌, ◌++◌, refl, sym, ap, subst, arith, true, false, true≢false, rules, nat_eq, nat_lt, if◌then◌else◌}
use Rattle.std.specs.Prelude.{Option, Some, None, Contains, slice_get, IsSome}
use Rattle.std.proofs.lemmas.Bool.{cases_Bool, eq-eqb, eqb-true, ne_eqb, or_cases, and_parts, not-true}
use Rattle.std.proofs.lemmas.Option.{get_or_from_slice_get, same_Some, slice_get_within}
use Rattle.versions.specs.Words.{Text}
use Rattle.terms.specs.Sets.{has}
use Rattle.terms.specs.Incompats.{Follows, joined, true_at}
use Rattle.terms.specs.Terms.{true_of, is_in}
use Rattle.terms.specs.declared.term.Term.{Term}
use Rattle.terms.specs.declared.term.Term.TheVariants.{In, NotIn}
use Rattle.registry.specs.Registry.{Packages, is_named, matching, meets_at, needs_of, number_from, number_of, package_at, publication_at}
use Rattle.registry.specs.Requests.{Wanted, is_allowed}
use Rattle.registry.specs.Selections.{Choices, Meets, with_root}
use Rattle.derivations.specs.Facts.{AllTrue, DependsOn, Holds, Stands, Terms, dependency, need_terms, need_terms_at, premise_terms}
use Rattle.derivations.specs.Derivations.{AreDerived, IsDerivation, IsDerivedBy, IsEnd, IsFact, NoSelection, Yields, last_conclusion}
use Rattle.registry.specs.Laws.{MatchingIsWhatMeets}
use Rattle.derivations.specs.Lines.{Cause, Line, Premise}
use Rattle.derivations.specs.declared.facts.Cause.TheVariants as cause

-- the choices do not make all terms true
abbrev pub Refutes : Choices → Terms → Type 0
Refutes s terms = AllTrue terms (with_root s) → ⊥

-- ---- one step

-- what follows from two incompatibilities that the choices refute is refuted
pub Refutes-Follows : (s : Choices) (c i j : Terms) (pivot : ℕ) → Refutes s i → Refutes s j → Follows c i j pivot → Refutes s c
Refutes-Follows s c i j pivot no_i no_j follows all =
    let r = with_root s in
    let at = λ (p : ℕ). sym (follows p (r p)) ∙ all p in
    let elsewhere : (p : ℕ) → nat_eq p pivot ≡ false → (true_at i p (r p) ≡ true) × (true_at j p (r p) ≡ true) =
    λ p e. and_parts (true_at i p (r p)) (true_at j p (r p)) (ap (λ b. joined b (true_at i p (r p)) (true_at j p (r p))) (sym e) ∙ at p) in
    let here : (true_at i pivot (r pivot) ≡ true) ⊎ (true_at j pivot (r pivot) ≡ true) =
    or_cases (true_at i pivot (r pivot)) (true_at j pivot (r pivot)) (ap (λ b. joined b (true_at i pivot (r pivot)) (true_at j pivot (r pivot))) (sym same) ∙ at pivot) in
    elim here [
      | inl t ↦ no_i (λ p. elim (cases_Bool (nat_eq p pivot)) [
        | inl e ↦ subst (λ q. true_at i q (r q) ≡ true) (sym (eqb-true p pivot e)) t
        | inr e ↦ (elsewhere p e).0
      ])
      | inr t ↦ no_j (λ p. elim (cases_Bool (nat_eq p pivot)) [
        | inl e ↦ subst (λ q. true_at j q (r q) ≡ true) (sym (eqb-true p pivot e)) t
        | inr e ↦ (elsewhere p e).1
      ])
    ]
  where
    same : nat_eq pivot pivot ≡ true
    same = search rules

-- so what follows from two incompatibilities that hold of a registry holds
pub Holds-Follows : (packages : Packages) (c i j : Terms) (pivot : ℕ) → Holds packages i → Holds packages j → Follows c i j pivot → Holds packages c
Holds-Follows packages c i j pivot hold_i hold_j follows s selection closed =
    Refutes-Follows s c i j pivot (hold_i s selection closed) (hold_j s selection closed) follows

-- ---- facts

never : {P : Type 0} → false ≡ true → P
never e = absurd (true≢false (sym e))

-- two terms in order of packages
abbrev two_terms : ℕ → Term → ℕ → Term → Terms
two_terms p t q u = if nat_lt p q then (p, t) ∷ (q, u) ∷ [] else (q, u) ∷ (p, t) ∷ []

-- without a version within, a dependency has the one term
pub dependency-nil : (p : ℕ) (versions : List ℕ) (q : ℕ) → dependency p versions q [] ≡ (p, In versions) ∷ []
dependency-nil p versions q = elim (cases_Bool (nat_lt p q)) [ inl e ↦ rw e refl | inr e ↦ rw e refl ]

pub dependency-cons : (p : ℕ) (versions : List ℕ) (q k : ℕ) (rest : List ℕ) → dependency p versions q (k ∷ rest) ≡ two_terms p (In versions) q (NotIn (k ∷ rest))
dependency-cons p versions q k rest = elim (cases_Bool (nat_lt p q)) [ inl e ↦ rw e refl | inr e ↦ rw e refl ]

-- what two terms on different packages say
two_terms-one : (p q : ℕ) (t u : Term) (choice : Option ℕ) → p ≢ q → true_at (two_terms p t q u) p choice ≡ true_of t choice
two_terms-one p q t u choice apart =
    let other : nat_eq q p ≡ false = ne_eqb q p (λ e. apart (sym e)) in
    elim (cases_Bool (nat_lt p q)) [ inl e ↦ rw (e, eq-eqb p p refl) refl | inr e ↦ rw (e, other, eq-eqb p p refl) refl ]

two_terms-two : (p q : ℕ) (t u : Term) (choice : Option ℕ) → p ≢ q → true_at (two_terms p t q u) q choice ≡ true_of u choice
two_terms-two p q t u choice apart =
    let other : nat_eq p q ≡ false = ne_eqb p q apart in
    elim (cases_Bool (nat_lt p q)) [ inl e ↦ rw (e, other, eq-eqb q q refl) refl | inr e ↦ rw (e, eq-eqb q q refl) refl ]

is_in-some : (set : List ℕ) (choice : Option ℕ) → is_in set choice ≡ true → (k : ℕ) × (choice ≡ Some k) × (has set k ≡ true)
is_in-some set None h = never h
is_in-some set (Some k) h = (k, refl, h)

-- where a dependency's terms are all true, a version of the set is chosen, and no version that is `within`
dependency-all : (s : Choices) (p : ℕ) (versions : List ℕ) (q : ℕ) (within : List ℕ) → p ≢ q → AllTrue (dependency p versions q within) s
    → (is_in versions (s p) ≡ true) × (is_in within (s q) ≡ false)
dependency-all s p versions q [] apart all =
    let one : true_at ((p, In versions) ∷ []) p (s p) ≡ is_in versions (s p) = rw (eq-eqb p p refl) refl in
    let alone : AllTrue ((p, In versions) ∷ []) s = subst (λ t. AllTrue t s) (dependency-nil p versions q) all in
    (sym one ∙ alone p, elim (s q) as (λ c. is_in [] c ≡ false) [ None ↦ refl | Some k ↦ refl ])
dependency-all s p versions q (k ∷ rest) apart all =
    let both : AllTrue (two_terms p (In versions) q (NotIn (k ∷ rest))) s = subst (λ t. AllTrue t s) (dependency-cons p versions q k rest) all in (
      sym (two_terms-one p q (In versions) (NotIn (k ∷ rest)) (s p) apart) ∙ both p,
      not-true (is_in (k ∷ rest) (s q)) (sym (two_terms-two p q (In versions) (NotIn (k ∷ rest)) (s q) apart) ∙ both q),
    )

-- packages are numbered from 1
number_from-above : (n : ℕ) (packages : Packages) (name : Text) (q : ℕ) → number_from n packages name ≡ Some q → n ≤ q
number_from-above n [] name q e = absurd (cc e)
number_from-above n (p ∷ rest) name q e = elim (cases_Bool (is_named name p)) [
  | inl t ↦ let same : n ≡ q = same_Some n q (rw t at e) in omega (arith, same)
  | inr f ↦ let more = number_from-above (suc n) rest name q (rw f at e) in omega (arith, more)
]

pub number_of-positive : (packages : Packages) (name : Text) (q : ℕ) → number_of packages name ≡ Some q → 1 ≤ q
unfolding number_of
number_of-positive packages name q e = number_from-above 1 packages name q e

-- the root's choice is added to the others
with_root-other : (s : Choices) (p : ℕ) → 1 ≤ p → with_root s p ≡ s p
with_root-other s zero h = absurd (omega arith)
with_root-other s (suc n) h = refl

-- a premise that stands on packages from 1 on holds of the registry
Holds-numbered : (packages : Packages) (premise : Premise) → 1 ≤ premise.package → 1 ≤ premise.target → Stands packages premise → Holds packages (premise_terms premise)
Holds-numbered packages premise from_p from_q stands s selection closed all =
    let d = dependency-all (with_root s) premise.package premise.versions premise.target premise.within stands.depends.different all in
    let chosen = is_in-some premise.versions (s premise.package) (subst (λ c. is_in premise.versions c ≡ true) (with_root-other s premise.package from_p) d.0) in
    let depends = stands.depends.each chosen.0 chosen.2 in
    let met = closed premise.package chosen.0 depends.0 premise.need chosen.1 depends.2 in
    let same : met.target ≡ premise.target = same_Some met.target premise.target (sym met.numbered ∙ depends.1) in
    let meeting : meets_at packages premise.target met.ordinal premise.need ≡ true = subst (λ t. meets_at packages t met.ordinal premise.need ≡ true) same met.meeting in
    let inside : has premise.within met.ordinal ≡ true = stands.covers met.ordinal meeting in
    let target : s premise.target ≡ Some met.ordinal = subst (λ t. s t ≡ Some met.ordinal) same met.selected in
    let outside : is_in premise.within (Some met.ordinal) ≡ false = subst (λ c. is_in premise.within c ≡ false) (with_root-other s premise.target from_q ∙ target) d.1 in
    true≢false (sym inside ∙ outside)

-- dependencies are of packages from 1 on
no_needs : (packages : Packages) (p k : ℕ) (d : Text × Text) → Contains (needs_of packages p k) d → 1 ≤ p
unfolding publication_at package_at
no_needs packages zero k d h = absurd (omega (arith, h.1))
no_needs packages (suc n) k d h = omega arith

-- a premise that stands is on packages from 1 on
Stands-positive : (packages : Packages) (premise : Premise) → Stands packages premise → (1 ≤ premise.package) × (1 ≤ premise.target)
Stands-positive packages premise stands = by premise.versions stands.depends.some stands.depends.each
  where
    by : (versions : List ℕ) → versions ≢ [] → ((k : ℕ) → has versions k ≡ true → DependsOn packages premise.package k premise.target premise.need) → (1 ≤ premise.package) × (1 ≤ premise.target)
    by [] some each = absurd (some refl)
    by (k ∷ rest) some each =
        let first : has (k ∷ rest) k ≡ true = rw (eq-eqb k k refl) refl in
        let depends = each k first in
        (no_needs packages premise.package k (depends.0, premise.need) depends.2, number_of-positive packages depends.0 premise.target depends.1)

-- a premise that stands holds of the registry
pub Holds-Stands : (packages : Packages) (premise : Premise) → Stands packages premise → Holds packages (premise_terms premise)
Holds-Stands packages premise stands =
    let places = Stands-positive packages premise stands in
    Holds-numbered packages premise places.0 places.1 stands

-- what a need of the request says is refuted by a selection that meets it
Refutes-need : MatchingIsWhatMeets → (packages : Packages) (wanted : Wanted) (s : Choices) → Meets packages wanted s → (name need : Text) → Contains wanted.needs (name, need) → Refutes s (need_terms packages name need)
Refutes-need matched packages wanted s m name need asked all =
    let met = m.needs name need asked in
    let apart : 0 ≢ met.target = λ e. omega (arith, number_of-positive packages name met.target met.numbered, e) in
    let terms : AllTrue (dependency 0 (0 ∷ []) met.target (matching packages met.target need)) (with_root s) =
    subst (λ o. AllTrue (need_terms_at packages o need) (with_root s)) met.numbered all in
    let d = dependency-all (with_root s) 0 (0 ∷ []) met.target (matching packages met.target need) apart terms in
    let inside : has (matching packages met.target need) met.ordinal ≡ true = matched packages met.target need met.ordinal ∙ met.meeting in
    let outside : is_in (matching packages met.target need) (Some met.ordinal) ≡ false =
    subst (λ c. is_in (matching packages met.target need) c ≡ false) (with_root-other s met.target (number_of-positive packages name met.target met.numbered) ∙ met.selected) d.1 in
    true≢false (sym inside ∙ outside)

Contains-from_get : {A : Type 0} (xs : List A) (i : ℕ) (x : A) → slice_get xs i ≡ Some x → Contains xs x
Contains-from_get xs i x e = (i, slice_get_within xs i x e, get_or_from_slice_get xs i x x e)

package-positive : (packages : Packages) (p : ℕ) → IsSome (package_at packages p) → 1 ≤ p
unfolding package_at
package-positive packages zero h = never h
package-positive packages (suc n) h = omega arith

Refutes-NotAllowed : (packages : Packages) (wanted : Wanted) (s : Choices) → Meets packages wanted s → (p : ℕ) (versions : List ℕ) → 1 ≤ p
    → ((k : ℕ) → has versions k ≡ true → is_allowed packages wanted p k ≡ false) → Refutes s ((p, In versions) ∷ [])
Refutes-NotAllowed packages wanted s m p versions from_p barred all =
    let one : is_in versions (with_root s p) ≡ true = rw (eq-eqb p p refl) at (all p) in
    let chosen = is_in-some versions (s p) (subst (λ c. is_in versions c ≡ true) (with_root-other s p from_p) one) in
    true≢false (sym (m.allowed p chosen.0 chosen.1) ∙ barred chosen.0 chosen.2)

Refutes-Root : (s : Choices) → Refutes s ((0, NotIn (0 ∷ [])) ∷ [])
Refutes-Root s all = true≢false (sym (all 0))

-- a fact is refuted by each selection that meets the request
pub Refutes-fact : MatchingIsWhatMeets → (packages : Packages) (wanted : Wanted) (s : Choices) → Meets packages wanted s → (c : Cause) (terms : Terms) → IsFact packages wanted c terms → Refutes s terms
Refutes-fact matched packages wanted s m (cause.Line n) terms f = absurd f
Refutes-fact matched packages wanted s m (cause.Premise premise) terms f =
    subst (Refutes s) (sym f.1) (Holds-Stands packages premise f.0 s m.selection m.closed)
Refutes-fact matched packages wanted s m (cause.Need i) terms f =
    subst (Refutes s) (sym f.2) (Refutes-need matched packages wanted s m f.0.0 f.0.1 (Contains-from_get wanted.needs i f.0 f.1))
Refutes-fact matched packages wanted s m (cause.NotAllowed p versions) terms f =
    subst (Refutes s) (sym f.2) (Refutes-NotAllowed packages wanted s m p versions (package-positive packages p f.0) f.1)
Refutes-fact matched packages wanted s m cause.Root terms f = subst (Refutes s) (sym f) (Refutes-Root s)

-- ---- lines

-- each of the conclusions is refuted
abbrev pub AllRefuted : Choices → List Terms → Type 0
AllRefuted s earlier = (i : ℕ) (terms : Terms) → slice_get earlier i ≡ Some terms → Refutes s terms

AllRefuted-push : (s : Choices) (earlier : List Terms) (last : Terms) → AllRefuted s earlier → Refutes s last → AllRefuted s (earlier ++ last ∷ [])
AllRefuted-push s [] last each refuted zero terms e = subst (Refutes s) (same_Some last terms e) refuted
AllRefuted-push s [] last each refuted (suc i) terms e = absurd (cc e)
AllRefuted-push s (x ∷ rest) last each refuted zero terms e = each zero terms e
AllRefuted-push s (x ∷ rest) last each refuted (suc i) terms e = AllRefuted-push s rest last (λ j t h. each (suc j) t h) refuted i terms e

module _ (matched : MatchingIsWhatMeets) (packages : Packages) (wanted : Wanted) (s : Choices) (m : Meets packages wanted s) where
  Refutes-Yields : (earlier : List Terms) (c : Cause) (terms : Terms) → AllRefuted s earlier → Yields packages wanted earlier c terms → Refutes s terms
  Refutes-Yields earlier (cause.Line n) terms each g = each g.0 terms g.2
  Refutes-Yields earlier (cause.Premise p) terms each g = Refutes-fact matched packages wanted s m (cause.Premise p) terms g
  Refutes-Yields earlier (cause.Need i) terms each g = Refutes-fact matched packages wanted s m (cause.Need i) terms g
  Refutes-Yields earlier (cause.NotAllowed p versions) terms each g = Refutes-fact matched packages wanted s m (cause.NotAllowed p versions) terms g
  Refutes-Yields earlier cause.Root terms each g = Refutes-fact matched packages wanted s m cause.Root terms g

  Refutes-line : (earlier : List Terms) (line : Line) → AllRefuted s earlier → IsDerivedBy (Yields packages wanted earlier) line → Refutes s line.conclusion
  Refutes-line earlier line each d =
      Refutes-Follows s line.conclusion d.one d.two line.pivot (Refutes-Yields earlier line.causes.0 d.one each d.gives_one) (Refutes-Yields earlier line.causes.1 d.two each d.gives_two) d.follows.follows

  Refutes-last : (earlier : List Terms) (lines : List Line) (conclusion : Terms) → AllRefuted s earlier → AreDerived packages wanted earlier lines
      → last_conclusion lines ≡ Some conclusion → Refutes s conclusion
  Refutes-last earlier [] conclusion each derived e = absurd (cc e)
  Refutes-last earlier (line ∷ []) conclusion each derived e = subst (Refutes s) (same_Some line.conclusion conclusion e) (Refutes-line earlier line each derived.0)
  Refutes-last earlier (line ∷ next ∷ rest) conclusion each derived e =
      Refutes-last (earlier ++ line.conclusion ∷ []) (next ∷ rest) conclusion (AllRefuted-push s earlier line.conclusion each (Refutes-line earlier line each derived.0)) derived.1 e

-- the choices with the root's make the terms of an end true
AllTrue-end : (s : Choices) (terms : Terms) → IsEnd terms → AllTrue terms (with_root s)
AllTrue-end s terms (inl e) = rw e (λ p. refl)
AllTrue-end s terms (inr e) = rw e (λ p. by p)
  where
    by : (p : ℕ) → true_at ((0, In (0 ∷ [])) ∷ []) p (with_root s p) ≡ true
    by zero = refl
    by (suc n) = let other : nat_eq 0 (suc n) ≡ false = search rules in rw other refl

-- where there is a derivation, no selection meets the request
pub NoSelection-IsDerivation : MatchingIsWhatMeets → (packages : Packages) (wanted : Wanted) (lines : List Line) → IsDerivation packages wanted lines → NoSelection packages wanted
NoSelection-IsDerivation matched packages wanted lines d s m =
    Refutes-last matched packages wanted s m [] lines d.conclusion (λ i terms e. absurd (cc e)) d.derived d.last (AllTrue-end s d.conclusion d.ended)
