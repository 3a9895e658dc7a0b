-- Every package of a derivation has a name.
use Rattle.std.proofs.Common.{◌≡◌, ◌∙◌, ◌⊎◌, inl, inr, ℕ, zero, suc, ◌+◌, List, [], ◌∷◌, ◌++◌, refl, sym, subst, arith, rules, Bool, true, false, true≢false, nat_eq, nat_lt}
use Rattle.std.specs.Prelude.{Option, Some, None, IsSome, Contains, slice_get}
use Rattle.std.specs.Option.{option_and_then}
use Rattle.std.proofs.lemmas.Bool.{cases_Bool, eqb-true, or_cases}
use Rattle.versions.specs.Words.{Text}
use Rattle.terms.specs.Sets.{has}
use Rattle.terms.specs.Incompats.{Follows, IsIncompat, OrderedFrom, has_term, joined, pair_of, true_at, unless_always}
use Rattle.terms.specs.declared.term.Term.{Term}
use Rattle.terms.specs.declared.term.Term.TheVariants.{In, NotIn}
use Rattle.registry.specs.Registry.{Package, Packages, is_named, matching, needs_or_none, number_from, number_of, package_at, publication_at}
use Rattle.registry.specs.Requests.{Wanted}
use Rattle.derivations.specs.Facts.{DependsOn, Stands, Terms, need_terms_at}
use Rattle.derivations.specs.Derivations.{AreDerivedBy, AreIncompats, IsDerivation, IsFact, Yields}
use Rattle.derivations.specs.Learning.{AllStand, CauseStands, IsLearnt, Offers}
use Rattle.derivations.specs.Lines.{Cause, Line, Premise}
use Rattle.derivations.specs.declared.facts.Cause.TheVariants as cause
use Rattle.by_name.specs.Named.{AllHaveNames, CauseHasNames, HasName, HaveNames}

-- each package on which there is a term has a name
abbrev pub Named : Packages → Terms → Type 0
Named packages terms = (p : ℕ) → has_term terms p ≡ true → HasName packages p

-- ---- terms

itself : (x : ℕ) → nat_eq x x ≡ true
itself x = search rules

-- a package that the rest has a term on
has_term-later : (t : ℕ × Term) (rest : Terms) (p : ℕ) → has_term rest p ≡ true → has_term (t ∷ rest) p ≡ true
has_term-later t rest p there = elim (cases_Bool (nat_eq t.0 p)) [ inl e ↦ rw e refl | inr e ↦ rw e there ]

has_term-first : (t : ℕ × Term) (rest : Terms) → has_term (t ∷ rest) t.0 ≡ true
has_term-first t rest = rw (itself t.0) refl

pub have_names : (packages : Packages) (terms : Terms) → Named packages terms → HaveNames packages terms
have_names packages [] named = tt
have_names packages (t ∷ rest) named =
    (named t.0 (has_term-first t rest), have_names packages rest (λ p there. named p (has_term-later t rest p there)))

-- a term of an incompatibility is false of some choice
false_somewhere : (low : ℕ) (terms : Terms) (p : ℕ) → OrderedFrom low terms → has_term terms p ≡ true → (choice : Option ℕ) × (true_at terms p choice ≡ false)
false_somewhere low [] p lawful there = absurd (true≢false (sym there))
false_somewhere low (t ∷ rest) p lawful there = elim (cases_Bool (nat_eq t.0 p)) [
  | inl e ↦ (lawful.1.0, rw e lawful.1.1)
  | inr e ↦
      let later = false_somewhere (suc t.0) rest p lawful.2 (rw e at there) in
      (later.0, rw e later.1)
]

-- where there is no term, every choice is good
true_without : (terms : Terms) (p : ℕ) (choice : Option ℕ) → has_term terms p ≡ false → true_at terms p choice ≡ true
true_without [] p choice none = refl
true_without (t ∷ rest) p choice none = elim (cases_Bool (nat_eq t.0 p)) [
  | inl e ↦ absurd (true≢false (rw e at none))
  | inr e ↦ rw e (true_without rest p choice (rw e at none))
]

joined-true : (b : Bool) → joined b true true ≡ true
joined-true true = refl
joined-true false = refl

-- what follows names no package that neither cause names
term_from : (c i j : Terms) (pivot p : ℕ) (choice : Option ℕ) → Follows c i j pivot → true_at c p choice ≡ false → (has_term i p ≡ true) ⊎ (has_term j p ≡ true)
term_from c i j pivot p choice follows wrong = elim (cases_Bool (has_term i p)) [
  | inl one ↦ inl one
  | inr none ↦ elim (cases_Bool (has_term j p)) [
    | inl two ↦ inr two
    | inr neither ↦
        let good : true_at c p choice ≡ true =
        follows p choice ∙ rw (true_without i p choice none, true_without j p choice neither) (joined-true (nat_eq p pivot)) in
        absurd (true≢false (sym good ∙ wrong))
  ]
]

named_from : (packages : Packages) (c i j : Terms) (pivot : ℕ) → IsIncompat c → Follows c i j pivot → Named packages i → Named packages j → Named packages c
named_from packages c i j pivot lawful follows one two = λ p there.
    let wrong = false_somewhere 0 c p lawful there in
    elim (term_from c i j pivot p wrong.0 follows wrong.1) [ inl e ↦ one p e | inr e ↦ two p e ]

-- ---- facts

has_term-append : (a b : Terms) (p : ℕ) → has_term (a ++ b) p ≡ true → (has_term a p ≡ true) ⊎ (has_term b p ≡ true)
has_term-append [] b p there = inr there
has_term-append (t ∷ a) b p there = elim (cases_Bool (nat_eq t.0 p)) [
  | inl e ↦ inl (rw e refl)
  | inr e ↦ elim (has_term-append a b p (rw e at there)) [ inl one ↦ inl (rw e one) | inr two ↦ inr two ]
]

alone : (q : ℕ) (term : Term) (p : ℕ) → has_term ((q, term) ∷ []) p ≡ true → q ≡ p
alone q term p there = elim (cases_Bool (nat_eq q p)) [
  | inl e ↦ eqb-true q p e
  | inr e ↦ absurd (true≢false (sym (rw e at there)))
]

unless_alone : (q : ℕ) (term : Term) (p : ℕ) → has_term (unless_always q term) p ≡ true → q ≡ p
unless_alone q (In set) p there = alone q (In set) p there
unless_alone q (NotIn []) p there = absurd (true≢false (sym there))
unless_alone q (NotIn (k ∷ rest)) p there = alone q (NotIn (k ∷ rest)) p there

-- of two terms each is on one of the two packages
one_of_pair : (q : ℕ) (term : Term) (r : ℕ) (other : Term) (p : ℕ) → has_term (pair_of q term r other) p ≡ true → (q ≡ p) ⊎ (r ≡ p)
one_of_pair q term r other p there = elim (cases_Bool (nat_lt q r)) [
  | inl e ↦ elim (has_term-append (unless_always q term) (unless_always r other) p (rw e at there)) [
    | inl one ↦ inl (unless_alone q term p one)
    | inr two ↦ inr (unless_alone r other p two)
  ]
  | inr e ↦ elim (has_term-append (unless_always r other) (unless_always q term) p (rw e at there)) [
    | inl two ↦ inr (unless_alone r other p two)
    | inr one ↦ inl (unless_alone q term p one)
  ]
]

named_pair : (packages : Packages) (q : ℕ) (term : Term) (r : ℕ) (other : Term) → HasName packages q → HasName packages r → Named packages (pair_of q term r other)
named_pair packages q term r other one two = λ p there. elim (one_of_pair q term r other p there) [
  | inl e ↦ subst (λ n. HasName packages n) e one
  | inr e ↦ subst (λ n. HasName packages n) e two
]

named_alone : (packages : Packages) (q : ℕ) (term : Term) → HasName packages q → Named packages ((q, term) ∷ [])
named_alone packages q term one = λ p there. subst (λ n. HasName packages n) (alone q term p there) one

-- the number of a name is that of a package
number_from-there : (n : ℕ) (packages : Packages) (name : Text) (q : ℕ) → number_from n packages name ≡ Some q → (i : ℕ) × (q ≡ n + i) × IsSome (slice_get packages i)
number_from-there n [] name q e = absurd (cc)
number_from-there n (p ∷ rest) name q e = elim (cases_Bool (is_named name p)) [
  | inl t ↦ let same : Some n ≡ Some q = rw t at e in let is : n ≡ q = cc in (0, omega (arith, is), refl)
  | inr f ↦
      let later = number_from-there (suc n) rest name q (rw f at e) in
      (suc later.0, omega (arith, later.1), later.2)
]

numbered_package : (packages : Packages) (name : Text) (q : ℕ) → number_of packages name ≡ Some q → IsSome (package_at packages q)
unfolding number_of package_at
numbered_package packages name q e =
    let there = number_from-there 1 packages name q e in
    let is : suc there.0 ≡ q = omega (arith, there.1) in
    subst (λ n. IsSome (package_at packages n)) is there.2

-- what a version depends on, its package publishes
depending_package : (packages : Packages) (p k target : ℕ) (need : Text) → DependsOn packages p k target need → IsSome (package_at packages p)
unfolding publication_at
depending_package packages p k target need depends = by (package_at packages p) depends.2
  where
    by : (o : Option Package) → Contains (needs_or_none (option_and_then (λ (pack : Package). slice_get pack.versions k) o)) (depends.0, need) → IsSome o
    by None among = absurd (omega (arith, among.1))
    by (Some pack) among = refl

-- the packages of a premise that stands
premise_packages : (packages : Packages) (premise : Premise) → Stands packages premise → IsSome (package_at packages premise.package) × IsSome (package_at packages premise.target)
premise_packages packages premise stands = by premise.versions refl
  where
    by : (versions : List ℕ) → versions ≡ premise.versions → IsSome (package_at packages premise.package) × IsSome (package_at packages premise.target)
    by [] none = absurd (stands.depends.some (sym none))
    by (k ∷ rest) is =
        let first : has (k ∷ rest) k ≡ true = rw (itself k) refl in
        let depends = stands.depends.each k (subst (λ (set : List ℕ). has set k ≡ true) is first) in
        (depending_package packages premise.package k premise.target premise.need depends, numbered_package packages depends.0 premise.target depends.1)

-- what a true fact says names only packages with names, and so does the cause
named_fact : (packages : Packages) (wanted : Wanted) (c : Cause) (terms : Terms) → IsFact packages wanted c terms → Named packages terms × CauseHasNames packages c
named_fact packages wanted (cause.Line n) terms fact = absurd fact
named_fact packages wanted (cause.Premise premise) terms fact =
    let there = premise_packages packages premise fact.0 in
    (subst (λ (t : Terms). Named packages t) (sym fact.1) (named_pair packages premise.package (In premise.versions) premise.target (NotIn premise.within) (inr there.0) (inr there.1)), (there.0, inr there.1))
named_fact packages wanted (cause.Need i) terms fact = (subst (λ (t : Terms). Named packages t) (sym fact.2) (by (number_of packages fact.0.0) refl), tt)
  where
    by : (o : Option ℕ) → number_of packages fact.0.0 ≡ o → Named packages (need_terms_at packages o fact.0.1)
    by None e = named_alone packages 0 (In (0 ∷ [])) (inl refl)
    by (Some q) e = named_pair packages 0 (In (0 ∷ [])) q (NotIn (matching packages q fact.0.1)) (inl refl) (inr (numbered_package packages fact.0.0 q e))
named_fact packages wanted (cause.NotAllowed p versions) terms fact =
    (subst (λ (t : Terms). Named packages t) (sym fact.2) (named_alone packages p (In versions) (inr fact.0)), fact.0)
named_fact packages wanted cause.Root terms fact = (subst (λ (t : Terms). Named packages t) (sym fact) (named_alone packages 0 (NotIn (0 ∷ [])) (inl refl)), tt)

-- ---- lines

-- each of these conclusions names only packages with names
abbrev AllNamed : Packages → List Terms → Type 0
AllNamed packages earlier = (i : ℕ) (terms : Terms) → slice_get earlier i ≡ Some terms → Named packages terms

named_given : (packages : Packages) (wanted : Wanted) (earlier : List Terms) (c : Cause) (terms : Terms) → AllNamed packages earlier → Yields packages wanted earlier c terms
    → Named packages terms × CauseHasNames packages c
named_given packages wanted earlier (cause.Line n) terms all given = (all given.0 terms given.2, tt)
named_given packages wanted earlier (cause.Premise premise) terms all given = named_fact packages wanted (cause.Premise premise) terms given
named_given packages wanted earlier (cause.Need i) terms all given = named_fact packages wanted (cause.Need i) terms given
named_given packages wanted earlier (cause.NotAllowed p versions) terms all given = named_fact packages wanted (cause.NotAllowed p versions) terms given
named_given packages wanted earlier cause.Root terms all given = named_fact packages wanted cause.Root terms given

-- one conclusion more
all_more : (packages : Packages) (earlier : List Terms) (terms : Terms) → AllNamed packages earlier → Named packages terms → AllNamed packages (earlier ++ terms ∷ [])
all_more packages [] terms all one zero found at = let same : terms ≡ found = cc in subst (λ (t : Terms). Named packages t) same one
all_more packages [] terms all one (suc i) found at = absurd (cc)
all_more packages (x ∷ earlier) terms all one zero found at = all 0 found at
all_more packages (x ∷ earlier) terms all one (suc i) found at = all_more packages earlier terms (λ k t e. all (suc k) t e) one i found at

lines_named : (packages : Packages) (wanted : Wanted) (earlier : List Terms) (lines : List Line) → AllNamed packages earlier → AreIncompats lines
    → AreDerivedBy (Yields packages wanted) earlier lines → AllHaveNames packages lines
lines_named packages wanted earlier [] all lawful derived = tt
lines_named packages wanted earlier (line ∷ rest) all lawful derived =
    let own = derived.0 in
    let one = named_given packages wanted earlier line.causes.0 own.one all own.gives_one in
    let two = named_given packages wanted earlier line.causes.1 own.two all own.gives_two in
    let conclusion = named_from packages line.conclusion own.one own.two line.pivot lawful.0 own.follows.follows one.0 two.0 in
    let pivot : HasName packages line.pivot = elim (or_cases (has_term own.one line.pivot) (has_term own.two line.pivot) own.follows.on_pivot) [
      | inl e ↦ one.0 line.pivot e
      | inr e ↦ two.0 line.pivot e
    ] in (
      record { conclusion = have_names packages line.conclusion conclusion; one = one.1; two = two.1; pivot = pivot },
      lines_named packages wanted (earlier ++ line.conclusion ∷ []) rest (all_more packages earlier line.conclusion all conclusion) lawful.1 derived.1,
    )

pub derived_names : (packages : Packages) (wanted : Wanted) (lines : List Line) → AreIncompats lines → IsDerivation packages wanted lines → AllHaveNames packages lines
derived_names packages wanted lines lawful derivation = lines_named packages wanted [] lines (λ i terms at. absurd (cc)) lawful derivation.derived

-- ---- what was learnt

-- what a cause offers of every registry is a fact of one in which it stands
offered_yields : (packages : Packages) (wanted : Wanted) (earlier : List Terms) (c : Cause) (terms : Terms) → Offers earlier c terms → CauseStands packages c → Yields packages wanted earlier c terms
offered_yields packages wanted earlier (cause.Line n) terms offered stands = offered
offered_yields packages wanted earlier (cause.Premise premise) terms offered stands = (stands, offered.2)
offered_yields packages wanted earlier (cause.Need i) terms offered stands = absurd offered
offered_yields packages wanted earlier (cause.NotAllowed p versions) terms offered stands = absurd offered
offered_yields packages wanted earlier cause.Root terms offered stands = absurd offered

learnt_yields : (packages : Packages) (wanted : Wanted) (earlier : List Terms) (lines : List Line) → AreDerivedBy Offers earlier lines → AllStand packages lines
    → AreDerivedBy (Yields packages wanted) earlier lines
learnt_yields packages wanted earlier [] derived stand = tt
learnt_yields packages wanted earlier (line ∷ rest) derived stand =
    let own = derived.0 in (
      record {
        one = own.one;
        two = own.two;
        gives_one = offered_yields packages wanted earlier line.causes.0 own.one own.gives_one stand.0;
        gives_two = offered_yields packages wanted earlier line.causes.1 own.two own.gives_two stand.1;
        follows = own.follows;
      },
      learnt_yields packages wanted (earlier ++ line.conclusion ∷ []) rest derived.1 stand.2,
    )

nothing_wanted : Wanted
nothing_wanted = record { needs = []; lock = [] }

pub learnt_names : (packages : Packages) (lines : List Line) → AreIncompats lines → IsLearnt lines → AllStand packages lines → AllHaveNames packages lines
learnt_names packages lines lawful learnt stand =
    lines_named packages nothing_wanted [] lines (λ i terms at. absurd (cc)) lawful (learnt_yields packages nothing_wanted [] lines learnt.derived stand)
