-- Worked rows of resolve lines, computed from the definitions.
use Rattle.std.proofs.Common.{◌≡◌, ◌<◌, ◌∙◌, ◌||◌, ℕ, zero, suc, length, get_or, Bool, refl, sym, ap, subst, inl, inr, codes, List, [], ◌∷◌, arith, true, false, not, nat_eq}
use Rattle.std.proofs.lemmas.Bool.{cases_Bool, eqb-true}
use Rattle.std.proofs.lemmas.Option.{none-some, same_Some}
use Rattle.std.specs.List.{AllByRecursion, IsDistinct}
use Rattle.std.specs.Prelude.{Option, None, Some, Ok, Contains, slice_get, take}
use Rattle.versions.specs.OnLiterals.{semver_on_literals}
use Rattle.versions.specs.Words.{Text, meets, parts_of_text, precedence, same_precedence}
use Rattle.versions.specs.declared.refusal.Refusal.TheVariants.{BudgetSpent}
use Rattle.registry.specs.Registry.{Packages, Publication, needs_of, number_of, package_at, publication_at}
use Rattle.registry.specs.Requests.{Wanted, is_allowed}
use Rattle.registry.specs.Selections.{Choices, IsMet, IsReached, Meets, along, needed}
use Rattle.registry.specs.Preference.{IsPreferredSelection, preferred}
use Rattle.terms.specs.Incompats.{joined, true_at}
use Rattle.terms.specs.Terms.{is_in}
use Rattle.terms.specs.declared.term.Term.TheVariants.{In, NotIn}
use Rattle.derivations.specs.Laws.{DerivationsRefute}
use Rattle.derivations.specs.Derivations.{FollowsOn, IsDerivation, IsDerivedBy, NoSelection, Yields}
use Rattle.derivations.specs.Facts.{need_terms}
use Rattle.derivations.specs.declared.facts.Cause.TheVariants.{Need, Root}
use Rattle.derivations.specs.Lines.{Line}
use Rattle.walk.specs.Answer.{Tells, TellsNewest}
use Rattle.walk.specs.Choosing.{choice_of}
use Rattle.walk.specs.Newest.{IsAhead, IsNewest, IsTurn, is_preferred_to, next_package}
use Rattle.replies.specs.Replies.{Body, follows, no_selection, refused, selected}
use Rattle.wire.specs.Shapes.{check, resolve}
use Rattle.derivations.specs.declared.facts.Cause.TheVariants as cause
use Rattle.by_name.specs.NamedLines.{NamedLine}
use Rattle.answers.specs.Outcomes.{IsRefuted, Proves, TellsNone, TellsSpent, TellsVerdict}
use Rattle.session.specs.Step.{IsTold, State, nowhere}

-- what holds of the needs one by one holds of each that is among them
each-need : (P : Text → Text → Type 0) (needs : List (Text × Text)) → AllByRecursion (λ (d : Text × Text). P d.0 d.1) needs → (name need : Text) → Contains needs (name, need) → P name need
each-need P needs h name need among = by needs h among.0 among.1 among.2
  where
    by : (ds : List (Text × Text)) → AllByRecursion (λ (d : Text × Text). P d.0 d.1) ds → (i : ℕ) → i < length ds → get_or ds i (name, need) ≡ (name, need) → P name need
    by [] a i lt e = absurd (omega arith)
    by (d ∷ rest) a zero lt e = subst (λ (x : Text × Text). P x.0 x.1) e a.0
    by (d ∷ rest) a (suc i) lt e = by rest a.1 i (omega arith) e

-- ---- `a` 1.0.0 is published, and `a` with `^1` is asked for

unfoldable pub a_alone : Packages
a_alone = (record { name = codes "a"; versions = (record { version = codes "1.0.0"; needs = []; yanked = false }) ∷ [] }) ∷ []

-- where a session stands that accepted it
abbrev pub at_a : State
at_a = record { packages = a_alone; revision = 1 }

abbrev pub needs_a : Wanted
needs_a = record { needs = (codes "a", codes "^1") ∷ []; lock = [] }

abbrev pub a_selected : List (Text × Text)
a_selected = (codes "a", codes "1.0.0") ∷ []

-- its one version
abbrev first : Choices
first = choice_of ((1, 0) ∷ [])

each : (P : ℕ → ℕ → Type 0) → P 1 0 → (p k : ℕ) → first p ≡ Some k → P p k
each P h p k e = elim (cases_Bool (nat_eq p 1)) [
  | inl t ↦ subst (λ q. P q k) (sym (eqb-true p 1 t)) (subst (λ j. P 1 j) (same_Some 0 k (rw t at e)) h)
  | inr f ↦ absurd (none-some k (rw f at e))
]

a-number : number_of a_alone (codes "a") ≡ Some 1
unfolding a_alone number_of
a-number = refl

a-needs : needs_of a_alone 1 0 ≡ []
unfolding a_alone publication_at package_at
a-needs = refl

a-allowed : is_allowed a_alone needs_a 1 0 ≡ true
unfolding a_alone is_allowed publication_at package_at
a-allowed = refl

a-preferred : preferred a_alone needs_a 1 ≡ Some 0
unfolding semver_on_literals a_alone preferred package_at meets same_precedence precedence parts_of_text
a-preferred = refl

a-met : IsMet a_alone first (codes "a") (codes "^1")
unfolding semver_on_literals a_alone publication_at package_at meets
a-met = record { target = 1; ordinal = 0; numbered = a-number; selected = refl; meeting = refl }

a-reached : (s : Choices) → IsReached a_alone needs_a.needs s 1
a-reached s = needed 1 (codes "a") (codes "^1") (0, omega arith, refl) a-number

among-none : (pairs : List (Text × Text)) (name need : Text) → pairs ≡ [] → Contains {X = Text × Text} pairs (name, need) → ⊥
among-none [] name need is among = omega (arith, among.1)
among-none (d ∷ pairs) name need is among = absurd (cc)

first-meets : Meets a_alone needs_a first
unfolding a_alone publication_at package_at
first-meets = record {
  selection = each _ refl;
  closed = λ p k name need e. each (λ q j. Contains {X = Text × Text} (needs_of a_alone q j) (name, need) → IsMet a_alone first name need)
      (λ among. absurd (among-none (needs_of a_alone 1 0) name need a-needs among)) p k e;
  allowed = each (λ p k. is_allowed a_alone needs_a p k ≡ true) a-allowed;
  needs = λ name need among. each-need (IsMet a_alone first) needs_a.needs (a-met, tt) name need among;
  reached = each (λ p k. IsReached a_alone needs_a.needs first p) (a-reached first);
}

-- the request names no other package
only-a : (s : Choices) → s 1 ≡ Some 0 → (p : ℕ) → IsReached a_alone needs_a.needs s p → p ≡ 1
only-a s chosen = reached
  where
    same_number : (x y : ℕ) → Some x ≡ Some y → x ≡ y
    same_number x y e = cc

    from_need : (p : ℕ) (name need : Text) → Contains needs_a.needs (name, need) → number_of a_alone name ≡ Some p → p ≡ 1
    from_need p name need among at =
        each-need (λ n _. number_of a_alone n ≡ Some p → p ≡ 1) needs_a.needs ((λ e. same_number p 1 (sym e ∙ a-number)), tt) name need among at

    from_version : (from k to : ℕ) (name need : Text) → from ≡ 1 → s from ≡ Some k → Contains (needs_of a_alone from k) (name, need) → number_of a_alone name ≡ Some to → to ≡ 1
    from_version from k to name need is e among at =
        let zeroth : k ≡ 0 = same_number k 0 (sym e ∙ ap s is ∙ chosen) in
        let none : needs_of a_alone from k ≡ [] = ap (λ p. needs_of a_alone p k) is ∙ ap (λ j. needs_of a_alone 1 j) zeroth ∙ a-needs in
        absurd (among-none (needs_of a_alone from k) name need none among)

    reached : (p : ℕ) → IsReached a_alone needs_a.needs s p → p ≡ 1
    reached _ (needed p name need among at) = from_need p name need among at
    reached _ (along from k to name need before taken among at) = from_version from k to name need (reached from before) taken among at

first-preferred : IsPreferredSelection a_alone needs_a first
first-preferred = record {
  reached = λ p r. subst (λ q. (k : ℕ) × (preferred a_alone needs_a q ≡ Some k) × (first q ≡ Some k)) (sym (only-a (preferred a_alone needs_a) a-preferred p r)) (0, a-preferred, refl);
  others = each (λ p k. IsReached a_alone needs_a.needs (preferred a_alone needs_a) p) (a-reached (preferred a_alone needs_a));
}

a-tells : Tells a_alone first a_selected
unfolding IsDistinct a_alone publication_at package_at
a-tells = record {
  chosen = (1, 0) ∷ [];
  selects = refl;
  once = (tt, tt);
  sorted = λ k d low high. absurd (omega (arith, high));
  told = refl;
}

-- it is the newest one, since the package has no other version
a_version : Publication
a_version = record { version = codes "1.0.0"; needs = []; yanked = false }

a-next : next_package a_alone needs_a.needs [] ≡ Some 1
unfolding a_alone number_of
a-next = refl

not-itself : (name : Text) → is_preferred_to needs_a name a_version a_version ≡ false
unfolding semver_on_literals a_version same_precedence precedence parts_of_text
not-itself name = refl

none-ahead : (j : ℕ) → IsAhead a_alone needs_a 1 j 0 → ⊥
unfolding a_alone a_version publication_at package_at
none-ahead zero ahead =
    let one_is : a_version ≡ ahead.one = same_Some a_version ahead.one ahead.first in
    let other_is : a_version ≡ ahead.other = same_Some a_version ahead.other ahead.second in
    let alike : is_preferred_to needs_a ahead.pack.name a_version a_version ≡ true
    = subst (λ (x : Publication × Publication). is_preferred_to needs_a ahead.pack.name x.0 x.1 ≡ true) (λ i. (sym one_is i, sym other_is i)) ahead.preferred in
    let both : true ≡ false = sym alike ∙ not-itself ahead.pack.name in cc
none-ahead (suc j) ahead = none-some ahead.one ahead.first

a_found : List (ℕ × ℕ)
a_found = (1, 0) ∷ []

a-turns : (i : ℕ) (e : ℕ × ℕ) → slice_get a_found i ≡ Some e → IsTurn a_alone needs_a (take i a_found) e
unfolding a_found
a-turns zero e is = subst (IsTurn a_alone needs_a []) (same_Some (1, 0) e is) (a-next, λ j ahead. absurd (none-ahead j ahead))
a-turns (suc i) e is = absurd (none-some e is)

first-newest : IsNewest a_alone needs_a first
unfolding a_found
first-newest = record { found = a_found; selects = refl; meets = first-meets; best = record { turns = a-turns } }

-- `a` 1.0.0 is told, under every budget and without one, and whether an explanation is asked or not
pub selected-a : (explain : Bool) (budget own : Option ℕ) → IsTold budget at_a (Ok (resolve needs_a explain own)) (selected a_selected)
selected-a explain budget own =
    let newest : TellsNewest a_alone needs_a a_selected = record { selection = first; newest = first-newest; tells = a-tells } in
    inl (inl (a_selected, newest, refl))

-- and it is not told that none meets the request
refuted-none : IsRefuted a_alone needs_a → ⊥
refuted-none refuted = refuted.none first first-meets

told-none : (explain : Bool) (body : Body) → TellsNone a_alone needs_a explain body → ⊥
told-none false body told = refuted-none told.0
told-none true body told = refuted-none told.refuted

-- nor that a budget is spent
told-spent : (budget : Option ℕ) (body : Body) → TellsSpent a_alone needs_a budget body → ⊥
told-spent None body told = told
told-spent (Some budget) body told = told.0 first first-preferred first-meets

-- ---- nothing is published, and `zed` is asked for

abbrev pub needs_zed : Wanted
needs_zed = record { needs = (codes "zed", codes "*") ∷ []; lock = [] }

zed-terms : need_terms [] (codes "zed") (codes "*") ≡ (0, In (0 ∷ [])) ∷ []
unfolding number_of
zed-terms = refl

-- the need cannot be met, and the request must be
end : Line
end = record { conclusion = []; causes = (Need 0, Root); pivot = 0 }

end-follows : (pkg : ℕ) (choice : Option ℕ) →
    true ≡ joined (nat_eq pkg 0) (true_at ((0, In (0 ∷ [])) ∷ []) pkg choice) (true_at ((0, NotIn (0 ∷ [])) ∷ []) pkg choice)
end-follows pkg choice = elim (cases_Bool (nat_eq 0 pkg)) [
  | inl t ↦ subst (λ q. true ≡ joined (nat_eq q 0) (true_at ((0, In (0 ∷ [])) ∷ []) q choice) (true_at ((0, NotIn (0 ∷ [])) ∷ []) q choice)) (eqb-true 0 pkg t) (at_root (is_in (0 ∷ []) choice))
  | inr f ↦ rw f (elsewhere (nat_eq pkg 0))
]
  where
    at_root : (b : Bool) → true ≡ b || not b
    at_root true = refl
    at_root false = refl

    elsewhere : (b : Bool) → true ≡ joined b true true
    elsewhere true = refl
    elsewhere false = refl

zed-derivation : IsDerivation [] needs_zed (end ∷ [])
unfolding end
zed-derivation =
    let follows : FollowsOn ((0, In (0 ∷ [])) ∷ []) ((0, NotIn (0 ∷ [])) ∷ []) end = record { on_pivot = refl; follows = end-follows } in
    let derived : IsDerivedBy (Yields [] needs_zed []) end = record {
      one = (0, In (0 ∷ [])) ∷ [];
      two = (0, NotIn (0 ∷ [])) ∷ [];
      gives_one = ((codes "zed", codes "*"), refl, sym zed-terms);
      gives_two = refl;
      follows = follows;
    } in
    record { derived = (derived, tt); conclusion = []; last = refl; ended = inl refl }

zed-none : DerivationsRefute → NoSelection [] needs_zed
zed-none refute = refute [] needs_zed (end ∷ []) zed-derivation

zed-refuted : DerivationsRefute → IsRefuted [] needs_zed
zed-refuted refute = record { lines = end ∷ []; derivation = zed-derivation; none = zed-none refute }

-- it is told that none meets the request
pub refused-zed : DerivationsRefute → (budget own : Option ℕ) → IsTold budget nowhere (Ok (resolve needs_zed false own)) no_selection
refused-zed refute budget own = inl (inr (zed-refuted refute, refl))

-- under a budget, of the line or of the session, it may be told that this is spent
pub spent-zed : DerivationsRefute → (budget : Option ℕ) → IsTold budget nowhere (Ok (resolve needs_zed false (Some 0))) (refused BudgetSpent)
spent-zed refute budget = inr (λ s is meets. zed-none refute s meets, refl)

pub spent-within : DerivationsRefute → IsTold (Some 0) nowhere (Ok (resolve needs_zed false None)) (refused BudgetSpent)
spent-within refute = inr (λ s is meets. zed-none refute s meets, refl)

-- and without one it may not
unspent-zed : (body : Body) → TellsSpent [] needs_zed None body → ⊥
unspent-zed body told = told

-- ---- the same derivation by names

zed_named : List NamedLine
zed_named = record { conclusion = []; causes = (cause.Need 0, cause.Root); pivot = None } ∷ []

zed-proves : Proves [] needs_zed zed_named
unfolding zed_named end
zed-proves = (end ∷ [], record { same = refl; lawful = (tt, tt) }, zed-derivation)

-- it may be told to follow
follows-zed : IsTold None nowhere (Ok (check needs_zed zed_named)) (follows true)
follows-zed = (true, (λ _. zed-proves, λ _. refl), refl)

-- and may not be told not to
denied-zed : TellsVerdict [] needs_zed zed_named (follows false) → ⊥
denied-zed (holds, exact, told) = let yes_is : holds ≡ true = exact.1 zed-proves in let no_is : follows false ≡ follows holds = told in cc
