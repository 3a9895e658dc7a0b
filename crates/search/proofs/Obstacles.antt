-- What stands in the way of a selection: a line that is used, or whose target is to be decided.
use Rattle.std.proofs.Common.{◌≡◌, ◌≢◌, ◌∙◌, ℕ, List, [], ◌∷◌, refl, sym, ap, subst, Bool, true, false, not, inl, inr, nat_lt, if◌then◌else◌, get_or}
use Rattle.std.proofs.lemmas.Bool.{cases_Bool, cases_eq, eq-eqb, ne_eqb}
use Rattle.std.proofs.lemmas.Option.{same_Some, slice_get_within, get_or_from_slice_get}
use Rattle.std.specs.Prelude.{Option, None, Some, is_some, slice_get}
use Rattle.terms.specs.Sets.{has}
use Rattle.terms.specs.Terms.{is_in}
use Rattle.terms.specs.Incompats.{true_at}
use Rattle.terms.specs.declared.term.Term.TheVariants.{In, NotIn}
use Rattle.search.specs.declared.assignment.Assignment.{Assignment}
use Rattle.search.specs.Assignments.{says, decided, is_decided, IsPartial}
use Rattle.search.specs.Satisfying.{IsNeither}
use Rattle.derivations.specs.Facts.{Terms, dependency, need_terms, need_terms_at}
use Rattle.std.specs.Prelude.{Contains}
use Rattle.versions.specs.Words.{Text}
use Rattle.registry.specs.Laws.{MatchingIsWhatMeets}
use Rattle.registry.specs.Registry.{Packages, Publication, matching, meets_at, needs_of, needs_or_none, number_of, publication_at}
use Rattle.walk.specs.Choosing.{IsUnmet}
use Rattle.walk.specs.Walks.{IsUnmetAt}
use Rattle.derivations.specs.declared.known.CausedIncompatibility.{CausedIncompatibility}
use Rattle.search.specs.Deciding.{IsTurnAt, IsTurnOf}
use Rattle.search.proofs.InOrder.{turn_kept}
use Rattle.facts.specs.Lines.{AtLine}
use Rattle.oracle.specs.declared.task.Task.{Task}
use Rattle.search.specs.Picking.{IsToDecide}
use Rattle.facts.specs.Pushing.{IsForNeed, SaysAt}
use Rattle.search.specs.Searching.{BeginsWithRoot}
use Rattle.search.specs.Answering.{IsBlame}
use Rattle.search.proofs.Saying.{says-take}
use Rattle.facts.proofs.Numbering.{not_root}
use Rattle.search.proofs.Naming.{number_of-numbered}
use Rattle.facts.proofs.Entries.{entry_used}
use Rattle.search.proofs.Decided.{decided_only}
use Rattle.search.proofs.Decisions.{not_neither_alone}

-- ---- the terms of a dependency, one by one

-- on the package
pub on_package : (p q : ℕ) (versions within : List ℕ) (c : Option ℕ) → p ≢ q → true_at (dependency p versions q within) p c ≡ is_in versions c
on_package p q versions [] c apart = by (nat_lt p q)
  where
    by : (b : Bool) → true_at (if b then (p, In versions) ∷ [] else (p, In versions) ∷ []) p c ≡ is_in versions c
    by true = rw (eq-eqb p p refl) refl
    by false = rw (eq-eqb p p refl) refl
on_package p q versions (k ∷ rest) c apart = by (nat_lt p q)
  where
    by : (b : Bool) → true_at (if b then (p, In versions) ∷ (q, NotIn (k ∷ rest)) ∷ [] else (q, NotIn (k ∷ rest)) ∷ (p, In versions) ∷ []) p c ≡ is_in versions c
    by true = rw (eq-eqb p p refl) refl
    by false = rw (ne_eqb q p (λ e. apart (sym e)), eq-eqb p p refl) refl

-- on the target
pub on_target : (p q : ℕ) (versions within : List ℕ) (c : Option ℕ) → p ≢ q → true_at (dependency p versions q within) q c ≡ not (is_in within c)
on_target p q versions [] c apart = by (nat_lt p q)
  where
    none : (c : Option ℕ) → not (is_in [] c) ≡ true
    none None = refl
    none (Some k) = refl

    by : (b : Bool) → true_at (if b then (p, In versions) ∷ [] else (p, In versions) ∷ []) q c ≡ not (is_in [] c)
    by true = rw (ne_eqb p q apart) (sym (none c))
    by false = rw (ne_eqb p q apart) (sym (none c))
on_target p q versions (k ∷ rest) c apart = by (nat_lt p q)
  where
    by : (b : Bool) → true_at (if b then (p, In versions) ∷ (q, NotIn (k ∷ rest)) ∷ [] else (q, NotIn (k ∷ rest)) ∷ (p, In versions) ∷ []) q c ≡ not (is_in (k ∷ rest) c)
    by true = rw (ne_eqb p q apart, eq-eqb q q refl) refl
    by false = rw (eq-eqb q q refl) refl

-- on each other package
pub on_other : (p q r : ℕ) (versions within : List ℕ) (c : Option ℕ) → p ≢ r → q ≢ r → true_at (dependency p versions q within) r c ≡ true
on_other p q r versions [] c off_p off_q = by (nat_lt p q)
  where
    by : (b : Bool) → true_at (if b then (p, In versions) ∷ [] else (p, In versions) ∷ []) r c ≡ true
    by true = rw (ne_eqb p r off_p) refl
    by false = rw (ne_eqb p r off_p) refl
on_other p q r versions (k ∷ rest) c off_p off_q = by (nat_lt p q)
  where
    by : (b : Bool) → true_at (if b then (p, In versions) ∷ (q, NotIn (k ∷ rest)) ∷ [] else (q, NotIn (k ∷ rest)) ∷ (p, In versions) ∷ []) r c ≡ true
    by true = rw (ne_eqb p r off_p, ne_eqb q r off_q) refl
    by false = rw (ne_eqb q r off_q, ne_eqb p r off_p) refl

-- ---- blame

-- a dependency of a decided version that what is decided of the target does not meet
pub blames : (made : List Assignment) (p v q : ℕ) (versions within : List ℕ) → p ≢ q → ((c : Option ℕ) → says made p c ≡ true → c ≡ Some v) → has versions v ≡ true
    → ((k : ℕ) → decided made q ≡ Some k → has within k ≡ false) → IsBlame made (dependency p versions q within) q
blames made p v q versions within apart chosen here unmet = record {
  others = λ r c off said. elim (cases_eq p r) [
    | inl same ↦ ap (λ x. true_at (dependency p versions q within) x c) (sym same)
        ∙ on_package p q versions within c apart ∙ ap (is_in versions) (chosen c (ap (λ x. says made x c) same ∙ said)) ∙ here
    | inr other ↦ on_other p q r versions within c other (λ e. off (sym e))
  ];
  none = on_target p q versions within None apart;
  chosen = λ k e. on_target p q versions within (Some k) apart ∙ ap not (unmet k e);
}

-- a line to blame that can't be used leaves its target to be decided
pub blamed_open : (made : List Assignment) (terms : Terms) (q : ℕ) → IsPartial made → IsBlame made terms q → IsNeither made terms → is_decided made q ≡ false
blamed_open made terms q h blame n = by (decided made q) refl
  where
    by : (o : Option ℕ) → decided made q ≡ o → is_some (decided made q) ≡ false
    by None e = ap is_some e
    by (Some k) e =
        let w = h.possible q in
        let is : w.0 ≡ Some k = decided_only made q k w.0 h.assignments e w.1 in
        absurd (n.not_almost q blame.others w.0 w.1 (ap (true_at terms q) is ∙ blame.chosen k e))

pub blamed_needed : (made : List Assignment) (terms : Terms) (q : ℕ) → IsBlame made terms q → IsNeither made terms → says made q None ≡ false
blamed_needed made terms q blame n = elim (cases_Bool (says made q None)) [
  | inl said ↦ absurd (n.not_almost q blame.others None said blame.none)
  | inr off ↦ off
]

-- the root is chosen, for its one version
pub root_chosen : (made : List Assignment) → BeginsWithRoot made → (c : Option ℕ) → says made 0 c ≡ true → c ≡ Some 0
root_chosen made h c said = h.only c (says-take 2 made 0 c said)

-- a need that what is decided does not meet
need_blames : MatchingIsWhatMeets → (packages : Packages) (made : List Assignment) (name need : Text) (q : ℕ) → BeginsWithRoot made → number_of packages name ≡ Some q → IsUnmet packages (decided made) name need
    → IsBlame made (need_terms packages name need) q
need_blames matched packages made name need q begins numbered unmet =
    subst (λ (o : Option ℕ). IsBlame made (need_terms_at packages o need) q) (sym numbered)
    (blames made 0 0 q (0 ∷ []) (matching packages q need) (not_root packages name q numbered) (root_chosen made begins) refl
    (λ k e. matched packages q need k ∙ unmet q k numbered e))

-- a dependency of a decided version that what is decided does not meet
pub dependency_blames : (packages : Packages) (made : List Assignment) (p v : ℕ) (name need : Text) (q : ℕ) (versions within : List ℕ) → IsPartial made → p ≢ q → decided made p ≡ Some v
    → has versions v ≡ true → number_of packages name ≡ Some q → IsUnmet packages (decided made) name need → ((k : ℕ) → has within k ≡ meets_at packages q k need)
    → IsBlame made (dependency p versions q within) q
dependency_blames packages made p v name need q versions within h apart chosen here numbered unmet meeting =
    blames made p v q versions within apart (λ c said. decided_only made p v c h.assignments chosen said) here (λ k e. meeting k ∙ unmet q k numbered e)

-- ---- what is to be decided

in_single : (k : ℕ) (c : Option ℕ) → c ≡ Some k → is_in (k ∷ []) c ≡ true
in_single k c e = ap (is_in (k ∷ [])) e ∙ rw (eq-eqb k k refl) refl

-- a need whose name is not numbered is a line that can be used
pub unnumbered_used : (packages : Packages) (made : List Assignment) (name need : Text) → BeginsWithRoot made → number_of packages name ≡ None → IsNeither made (need_terms packages name need) → ⊥
unnumbered_used packages made name need begins none n =
    not_neither_alone made 0 (0 ∷ []) (λ c said. in_single 0 c (root_chosen made begins c said)) (subst (λ (o : Option ℕ). IsNeither made (need_terms_at packages o need)) none n)

-- a line to blame that can't be used leaves its target to be decided
pub blamed_decides : (task : Task) (made : List Assignment) (terms : Terms) (name : Text) (q : ℕ) → IsPartial made → number_of task.registry.now.packages name ≡ Some q → IsBlame made terms q → IsNeither made terms → IsToDecide task made q
blamed_decides task made terms name q h numbered blame n = record {
  numbered = number_of-numbered task.registry.now.packages name q numbered;
  undecided = blamed_open made terms q h blame n;
  needed = blamed_needed made terms q blame n;
}

-- ---- an obstacle at its place

-- the entry of a version's dependencies that is not met
module _ (packages : Packages) (made : List Assignment) (p v i : ℕ) (publication : Publication) (r : Text × Text) (at : publication_at packages p v ≡ Some publication)
    (unmet : IsUnmetAt packages (decided made) (needs_of packages p v) i) (read : r ≡ get_or publication.needs i r) where
  asked : slice_get publication.needs i ≡ Some (unmet.name, unmet.need)
  asked = subst (λ (ns : List (Text × Text)). slice_get ns i ≡ Some (unmet.name, unmet.need)) (ap needs_or_none at) unmet.at

  pub entry_contained : Contains (needs_of packages p v) (get_or publication.needs i r)
  entry_contained =
      subst (λ (x : Text × Text). Contains (needs_of packages p v) x) read
      (entry_used packages p v publication i r at (slice_get_within publication.needs i (unmet.name, unmet.need) asked) read)

  pub entry_at : slice_get (needs_of packages p v) i ≡ Some (get_or publication.needs i r)
  entry_at = unmet.at ∙ ap Some (sym (get_or_from_slice_get publication.needs i (unmet.name, unmet.need) r asked))

  pub entry_unmet : IsUnmet packages (decided made) (get_or publication.needs i r).0 (get_or publication.needs i r).1
  entry_unmet =
      subst (λ (x : Text × Text). IsUnmet packages (decided made) x.0 x.1) (sym (get_or_from_slice_get publication.needs i (unmet.name, unmet.need) r asked)) unmet.unmet

-- a dependency that is not met and can't be used
pub dependency_decides : (task : Task) (made new : List Assignment) (known : List CausedIncompatibility) (at p v q : ℕ) (d : Text × Text) (versions within : List ℕ) → IsPartial made → p ≢ q → decided made p ≡ Some v
    → has versions v ≡ true → number_of task.registry.now.packages d.0 ≡ Some q → IsUnmet task.registry.now.packages (decided made) d.0 d.1
    → ((k : ℕ) → has within k ≡ meets_at task.registry.now.packages q k d.1)
    → SaysAt known (dependency p versions q within) at → new ≡ made → AtLine known at (λ line. IsNeither made line.conclusion) → IsToDecide task new q
dependency_decides task made new known at p v q d versions within h apart chosen here numbered unmet meeting place same unused =
    let line_is : unused.0 ≡ place.0 = same_Some unused.0 place.0 (sym unused.1 ∙ place.1) in
    let n : IsNeither made (dependency p versions q within) = subst (λ (t : Terms). IsNeither made t) (ap (λ (l : CausedIncompatibility). l.conclusion) line_is ∙ place.2) unused.2 in
    let blame = dependency_blames task.registry.now.packages made p v d.0 d.1 q versions within h apart chosen here numbered unmet meeting in
    subst (λ (m : List Assignment). IsToDecide task m q) (sym same) (blamed_decides task made (dependency p versions q within) d.0 q h numbered blame n)

-- a need that is not met and can't be used
module _ (task : Task) (made : List Assignment) (known : List CausedIncompatibility) (at i : ℕ) (needs : List (Text × Text)) (r : Text × Text) (begins : BeginsWithRoot made)
    (place : IsForNeed task.registry.now.packages needs known i at) (unmet : IsUnmetAt task.registry.now.packages (decided made) needs i)
    (unused : AtLine known at (λ line. IsNeither made line.conclusion)) (read : r ≡ get_or needs i r) where
  need_is : place.need ≡ r
  need_is = sym (get_or_from_slice_get needs i place.need r place.asked) ∙ sym read

  need_neither : IsNeither made (need_terms task.registry.now.packages r.0 r.1)
  need_neither =
      let line_is : unused.0 ≡ place.line.0 = same_Some unused.0 place.line.0 (sym unused.1 ∙ place.line.1) in
      let n : IsNeither made (need_terms task.registry.now.packages place.need.0 place.need.1) = subst (λ (t : Terms). IsNeither made t) (ap (λ (l : CausedIncompatibility). l.conclusion) line_is ∙ place.line.2) unused.2 in
      subst (λ (d : Text × Text). IsNeither made (need_terms task.registry.now.packages d.0 d.1)) need_is n

  need_unmet : IsUnmet task.registry.now.packages (decided made) r.0 r.1
  need_unmet =
      subst (λ (d : Text × Text). IsUnmet task.registry.now.packages (decided made) d.0 d.1) (same_Some (unmet.name, unmet.need) place.need (sym unmet.at ∙ place.asked) ∙ need_is) unmet.unmet

  pub need_numbered : number_of task.registry.now.packages r.0 ≡ None → ⊥
  need_numbered none = unnumbered_used task.registry.now.packages made r.0 r.1 begins none need_neither

  pub need_decides : MatchingIsWhatMeets → (new : List Assignment) (q : ℕ) → IsPartial made → number_of task.registry.now.packages r.0 ≡ Some q → new ≡ made → IsToDecide task new q
  need_decides matched new q h numbered same =
      let blame = need_blames matched task.registry.now.packages made r.0 r.1 q begins numbered need_unmet in
      subst (λ (m : List Assignment). IsToDecide task m q) (sym same) (blamed_decides task made (need_terms task.registry.now.packages r.0 r.1) r.0 q h numbered blame need_neither)

  -- and it is its target's turn, where it is the turn of what it names
  pub need_turn : IsTurnAt task made needs i → (new : List Assignment) (q : ℕ) → number_of task.registry.now.packages r.0 ≡ Some q → new ≡ made → is_decided new q ≡ false → IsTurnOf task new q
  need_turn turn new q numbered same undecided = turn_kept task made new needs i q r turn (place.asked ∙ ap Some need_is) numbered same undecided
