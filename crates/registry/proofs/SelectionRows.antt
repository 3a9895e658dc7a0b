-- Worked rows of requests, computed from the definitions.
use Rattle.std.proofs.Common.{◌≡◌, ◌<◌, ◌∙◌, ℕ, zero, suc, refl, sym, ap, subst, inl, inr, true, false, true≢false, codes, List, [], ◌∷◌, length, get_or, nat_eq, cond, arith}
use Rattle.std.specs.Prelude.{Some, None, Ok, Err, Contains}
use Rattle.std.specs.List.{AllByRecursion}
use Rattle.std.specs.Map.{lookup}
use Rattle.std.proofs.lemmas.Bool.{cases_Bool, eqb-true}
use Rattle.std.proofs.lemmas.Option.{same_Some}
use Rattle.versions.specs.OnLiterals.{semver_on_literals}
use Rattle.versions.specs.Words.{Text, meets, parts_of_text, precedence, same_precedence}
use Rattle.versions.specs.declared.refusal.Refusal.TheVariants as refusal
use Rattle.registry.specs.Registry.{Packages, is_published, meets_at, needs_of, number_of, package_at, publication_at}
use Rattle.registry.specs.Step.{Publish, Yank, after}
use Rattle.registry.specs.Requests.{Wanted, is_allowed, request_in}
use Rattle.registry.specs.Selections.{Choices, IsMet, IsReached, Meets, along, needed}
use Rattle.registry.specs.Preference.{IsPreferredSelection, preferred}
use Rattle.registry.proofs.NeedLemmas.{each-need}
use Rattle.registry.proofs.SelectionLaws.{holds-reached}

-- ---- which requests there are

-- a need that names a package twice is refused
repeated-need : request_in ((codes "a", codes "^1") ∷ (codes "a", codes "*") ∷ []) [] ≡ Err refusal.RepeatedDependency
repeated-need = refl

-- and so is a lock line
repeated-line : request_in [] ((codes "a", codes "1.0.0") ∷ (codes "b", codes "1.0.0") ∷ (codes "a", codes "1.0.0") ∷ []) ≡ Err refusal.RepeatedDependency
repeated-line = refl

-- a need and a lock line may name one package
needed-locked : request_in ((codes "a", codes "^1") ∷ []) ((codes "a", codes "1.0.0") ∷ []) ≡ Ok (record { needs = (codes "a", codes "^1") ∷ []; lock = (codes "a", codes "1.0.0") ∷ [] })
needed-locked = refl

-- ---- the version that is preferred

unfoldable two : Packages
two = after (after [] (Publish (codes "a") (codes "1.0.0") [])) (Publish (codes "a") (codes "1.1.0") [])

-- the highest
newest : preferred two (record { needs = (codes "a", codes "^1") ∷ []; lock = [] }) 1 ≡ Some 1
unfolding semver_on_literals two after preferred package_at meets same_precedence precedence parts_of_text
newest = refl

-- the one that the lock names, whatever its build metadata
locked : preferred two (record { needs = (codes "a", codes "^1") ∷ []; lock = (codes "a", codes "1.0.0+x") ∷ [] }) 1 ≡ Some 0
unfolding semver_on_literals two after preferred package_at meets same_precedence precedence parts_of_text
locked = refl

-- the lock of another package says nothing
locked-other : preferred two (record { needs = (codes "a", codes "^1") ∷ []; lock = (codes "b", codes "1.0.0") ∷ [] }) 1 ≡ Some 1
unfolding semver_on_literals two after preferred package_at meets same_precedence precedence parts_of_text
locked-other = refl

-- the need goes before the lock
locked-unmet : preferred two (record { needs = (codes "a", codes "^1.1") ∷ []; lock = (codes "a", codes "1.0.0") ∷ [] }) 1 ≡ Some 1
unfolding semver_on_literals two after preferred package_at meets same_precedence precedence parts_of_text
locked-unmet = refl

-- a package that no need names has all its allowed versions for candidates
not-needed : preferred two (record { needs = (codes "b", codes "^2") ∷ []; lock = [] }) 1 ≡ Some 1
unfolding semver_on_literals two after preferred package_at meets same_precedence precedence parts_of_text
not-needed = refl

-- no version meets the need
unmet : preferred two (record { needs = (codes "a", codes "^2") ∷ []; lock = (codes "a", codes "1.0.0") ∷ [] }) 1 ≡ None
unfolding semver_on_literals two after preferred package_at meets same_precedence precedence parts_of_text
unmet = refl

-- the highest is not the last that was published
highest-first : preferred (after two (Publish (codes "a") (codes "1.0.9") [])) (record { needs = (codes "a", codes "^1") ∷ []; lock = [] }) 1 ≡ Some 1
unfolding semver_on_literals two after preferred package_at meets same_precedence precedence parts_of_text
highest-first = refl

unfoldable alpha : Packages
alpha = after [] (Publish (codes "a") (codes "1.0.0-alpha") [])

-- a pre-release is for a need that names one
pre-release-closed : preferred alpha (record { needs = (codes "a", codes "^1.0.0") ∷ []; lock = [] }) 1 ≡ None
unfolding semver_on_literals alpha after preferred package_at meets same_precedence precedence parts_of_text
pre-release-closed = refl

pre-release-opened : preferred alpha (record { needs = (codes "a", codes "^1.0.0-alpha") ∷ []; lock = [] }) 1 ≡ Some 0
unfolding semver_on_literals alpha after preferred package_at meets same_precedence precedence parts_of_text
pre-release-opened = refl

-- ---- a yanked version is for a lock that names it

unfoldable held : Packages
held = after two (Yank (codes "a") (codes "1.1.0"))

yanked : is_allowed held (record { needs = []; lock = [] }) 1 1 ≡ false
unfolding semver_on_literals held two after is_allowed publication_at package_at same_precedence precedence parts_of_text
yanked = refl

yanked-locked : is_allowed held (record { needs = []; lock = (codes "a", codes "1.1.0+x") ∷ [] }) 1 1 ≡ true
unfolding semver_on_literals held two after is_allowed publication_at package_at same_precedence precedence parts_of_text
yanked-locked = refl

-- the lock of another version, or of another package, does not serve
yanked-other : is_allowed held (record { needs = []; lock = (codes "a", codes "1.0.0") ∷ (codes "b", codes "1.1.0") ∷ [] }) 1 1 ≡ false
unfolding semver_on_literals held two after is_allowed publication_at package_at same_precedence precedence parts_of_text
yanked-other = refl

-- no lock allows what is not published
unpublished : is_allowed held (record { needs = []; lock = (codes "a", codes "1.2.0") ∷ [] }) 1 2 ≡ false
unfolding semver_on_literals held two after is_allowed publication_at package_at same_precedence precedence parts_of_text
unpublished = refl

held-preferred : preferred held (record { needs = (codes "a", codes "^1") ∷ []; lock = [] }) 1 ≡ Some 0
unfolding semver_on_literals held two after preferred package_at meets same_precedence precedence parts_of_text
held-preferred = refl

held-locked : preferred held (record { needs = (codes "a", codes "^1") ∷ []; lock = (codes "a", codes "1.1.0") ∷ [] }) 1 ≡ Some 1
unfolding semver_on_literals held two after preferred package_at meets same_precedence precedence parts_of_text
held-locked = refl

-- ---- selections that are written out

-- these ordinals of these packages, and no others
abbrev only : List (ℕ × ℕ) → Choices
only chosen p = lookup (nat_eq p) chosen

-- what holds of each that is written out holds of each choice
each-choice : (P : ℕ → ℕ → Type 0) (chosen : List (ℕ × ℕ)) → AllByRecursion (λ (c : ℕ × ℕ). P c.0 c.1) chosen → (p k : ℕ) → only chosen p ≡ Some k → P p k
each-choice P [] h p k e = absurd (cc e)
each-choice P (c ∷ rest) h p k e = elim (cases_Bool (nat_eq p c.0)) [
  | inl t ↦
      let here : Some c.1 ≡ Some k = sym (ap (λ b. cond b (Some c.1) (only rest p)) t) ∙ e in
      subst (λ q. P q k) (sym (eqb-true p c.0 t)) (subst (λ j. P c.0 j) (same_Some c.1 k here) h.0)
  | inr f ↦ each-choice P rest h.1 p k (sym (ap (λ b. cond b (Some c.1) (only rest p)) f) ∙ e)
]

module _ (packages : Packages) (wanted : Wanted) (chosen : List (ℕ × ℕ)) where
  -- what is to be seen of a choice
  record IsRight (p k : ℕ) : Type 0 where
    published : is_published packages p k ≡ true
    allowed : is_allowed packages wanted p k ≡ true
    met : AllByRecursion (λ (d : Text × Text). IsMet packages (only chosen) d.0 d.1) (needs_of packages p k)
    reached : IsReached packages wanted.needs (only chosen) p

  only-meets : AllByRecursion (λ (c : ℕ × ℕ). IsRight c.0 c.1) chosen → AllByRecursion (λ (d : Text × Text). IsMet packages (only chosen) d.0 d.1) wanted.needs
      → Meets packages wanted (only chosen)
  only-meets right needs = record {
    selection = λ p k e. (each-choice IsRight chosen right p k e).published;
    closed = λ p k name need e among. each-need (IsMet packages (only chosen)) (needs_of packages p k) (each-choice IsRight chosen right p k e).met name need among;
    allowed = λ p k e. (each-choice IsRight chosen right p k e).allowed;
    needs = λ name need among. each-need (IsMet packages (only chosen)) wanted.needs needs name need among;
    reached = λ p k e. (each-choice IsRight chosen right p k e).reached;
  }

-- ---- two packages that need each other are both selected

unfoldable cycle : Packages
cycle =
    after (after [] (Publish (codes "a") (codes "1.0.0") ((codes "b", codes "^1.0.0") ∷ [])))
    (Publish (codes "b") (codes "1.0.0") ((codes "a", codes "^1.0.0") ∷ []))

abbrev needs_a : Wanted
needs_a = record { needs = (codes "a", codes "^1.0.0") ∷ []; lock = [] }

abbrev both : List (ℕ × ℕ)
both = (1, 0) ∷ (2, 0) ∷ []

a-reached : (s : Choices) → IsReached cycle needs_a.needs s 1
unfolding cycle after number_of
a-reached s = needed 1 (codes "a") (codes "^1.0.0") (0, omega arith, refl) refl

b-reached : (s : Choices) → s 1 ≡ Some 0 → IsReached cycle needs_a.needs s 2
unfolding cycle after number_of publication_at package_at
b-reached s e = along 1 0 2 (codes "b") (codes "^1.0.0") (a-reached s) e (0, omega arith, refl) refl

both-meet : Meets cycle needs_a (only both)
unfolding semver_on_literals cycle after is_allowed number_of publication_at package_at meets
both-meet =
    let a : IsMet cycle (only both) (codes "a") (codes "^1.0.0") = record { target = 1; ordinal = 0; numbered = refl; selected = refl; meeting = refl } in
    let b : IsMet cycle (only both) (codes "b") (codes "^1.0.0") = record { target = 2; ordinal = 0; numbered = refl; selected = refl; meeting = refl } in
    let one : IsRight cycle needs_a both 1 0 = record { published = refl; allowed = refl; met = (b, tt); reached = a-reached (only both) } in
    let two : IsRight cycle needs_a both 2 0 = record { published = refl; allowed = refl; met = (a, tt); reached = b-reached (only both) refl } in
    only-meets cycle needs_a both (one, (two, tt)) (a, tt)

-- one of them alone is not closed
alone-fails : Meets cycle needs_a (only ((1, 0) ∷ [])) → ⊥
unfolding cycle after number_of publication_at package_at
alone-fails m =
    let b = m.closed 1 0 (codes "b") (codes "^1.0.0") refl (0, omega arith, refl) in
    let two : 2 ≡ b.target = same_Some 2 b.target b.numbered in
    let chosen : None ≡ Some b.ordinal = ap (only ((1, 0) ∷ [])) two ∙ b.selected in
    absurd (cc chosen)

-- ---- the preferred selection

module _ (packages : Packages) (wanted : Wanted) (chosen : List (ℕ × ℕ)) where
  -- the package of this name is among them
  record IsListed (name : Text) : Type 0 where
    place : ℕ
    ordinal : ℕ
    numbered : number_of packages name ≡ Some place
    selected : only chosen place ≡ Some ordinal

  -- the package is reached, this is its preferred version, and what that depends on is among them
  record IsBest (p k : ℕ) : Type 0 where
    reached : IsReached packages wanted.needs (preferred packages wanted) p
    best : preferred packages wanted p ≡ Some k
    listed : AllByRecursion (λ (d : Text × Text). IsListed d.0) (needs_of packages p k)

  only-preferred : AllByRecursion (λ (c : ℕ × ℕ). IsBest c.0 c.1) chosen → AllByRecursion (λ (d : Text × Text). IsListed d.0) wanted.needs
      → IsPreferredSelection packages wanted (only chosen)
  only-preferred right listed = record {
    reached = λ p r. let k = covers p r in (k.0, (each-choice IsBest chosen right p k.0 k.1).best, k.1);
    others = λ p k e. (each-choice IsBest chosen right p k e).reached;
  }
    where
      by_name : (name : Text) (p : ℕ) → IsListed name → number_of packages name ≡ Some p → (k : ℕ) × (only chosen p ≡ Some k)
      by_name name p l at = (l.ordinal, subst (λ q. only chosen q ≡ Some l.ordinal) (same_Some l.place p (sym l.numbered ∙ at)) l.selected)

      next : (from k to : ℕ) (name need : Text) → (j : ℕ) × (only chosen from ≡ Some j) → preferred packages wanted from ≡ Some k
          → Contains (needs_of packages from k) (name, need) → number_of packages name ≡ Some to → (j : ℕ) × (only chosen to ≡ Some j)
      next from k to name need h e among at =
          let own = each-choice IsBest chosen right from h.0 h.1 in
          let same : k ≡ h.0 = same_Some k h.0 (sym e ∙ own.best) in
          let there : Contains {X = Text × Text} (needs_of packages from h.0) (name, need) = subst (λ j. Contains {X = Text × Text} (needs_of packages from j) (name, need)) same among in
          by_name name to (each-need (λ n _. IsListed n) (needs_of packages from h.0) own.listed name need there) at

      covers : (p : ℕ) → IsReached packages wanted.needs (preferred packages wanted) p → (k : ℕ) × (only chosen p ≡ Some k)
      covers =
          holds-reached packages wanted.needs (preferred packages wanted) (λ p. (k : ℕ) × (only chosen p ≡ Some k))
          (λ p name need among at. by_name name p (each-need (λ n _. IsListed n) wanted.needs listed name need among) at) next

-- of the two that need each other it is the selection that meets the request
a-preferred : preferred cycle needs_a 1 ≡ Some 0
unfolding semver_on_literals cycle after preferred package_at meets same_precedence precedence parts_of_text
a-preferred = refl

b-preferred : preferred cycle needs_a 2 ≡ Some 0
unfolding semver_on_literals cycle after preferred package_at meets same_precedence precedence parts_of_text
b-preferred = refl

both-preferred : IsPreferredSelection cycle needs_a (only both)
unfolding cycle after number_of publication_at package_at
both-preferred =
    let a : IsListed cycle needs_a both (codes "a") = record { place = 1; ordinal = 0; numbered = refl; selected = refl } in
    let b : IsListed cycle needs_a both (codes "b") = record { place = 2; ordinal = 0; numbered = refl; selected = refl } in
    let one : IsBest cycle needs_a both 1 0 = record { reached = a-reached (preferred cycle needs_a); best = a-preferred; listed = (b, tt) } in
    let two : IsBest cycle needs_a both 2 0 = record { reached = b-reached (preferred cycle needs_a) a-preferred; best = b-preferred; listed = (a, tt) } in
    only-preferred cycle needs_a both (one, (two, tt)) (a, tt)

-- ---- a lock keeps the older of two versions

abbrev kept : Wanted
kept = record { needs = (codes "a", codes "^1") ∷ []; lock = (codes "a", codes "1.0.0") ∷ [] }

kept-meets : Meets two kept (only ((1, 0) ∷ []))
unfolding semver_on_literals two after is_allowed number_of publication_at package_at meets
kept-meets =
    let a : IsMet two (only ((1, 0) ∷ [])) (codes "a") (codes "^1") = record { target = 1; ordinal = 0; numbered = refl; selected = refl; meeting = refl } in
    let one : IsRight two kept ((1, 0) ∷ []) 1 0 = record { published = refl; allowed = refl; met = tt; reached = needed 1 (codes "a") (codes "^1") (0, omega arith, refl) refl } in
    only-meets two kept ((1, 0) ∷ []) (one, tt) (a, tt)

kept-preferred : IsPreferredSelection two kept (only ((1, 0) ∷ []))
unfolding semver_on_literals two after number_of publication_at preferred package_at meets same_precedence precedence parts_of_text
kept-preferred =
    let a : IsListed two kept ((1, 0) ∷ []) (codes "a") = record { place = 1; ordinal = 0; numbered = refl; selected = refl } in
    let one : IsBest two kept ((1, 0) ∷ []) 1 0 = record { reached = needed 1 (codes "a") (codes "^1") (0, omega arith, refl) refl; best = refl; listed = tt } in
    only-preferred two kept ((1, 0) ∷ []) (one, tt) (a, tt)

-- ---- where the only version is yanked, no selection meets a request without a lock

unfoldable withdrawn : Packages
withdrawn = after (after [] (Publish (codes "a") (codes "1.0.0") [])) (Yank (codes "a") (codes "1.0.0"))

abbrev unlocked : Wanted
unlocked = record { needs = (codes "a", codes "^1") ∷ []; lock = [] }

denied : (k : ℕ) → is_allowed withdrawn unlocked 1 k ≡ false
unfolding semver_on_literals withdrawn after is_allowed publication_at package_at same_precedence precedence parts_of_text
denied zero = refl
denied (suc k) = refl

withdrawn-number : number_of withdrawn (codes "a") ≡ Some 1
unfolding semver_on_literals withdrawn after number_of same_precedence precedence parts_of_text
withdrawn-number = refl

none-meets : (s : Choices) → Meets withdrawn unlocked s → ⊥
none-meets s m =
    let a = m.needs (codes "a") (codes "^1") (0, omega arith, refl) in
    let one : a.target ≡ 1 = same_Some a.target 1 (sym a.numbered ∙ withdrawn-number) in
    let allowed : is_allowed withdrawn unlocked 1 a.ordinal ≡ true = sym (ap (λ p. is_allowed withdrawn unlocked p a.ordinal) one) ∙ m.allowed a.target a.ordinal a.selected in
    true≢false (sym allowed ∙ denied a.ordinal)

withdrawn-preferred : preferred withdrawn unlocked 1 ≡ None
unfolding semver_on_literals withdrawn after preferred package_at meets same_precedence precedence parts_of_text
withdrawn-preferred = refl

-- under a lock it does
locked-meets : Meets withdrawn kept (only ((1, 0) ∷ []))
unfolding semver_on_literals withdrawn after is_allowed number_of publication_at package_at meets same_precedence precedence parts_of_text
locked-meets =
    let a : IsMet withdrawn (only ((1, 0) ∷ [])) (codes "a") (codes "^1") = record { target = 1; ordinal = 0; numbered = refl; selected = refl; meeting = refl } in
    let one : IsRight withdrawn kept ((1, 0) ∷ []) 1 0 = record { published = refl; allowed = refl; met = tt; reached = needed 1 (codes "a") (codes "^1") (0, omega arith, refl) refl } in
    only-meets withdrawn kept ((1, 0) ∷ []) (one, tt) (a, tt)

-- ---- foo 2.0.0 needs bar, whose only version needs foo 1

unfoldable branch : Packages
branch =
    after (after (after [] (Publish (codes "foo") (codes "2.0.0") ((codes "bar", codes "^1.0.0") ∷ [])))
    (Publish (codes "bar") (codes "1.0.0") ((codes "foo", codes "^1.0.0") ∷ []))) (Publish (codes "foo") (codes "1.0.0") [])

abbrev needs_foo : Wanted
needs_foo = record { needs = (codes "foo", codes ">=1.0.0") ∷ []; lock = [] }

foo-number : number_of branch (codes "foo") ≡ Some 1
unfolding branch after number_of
foo-number = refl

foo-reached : (s : Choices) → IsReached branch needs_foo.needs s 1
foo-reached s = needed 1 (codes "foo") (codes ">=1.0.0") (0, omega arith, refl) foo-number

-- foo 1.0.0 alone meets the request
old-meets : Meets branch needs_foo (only ((1, 1) ∷ []))
unfolding semver_on_literals branch after is_allowed number_of publication_at package_at meets
old-meets =
    let foo : IsMet branch (only ((1, 1) ∷ [])) (codes "foo") (codes ">=1.0.0") = record { target = 1; ordinal = 1; numbered = refl; selected = refl; meeting = refl } in
    let one : IsRight branch needs_foo ((1, 1) ∷ []) 1 1 = record { published = refl; allowed = refl; met = tt; reached = foo-reached (only ((1, 1) ∷ [])) } in
    only-meets branch needs_foo ((1, 1) ∷ []) (one, tt) (foo, tt)

-- foo 2.0.0 with bar is preferred
abbrev newer : List (ℕ × ℕ)
newer = (1, 0) ∷ (2, 0) ∷ []

foo-preferred : preferred branch needs_foo 1 ≡ Some 0
unfolding semver_on_literals branch after preferred package_at meets same_precedence precedence parts_of_text
foo-preferred = refl

bar-preferred : preferred branch needs_foo 2 ≡ Some 0
unfolding semver_on_literals branch after preferred package_at meets same_precedence precedence parts_of_text
bar-preferred = refl

bar-reached : (s : Choices) → s 1 ≡ Some 0 → IsReached branch needs_foo.needs s 2
unfolding branch after number_of publication_at package_at
bar-reached s e = along 1 0 2 (codes "bar") (codes "^1.0.0") (foo-reached s) e (0, omega arith, refl) refl

newer-preferred : IsPreferredSelection branch needs_foo (only newer)
unfolding branch after number_of publication_at package_at
newer-preferred =
    let foo : IsListed branch needs_foo newer (codes "foo") = record { place = 1; ordinal = 0; numbered = refl; selected = refl } in
    let bar : IsListed branch needs_foo newer (codes "bar") = record { place = 2; ordinal = 0; numbered = refl; selected = refl } in
    let one : IsBest branch needs_foo newer 1 0 = record { reached = foo-reached (preferred branch needs_foo); best = foo-preferred; listed = (bar, tt) } in
    let two : IsBest branch needs_foo newer 2 0 = record { reached = bar-reached (preferred branch needs_foo) foo-preferred; best = bar-preferred; listed = (foo, tt) } in
    only-preferred branch needs_foo newer (one, (two, tt)) (foo, tt)

-- and does not meet the request, since bar needs foo 1
newer-unmet : meets_at branch 1 0 (codes "^1.0.0") ≡ false
unfolding semver_on_literals branch after publication_at package_at meets
newer-unmet = refl

newer-fails : Meets branch needs_foo (only newer) → ⊥
unfolding branch after publication_at package_at
newer-fails m =
    let foo = m.closed 2 0 (codes "foo") (codes "^1.0.0") refl (0, omega arith, refl) in
    let one : foo.target ≡ 1 = same_Some foo.target 1 (sym foo.numbered ∙ foo-number) in
    let zeroth : foo.ordinal ≡ 0 = same_Some foo.ordinal 0 (sym foo.selected ∙ ap (only newer) one) in
    let meeting : meets_at branch 1 0 (codes "^1.0.0") ≡ true =
    sym (ap (λ p. meets_at branch p foo.ordinal (codes "^1.0.0")) one ∙ ap (λ k. meets_at branch 1 k (codes "^1.0.0")) zeroth) ∙ foo.meeting in
    true≢false (sym meeting ∙ newer-unmet)

-- foo 1.0.0 with bar is closed, but nothing that is selected needs bar
abbrev abandoned : List (ℕ × ℕ)
abandoned = (1, 1) ∷ (2, 0) ∷ []

no-need : (name need : Text) → Contains {X = Text × Text} [] (name, need) → ⊥
no-need name need among = omega (arith, among.1)

the-need : (name need name' need' : Text) → Contains {X = Text × Text} ((name', need') ∷ []) (name, need) → name' ≡ name
the-need name need name' need' among = by among.0 among.1 among.2
  where
    needs : List (Text × Text)
    needs = (name', need') ∷ []

    by : (i : ℕ) → i < length needs → get_or needs i (name, need) ≡ (name, need) → name' ≡ name
    by zero lt e = ap (λ (d : Text × Text). d.0) e
    by (suc i) lt e = absurd (omega (arith, lt))

old-needs : needs_of branch 1 1 ≡ []
unfolding branch after publication_at package_at
old-needs = refl

abandoned-fails : Meets branch needs_foo (only abandoned) → ⊥
abandoned-fails m =
    let two : 2 ≡ 1 = holds-reached branch needs_foo.needs (only abandoned) (λ p. p ≡ 1) first next 2 (m.reached 2 0 refl) in
    absurd (omega (arith, two))
  where
    first : (p : ℕ) (name need : Text) → Contains needs_foo.needs (name, need) → number_of branch name ≡ Some p → p ≡ 1
    first p name need among at =
        same_Some p 1 (sym at ∙ sym (ap (number_of branch) (the-need name need (codes "foo") (codes ">=1.0.0") among)) ∙ foo-number)

    next : (from k to : ℕ) (name need : Text) → from ≡ 1 → only abandoned from ≡ Some k → Contains (needs_of branch from k) (name, need) → number_of branch name ≡ Some to → to ≡ 1
    next from k to name need one e among at =
        let k_one : k ≡ 1 = same_Some k 1 (sym e ∙ ap (only abandoned) one) in
        let none : needs_of branch from k ≡ [] = ap (λ p. needs_of branch p k) one ∙ ap (λ j. needs_of branch 1 j) k_one ∙ old-needs in
        absurd (no-need name need (subst (λ (l : List (Text × Text)). Contains {X = Text × Text} l (name, need)) none among))
